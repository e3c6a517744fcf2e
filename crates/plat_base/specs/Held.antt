-- the translations that a processor holds, and the space that it is active in, by its own items
use Rattle.std.specs.Prelude.{ℕ, ◌==◌, nat_lt, ◌&&◌, if◌then◌else◌, Bool, true, false, List, Option, Some, None}
use Rattle.std.specs.List.{fold, list_any}
use Rattle.std.specs.Option.{option_map_or}
use Rattle.plat_base.specs.Items.{is_change_that, switch_of}
use Rattle.plat_base.specs.Machine.{Machine}
use Rattle.plat_base.specs.Pages.{page_of, program_of}
use Rattle.plat_base.specs.Alike.{same_removed}
use Rattle.plat_base.specs.declared.items.Right.{Right}
use Rattle.plat_base.specs.declared.items.Right.TheVariants as right
use Rattle.plat_base.specs.declared.items.Kind.{Kind}
use Rattle.plat_base.specs.declared.items.Kind.TheVariants as kind
use Rattle.plat_base.specs.declared.items.Message.{Message}
use Rattle.plat_base.specs.declared.items.Message.TheVariants as message
use Rattle.plat_base.specs.declared.items.Removed.{Removed}
use Rattle.plat_base.specs.declared.items.Removed.TheVariants as removed
use Rattle.plat_base.specs.declared.items.Grant.{Grant}
use Rattle.plat_base.specs.declared.items.Translation.{Translation}
use Rattle.plat_base.specs.declared.items.Item.{Item}
use Rattle.plat_base.specs.declared.items.Item.TheVariants as item

-- the same translation with the right to read alone
abbrev pub to_read : Grant → Grant
to_read g = record { entry = g.entry; frame = g.frame; right = right.Read }

-- lowered by the processor's own change: its mark stays
abbrev pub lowered : Option Translation → Option Translation
lowered None = None
lowered (Some t) = Some (record { grant = to_read t.grant; seq = t.seq; restricted = t.restricted })

-- lowered by a restrict: it is marked
abbrev pub restricted : Option Translation → Option Translation
restricted None = None
restricted (Some t) = Some (record { grant = to_read t.grant; seq = t.seq; restricted = true })

-- what is left of a translation of a page that the processor itself changed
abbrev pub kept_of : Removed → Option Translation → Option Translation
kept_of removed.Nothing t = t
kept_of removed.Writes t = lowered t
kept_of removed.All t = None

-- what is left of a translation once a message was applied
abbrev pub told : Message → Option Translation → Option Translation
told message.Invalidate t = None
told message.Restrict t = restricted t

abbrev pub granted_to : (entry seq : ℕ) → Option Grant → Option Translation → Option Translation
granted_to entry seq None t = t
granted_to entry seq (Some g) t = if g.entry == entry then Some (record { grant = g; seq = seq; restricted = false }) else t

abbrev pub held_after : Machine → (q entry : ℕ) → Option Translation → Item → Option Translation
held_after m q entry t (item.Access a) = t
held_after m q entry t (item.Change c) =
    if c.actor == q then granted_to entry c.seq c.granted (if page_of m entry == c.page then kept_of c.removed t else t) else t
held_after m q entry t (item.Applied x) = if x.actor == q && x.entry == entry then told x.message t else t
held_after m q entry t (item.Switch s) = t

-- the translation of an entry that processor q holds
abbrev pub held : Machine → List Item → (q entry : ℕ) → Option Translation
held m items q entry = fold (held_after m q entry) None items

-- the translation that processor q holds through an entry, if there is an entry
abbrev pub held_through : Machine → List Item → ℕ → Option ℕ → Option Translation
held_through m items q None = None
held_through m items q (Some entry) = held m items q entry

abbrev pub active_after : ℕ → ℕ → Item → ℕ
active_after q space i = option_map_or (λ s. if s.actor == q then s.space else space) (switch_of i) space

-- the space that processor q is active in
abbrev pub active : Machine → List Item → ℕ → ℕ
active m items q = fold (active_after q) (program_of m q).space items

abbrev pub serves : Kind → Right → Bool
serves kind.Load r = true
serves kind.Store right.Read = false
serves kind.Store right.Write = true
serves kind.Add right.Read = false
serves kind.Add right.Write = true

-- whether a translation is there with enough right for an access
abbrev pub has_right : Kind → Option Translation → Bool
has_right k None = false
has_right k (Some t) = serves k t.grant.right

abbrev pub removes_all : Removed → Bool
removes_all r = same_removed r removed.All

abbrev pub removes_writes : Removed → Bool
removes_writes r = same_removed r removed.Writes

-- a change of the page, of a greater number, that removed what the test names
abbrev pub is_later_change : (Removed → Bool) → (page seq : ℕ) → Item → Bool
is_later_change test page seq = is_change_that (λ c. c.page == page && nat_lt seq c.seq && test c.removed)

abbrev pub later : (Removed → Bool) → List Item → (page seq : ℕ) → Bool
later test items page seq = list_any (is_later_change test page seq) items
