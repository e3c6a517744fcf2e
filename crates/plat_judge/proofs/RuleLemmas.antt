-- the rules of an item, case by case
use Rattle.std.proofs.Common.{◌≡◌, ℕ, ◌<◌, List, Option, Some, None, Bool, true, false, refl, ap, sym, ◌∙◌, arith}
use Rattle.std.specs.Prelude.{nat_lt, ◌&&◌}
use Rattle.std.proofs.lemmas.Bool.{and_right, lt-ltb}
use Rattle.std.proofs.lemmas.Bool.Decides.{nat_tests}
use Rattle.plat_laws.proofs.Limits.{and-left}
use Rattle.plat_base.specs.Verdicts.{Answer}
use Rattle.plat_base.specs.Machine.{Machine}
use Rattle.plat_base.specs.GuestRun.{Operation}
use Rattle.plat_base.specs.Decide.{is_frame}
use Rattle.plat_base.specs.Rules.{next_operation, is_access_next, is_switch_next, is_ordered_access, is_ordered_switch, is_granted}
use Rattle.plat_base.specs.Rules.{is_legal, unless, first_rule, bad_rule}
use Rattle.plat_base.specs.declared.items.Access.{Access}
use Rattle.plat_base.specs.declared.items.Switch.{Switch}
use Rattle.plat_base.specs.declared.items.Item.{Item}
use Rattle.plat_base.specs.declared.items.Item.TheVariants as item
use Rattle.plat_base.specs.declared.statuses.Rule.{Rule}
use Rattle.plat_base.specs.declared.statuses.Rule.TheVariants as rule
use Rattle.plat_follow.specs.Followed.{IsNextItem}
use Rattle.plat_base.proofs.RuleLemmas.{unless-none}

-- ---- what an access breaks

-- by whether it is in order, granted and legal
abbrev pub broken_by : (ordered granted legal : Bool) → Option Rule
broken_by o g l = first_rule (unless o rule.Order) (first_rule (unless g rule.Grant) (unless l rule.Legal))

pub breaks-order : (o g l : Bool) → o ≡ false → Some rule.Order ≡ broken_by o g l
breaks-order true g l h = absurd cc
breaks-order false g l h = refl

pub breaks-grant : (o g l : Bool) → o ≡ true → g ≡ false → Some rule.Grant ≡ broken_by o g l
breaks-grant o g l h k = rw (h, k) refl

pub breaks-legal : (o g l : Bool) → o ≡ true → g ≡ true → l ≡ false → Some rule.Legal ≡ broken_by o g l
breaks-legal o g l h k j = rw (h, k, j) refl

pub breaks-none : (o g l : Bool) → o ≡ true → g ≡ true → l ≡ true → None ≡ broken_by o g l
breaks-none o g l h k j = rw (h, k, j) refl

in_order-of : (o g l : Bool) → broken_by o g l ≡ None → o ≡ true
in_order-of true g l h = refl
in_order-of false g l h = absurd cc

-- ---- what another item breaks

pub breaks : (ok : Bool) (r : Rule) → ok ≡ false → Some r ≡ unless ok r
breaks ok r h = rw h refl

pub keeps : (ok : Bool) (r : Rule) → ok ≡ true → None ≡ unless ok r
keeps ok r h = rw h refl

-- ---- order

pub and-both : (x y z : Bool) → x ≡ true → y ≡ true → z ≡ (x && y && z)
and-both x y z h k = rw (h, k) refl

pub and-one : (x z : Bool) → x ≡ true → z ≡ (x && z)
and-one x z h = rw h refl

module _ (m : Machine) (items : List Item) where
  pub unordered-access : (a : Access) → None ≡ next_operation m items a.actor → false ≡ is_ordered_access m items a
  unordered-access a none =
      sym (and_right (nat_lt a.actor m.nodes && is_frame m a.frame) (is_access_next (next_operation m items a.actor) a)
      (sym (ap (λ (o : Option Operation). is_access_next o a) none)))

  pub ordered-access :
      (a : Access) (o : Option Operation) → a.actor < m.nodes → is_frame m a.frame ≡ true → o ≡ next_operation m items a.actor
      → is_access_next o a ≡ is_ordered_access m items a
  ordered-access a o inside frame next =
      ap (λ (o : Option Operation). is_access_next o a) next
      ∙ and-both (nat_lt a.actor m.nodes) (is_frame m a.frame) (is_access_next (next_operation m items a.actor) a)
      (lt-ltb a.actor m.nodes inside) frame

  pub ordered-switch :
      (s : Switch) (o : Option Operation) → s.actor < m.nodes → o ≡ next_operation m items s.actor
      → is_switch_next o s.space ≡ is_ordered_switch m items s
  ordered-switch s o inside next =
      ap (λ (o : Option Operation). is_switch_next o s.space) next
      ∙ and-one (nat_lt s.actor m.nodes) (is_switch_next (next_operation m items s.actor) s.space) (lt-ltb s.actor m.nodes inside)

pub ordered-actor : (m : Machine) (items : List Item) (s : Switch) → is_ordered_switch m items s ≡ true → s.actor < m.nodes
ordered-actor m items s h = let inside = and-left (nat_lt s.actor m.nodes) _ h in grind (arith, nat_tests)

-- an item that breaks no rule is in its place where it is an access or a switch
pub next-of : (m : Machine) (answer : Answer) (items : List Item) (i : Item) → bad_rule m answer items i ≡ None → IsNextItem m items i
next-of m answer items (item.Access a) h = in_order-of (is_ordered_access m items a) (is_granted m items a) (is_legal m items a) h
next-of m answer items (item.Change c) h = tt
next-of m answer items (item.Applied x) h = tt
next-of m answer items (item.Switch s) h = unless-none (is_ordered_switch m items s) rule.Order h
