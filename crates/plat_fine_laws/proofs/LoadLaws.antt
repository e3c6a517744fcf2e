-- the load of a data word keeps the invariant
use Rattle.std.specs.Prelude.{◌≡◌, ℕ, ◌+◌, ◌<◌, if◌then◌else◌, false, List, [], ◌∷◌, ◌++◌, slice_get, slice_index, Some, None, IsTrue}
use Rattle.std.proofs.Common.{refl, ap, sym, ◌∙◌, arith, subst}
use Rattle.plat_base.specs.Verdicts.{Answer}
use Rattle.plat_base.specs.Machine.{Machine}
use Rattle.plat_base.specs.Flat.{is_write, writes_word, flat_value, flat_writes}
use Rattle.plat_base.specs.Rules.{Good, bad_rule}
use Rattle.plat_base.specs.declared.items.Access.{Access}
use Rattle.plat_base.specs.declared.items.Item.{Item}
use Rattle.plat_base.specs.declared.items.Item.TheVariants as item
use Rattle.plat_base.specs.declared.words.Op.TheVariants as op
use Rattle.plat_base.specs.declared.words.WordName.{WordName}
use Rattle.plat_base.specs.declared.words.WordName.TheVariants as word
use Rattle.plat_laws.specs.Guests.{IsWithinLimits}
use Rattle.plat_laws.proofs.ItemLaws.{dir_of-access, seq_of-access, last_of-access, held-access, later-access, flat_value-append}
use Rattle.plat_laws.proofs.ItemLaws.{flat_writes-append}
use Rattle.plat_laws.proofs.GuestLaws.{space_after, space-guest_after}
use Rattle.plat_events.specs.Words.{value_read}
use Rattle.plat_events.specs.Places.{place_of, is_name, is_word}
use Rattle.plat_events.specs.Privates.{Place, Loading, Private, actor_count, is_over}
use Rattle.plat_events.specs.Events.{named_next, memory_now, access_over, with_item}
use Rattle.plat_events.specs.Kept.{session_of, has_left, activation_at, word_at, private_of}
use Rattle.plat_events.specs.Views.{place_view}
use Rattle.plat_events.specs.Runs.{Fine, event, ends_of}
use Rattle.plat_events.specs.Shown.{act_of, IsReachedAlone, Shows}
use Rattle.plat_local_laws.specs.Faults.{AccessOk}
use Rattle.plat_local_laws.specs.Numbers.{is_in_turn}
use Rattle.plat_local_laws.specs.Standing.{PlaceOk}
use Rattle.plat_local_laws.specs.Words.{NamesWord}
use Rattle.plat_local_laws.specs.Alone.{PrivateOk}
use Rattle.plat_local_laws.proofs.NameLaws.{names_word}
use Rattle.plat_local_laws.proofs.GuestStepLaws.{access_now}
use Rattle.plat_local_laws.proofs.PrivateLaws.{private_ok}
use Rattle.plat_fine_laws.specs.Changes.{Changes, GoesOn, KeepsFlat, Stays, LeavesPages, KeepsPageWords}
use Rattle.plat_fine_laws.proofs.WordLaws.{words-loaded}
use Rattle.plat_fine_laws.proofs.PrivateLaws.{private_of-get}
use Rattle.plat_fine_laws.proofs.ActorFieldLaws.{each-private}
use Rattle.plat_fine_laws.proofs.MadeLaws.{stays-made, good-made}
use Rattle.plat_fine_laws.proofs.EndFieldLaws.{turns-still, live-still}
use Rattle.plat_fine_laws.proofs.PlacedLaws.{Scans-still}
use Rattle.plat_fine_laws.proofs.PlaceLaws.{turn_over-goes, IsPlain, plain_view}
use Rattle.plat_fine_laws.proofs.TurnLaws.{turn_over-plain}
use Rattle.plat_fine_laws.proofs.ReachedLaws.{reached-moved}
use Rattle.plat_fine_laws.proofs.AloneLaws.{alone_ok}
use Rattle.plat_fine_laws.proofs.AccessLaws.{access-rule}
use Rattle.plat_fine_laws.proofs.Footprints.{load-changes}
use Rattle.plat_fine_laws.proofs.StayLaws

pub leaves-access : (m : Machine) (items : List Item) (x : Access) → LeavesPages m items (items ++ item.Access x ∷ [])
leaves-access m items x = record {
  dir = λ page. dir_of-access items x page;
  seq = λ page. seq_of-access items x page;
  last = λ page. last_of-access items x page;
  removals = λ test page seq. later-access test items x page seq;
  held = λ q e. held-access m items x q e;
}

-- a load leaves flat memory
not_written : (page w : ℕ) (x : Access) → is_write x.kind ≡ false → writes_word page w (item.Access x) ≡ false
not_written page w x reads = rw reads refl

load-value : (m : Machine) (items : List Item) (x : Access) (page w : ℕ) → is_write x.kind ≡ false →
    flat_value m (items ++ item.Access x ∷ []) page w ≡ flat_value m items page w
load-value m items x page w reads =
    flat_value-append m items (item.Access x ∷ []) page w
    ∙ ap (λ b. if b then x.new else flat_value m items page w) (not_written page w x reads)

load-writes : (items : List Item) (x : Access) (page w : ℕ) → is_write x.kind ≡ false →
    flat_writes (items ++ item.Access x ∷ []) page w ≡ flat_writes items page w
load-writes items x page w reads =
    flat_writes-append items (item.Access x ∷ []) page w
    ∙ ap (λ b. if b then flat_writes items page w + 1 else flat_writes items page w) (not_written page w x reads)

module _ (m : Machine) (answer : Answer) (s : Fine) (a : ℕ) (limits : IsWithinLimits m) (shows : Shows m answer s)
    (within : a < actor_count m) (stands : (private_of m s a).place ≡ Loading) where
  alone : PrivateOk m answer a (private_of m s a)
  alone = alone_ok m answer s a limits shows within

  access : AccessOk m a (private_of m s a) false
  access = subst (PlaceOk m answer a (private_of m s a)) stands alone.standing.place

  here : slice_get s.privates a ≡ Some (private_of m s a)
  here = private_of-get m s a (let inside : a < actor_count m = within in omega (arith, shows.all_privates))

  abbrev name : WordName
  name = memory_now m a (private_of m s a)

  abbrev n : ℕ
  n = word_at m s name

  abbrev acc : Access
  acc = access_now m a (private_of m s a) n

  abbrev made : Item
  made = item.Access acc

  named : IsTrue (is_name m name)
  named =
      subst (λ (x : Place). NamesWord m (named_next m answer a (private_of m s a) x)) stands
      (names_word m answer a (private_of m s a) limits within (shows.reached_alone a within))

  rule : bad_rule m answer s.history made ≡ None
  rule =
      access-rule m answer s a false limits shows within access (ap is_in_turn stands) (ap session_of stands) (ap has_left stands)
      (ap activation_at stands) named

  found : IsTrue (is_word m name n)
  found = shows.words_encoded name named

  abbrev next : Private
  next = record (access_over m a (private_of m s a) n) { journal = with_item (private_of m s a).journal (Some made) }

  changes : Changes m s (event m answer s a) a name n next (Some made)
  changes = load-changes m answer s a (private_of m s a) here stands found

  same-word : (other : WordName) → word_at m (event m answer s a) other ≡ word_at m s other
  same-word other = ap (λ ws. slice_index ws (place_of m other)) (words-loaded m s (event m answer s a) a name next (Some made) changes)

  goes : GoesOn None next.place
  goes = turn_over-goes m (private_of m s a).turns

  moved-space : next.guest.space ≡ (private_of m s a).guest.space
  moved-space =
      space-guest_after m a (private_of m s a).guest (value_read n) ∙ ap (space_after (private_of m s a).guest.space) access.wants

  stays : Stays m a (private_of m s a) next (Some made)
  stays = stays-made m a (private_of m s a) next made refl (ap session_of stands) goes refl refl refl

  leaves : LeavesPages m s.history (event m answer s a).history
  leaves = subst (LeavesPages m s.history) (sym changes.history) (leaves-access m s.history acc)

  flats : (page w : ℕ) → KeepsFlat m s (event m answer s a) page w
  flats page w = record {
    value = ap (λ h. flat_value m h page w) changes.history ∙ load-value m s.history acc page w access.kind;
    writes = ap (λ h. flat_writes h page w) changes.history ∙ load-writes s.history acc page w access.kind;
  }

  reached : IsReachedAlone m answer a next
  reached =
      reached-moved m answer a (private_of m s a) Loading n name op.Load (shows.reached_alone a within) stands refl found

  alone_after : PrivateOk m answer a next
  alone_after = private_ok m answer a next limits within reached

  good : Good m answer (event m answer s a).history (ends_of m (event m answer s a).privates)
  good =
      good-made m answer s (event m answer s a) a name n next made shows within access.processor changes stays.own refl rule alone_after
      goes.ended

  acts : (q : ℕ) → q < m.nodes → word_at m (event m answer s a) (word.Act q) ≡ act_of (private_of m (event m answer s a) q)
  acts q nodes =
      each-private m s (event m answer s a) a name n next (Some made) changes answer shows
      (λ b (x : Private). b < m.nodes → word_at m (event m answer s a) (word.Act b) ≡ act_of x) within
      (λ below. same-word (word.Act a) ∙ (shows.act_shows a below ∙ sym shown))
      (λ b apart below inside. same-word (word.Act b) ∙ shows.act_shows b inside)
      q (omega arith) nodes
    where
      shown : act_of next ≡ act_of (private_of m s a)
      shown = λ i. if (goes.left ∙ sym (ap has_left stands)) i then 0 else moved-space i + 1

  pub keeps_load : Shows m answer (event m answer s a)
  keeps_load =
      let time = same-word word.Time in
      let past = shows.times_past a within in
      let words : KeepsPageWords m s (event m answer s a) = λ other page there. same-word other in
      StayLaws.shows-stayed m answer s (event m answer s a) a name n next (Some made) shows within changes stays leaves named found words
      (time ∙ (shows.time_is_turns ∙ sym (turns-still m s (event m answer s a) a name n next (Some made) changes here refl)))
      (omega (arith, time)) (omega (arith, time, past))
      (same-word word.Live
      ∙ (shows.live_counts
      ∙ sym
      (live-still m s (event m answer s a) a name n next (Some made) changes here (λ inside. goes.over ∙ sym (ap is_over stands)))))
      acts
      (StayLaws.flat-kept m answer s (event m answer s a) a name n next (Some made) shows within changes stays leaves flats
      (λ f w. same-word (word.Memory f.module f.number w)))
      (StayLaws.scanned-entries m answer s (event m answer s a) a name n next (Some made) shows within changes stays leaves words
      (λ k. Scans-still (word_at m s (word.Cmap k)) a (place_view m (private_of m s a) k) (place_view m next k)
      (plain_view m (private_of m s a) next k moved-space (goes.left ∙ sym (ap has_left stands))
      (subst (IsPlain m (private_of m s a)) (sym stands) (record { scan = refl; message = refl }))
      (turn_over-plain m next (private_of m s a).turns))))
      good reached
