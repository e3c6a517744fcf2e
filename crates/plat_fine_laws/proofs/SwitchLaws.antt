-- a switch to another space keeps the invariant: no entry is usable before the scan that follows has passed it
use Rattle.std.specs.Prelude.{◌≡◌, ℕ, ◌+◌, ◌*◌, ◌<◌, ◌==◌, nat_lt, ◌&&◌, not, if◌then◌else◌, Bool, true, false, List, [], ◌∷◌, ◌++◌, length}
use Rattle.std.specs.Prelude.{drop, slice_get, Option, Some, None, IsTrue}
use Rattle.std.proofs.Common.{refl, ap, sym, ◌∙◌, arith, subst}
use Rattle.std.specs.List.{list_any}
use Rattle.std.specs.Option.{option_map_or}
use Rattle.std.proofs.lemmas.Bool.Decides.{nat_tests}
use Rattle.plat_base.specs.Verdicts.{Answer}
use Rattle.plat_base.specs.Machine.{Machine}
use Rattle.plat_base.specs.Pages.{space_of, entries_of_space}
use Rattle.plat_base.specs.Flat.{flat_value, flat_writes}
use Rattle.plat_base.specs.Rules.{Good, bad_rule}
use Rattle.plat_base.specs.declared.limits.TheConstants.{SPACES}
use Rattle.plat_base.specs.declared.items.Item.{Item}
use Rattle.plat_base.specs.declared.items.Item.TheVariants as item
use Rattle.plat_base.specs.declared.items.Message.{Message}
use Rattle.plat_base.specs.declared.items.Moment.TheVariants as moment
use Rattle.plat_base.specs.declared.items.Switch.{Switch}
use Rattle.plat_base.specs.declared.words.Op.TheVariants as op
use Rattle.plat_base.specs.declared.words.WordName.TheVariants as word
use Rattle.plat_laws.specs.Guests.{IsWithinLimits}
use Rattle.plat_laws.proofs.ItemLaws.{dir_of-switch, seq_of-switch, last_of-switch, held-switch, later-switch, flat_value-switch}
use Rattle.plat_laws.proofs.ItemLaws.{flat_writes-switch}
use Rattle.plat_laws.proofs.GuestLaws.{space_after, space-guest_after}
use Rattle.plat_events.specs.Places.{entry_count, place_of, is_name, is_word}
use Rattle.plat_events.specs.Privates.{Place, TurnOver, Looking, Switching, Private, actor_count, is_over}
use Rattle.plat_events.specs.Scans.{go_on, scan_from}
use Rattle.plat_events.specs.Events.{at, switched, with_item}
use Rattle.plat_events.specs.Kept.{session_of, has_left, activation_at, is_unscanned, message_at, word_at, private_of}
use Rattle.plat_events.specs.Views.{is_restrict, place_view}
use Rattle.plat_events.specs.Runs.{Fine, event, ends_of}
use Rattle.plat_events.specs.Shown.{act_of, IsReachedAlone, Shows}
use Rattle.plat_local_laws.specs.Numbers.{is_in_turn}
use Rattle.plat_local_laws.specs.Standing.{PlaceOk, SwitchingOk}
use Rattle.plat_local_laws.specs.Alone.{PrivateOk}
use Rattle.plat_local_laws.proofs.PrivateLaws.{private_ok}
use Rattle.plat_local_laws.proofs.RuleLaws.{ordered_switch}
use Rattle.plat_local_laws.proofs.SpaceLaws.{switch-space}
use Rattle.plat_fine_laws.specs.Changes.{Changes, GoesOn, KeepsFlat, Stays, LeavesPages}
use Rattle.plat_fine_laws.proofs.WordLaws.{behind-kept, page_words-kept, named-kept, word_at-new}
use Rattle.plat_fine_laws.proofs.PrivateLaws.{private_of-get}
use Rattle.plat_fine_laws.proofs.ActorFieldLaws.{each-private}
use Rattle.plat_fine_laws.proofs.MadeLaws.{stays-made, good-made}
use Rattle.plat_fine_laws.proofs.EndFieldLaws.{turns-still, live-still}
use Rattle.plat_fine_laws.proofs.PlaceLaws.{IsPlain, go_on-plain, scan_from-goes}
use Rattle.plat_fine_laws.proofs.ReachedLaws.{reached-moved}
use Rattle.plat_fine_laws.proofs.AloneLaws.{alone_ok}
use Rattle.plat_fine_laws.proofs.ViewFactLaws.{among-range}
use Rattle.plat_fine_laws.proofs.Footprints.{switch-changes}
use Rattle.plat_fine_laws.proofs.StayLaws

leaves-switch : (m : Machine) (items : List Item) (x : Switch) → LeavesPages m items (items ++ item.Switch x ∷ [])
leaves-switch m items x = record {
  dir = λ page. dir_of-switch items x page;
  seq = λ page. seq_of-switch items x page;
  last = λ page. last_of-switch items x page;
  removals = λ test page seq. later-switch test items x page seq;
  held = λ q e. held-switch m items x q e;
}

-- an entry of a space is among its entries, so that the scan of them begins before it
in_space : (m : Machine) (space e : ℕ) → e < entry_count m → (space_of m e == space) ≡ true →
    list_any (λ x. x == e) (entries_of_space m space) ≡ true
in_space m space e below same =
    among-range (λ x. space_of m x == space) 0 (entry_count m) e (omega arith) (omega arith) same

some_length : (test : ℕ → Bool) (xs : List ℕ) → list_any test xs ≡ true → nat_lt 0 (length xs) ≡ true
some_length test [] h = absurd cc
some_length test (x ∷ xs) h = grind (arith, nat_tests)

module _ (m : Machine) (answer : Answer) (s : Fine) (a space : ℕ) (limits : IsWithinLimits m) (shows : Shows m answer s)
    (within : a < actor_count m) (stands : (private_of m s a).place ≡ Switching space) where
  alone : PrivateOk m answer a (private_of m s a)
  alone = alone_ok m answer s a limits shows within

  switching : SwitchingOk m a (private_of m s a) space
  switching = subst (PlaceOk m answer a (private_of m s a)) stands alone.standing.place

  here : slice_get s.privates a ≡ Some (private_of m s a)
  here = private_of-get m s a (let inside : a < actor_count m = within in omega (arith, shows.all_privates))

  named : IsTrue (is_name m (word.Act a))
  named = let inside : a < m.nodes = switching.processor in grind (arith, nat_tests)

  found : IsTrue (is_word m (word.Act a) (word_at m s (word.Act a)))
  found = shows.words_encoded (word.Act a) named

  abbrev made : Item
  made = item.Switch (record { actor = a; space = space })

  abbrev place : Place
  place = scan_from m (private_of m s a).turns space 0 moment.Activation TurnOver

  abbrev next : Private
  next = record (at (switched m a (private_of m s a)) place) { journal = with_item (private_of m s a).journal (Some made) }

  changes : Changes m s (event m answer s a) a (word.Act a) (space + 1) next (Some made)
  changes = switch-changes m answer s a (private_of m s a) here space stands found

  front : place_of m (word.Act a) < 2 + 2 * m.nodes
  front = let inside : a < m.nodes = switching.processor in omega arith

  goes : GoesOn None place
  goes = scan_from-goes m (private_of m s a).turns space 0 moment.Activation TurnOver

  moved-space : next.guest.space ≡ space
  moved-space = space-guest_after m a (private_of m s a).guest 0 ∙ ap (space_after (private_of m s a).guest.space) switching.wants

  stays : Stays m a (private_of m s a) next (Some made)
  stays = stays-made m a (private_of m s a) next made refl (ap session_of stands) goes refl refl refl

  leaves : LeavesPages m s.history (event m answer s a).history
  leaves = subst (LeavesPages m s.history) (sym changes.history) (leaves-switch m s.history (record { actor = a; space = space }))

  flats : (page w : ℕ) → KeepsFlat m s (event m answer s a) page w
  flats page w = record {
    value = ap (λ h. flat_value m h page w) changes.history ∙ flat_value-switch m s.history (record { actor = a; space = space }) page w;
    writes = ap (λ h. flat_writes h page w) changes.history ∙ flat_writes-switch s.history (record { actor = a; space = space }) page w;
  }

  reached : IsReachedAlone m answer a next
  reached =
      reached-moved m answer a (private_of m s a) (Switching space) (word_at m s (word.Act a)) (word.Act a) (op.Swap (space + 1))
      (shows.reached_alone a within) stands refl found

  alone_after : PrivateOk m answer a next
  alone_after = private_ok m answer a next limits within reached

  -- ---- the entries

  plain : (x : Private) → IsPlain m x (go_on m (private_of m s a).turns TurnOver)
  plain x = go_on-plain m x (private_of m s a).turns TurnOver

  no_message : message_at m next place ≡ None
  no_message = by (nat_lt 0 (length (entries_of_space m space)))
    where
      by : (b : Bool) → message_at m next (if b then Looking 0 moment.Activation TurnOver else go_on m
          (private_of m s a).turns TurnOver) ≡ None
      by true = refl
      by false = (plain next).message

  unscanned : (e : ℕ) → e < entry_count m → (space_of m e == next.guest.space) ≡ true → is_unscanned m next e ≡ true
  unscanned e below same =
      let among : list_any (λ x. x == e) (entries_of_space m space) ≡ true =
      in_space m space e below (ap (λ k. space_of m e == k) (sym moved-space) ∙ same) in
      let some : nat_lt 0 (length (entries_of_space m space)) ≡ true = some_length (λ x. x == e) (entries_of_space m space) among in
      let scan : activation_at place ≡ Some 0 =
      ap (λ b. activation_at (if b then Looking 0 moment.Activation TurnOver else go_on m (private_of m s a).turns TurnOver)) some in
      ap (λ o. option_map_or (λ i. list_any (λ x. x == e) (drop i (entries_of_space m next.guest.space))) o false) scan
      ∙ (ap (λ k. list_any (λ x. x == e) (entries_of_space m k)) moved-space ∙ among)

  unusable : (e : ℕ) → e < entry_count m → (place_view m next e).usable ≡ false
  unusable e below = by (space_of m e == next.guest.space) refl
    where
      by : (b : Bool) → (space_of m e == next.guest.space) ≡ b → (b && not (has_left place) && not (is_unscanned m next e)) ≡ false
      by true same = rw (unscanned e below same, goes.left) refl
      by false same = refl

  -- ---- the order

  ordered : bad_rule m answer s.history made ≡ None
  ordered =
      let order =
      ordered_switch m answer a (private_of m s a) s.history space alone switching.processor (shows.journals_are_history a within)
      (ap is_in_turn stands) switching.wants in
      rw order refl

  good : Good m answer (event m answer s a).history (ends_of m (event m answer s a).privates)
  good =
      good-made m answer s (event m answer s a) a (word.Act a) (space + 1)
      next made shows within switching.processor changes stays.own refl ordered alone_after
      goes.ended

  acts : (q : ℕ) → q < m.nodes → word_at m (event m answer s a) (word.Act q) ≡ act_of (private_of m (event m answer s a) q)
  acts q nodes =
      each-private m s (event m answer s a) a (word.Act a) (space + 1) next (Some made) changes answer shows
      (λ b (x : Private). b < m.nodes → word_at m (event m answer s a) (word.Act b) ≡ act_of x) within
      (λ below. word_at-new m s (event m answer s a) a (word.Act a) (space + 1) next (Some made) changes shows.all_words named ∙ sym shown)
      (λ b apart below inside.
      named-kept m s (event m answer s a) a (word.Act a) (space + 1) next (Some made) changes (word.Act b) named (grind (arith, nat_tests))
      (λ same. apart (same_act b a same))
      ∙ shows.act_shows b inside)
      q (omega arith) nodes
    where
      same_act : (b c : ℕ) → word.Act b ≡ word.Act c → b ≡ c
      same_act b c same = cc

      shown : act_of next ≡ space + 1
      shown = λ i. if goes.left i then 0 else moved-space i + 1

  encoded : IsTrue (is_word m (word.Act a) (space + 1))
  encoded =
      let below : space < SPACES = switch-space m a (private_of m s a).guest space limits switching.processor switching.wants in
      grind (arith, nat_tests)

  pub keeps_switch : Shows m answer (event m answer s a)
  keeps_switch =
      let time : word_at m (event m answer s a) word.Time ≡ word_at m s word.Time =
      named-kept m s (event m answer s a) a (word.Act a) (space + 1) next (Some made) changes word.Time named refl (λ same. absurd cc) in
      let live : word_at m (event m answer s a) word.Live ≡ word_at m s word.Live =
      named-kept m s (event m answer s a) a (word.Act a) (space + 1) next (Some made) changes word.Live named refl (λ same. absurd cc) in
      let words = page_words-kept m s (event m answer s a) a (word.Act a) (space + 1) next (Some made) changes front in
      let past = shows.times_past a within in
      StayLaws.shows-stayed m answer s (event m answer s a) a (word.Act a) (space + 1) next
      (Some made) shows within changes stays leaves named
      encoded words
      (time ∙ (shows.time_is_turns ∙ sym (turns-still m s (event m answer s a) a (word.Act a) (space + 1) next
      (Some made) changes here refl)))
      (omega (arith, time)) (omega (arith, time, past))
      (live
      ∙ (shows.live_counts
      ∙ sym
      (live-still m s (event m answer s a) a (word.Act a) (space + 1) next (Some made) changes here
      (λ inside. goes.over ∙ sym (ap is_over stands)))))
      acts
      (StayLaws.flat-kept m answer s (event m answer s a) a (word.Act a) (space + 1) next
      (Some made) shows within changes stays leaves flats
      (λ f w. behind-kept m s (event m answer s a) a (word.Act a) (space + 1) next (Some made) changes front
      (word.Memory f.module f.number w) refl))
      (StayLaws.left-entries m answer s (event m answer s a) a (word.Act a) (space + 1) next
      (Some made) shows within changes stays leaves words
      (λ k below. (
        unusable k below,
        ap (λ (o : Option (ℕ × Message)). option_map_or (λ (y : ℕ × Message). y.0 == k && is_restrict y.1) o false) no_message,
        ap (λ (o : Option (ℕ × Message)). option_map_or (λ (y : ℕ × Message). y.0 == k && not (is_restrict y.1)) o false) no_message,
      )))
      good reached
