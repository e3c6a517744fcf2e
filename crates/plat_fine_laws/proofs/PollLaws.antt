-- a poll keeps the invariant: it reads and clears the interrupts of its actor, and no entry is seen otherwise
use Rattle.std.specs.Prelude.{◌≡◌, ℕ, ◌<◌, slice_get, Some, None, IsTrue, nat_lt, length}
use Rattle.std.proofs.Common.{refl, ap, sym, ◌∙◌, arith, subst}
use Rattle.std.proofs.lemmas.Bool.Decides.{nat_tests}
use Rattle.plat_base.specs.Verdicts.{Answer}
use Rattle.plat_base.specs.Machine.{Machine}
use Rattle.plat_base.specs.Pages.{entries_of_space}
use Rattle.plat_base.specs.declared.items.Moment.TheVariants as moment
use Rattle.plat_base.specs.declared.words.Op.TheVariants as op
use Rattle.plat_base.specs.declared.words.WordName.TheVariants as word
use Rattle.plat_events.specs.Words.{has_bit}
use Rattle.plat_events.specs.Places.{is_name, is_word}
use Rattle.plat_events.specs.Privates.{Onward, Polling, Looking, Private, actor_count}
use Rattle.plat_events.specs.Scans.{go_on, scan_from, poll_place}
use Rattle.plat_events.specs.Events.{at}
use Rattle.plat_events.specs.Kept.{session_behind, has_left, word_at, private_of}
use Rattle.plat_events.specs.Views.{place_view}
use Rattle.plat_events.specs.Runs.{Fine, event}
use Rattle.plat_events.specs.Shown.{Shows}
use Rattle.plat_fine_laws.specs.Changes.{Changes, GoesOn, Moves, KeepsWords}
use Rattle.plat_fine_laws.proofs.WordLaws.{KeepsWords-interrupt}
use Rattle.plat_fine_laws.proofs.PrivateLaws.{private_of-get}
use Rattle.plat_fine_laws.proofs.PlaceLaws.{polling-goes, poll_place-goes, moves-on, IsPlain, plain-if, go_on-plain, plain_view}
use Rattle.plat_fine_laws.proofs.ReachedLaws.{reached-moved}
use Rattle.plat_fine_laws.proofs.Footprints.{poll-changes}
use Rattle.plat_fine_laws.proofs.MovedLaws.{own-entries, shows-moved}

poll_place-plain : (m : Machine) (p x : Private) (onward : Onward) (n : ℕ) → IsPlain m x (poll_place m p onward n)
poll_place-plain m p x onward n =
    plain-if m x (has_bit n p.guest.space) (scan_from m p.turns p.guest.space 0 moment.Interrupt onward) (go_on m p.turns onward)
    (plain-if m x (nat_lt 0 (length (entries_of_space m p.guest.space))) (Looking 0 moment.Interrupt onward) (go_on m p.turns onward)
    (record { scan = refl; message = refl }) (go_on-plain m x p.turns onward))
    (go_on-plain m x p.turns onward)

module _ (m : Machine) (answer : Answer) (s : Fine) (a : ℕ) (onward : Onward) (shows : Shows m answer s) (processor : a < m.nodes)
    (stands : (private_of m s a).place ≡ Polling onward) where
  within : a < actor_count m
  within = omega arith

  here : slice_get s.privates a ≡ Some (private_of m s a)
  here = private_of-get m s a (omega (arith, shows.all_privates))

  named : IsTrue (is_name m (word.Intr a))
  named = grind (arith, nat_tests)

  found : IsTrue (is_word m (word.Intr a) (word_at m s (word.Intr a)))
  found = shows.words_encoded (word.Intr a) named

  abbrev after_poll : Private
  after_poll = at (private_of m s a) (poll_place m (private_of m s a) onward (word_at m s (word.Intr a)))

  changes : Changes m s (event m answer s a) a (word.Intr a) 0 after_poll None
  changes = poll-changes m answer s a (private_of m s a) here onward stands found

  goes : GoesOn (session_behind onward) after_poll.place
  goes = poll_place-goes m (private_of m s a) onward (word_at m s (word.Intr a))

  moves : Moves m a (private_of m s a) after_poll
  moves =
      moves-on m a (private_of m s a) after_poll.place (session_behind onward)
      (subst (GoesOn (session_behind onward)) (sym stands) (polling-goes onward)) goes

  words : KeepsWords m s (event m answer s a)
  words = KeepsWords-interrupt m s (event m answer s a) a a 0 after_poll None processor changes

  places : (e : ℕ) → place_view m after_poll e ≡ place_view m (private_of m s a) e
  places e =
      plain_view m (private_of m s a) after_poll e refl (goes.left ∙ sym (ap has_left stands))
      (subst (IsPlain m (private_of m s a)) (sym stands) (record { scan = refl; message = refl }))
      (poll_place-plain m (private_of m s a) after_poll onward (word_at m s (word.Intr a)))

  pub keeps_poll : Shows m answer (event m answer s a)
  keeps_poll =
      shows-moved m answer s (event m answer s a) a (word.Intr a) 0 after_poll shows within changes moves named refl words
      (shows.times_past a within)
      (own-entries m answer s (event m answer s a) a (word.Intr a) 0 after_poll shows within changes moves words places)
      (reached-moved m answer a (private_of m s a) (Polling onward) (word_at m s (word.Intr a)) (word.Intr a) (op.Swap 0)
      (shows.reached_alone a within) stands refl found)
