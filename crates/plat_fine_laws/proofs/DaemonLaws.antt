-- the daemon's looks at the live processors and at the time keep the invariant
use Rattle.std.specs.Prelude.{◌≡◌, ◌≢◌, ℕ, ◌<◌, ◌≤◌, ◌==◌, nat_lt, if◌then◌else◌, Bool, true, false, slice_get, Some, None, IsTrue}
use Rattle.std.proofs.Common.{refl, ap, sym, ◌∙◌, arith}
use Rattle.std.specs.Option.{option_map}
use Rattle.plat_base.specs.Verdicts.{Answer}
use Rattle.plat_base.specs.Machine.{Machine}
use Rattle.plat_base.specs.declared.endings.End.TheVariants as end
use Rattle.plat_base.specs.declared.words.Op.TheVariants as op
use Rattle.plat_base.specs.declared.words.WordName.TheVariants as word
use Rattle.plat_events.specs.Places.{is_word}
use Rattle.plat_events.specs.Sessions.{Session}
use Rattle.plat_events.specs.Privates.{Place, LiveLooking, TimeLooking, Locking, Over, Private, actor_count}
use Rattle.plat_events.specs.Events.{at, pass_begun, thaw_of}
use Rattle.plat_events.specs.Kept.{session_of, word_at, private_of}
use Rattle.plat_events.specs.Runs.{Fine, event}
use Rattle.plat_events.specs.Shown.{goes_to, Shows}
use Rattle.plat_fine_laws.specs.Changes.{Changes, Moves}
use Rattle.plat_fine_laws.proofs.WordLaws.{KeepsWords-loaded}
use Rattle.plat_fine_laws.proofs.PrivateLaws.{private_of-get}
use Rattle.plat_fine_laws.proofs.ReachedLaws.{reached-moved}
use Rattle.plat_fine_laws.proofs.Footprints.{live-changes, time-changes}
use Rattle.plat_fine_laws.proofs.MovedLaws.{shows-moved}

-- a place of the daemon behind such a look: it has no session
record IsIdle (place : Place) : Type 0 where
  session : session_of place ≡ None
  framed : goes_to place ≢ Some end.NoFrames

idle-if : (b : Bool) (x y : Place) → IsIdle x → IsIdle y → IsIdle (if b then x else y)
idle-if true x y ix iy = ix
idle-if false x y ix iy = iy

module _ (m : Machine) (a : ℕ) (p : Private) (daemon : a ≡ m.nodes) (session : session_of p.place ≡ None) where
  moves-idle : (now due : ℕ) (place : Place) → IsIdle place → Moves m a p (record p { now = now; due = due; place = place })
  moves-idle now due place idle = record {
    turns = refl;
    space = refl;
    pmap = refl;
    journal = refl;
    running =
        ap (option_map (λ (x : Session). record { actor = a; now = now; session = x })) idle.session
        ∙ sym (ap (option_map (λ (x : Session). record { actor = a; now = p.now; session = x })) session);
    over = λ inside. absurd (omega arith);
    left = λ inside. absurd (omega arith);
    ended = λ inside. absurd (omega arith);
    framed = λ enough. idle.framed;
  }

  -- a pass begins at the time that was found, or is not due
  moves-pass : (n : ℕ) (due : Bool) →
      Moves m a p (record (if due then at p LiveLooking else record p { now = n; place = Locking (thaw_of 0) }) { journal = p.journal })
  moves-pass n true = moves-idle p.now p.due LiveLooking (record { session = refl; framed = λ e. absurd cc })
  moves-pass n false = moves-idle n p.due (Locking (thaw_of 0)) (record { session = refl; framed = λ e. absurd cc })

pass-past :
    (p : Private) (n : ℕ) (due : Bool) → p.now ≤ n →
    (record (if due then at p LiveLooking else record p { now = n; place = Locking (thaw_of 0) }) { journal = p.journal }).now ≤ n
pass-past p n true past = past
pass-past p n false past = omega arith

module _ (m : Machine) (answer : Answer) (s : Fine) (a : ℕ) (shows : Shows m answer s) (within : a < actor_count m)
    (daemon : a ≡ m.nodes) where
  here : slice_get s.privates a ≡ Some (private_of m s a)
  here = private_of-get m s a (omega (arith, shows.all_privates))

  pub keeps_live_look : (private_of m s a).place ≡ LiveLooking → Shows m answer (event m answer s a)
  keeps_live_look stands =
      let n = word_at m s word.Live in
      let found : IsTrue (is_word m word.Live n) = shows.words_encoded word.Live refl in
      let place : Place = if n == 0 then Over else TimeLooking in
      let next : Private = at (private_of m s a) place in
      let changes : Changes m s (event m answer s a) a word.Live n next None =
      live-changes m answer s a (private_of m s a) here stands found in
      let idle : IsIdle place =
      idle-if (n == 0) Over TimeLooking (record { session = refl; framed = λ e. absurd cc })
      (record { session = refl; framed = λ e. absurd cc }) in
      shows-moved m answer s (event m answer s a) a word.Live n next shows within changes
      (moves-idle m a (private_of m s a) daemon (ap session_of stands) (private_of m s a).now (private_of m s a).due place idle)
      refl found (KeepsWords-loaded m s (event m answer s a) a word.Live next None changes) (shows.times_past a within)
      (λ inside. absurd (omega arith))
      (reached-moved m answer a (private_of m s a) LiveLooking n word.Live op.Load (shows.reached_alone a within) stands refl found)

  pub keeps_time_look : (private_of m s a).place ≡ TimeLooking → Shows m answer (event m answer s a)
  keeps_time_look stands =
      let n = word_at m s word.Time in
      let found : IsTrue (is_word m word.Time n) = shows.words_encoded word.Time refl in
      let next : Private = record (pass_begun (private_of m s a) n) { journal = (private_of m s a).journal } in
      let changes : Changes m s (event m answer s a) a word.Time n next None =
      time-changes m answer s a (private_of m s a) here stands found in
      shows-moved m answer s (event m answer s a) a word.Time n next shows within changes
      (moves-pass m a (private_of m s a) daemon (ap session_of stands) n (nat_lt n (private_of m s a).due))
      refl found (KeepsWords-loaded m s (event m answer s a) a word.Time next None changes)
      (pass-past (private_of m s a) n (nat_lt n (private_of m s a).due) (shows.times_past a within))
      (λ inside. absurd (omega arith))
      (reached-moved m answer a (private_of m s a) TimeLooking n word.Time op.Load (shows.reached_alone a within) stands refl found)
