-- every operation outside pages keeps the invariant
use Rattle.std.specs.Prelude.{◌≡◌, ℕ, ◌<◌, true, Some, None, slice_get}
use Rattle.std.proofs.Common.{refl, ap, sym, ◌∙◌, subst, arith}
use Rattle.plat_base.specs.Verdicts.{Answer}
use Rattle.plat_base.specs.Machine.{Machine}
use Rattle.plat_laws.specs.Guests.{IsWithinLimits}
use Rattle.plat_events.specs.Privates.{Place, Polling, Looking, Applying, Ticking, Switching, Loading, Expecting, Exchanging, Locking}
use Rattle.plat_events.specs.Privates.{InSession, Leaving, Lessening, Gone, LiveLooking, TimeLooking, Over, Private, actor_count}
use Rattle.plat_events.specs.Events.{named_next, next_of}
use Rattle.plat_events.specs.Kept.{private_of}
use Rattle.plat_events.specs.Runs.{Fine, event_at, event_by, event}
use Rattle.plat_events.specs.Shown.{Shows}
use Rattle.plat_local_laws.specs.Standing.{PlaceOk}
use Rattle.plat_local_laws.specs.Alone.{PrivateOk}
use Rattle.plat_fine_laws.specs.Outside.{is_outside}
use Rattle.plat_fine_laws.proofs.PrivateLaws.{private_of-get}
use Rattle.plat_fine_laws.proofs.AloneLaws.{alone_ok}
use Rattle.plat_fine_laws.proofs.PollLaws.{keeps_poll}
use Rattle.plat_fine_laws.proofs.ScanLaws.{keeps_look}
use Rattle.plat_fine_laws.proofs.TickLaws.{keeps_tick}
use Rattle.plat_fine_laws.proofs.SwitchLaws.{keeps_switch}
use Rattle.plat_fine_laws.proofs.ExpectLaws.{keeps_expect}
use Rattle.plat_fine_laws.proofs.LoadLaws.{keeps_load}
use Rattle.plat_fine_laws.proofs.EndLaws.{keeps_leave}
use Rattle.plat_fine_laws.proofs.LessenLaws.{keeps_lessen}
use Rattle.plat_fine_laws.proofs.DaemonLaws.{keeps_live_look, keeps_time_look}

-- an actor that has ended changes nothing
ended-next : (m : Machine) (answer : Answer) (a : ℕ) (p : Private) → named_next m answer a p p.place ≡ None → next_of m answer a p ≡ None
unfolding next_of
ended-next m answer a p none = rw none refl

module _ (m : Machine) (answer : Answer) (s : Fine) (a : ℕ) (limits : IsWithinLimits m) (shows : Shows m answer s)
    (within : a < actor_count m) where
  alone : PrivateOk m answer a (private_of m s a)
  alone = alone_ok m answer s a limits shows within

  stands-ok : (place : Place) → (private_of m s a).place ≡ place → PlaceOk m answer a (private_of m s a) place
  stands-ok place stands = subst (PlaceOk m answer a (private_of m s a)) stands alone.standing.place

  keeps_ended : named_next m answer a (private_of m s a) (private_of m s a).place ≡ None → Shows m answer (event m answer s a)
  keeps_ended none =
      let here : slice_get s.privates a ≡ Some (private_of m s a) = private_of-get m s a (omega (arith, shows.all_privates)) in
      let same : event m answer s a ≡ s =
      ap (event_by m answer s a) here ∙ ap (event_at m answer s a (private_of m s a)) (ended-next m answer a (private_of m s a) none) in
      subst (Shows m answer) (sym same) shows

  pub keeps_outside : (place : Place) → (private_of m s a).place ≡ place → is_outside place ≡ true → Shows m answer (event m answer s a)
  keeps_outside (Polling onward) stands outside =
      keeps_poll m answer s a onward shows (stands-ok (Polling onward) stands).processor stands
  keeps_outside (Looking i moment onward) stands outside = keeps_look m answer s a i moment onward shows alone stands
  keeps_outside (Applying i msg moment onward) stands outside = absurd cc
  keeps_outside Ticking stands outside = keeps_tick m answer s a limits shows within stands
  keeps_outside (Switching space) stands outside = keeps_switch m answer s a space limits shows within stands
  keeps_outside Loading stands outside = keeps_load m answer s a limits shows within stands
  keeps_outside Expecting stands outside = keeps_expect m answer s a limits shows within stands
  keeps_outside (Exchanging seen) stands outside = absurd cc
  keeps_outside (Locking fault) stands outside = absurd cc
  keeps_outside (InSession x) stands outside = absurd cc
  keeps_outside (Leaving e) stands outside = keeps_leave m answer s a e limits shows within stands
  keeps_outside (Lessening e) stands outside = keeps_lessen m answer s a limits shows within e stands
  keeps_outside (Gone e) stands outside = keeps_ended (ap (named_next m answer a (private_of m s a)) stands)
  keeps_outside LiveLooking stands outside = keeps_live_look m answer s a shows within (stands-ok LiveLooking stands) stands
  keeps_outside TimeLooking stands outside = keeps_time_look m answer s a shows within (stands-ok TimeLooking stands) stands
  keeps_outside Over stands outside = keeps_ended (ap (named_next m answer a (private_of m s a)) stands)
