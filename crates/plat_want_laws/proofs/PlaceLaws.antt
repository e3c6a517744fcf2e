-- at the places of an actor: what one operation of its own makes of the list of modules
use Rattle.std.specs.Prelude.{◌≡◌, ◌≢◌, ℕ, ◌+◌, ◌==◌, ◌&&◌, nat_lt, not, if◌then◌else◌, Bool, true, false, List, [], ◌∷◌, ◌++◌, length}
use Rattle.std.specs.Prelude.{Option, Some, None}
use Rattle.std.proofs.Common.{arith}
use Rattle.std.proofs.lemmas.Bool.{cond_both, ne_eqb}
use Rattle.plat_base.specs.Verdicts.{Answer}
use Rattle.plat_base.specs.Machine.{Machine}
use Rattle.plat_base.specs.Pages.{entries_of_space}
use Rattle.plat_base.specs.GuestRun.{Reach, reach_of, want_of}
use Rattle.plat_base.specs.Flat.{is_write}
use Rattle.plat_base.specs.Held.{has_right}
use Rattle.plat_base.specs.Accesses.{cause_of}
use Rattle.plat_base.specs.declared.endings.End.{End}
use Rattle.plat_base.specs.declared.endings.End.TheVariants as end
use Rattle.plat_base.specs.declared.guests.Want.{Want}
use Rattle.plat_base.specs.declared.guests.Want.TheVariants as want
use Rattle.plat_base.specs.declared.frames.Dir.{Dir}
use Rattle.plat_base.specs.declared.items.Message.TheVariants as message
use Rattle.plat_base.specs.declared.items.Moment.{Moment}
use Rattle.plat_base.specs.declared.items.Moment.TheVariants as moment
use Rattle.plat_base.specs.declared.items.Removed.{Removed}
use Rattle.plat_base.specs.declared.words.Op.{Op}
use Rattle.plat_base.specs.declared.words.WordName.{WordName}
use Rattle.plat_events.specs.Words.{has_bit, has_invalidate, has_restrict, is_locked, dir_read, last_read, seq_read}
use Rattle.plat_events.specs.Operations.{told}
use Rattle.plat_events.specs.Shootdowns.{Shoot, Makes, Polls, Done, own_post, shot_after}
use Rattle.plat_events.specs.Sessions.{Fault, Course, Phase, Stamping, Seeking, Taking, Returning, Shooting, Filling, Reading, Copying}
use Rattle.plat_events.specs.Sessions.{Giving, Storing, Granting, Unlocking, Session, decision_of, module_tried, with_shoot, frame_taken}
use Rattle.plat_events.specs.Sessions.{with_phase}
use Rattle.plat_events.specs.Privates.{Onward, NewTurn, TurnOver, Relock, Rewait, Place, Polling, Looking, Applying, Ticking, Switching}
use Rattle.plat_events.specs.Privates.{Loading, Expecting, Exchanging, Locking, InSession, Leaving, Lessening, Gone, LiveLooking}
use Rattle.plat_events.specs.Privates.{TimeLooking, Over, Private, translation_at}
use Rattle.plat_events.specs.Scans.{turn_over, go_on, scan_from, poll_place, look_place}
use Rattle.plat_events.specs.Events.{named_next, entry_of, at, look_up, look_up_place, turn_does, access_over, lock_place_after, page_done}
use Rattle.plat_events.specs.Events.{pass_begun, shoot_place, returned, unlocked, moved_at, reach_now, forget_page, drop_own, thaw_of}
use Rattle.plat_events.specs.Shown.{goes_to}
use Rattle.plat_want_laws.specs.Emptied.{emptied_by, HasEachModule}
use Rattle.plat_want_laws.proofs.PhaseLaws.{PhaseHas, give_from-has, fill_from-has, copy_from-has, with_shoot-has, seek_from-has, pool-seen}
use Rattle.plat_want_laws.proofs.PhaseLaws.{pool-missed, has-more}

-- ---- what the list has

abbrev pub OnwardHas : Machine → Answer → (a now : ℕ) → List ℕ → Onward → Type 0
OnwardHas m answer a now modules NewTurn = Unit {0}
OnwardHas m answer a now modules TurnOver = Unit {0}
OnwardHas m answer a now modules (Relock fault) = Unit {0}
OnwardHas m answer a now modules (Rewait s) = PhaseHas m answer a now modules s s.phase

abbrev pub EndHas : Machine → List ℕ → End → Type 0
EndHas m modules end.Halted = Unit {0}
EndHas m modules end.Trapped = Unit {0}
EndHas m modules end.Spent = Unit {0}
EndHas m modules end.NoFrames = HasEachModule m modules
EndHas m modules end.Cut = Unit {0}

-- at a place of actor a
abbrev pub PlaceHas : Machine → Answer → (a now : ℕ) → List ℕ → Place → Type 0
PlaceHas m answer a now modules (Polling onward) = OnwardHas m answer a now modules onward
PlaceHas m answer a now modules (Looking i moment onward) = OnwardHas m answer a now modules onward
PlaceHas m answer a now modules (Applying i message moment onward) = OnwardHas m answer a now modules onward
PlaceHas m answer a now modules Ticking = Unit {0}
PlaceHas m answer a now modules (Switching space) = Unit {0}
PlaceHas m answer a now modules Loading = Unit {0}
PlaceHas m answer a now modules Expecting = Unit {0}
PlaceHas m answer a now modules (Exchanging seen) = Unit {0}
PlaceHas m answer a now modules (Locking fault) = Unit {0}
PlaceHas m answer a now modules (InSession s) = PhaseHas m answer a now modules s s.phase
PlaceHas m answer a now modules (Leaving e) = EndHas m modules e
PlaceHas m answer a now modules (Lessening e) = EndHas m modules e
PlaceHas m answer a now modules (Gone e) = EndHas m modules e
PlaceHas m answer a now modules LiveLooking = Unit {0}
PlaceHas m answer a now modules TimeLooking = Unit {0}
PlaceHas m answer a now modules Over = Unit {0}

-- in a private state
abbrev pub PrivateHas : Machine → Answer → (a : ℕ) → List ℕ → Private → Type 0
PrivateHas m answer a modules p = PlaceHas m answer a p.now modules p.place

end-has : (m : Machine) (modules : List ℕ) (e : End) → EndHas m modules e → Some e ≡ Some end.NoFrames → HasEachModule m modules
end-has m modules end.Halted has goes = absurd cc
end-has m modules end.Trapped has goes = absurd cc
end-has m modules end.Spent has goes = absurd cc
end-has m modules end.NoFrames has goes = has
end-has m modules end.Cut has goes = absurd cc

-- on the way to the end for want of a frame it has every module
pub starved-has :
    (m : Machine) (answer : Answer) (a now : ℕ) (modules : List ℕ) (place : Place) → PlaceHas m answer a now modules place →
    goes_to place ≡ Some end.NoFrames → HasEachModule m modules
starved-has m answer a now modules (Polling onward) has goes = absurd cc
starved-has m answer a now modules (Looking i moment onward) has goes = absurd cc
starved-has m answer a now modules (Applying i message moment onward) has goes = absurd cc
starved-has m answer a now modules Ticking has goes = absurd cc
starved-has m answer a now modules (Switching space) has goes = absurd cc
starved-has m answer a now modules Loading has goes = absurd cc
starved-has m answer a now modules Expecting has goes = absurd cc
starved-has m answer a now modules (Exchanging seen) has goes = absurd cc
starved-has m answer a now modules (Locking fault) has goes = absurd cc
starved-has m answer a now modules (InSession s) has goes = absurd cc
starved-has m answer a now modules (Leaving e) has goes = end-has m modules e has goes
starved-has m answer a now modules (Lessening e) has goes = end-has m modules e has goes
starved-has m answer a now modules (Gone e) has goes = end-has m modules e has goes
starved-has m answer a now modules LiveLooking has goes = absurd cc
starved-has m answer a now modules TimeLooking has goes = absurd cc
starved-has m answer a now modules Over has goes = absurd cc

-- ---- one operation of actor a

-- the list after the operation of a place found n, and what the operation told
abbrev pub list_after : Option (WordName × Op) → (n : ℕ) → List ℕ → List ℕ
list_after None n modules = modules
list_after (Some x) n modules = emptied_by x.0 x.1 n modules

abbrev pub told_by : Option (WordName × Op) → (n : ℕ) → ℕ
told_by None n = n
told_by (Some x) n = told x.1 n

module _ (m : Machine) (answer : Answer) (a : ℕ) (modules : List ℕ) where
  -- ---- polls, scans and turns

  turn_over-has : (now turns : ℕ) → PlaceHas m answer a now modules (turn_over m turns)
  turn_over-has now turns =
      cond_both (turns == m.budget) (Leaving end.Spent) (Polling NewTurn) (PlaceHas m answer a now modules) (λ h. tt) (λ h. tt)

  go_on-has : (now turns : ℕ) (onward : Onward) → OnwardHas m answer a now modules onward →
      PlaceHas m answer a now modules (go_on m turns onward)
  go_on-has now turns NewTurn has = tt
  go_on-has now turns TurnOver has = turn_over-has now turns
  go_on-has now turns (Relock fault) has = tt
  go_on-has now turns (Rewait s) has = has

  scan_from-has : (now turns space i : ℕ) (moment : Moment) (onward : Onward) → OnwardHas m answer a now modules onward →
      PlaceHas m answer a now modules (scan_from m turns space i moment onward)
  scan_from-has now turns space i moment onward has =
      cond_both (nat_lt i (length (entries_of_space m space))) (Looking i moment onward) (go_on m turns onward)
      (PlaceHas m answer a now modules) (λ h. has) (λ h. go_on-has now turns onward has)

  poll_place-has : (p : Private) (onward : Onward) (n : ℕ) → OnwardHas m answer a p.now modules onward →
      PlaceHas m answer a p.now modules (poll_place m p onward n)
  poll_place-has p onward n has =
      cond_both (has_bit n p.guest.space) (scan_from m p.turns p.guest.space 0 moment.Interrupt onward) (go_on m p.turns onward)
      (PlaceHas m answer a p.now modules) (λ h. scan_from-has p.now p.turns p.guest.space 0 moment.Interrupt onward has)
      (λ h. go_on-has p.now p.turns onward has)

  look_place-has : (p : Private) (i : ℕ) (moment : Moment) (onward : Onward) (n : ℕ) → OnwardHas m answer a p.now modules onward →
      PlaceHas m answer a p.now modules (look_place m a p i moment onward n)
  look_place-has p i moment onward n has =
      cond_both (has_invalidate n a) (Applying i message.Invalidate moment onward)
      (if has_restrict n a then Applying i message.Restrict moment onward else scan_from m p.turns p.guest.space (i + 1) moment onward)
      (PlaceHas m answer a p.now modules) (λ h. has)
      (λ k. cond_both (has_restrict n a) (Applying i message.Restrict moment onward)
      (scan_from m p.turns p.guest.space (i + 1) moment onward) (PlaceHas m answer a p.now modules) (λ h. has)
      (λ h. scan_from-has p.now p.turns p.guest.space (i + 1) moment onward has))

  -- ---- accesses

  look_up_place-has : (now : ℕ) (p : Private) (r : Reach) → PlaceHas m answer a now modules (look_up_place m p r)
  look_up_place-has now p r =
      cond_both (has_right r.kind (translation_at p (entry_of m r))) (if is_write r.kind then Expecting else Loading)
      (Locking (record { page = r.page; entry = Some (entry_of m r); cause = cause_of r.kind })) (PlaceHas m answer a now modules)
      (λ h. cond_both (is_write r.kind) Expecting Loading (PlaceHas m answer a now modules) (λ k. tt) (λ k. tt)) (λ h. tt)

  turn_does-has : (p : Private) (w : Want) → PrivateHas m answer a modules (turn_does m a p w)
  turn_does-has p want.Local = turn_over-has p.now p.turns
  turn_does-has p (want.Access kind space addr operand) = look_up_place-has p.now p (reach_of m kind space addr operand)
  turn_does-has p (want.Switch space) = tt
  turn_does-has p (want.Print value) = turn_over-has p.now p.turns
  turn_does-has p want.Halted = tt
  turn_does-has p want.Trap = tt

  access_over-has : (p : Private) (n : ℕ) → PrivateHas m answer a modules (access_over m a p n)
  access_over-has p n = turn_over-has p.now p.turns

  -- ---- the daemon

  page_done-has : (p : Private) (page : ℕ) → PrivateHas m answer a modules (page_done m p page)
  page_done-has p page =
      cond_both (nat_lt (page + 1) m.pages) (at p (Locking (thaw_of (page + 1)))) _ (PrivateHas m answer a modules) (λ h. tt) (λ h. tt)

  pass_begun-has : (p : Private) (n : ℕ) → PrivateHas m answer a modules (pass_begun p n)
  pass_begun-has p n = cond_both (nat_lt n p.due) (at p LiveLooking) _ (PrivateHas m answer a modules) (λ h. tt) (λ h. tt)

  -- ---- sessions

  lock_place_after-has : (now : ℕ) (fault : Fault) (n : ℕ) → a ≢ m.nodes →
      PlaceHas m answer a now modules (lock_place_after m a fault n)
  lock_place_after-has now fault n processor =
      cond_both (is_locked n) (if a == m.nodes then Locking fault else Polling (Relock fault)) _ (PlaceHas m answer a now modules)
      (λ h. cond_both (a == m.nodes) (Locking fault) (Polling (Relock fault)) (PlaceHas m answer a now modules) (λ k. tt) (λ k. tt))
      (λ h. locked (a == m.nodes) (ne_eqb a m.nodes processor))
    where
      locked : (b : Bool) → b ≡ false →
          PlaceHas m answer a now modules
          (InSession (record {
            fault = fault;
            dir = dir_read n;
            phase = if b && not (dir_read n).frozen then Returning else Stamping;
          }))
      locked true is = absurd cc
      locked false is = tt

  shoot_place-has : (now : ℕ) (s : Session) (c : Course) (shoot : Shoot) →
      PlaceHas m answer a now modules (shoot_place (with_phase s (with_shoot m answer a now s c shoot)) shoot)
  shoot_place-has now s c (Makes posts shot) = tt
  shoot_place-has now s c (Polls posts k) = tt
  shoot_place-has now s c (Done posts) = with_shoot-has m answer a now modules s c (Done posts)

  -- the own translation may be dropped
  dropped-has : (p : Private) (rem : Removed) (o : Option ℕ) (place : Place) → PlaceHas m answer a p.now modules place →
      PrivateHas m answer a modules (at (drop_own p rem o) place)
  dropped-has p rem None place has = has
  dropped-has p rem (Some e) place has = has

  returned-has : (p : Private) (s : Session) → HasEachModule m modules → PrivateHas m answer a modules (returned m a p s)
  returned-has p s has =
      cond_both (a == m.nodes) (page_done m p s.fault.page) (at p (Leaving end.NoFrames)) (PrivateHas m answer a modules)
      (λ h. page_done-has p s.fault.page) (λ h. has)

  unlocked-has : (p : Private) (s : Session) (c : Course) → PrivateHas m answer a modules (unlocked m answer a p s c)
  unlocked-has p s c =
      cond_both (a == m.nodes) (page_done m p s.fault.page)
      (look_up m (reach_now m a p) (forget_page m s.fault.page (decision_of m answer a p.now s c).removed p))
      (PrivateHas m answer a modules) (λ h. page_done-has p s.fault.page)
      (λ h. look_up_place-has p.now (forget_page m s.fault.page (decision_of m answer a p.now s c).removed p) (reach_now m a p))

abbrev session_at : Fault → Dir → Phase → Session
session_at fault dir phase = record { fault = fault; dir = dir; phase = phase }

module _ (m : Machine) (answer : Answer) (a : ℕ) (modules : List ℕ) (p : Private) (n : ℕ) where
  -- ---- it is followed

  phase-goes : (fault : Fault) (dir : Dir) (phase : Phase) →
      PhaseHas m answer a p.now modules (session_at fault dir phase) phase →
      PrivateHas m answer a (list_after (named_next m answer a p (InSession (session_at fault dir phase))) n modules)
      (moved_at m answer a p (told_by (named_next m answer a p (InSession (session_at fault dir phase))) n)
      (InSession (session_at fault dir phase)))
  phase-goes fault dir Stamping has =
      seek_from-has m answer a p.now modules (session_at fault dir Stamping) (record { last = last_read n; seq = seq_read n }) 0
      (λ k below. absurd (omega (arith, below)))
  phase-goes fault dir (Seeking st i) has =
      pool-seen m answer a p.now modules (session_at fault dir (Seeking st i)) st i n (n == 0) has
  phase-goes fault dir (Taking st i seen) has =
      let s = session_at fault dir (Taking st i seen) in
      pool-missed m answer a p.now modules s st i n (Some (frame_taken m answer a p.now s st i seen)) (n == 0) (n == seen) has
  phase-goes fault dir Returning has = returned-has m answer a modules p (session_at fault dir Returning) has
  phase-goes fault dir (Shooting c shot) has =
      let s = session_at fault dir (Shooting c shot) in
      let operation = named_next m answer a p (InSession s) in
      let x = told_by operation n in
      dropped-has m answer a (list_after operation n modules) p (decision_of m answer a p.now s c).removed
      (own_post m a fault.page c.posts x shot) _
      (shoot_place-has m answer a (list_after operation n modules) p.now s c (shot_after m a fault.page c.posts x shot))
  phase-goes fault dir (Filling c w) has =
      fill_from-has m answer a p.now modules (session_at fault dir (Filling c w)) c (w + 1)
  phase-goes fault dir (Reading c w) has = tt
  phase-goes fault dir (Copying c w seen) has =
      copy_from-has m answer a p.now modules (session_at fault dir (Copying c w seen)) c (w + 1)
  phase-goes fault dir (Giving c k) has =
      let s = session_at fault dir (Giving c k) in
      give_from-has m answer a p.now (list_after (named_next m answer a p (InSession s)) n modules) s c (k + 1)
  phase-goes fault dir (Storing c) has =
      cond_both (a == m.nodes) (Unlocking c) (Granting c) (PhaseHas m answer a p.now modules (session_at fault dir (Storing c)))
      (λ h. tt) (λ h. tt)
  phase-goes fault dir (Granting c) has = tt
  phase-goes fault dir (Unlocking c) has = unlocked-has m answer a modules p (session_at fault dir (Unlocking c)) c

  pub place-goes :
      (place : Place) → a ≢ m.nodes → PlaceHas m answer a p.now modules place → PrivateHas m answer a modules p →
      PrivateHas m answer a (list_after (named_next m answer a p place) n modules)
      (moved_at m answer a p (told_by (named_next m answer a p place) n) place)
  place-goes (Polling onward) processor has still = poll_place-has m answer a modules p onward n has
  place-goes (Looking i moment onward) processor has still = look_place-has m answer a modules p i moment onward n has
  place-goes (Applying i msg moment onward) processor has still =
      scan_from-has m answer a modules p.now p.turns p.guest.space (i + 1) moment onward has
  place-goes Ticking processor has still =
      turn_does-has m answer a modules (record p { turns = p.turns + 1; now = n + 1 }) (want_of m a p.guest)
  place-goes (Switching space) processor has still =
      scan_from-has m answer a modules p.now p.turns space 0 moment.Activation TurnOver tt
  place-goes Loading processor has still = access_over-has m answer a modules p n
  place-goes Expecting processor has still = tt
  place-goes (Exchanging seen) processor has still =
      cond_both (n == seen) (access_over m a p n) (at p (Exchanging n)) (PrivateHas m answer a modules)
      (λ h. access_over-has m answer a modules p n) (λ h. tt)
  place-goes (Locking fault) processor has still = lock_place_after-has m answer a [] p.now fault n processor
  place-goes (InSession s) processor has still = phase-goes s.fault s.dir s.phase has
  place-goes (Leaving e) processor has still = has
  place-goes (Lessening e) processor has still = has
  place-goes (Gone e) processor has still = still
  place-goes LiveLooking processor has still =
      cond_both (n == 0) Over TimeLooking (PlaceHas m answer a p.now modules) (λ h. tt) (λ h. tt)
  place-goes TimeLooking processor has still = pass_begun-has m answer a modules p n
  place-goes Over processor has still = still

  -- ---- it is not: the actor stays where it is

  more-if : (b : Bool) (mo : ℕ) (s : Session) (phase : Phase) → PhaseHas m answer a p.now modules s phase →
      PhaseHas m answer a p.now (if b then modules ++ mo ∷ [] else modules) s phase
  more-if true mo s phase has = has-more m answer a p.now modules (mo ∷ []) s phase has
  more-if false mo s phase has = has

  phase-stays : (fault : Fault) (dir : Dir) (phase : Phase) →
      PhaseHas m answer a p.now modules (session_at fault dir phase) phase →
      PhaseHas m answer a p.now (list_after (named_next m answer a p (InSession (session_at fault dir phase))) n modules)
      (session_at fault dir phase) phase
  phase-stays fault dir Stamping has = tt
  phase-stays fault dir (Seeking st i) has =
      let s = session_at fault dir (Seeking st i) in
      more-if (n == 0 && true) (module_tried m answer a p.now s st i) s (Seeking st i) has
  phase-stays fault dir (Taking st i seen) has =
      let s = session_at fault dir (Taking st i seen) in
      more-if (n == 0 && not (n == seen)) (module_tried m answer a p.now s st i) s (Taking st i seen) has
  phase-stays fault dir Returning has = has
  phase-stays fault dir (Shooting c shot) has = tt
  phase-stays fault dir (Filling c w) has = tt
  phase-stays fault dir (Reading c w) has = tt
  phase-stays fault dir (Copying c w seen) has = tt
  phase-stays fault dir (Giving c k) has = tt
  phase-stays fault dir (Storing c) has = tt
  phase-stays fault dir (Granting c) has = tt
  phase-stays fault dir (Unlocking c) has = tt

  pub place-stays :
      (place : Place) → PlaceHas m answer a p.now modules place →
      PlaceHas m answer a p.now (list_after (named_next m answer a p place) n modules) place
  place-stays (Polling onward) has = has
  place-stays (Looking i moment onward) has = has
  place-stays (Applying i msg moment onward) has = has
  place-stays Ticking has = tt
  place-stays (Switching space) has = tt
  place-stays Loading has = tt
  place-stays Expecting has = tt
  place-stays (Exchanging seen) has = tt
  place-stays (Locking fault) has = tt
  place-stays (InSession s) has = phase-stays s.fault s.dir s.phase has
  place-stays (Leaving e) has = has
  place-stays (Lessening e) has = has
  place-stays (Gone e) has = has
  place-stays LiveLooking has = tt
  place-stays TimeLooking has = tt
  place-stays Over has = tt
