-- the session on a page is that of an actor, and what the actor alone says of it holds
use Rattle.std.specs.Prelude.{◌≡◌, ℕ, zero, suc, ◌+◌, ◌<◌, if◌then◌else◌, Bool, true, false, List, [], ◌∷◌, length, Option, Some, None}
use Rattle.std.specs.Prelude.{slice_get}
use Rattle.std.specs.Prelude.{◌⊎◌}
use Rattle.std.proofs.Common.{refl, ap, sym, ◌∙◌, inl, inr, arith, subst}
use Rattle.std.specs.Option.{option_map}
use Rattle.std.proofs.lemmas.Bool.{eqb-true, true≢false}
use Rattle.std.proofs.lemmas.Option.{slice_get_within, get_or_from_slice_get}
use Rattle.plat_base.specs.Verdicts.{Answer}
use Rattle.plat_base.specs.Machine.{Machine}
use Rattle.plat_base.specs.declared.items.Moment.{Moment}
use Rattle.plat_base.specs.declared.items.Moment.TheVariants as moment
use Rattle.plat_events.specs.Sessions.{Session}
use Rattle.plat_events.specs.Privates.{Onward, NewTurn, TurnOver, Relock, Rewait, Place, Polling, Looking, Applying, Ticking, Switching}
use Rattle.plat_events.specs.Privates.{Loading, Expecting, Exchanging, Locking, InSession, Leaving, Lessening, Gone, LiveLooking}
use Rattle.plat_events.specs.Privates.{TimeLooking, Over, Private, actor_count, first_private}
use Rattle.plat_events.specs.Kept.{Running, running_of, runs_on, session_on, session_of, session_behind, has_left, scan_left, activation_at}
use Rattle.plat_events.specs.Kept.{message_at, private_of}
use Rattle.plat_events.specs.Standings.{is_quiet}
use Rattle.plat_events.specs.Runs.{Fine}
use Rattle.plat_events.specs.Shown.{Shows}
use Rattle.plat_local_laws.specs.Standing.{OnwardOk, PlaceOk, RewaitOk, leads_to}
pub use Rattle.plat_local_laws.proofs.RunningLaws.{place-session as session-ok}
use Rattle.plat_fine_laws.proofs.SessionOnLaws.{found_in, found_or, found_from, found_from-first}

-- ---- the actor of a session

record Found (page k : ℕ) (ps : List Private) (r : Running) : Type 0 where
  place : ℕ
  private : Private
  stands : slice_get ps place ≡ Some private
  runs : running_of (k + place, private) ≡ Some r
  on : runs_on page r ≡ true

found_in-is : (page : ℕ) (o : Option Running) (r : Running) → found_in page o ≡ Some r → (o ≡ Some r) × (runs_on page r ≡ true)
found_in-is page None r h = absurd cc
found_in-is page (Some x) r h = by (runs_on page x) refl h
  where
    by : (b : Bool) → runs_on page x ≡ b → (if b then Some x else None) ≡ Some r → (Some x ≡ Some r) × (runs_on page r ≡ true)
    by true is h = let same : x ≡ r = cc in (h, subst (λ y. runs_on page y ≡ true) same is)
    by false is h = absurd cc

found_or-is : (o other : Option Running) (r : Running) → found_or o other ≡ Some r → (o ≡ Some r) ⊎ (other ≡ Some r)
found_or-is None other r h = inr h
found_or-is (Some x) other r h = inl h

found_from-is : (page k : ℕ) (ps : List Private) (r : Running) → found_from page k ps ≡ Some r → Found page k ps r
found_from-is page k [] r h = absurd cc
found_from-is page k (p ∷ ps) r h =
    joined page k p ps r
    (found_or-is (found_in page (running_of (k, p))) (found_from page (k + 1) ps) r (sym (found_from-first page k p ps) ∙ h))
    (λ there. found_from-is page (k + 1) ps r there)
  where
    joined :
        (page k : ℕ) (p : Private) (ps : List Private) (r : Running) →
        (found_in page (running_of (k, p)) ≡ Some r) ⊎ (found_from page (k + 1) ps ≡ Some r) →
        (found_from page (k + 1) ps ≡ Some r → Found page (k + 1) ps r) → Found page k (p ∷ ps) r
    joined page k p ps r (inl here) more =
        let is = found_in-is page (running_of (k, p)) r here in let number : k + zero ≡ k = omega arith in
        record { place = zero; private = p; stands = refl; runs = ap (λ n. running_of (n, p)) number ∙ is.0; on = is.1 }
    joined page k p ps r (inr there) more =
        let found = more there in let number : k + suc found.place ≡ k + 1 + found.place = omega arith in
        record {
          place = suc found.place;
          private = found.private;
          stands = found.stands;
          runs = ap (λ n. running_of (n, found.private)) number ∙ found.runs;
          on = found.on;
        }

-- the running of an option of a session
running-parts :
    (a now : ℕ) (o : Option Session) (r : Running) →
    option_map (λ (x : Session). record { actor = a; now = now; session = x }) o ≡ Some r →
    (o ≡ Some r.session) × (r.actor ≡ a) × (r.now ≡ now)
running-parts a now None r h = absurd cc
running-parts a now (Some x) r h =
    let same : ◌≡◌ {A = Running} (record { actor = a; now = now; session = x }) r = cc in
    (ap (λ (y : Running). Some y.session) same, sym (ap (λ (y : Running). y.actor) same), sym (ap (λ (y : Running). y.now) same))

-- the session on a page, as its actor has it
pub record RunsOn (m : Machine) (s : Fine) (page : ℕ) (r : Running) : Type 0 where
  pub actor : r.actor < actor_count m
  pub session : session_of (private_of m s r.actor).place ≡ Some r.session
  pub now : r.now ≡ (private_of m s r.actor).now
  pub on : r.session.fault.page ≡ page

pub runs_on-actor :
    (m : Machine) (answer : Answer) (s : Fine) (page : ℕ) (r : Running) → Shows m answer s → session_on s.privates page ≡ Some r →
    RunsOn m s page r
runs_on-actor m answer s page r shows on =
    let found = found_from-is page 0 s.privates r on in
    let number : 0 + found.place ≡ found.place = omega arith in
    let parts =
    running-parts found.place found.private.now (session_of found.private.place) r
    (ap (λ n. running_of (n, found.private)) (sym number) ∙ found.runs) in
    let there : private_of m s r.actor ≡ found.private =
    ap (private_of m s) parts.1
    ∙ get_or_from_slice_get s.privates found.place found.private (first_private m found.place) found.stands in
    let within : found.place < length s.privates = slice_get_within s.privates found.place found.private found.stands in
    record {
      actor = let actor = parts.1 in omega (arith, shows.all_privates);
      session = ap (λ (p : Private). session_of p.place) there ∙ parts.0;
      now = parts.2 ∙ ap (λ (p : Private). p.now) (sym there);
      on = eqb-true r.session.fault.page page found.on;
    }

-- ---- what an actor alone says of its session

onward-session :
    (m : Machine) (answer : Answer) (a : ℕ) (p : Private) (onward : Onward) (x : Session) → OnwardOk m answer a p onward →
    session_behind onward ≡ Some x → RewaitOk m answer a p x
onward-session m answer a p NewTurn x ok is = absurd cc
onward-session m answer a p TurnOver x ok is = absurd cc
onward-session m answer a p (Relock fault) x ok is = absurd cc
onward-session m answer a p (Rewait y) x ok is = let same : y ≡ x = cc in subst (RewaitOk m answer a p) same ok

-- ---- where an actor with a session stands

-- it has not left, no activation scan is under way, and behind a shootdown it applies no message
pub record StandsIn (m : Machine) (p : Private) (place : Place) (x : Session) : Type 0 where
  pub left : has_left place ≡ false
  pub scan : activation_at place ≡ None
  pub message : is_quiet x.phase ≡ true → message_at m p place ≡ None

interrupt-only :
    (when : Moment) (onward : Onward) (x : Session) → leads_to when onward ≡ true → session_behind onward ≡ Some x →
    when ≡ moment.Interrupt
interrupt-only moment.Interrupt onward x leads is = refl
interrupt-only moment.Activation NewTurn x leads is = absurd cc
interrupt-only moment.Activation TurnOver x leads is = absurd cc
interrupt-only moment.Activation (Relock fault) x leads is = absurd cc
interrupt-only moment.Activation (Rewait y) x leads is = absurd cc

rewait-loud : (m : Machine) (answer : Answer) (a : ℕ) (p : Private) (x : Session) → RewaitOk m answer a p x → is_quiet x.phase ≡ true → ⊥
rewait-loud m answer a p x ok quiet =
    let watches = ok.watches in let loud : is_quiet x.phase ≡ false = ap is_quiet watches.2 in true≢false (sym quiet ∙ loud)

pub stands-in :
    (m : Machine) (answer : Answer) (a : ℕ) (p : Private) (place : Place) (x : Session) → PlaceOk m answer a p place →
    session_of place ≡ Some x → StandsIn m p place x
stands-in m answer a p (Polling onward) x ok is = record { left = refl; scan = refl; message = λ quiet. refl }
stands-in m answer a p (Looking i moment onward) x ok is = record {
  left = refl;
  scan = ap (λ k. scan_left k i) (interrupt-only moment onward x ok.leads is);
  message = λ quiet. refl;
}
stands-in m answer a p (Applying i msg moment onward) x ok is = record {
  left = refl;
  scan = ap (λ k. scan_left k i) (interrupt-only moment onward x ok.leads is);
  message = λ quiet. absurd (rewait-loud m answer a p x (onward-session m answer a p onward x ok.behind is) quiet);
}
stands-in m answer a p Ticking x ok is = absurd cc
stands-in m answer a p (Switching space) x ok is = absurd cc
stands-in m answer a p Loading x ok is = absurd cc
stands-in m answer a p Expecting x ok is = absurd cc
stands-in m answer a p (Exchanging seen) x ok is = absurd cc
stands-in m answer a p (Locking fault) x ok is = absurd cc
stands-in m answer a p (InSession y) x ok is = record { left = refl; scan = refl; message = λ quiet. refl }
stands-in m answer a p (Leaving e) x ok is = absurd cc
stands-in m answer a p (Lessening e) x ok is = absurd cc
stands-in m answer a p (Gone e) x ok is = absurd cc
stands-in m answer a p LiveLooking x ok is = absurd cc
stands-in m answer a p TimeLooking x ok is = absurd cc
stands-in m answer a p Over x ok is = absurd cc
