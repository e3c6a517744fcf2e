-- the passes of the daemon: each number that is followed keeps the time of the next pass and the bound on its journal
use Rattle.std.proofs.Common.{◌≡◌, ℕ, ◌+◌, ◌-◌, ◌*◌, ◌/◌, ◌<◌, ◌≤◌, Bool, true, false, [], ◌∷◌, length, Some, None, refl, arith, ap, sym}
use Rattle.std.proofs.Common.{◌∙◌, length-append}
use Rattle.std.specs.Prelude.{◌==◌, nat_lt, if◌then◌else◌, Option}
use Rattle.std.proofs.lemmas.Bool.{cond_both, ltb-false, leb-true, eqb-false, true≢false}
use Rattle.std.proofs.Math.Nat.{mul-div_cancel, div-mul-le_self}
use Rattle.std.proofs.lemmas.Nat.{le-div}
use Rattle.plat_base.specs.Verdicts.{Answer}
use Rattle.plat_base.specs.Machine.{Machine}
use Rattle.plat_base.specs.Rules.{has_daemon}
use Rattle.plat_base.specs.declared.frames.Dir.{Dir}
use Rattle.plat_base.specs.declared.items.Removed.{Removed}
use Rattle.plat_base.specs.declared.items.Item.{Item}
use Rattle.plat_base.specs.declared.items.Item.TheVariants as item
use Rattle.plat_base.specs.declared.policies.PolicyKind.{PolicyKind}
use Rattle.plat_base.specs.declared.policies.PolicyKind.TheVariants as policy
use Rattle.plat_laws.specs.Guests.{IsWithinLimits}
use Rattle.plat_laws.proofs.Limits.{platinum-limits}
use Rattle.plat_events.specs.Words.{is_locked}
use Rattle.plat_events.specs.Shootdowns.{Shoot, Makes, Polls, Done, own_post, shot_after}
use Rattle.plat_events.specs.Sessions.{Fault, Phase, Stamping, Seeking, Taking, Returning, Shooting, Filling, Reading, Copying, Giving}
use Rattle.plat_events.specs.Sessions.{Storing, Granting, Unlocking, Session, decision_of, change_made, with_phase, session_next}
use Rattle.plat_events.specs.Privates.{Relock, Place, Polling, Looking, Applying, Ticking, Switching, Loading, Expecting, Exchanging}
use Rattle.plat_events.specs.Privates.{Locking, InSession, Leaving, Lessening, Gone, LiveLooking, TimeLooking, Over, Private, actor_count}
use Rattle.plat_events.specs.Privates.{first_place, first_private, period}
use Rattle.plat_events.specs.Events.{at, lock_place_after, thaw_of, page_done, drop_own, shoot_place, session_moved, moved_at, session_item}
use Rattle.plat_events.specs.Events.{item_at, named_next, is_followed, with_item}
use Rattle.plat_local_laws.specs.Phases.{SessionOk}
use Rattle.plat_local_laws.specs.Standing.{PlaceOk}
use Rattle.plat_local_laws.specs.Numbers.{is_faulting, pages_passed, PassesOk}
use Rattle.plat_local_laws.proofs.ShotLaws.{ShootOk, shot_after-ok}
use Rattle.plat_local_laws.proofs.PhaseLaws.{not_daemon}
use Rattle.plat_local_laws.proofs.SessionLaws.{session_at, shot-told}
use Rattle.plat_local_laws.proofs.GuestStepLaws.{with_made}

-- ---- nothing of it changes

passes-still :
    (m : Machine) (p q : Private) → PassesOk m p → q.due ≡ p.due → q.now ≡ p.now → q.journal ≡ p.journal
    → (is_faulting q.place ≡ true → is_faulting p.place ≡ true) → pages_passed q.place ≡ pages_passed p.place → PassesOk m q
passes-still m p q h d w j f g = record {
  due_some = rw d h.due_some;
  due_is = rw d h.due_is;
  due_most = rw d h.due_most;
  begun = λ k. rw (d, w) (h.begun (f k));
  now_most = rw w h.now_most;
  thaws = rw (j, d, g) h.thaws;
}

-- ---- the next page

times-more : (k pages : ℕ) → (k + 1) * pages ≡ k * pages + pages
times-more k pages = omega arith

less_times : (k pages page : ℕ) → 1 ≤ k → page < pages → (k - 1) * pages + (page + 1) ≤ k * pages
less_times k pages page h l =
    let e : k ≡ k - 1 + 1 = omega arith in
    let times : k * pages ≡ (k - 1) * pages + pages = ap (λ x. x * pages) e ∙ times-more (k - 1) pages in
    omega (arith, times)

pub more_times : (k n pages : ℕ) → k ≤ n → k * pages ≤ n * pages
more_times k n pages l = grind arith

div-most : (x y t : ℕ) → 0 < t → x ≤ y → x / t ≤ y / t
div-most x y t h l = le-div (x / t) y t h (omega (arith, div-mul-le_self x t))

-- the time of the pass after this one
next-due : (m : Machine) (p : Private) → 0 < period m.policy → (p.now / period m.policy + 1) * period m.policy / period m.policy
    ≡ p.now / period m.policy + 1
next-due m p h = mul-div_cancel (p.now / period m.policy + 1) h

page_done-passes :
    (m : Machine) (p : Private) (page : ℕ) (more : Option Item) → 0 < period m.policy → PassesOk m p → p.due ≤ p.now → page < m.pages
    → length (with_item p.journal more) ≤ (p.due / period m.policy - 1) * m.pages + (page + 1)
    → PassesOk m (with_made p (page_done m p page) more)
page_done-passes m p page more t h b l j =
    let due' = (p.now / period m.policy + 1) * period m.policy in
    let n = next-due m p t in
    let back : p.now / period m.policy + 1 - 1 ≡ p.now / period m.policy = omega arith in
    let passed = div-most p.due p.now (period m.policy) t b in
    cond_both (nat_lt (page + 1) m.pages) (at p (Locking (thaw_of (page + 1)))) (record p { due = due'; place = LiveLooking })
    (λ q. PassesOk m (with_made p q more))
    (λ _. record {
      due_some = h.due_some;
      due_is = h.due_is;
      due_most = h.due_most;
      begun = λ _. b;
      now_most = h.now_most;
      thaws = j;
    })
    (λ _. record {
      due_some = rw n (omega arith);
      due_is = rw n refl;
      due_most = rw n (omega (arith, div-most p.now (m.nodes * m.budget) (period m.policy) t h.now_most));
      begun = λ k. absurd (true≢false (sym k));
      now_most = h.now_most;
      thaws = rw (n, back)
          (omega (
            arith,
            j,
            less_times (p.due / period m.policy) m.pages page h.due_some l,
            more_times (p.due / period m.policy) (p.now / period m.policy) m.pages passed,
          ));
    })

-- ---- sessions

drop_own-due : (p : Private) (rem : Removed) (o : Option ℕ) → ((drop_own p rem o).due ≡ p.due) × ((drop_own p rem o).now ≡ p.now)
drop_own-due p rem None = (refl, refl)
drop_own-due p rem (Some e) = (refl, refl)

shoot-page :
    (m : Machine) (a : ℕ) (s : Session) (x : Phase) (sh : Shoot) → a ≡ m.nodes → ShootOk m a s.fault.page sh
    → pages_passed (shoot_place (with_phase s x) sh) ≡ s.fault.page
shoot-page m a s x (Makes posts shot) e h = refl
shoot-page m a s x (Polls posts k) e h = absurd (h.2 e)
shoot-page m a s x (Done posts) e h = refl

session-passes :
    (m : Machine) (answer : Answer) (a : ℕ) (p : Private) (n : ℕ) (f : Fault) (d : Dir) (phase : Phase) → 0 < period m.policy
    → a ≡ m.nodes → PassesOk m p → p.place ≡ InSession (session_at f d phase) → SessionOk m answer a p (session_at f d phase)
    → is_followed m (Some (session_next m answer a p.now (session_at f d phase) phase)) n ≡ true
    → PassesOk m
    (with_made p (session_moved m answer a p n (session_at f d phase) phase) (session_item m answer a p.now (session_at f d phase) phase))
session-passes m answer a p n f d Stamping t q h e s k =
    passes-still m p _ h refl refl refl (λ _. ap is_faulting e) (sym (ap pages_passed e))
session-passes m answer a p n f d (Seeking st i) t q h e s k =
    passes-still m p _ h refl refl refl (λ _. ap is_faulting e) (sym (ap pages_passed e))
session-passes m answer a p n f d (Taking st i seen) t q h e s k =
    passes-still m p _ h refl refl refl (λ _. ap is_faulting e) (sym (ap pages_passed e))
session-passes m answer a p n f d Returning t q h e s k =
    let j : length p.journal ≤ (p.due / period m.policy - 1) * m.pages + f.page = rw (ap pages_passed e) at h.thaws in
    cond_both (a == m.nodes) (page_done m p f.page) _ (λ x. PassesOk m (with_made p x None))
    (λ _. page_done-passes m p f.page None t h (h.begun (ap is_faulting e)) s.fault.page (omega (arith, j)))
    (λ r. absurd (eqb-false a m.nodes r q))
session-passes m answer a p n f d (Shooting c shot) t q h e s k =
    let x = session_at f d (Shooting c shot) in
    let rem = (decision_of m answer a p.now x c).removed in
    let own = own_post m a f.page c.posts n shot in
    let same = drop_own-due p rem own in
    let shoots = shot_after-ok m a f.page c.posts n shot s.phase.course.masks s.phase.stands (shot-told m a f.page rem c.posts shot n k) in
    passes-still m p _ h same.0 same.1 refl (λ _. ap is_faulting e)
    (shoot-page m a x _ (shot_after m a f.page c.posts n shot) q shoots ∙ sym (ap pages_passed e))
session-passes m answer a p n f d (Filling c w) t q h e s k =
    passes-still m p _ h refl refl refl (λ _. ap is_faulting e) (sym (ap pages_passed e))
session-passes m answer a p n f d (Reading c w) t q h e s k =
    passes-still m p _ h refl refl refl (λ _. ap is_faulting e) (sym (ap pages_passed e))
session-passes m answer a p n f d (Copying c w seen) t q h e s k =
    passes-still m p _ h refl refl refl (λ _. ap is_faulting e) (sym (ap pages_passed e))
session-passes m answer a p n f d (Giving c i) t q h e s k =
    passes-still m p _ h refl refl refl (λ _. ap is_faulting e) (sym (ap pages_passed e))
session-passes m answer a p n f d (Storing c) t q h e s k =
    passes-still m p _ h refl refl refl (λ _. ap is_faulting e) (sym (ap pages_passed e))
session-passes m answer a p n f d (Granting c) t q h e s k =
    passes-still m p _ h refl refl refl (λ _. ap is_faulting e) (sym (ap pages_passed e))
session-passes m answer a p n f d (Unlocking c) t q h e s k =
    let x = session_at f d (Unlocking c) in
    let i = item.Change (change_made m answer a p.now x c) in
    let j : length p.journal ≤ (p.due / period m.policy - 1) * m.pages + f.page = rw (ap pages_passed e) at h.thaws in
    cond_both (a == m.nodes) (page_done m p f.page) _ (λ y. PassesOk m (with_made p y (Some i)))
    (λ _. page_done-passes m p f.page (Some i) t h (h.begun (ap is_faulting e)) s.fault.page
    (omega (arith, j, length-append p.journal (i ∷ []))))
    (λ r. absurd (eqb-false a m.nodes r q))

-- ---- any step

lock-page : (m : Machine) (a : ℕ) (fault : Fault) (n : ℕ) → a ≡ m.nodes → pages_passed (lock_place_after m a fault n) ≡ fault.page
lock-page m a fault n e =
    cond_both (is_locked n) (if a == m.nodes then Locking fault else Polling (Relock fault)) (InSession _)
    (λ x. pages_passed x ≡ fault.page)
    (λ _. cond_both (a == m.nodes) (Locking fault) (Polling (Relock fault)) (λ x. pages_passed x ≡ fault.page) (λ _. refl)
    (λ r. absurd (eqb-false a m.nodes r e)))
    (λ _. refl)

live-still : (n : ℕ) → (is_faulting (if n == 0 then Over else TimeLooking) ≡ false)
    × (pages_passed (if n == 0 then Over else TimeLooking) ≡ 0)
live-still n =
    cond_both (n == 0) Over TimeLooking (λ x. (is_faulting x ≡ false) × (pages_passed x ≡ 0)) (λ _. (refl, refl)) (λ _. (refl, refl))

pub place-passes :
    (m : Machine) (answer : Answer) (a : ℕ) (p : Private) (n : ℕ) (place : Place) → 0 < period m.policy → a ≡ m.nodes → p.place ≡ place
    → PassesOk m p → PlaceOk m answer a p place → is_followed m (named_next m answer a p place) n ≡ true
    → PassesOk m (with_made p (moved_at m answer a p n place) (item_at m answer a p n place))
place-passes m answer a p n (Polling onward) t q e h k w = not_daemon m a k.processor q
place-passes m answer a p n (Looking i moment onward) t q e h k w = not_daemon m a k.processor q
place-passes m answer a p n (Applying i msg moment onward) t q e h k w = not_daemon m a k.processor q
place-passes m answer a p n Ticking t q e h k w = not_daemon m a k.processor q
place-passes m answer a p n (Switching space) t q e h k w = not_daemon m a k.processor q
place-passes m answer a p n Loading t q e h k w = not_daemon m a k.processor q
place-passes m answer a p n Expecting t q e h k w = not_daemon m a k.processor q
place-passes m answer a p n (Exchanging seen) t q e h k w = not_daemon m a k.access.processor q
place-passes m answer a p n (Locking fault) t q e h k w =
    passes-still m p _ h refl refl refl (λ _. ap is_faulting e) (lock-page m a fault n q ∙ sym (ap pages_passed e))
place-passes m answer a p n (InSession s) t q e h k w = session-passes m answer a p n s.fault s.dir s.phase t q h e k w
place-passes m answer a p n (Leaving x) t q e h k w = not_daemon m a k.processor q
place-passes m answer a p n (Lessening x) t q e h k w = not_daemon m a k.processor q
place-passes m answer a p n (Gone x) t q e h k w = absurd cc
place-passes m answer a p n LiveLooking t q e h k w =
    let still = live-still n in
    passes-still m p _ h refl refl refl (λ r. absurd (true≢false (sym r ∙ still.0))) (still.1 ∙ sym (ap pages_passed e))
place-passes m answer a p n TimeLooking t q e h k w =
    let j : length p.journal ≤ (p.due / period m.policy - 1) * m.pages + 0 = rw (ap pages_passed e) at h.thaws in
    cond_both (nat_lt n p.due) (at p LiveLooking) (record p { now = n; place = Locking (thaw_of 0) })
    (λ x. PassesOk m (with_made p x None))
    (λ _. passes-still m p _ h refl refl refl (λ r. absurd (true≢false (sym r))) (sym (ap pages_passed e)))
    (λ r. record {
      due_some = h.due_some;
      due_is = h.due_is;
      due_most = h.due_most;
      begun = λ _. ltb-false n p.due r;
      now_most = leb-true n (m.nodes * m.budget) w;
      thaws = j;
    })
place-passes m answer a p n Over t q e h k w = absurd cc

-- ---- the start

period_of : (m : Machine) (p : PolicyKind) → IsWithinLimits m → m.policy ≡ p → has_daemon p ≡ true → 0 < period p
period_of m policy.Place h e k = absurd cc
period_of m policy.Replicate h e k = absurd cc
period_of m (policy.Platinum t1 t2) h e k = omega (arith, (platinum-limits m t1 t2 h e).1)

pub daemon_has : (nodes a : ℕ) (b : Bool) → a < nodes + (if b then 1 else 0) → a ≡ nodes → b ≡ true
daemon_has nodes a true l e = refl
daemon_has nodes a false l e = absurd (omega arith)

pub period-some : (m : Machine) (a : ℕ) → IsWithinLimits m → a < actor_count m → a ≡ m.nodes → 0 < period m.policy
period-some m a h l e = period_of m m.policy h refl (daemon_has m.nodes a (has_daemon m.policy) l e)

one_period : (t : ℕ) → 0 < t → t / t ≡ 1
one_period t h = ap (λ x. x / t) one ∙ mul-div_cancel 1 h
  where
    one : t ≡ 1 * t
    one = omega arith

pub passes-first : (m : Machine) (a : ℕ) → 0 < period m.policy → PassesOk m (first_private m a)
passes-first m a t =
    let one = one_period (period m.policy) t in
    let still : (is_faulting (first_place m a) ≡ false) × (pages_passed (first_place m a) ≡ 0) =
    cond_both (a == m.nodes) LiveLooking (Polling _) (λ x. (is_faulting x ≡ false) × (pages_passed x ≡ 0)) (λ _. (refl, refl))
    (λ _. (refl, refl)) in
    record {
      due_some = rw one (omega arith);
      due_is = rw one (omega arith);
      due_most = rw one (omega arith);
      begun = λ k. absurd (true≢false (sym k ∙ still.0));
      now_most = omega arith;
      thaws = omega arith;
    }

-- one item for each page and pass at most
pub passes-room :
    (m : Machine) (p : Private) → 0 < period m.policy → PassesOk m p → (is_faulting p.place ≡ true → pages_passed p.place < m.pages)
    → (is_faulting p.place ≡ false → pages_passed p.place ≡ 0) → length p.journal ≤ m.nodes * m.budget / period m.policy * m.pages
passes-room m p t h f g =
    by (is_faulting p.place) refl
  where
    by : (b : Bool) → is_faulting p.place ≡ b → length p.journal ≤ m.nodes * m.budget / period m.policy * m.pages
    by true e =
        let now = h.begun e in
        let passed = div-most p.due (m.nodes * m.budget) (period m.policy) t (omega (arith, now, h.now_most)) in
        omega (
          arith,
          h.thaws,
          less_times (p.due / period m.policy) m.pages (pages_passed p.place) h.due_some (f e),
          more_times (p.due / period m.policy) (m.nodes * m.budget / period m.policy) m.pages passed,
        )
    by false e =
        let none = g e in
        let less : p.due / period m.policy - 1 ≤ m.nodes * m.budget / period m.policy = omega (arith, h.due_most) in
        omega (
          arith,
          h.thaws,
          none,
          more_times (p.due / period m.policy - 1) (m.nodes * m.budget / period m.policy) m.pages less,
        )
