-- turns: where a poll, a scan, a look-up and the end of a turn lead
use Rattle.std.proofs.Common.{◌≡◌, ◌≢◌, ℕ, ◌+◌, ◌<◌, ◌≤◌, true, List, length, Some, refl, arith, ap, sym, subst}
use Rattle.std.specs.Prelude.{◌==◌, nat_lt, if◌then◌else◌, Option}
use Rattle.std.proofs.lemmas.Bool.{cond_both, ltb-true, eqb-true, eqb-false}
use Rattle.plat_base.specs.Verdicts.{Answer}
use Rattle.plat_base.specs.Machine.{Machine}
use Rattle.plat_base.specs.Pages.{entries_of_space}
use Rattle.plat_base.specs.GuestRun.{Reach, reach_of, want_of}
use Rattle.plat_base.specs.Flat.{is_write}
use Rattle.plat_base.specs.Held.{has_right}
use Rattle.plat_base.specs.Accesses.{cause_of}
use Rattle.plat_base.specs.Cache.{Place as CachePlace}
use Rattle.plat_base.specs.declared.items.Kind.{Kind}
use Rattle.plat_base.specs.declared.items.Item.{Item}
use Rattle.plat_base.specs.declared.items.Message.TheVariants as message
use Rattle.plat_base.specs.declared.items.Moment.{Moment}
use Rattle.plat_base.specs.declared.items.Moment.TheVariants as moment
use Rattle.plat_base.specs.declared.endings.End.TheVariants as end
use Rattle.plat_base.specs.declared.guests.Want.{Want}
use Rattle.plat_base.specs.declared.guests.Want.TheVariants as want
use Rattle.plat_laws.specs.Guests.{IsWithinLimits}
use Rattle.plat_laws.proofs.GuestLaws.{IsReach-wanted, reach_of-page}
use Rattle.plat_events.specs.Words.{has_bit, has_invalidate, has_restrict}
use Rattle.plat_events.specs.Privates.{Onward, NewTurn, TurnOver, Relock, Rewait, Place, Polling, Looking, Applying, Loading, Expecting}
use Rattle.plat_events.specs.Privates.{Locking, Leaving, Private, translation_at}
use Rattle.plat_events.specs.Sessions.{Fault}
use Rattle.plat_events.specs.Events.{reach_wanted, reach_now, entry_of, look_up_place}
use Rattle.plat_events.specs.Scans.{turn_over, go_on, scan_from, poll_place, look_place}
use Rattle.plat_local_laws.specs.Faults.{WantsAccess}
use Rattle.plat_local_laws.specs.Standing.{leads_to, OnwardOk, PollingOk, ScanningOk, PlaceOk, StandingOk}
use Rattle.plat_local_laws.proofs.MovedLemmas.{moved_to, PlaceOk-moved}
use Rattle.plat_local_laws.proofs.PmapLaws.{TranslationsOk}

-- ---- the private state at another place

pub standing-at :
    (m : Machine) (answer : Answer) (a : ℕ) (p : Private) (x : Place) (c : List (Option CachePlace)) (d : ℕ) (j : List Item)
    → TranslationsOk m p → p.turns ≤ m.budget → PlaceOk m answer a p x → StandingOk m answer a (moved_to p x c d j)
standing-at m answer a p x c d j t b h = record {
  all_entries = t.all_entries;
  translations = t.translations;
  turns_most = b;
  place = PlaceOk-moved m answer a p x x c d j h;
}

-- ---- the end of a turn, and of a scan

pub turn_over-ok :
    (m : Machine) (answer : Answer) (a : ℕ) (p : Private) → a < m.nodes → p.turns ≤ m.budget → PlaceOk m answer a p (turn_over m p.turns)
turn_over-ok m answer a p l b =
    cond_both (p.turns == m.budget) (Leaving end.Spent) (Polling NewTurn) (PlaceOk m answer a p)
    (λ e. record { processor = l; end = eqb-true p.turns m.budget e })
    (λ e. let n : p.turns ≢ m.budget = eqb-false p.turns m.budget e in record { processor = l; leads = refl; behind = omega arith })

pub go_on-ok :
    (m : Machine) (answer : Answer) (a : ℕ) (p : Private) (onward : Onward) → a < m.nodes → p.turns ≤ m.budget
    → OnwardOk m answer a p onward → PlaceOk m answer a p (go_on m p.turns onward)
go_on-ok m answer a p NewTurn l b h = record { processor = l; left = h }
go_on-ok m answer a p TurnOver l b h = turn_over-ok m answer a p l b
go_on-ok m answer a p (Relock fault) l b h = h
go_on-ok m answer a p (Rewait s) l b h = h.session

pub scan_from-ok :
    (m : Machine) (answer : Answer) (a : ℕ) (p : Private) (i : ℕ) (moment : Moment) (onward : Onward) → a < m.nodes → p.turns ≤ m.budget
    → leads_to moment onward ≡ true → OnwardOk m answer a p onward
    → PlaceOk m answer a p (scan_from m p.turns p.guest.space i moment onward)
scan_from-ok m answer a p i moment onward l b k h =
    cond_both (nat_lt i (length (entries_of_space m p.guest.space))) (Looking i moment onward) (go_on m p.turns onward)
    (PlaceOk m answer a p)
    (λ e. record { processor = l; left = ltb-true i (length (entries_of_space m p.guest.space)) e; leads = k; behind = h })
    (λ _. go_on-ok m answer a p onward l b h)

pub poll_place-ok :
    (m : Machine) (answer : Answer) (a : ℕ) (p : Private) (onward : Onward) (n : ℕ) → p.turns ≤ m.budget
    → PollingOk m answer a p onward → PlaceOk m answer a p (poll_place m p onward n)
poll_place-ok m answer a p onward n b h =
    cond_both (has_bit n p.guest.space) (scan_from m p.turns p.guest.space 0 moment.Interrupt onward) (go_on m p.turns onward)
    (PlaceOk m answer a p)
    (λ _. scan_from-ok m answer a p 0 moment.Interrupt onward h.processor b h.leads h.behind)
    (λ _. go_on-ok m answer a p onward h.processor b h.behind)

pub look_place-ok :
    (m : Machine) (answer : Answer) (a : ℕ) (p : Private) (i : ℕ) (moment : Moment) (onward : Onward) (n : ℕ) → p.turns ≤ m.budget
    → ScanningOk m answer a p i moment onward → PlaceOk m answer a p (look_place m a p i moment onward n)
look_place-ok m answer a p i moment onward n b h =
    cond_both (has_invalidate n a) (Applying i message.Invalidate moment onward)
    (if has_restrict n a then Applying i message.Restrict moment onward else scan_from m p.turns p.guest.space (i + 1) moment onward)
    (PlaceOk m answer a p) (λ _. h)
    (λ _. cond_both (has_restrict n a) (Applying i message.Restrict moment onward)
    (scan_from m p.turns p.guest.space (i + 1) moment onward) (PlaceOk m answer a p) (λ _. h)
    (λ _. scan_from-ok m answer a p (i + 1) moment onward h.processor b h.leads h.behind))

-- ---- the look-up of an access

-- the access under way, once the guest wants it
pub reach_now-wanted :
    (m : Machine) (a : ℕ) (p : Private) (k : Kind) (sp ad o : ℕ) → want_of m a p.guest ≡ want.Access k sp ad o
    → reach_now m a p ≡ reach_of m k sp ad o
reach_now-wanted m a p k sp ad o e = ap (reach_wanted m) e

wanted_now :
    (m : Machine) (w : Want) (k : Kind) (sp ad o : ℕ) → w ≡ want.Access k sp ad o
    → w ≡ want.Access (reach_wanted m w).kind (reach_wanted m w).space (reach_wanted m w).addr (reach_wanted m w).operand
wanted_now m w k sp ad o e =
    subst (λ x. x ≡ want.Access (reach_wanted m x).kind (reach_wanted m x).space (reach_wanted m x).addr (reach_wanted m x).operand)
    (sym e) refl

pub WantsAccess-from :
    (m : Machine) (a : ℕ) (p : Private) (k : Kind) (sp ad o : ℕ) → want_of m a p.guest ≡ want.Access k sp ad o → WantsAccess m a p
WantsAccess-from m a p k sp ad o e = wanted_now m (want_of m a p.guest) k sp ad o e

-- its page is one of the machine
reach_now-page : (m : Machine) (a : ℕ) (p : Private) → IsWithinLimits m → WantsAccess m a p → (reach_now m a p).page < m.pages
reach_now-page m a p h w =
    let r = reach_now m a p in
    let same = reach_now-wanted m a p r.kind r.space r.addr r.operand w in
    rw (ap (λ (x : Reach). x.page) same)
    (reach_of-page m p.guest r.kind r.space r.addr r.operand _ h (IsReach-wanted m a p.guest r.kind r.space r.addr r.operand w))

pub look_up-ok :
    (m : Machine) (answer : Answer) (a : ℕ) (p : Private) → IsWithinLimits m → a < m.nodes → WantsAccess m a p
    → PlaceOk m answer a p (look_up_place m p (reach_now m a p))
look_up-ok m answer a p h l w =
    let r = reach_now m a p in
    let fault : Fault = record { page = r.page; entry = Some (entry_of m r); cause = cause_of r.kind } in
    cond_both (has_right r.kind (translation_at p (entry_of m r))) (if is_write r.kind then Expecting else Loading) (Locking fault)
    (PlaceOk m answer a p)
    (λ e. cond_both (is_write r.kind) Expecting Loading (PlaceOk m answer a p)
    (λ k. record { processor = l; wants = w; right = e; kind = k })
    (λ k. record { processor = l; wants = w; right = e; kind = k }))
    (λ e. record {
      lacks = λ _. e;
      locks = record {
        page = reach_now-page m a p h w;
        access = λ _. record { wants = w; page = refl; entry = refl; cause = refl };
        thaw = λ q. absurd (omega arith);
      };
    })
