-- registers: each is a number of 32 bits, whatever the guest does
use Rattle.std.proofs.Common.{◌≡◌, ℕ, zero, suc, ◌+◌, ◌-◌, ◌*◌, ◌/◌, ◌%◌, ◌^◌, ◌<◌, Bool, true, false, List, [], ◌∷◌, length, Some, None}
use Rattle.std.proofs.Common.{refl, arith, set, get_or}
use Rattle.std.specs.Prelude.{◌==◌, nat_lt, if◌then◌else◌, Option, bit_and, slice_get}
use Rattle.std.specs.List.{list_all}
use Rattle.std.proofs.lemmas.Bool.{cond_both, and_parts, and_from, lt-ltb, ltb-true}
use Rattle.std.proofs.lemmas.Bool.Decides.{nat_tests}
use Rattle.std.proofs.Math.Nat.{div-le_self}
use Rattle.std.proofs.lemmas.Nat.{and_le_l}
use Rattle.plat_base.specs.Verdicts.{Answer}
use Rattle.plat_base.specs.Machine.{Machine, Program, is_number, is_instr}
use Rattle.plat_base.specs.Pages.{program_of}
use Rattle.plat_base.specs.GuestRun.{GuestState, word_modulus, register, target, put, gone, passed, executed, executed_next, guest_after}
use Rattle.plat_base.specs.GuestRun.{want_of}
use Rattle.plat_base.specs.declared.guests.Instr.{Instr}
use Rattle.plat_base.specs.declared.guests.Instr.TheVariants as instr
use Rattle.plat_base.specs.declared.guests.Want.{Want}
use Rattle.plat_base.specs.declared.guests.Want.TheVariants as want
use Rattle.plat_base.specs.declared.items.Removed.{Removed}
use Rattle.plat_base.specs.declared.frames.Dir.{Dir}
use Rattle.plat_base.specs.declared.endings.End.TheVariants as end
use Rattle.plat_laws.specs.Guests.{IsWithinLimits}
use Rattle.plat_events.specs.Words.{value_read}
use Rattle.plat_events.specs.Shootdowns.{own_post}
use Rattle.plat_events.specs.Sessions.{Fault, Phase, Stamping, Seeking, Taking, Returning, Shooting, Filling, Reading, Copying, Giving}
use Rattle.plat_events.specs.Sessions.{Storing, Granting, Unlocking, decision_of}
use Rattle.plat_events.specs.Privates.{Place, Polling, Looking, Applying, Ticking, Switching, Loading, Expecting, Exchanging, Locking}
use Rattle.plat_events.specs.Privates.{InSession, Leaving, Lessening, Gone, LiveLooking, TimeLooking, Over, Private, period}
use Rattle.plat_events.specs.Events.{at, turn_does, thaw_of, page_done, drop_own, access_over, session_moved, moved_at, named_next}
use Rattle.plat_events.specs.Events.{is_followed}
use Rattle.plat_local_laws.specs.Standing.{PlaceOk}
use Rattle.plat_local_laws.proofs.SessionLaws.{session_at}
use Rattle.plat_local_laws.proofs.SpaceLaws.{program-instrs}

-- each register is a number of 32 bits
abbrev pub HasNumbers : GuestState → Type 0
HasNumbers s = list_all is_number s.registers ≡ true

-- ---- one instruction

pub register-below : (xs : List ℕ) (i : ℕ) → list_all is_number xs ≡ true → get_or xs i 0 < 4294967296
register-below [] i h = omega arith
register-below (x ∷ xs) zero h = ltb-true x 4294967296 (and_parts (is_number x) (list_all is_number xs) h).0
register-below (x ∷ xs) (suc i) h = register-below xs i (and_parts (is_number x) (list_all is_number xs) h).1

set-numbers : (xs : List ℕ) (i v : ℕ) → list_all is_number xs ≡ true → v < 4294967296 → list_all is_number (set xs i v) ≡ true
set-numbers [] i v h l = refl
set-numbers (x ∷ xs) zero v h l =
    and_from (is_number v) (list_all is_number xs) (lt-ltb v 4294967296 l) (and_parts (is_number x) (list_all is_number xs) h).1
set-numbers (x ∷ xs) (suc i) v h l =
    let both = and_parts (is_number x) (list_all is_number xs) h in
    and_from (is_number x) (list_all is_number (set xs i v)) both.0 (set-numbers xs i v both.1 l)

put-numbers : (s : GuestState) (r v : ℕ) → HasNumbers s → v < 4294967296 → HasNumbers (put s r v)
put-numbers s r v h l = set-numbers s.registers r v h l

pub wrapped : (n : ℕ) → n % 4294967296 < 4294967296
wrapped n = omega arith

goes-numbers : (b : Bool) (s : GuestState) (at : ℕ) → HasNumbers s → HasNumbers (if b then gone s at else passed s)
goes-numbers true s at h = h
goes-numbers false s at h = h

executed-numbers :
    (p : Program) (labels : ℕ) (i : Instr) (s : GuestState) (v : ℕ) → is_instr labels i ≡ true → HasNumbers s → v < 4294967296
    → HasNumbers (executed p i s v)
executed-numbers p labels (instr.Set d n) s v k h l = put-numbers s d n h (grind (arith, nat_tests))
executed-numbers p labels (instr.Move d a) s v k h l = put-numbers s d (register s a) h (register-below s.registers a h)
executed-numbers p labels (instr.Add d a b) s v k h l =
    put-numbers s d ((register s a + register s b) % word_modulus) h (wrapped (register s a + register s b))
executed-numbers p labels (instr.Sub d a b) s v k h l =
    put-numbers s d ((register s a + word_modulus - register s b) % word_modulus) h (wrapped (register s a + word_modulus - register s b))
executed-numbers p labels (instr.Mul d a b) s v k h l =
    put-numbers s d ((register s a * register s b) % word_modulus) h (wrapped (register s a * register s b))
executed-numbers p labels (instr.And d a b) s v k h l =
    put-numbers s d (bit_and (register s a) (register s b)) h
    (omega (arith, and_le_l (register s a) (register s b), register-below s.registers a h))
executed-numbers p labels (instr.Shr d a b) s v k h l =
    put-numbers s d (register s a / 2 ^ (register s b % 32)) h
    (omega (arith, div-le_self (register s a) (2 ^ (register s b % 32)), register-below s.registers a h))
executed-numbers p labels (instr.Load d at i) s v k h l = put-numbers s d v h l
executed-numbers p labels (instr.Store r at i) s v k h l = h
executed-numbers p labels (instr.Fadd d r at i) s v k h l = put-numbers s d v h l
executed-numbers p labels (instr.Switch space) s v k h l = h
executed-numbers p labels (instr.Print r) s v k h l = h
executed-numbers p labels (instr.Jump x) s v k h l = h
executed-numbers p labels (instr.Zero a x) s v k h l = goes-numbers (register s a == 0) s (target p x) h
executed-numbers p labels (instr.Less a b x) s v k h l = goes-numbers (nat_lt (register s a) (register s b)) s (target p x) h
executed-numbers p labels instr.Halt s v k h l = h

next-numbers :
    (p : Program) (labels : ℕ) (code : List Instr) (i : ℕ) (s : GuestState) (v : ℕ) → list_all (is_instr labels) code ≡ true → HasNumbers s
    → v < 4294967296 → HasNumbers (executed_next p s v (slice_get code i))
next-numbers p labels [] i s v k h l = h
next-numbers p labels (x ∷ xs) zero s v k h l =
    executed-numbers p labels x s v (and_parts (is_instr labels x) (list_all (is_instr labels) xs) k).0 h l
next-numbers p labels (x ∷ xs) (suc i) s v k h l =
    next-numbers p labels xs i s v (and_parts (is_instr labels x) (list_all (is_instr labels) xs) k).1 h l

pub guest_after-numbers :
    (m : Machine) (q : ℕ) (s : GuestState) (v : ℕ) → IsWithinLimits m → q < m.nodes → HasNumbers s → v < 4294967296
    → HasNumbers (guest_after m q s v)
guest_after-numbers m q s v h l k b =
    let p = program_of m q in next-numbers p (length p.labels) p.code s.at s v (program-instrs m q h l) k b

pub value_read-below : (n : ℕ) → value_read n < 4294967296
value_read-below n = omega arith

-- ---- any step

turn-numbers :
    (m : Machine) (a : ℕ) (p : Private) (w : Want) → IsWithinLimits m → a < m.nodes → HasNumbers p.guest
    → HasNumbers (turn_does m a p w).guest
turn-numbers m a p want.Local h l k = guest_after-numbers m a p.guest 0 h l k (omega arith)
turn-numbers m a p (want.Access kd sp ad o) h l k = k
turn-numbers m a p (want.Switch space) h l k = k
turn-numbers m a p (want.Print v) h l k = guest_after-numbers m a p.guest 0 h l k (omega arith)
turn-numbers m a p want.Halted h l k = k
turn-numbers m a p want.Trap h l k = k

drop_own-numbers : (p : Private) (rem : Removed) (o : Option ℕ) → HasNumbers p.guest → HasNumbers (drop_own p rem o).guest
drop_own-numbers p rem None k = k
drop_own-numbers p rem (Some e) k = k

page_done-numbers : (m : Machine) (p : Private) (page : ℕ) → HasNumbers p.guest → HasNumbers (page_done m p page).guest
page_done-numbers m p page k =
    cond_both (nat_lt (page + 1) m.pages) (at p (Locking (thaw_of (page + 1))))
    (record p { due = (p.now / period m.policy + 1) * period m.policy; place = LiveLooking }) (λ x. HasNumbers x.guest) (λ _. k) (λ _. k)

session-numbers :
    (m : Machine) (answer : Answer) (a : ℕ) (p : Private) (n : ℕ) (f : Fault) (d : Dir) (phase : Phase) → HasNumbers p.guest
    → HasNumbers (session_moved m answer a p n (session_at f d phase) phase).guest
session-numbers m answer a p n f d Stamping k = k
session-numbers m answer a p n f d (Seeking st i) k = k
session-numbers m answer a p n f d (Taking st i seen) k = k
session-numbers m answer a p n f d Returning k =
    cond_both (a == m.nodes) (page_done m p f.page) (at p (Leaving end.NoFrames)) (λ x. HasNumbers x.guest)
    (λ _. page_done-numbers m p f.page k) (λ _. k)
session-numbers m answer a p n f d (Shooting c shot) k =
    drop_own-numbers p (decision_of m answer a p.now (session_at f d (Shooting c shot)) c).removed (own_post m a f.page c.posts n shot) k
session-numbers m answer a p n f d (Filling c w) k = k
session-numbers m answer a p n f d (Reading c w) k = k
session-numbers m answer a p n f d (Copying c w seen) k = k
session-numbers m answer a p n f d (Giving c i) k = k
session-numbers m answer a p n f d (Storing c) k = k
session-numbers m answer a p n f d (Granting c) k = k
session-numbers m answer a p n f d (Unlocking c) k =
    cond_both (a == m.nodes) (page_done m p f.page) _ (λ x. HasNumbers x.guest) (λ _. page_done-numbers m p f.page k) (λ _. k)

pub place-registers :
    (m : Machine) (answer : Answer) (a : ℕ) (p : Private) (n : ℕ) (place : Place) → IsWithinLimits m → PlaceOk m answer a p place
    → is_followed m (named_next m answer a p place) n ≡ true → HasNumbers p.guest → HasNumbers (moved_at m answer a p n place).guest
place-registers m answer a p n (Polling onward) h s w k = k
place-registers m answer a p n (Looking i moment onward) h s w k = k
place-registers m answer a p n (Applying i msg moment onward) h s w k = k
place-registers m answer a p n Ticking h s w k =
    turn-numbers m a (record p { turns = p.turns + 1; now = n + 1 }) (want_of m a p.guest) h s.processor k
place-registers m answer a p n (Switching space) h s w k = guest_after-numbers m a p.guest 0 h s.processor k (omega arith)
place-registers m answer a p n Loading h s w k = guest_after-numbers m a p.guest (value_read n) h s.processor k (value_read-below n)
place-registers m answer a p n Expecting h s w k = k
place-registers m answer a p n (Exchanging seen) h s w k =
    cond_both (n == seen) (access_over m a p n) (at p (Exchanging n)) (λ x. HasNumbers x.guest)
    (λ _. guest_after-numbers m a p.guest (value_read n) h s.access.processor k (value_read-below n)) (λ _. k)
place-registers m answer a p n (Locking fault) h s w k = k
place-registers m answer a p n (InSession x) h s w k = session-numbers m answer a p n x.fault x.dir x.phase k
place-registers m answer a p n (Leaving x) h s w k = k
place-registers m answer a p n (Lessening x) h s w k = k
place-registers m answer a p n (Gone x) h s w k = k
place-registers m answer a p n LiveLooking h s w k = k
place-registers m answer a p n TimeLooking h s w k =
    cond_both (nat_lt n p.due) (at p LiveLooking) (record p { now = n; place = Locking (thaw_of 0) }) (λ x. HasNumbers x.guest) (λ _. k)
    (λ _. k)
place-registers m answer a p n Over h s w k = k
