-- the word that an operation leaves is one that the machine may have, while no counter has come to its most
use Rattle.std.proofs.Common.{◌≡◌, ℕ, ◌+◌, ◌-◌, ◌*◌, ◌^◌, ◌<◌, ◌≤◌, Bool, true, false, List, length, Some, None, refl, arith, inl, inr}
use Rattle.std.specs.Prelude.{◌==◌, nat_lt, if◌then◌else◌, Option, slice_get, bit_or}
use Rattle.std.proofs.lemmas.Bool.{cond_both, lt-ltb, ltb-true, le-leb, leb-true, and_parts}
use Rattle.plat_base.specs.Verdicts.{Answer}
use Rattle.plat_base.specs.Machine.{Machine}
use Rattle.plat_base.specs.Pages.{program_of, space_of, initial_value}
use Rattle.plat_base.specs.GuestRun.{GuestState, wanted, wanted_next, address, register}
use Rattle.plat_base.specs.Done.{new_value}
use Rattle.plat_base.specs.Decide.{is_dir}
use Rattle.plat_base.proofs.LimitLemmas.{initial_value-below}
use Rattle.plat_base.specs.declared.limits.TheConstants.{SPACES}
use Rattle.plat_base.specs.declared.frames.Dir.{Dir}
use Rattle.plat_base.specs.declared.guests.Instr.{Instr}
use Rattle.plat_base.specs.declared.guests.Instr.TheVariants as instr
use Rattle.plat_base.specs.declared.guests.Want.TheVariants as want
use Rattle.plat_base.specs.declared.items.Kind.{Kind}
use Rattle.plat_base.specs.declared.items.Kind.TheVariants as kind
use Rattle.plat_base.specs.declared.items.Removed.{Removed}
use Rattle.plat_base.specs.declared.words.Op.TheVariants as op
use Rattle.plat_base.specs.declared.words.WordName.TheVariants as word
use Rattle.plat_laws.specs.Guests.{IsWithinLimits}
use Rattle.plat_laws.proofs.Limits.{nodes-most, frames-most, budget-most, entry-limits}
use Rattle.plat_words.proofs.Locks.{is_dir_word-dir, locked_word}
use Rattle.plat_words.proofs.Masks.{mask_of, is_mask-of, granted-mask, applied-mask, posted-mask}
use Rattle.plat_words.proofs.Numbers.{is_data_word-word, is_stamp_word-word, one_more, one_less}
use Rattle.plat_words.proofs.Pools.{given_below}
use Rattle.plat_events.specs.Words.{stamp_word, last_number, value_read, version_read, without_lowest, posted_mask}
use Rattle.plat_events.specs.Places.{most_changes, is_word, is_mask_word}
use Rattle.plat_events.specs.Shootdowns.{Shot, Posting, PostingOn, Asking, Interrupting, Watching, AskingAgain, target_at, shot_next}
use Rattle.plat_events.specs.Sessions.{Fault, Course, Phase, Stamping, Seeking, Taking, Returning, Shooting, Filling, Reading, Copying}
use Rattle.plat_events.specs.Sessions.{Giving, Storing, Granting, Unlocking, Session, decision_of, frame_going, last_stored, session_next}
use Rattle.plat_events.specs.Privates.{Place, Polling, Looking, Applying, Ticking, Switching, Loading, Expecting, Exchanging, Locking}
use Rattle.plat_events.specs.Privates.{InSession, Leaving, Lessening, Gone, LiveLooking, TimeLooking, Over, Private, actor_count}
use Rattle.plat_events.specs.Events.{reach_now, memory_now, word_after, named_next}
use Rattle.plat_events.specs.Shown.{IsReachedAlone}
use Rattle.plat_local_laws.specs.Faults.{AccessOk, FaultOk}
use Rattle.plat_local_laws.specs.Phases.{StampOk, ShotOk, CourseOk, SessionOk}
use Rattle.plat_local_laws.specs.Standing.{PlaceOk}
use Rattle.plat_local_laws.specs.Alone.{PrivateOk}
use Rattle.plat_local_laws.specs.Words.{CountersLeft, LeavesWord}
use Rattle.plat_local_laws.proofs.CourseLaws.{IsActor, fault_decides, thaw_decides}
use Rattle.plat_local_laws.proofs.SessionLaws.{session_at}
use Rattle.plat_local_laws.proofs.StandingLaws.{actor-is}
use Rattle.plat_local_laws.proofs.PrivateLaws.{private_ok}
use Rattle.plat_local_laws.proofs.PassLaws.{more_times}
use Rattle.plat_local_laws.proofs.SpaceLaws.{switch-space}
use Rattle.plat_local_laws.proofs.RegisterLaws.{HasNumbers, register-below, value_read-below, wrapped}
use Rattle.plat_local_laws.proofs.NameLaws.{target_at-below, going-frame}

-- ---- counters

pub turns-few : (m : Machine) → IsWithinLimits m → m.nodes * m.budget ≤ 524288
turns-few m h = omega (arith, more_times m.nodes 8 m.budget (nodes-most m h), budget-most m h)

-- ---- what a guest stores

trap-operand : (b : Bool) (k1 k2 : Kind) (sp1 ad1 o1 sp ad o : ℕ) → (if b then want.Access k1 sp1 ad1 o1 else want.Trap)
    ≡ want.Access k2 sp ad o → o1 ≡ o
trap-operand true k1 k2 sp1 ad1 o1 sp ad o h = cc
trap-operand false k1 k2 sp1 ad1 o1 sp ad o h = absurd cc

wanted-operand :
    (m : Machine) (s : GuestState) (i : Instr) (k : Kind) (sp ad o : ℕ) → HasNumbers s → wanted m s i ≡ want.Access k sp ad o
    → o < 4294967296
wanted-operand m s (instr.Set d n) k sp ad o h w = absurd cc
wanted-operand m s (instr.Move d b) k sp ad o h w = absurd cc
wanted-operand m s (instr.Add d b c) k sp ad o h w = absurd cc
wanted-operand m s (instr.Sub d b c) k sp ad o h w = absurd cc
wanted-operand m s (instr.Mul d b c) k sp ad o h w = absurd cc
wanted-operand m s (instr.And d b c) k sp ad o h w = absurd cc
wanted-operand m s (instr.Shr d b c) k sp ad o h w = absurd cc
wanted-operand m s (instr.Load d at i) k sp ad o h w =
    omega (arith, trap-operand _ kind.Load k s.space (address s at i) 0 sp ad o w)
wanted-operand m s (instr.Store r at i) k sp ad o h w =
    omega (arith, trap-operand _ kind.Store k s.space (address s at i) (register s r) sp ad o w, register-below s.registers r h)
wanted-operand m s (instr.Fadd d r at i) k sp ad o h w =
    omega (arith, trap-operand _ kind.Add k s.space (address s at i) (register s r) sp ad o w, register-below s.registers r h)
wanted-operand m s (instr.Switch next) k sp ad o h w = absurd cc
wanted-operand m s (instr.Print r) k sp ad o h w = absurd cc
wanted-operand m s (instr.Jump l) k sp ad o h w = absurd cc
wanted-operand m s (instr.Zero b l) k sp ad o h w = absurd cc
wanted-operand m s (instr.Less b c l) k sp ad o h w = absurd cc
wanted-operand m s instr.Halt k sp ad o h w = absurd cc

next-operand :
    (m : Machine) (s : GuestState) (i : Option Instr) (k : Kind) (sp ad o : ℕ) → HasNumbers s → wanted_next m s i ≡ want.Access k sp ad o
    → o < 4294967296
next-operand m s None k sp ad o h w = absurd cc
next-operand m s (Some i) k sp ad o h w = wanted-operand m s i k sp ad o h w

pub new_value-below : (k : Kind) (old o : ℕ) → old < 4294967296 → o < 4294967296 → new_value k old o < 4294967296
new_value-below kind.Load old o h l = h
new_value-below kind.Store old o h l = l
new_value-below kind.Add old o h l = wrapped (old + o)

-- ---- the words of each operation

exchange-word :
    (m : Machine) (a : ℕ) (p : Private) (seen n : ℕ) → IsWithinLimits m → AccessOk m a p true → HasNumbers p.guest
    → version_read seen < m.nodes * m.budget →
    LeavesWord m (Some (memory_now m a p, op.Exchange seen (word_after (reach_now m a p) seen))) n
exchange-word m a p seen n h k numbers l w =
    let r = reach_now m a p in
    let value = new_value-below r.kind (value_read seen) r.operand (value_read-below seen)
    (next-operand m p.guest (slice_get (program_of m a).code p.guest.at) r.kind r.space r.addr r.operand numbers k.wants) in
    cond_both (n == seen) (word_after r seen) n (λ x. is_word m (memory_now m a p) x ≡ true)
    (λ _. is_data_word-word m (new_value r.kind (value_read seen) r.operand) (version_read seen + 1) value
    (omega (arith, turns-few m h)) (omega arith))
    (λ _. w)

shot-words :
    (m : Machine) (a page : ℕ) (rem : Removed) (posts : List ℕ) (shot : Shot) (n : ℕ) → IsWithinLimits m → ShotOk m a page posts shot
    → LeavesWord m (Some (shot_next m a page rem posts shot)) n
shot-words m a page rem posts Posting n h k w = w
shot-words m a page rem posts (PostingOn seen) n h k w =
    cond_both (n == seen) (posted_mask rem a seen) n (λ x. is_mask_word m x ≡ true)
    (λ _. is_mask-of m (posted_mask rem a seen) (posted-mask m seen a rem (mask_of m seen k.mask))) (λ _. w)
shot-words m a page rem posts (Asking k) n h t w = w
shot-words m a page rem posts (Interrupting k) n h t w =
    let e = (target_at m a page posts k).entry in
    let below = ltb-true e (length m.entries) (target_at-below m a page posts k t.left).0 in
    lt-ltb (bit_or n (2 ^ space_of m e)) (2 ^ SPACES)
    (given_below n (space_of m e) 8 (ltb-true n (2 ^ SPACES) w) (omega (arith, (entry-limits m e h below).0)))
shot-words m a page rem posts (Watching k) n h t w = w
shot-words m a page rem posts (AskingAgain k) n h t w = w

last-most : (last : Option ℕ) (most : ℕ) → ((t : ℕ) → last ≡ Some t → t ≤ most) → last_number last ≤ most + 1
last-most None most h = omega arith
last-most (Some t) most h = omega (arith, h t refl)

some_now : (now t most : ℕ) → now ≤ most → Some now ≡ Some t → t ≤ most
some_now now t most l k = let same : now ≡ t = cc in omega arith

-- the directory after a change
after-dir :
    (m : Machine) (answer : Answer) (a : ℕ) (p : Private) (s : Session) (c : Course) → IsActor m a → FaultOk m a p s.fault
    → CourseOk m answer a p s c → is_dir m (decision_of m answer a p.now s c).after ≡ true
after-dir m answer a p s c (inl l) f k = (fault_decides m answer a p s c f k l).dir
after-dir m answer a p s c (inr q) f k = (thaw_decides m answer a p s c f k q).0.dir

stamp-words :
    (m : Machine) (answer : Answer) (a : ℕ) (p : Private) (s : Session) (c : Course) → IsWithinLimits m → StampOk m c.stamp
    → c.stamp.seq < most_changes → p.now ≤ m.nodes * m.budget → (page n : ℕ)
    → LeavesWord m (Some (
      word.Stamp page,
      op.Store (stamp_word (last_stored (decision_of m answer a p.now s c) p.now c.stamp.last) (c.stamp.seq + 1)),
    )) n
stamp-words m answer a p s c h k l b page n w =
    let last = last_stored (decision_of m answer a p.now s c) p.now c.stamp.last in
    let most : last_number last ≤ m.nodes * m.budget + 1 =
    cond_both (decision_of m answer a p.now s c).sets_last (Some p.now) c.stamp.last (λ x. last_number x ≤ m.nodes * m.budget + 1)
    (λ _. last-most (Some p.now) (m.nodes * m.budget) (λ t e. some_now p.now t (m.nodes * m.budget) b e))
    (λ _. last-most c.stamp.last (m.nodes * m.budget) k.last) in
    is_stamp_word-word m last (c.stamp.seq + 1) most (omega (arith, most, turns-few m h)) (omega arith)

session-words :
    (m : Machine) (answer : Answer) (a : ℕ) (p : Private) (n : ℕ) (f : Fault) (d : Dir) (phase : Phase) → IsWithinLimits m → IsActor m a
    → SessionOk m answer a p (session_at f d phase) → p.place ≡ InSession (session_at f d phase) → CountersLeft m p n
    → LeavesWord m (Some (session_next m answer a p.now (session_at f d phase) phase)) n
session-words m answer a p n f d Stamping h actor k e left w = w
session-words m answer a p n f d (Seeking st i) h actor k e left w = w
session-words m answer a p n f d (Taking st i seen) h actor k e left w =
    cond_both (n == seen) (without_lowest seen) n (λ x. nat_lt x (2 ^ m.frames) ≡ true)
    (λ _. lt-ltb (without_lowest seen) (2 ^ m.frames) (omega (arith, k.phase.pool))) (λ _. w)
session-words m answer a p n f d Returning h actor k e left w = is_dir_word-dir m d false (nodes-most m h) (frames-most m h) k.dir
session-words m answer a p n f d (Shooting c shot) h actor k e left w =
    shot-words m a f.page (decision_of m answer a p.now (session_at f d (Shooting c shot)) c).removed c.posts shot n h k.phase.stands w
session-words m answer a p n f d (Filling c i) h actor k e left w =
    is_data_word-word m (initial_value m f.page i) 0 (initial_value-below m f.page i h) (omega arith) (omega arith)
session-words m answer a p n f d (Reading c i) h actor k e left w = w
session-words m answer a p n f d (Copying c i seen) h actor k e left w = k.phase.word
session-words m answer a p n f d (Giving c i) h actor k e left w =
    let x = decision_of m answer a p.now (session_at f d (Giving c i)) c in
    let frame = going-frame m d x i k.dir k.phase.left in
    let number = (and_parts (nat_lt (frame_going d x i).module m.nodes) (nat_lt (frame_going d x i).number m.frames) frame).1 in
    lt-ltb (bit_or n (2 ^ (frame_going d x i).number)) (2 ^ m.frames)
    (given_below n (frame_going d x i).number m.frames (ltb-true n (2 ^ m.frames) w) (ltb-true (frame_going d x i).number m.frames number))
session-words m answer a p n f d (Storing c) h actor k e left w =
    let s = session_at f d (Storing c) in
    let room = left.stamp s c e refl in
    stamp-words m answer a p s c h k.phase.quiet.course.stamp room.0 room.1 f.page n w
session-words m answer a p n f d (Granting c) h actor k e left w =
    is_mask-of m (bit_or n (2 ^ a)) (granted-mask m n a k.phase.processor (nodes-most m h) (mask_of m n w))
session-words m answer a p n f d (Unlocking c) h actor k e left w =
    let s = session_at f d (Unlocking c) in
    is_dir_word-dir m (decision_of m answer a p.now s c).after false (nodes-most m h) (frames-most m h)
    (after-dir m answer a p s c actor k.fault k.phase.quiet.course)

place-words :
    (m : Machine) (answer : Answer) (a : ℕ) (p : Private) (n : ℕ) (place : Place) → IsWithinLimits m → IsActor m a → HasNumbers p.guest
    → PlaceOk m answer a p place → p.place ≡ place → CountersLeft m p n → LeavesWord m (named_next m answer a p place) n
place-words m answer a p n (Polling onward) h actor r k e left = λ w. refl
place-words m answer a p n (Looking i moment onward) h actor r k e left = λ w. w
place-words m answer a p n (Applying i msg moment onward) h actor r k e left = λ w.
    is_mask-of m _ (applied-mask m n a msg (omega (arith, k.processor, nodes-most m h)) (mask_of m n w))
place-words m answer a p n Ticking h actor r k e left = λ w.
    let room = left.tick e in
    let one = one_more n (omega (arith, turns-few m h)) in
    rw one (le-leb (n + 1) (m.nodes * m.budget) (omega arith))
place-words m answer a p n (Switching space) h actor r k e left = λ w.
    le-leb (space + 1) SPACES (omega (arith, switch-space m a p.guest space h k.processor k.wants))
place-words m answer a p n Loading h actor r k e left = λ w. w
place-words m answer a p n Expecting h actor r k e left = λ w. w
place-words m answer a p n (Exchanging seen) h actor r k e left = λ w. exchange-word m a p seen n h k.access r (left.version seen e) w
place-words m answer a p n (Locking fault) h actor r k e left = λ w. (locked_word m n (nodes-most m h) (frames-most m h) w).2
place-words m answer a p n (InSession s) h actor r k e left = λ w. session-words m answer a p n s.fault s.dir s.phase h actor k e left w
place-words m answer a p n (Leaving x) h actor r k e left = λ w. refl
place-words m answer a p n (Lessening x) h actor r k e left = λ w.
    let some = left.live x e in
    let few = leb-true n m.nodes w in
    let one = one_less n some (omega (arith, few, nodes-most m h)) in
    rw one (le-leb (n - 1) m.nodes (omega arith))
place-words m answer a p n (Gone x) h actor r k e left = tt
place-words m answer a p n LiveLooking h actor r k e left = λ w. w
place-words m answer a p n TimeLooking h actor r k e left = λ w. w
place-words m answer a p n Over h actor r k e left = tt

-- the next operation of an actor leaves a word that the machine may have
pub leaves_word :
    (m : Machine) (answer : Answer) (a : ℕ) (p : Private) (n : ℕ) → IsWithinLimits m → IsActor m a → PrivateOk m answer a p
    → CountersLeft m p n → LeavesWord m (named_next m answer a p p.place) n
leaves_word m answer a p n h actor k left = place-words m answer a p n p.place h actor k.registers k.standing.place refl left

pub reached_leaves :
    (m : Machine) (answer : Answer) (a : ℕ) (p : Private) (n : ℕ) → IsWithinLimits m → a < actor_count m → IsReachedAlone m answer a p
    → CountersLeft m p n → LeavesWord m (named_next m answer a p p.place) n
reached_leaves m answer a p n h l r left = leaves_word m answer a p n h (actor-is m a l) (private_ok m answer a p h l r) left
