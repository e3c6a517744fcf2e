-- the row of a session: the modules that are tried, the frame in hand, and the frames that are given back
use Rattle.std.proofs.Common.{◌≡◌, ◌≢◌, ℕ, zero, suc, ◌+◌, ◌<◌, ◌≤◌, Bool, true, false, List, [], ◌∷◌, length, Some, None, refl, arith, ap}
use Rattle.std.proofs.Common.{sym, ◌∙◌, ◌⊎◌, inl, inr, filter, fold}
use Rattle.std.specs.Prelude.{◌==◌, ◌&&◌, ◌||◌, nat_lt, if◌then◌else◌, not, Option, is_none, is_some, slice_index}
use Rattle.std.specs.List.{list_all, list_any, range_with_len}
use Rattle.std.proofs.lemmas.Bool.{cond_both, ltb-true, lt-ltb, eq-eqb, ne_eqb, and_parts, and_from, or_from}
use Rattle.std.proofs.lemmas.Bool.Decides.{nat_tests}
use Rattle.plat_base.specs.Verdicts.{Answer}
use Rattle.plat_base.specs.Machine.{Machine}
use Rattle.plat_base.specs.Copies.{copy_on, same_frame}
use Rattle.plat_base.specs.Alike.{same_verdict}
use Rattle.plat_base.specs.Held.{removes_all}
use Rattle.plat_base.specs.Decide.{Row, ReadFill, ReadLocal, ReadRemote, ReadCopy, ReadRemoteDirty, ReadCopyDirty, WriteFill, WriteLocal}
use Rattle.plat_base.specs.Decide.{WriteRemote, WriteMove, CollapseHere, CollapseNear, WriteMoveMany, Thawed, row_does, row_of, moves_page}
use Rattle.plat_base.specs.Decide.{frozen_after, decide, may_decide, fits_cause, fits_fault, is_dir, is_empty, is_frame, is_some_frame}
use Rattle.plat_base.specs.Decide.{is_frame_on, modules_rise, asks}
use Rattle.plat_base.proofs.CopiesLemmas.{same_frame-itself}
use Rattle.plat_base.specs.declared.frames.Frame.{Frame}
use Rattle.plat_base.specs.declared.frames.Dir.{Dir}
use Rattle.plat_base.specs.declared.items.Action.{Action}
use Rattle.plat_base.specs.declared.items.Action.TheVariants as action
use Rattle.plat_base.specs.declared.items.Cause.{Cause}
use Rattle.plat_base.specs.declared.items.Cause.TheVariants as cause
use Rattle.plat_base.specs.declared.items.Removed.TheVariants as removed
use Rattle.plat_base.specs.declared.policies.Decision.{Decision}
use Rattle.plat_base.specs.declared.policies.Verdict.TheVariants as verdict
use Rattle.plat_laws.proofs.TableLaws.{cause_of-fault, dir_parts, DecideFacts, decide_facts, ThawFacts, thaw_facts}
use Rattle.plat_events.specs.Sessions.{Fault, Stamp, Course, Session, decision_of, insert_near, by_distance, tried, module_tried, going}
use Rattle.plat_events.specs.Privates.{Private}
use Rattle.plat_local_laws.specs.Faults.{FaultOk}
use Rattle.plat_local_laws.specs.Phases.{gives_frames, CourseOk}
use Rattle.plat_base.proofs.LimitLemmas.{holds_at}

-- ---- the modules that are tried

insert_near-all :
    (p : ℕ → Bool) (m : Machine) (node mo : ℕ) (xs : List ℕ) → p mo ≡ true → list_all p xs ≡ true → list_all p (insert_near m node mo xs)
    ≡ true
insert_near-all p m node mo [] h k = grind (arith, nat_tests)
insert_near-all p m node mo (x ∷ xs) h k = grind (arith, nat_tests, insert_near-all p m node mo xs)

near-all :
    (p : ℕ → Bool) (m : Machine) (node a n : ℕ) (ms : List ℕ) → ((i : ℕ) → i < a + n → p i ≡ true) → list_all p ms ≡ true
    → list_all p (fold (λ xs mo. insert_near m node mo xs) ms (range_with_len a n)) ≡ true
near-all p m node a zero ms h k = k
near-all p m node a (suc n) ms h k =
    near-all p m node (a + 1) n (insert_near m node a ms) (λ i l. h i (omega arith)) (insert_near-all p m node a ms (h a (omega arith)) k)

by_distance-below : (m : Machine) (node : ℕ) → list_all (λ mo. nat_lt mo m.nodes) (by_distance m node) ≡ true
by_distance-below m node =
    near-all (λ mo. nat_lt mo m.nodes) m node 0 m.nodes [] (λ i l. lt-ltb i m.nodes (omega arith)) refl

one_below : (a n : ℕ) → a < n → list_all (λ mo. nat_lt mo n) (a ∷ []) ≡ true
one_below a n l = rw (lt-ltb a n l)

pub tried-below :
    (m : Machine) (answer : Answer) (a now : ℕ) (s : Session) (st : Stamp) → a < m.nodes
    → list_all (λ mo. nat_lt mo m.nodes) (tried m answer a now s st) ≡ true
tried-below m answer a now s st l =
    cond_both (is_empty s.dir.state) (by_distance m a)
    (if asks s.fault.cause s.dir a && same_verdict (answer s.dir st.last now) verdict.Move then a ∷ [] else [])
    (λ xs. list_all (λ mo. nat_lt mo m.nodes) xs ≡ true) (λ _. by_distance-below m a)
    (λ _. cond_both (asks s.fault.cause s.dir a && same_verdict (answer s.dir st.last now) verdict.Move) (a ∷ []) []
    (λ xs. list_all (λ mo. nat_lt mo m.nodes) xs ≡ true) (λ _. one_below a m.nodes l) (λ _. refl))

pub module_tried-below :
    (m : Machine) (answer : Answer) (a now : ℕ) (s : Session) (st : Stamp) (i : ℕ) → a < m.nodes
    → i < length (tried m answer a now s st) → module_tried m answer a now s st i < m.nodes
module_tried-below m answer a now s st i l k =
    ltb-true (module_tried m answer a now s st i) m.nodes
    (holds_at (λ mo. nat_lt mo m.nodes) (tried m answer a now s st) i 0 (tried-below m answer a now s st l) k)

-- the daemon tries none
pub tried-thaw :
    (m : Machine) (answer : Answer) (a now : ℕ) (s : Session) (st : Stamp) → s.fault.cause ≡ cause.Thaw → is_empty s.dir.state ≡ false
    → tried m answer a now s st ≡ []
tried-thaw m answer a now s st c e = rw (e, c)

-- ---- the frame in hand

pub fits_cause-fault :
    (m : Machine) (answer : Answer) (dir : Dir) (last : Option ℕ) (now node : ℕ) (c : Cause) (got : Option Frame) → c ≢ cause.Thaw
    → fits_cause m answer dir last now node c got
    ≡ fits_fault m dir (asks c dir node) (same_verdict (answer dir last now) verdict.Move) node got
fits_cause-fault m answer dir last now node cause.Read got h = refl
fits_cause-fault m answer dir last now node cause.Write got h = refl
fits_cause-fault m answer dir last now node cause.Thaw got h = absurd (h refl)

fits_none : (m : Machine) (dir : Dir) (asked moves : Bool) (node : ℕ) → is_empty dir.state ≡ false → fits_fault m dir asked moves node None
    ≡ true
fits_none m dir true true node e = rw e
fits_none m dir true false node e = rw e
fits_none m dir false moves node e = rw e

-- no frame fits where the page is not empty
pub may_none :
    (m : Machine) (answer : Answer) (dir : Dir) (last : Option ℕ) (now node : ℕ) (c : Cause) → is_dir m dir ≡ true
    → is_empty dir.state ≡ false → c ≢ cause.Thaw → may_decide m answer dir last now node c None ≡ true
may_none m answer dir last now node c h e n =
    and_from (is_dir m dir) (fits_cause m answer dir last now node c None) h
    (fits_cause-fault m answer dir last now node c None n ∙ fits_none m dir (asks c dir node) _ node e)

fits_some :
    (m : Machine) (node i : ℕ) (near : List ℕ) (f : Frame) (empty asked moves : Bool)
    → i < length (if empty then near else if asked && moves then node ∷ [] else []) → is_frame m f ≡ true
    → f.module ≡ slice_index (if empty then near else if asked && moves then node ∷ [] else []) i
    → (if empty then is_some_frame m (Some f) else if asked && moves then is_frame_on m node (Some f) else is_none (Some f)) ≡ true
fits_some m node i near f true asked moves l h e = h
fits_some m node zero near f false true true l h e =
    and_from (is_frame m f) (f.module == node) h (eq-eqb f.module node e)
fits_some m node (suc i) near f false true true l h e = absurd (omega arith)
fits_some m node i near f false true false l h e = absurd (omega arith)
fits_some m node i near f false false moves l h e = absurd (omega arith)

-- a frame of the module that is tried fits
pub may_some :
    (m : Machine) (answer : Answer) (a now : ℕ) (s : Session) (st : Stamp) (i : ℕ) (f : Frame) → is_dir m s.dir ≡ true
    → s.fault.cause ≢ cause.Thaw → i < length (tried m answer a now s st) → is_frame m f ≡ true
    → f.module ≡ module_tried m answer a now s st i → may_decide m answer s.dir st.last now a s.fault.cause (Some f) ≡ true
may_some m answer a now s st i f h n l g e =
    and_from (is_dir m s.dir) (fits_cause m answer s.dir st.last now a s.fault.cause (Some f)) h
    (fits_cause-fault m answer s.dir st.last now a s.fault.cause (Some f) n
    ∙ fits_some m a i (by_distance m a) f (is_empty s.dir.state) (asks s.fault.cause s.dir a)
    (same_verdict (answer s.dir st.last now) verdict.Move) l g e)

-- ---- the frames that are given back

copy_on-among : (mo : ℕ) (f : Frame) (fs : List Frame) → copy_on mo fs ≡ Some f → list_any (same_frame f) fs ≡ true
copy_on-among mo f [] h = absurd cc
copy_on-among mo f (g ∷ gs) h = grind (arith, nat_tests, same_frame-itself, copy_on-among mo f gs)

copy_on-head : (f : Frame) (fs : List Frame) → copy_on f.module (f ∷ fs) ≡ Some f
copy_on-head f fs = rw (eq-eqb f.module f.module refl)

copy_on-tail : (f g : Frame) (fs : List Frame) → g.module ≢ f.module → copy_on f.module (g ∷ fs) ≡ copy_on f.module fs
copy_on-tail f g fs n = rw (ne_eqb g.module f.module n)

pub rises : (low : ℕ) (f : Frame) (fs : List Frame) → modules_rise low (f ∷ fs) ≡ true →
    (low ≤ f.module) × (modules_rise (f.module + 1) fs ≡ true)
rises low f fs h = grind (arith, nat_tests)

all_kept :
    (keeps : Frame → Bool) (low : ℕ) (fs : List Frame) → modules_rise low fs ≡ true
    → ((f : Frame) → low ≤ f.module → copy_on f.module fs ≡ Some f → keeps f ≡ true) → filter (λ f. not (keeps f)) fs ≡ []
all_kept keeps low [] h k = refl
all_kept keeps low (g ∷ gs) h k =
    let r = rises low g gs h in
    rw (k g r.0 (copy_on-head g gs))
    (all_kept keeps (g.module + 1) gs r.1 (λ f l e. k f (omega arith) (copy_on-tail f g gs (omega arith) ∙ e)))

-- none is, where each copy stays
going-none :
    (m : Machine) (b : Dir) (d : Decision) → is_dir m b ≡ true
    → ((mo : ℕ) (f : Frame) → copy_on mo b.copies ≡ Some f → copy_on mo d.after.copies ≡ Some f) → going b d ≡ []
going-none m b d h k =
    all_kept (λ f. list_any (same_frame f) d.after.copies) 0 b.copies (dir_parts m b h).1
    (λ f _ e. copy_on-among f.module f d.after.copies (k f.module f e))

pub is_thaw : Action → Bool
is_thaw action.Fill = false
is_thaw action.MapLocal = false
is_thaw action.MapRemote = false
is_thaw action.Replicate = false
is_thaw action.Migrate = false
is_thaw action.Collapse = false
is_thaw action.Thaw = true

-- what removes all gives frames back, or thaws
pub row_does-removes :
    (m : Machine) (r : Row) (dir : Dir) (frozen : Bool) (node : ℕ) (got : Option Frame)
    → removes_all (row_does m r dir frozen node got).removed
    ≡ (gives_frames (row_does m r dir frozen node got).action || is_thaw (row_does m r dir frozen node got).action)
unfolding is_thaw
row_does-removes m ReadFill dir frozen node got = refl
row_does-removes m ReadLocal dir frozen node got = refl
row_does-removes m ReadRemote dir frozen node got = refl
row_does-removes m ReadCopy dir frozen node got = refl
row_does-removes m ReadRemoteDirty dir frozen node got = refl
row_does-removes m ReadCopyDirty dir frozen node got = refl
row_does-removes m WriteFill dir frozen node got = refl
row_does-removes m WriteLocal dir frozen node got = refl
row_does-removes m WriteRemote dir frozen node got = refl
row_does-removes m WriteMove dir frozen node got = refl
row_does-removes m CollapseHere dir frozen node got = refl
row_does-removes m CollapseNear dir frozen node got = refl
row_does-removes m WriteMoveMany dir frozen node got = refl
row_does-removes m Thawed dir frozen node got = refl

no_thaw : (x : Action) → x ≢ action.Thaw → is_thaw x ≡ false
unfolding is_thaw
no_thaw action.Fill h = refl
no_thaw action.MapLocal h = refl
no_thaw action.MapRemote h = refl
no_thaw action.Replicate h = refl
no_thaw action.Migrate h = refl
no_thaw action.Collapse h = refl
no_thaw action.Thaw h = absurd (h refl)

decide-removes :
    (m : Machine) (answer : Answer) (b : Dir) (last : Option ℕ) (now n : ℕ) (c : Cause) (got : Option Frame)
    → (decide m answer b last now n c got).action ≢ action.Thaw → gives_frames (decide m answer b last now n c got).action ≡ false
    → (decide m answer b last now n c got).removed ≢ removed.All
decide-removes m answer b last now n c got t g e =
    let v = answer b last now in
    let row = row_does-removes m (row_of c b.state (is_some (copy_on n b.copies)) (moves_page v got)) b
    (frozen_after (asks c b n) v b.frozen) n got in
    let all : removes_all (decide m answer b last now n c got).removed ≡ true = ap removes_all e in
    let none : removes_all (decide m answer b last now n c got).removed ≡ false =
    row ∙ or_from (gives_frames (decide m answer b last now n c got).action) (is_thaw (decide m answer b last now n c got).action) g
    (no_thaw (decide m answer b last now n c got).action t)
    in absurd cc

-- ---- by actor

-- an actor is a processor or the daemon
abbrev pub IsActor : Machine → ℕ → Type 0
IsActor m a = (a < m.nodes) ⊎ (a ≡ m.nodes)

pub cause-fault : (m : Machine) (a : ℕ) (p : Private) (s : Session) → FaultOk m a p s.fault → a < m.nodes → s.fault.cause ≢ cause.Thaw
cause-fault m a p s f l e = cause_of-fault _ (sym (f.access l).cause ∙ e)

pub cause-thaw : (m : Machine) (a : ℕ) (p : Private) (s : Session) → FaultOk m a p s.fault → a ≡ m.nodes → s.fault.cause ≡ cause.Thaw
cause-thaw m a p s f e = ap (λ (x : Fault). x.cause) (f.thaw e)

pub fault_decides :
    (m : Machine) (answer : Answer) (a : ℕ) (p : Private) (s : Session) (c : Course) → FaultOk m a p s.fault → CourseOk m answer a p s c
    → a < m.nodes → DecideFacts m s.dir c.got s.fault.cause (decision_of m answer a p.now s c)
fault_decides m answer a p s c f k l =
    decide_facts m answer s.dir c.stamp.last p.now a s.fault.cause c.got (cause-fault m a p s f l) k.may

thaw_got : (m : Machine) (answer : Answer) (b : Dir) (last : Option ℕ) (now n : ℕ) (got : Option Frame) →
    may_decide m answer b last now n cause.Thaw got ≡ true → (b.frozen ≡ true) × (got ≡ None)
thaw_got m answer b last now n None h =
    (grind (arith, nat_tests, and_parts (is_dir m b) (fits_cause m answer b last now n cause.Thaw None) h), refl)
thaw_got m answer b last now n (Some f) h =
    absurd (grind (arith, nat_tests, and_parts (is_dir m b) (fits_cause m answer b last now n cause.Thaw (Some f)) h))

thaw_facts_at :
    (m : Machine) (answer : Answer) (b : Dir) (last : Option ℕ) (now n : ℕ) (c : Cause) (got : Option Frame) → c ≡ cause.Thaw → got ≡ None
    → is_dir m b ≡ true → b.frozen ≡ true → ThawFacts m b (decide m answer b last now n c got)
thaw_facts_at m answer b last now n cause.Read got e g h f = absurd cc
thaw_facts_at m answer b last now n cause.Write got e g h f = absurd cc
thaw_facts_at m answer b last now n cause.Thaw (Some x) e g h f = absurd cc
thaw_facts_at m answer b last now n cause.Thaw None e g h f = thaw_facts m answer b last now n h f

pub thaw_decides :
    (m : Machine) (answer : Answer) (a : ℕ) (p : Private) (s : Session) (c : Course) → FaultOk m a p s.fault → CourseOk m answer a p s c
    → a ≡ m.nodes → (ThawFacts m s.dir (decision_of m answer a p.now s c)) × (c.got ≡ None)
thaw_decides m answer a p s c f k e =
    let may = rw (cause-thaw m a p s f e) at k.may in
    let g = thaw_got m answer s.dir c.stamp.last p.now a c.got may in
    let dir = (and_parts (is_dir m s.dir) (fits_cause m answer s.dir c.stamp.last p.now a cause.Thaw c.got) may).0 in
    (thaw_facts_at m answer s.dir c.stamp.last p.now a s.fault.cause c.got (cause-thaw m a p s f e) g.1 dir g.0, g.1)

not_both : (b : Bool) → ((b ≡ false) → ⊥) → b ≡ true
not_both true h = refl
not_both false h = absurd (h refl)

empty_length : (fs : List Frame) (k : ℕ) → fs ≡ [] → k < length fs → ⊥
empty_length fs k e l = omega (arith, ap length e)

-- a frame that is given back is given by an action that does so
pub going-gives :
    (m : Machine) (answer : Answer) (a : ℕ) (p : Private) (s : Session) (c : Course) (k : ℕ) → IsActor m a → FaultOk m a p s.fault
    → CourseOk m answer a p s c → k < length (going s.dir (decision_of m answer a p.now s c))
    → gives_frames (decision_of m answer a p.now s c).action ≡ true
going-gives m answer a p s c k (inl q) f h l =
    let d = decision_of m answer a p.now s c in
    let facts = fault_decides m answer a p s c f h q in
    let dir = (and_parts (is_dir m s.dir) (fits_cause m answer s.dir c.stamp.last p.now a s.fault.cause c.got) h.may).0 in
    not_both (gives_frames d.action)
    (λ g. empty_length (going s.dir d) k
    (going-none m s.dir d dir
    (λ mo x e. facts.copies_stay mo x
    (decide-removes m answer s.dir c.stamp.last p.now a s.fault.cause c.got facts.no_thaw g) e)) l)
going-gives m answer a p s c k (inr q) f h l =
    let d = decision_of m answer a p.now s c in
    let facts = (thaw_decides m answer a p s c f h q).0 in
    let dir = (and_parts (is_dir m s.dir) (fits_cause m answer s.dir c.stamp.last p.now a s.fault.cause c.got) h.may).0 in
    absurd (empty_length (going s.dir d) k (going-none m s.dir d dir (λ mo x e. ap (copy_on mo) facts.copies ∙ e)) l)
