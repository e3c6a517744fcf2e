-- the next operation of an actor is on a word of the machine
use Rattle.std.proofs.Common.{◌≡◌, ◌≢◌, ℕ, zero, suc, ◌+◌, ◌<◌, Bool, true, false, List, [], ◌∷◌, length, Some, None, refl, arith, ap, ◌∙◌}
use Rattle.std.proofs.Common.{inl, inr, filter, zip}
use Rattle.std.specs.Prelude.{◌==◌, nat_lt, ◌&&◌, not, Option, slice_index}
use Rattle.std.specs.List.{list_all, list_any, flat_map, range_with_len}
use Rattle.std.proofs.lemmas.Bool.{lt-ltb, ltb-true, eqb-true, and_parts, and_from}
use Rattle.std.proofs.lemmas.List.Folds.{list_all-append, list_all-map}
use Rattle.plat_base.specs.Verdicts.{Answer}
use Rattle.plat_base.specs.Machine.{Machine}
use Rattle.plat_base.specs.Pages.{numbers, page_of, space_of, entries_of_page, entries_of_space}
use Rattle.plat_base.specs.GuestRun.{Reach}
use Rattle.plat_base.specs.Held.{has_right}
use Rattle.plat_base.specs.Copies.{same_frame}
use Rattle.plat_base.specs.Decide.{is_dir, is_frame, is_empty, nearest, no_frame}
use Rattle.plat_base.specs.Rules.{names_got}
use Rattle.plat_base.specs.declared.frames.Frame.{Frame}
use Rattle.plat_base.specs.declared.frames.Dir.{Dir}
use Rattle.plat_base.specs.declared.items.Action.{Action}
use Rattle.plat_base.specs.declared.items.Action.TheVariants as action
use Rattle.plat_base.specs.declared.items.Kind.{Kind}
use Rattle.plat_base.specs.declared.items.Removed.{Removed}
use Rattle.plat_base.specs.declared.items.Translation.{Translation}
use Rattle.plat_base.specs.declared.policies.Decision.{Decision}
use Rattle.plat_laws.specs.Guests.{IsWithinLimits}
use Rattle.plat_laws.proofs.GuestLaws.{reach_of-word}
use Rattle.plat_laws.proofs.TableLaws.{list_all_copy_on, copy_on-nearest, dir_parts, has_some}
use Rattle.plat_events.specs.Words.{has_reference}
use Rattle.plat_events.specs.Places.{entry_count, is_name}
use Rattle.plat_events.specs.Shootdowns.{Shot, Posting, PostingOn, Asking, Interrupting, Watching, AskingAgain, Target, targets_of, targets}
use Rattle.plat_events.specs.Shootdowns.{target_at, no_target, entry_posted, shot_next}
use Rattle.plat_events.specs.Sessions.{Fault, Course, Phase, Stamping, Seeking, Taking, Returning, Shooting, Filling, Reading, Copying}
use Rattle.plat_events.specs.Sessions.{Giving, Storing, Granting, Unlocking, Session, decision_of, going, frame_going, memory_at}
use Rattle.plat_events.specs.Sessions.{session_next}
use Rattle.plat_events.specs.Privates.{Place, Polling, Looking, Applying, Ticking, Switching, Loading, Expecting, Exchanging, Locking}
use Rattle.plat_events.specs.Privates.{InSession, Leaving, Lessening, Gone, LiveLooking, TimeLooking, Over, Private, actor_count}
use Rattle.plat_events.specs.Scans.{entry_scanned}
use Rattle.plat_events.specs.Events.{reach_now, entry_of, frame_by, translation_now, memory_now, named_next}
use Rattle.plat_events.specs.Shown.{IsReachedAlone}
use Rattle.plat_local_laws.specs.Faults.{AccessOk, FaultOk}
use Rattle.plat_local_laws.specs.Phases.{ShotOk, fills_words, copies_words, FillingOk, SessionOk}
use Rattle.plat_local_laws.specs.Standing.{PlaceOk, StandingOk}
use Rattle.plat_local_laws.specs.Words.{NamesWord}
use Rattle.plat_local_laws.proofs.CourseLaws.{IsActor, module_tried-below, fault_decides, thaw_decides}
use Rattle.plat_local_laws.proofs.TurnLaws.{reach_now-wanted}
use Rattle.plat_local_laws.proofs.SessionLaws.{session_at, entry_now-below}
use Rattle.plat_local_laws.proofs.StandingLaws.{actor-is, standing_ok}
use Rattle.plat_base.proofs.LimitLemmas.{holds_at}

-- ---- tests of all elements

filter-one :
    {X : Type 0} (p q : X → Bool) (x : X) (xs : List X) (b : Bool) → q x ≡ b → list_all p (x ∷ xs) ≡ true
    → list_all p (filter q xs) ≡ true → list_all p (filter q (x ∷ xs)) ≡ true
filter-one p q x xs true e h k = rw e (and_from (p x) (list_all p (filter q xs)) (and_parts (p x) (list_all p xs) h).0 k)
filter-one p q x xs false e h k = rw e k

filter-all : {X : Type 0} (p q : X → Bool) (xs : List X) → list_all p xs ≡ true → list_all p (filter q xs) ≡ true
filter-all p q [] h = refl
filter-all p q (x ∷ xs) h = filter-one p q x xs (q x) refl h (filter-all p q xs (and_parts (p x) (list_all p xs) h).1)

filter-passed : {X : Type 0} (q : X → Bool) (x : X) (xs : List X) (b : Bool) → q x ≡ b → list_all q (filter q xs) ≡ true →
    list_all q (filter q (x ∷ xs)) ≡ true
filter-passed q x xs true e k = rw e (and_from (q x) (list_all q (filter q xs)) e k)
filter-passed q x xs false e k = rw e k

-- what is left passes the test
filter-passes : {X : Type 0} (q : X → Bool) (xs : List X) → list_all q (filter q xs) ≡ true
filter-passes q [] = refl
filter-passes q (x ∷ xs) = filter-passed q x xs (q x) refl (filter-passes q xs)

range-all : (p : ℕ → Bool) (a n : ℕ) → ((i : ℕ) → i < a + n → p i ≡ true) → list_all p (range_with_len a n) ≡ true
range-all p a zero h = refl
range-all p a (suc n) h =
    and_from (p a) (list_all p (range_with_len (a + 1) n)) (h a (omega arith)) (range-all p (a + 1) n (λ i l. h i (omega arith)))

numbers-below : (n : ℕ) → list_all (λ i. nat_lt i n) (numbers n) ≡ true
numbers-below n = range-all (λ i. nat_lt i n) 0 n (λ i l. lt-ltb i n (omega arith))

flat_map-all :
    {X Y : Type 0} (p : X → Bool) (q : Y → Bool) (f : X → List Y) (xs : List X) → list_all p xs ≡ true
    → ((x : X) → p x ≡ true → list_all q (f x) ≡ true) → list_all q (flat_map f xs) ≡ true
flat_map-all p q f [] h k = refl
flat_map-all p q f (x ∷ xs) h k =
    let both = and_parts (p x) (list_all p xs) h in
    list_all-append q (f x) (flat_map f xs)
    ∙ and_from (list_all q (f x)) (list_all q (flat_map f xs)) (k x both.0) (flat_map-all p q f xs both.1 k)

zip-all : (p : ℕ → Bool) (xs ys : List ℕ) → list_all p xs ≡ true → list_all (λ (x : ℕ × ℕ). p x.0) (zip xs ys) ≡ true
zip-all p [] ys h = refl
zip-all p (x ∷ xs) [] h = refl
zip-all p (x ∷ xs) (y ∷ ys) h =
    let both = and_parts (p x) (list_all p xs) h in
    and_from (p x) (list_all (λ (z : ℕ × ℕ). p z.0) (zip xs ys)) both.0 (zip-all p xs ys both.1)

-- ---- entries

entry_at-below : (test : ℕ → Bool) (n i : ℕ) → i < length (filter test (numbers n)) → nat_lt (slice_index (filter test (numbers n)) i) n
    ≡ true
entry_at-below test n i l =
    holds_at (λ e. nat_lt e n) (filter test (numbers n)) i 0 (filter-all (λ e. nat_lt e n) test (numbers n) (numbers-below n)) l

-- the entry that a scan looks at is of its space, and the entry of a post is of its page
pub entry_scanned-is :
    (m : Machine) (p : Private) (i : ℕ) → i < length (entries_of_space m p.guest.space)
    → (entry_scanned m p i < entry_count m) × (space_of m (entry_scanned m p i) ≡ p.guest.space)
entry_scanned-is m p i l =
    let test = λ (e : ℕ). space_of m e == p.guest.space in (
      ltb-true (entry_scanned m p i) (entry_count m) (entry_at-below test (length m.entries) i l),
      eqb-true (space_of m (entry_scanned m p i)) p.guest.space
          (holds_at test (entries_of_space m p.guest.space) i 0 (filter-passes test (numbers (length m.entries))) l),
    )

pub entry_posted-is :
    (m : Machine) (page : ℕ) (posts : List ℕ) → length posts < length (entries_of_page m page)
    → (entry_posted m page posts < entry_count m) × (page_of m (entry_posted m page posts) ≡ page)
entry_posted-is m page posts l =
    let test = λ (e : ℕ). page_of m e == page in (
      ltb-true (entry_posted m page posts) (entry_count m) (entry_at-below test (length m.entries) (length posts) l),
      eqb-true (page_of m (entry_posted m page posts)) page
          (holds_at test (entries_of_page m page) (length posts) 0 (filter-passes test (numbers (length m.entries))) l),
    )

-- ---- targets

is_target_below : Machine → Target → Bool
is_target_below m t = nat_lt t.entry (entry_count m) && nat_lt t.processor m.nodes

targets_of-below :
    (m : Machine) (a entry mask : ℕ) → nat_lt entry (entry_count m) ≡ true → list_all (is_target_below m) (targets_of m a entry mask) ≡ true
unfolding is_target_below
targets_of-below m a entry mask h =
    let test = λ (q : ℕ). has_reference mask q && not (q == a) in
    list_all-map (is_target_below m) (λ (q : ℕ). record { entry = entry; processor = q }) (filter test (numbers m.nodes))
    ∙ filter-all (λ q. nat_lt entry (entry_count m) && nat_lt q m.nodes) test (numbers m.nodes)
    (range-all (λ q. nat_lt entry (entry_count m) && nat_lt q m.nodes) 0 m.nodes
    (λ i l. and_from (nat_lt entry (entry_count m)) (nat_lt i m.nodes) h (lt-ltb i m.nodes (omega arith))))

targets-below : (m : Machine) (a page : ℕ) (posts : List ℕ) → list_all (is_target_below m) (targets m a page posts) ≡ true
targets-below m a page posts =
    flat_map-all (λ (x : ℕ × ℕ). nat_lt x.0 (entry_count m)) (is_target_below m) (λ (x : ℕ × ℕ). targets_of m a x.0 x.1)
    (zip (entries_of_page m page) posts)
    (zip-all (λ e. nat_lt e (entry_count m)) (entries_of_page m page) posts
    (filter-all (λ e. nat_lt e (entry_count m)) (λ e. page_of m e == page) (numbers (length m.entries)) (numbers-below (length m.entries))))
    (λ x h. targets_of-below m a x.0 x.1 h)

pub target_at-below :
    (m : Machine) (a page : ℕ) (posts : List ℕ) (k : ℕ) → k < length (targets m a page posts)
    → (nat_lt (target_at m a page posts k).entry (entry_count m) ≡ true) × (nat_lt (target_at m a page posts k).processor m.nodes ≡ true)
unfolding is_target_below
target_at-below m a page posts k l =
    and_parts (nat_lt (target_at m a page posts k).entry (entry_count m)) (nat_lt (target_at m a page posts k).processor m.nodes)
    (holds_at (is_target_below m) (targets m a page posts) k no_target (targets-below m a page posts) l)

shot-names :
    (m : Machine) (a page : ℕ) (rem : Removed) (posts : List ℕ) (shot : Shot) → ShotOk m a page posts shot
    → is_name m (shot_next m a page rem posts shot).0 ≡ true
shot-names m a page rem posts Posting h = entry_at-below (λ e. page_of m e == page) (length m.entries) (length posts) h
shot-names m a page rem posts (PostingOn seen) h = entry_at-below (λ e. page_of m e == page) (length m.entries) (length posts) h.left
shot-names m a page rem posts (Asking k) h = (target_at-below m a page posts k h.left).1
shot-names m a page rem posts (Interrupting k) h = (target_at-below m a page posts k h.left).1
shot-names m a page rem posts (Watching k) h = (target_at-below m a page posts k h.left).0
shot-names m a page rem posts (AskingAgain k) h = (target_at-below m a page posts k h.left).1

-- ---- frames

memory-name : (m : Machine) (f : Frame) (w : ℕ) → is_frame m f ≡ true → w < m.words → is_name m (memory_at f w) ≡ true
memory-name m f w h l = and_from (is_frame m f) (nat_lt w m.words) h (lt-ltb w m.words l)

pub has_right-some : (k : Kind) (t : Option Translation) → has_right k t ≡ true → (u : Translation) × (t ≡ Some u)
has_right-some k None h = absurd cc
has_right-some k (Some u) h = (u, refl)

-- the frame that an access goes to
pub access-frame :
    (m : Machine) (answer : Answer) (a : ℕ) (p : Private) (writes : Bool) → StandingOk m answer a p → AccessOk m a p writes
    → is_frame m (frame_by (translation_now m a p)) ≡ true
access-frame m answer a p writes s k =
    let r = reach_now m a p in
    let t = has_right-some r.kind (translation_now m a p) k.right in
    rw (ap frame_by t.1) (s.translations (entry_of m r) t.0 t.1).frame

access-name :
    (m : Machine) (answer : Answer) (a : ℕ) (p : Private) (writes : Bool) → IsWithinLimits m → StandingOk m answer a p
    → AccessOk m a p writes → is_name m (memory_now m a p) ≡ true
access-name m answer a p writes h s k =
    let r = reach_now m a p in
    let word : r.word < m.words =
    rw (ap (λ (x : Reach). x.word) (reach_now-wanted m a p r.kind r.space r.addr r.operand k.wants))
    (reach_of-word m r.kind r.space r.addr r.operand h) in
    memory-name m (frame_by (translation_now m a p)) r.word (access-frame m answer a p writes s k) word

-- the frame of an action that fills or copies words
filled-frame :
    (m : Machine) (answer : Answer) (a : ℕ) (p : Private) (s : Session) (c : Course) (does : Action → Bool) (w : ℕ) → IsActor m a
    → does action.Thaw ≡ false → FaultOk m a p s.fault → FillingOk m answer a p s c does w
    → (a < m.nodes) × (is_frame m (decision_of m answer a p.now s c).frame ≡ true)
filled-frame m answer a p s c does w (inl l) t f h = (l, (fault_decides m answer a p s c f h.quiet.course l).frame)
filled-frame m answer a p s c does w (inr e) t f h =
    let thaws = (thaw_decides m answer a p s c f h.quiet.course e).0.action in
    let no : does (decision_of m answer a p.now s c).action ≡ false = ap does thaws ∙ t in
    let does_so : does (decision_of m answer a p.now s c).action ≡ true = h.action in absurd cc

pub copies-got : (x : Action) → copies_words x ≡ true → (x ≢ action.Fill) × (names_got x ≡ true)
copies-got action.Fill h = absurd cc
copies-got action.MapLocal h = absurd cc
copies-got action.MapRemote h = absurd cc
copies-got action.Replicate h = (λ e. cc, refl)
copies-got action.Migrate h = (λ e. cc, refl)
copies-got action.Collapse h = absurd cc
copies-got action.Thaw h = absurd cc

nearest-frame : (m : Machine) (node : ℕ) (b : Dir) → is_dir m b ≡ true → is_empty b.state ≡ false → is_frame m (nearest m node b.copies)
    ≡ true
nearest-frame m node b h e =
    let parts = dir_parts m b h in
    list_all_copy_on (is_frame m) (nearest m node b.copies).module (nearest m node b.copies) b.copies
    (copy_on-nearest m node b.copies (has_some m b h e) parts.1) parts.0

pub going-frame : (m : Machine) (b : Dir) (d : Decision) (k : ℕ) → is_dir m b ≡ true → k < length (going b d) →
    is_frame m (frame_going b d k) ≡ true
going-frame m b d k h l =
    holds_at (is_frame m) (going b d) k no_frame
    (filter-all (is_frame m) (λ f. not (list_any (same_frame f) d.after.copies)) b.copies (dir_parts m b h).0) l

-- ---- sessions

session-names :
    (m : Machine) (answer : Answer) (a : ℕ) (p : Private) (f : Fault) (d : Dir) (phase : Phase) → IsActor m a
    → SessionOk m answer a p (session_at f d phase) → is_name m (session_next m answer a p.now (session_at f d phase) phase).0 ≡ true
session-names m answer a p f d Stamping actor h = lt-ltb f.page m.pages h.fault.page
session-names m answer a p f d (Seeking st i) actor h =
    lt-ltb _ m.nodes (module_tried-below m answer a p.now (session_at f d (Seeking st i)) st i h.phase.processor h.phase.left)
session-names m answer a p f d (Taking st i seen) actor h =
    let k = h.phase.seeks in
    lt-ltb _ m.nodes (module_tried-below m answer a p.now (session_at f d (Taking st i seen)) st i k.processor k.left)
session-names m answer a p f d Returning actor h = lt-ltb f.page m.pages h.fault.page
session-names m answer a p f d (Shooting c shot) actor h =
    shot-names m a f.page (decision_of m answer a p.now (session_at f d (Shooting c shot)) c).removed c.posts shot h.phase.stands
session-names m answer a p f d (Filling c w) actor h =
    let s = session_at f d (Filling c w) in
    memory-name m (decision_of m answer a p.now s c).frame w
    (filled-frame m answer a p s c fills_words w actor refl h.fault h.phase).1 h.phase.left
session-names m answer a p f d (Reading c w) actor h =
    let s = session_at f d (Reading c w) in
    let l = (filled-frame m answer a p s c copies_words w actor refl h.fault h.phase).0 in
    let k = copies-got (decision_of m answer a p.now s c).action h.phase.action in
    let some = (fault_decides m answer a p s c h.fault h.phase.quiet.course l).copied k.0 k.1 in
    memory-name m (nearest m a d.copies) w (nearest-frame m a d h.dir some) h.phase.left
session-names m answer a p f d (Copying c w seen) actor h =
    let s = session_at f d (Copying c w seen) in
    memory-name m (decision_of m answer a p.now s c).frame w
    (filled-frame m answer a p s c copies_words w actor refl h.fault h.phase.fills).1 h.phase.fills.left
session-names m answer a p f d (Giving c k) actor h =
    let x = decision_of m answer a p.now (session_at f d (Giving c k)) c in
    let frame = going-frame m d x k h.dir h.phase.left in
    (and_parts (nat_lt (frame_going d x k).module m.nodes) (nat_lt (frame_going d x k).number m.frames) frame).0
session-names m answer a p f d (Storing c) actor h = lt-ltb f.page m.pages h.fault.page
session-names m answer a p f d (Granting c) actor h =
    lt-ltb _ (entry_count m) (entry_now-below m a p f (h.fault.access h.phase.processor))
session-names m answer a p f d (Unlocking c) actor h = lt-ltb f.page m.pages h.fault.page

-- ---- any place

place-names :
    (m : Machine) (answer : Answer) (a : ℕ) (p : Private) (place : Place) → IsWithinLimits m → IsActor m a → StandingOk m answer a p
    → PlaceOk m answer a p place → NamesWord m (named_next m answer a p place)
place-names m answer a p (Polling onward) h actor s k = lt-ltb a m.nodes k.processor
place-names m answer a p (Looking i moment onward) h actor s k =
    entry_at-below (λ e. space_of m e == p.guest.space) (length m.entries) i k.left
place-names m answer a p (Applying i message moment onward) h actor s k =
    entry_at-below (λ e. space_of m e == p.guest.space) (length m.entries) i k.left
place-names m answer a p Ticking h actor s k = refl
place-names m answer a p (Switching space) h actor s k = lt-ltb a m.nodes k.processor
place-names m answer a p Loading h actor s k = access-name m answer a p _ h s k
place-names m answer a p Expecting h actor s k = access-name m answer a p _ h s k
place-names m answer a p (Exchanging seen) h actor s k = access-name m answer a p _ h s k.access
place-names m answer a p (Locking fault) h actor s k = lt-ltb fault.page m.pages k.locks.page
place-names m answer a p (InSession x) h actor s k = session-names m answer a p x.fault x.dir x.phase actor k
place-names m answer a p (Leaving e) h actor s k = lt-ltb a m.nodes k.processor
place-names m answer a p (Lessening e) h actor s k = refl
place-names m answer a p (Gone e) h actor s k = tt
place-names m answer a p LiveLooking h actor s k = refl
place-names m answer a p TimeLooking h actor s k = refl
place-names m answer a p Over h actor s k = tt

pub names_word :
    (m : Machine) (answer : Answer) (a : ℕ) (p : Private) → IsWithinLimits m → a < actor_count m → IsReachedAlone m answer a p
    → NamesWord m (named_next m answer a p p.place)
names_word m answer a p h l r =
    let s = standing_ok m answer a p h l r in place-names m answer a p p.place h (actor-is m a l) s s.place
