-- free frames, and the frame that a fault takes
use Rattle.std.proofs.Common.{◌≡◌, ◌≢◌, ℕ, zero, suc, ◌+◌, ◌<◌, ◌≤◌, if◌then◌else◌, ◌&&◌, not, nat_lt, Bool, true, false, List, [], ◌∷◌}
use Rattle.std.proofs.Common.{Option, Some, None, refl, sym, ap, subst, ◌∙◌, arith}
use Rattle.std.specs.Prelude.{◌==◌, is_none, unwrap_or, find}
use Rattle.std.specs.Option.{option_map}
use Rattle.std.specs.List.{filter_map, cons_option, fold, range_with_len}
use Rattle.std.proofs.lemmas.Bool.{eqb-true, eq-eqb, and_parts, and_from, not-true, not-false, lt-ltb}
use Rattle.plat_base.specs.Verdicts.{Answer}
use Rattle.plat_base.specs.Machine.{Machine}
use Rattle.plat_base.specs.Pages.{numbers, distance}
use Rattle.plat_base.specs.Alike.{same_verdict, same_right}
use Rattle.plat_base.specs.Copies.{copy_on, same_frame}
use Rattle.plat_base.specs.Directories.{dir_of, last_of}
use Rattle.plat_base.specs.Decide.{is_frame, is_dir, is_empty, asks, nearer, nearest, decide, may_decide, fits_cause, is_frame_on}
use Rattle.plat_base.specs.Decide.{is_some_frame}
use Rattle.plat_base.specs.Accesses.{right_of}
use Rattle.plat_base.specs.Frames.{is_used, frame_at, free_frame, nearest_in, nearest_free, got_frame, is_starved}
use Rattle.plat_base.specs.Turns.{decided, change_by, grant_of}
use Rattle.plat_base.specs.Rules.{got_named, is_decided, is_fault_decision}
use Rattle.plat_base.proofs.CopiesLemmas.{copy_on-module, same_frame-itself}
use Rattle.plat_base.specs.declared.frames.Frame.{Frame}
use Rattle.plat_base.specs.declared.items.Cause.{Cause}
use Rattle.plat_base.specs.declared.items.Cause.TheVariants as cause
use Rattle.plat_base.specs.declared.items.Item.{Item}
use Rattle.plat_base.specs.declared.policies.Verdict.TheVariants as verdict
use Rattle.plat_base.specs.declared.policies.Decision.{Decision}
use Rattle.plat_laws.proofs.NumberLaws.{find_numbers-none, find_numbers-some, list_any_numbers-true, filter_map_numbers-none, pigeon-holes}
use Rattle.plat_laws.proofs.TableLaws.{DecideFacts, decide_facts, is_decided-change_by, same_right-itself, all_three, copy_on-empty}
use Rattle.plat_laws.proofs.ItemLaws.{is_none-None}

-- ---- used frames

-- the test of `is_used` at one page
has_number : ℕ → Option Frame → Bool
has_number k o = unwrap_or (option_map (λ (f : Frame). f.number == k) o) false

has_number-true : (mo k : ℕ) (o : Option Frame) → ((f : Frame) → o ≡ Some f → f.module ≡ mo) → has_number k o ≡ true →
    o ≡ Some (frame_at mo k)
unfolding has_number
has_number-true mo k None on h = absurd cc
has_number-true mo k (Some f) on h =
    let here : f.module ≡ mo = on f refl in
    let same : f.number ≡ k = eqb-true f.number k h in
    rw (← here, ← same)

-- a used frame is a copy of some page
pub used_frame : (m : Machine) (items : List Item) (mo k : ℕ) → is_used m items mo k ≡ true
    → (p : ℕ) × (p < m.pages) × (copy_on mo (dir_of items p).copies ≡ Some (frame_at mo k))
unfolding has_number
used_frame m items mo k h =
    let r = list_any_numbers-true (λ p. has_number k (copy_on mo (dir_of items p).copies)) m.pages h in
    (r.0, r.1, has_number-true mo k (copy_on mo (dir_of items r.0).copies) (λ f e. copy_on-module mo f (dir_of items r.0).copies e) r.2)

-- ---- the free frame of a module

-- what holds of the free frame of a module
pub record IsFree (m : Machine) (items : List Item) (mo : ℕ) (f : Frame) : Type 0 where
  pub on : f.module ≡ mo
  pub within : f.number < m.frames
  pub free : is_used m items mo f.number ≡ false

frame_found : (mo : ℕ) (o : Option ℕ) (f : Frame) → option_map (frame_at mo) o ≡ Some f → (f.module ≡ mo) × (o ≡ Some f.number)
frame_found mo None f h = absurd cc
frame_found mo (Some n) f h =
    let e : frame_at mo n ≡ f = cc in
    (ap (λ (g : Frame). g.module) (sym e), ap (λ (g : Frame). Some g.number) e)

pub free_frame-some : (m : Machine) (items : List Item) (mo : ℕ) (f : Frame) → free_frame m items mo ≡ Some f → IsFree m items mo f
free_frame-some m items mo f h =
    let r = frame_found mo (find (λ n. not (is_used m items mo n)) (numbers m.frames)) f h in
    let s = find_numbers-some (λ n. not (is_used m items mo n)) m.frames f.number r.1 in
    record { on = r.0; within = s.0; free = not-true (is_used m items mo f.number) s.1 }

none_found : (mo : ℕ) (o : Option ℕ) → option_map (frame_at mo) o ≡ None → o ≡ None
none_found mo None h = refl
none_found mo (Some n) h = absurd cc

pub free_frame-none : (m : Machine) (items : List Item) (mo n : ℕ) → free_frame m items mo ≡ None → n < m.frames →
    is_used m items mo n ≡ true
free_frame-none m items mo n h l =
    let r = none_found mo (find (λ k. not (is_used m items mo k)) (numbers m.frames)) h in
    not-false (is_used m items mo n) (find_numbers-none (λ k. not (is_used m items mo k)) m.frames n r l)

-- ---- the nearest free frame

-- what holds of a first frame and of each other one holds of the nearest
Each : (Frame → Type 0) → List Frame → Type 0
Each P [] = Unit {0}
Each P (f ∷ fs) = P f × Each P fs

either_holds : (P : Frame → Type 0) (test : Bool) (f g : Frame) → P f → P g → P (if test then f else g)
either_holds P true f g h k = h
either_holds P false f g h k = k

nearest_holds : (P : Frame → Type 0) (m : Machine) (node : ℕ) (best : Frame) (fs : List Frame) → P best → Each P fs →
    P (fold (nearer m node) best fs)
unfolding Each
nearest_holds P m node best [] h k = h
nearest_holds P m node best (f ∷ fs) h k =
    nearest_holds P m node (nearer m node best f) fs
    (either_holds P (nat_lt (distance m node f.module) (distance m node best.module)) f best k.0 h)
    k.1

nearest_in_holds : (P : Frame → Type 0) (m : Machine) (node : ℕ) (fs : List Frame) (f : Frame) → Each P fs → nearest_in m node fs ≡ Some f →
    P f
unfolding Each
nearest_in_holds P m node [] f k h = absurd cc
nearest_in_holds P m node (g ∷ gs) f k h =
    let e : nearest m node (g ∷ gs) ≡ f = cc in
    subst P e (nearest_holds P m node g gs k.0 k.1)

IsFreeOn : Machine → List Item → Frame → Type 0
IsFreeOn m items f = (f.module < m.nodes) × (free_frame m items f.module ≡ Some f)

each_cons : (P : Frame → Type 0) (o : Option Frame) (fs : List Frame) → ((f : Frame) → o ≡ Some f → P f) → Each P fs →
    Each P (cons_option o fs)
unfolding Each
each_cons P None fs h k = k
each_cons P (Some f) fs h k = (h f refl, k)

free_on : (m : Machine) (items : List Item) (mo : ℕ) (f : Frame) → mo < m.nodes → free_frame m items mo ≡ Some f → IsFreeOn m items f
unfolding IsFreeOn
free_on m items mo f l h =
    let e : f.module ≡ mo = (free_frame-some m items mo f h).on in
    (omega arith, ap (free_frame m items) e ∙ h)

each_free : (m : Machine) (items : List Item) (a k : ℕ) → a + k ≤ m.nodes →
    Each (IsFreeOn m items) (filter_map (free_frame m items) (range_with_len a k))
unfolding Each
each_free m items a zero l = tt
each_free m items a (suc k) l =
    each_cons (IsFreeOn m items) (free_frame m items a) (filter_map (free_frame m items) (range_with_len (a + 1) k))
    (λ f h. free_on m items a f (omega arith) h)
    (each_free m items (a + 1) k (omega arith))

pub nearest_free-some : (m : Machine) (items : List Item) (n : ℕ) (f : Frame) → nearest_free m items n ≡ Some f →
    (f.module < m.nodes) × (free_frame m items f.module ≡ Some f)
unfolding IsFreeOn
nearest_free-some m items n f h =
    nearest_in_holds (IsFreeOn m items) m n (filter_map (free_frame m items) (numbers m.nodes)) f
    (each_free m items 0 m.nodes (omega arith)) h

nearest_none : (m : Machine) (n : ℕ) (fs : List Frame) → nearest_in m n fs ≡ None → fs ≡ []
nearest_none m n [] h = refl
nearest_none m n (f ∷ fs) h = absurd cc

pub nearest_free-none : (m : Machine) (items : List Item) (n mo : ℕ) → nearest_free m items n ≡ None → mo < m.nodes →
    free_frame m items mo ≡ None
nearest_free-none m items n mo h l =
    filter_map_numbers-none (free_frame m items) m.nodes mo (nearest_none m n (filter_map (free_frame m items) (numbers m.nodes)) h) l

-- ---- the frame that a fault takes

free_is_frame : (m : Machine) (items : List Item) (f : Frame) → f.module < m.nodes → free_frame m items f.module ≡ Some f →
    is_frame m f ≡ true
free_is_frame m items f l h =
    and_from (nat_lt f.module m.nodes) (nat_lt f.number m.frames) (lt-ltb f.module m.nodes l)
    (lt-ltb f.number m.frames (free_frame-some m items f.module f h).within)

nearest_is_frame : (m : Machine) (items : List Item) (n : ℕ) (o : Option Frame) → nearest_free m items n ≡ o → is_none o ≡ false →
    is_some_frame m o ≡ true
nearest_is_frame m items n None e h = absurd cc
nearest_is_frame m items n (Some f) e h = let r = nearest_free-some m items n f e in free_is_frame m items f r.0 r.1

own_is_frame : (m : Machine) (items : List Item) (n : ℕ) (o : Option Frame) → n < m.nodes → free_frame m items n ≡ o →
    is_frame_on m n o ≡ true
own_is_frame m items n None l e = refl
own_is_frame m items n (Some f) l e =
    let on : f.module ≡ n = (free_frame-some m items n f e).on in
    and_from (is_frame m f) (f.module == n) (free_is_frame m items f (omega arith) (ap (free_frame m items) on ∙ e)) (eq-eqb f.module n on)

-- `fits_fault` of the frame taken, by whether the page is empty and whether it moves
taken_fits : (m : Machine) (items : List Item) (n : ℕ) (empty moves : Bool) → n < m.nodes
    → (empty && is_none (nearest_free m items n)) ≡ false
    → (let got = if empty then nearest_free m items n else if moves then free_frame m items n else None
    in if empty then is_some_frame m got else if moves then is_frame_on m n got else is_none got) ≡ true
taken_fits m items n true moves l s = nearest_is_frame m items n (nearest_free m items n) refl s
taken_fits m items n false true l s = own_is_frame m items n (free_frame m items n) l refl
taken_fits m items n false false l s = refl

-- the decision of a fault that does not starve may be asked for
pub got_fits : (m : Machine) (answer : Answer) (items : List Item) (n p now : ℕ) (c : Cause)
    → is_dir m (dir_of items p) ≡ true → n < m.nodes → is_starved m items n p ≡ false → c ≢ cause.Thaw
    → may_decide m answer (dir_of items p) (last_of items p) now n c (got_frame m answer items n p now c) ≡ true
got_fits m answer items n p now cause.Read h l st t =
    let dir = dir_of items p in
    and_from (is_dir m dir) (fits_cause m answer dir (last_of items p) now n cause.Read (got_frame m answer items n p now cause.Read)) h
    (taken_fits m items n (is_empty dir.state) (asks cause.Read dir n && same_verdict (answer dir (last_of items p) now) verdict.Move) l st)
got_fits m answer items n p now cause.Write h l st t =
    let dir = dir_of items p in
    and_from (is_dir m dir) (fits_cause m answer dir (last_of items p) now n cause.Write (got_frame m answer items n p now cause.Write)) h
    (taken_fits m items n (is_empty dir.state) (asks cause.Write dir n && same_verdict (answer dir (last_of items p) now) verdict.Move) l
    st)
got_fits m answer items n p now cause.Thaw h l st t = absurd (t refl)

-- what is known of that decision
pub fault_facts : (m : Machine) (answer : Answer) (items : List Item) (n p now : ℕ) (c : Cause)
    → is_dir m (dir_of items p) ≡ true → n < m.nodes → is_starved m items n p ≡ false → c ≢ cause.Thaw
    → DecideFacts m (dir_of items p) (got_frame m answer items n p now c) c (decided m answer items n p now c)
fault_facts m answer items n p now c h l st t =
    decide_facts m answer (dir_of items p) (last_of items p) now n c (got_frame m answer items n p now c) t
    (got_fits m answer items n p now c h l st t)

-- the rule of a fault's change, where the judge makes the decision d of the change
judged : (items : List Item) (n p now e : ℕ) (c : Cause) (d : Decision) (may : Bool) (made : Decision) → may ≡ true → made ≡ d
    → (may && is_decided made (change_by items n p now c d (Some (grant_of e c d))) && same_frame made.frame d.frame
    && same_right (right_of c) (right_of c))
    ≡ true
judged items n p now e c d may made h same =
    let change = change_by items n p now c d (Some (grant_of e c d)) in
    and_from (may && is_decided made change && same_frame made.frame d.frame) (same_right (right_of c) (right_of c))
    (all_three may (is_decided made change) (same_frame made.frame d.frame) h
    (ap (λ (x : Decision). is_decided x change) same ∙ is_decided-change_by items n p now c d (Some (grant_of e c d)))
    (ap (λ (x : Decision). same_frame x.frame d.frame) same ∙ same_frame-itself d.frame))
    (same_right-itself (right_of c))

-- the change of a fault is the decision that the judge makes
pub fault_decided : (m : Machine) (answer : Answer) (items : List Item) (n p now e : ℕ) (c : Cause)
    → is_dir m (dir_of items p) ≡ true → n < m.nodes → is_starved m items n p ≡ false → c ≢ cause.Thaw
    → is_fault_decision m answer items
    (change_by items n p now c (decided m answer items n p now c) (Some (grant_of e c (decided m answer items n p now c))))
    (grant_of e c (decided m answer items n p now c)) ≡ true
fault_decided m answer items n p now e c h l st t =
    let dir = dir_of items p in
    let last = last_of items p in
    let d = decided m answer items n p now c in
    let named = got_named d.action (grant_of e c d) in
    let back : named ≡ got_frame m answer items n p now c = (fault_facts m answer items n p now c h l st t).got_back in
    judged items n p now e c d (may_decide m answer dir last now n c named) (decide m answer dir last now n c named)
    (ap (may_decide m answer dir last now n c) back ∙ got_fits m answer items n p now c h l st t)
    (ap (decide m answer dir last now n c) back)

-- ---- starving

-- the number of a page's copy on a module
number_on : List Item → (q p : ℕ) → Option ℕ
number_on items q p = option_map (λ (f : Frame). f.number) (copy_on q (dir_of items p).copies)

number_some : (items : List Item) (q p k : ℕ) → copy_on q (dir_of items p).copies ≡ Some (frame_at q k) → number_on items q p ≡ Some k
unfolding number_on
number_some items q p k h = rw h

number_none : (items : List Item) (q p : ℕ) → copy_on q (dir_of items p).copies ≡ None → number_on items q p ≡ None
unfolding number_on
number_none items q p h = rw h

-- where no frame is free for an empty page there are fewer frames than pages
pub starving : (m : Machine) (items : List Item) (q p : ℕ) → is_starved m items q p ≡ true → p < m.pages → q < m.nodes
    → is_dir m (dir_of items p) ≡ true → m.frames < m.pages
starving m items q p s l u h =
    let r = and_parts (is_empty (dir_of items p).state) (is_none (nearest_free m items q)) s in
    let none : free_frame m items q ≡ None = nearest_free-none m items q q (is_none-None (nearest_free m items q) r.1) u in
    pigeon-holes (number_on items q) m.frames m.pages p
    (λ i v. let w = used_frame m items q i (free_frame-none m items q i none v) in (w.0, w.1, number_some items q w.0 i w.2))
    l
    (number_none items q p (copy_on-empty m (dir_of items p) q h r.0))
