-- the word of a directory is read as that directory, and as locked where its lock is set
use Rattle.std.proofs.Common.{◌≡◌, ℕ, zero, suc, ◌+◌, ◌*◌, ◌^◌, ◌<◌, if◌then◌else◌, Bool, true, false, List, [], ◌∷◌, ◌++◌, Option, Some}
use Rattle.std.proofs.Common.{None, refl, ap, sym, ◌∙◌, arith}
use Rattle.std.specs.Prelude.{IsTrue, is_some, ◌==◌}
use Rattle.std.specs.List.{filter_map, range_with_len}
use Rattle.std.proofs.lemmas.Bool.Decides.{nat_tests}
use Rattle.plat_base.specs.Copies.{copy_on, are_copies_from, AreCopies}
use Rattle.plat_base.specs.Alike.{state_number}
use Rattle.plat_base.specs.Frames.{frame_at}
use Rattle.plat_base.specs.declared.frames.Frame.{Frame}
use Rattle.plat_base.specs.declared.frames.Dir.{Dir}
use Rattle.plat_base.specs.declared.frames.State.{State}
use Rattle.plat_base.specs.declared.frames.State.TheVariants.{Empty, Present1, PresentPlus, Modified}
use Rattle.plat_base.proofs.CopiesLemmas.{copy_on-module, are_copies-lower}
use Rattle.plat_events.specs.Words.{Field, has_bit, bits_from, bit_if, number_of, copy_read, copies_read, dir_fields, dir_word, dir_read}
use Rattle.plat_events.specs.Words.{is_locked, state_numbered}
use Rattle.plat_words.proofs.Fields.{are_fields, place_at, width_at, value_at, packed_at}
use Rattle.plat_words.proofs.CopyFields.{module_fields, frame_fields, number_of-below}
use Rattle.plat_words.proofs.SingleBits.{bit_if-lt, bit_if-eq}

-- ---- the fields fit

state_number-below : (s : State) → state_number s < 2 ^ 2
state_number-below Empty = omega arith
state_number-below Present1 = omega arith
state_number-below PresentPlus = omega arith
state_number-below Modified = omega arith

modules_fit : (copies : List Frame) (m k : ℕ) (gs : List Field) → are_fields gs → are_fields (module_fields copies m k ++ gs)
modules_fit copies m zero gs h = h
modules_fit copies m (suc k) gs h = (bit_if-lt (is_some (copy_on m copies)), modules_fit copies (m + 1) k gs h)

frames_fit : (copies : List Frame) (m k : ℕ) → AreCopies copies → are_fields (frame_fields copies m k)
frames_fit copies m zero h = tt
frames_fit copies m (suc k) h = (number_of-below 0 m copies h, frames_fit copies (m + 1) k h)

dir_fields_fit : (d : Dir) (locked : Bool) → AreCopies d.copies → are_fields (dir_fields d locked)
dir_fields_fit d locked h =
    let copies = modules_fit d.copies 0 8 (frame_fields d.copies 0 8) (frames_fit d.copies 0 8 h) in
    (state_number-below d.state, (bit_if-lt d.frozen, (bit_if-lt locked, (omega arith, copies))))

-- ---- what is read of one field

state_number-back : (s : State) → state_numbered (state_number s) ≡ s
state_number-back Empty = refl
state_number-back Present1 = refl
state_number-back PresentPlus = refl
state_number-back Modified = refl

frame_back :
    (m : ℕ) (o : Option Frame) → ((f : Frame) → o ≡ Some f → f.module ≡ m) →
    (if is_some o then Some (frame_at m (number_of o)) else None) ≡ o
frame_back m None h = refl
frame_back m (Some f) h = let e : f.module ≡ m = h f refl in ap (λ (k : ℕ). Some (frame_at k f.number)) (sym e)

copy_back :
    (copies : List Frame) (n m : ℕ) → bits_from n (8 + m) 1 ≡ bit_if (is_some (copy_on m copies)) →
    bits_from n (16 + 6 * m) 6 ≡ number_of (copy_on m copies) → copy_read n m ≡ copy_on m copies
copy_back copies n m h k =
    let here : has_bit n (8 + m) ≡ is_some (copy_on m copies) = ap (λ b. b == 1) h ∙ bit_if-eq (is_some (copy_on m copies)) in
    ap (λ b. if b then Some (frame_at m (bits_from n (16 + 6 * m) 6)) else None) here
    ∙ ap (λ x. if is_some (copy_on m copies) then Some (frame_at m x) else None) k
    ∙ frame_back m (copy_on m copies) (λ f e. copy_on-module m f copies e)

-- ---- all copies

copy_on-lower : (m : ℕ) (fs : List Frame) → IsTrue (are_copies_from (m + 1) fs) → copy_on m fs ≡ None
copy_on-lower m [] h = refl
copy_on-lower m (f ∷ fs) h = grind (arith, nat_tests, copy_on-lower m fs, are_copies-lower (m + 1) (f.module + 1) fs)

-- modules above that of the first copy
copies_behind :
    (f : Frame) (fs : List Frame) (m k : ℕ) → f.module < m →
    filter_map (λ mo. copy_on mo (f ∷ fs)) (range_with_len m k) ≡ filter_map (λ mo. copy_on mo fs) (range_with_len m k)
copies_behind f fs m zero h = refl
copies_behind f fs m (suc k) h = grind (arith, nat_tests, copies_behind f fs (m + 1) k)

copies_on :
    (m k : ℕ) (fs : List Frame) → IsTrue (are_copies_from m fs) → m + k ≡ 8 → filter_map (λ mo. copy_on mo fs) (range_with_len m k) ≡ fs
copies_on m zero [] h e = refl
copies_on m zero (f ∷ fs) h e = absurd (grind (arith, nat_tests))
copies_on m (suc k) [] h e = copies_on (m + 1) k [] h (omega arith)
copies_on m (suc k) (f ∷ fs) h e =
    grind (
      arith,
      nat_tests,
      copies_behind f fs (m + 1) k,
      copies_on (m + 1) k fs,
      copies_on (m + 1) k (f ∷ fs),
      copy_on-lower m fs,
      are_copies-lower (m + 1) (f.module + 1) fs,
    )

-- a field of a directory's word is read as its value
field_read :
    (d : Dir) (locked : Bool) (i : ℕ) → AreCopies d.copies → i < 20 →
    bits_from (dir_word d locked) (place_at (dir_fields d locked) i) (width_at (dir_fields d locked) i) ≡ value_at (dir_fields d locked) i
unfolding dir_word
field_read d locked i h k = packed_at (dir_fields d locked) i (dir_fields_fit d locked h) k

same_eight :
    (f g : ℕ → Option Frame) → f 0 ≡ g 0 → f 1 ≡ g 1 → f 2 ≡ g 2 → f 3 ≡ g 3 → f 4 ≡ g 4 → f 5 ≡ g 5 → f 6 ≡ g 6 → f 7 ≡ g 7 →
    filter_map f (range_with_len 0 8) ≡ filter_map g (range_with_len 0 8)
same_eight f g e0 e1 e2 e3 e4 e5 e6 e7 = cc

pub copies_read-word : (d : Dir) (locked : Bool) → AreCopies d.copies → copies_read (dir_word d locked) ≡ d.copies
unfolding copies_read
copies_read-word d locked h =
    same_eight (copy_read (dir_word d locked)) (λ mo. copy_on mo d.copies)
    (copy_back d.copies (dir_word d locked) 0 (field_read d locked 4 h (omega arith)) (field_read d locked 12 h (omega arith)))
    (copy_back d.copies (dir_word d locked) 1 (field_read d locked 5 h (omega arith)) (field_read d locked 13 h (omega arith)))
    (copy_back d.copies (dir_word d locked) 2 (field_read d locked 6 h (omega arith)) (field_read d locked 14 h (omega arith)))
    (copy_back d.copies (dir_word d locked) 3 (field_read d locked 7 h (omega arith)) (field_read d locked 15 h (omega arith)))
    (copy_back d.copies (dir_word d locked) 4 (field_read d locked 8 h (omega arith)) (field_read d locked 16 h (omega arith)))
    (copy_back d.copies (dir_word d locked) 5 (field_read d locked 9 h (omega arith)) (field_read d locked 17 h (omega arith)))
    (copy_back d.copies (dir_word d locked) 6 (field_read d locked 10 h (omega arith)) (field_read d locked 18 h (omega arith)))
    (copy_back d.copies (dir_word d locked) 7 (field_read d locked 11 h (omega arith)) (field_read d locked 19 h (omega arith)))
    ∙ copies_on 0 8 d.copies h refl

pub is_locked-word : (d : Dir) (locked : Bool) → AreCopies d.copies → is_locked (dir_word d locked) ≡ locked
is_locked-word d locked h = ap (λ b. b == 1) (field_read d locked 2 h (omega arith)) ∙ bit_if-eq locked

-- a directory's word is read as that directory
pub dir_read-word : (d : Dir) (locked : Bool) → AreCopies d.copies → dir_read (dir_word d locked) ≡ d
dir_read-word d locked h =
    let state : state_numbered (bits_from (dir_word d locked) 0 2) ≡ d.state =
    ap state_numbered (field_read d locked 0 h (omega arith)) ∙ state_number-back d.state in
    let frozen : has_bit (dir_word d locked) 2 ≡ d.frozen = ap (λ b. b == 1) (field_read d locked 1 h (omega arith)) ∙ bit_if-eq d.frozen in
    let copies : copies_read (dir_word d locked) ≡ d.copies = copies_read-word d locked h in
    λ i. record { state = state i; frozen = frozen i; copies = copies i }
