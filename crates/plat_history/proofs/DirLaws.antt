-- directories as single words: what is read is spelled so, and what is spelled so is read
use Rattle.std.proofs.Common.{◌≡◌, ℕ, ◌+◌, ◌^◌, ◌≤◌, Bool, true, false, not, ltb, List, [], ◌∷◌, ◌++◌, length, map, Option, Some, None, Ok}
use Rattle.std.proofs.Common.{refl, ap, sym, ◌∙◌, subst, arith, append_assoc, append-nil}
use Rattle.std.specs.List.{list_all, slice_split, join_with_byte}
use Rattle.std.specs.Fmt.{decimal}
use Rattle.std.proofs.lemmas.Bool.{and_parts, and_from, not-true, not_from_false}
use Rattle.std.proofs.lemmas.List.Splits.{join_with_byte-slice_split, length-slice_split}
use Rattle.plat_base.specs.Machine.{Machine}
use Rattle.plat_base.specs.Decide.{is_frame, modules_rise}
use Rattle.plat_base.specs.declared.faults.Why.TheVariants.{Expected}
use Rattle.plat_base.specs.declared.frames.Frame.{Frame}
use Rattle.plat_base.specs.declared.frames.State.{State}
use Rattle.plat_base.specs.declared.frames.State.TheVariants as state
use Rattle.plat_base.specs.declared.frames.Dir.{Dir}
use Rattle.plat_text.proofs.Results.{taking, then_ok, ok_is, stopped}
use Rattle.plat_text.proofs.WordLaws.{IsWordForm}
use Rattle.plat_grammar.specs.HistoryCanon.{point, colon, comma, frame_word, head_word, copies_part, dir_word}
use Rattle.plat_grammar.specs.HistoryForms.{named, heads, cut, frame_of, above, copies_from, copies_of, dir_parts, dir_of}
use Rattle.plat_grammar.specs.HistoryGrammar.{are_frames, is_told_dir}
use Rattle.plat_history.proofs.PartLemmas.{is_byte, parts-more, parts-end}
use Rattle.plat_history.proofs.PartLaws.{lacks, lacks-append, cut-again, cut-lacks, cut-takes, module-lacks, number-lacks, frame-law}
use Rattle.plat_history.proofs.NameLaws.{heads-law}

-- what the reading of frames gave
record Rises (m : Machine) (low : ℕ) (seen : List Frame) (parts : List (List ℕ)) (fs : List Frame) : Type 0 where
  new : List Frame
  all : fs ≡ seen ++ new
  words : parts ≡ map frame_word new
  frames : list_all (is_frame m) new ≡ true
  rising : modules_rise low new ≡ true

head-lacks : (s : State) (frozen : Bool) → lacks colon (head_word (s, frozen)) ≡ true
head-lacks state.Empty false = refl
head-lacks state.Present1 false = refl
head-lacks state.PresentPlus false = refl
head-lacks state.Modified false = refl
head-lacks state.Empty true = refl
head-lacks state.Present1 true = refl
head-lacks state.PresentPlus true = refl
head-lacks state.Modified true = refl

module _ (m : Machine) (entries : length m.entries ≤ 2 ^ 32) (nodes : m.nodes ≤ 2 ^ 32) (frames : m.frames ≤ 2 ^ 32) where
  frame_form : IsWordForm (frame_of m.nodes m.frames) frame_word (λ f. is_frame m f ≡ true)
  frame_form = frame-law m entries nodes frames

  -- ---- copies

  copies-take : (low : ℕ) (seen : List Frame) (parts : List (List ℕ)) (fs : List Frame) → copies_from m.nodes m.frames low seen parts
      ≡ Ok fs → Rises m low seen parts fs
  unfolding copies_from
  copies-take low seen [] fs e = record {
    new = [];
    all = sym (ok_is seen fs e) ∙ sym (append-nil seen);
    words = refl;
    frames = refl;
    rising = refl;
  }
  copies-take low seen (part ∷ parts) fs e =
      taking (frame_of m.nodes m.frames part) _ _ e (λ f f-is e1. taking (above low f) _ _ e1 (λ g g-is e2.
      let one = frame_form.takes part f f-is in
      let passed = stopped (ltb f.module low) f g Expected g-is in
      let u = copies-take (f.module + 1) (seen ++ f ∷ []) parts fs e2 in
      record {
        new = f ∷ u.new;
        all = u.all ∙ append_assoc seen (f ∷ []) u.new;
        words = rw (one.0, u.words) refl;
        frames = and_from (is_frame m f) (list_all (is_frame m) u.new) one.1 u.frames;
        rising = and_from (not (ltb f.module low)) (modules_rise (f.module + 1) u.new) (not_from_false _ passed.0) u.rising;
      }))

  copies-again : (low : ℕ) (seen new : List Frame) → list_all (is_frame m) new ≡ true → modules_rise low new ≡ true →
      copies_from m.nodes m.frames low seen (map frame_word new) ≡ Ok (seen ++ new)
  unfolding copies_from
  copies-again low seen [] h r = ap Ok (sym (append-nil seen))
  copies-again low seen (f ∷ fs) h r =
      let here = and_parts (is_frame m f) (list_all (is_frame m) fs) h in
      let rises = and_parts (not (ltb f.module low)) (modules_rise (f.module + 1) fs) r in
      then_ok (frame_of m.nodes m.frames (frame_word f)) _ f _ (frame_form.again f here.0)
      (then_ok (above low f) _ f _ (rw (not-true _ rises.0) refl)
      (copies-again (f.module + 1) (seen ++ f ∷ []) fs here.1 rises.1 ∙ ap Ok (append_assoc seen (f ∷ []) fs)))

  frame-lacks : (byte : ℕ) (f : Frame) → is_frame m f ≡ true → (lacks byte (decimal f.module) ≡ true)
      × (lacks byte (decimal f.number) ≡ true) → lacks byte (point ∷ []) ≡ true → lacks byte (frame_word f) ≡ true
  frame-lacks byte f h parts p =
      lacks-append byte (decimal f.module) (point ∷ decimal f.number) parts.0 (lacks-append byte (point ∷ []) (decimal f.number) p parts.1)

  no_comma : (f : Frame) → is_frame m f ≡ true → lacks comma (frame_word f) ≡ true
  no_comma f h = frame-lacks comma f h (
    module-lacks m entries nodes frames comma f refl h,
    number-lacks m entries nodes frames comma f refl h,
  ) refl

  split-joined : (f : Frame) (fs : List Frame) → list_all (is_frame m) (f ∷ fs) ≡ true →
      slice_split (is_byte comma) (join_with_byte comma (map frame_word (f ∷ fs))) ≡ map frame_word (f ∷ fs)
  split-joined f [] h =
      let here = and_parts (is_frame m f) true h in
      parts-end (frame_word f) (sym (cut-lacks comma (frame_word f) (no_comma f here.0)))
  split-joined f (g ∷ gs) h =
      let here = and_parts (is_frame m f) (list_all (is_frame m) (g ∷ gs)) h in
      let rest : List ℕ = join_with_byte comma (map frame_word (g ∷ gs)) in
      parts-more (frame_word f ++ comma ∷ rest) (frame_word f) rest (sym (cut-again comma (frame_word f) rest (no_comma f here.0)))
      ∙ ap (λ k. frame_word f ∷ k) (split-joined g gs here.1)

  some_part : (word : List ℕ) (fs : List Frame) → slice_split (is_byte comma) word ≡ map frame_word fs → fs ≡ [] → ⊥
  some_part word fs e none =
      let no_parts : length (slice_split (is_byte comma) word) ≡ 0 = ap length e ∙ ap (λ k. length (map frame_word k)) none in
      omega (arith, length-slice_split (is_byte comma) word, no_parts)

  copies-word : (word : List ℕ) (fs : List Frame) → copies_of m.nodes m.frames word ≡ Ok fs → (colon ∷ word ≡ copies_part fs)
      × (are_frames m fs ≡ true)
  copies-word word fs e =
      let t = copies-take 0 [] (slice_split (is_byte comma) word) fs e in
      let same : t.new ≡ fs = sym t.all in
      let parts : slice_split (is_byte comma) word ≡ map frame_word fs = t.words ∙ ap (map frame_word) same in (
        joined fs parts,
        subst (λ k. are_frames m k ≡ true) same (and_from (list_all (is_frame m) t.new) (modules_rise 0 t.new) t.frames t.rising),
      ) where
        joined : (fs : List Frame) → slice_split (is_byte comma) word ≡ map frame_word fs → colon ∷ word ≡ copies_part fs
        joined [] e = absurd (some_part word [] e refl)
        joined (f ∷ fs) e = ap (λ k. colon ∷ k) (sym (join_with_byte-slice_split comma word) ∙ ap (join_with_byte comma) e)

  -- ---- directories

  abbrev dir_with : State × Bool → List Frame → Dir
  dir_with head copies = record { state = head.0; frozen = head.1; copies = copies }

  dir-take : (word : List ℕ) (cuts : Option (List ℕ × List ℕ)) (d : Dir) → cut colon word ≡ cuts → dir_parts m.nodes m.frames word cuts
      ≡ Ok d → (word ≡ dir_word d) × (is_told_dir m d ≡ true)
  dir-take word None d c e = taking (named heads word) _ _ e (λ head head-is e1.
      let value : dir_with head [] ≡ d = ok_is (dir_with head []) d e1 in
      let t = heads-law.takes word head head-is in
      rw (← value) (t.0 ∙ sym (append-nil (head_word head)), refl))
  dir-take word (Some parts) d c e =
      taking (named heads parts.0) _ _ e (λ head head-is e1. taking (copies_of m.nodes m.frames parts.1) _ _ e1 (λ copies copies-is e2.
      let value : dir_with head copies ≡ d = ok_is (dir_with head copies) d e2 in
      let t = heads-law.takes parts.0 head head-is in
      let u = copies-word parts.1 copies copies-is in
      let whole : word ≡ head_word head ++ copies_part copies = cut-takes colon word parts.0 parts.1 c ∙ rw (t.0, u.0) refl in
      rw (← value) (whole, u.1)))

  dir-again : (s : State) (frozen : Bool) (fs : List Frame) → are_frames m fs ≡ true →
      dir_of m.nodes m.frames (dir_word (dir_with (s, frozen) fs)) ≡ Ok (dir_with (s, frozen) fs)
  unfolding dir_of
  dir-again s frozen [] h =
      let word : List ℕ = head_word (s, frozen) in
      let bare : word ++ [] ≡ word = append-nil word in
      let none : cut colon (word ++ []) ≡ None = ap (cut colon) bare ∙ cut-lacks colon word (head-lacks s frozen) in
      ap (dir_parts m.nodes m.frames (word ++ [])) none
      ∙ then_ok (named heads (word ++ [])) _ (s, frozen) _ (ap (named heads) bare ∙ heads-law.again (s, frozen) tt) refl
  dir-again s frozen (f ∷ fs) h =
      let both = and_parts (list_all (is_frame m) (f ∷ fs)) (modules_rise 0 (f ∷ fs)) h in
      let word : List ℕ = head_word (s, frozen) in
      let list : List ℕ = join_with_byte comma (map frame_word (f ∷ fs)) in
      let read : copies_of m.nodes m.frames list ≡ Ok (f ∷ fs) = ap (copies_from m.nodes m.frames 0 []) (split-joined f fs both.0)
      ∙ copies-again 0 [] (f ∷ fs) both.0 both.1 in
      ap (dir_parts m.nodes m.frames (word ++ colon ∷ list)) (cut-again colon word list (head-lacks s frozen))
      ∙ then_ok (named heads word) _ (s, frozen) _ (heads-law.again (s, frozen) tt)
      (then_ok (copies_of m.nodes m.frames list) _ (f ∷ fs) _ read refl)

  pub dir-law : IsWordForm (dir_of m.nodes m.frames) dir_word (λ d. is_told_dir m d ≡ true)
  unfolding dir_of
  dir-law = record {
    takes = λ w d e. dir-take w (cut colon w) d refl e;
    again = λ d h. dir-again d.state d.frozen d.copies h;
  }
