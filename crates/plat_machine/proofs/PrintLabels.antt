-- labels that are written among instructions
use Rattle.std.proofs.Common.{add-one, ◌≡◌, ℕ, zero, suc, ◌+◌, ◌-◌, ◌<◌, ◌≤◌, List, [], ◌∷◌, ◌++◌, length, get_or, take, drop, map, IsTrue}
use Rattle.std.proofs.Common.{refl, sym, ap, ◌∙◌, arith, append_assoc}
use Rattle.std.proofs.Math.Nat.{sub_self}
use Rattle.std.proofs.lemmas.Bool.Decides.{nat_tests}
use Rattle.std.proofs.lemmas.List.{drop-drop, take-map, drop-map, drop_more, drop_all, take_all, length-drop}
use Rattle.plat_base.specs.Canon.{Words, label_words, with_labels}
use Rattle.plat_base.specs.Machine.{labels_rise}
use Rattle.plat_base.specs.declared.guests.Instr.{Instr}
use Rattle.plat_base.specs.declared.guests.Label.{Label}

-- the lines up to that of the last of these labels
abbrev pub lines_to : ℕ → List Words → List Label → List Words
lines_to at code [] = []
lines_to at code (l ∷ ls) = take (l.at - at) code ++ label_words l ∷ lines_to l.at (drop (l.at - at) code) ls

-- the position of the last of these labels
abbrev pub last_at : ℕ → List Label → ℕ
last_at at [] = at
last_at at (l ∷ ls) = last_at l.at ls

-- ---- positions rise

pub label-rises : (labels : List Label) (at high i : ℕ) (other : Label) → IsTrue (labels_rise at high labels) → i < length labels →
    (last_at at (take i labels) ≤ (get_or labels i other).at) × ((get_or labels i other).at ≤ high)
label-rises [] at high i other h k = absurd (omega arith)
label-rises (l ∷ ls) at high zero other h k = grind (arith, nat_tests)
label-rises (l ∷ ls) at high (suc i) other h k = grind (arith, nat_tests, label-rises ls l.at high i other)

pub last_at-rises : (labels : List Label) (at high i : ℕ) → IsTrue (labels_rise at high labels) → at ≤ high →
    (at ≤ last_at at (take i labels)) × (last_at at (take i labels) ≤ high)
last_at-rises labels at high zero h k = (omega arith, k)
last_at-rises [] at high (suc i) h k = (omega arith, k)
last_at-rises (l ∷ ls) at high (suc i) h k = grind (arith, nat_tests, last_at-rises ls l.at high i)

last_at-next : (labels : List Label) (at i : ℕ) (other : Label) → i < length labels →
    last_at at (take (suc i) labels) ≡ (get_or labels i other).at
last_at-next [] at i other k = absurd (omega arith)
last_at-next (l ∷ ls) at zero other k = refl
last_at-next (l ∷ ls) at (suc i) other k = last_at-next ls l.at i other (omega arith)

pub last_at-more : (labels : List Label) (at i : ℕ) (other : Label) → i < length labels →
    last_at at (take (i + 1) labels) ≡ (get_or labels i other).at
last_at-more labels at i other k = rw add-one (last_at-next labels at i other k)

-- ---- the lines of some labels, and what is left

drop-less : (code : List Words) (a b c : ℕ) → a ≤ b → b ≤ c → drop (c - b) (drop (b - a) code) ≡ drop (c - a) code
drop-less code a b c h k = drop-drop (c - b) (b - a) code ∙ ap (λ (n : ℕ). drop n code) (omega arith)

-- the lines between position p, that of the last label so far, and label l, and its line
abbrev up_to : ℕ → List Words → (p : ℕ) → Label → List Words
up_to at code p l = take (l.at - p) (drop (p - at) code)

lines_to-next :
    (labels : List Label) (at high : ℕ) (code : List Words) (i : ℕ) (other : Label) → IsTrue (labels_rise at high labels) → at ≤ high →
    i < length labels
    → lines_to at code (take (suc i) labels)
    ≡ lines_to at code (take i labels)
    ++ (up_to at code (last_at at (take i labels)) (get_or labels i other) ++ label_words (get_or labels i other) ∷ [])
lines_to-next [] at high code i other h a k = absurd (omega arith)
lines_to-next (l ∷ ls) at high code zero other h a k = rw (sub_self at) refl
lines_to-next (l ∷ ls) at high code (suc i) other h a k =
    let low : at ≤ l.at = grind (arith, nat_tests) in
    let rest : IsTrue (labels_rise l.at high ls) = grind (arith, nat_tests) in
    let top : l.at ≤ high = grind (arith, nat_tests) in
    let p : ℕ = last_at l.at (take i ls) in
    let after : l.at ≤ p = (last_at-rises ls l.at high i rest top).0 in
    let step = lines_to-next ls l.at high (drop (l.at - at) code) i other rest top (omega arith) in
    let same : drop (p - l.at) (drop (l.at - at) code) ≡ drop (p - at) code = drop-less code at l.at p low after in
    ap (λ (xs : List Words). take (l.at - at) code ++ label_words l ∷ xs) (rw same at step)
    ∙ sym (append_assoc (take (l.at - at) code) (label_words l ∷ lines_to l.at (drop (l.at - at) code) (take i ls)) _)

with_labels-cut :
    (labels : List Label) (at high : ℕ) (code : List Words) (i : ℕ) → IsTrue (labels_rise at high labels) → at ≤ high
    → with_labels at code labels
    ≡ lines_to at code (take i labels) ++ with_labels (last_at at (take i labels)) (drop (last_at at (take i labels) - at) code)
    (drop i labels)
with_labels-cut labels at high code zero h a = rw (sub_self at) refl
with_labels-cut [] at high code (suc i) h a = rw (sub_self at) refl
with_labels-cut (l ∷ ls) at high code (suc i) h a =
    let low : at ≤ l.at = grind (arith, nat_tests) in
    let rest : IsTrue (labels_rise l.at high ls) = grind (arith, nat_tests) in
    let top : l.at ≤ high = grind (arith, nat_tests) in
    let p : ℕ = last_at l.at (take i ls) in
    let after : l.at ≤ p = (last_at-rises ls l.at high i rest top).0 in
    let same : drop (p - l.at) (drop (l.at - at) code) ≡ drop (p - at) code = drop-less code at l.at p low after in
    let step = with_labels-cut ls l.at high (drop (l.at - at) code) i rest top in
    ap (λ (xs : List Words). take (l.at - at) code ++ label_words l ∷ xs) (rw same at step)
    ∙ sym (append_assoc (take (l.at - at) code) (label_words l ∷ lines_to l.at (drop (l.at - at) code) (take i ls)) _)

-- ---- the same of the lines of instructions

-- the lines of the instructions from position p to before position e
abbrev pub between_lines : (Instr → Words) → List Instr → (p e : ℕ) → List Words
between_lines f code p e = map f (take (e - p) (drop p code))

between_lines-is : (f : Instr → Words) (code : List Instr) (p e : ℕ) → take (e - p) (drop (p - 0) (map f code)) ≡ between_lines f code p e
between_lines-is f code p e =
    let same : p - 0 ≡ p = omega arith in rw (same, drop-map, take-map) refl

-- where `at` is the position of the last label so far, and l the next label
pub record IsNext (labels : List Label) (high i at : ℕ) (l : Label) : Type 0 where
  pub rising : IsTrue (labels_rise 0 high labels)
  pub within : i < length labels
  pub place : at ≡ last_at 0 (take i labels)
  pub item : l ≡ get_or labels i l

pub IsNext-bounds : {labels : List Label} {high i at : ℕ} {l : Label} → IsNext labels high i at l → (at ≤ l.at) × (l.at ≤ high)
IsNext-bounds {labels} {high} {i} {at} {l} h = rw (h.place, h.item) (label-rises labels 0 high i l h.rising h.within)

pub lines_to-more :
    (f : Instr → Words) (code : List Instr) {labels : List Label} {i at : ℕ} {l : Label} → IsNext labels (length code) i at l
    → lines_to 0 (map f code) (take (i + 1) labels)
    ≡ lines_to 0 (map f code) (take i labels) ++ (between_lines f code at l.at ++ label_words l ∷ [])
lines_to-more f code {labels} {i} {at} {l} h =
    rw (add-one, h.place, h.item, ← between_lines-is)
    (lines_to-next labels 0 (length code) (map f code) i l h.rising (omega arith) h.within)

-- the lines after the line of label l
abbrev pub lines_after : (f : Instr → Words) (code : List Instr) (labels : List Label) (i : ℕ) (l : Label) → List Words
lines_after f code labels i l =
    with_labels l.at (drop (l.at - last_at 0 (take i labels)) (drop (last_at 0 (take i labels) - 0) (map f code))) (drop (i + 1) labels)

pub with_labels-here :
    (f : Instr → Words) (code : List Instr) {labels : List Label} {i at : ℕ} {l : Label} → IsNext labels (length code) i at l
    → with_labels 0 (map f code) labels
    ≡ lines_to 0 (map f code) (take i labels) ++ (between_lines f code at l.at ++ label_words l ∷ lines_after f code labels i l)
with_labels-here f code {labels} {i} {at} {l} h =
    let next : drop i labels ≡ l ∷ drop (i + 1) labels = drop_more labels i l h.within
    ∙ ap (λ (x : Label). x ∷ drop (i + 1) labels) (sym h.item) in
    rw (h.place, ← between_lines-is) (rw next at (with_labels-cut labels 0 (length code) (map f code) i h.rising (omega arith)))

pub with_labels-end :
    (f : Instr → Words) (code : List Instr) (labels : List Label) (i at : ℕ) → IsTrue (labels_rise 0 (length code) labels) →
    length labels ≤ i
    → at ≡ last_at 0 (take i labels)
    → with_labels 0 (map f code) labels ≡ lines_to 0 (map f code) (take i labels) ++ between_lines f code at (length code)
with_labels-end f code labels i at h k e =
    let cut = with_labels-cut labels 0 (length code) (map f code) i h (omega arith) in
    let whole : take (length code - at) (drop at code) ≡ drop at code =
    take_all (length code - at) (drop at code) (omega (arith, length-drop at code)) in
    let none : drop i labels ≡ [] = drop_all i labels k in
    let same : at - 0 ≡ at = omega arith in
    rw whole (rw (none, ← e, same, drop-map) at cut)
