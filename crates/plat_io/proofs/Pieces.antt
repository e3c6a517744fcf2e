-- pieces that are written one after another
use Rattle.std.proofs.Common.{◌≡◌, ℕ, ◌+◌, ◌-◌, ◌<◌, ◌≤◌, ◌&&◌, ◌||◌, ◌⊎◌, inl, inr, Bool, true, false, eqb, List, [], ◌∷◌, ◌++◌, length}
use Rattle.std.proofs.Common.{take, drop, get_or, Option, Some, None, refl, sym, ap, ◌∙◌, subst, arith, append_assoc, take-add, take_all}
use Rattle.std.proofs.Common.{length-drop}
use Rattle.std.specs.Prelude.{nat_eq}
use Rattle.std.specs.List.{starts_with, flat_map}
use Rattle.std.proofs.lemmas.List.{take-append-drop, append-nil, append_cancel_left, drop_more, drop-drop}
use Rattle.std.proofs.lemmas.Grind.{flat_map-append, take_at_read}
use Rattle.std.proofs.lemmas.Slice.Eq.{starts_is}
use Rattle.std.proofs.lemmas.Bool.Decides.{Decides-eqb}
use Rattle.std.proofs.lemmas.Bool.{and_parts, and_from, or_left, or_right}
use Rattle.plat_io.specs.Streams.{added, HasRisen}
use Rattle.plat_io.specs.Adds.{is_part}

-- ---- a list that starts with another

starts_with-split : (s p : List ℕ) → starts_with nat_eq s p ≡ true → s ≡ p ++ drop (length p) s
starts_with-split s p h = (starts_is Decides-eqb s p _ refl).0 h

starts_with-append : (s p rest : List ℕ) → s ≡ p ++ rest → starts_with nat_eq s p ≡ true
starts_with-append s p rest e = (starts_is Decides-eqb s p _ refl).1 rest e

-- ---- bytes that are added in two pieces

pub added_append : (held : Option (List ℕ)) (p q : List ℕ) → added held (p ++ q) ≡ added (added held p) q
unfolding added
added_append None p q = refl
added_append (Some xs) p q = ap (λ (ys : List ℕ). Some ys) (sym (append_assoc xs p q))

pub added_none : (held : Option (List ℕ)) → added held [] ≡ held
unfolding added
added_none None = refl
added_none (Some xs) = ap (λ (ys : List ℕ). Some ys) (append-nil xs)

-- ---- a part of a piece

-- what a sink holds now is what it held and a part of a piece, of which the rest is left
pub is_part-split : (held p now : List ℕ) → is_part (Some held) p (Some now) ≡ true → (part : List ℕ) × (rest : List ℕ)
    × (now ≡ held ++ part) × (p ≡ part ++ rest)
unfolding is_part
is_part-split held p now h =
    let both = and_parts _ _ h in
    let front = starts_with-split now held both.0 in
    let whole = starts_with-split (held ++ p) now both.1 in
    let part : List ℕ = drop (length held) now in
    let rest : List ℕ = drop (length now) (held ++ p) in
    let by_parts : held ++ p ≡ held ++ (part ++ rest) = whole ∙ (ap (λ (xs : List ℕ). xs ++ rest) front ∙ append_assoc held part rest) in
    (part, rest, front, append_cancel_left held p (part ++ rest) by_parts)

is_part-joined : (held part rest : List ℕ) → is_part (Some held) (part ++ rest) (Some (held ++ part)) ≡ true
unfolding is_part
is_part-joined held part rest =
    and_from _ _ (starts_with-append (held ++ part) held part refl)
    (starts_with-append (held ++ (part ++ rest)) (held ++ part) rest (sym (append_assoc held part rest)))

is_part-by_parts : (held p now part rest : List ℕ) → now ≡ held ++ part → p ≡ part ++ rest → is_part (Some held) p (Some now) ≡ true
is_part-by_parts held p now part rest e d = rw (e, d) (is_part-joined held part rest)

part_append : (held : Option (List ℕ)) (p q : List ℕ) (now : Option (List ℕ)) → is_part (added held p) q now ≡ true →
    is_part held (p ++ q) now ≡ true
unfolding is_part added
part_append None p q None h = refl
part_append None p q (Some ys) h = h
part_append (Some xs) p q None h = h
part_append (Some xs) p q (Some ys) h =
    let parts = is_part-split (xs ++ p) q ys h in
    is_part-by_parts xs (p ++ q) ys (p ++ parts.0) parts.1 (parts.2 ∙ append_assoc xs p parts.0)
    (ap (λ (zs : List ℕ). p ++ zs) parts.3 ∙ sym (append_assoc p parts.0 parts.1))

part_more : (held : Option (List ℕ)) (p q : List ℕ) (now : Option (List ℕ)) → is_part held p now ≡ true → is_part held (p ++ q) now ≡ true
unfolding is_part
part_more None p q None h = refl
part_more None p q (Some ys) h = h
part_more (Some xs) p q None h = h
part_more (Some xs) p q (Some ys) h =
    let parts = is_part-split xs p ys h in
    is_part-by_parts xs (p ++ q) ys parts.0 (parts.1 ++ q) parts.2 (ap (λ (zs : List ℕ). zs ++ q) parts.3 ∙ append_assoc parts.0 parts.1 q)

-- of two ways to cut one list, one cuts no later than the other
Overlap : (p q part rest : List ℕ) → Type 0
Overlap p q part rest = ((more : List ℕ) × (p ≡ part ++ more)) ⊎ ((more : List ℕ) × (part ≡ p ++ more) × (q ≡ more ++ rest))

overlap-cons : (x y : ℕ) (p q part rest : List ℕ) → x ≡ y → Overlap p q part rest → Overlap (x ∷ p) q (y ∷ part) rest
unfolding Overlap
overlap-cons x y p q part rest e (inl (more, f)) = inl (more, rw (e, f) refl)
overlap-cons x y p q part rest e (inr (more, f, h)) = inr (more, rw (e, f) refl, h)

overlap : (p q part rest : List ℕ) → p ++ q ≡ part ++ rest → Overlap p q part rest
unfolding Overlap
overlap [] q part rest e = inr (part, refl, e)
overlap (x ∷ p) q [] rest e = inl (x ∷ p, refl)
overlap (x ∷ p) q (y ∷ part) rest e = overlap-cons x y p q part rest (cc) (overlap p q part rest (cc))

same_or : (a b c : Bool) → (a ≡ true → (b || c) ≡ true) → (b ≡ true → a ≡ true) → (c ≡ true → a ≡ true) → a ≡ (b || c)
same_or true b c h k l = sym (h refl)
same_or false true c h k l = k refl
same_or false false true h k l = l refl
same_or false false false h k l = refl

cut_part : (xs p q ys part rest : List ℕ) → ys ≡ xs ++ part → Overlap p q part rest →
    (is_part (Some xs) p (Some ys) || is_part (Some (xs ++ p)) q (Some ys)) ≡ true
unfolding Overlap
cut_part xs p q ys part rest e (inl (more, f)) = or_left _ _ (is_part-by_parts xs p ys part more e f)
cut_part xs p q ys part rest e (inr (more, f, h)) =
    or_right _ _ (is_part-by_parts (xs ++ p) q ys more rest (e ∙ (ap (λ (zs : List ℕ). xs ++ zs) f ∙ sym (append_assoc xs p more))) h)

part_cut : (held : Option (List ℕ)) (p q : List ℕ) (now : Option (List ℕ)) → is_part held (p ++ q) now ≡ true →
    (is_part held p now || is_part (added held p) q now) ≡ true
unfolding is_part added
part_cut None p q None h = refl
part_cut None p q (Some ys) h = h
part_cut (Some xs) p q None h = h
part_cut (Some xs) p q (Some ys) h =
    let parts = is_part-split xs (p ++ q) ys h in
    cut_part xs p q ys parts.0 parts.1 parts.2 (overlap p q parts.0 parts.1 parts.3)

-- a part of two pieces is a part of the first, or the first and a part of the second
pub is_part_append : (held : Option (List ℕ)) (p q : List ℕ) (now : Option (List ℕ)) →
    is_part held (p ++ q) now ≡ (is_part held p now || is_part (added held p) q now)
is_part_append held p q now =
    same_or _ _ _ (part_cut held p q now) (part_more held p q now) (part_append held p q now)

-- the same of a piece that is known to begin with one byte
pub added_cons : (held : Option (List ℕ)) (x : ℕ) (p : List ℕ) → added held (x ∷ p) ≡ added (added held (x ∷ [])) p
added_cons held x p = added_append held (x ∷ []) p

pub is_part_cons : (held : Option (List ℕ)) (x : ℕ) (p : List ℕ) (now : Option (List ℕ)) →
    is_part held (x ∷ p) now ≡ (is_part held (x ∷ []) now || is_part (added held (x ∷ [])) p now)
is_part_cons held x p now = is_part_append held (x ∷ []) p now

part_itself : (held : Option (List ℕ)) (p : List ℕ) → is_part held p (added held p) ≡ true
unfolding is_part added
part_itself None p = refl
part_itself (Some xs) p = is_part-by_parts xs p (xs ++ p) p [] refl (sym (append-nil p))

pub is_part_take : (held : Option (List ℕ)) (p : List ℕ) (n : ℕ) → is_part held p (added held (take n p)) ≡ true
is_part_take held p n =
    let whole : is_part held (take n p ++ drop n p) (added held (take n p)) ≡ true =
    part_more held (take n p) (drop n p) _ (part_itself held (take n p)) in
    rw take-append-drop at whole

-- ---- a piece that is written in several calls

-- `&p[m..]`, as goals write it
suffix : (p : List ℕ) (m : ℕ) → take (length p - m) (drop m p) ≡ drop m p
suffix p m = take_all (length p - m) (drop m p) (omega (arith, length-drop m p))

pub added_take : (held : Option (List ℕ)) (p : List ℕ) (m n : ℕ) →
    added held (take (m + n) p) ≡ added (added held (take m p)) (take n (take (length p - m) (drop m p)))
added_take held p m n = rw suffix (ap (added held) (take-add m n p) ∙ added_append held (take m p) (take n (drop m p)))

-- what is read from place `at` on, and what is left after it
pub read_cut : (xs : List ℕ) (at n : ℕ) → take n (take (length xs - at) (drop at xs)) ++ drop (at + n) xs ≡ drop at xs
read_cut xs at n = rw (suffix, ← drop-drop n at xs) (take-append-drop n (drop at xs))

pub ruleset taking = (added_none, added_take, is_part_take)

pub ruleset pieces = (added_append, added_cons, is_part_append, is_part_cons)

-- ---- pieces that are written in a loop

pub flat_map_cut : {X : Type 0} (f : X → List ℕ) (xs : List X) (i : ℕ) → (flat_map f (take i xs) ≡ flat_map f (take i xs))
    × (flat_map f xs ≡ flat_map f (take i xs) ++ flat_map f (drop i xs))
flat_map_cut {X} f xs i = (refl, ap (flat_map f) (sym (take-append-drop i xs)) ∙ flat_map-append f (take i xs) (drop i xs))

pub drop_at_read : {X : Type 0} (xs : List X) (i : ℕ) (d : X) → i < length xs → (get_or xs i d ≡ get_or xs i d)
    × (drop i xs ≡ get_or xs i d ∷ drop (i + 1) xs)
drop_at_read xs i d h = (refl, drop_more xs i d h)

pub ruleset loops = (pieces, added_none, flat_map_cut, flat_map-append, take_at_read, drop_at_read, take_all)

-- a length that has risen from a later start has risen from an earlier one
pub HasRisen-later : (a b c : ℕ) → a ≤ b → HasRisen b c → HasRisen a c
HasRisen-later a b c h (inl k) = inl (omega arith)
HasRisen-later a b c h (inr k) = inr k
