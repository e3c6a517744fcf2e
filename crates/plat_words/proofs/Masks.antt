-- masks: what each operation of the protocol does to the bits of each processor, and that a mask of the machine stays one
use Rattle.std.proofs.Common.{◌≡◌, ℕ, ◌+◌, ◌-◌, ◌^◌, ◌<◌, ◌≤◌, Bool, true, false, [], ◌∷◌, ◌++◌, refl, inl, inr, ap, sym, subst, ◌∙◌, arith}
use Rattle.std.specs.Prelude.{◌==◌, ◌&&◌, ◌||◌, not, bit_and, bit_or, IsTrue}
use Rattle.std.proofs.lemmas.Bool.Decides.{nat_tests}
use Rattle.std.proofs.lemmas.Bool.{cases_lt, and_right}
use Rattle.std.specs.Int.{bit_at}
use Rattle.std.proofs.lemmas.Nat.{or_lt, pow_below, and_le_l}
use Rattle.std.proofs.lemmas.Nat.Bits.{same_from_bits_below, bit_at-lt, bit_at-zero}
use Rattle.plat_base.specs.Machine.{Machine}
use Rattle.plat_base.specs.declared.items.Message.TheVariants.{Invalidate, Restrict}
use Rattle.plat_base.specs.declared.items.Message.{Message}
use Rattle.plat_base.specs.declared.items.Removed.{Removed}
use Rattle.plat_base.specs.declared.items.Removed.TheVariants.{Nothing, Writes, All}
use Rattle.plat_events.specs.Words.{packed, has_bit, bits_from, bit_fields, has_reference, has_invalidate, has_restrict, has_references}
use Rattle.plat_events.specs.Words.{mask_word, posted_mask, bits_applied, all_but}
use Rattle.plat_events.specs.Places.{is_mask_word}
use Rattle.plat_words.proofs.SingleBits.{has_bit-pow, has_bit-set, has_bit-cleared, has_bit-above, has_bit-field, field_below}
use Rattle.plat_words.proofs.SingleBits.{has_bit-within, has_bit-behind, bits_between-below, bits_above}

-- ---- a mask by its tests

pub has_reference-mask_word : (f g h : ℕ → Bool) (q : ℕ) → q < 8 → has_reference (mask_word f g h) q ≡ f q
unfolding mask_word
has_reference-mask_word f g h q l = has_bit-within f 8 q (bit_fields g ++ bit_fields h) l

pub has_invalidate-mask_word : (f g h : ℕ → Bool) (q : ℕ) → q < 8 → has_invalidate (mask_word f g h) q ≡ g q
unfolding mask_word
has_invalidate-mask_word f g h q l = has_bit-behind f 8 q (bit_fields g ++ bit_fields h) ∙ has_bit-within g 8 q (bit_fields h) l

pub has_restrict-mask_word : (f g h : ℕ → Bool) (q : ℕ) → q < 8 → has_restrict (mask_word f g h) q ≡ h q
unfolding mask_word
has_restrict-mask_word f g h q l =
    let e : 16 + q ≡ 8 + (8 + q) = omega arith in
    ap (λ i. has_bit (mask_word f g h) i) e ∙ has_bit-behind f 8 (8 + q) (bit_fields g ++ bit_fields h)
    ∙ has_bit-behind g 8 q (bit_fields h)
    ∙ has_bit-within h 8 q [] l

-- ---- a mask by its three parts

-- three parts of eight bits
pub record AreParts (r i s : ℕ) : Type 0 where
  pub references : r < 2 ^ 8
  pub invalidates : i < 2 ^ 8
  pub restricts : s < 2 ^ 8

abbrev pub parts_word : (r i s : ℕ) → ℕ
parts_word r i s = packed ((r, 8) ∷ (i, 8) ∷ (s, 8) ∷ [])

part_bit : (n p x q : ℕ) → bits_from n p 8 ≡ x → q < 8 → has_bit n (p + q) ≡ has_bit x q
part_bit n p x q e h = sym (has_bit-field n p 8 q h) ∙ ap (λ y. has_bit y q) e

pub has_reference-parts : (r i s q : ℕ) → AreParts r i s → q < 8 → has_reference (parts_word r i s) q ≡ has_bit r q
has_reference-parts r i s q p h =
    let e : 0 + q ≡ q = omega arith in
    ap (λ j. has_bit (parts_word r i s) j) (sym e) ∙ part_bit (parts_word r i s) 0 r q (grind (arith, p.references)) h

pub has_invalidate-parts : (r i s q : ℕ) → AreParts r i s → q < 8 → has_invalidate (parts_word r i s) q ≡ has_bit i q
has_invalidate-parts r i s q p h =
    let a = p.references in let b = p.invalidates in part_bit (parts_word r i s) 8 i q (omega arith) h

pub has_restrict-parts : (r i s q : ℕ) → AreParts r i s → q < 8 → has_restrict (parts_word r i s) q ≡ has_bit s q
has_restrict-parts r i s q p h =
    let a = p.references in let b = p.invalidates in let c = p.restricts in part_bit (parts_word r i s) 16 s q (omega arith) h

-- ---- the bits of a mask

-- what holds of the bits of each processor holds of all bits
pub by_processor :
    (P : ℕ → Type 0) → ((q : ℕ) → q < 8 → P q) → ((q : ℕ) → q < 8 → P (8 + q)) → ((q : ℕ) → q < 8 → P (16 + q)) → (i : ℕ) → i < 24 → P i
by_processor P a b c i h =
    elim (cases_lt i 8) [
      | inl first ↦ a i first
      | inr later ↦ elim (cases_lt i 16) [
        | inl second ↦ (let e : 8 + (i - 8) ≡ i = omega arith in subst P e (b (i - 8) (omega arith)))
        | inr third ↦ (let e : 16 + (i - 16) ≡ i = omega arith in subst P e (c (i - 16) (omega arith)))
      ]
    ]

same_bit : (a b i : ℕ) → has_bit a i ≡ has_bit b i → bit_at a i ≡ bit_at b i
same_bit a b i e = let h = bit_at-lt a i in let k = bit_at-lt b i in grind (arith, nat_tests)

-- two masks with the same bits are the same
pub same_mask :
    (a b : ℕ) → a < 2 ^ 24 → b < 2 ^ 24 →
    ((q : ℕ) → q < 8 →
    (has_reference a q ≡ has_reference b q) × (has_invalidate a q ≡ has_invalidate b q) × (has_restrict a q ≡ has_restrict b q)) → a ≡ b
same_mask a b h k e =
    same_from_bits_below 24 a b h k
    (λ i l. same_bit a b i (by_processor (λ j. has_bit a j ≡ has_bit b j) (λ q l. (e q l).0) (λ q l. (e q l).1) (λ q l. (e q l).2) i l))

-- ---- masks of the machine

-- each bit is below 24 and names a processor
pub record IsMask (m : Machine) (n : ℕ) : Type 0 where
  pub below : n < 2 ^ 24
  pub processors : (q : ℕ) → q < 8 → m.nodes ≤ q → (has_reference n q ≡ false) × (has_invalidate n q ≡ false) × (has_restrict n q ≡ false)

pub mask_of : (m : Machine) (n : ℕ) → IsTrue (is_mask_word m n) → IsMask m n
mask_of m n h = record {
  below = grind (arith, nat_tests);
  processors = λ q l k. let e : q ≡ 0 + q = omega arith in (
    ap (λ j. has_bit n j) e ∙ part_bit n 0 (bits_from n 0 8) q refl l
        ∙ has_bit-above (bits_from n 0 8) m.nodes q (grind (arith, nat_tests)) k,
    part_bit n 8 (bits_from n 8 8) q refl l ∙ has_bit-above (bits_from n 8 8) m.nodes q (grind (arith, nat_tests)) k,
    part_bit n 16 (bits_from n 16 8) q refl l ∙ has_bit-above (bits_from n 16 8) m.nodes q (grind (arith, nat_tests)) k,
  );
}

pub is_mask-of : (m : Machine) (n : ℕ) → IsMask m n → IsTrue (is_mask_word m n)
is_mask-of m n h =
    let first : bits_from n 0 8 < 2 ^ m.nodes =
    field_below n 0 8 m.nodes (λ i l k. let e : 0 + i ≡ i = omega arith in ap (λ j. has_bit n j) e ∙ (h.processors i l k).0) in
    let second : bits_from n 8 8 < 2 ^ m.nodes = field_below n 8 8 m.nodes (λ i l k. (h.processors i l k).1) in
    let third : bits_from n 16 8 < 2 ^ m.nodes = field_below n 16 8 m.nodes (λ i l k. (h.processors i l k).2) in
    let below = h.below in grind (arith, nat_tests)

-- ---- a processor's own reference is set

pub has_reference-granted : (n a q : ℕ) → has_reference (bit_or n (2 ^ a)) q ≡ (has_reference n q || q == a)
has_reference-granted n a q = has_bit-set n a q

pub has_invalidate-granted : (n a q : ℕ) → a < 8 → has_invalidate (bit_or n (2 ^ a)) q ≡ has_invalidate n q
has_invalidate-granted n a q h = has_bit-set n a (8 + q) ∙ grind (arith, nat_tests)

pub has_restrict-granted : (n a q : ℕ) → a < 8 → has_restrict (bit_or n (2 ^ a)) q ≡ has_restrict n q
has_restrict-granted n a q h = has_bit-set n a (16 + q) ∙ grind (arith, nat_tests)

pub granted_below : (n a : ℕ) → a < 8 → n < 2 ^ 24 → bit_or n (2 ^ a) < 2 ^ 24
granted_below n a h k = or_lt 24 n (2 ^ a) k (pow_below a 24 (omega arith))

pub granted-mask : (m : Machine) (n a : ℕ) → a < m.nodes → m.nodes ≤ 8 → IsMask m n → IsMask m (bit_or n (2 ^ a))
granted-mask m n a h k is = record {
  below = granted_below n a (omega arith) is.below;
  processors = λ q l p. let old = is.processors q l p in let other : (q == a) ≡ false = grind (arith, nat_tests) in (
    has_reference-granted n a q ∙ ap (λ b. b || (q == a)) old.0 ∙ other,
    has_invalidate-granted n a q (omega arith) ∙ old.1,
    has_restrict-granted n a q (omega arith) ∙ old.2,
  );
}

-- ---- a message is applied: the own bits are cleared

pub parts_word-below : (r i s : ℕ) → AreParts r i s → parts_word r i s < 2 ^ 24
parts_word-below r i s p = let a = p.references in let b = p.invalidates in let c = p.restricts in omega arith

own_parts : (a : ℕ) → a < 8 → AreParts (2 ^ a) (2 ^ a) (2 ^ a)
own_parts a h = let below : 2 ^ a < 2 ^ 8 = pow_below a 8 h in record { references = below; invalidates = below; restricts = below }

restrict_parts : (a : ℕ) → a < 8 → AreParts 0 0 (2 ^ a)
restrict_parts a h = record { references = omega arith; invalidates = omega arith; restricts = pow_below a 8 h }

parts_below : (r i s : ℕ) → AreParts r i s → parts_word r i s < 2 ^ 64
parts_below r i s p = let l = parts_word-below r i s p in omega arith

-- an invalidate clears all three bits
pub has_reference-invalidated :
    (n a q : ℕ) → a < 8 → q < 8 → has_reference (bit_and n (all_but (bits_applied Invalidate a))) q ≡ (has_reference n q && not (q == a))
has_reference-invalidated n a q h l =
    has_bit-cleared n (bits_applied Invalidate a) q (parts_below (2 ^ a) (2 ^ a) (2 ^ a) (own_parts a h)) (omega arith)
    ∙ ap (λ b. has_reference n q && not b) (has_reference-parts (2 ^ a) (2 ^ a) (2 ^ a) q (own_parts a h) l ∙ has_bit-pow a q)

pub has_invalidate-invalidated :
    (n a q : ℕ) → a < 8 → q < 8 →
    has_invalidate (bit_and n (all_but (bits_applied Invalidate a))) q ≡ (has_invalidate n q && not (q == a))
has_invalidate-invalidated n a q h l =
    has_bit-cleared n (bits_applied Invalidate a) (8 + q) (parts_below (2 ^ a) (2 ^ a) (2 ^ a) (own_parts a h)) (omega arith)
    ∙ ap (λ b. has_invalidate n q && not b) (has_invalidate-parts (2 ^ a) (2 ^ a) (2 ^ a) q (own_parts a h) l ∙ has_bit-pow a q)

pub has_restrict-invalidated :
    (n a q : ℕ) → a < 8 → q < 8 → has_restrict (bit_and n (all_but (bits_applied Invalidate a))) q ≡ (has_restrict n q && not (q == a))
has_restrict-invalidated n a q h l =
    has_bit-cleared n (bits_applied Invalidate a) (16 + q) (parts_below (2 ^ a) (2 ^ a) (2 ^ a) (own_parts a h)) (omega arith)
    ∙ ap (λ b. has_restrict n q && not b) (has_restrict-parts (2 ^ a) (2 ^ a) (2 ^ a) q (own_parts a h) l ∙ has_bit-pow a q)

-- a restrict clears its own bit alone
pub has_bit-none : (i : ℕ) → has_bit 0 i ≡ false
has_bit-none i = ap (λ b. b == 1) (bit_at-zero i)

kept_bit : (b : Bool) → (b && not false) ≡ b
kept_bit true = refl
kept_bit false = refl

pub has_reference-restricted :
    (n a q : ℕ) → a < 8 → q < 8 → has_reference (bit_and n (all_but (bits_applied Restrict a))) q ≡ has_reference n q
has_reference-restricted n a q h l =
    has_bit-cleared n (bits_applied Restrict a) q (parts_below 0 0 (2 ^ a) (restrict_parts a h)) (omega arith)
    ∙ ap (λ b. has_reference n q && not b) (has_reference-parts 0 0 (2 ^ a) q (restrict_parts a h) l ∙ has_bit-none q)
    ∙ kept_bit (has_reference n q)

pub has_invalidate-restricted :
    (n a q : ℕ) → a < 8 → q < 8 → has_invalidate (bit_and n (all_but (bits_applied Restrict a))) q ≡ has_invalidate n q
has_invalidate-restricted n a q h l =
    has_bit-cleared n (bits_applied Restrict a) (8 + q) (parts_below 0 0 (2 ^ a) (restrict_parts a h)) (omega arith)
    ∙ ap (λ b. has_invalidate n q && not b) (has_invalidate-parts 0 0 (2 ^ a) q (restrict_parts a h) l ∙ has_bit-none q)
    ∙ kept_bit (has_invalidate n q)

pub has_restrict-restricted :
    (n a q : ℕ) → a < 8 → q < 8 → has_restrict (bit_and n (all_but (bits_applied Restrict a))) q ≡ (has_restrict n q && not (q == a))
has_restrict-restricted n a q h l =
    has_bit-cleared n (bits_applied Restrict a) (16 + q) (parts_below 0 0 (2 ^ a) (restrict_parts a h)) (omega arith)
    ∙ ap (λ b. has_restrict n q && not b) (has_restrict-parts 0 0 (2 ^ a) q (restrict_parts a h) l ∙ has_bit-pow a q)

-- fewer bits of a mask of the machine are one
pub cleared-mask : (m : Machine) (n b : ℕ) → b < 2 ^ 64 → IsMask m n → IsMask m (bit_and n (all_but b))
cleared-mask m n b h is = record {
  below = let l = and_le_l n (all_but b) in let k = is.below in omega arith;
  processors = λ q l p. let old = is.processors q l p in (
    has_bit-cleared n b q h (omega arith) ∙ ap (λ x. x && not (has_bit b q)) old.0,
    has_bit-cleared n b (8 + q) h (omega arith) ∙ ap (λ x. x && not (has_bit b (8 + q))) old.1,
    has_bit-cleared n b (16 + q) h (omega arith) ∙ ap (λ x. x && not (has_bit b (16 + q))) old.2,
  );
}

pub applied-mask : (m : Machine) (n a : ℕ) (msg : Message) → a < 8 → IsMask m n → IsMask m (bit_and n (all_but (bits_applied msg a)))
applied-mask m n a Invalidate h is = cleared-mask m n (bits_applied Invalidate a) (parts_below (2 ^ a) (2 ^ a) (2 ^ a) (own_parts a h)) is
applied-mask m n a Restrict h is = cleared-mask m n (bits_applied Restrict a) (parts_below 0 0 (2 ^ a) (restrict_parts a h)) is

-- ---- a post: the tests of `mask_word` are read above, and the mask stays one of the machine

pub mask_word-below : (f g h : ℕ → Bool) → mask_word f g h < 2 ^ 24
unfolding mask_word
mask_word-below f g h = bits_above f 0 8 (bit_fields g ++ bit_fields h) 16 (bits_above g 0 8 (bit_fields h) 8 (bits_between-below h 0 8))

pub mask_word-mask :
    (m : Machine) (f g h : ℕ → Bool) → ((q : ℕ) → q < 8 → m.nodes ≤ q → (f q ≡ false) × (g q ≡ false) × (h q ≡ false)) →
    IsMask m (mask_word f g h)
mask_word-mask m f g h none = record {
  below = mask_word-below f g h;
  processors = λ q l p. let n = none q l p in
      (has_reference-mask_word f g h q l ∙ n.0, has_invalidate-mask_word f g h q l ∙ n.1, has_restrict-mask_word f g h q l ∙ n.2);
}

no_invalidate : (o r i : Bool) → r ≡ false → i ≡ false → (o && (i || r)) ≡ false
no_invalidate o r i h k = and_right o (i || r) (ap (λ b. b || r) k ∙ h)

no_restrict : (o r i s : Bool) → r ≡ false → s ≡ false → (s || (o && r && not i)) ≡ false
no_restrict o r i s h k = ap (λ b. b || (o && r && not i)) k ∙ ap (λ b. b && not i) (and_right o r h)

pub posted-mask : (m : Machine) (n a : ℕ) (rem : Removed) → IsMask m n → IsMask m (posted_mask rem a n)
posted-mask m n a Nothing is = is
posted-mask m n a Writes is = mask_word-mask m (has_reference n) (has_invalidate n)
    (λ q. has_restrict n q || (not (q == a) && has_reference n q && not (has_invalidate n q)))
    (λ q l p. let old = is.processors q l p in
    (old.0, old.1, no_restrict (not (q == a)) (has_reference n q) (has_invalidate n q) (has_restrict n q) old.0 old.2))
posted-mask m n a All is = mask_word-mask m (λ q. not (q == a) && has_reference n q)
    (λ q. not (q == a) && (has_invalidate n q || has_reference n q)) (λ q. not (q == a) && has_restrict n q)
    (λ q l p. let old = is.processors q l p in (
      and_right (not (q == a)) (has_reference n q) old.0,
      no_invalidate (not (q == a)) (has_reference n q) (has_invalidate n q) old.0 old.1,
      and_right (not (q == a)) (has_restrict n q) old.2,
    ))

-- ---- whether there is a reference

pub no_references : (n q : ℕ) → has_references n ≡ false → q < 8 → has_reference n q ≡ false
no_references n q h l =
    let none : bits_from n 0 8 ≡ 0 = grind (arith, nat_tests) in let e : q ≡ 0 + q = omega arith in
    ap (λ j. has_bit n j) e ∙ part_bit n 0 0 q none l ∙ has_bit-none q

pub some_references : (n q : ℕ) → q < 8 → has_reference n q ≡ true → has_references n ≡ true
some_references n q l h = grind (arith, nat_tests, no_references n q)
