-- the mask after a post, from the bits of its three parts
use Rattle.std.proofs.Common.{◌≡◌, ℕ, ◌*◌, ◌%◌, ◌^◌, ◌<◌, ◌≤◌, Bool, true, false, refl, ap, sym, ◌∙◌, arith}
use Rattle.std.specs.Prelude.{◌==◌, ◌&&◌, ◌||◌, not, bit_or}
use Rattle.std.proofs.lemmas.Nat.{one_shl}
use Rattle.plat_base.specs.declared.items.Removed.TheVariants.{Writes, All}
use Rattle.plat_events.specs.Words.{has_bit, has_reference, has_invalidate, has_restrict, posted_mask}
use Rattle.plat_words.proofs.Masks.{AreParts, parts_word, parts_word-below, mask_word-below, same_mask, has_reference-parts}
use Rattle.plat_words.proofs.Masks.{has_invalidate-parts, has_restrict-parts, has_reference-mask_word, has_invalidate-mask_word}
use Rattle.plat_words.proofs.Masks.{has_restrict-mask_word}
use Rattle.plat_words.proofs.SingleBits.{has_bit-pow, has_bit-or}

-- one set of bits without another
pub record IsWithout (set gone rest : ℕ) : Type 0 where
  pub bits : (i : ℕ) → i < 32 → has_bit rest i ≡ (has_bit set i && not (has_bit gone i))

-- the actor's own bit, as the program has it
pub shifted_out :
    (set a rest : ℕ) → a ≤ 8 → ((i : ℕ) → i < 32 → has_bit rest i ≡ (has_bit set i && not (has_bit (1 * 2 ^ a % 2 ^ 32) i))) →
    IsWithout set (2 ^ a) rest
shifted_out set a rest h b =
    let e : 1 * 2 ^ a % 2 ^ 32 ≡ 2 ^ a = one_shl a 32 (omega arith) in
    record { bits = λ i l. b i l ∙ ap (λ x. has_bit set i && not (has_bit x i)) e }

not_first : (b own : Bool) → (b && not own) ≡ (not own && b)
not_first true true = refl
not_first true false = refl
not_first false true = refl
not_first false false = refl

restrict_bits : (s r own i : Bool) → (s || ((r && not own) && not i)) ≡ (s || (not own && r && not i))
restrict_bits s true true i = refl
restrict_bits s true false i = refl
restrict_bits s false true i = refl
restrict_bits s false false i = refl

-- the bits but for the actor's own
other_bit : (set a rest q : ℕ) → IsWithout set (2 ^ a) rest → q < 8 → has_bit rest q ≡ (has_bit set q && not (q == a))
other_bit set a rest q w l = w.bits q (omega arith) ∙ ap (λ b. has_bit set q && not b) (has_bit-pow a q)

pub posted_writes :
    (r i s others sent a : ℕ) → AreParts r i s → AreParts r i (bit_or s sent) → IsWithout r (2 ^ a) others → IsWithout others i sent →
    parts_word r i (bit_or s sent) ≡ posted_mask Writes a (parts_word r i s)
posted_writes r i s others sent a p k w v =
    let n = parts_word r i s in
    let restrict : ℕ → Bool = λ q. has_restrict n q || (not (q == a) && has_reference n q && not (has_invalidate n q)) in
    let bit : (q : ℕ) → q < 8 → has_bit (bit_or s sent) q ≡ restrict q =
    λ q l. has_bit-or s sent q
    ∙ ap (λ b. has_bit s q || b) (v.bits q (omega arith) ∙ ap (λ b. b && not (has_bit i q)) (other_bit r a others q w l))
    ∙ restrict_bits (has_bit s q) (has_bit r q) (q == a) (has_bit i q)
    ∙ ap (λ b. b || (not (q == a) && has_bit r q && not (has_bit i q))) (sym (has_restrict-parts r i s q p l))
    ∙ ap (λ b. has_restrict n q || (not (q == a) && b && not (has_bit i q))) (sym (has_reference-parts r i s q p l))
    ∙ ap (λ b. has_restrict n q || (not (q == a) && has_reference n q && not b)) (sym (has_invalidate-parts r i s q p l)) in
    same_mask (parts_word r i (bit_or s sent)) (posted_mask Writes a n) (parts_word-below r i (bit_or s sent) k)
    (mask_word-below (has_reference n) (has_invalidate n) restrict)
    (λ q l. (
      has_reference-parts r i (bit_or s sent) q k l ∙ sym (has_reference-parts r i s q p l)
          ∙ sym (has_reference-mask_word (has_reference n) (has_invalidate n) restrict q l),
      has_invalidate-parts r i (bit_or s sent) q k l ∙ sym (has_invalidate-parts r i s q p l)
          ∙ sym (has_invalidate-mask_word (has_reference n) (has_invalidate n) restrict q l),
      has_restrict-parts r i (bit_or s sent) q k l ∙ bit q l
          ∙ sym (has_restrict-mask_word (has_reference n) (has_invalidate n) restrict q l),
    ))

pub posted_all :
    (r i s others sent left a : ℕ) → AreParts r i s → AreParts others sent left → IsWithout r (2 ^ a) others →
    IsWithout (bit_or i r) (2 ^ a) sent → IsWithout s (2 ^ a) left →
    parts_word others sent left ≡ posted_mask All a (parts_word r i s)
posted_all r i s others sent left a p k w v u =
    let n = parts_word r i s in
    let reference : ℕ → Bool = λ q. not (q == a) && has_reference n q in
    let invalidate : ℕ → Bool = λ q. not (q == a) && (has_invalidate n q || has_reference n q) in
    let restrict : ℕ → Bool = λ q. not (q == a) && has_restrict n q in
    same_mask (parts_word others sent left) (posted_mask All a n) (parts_word-below others sent left k)
    (mask_word-below reference invalidate restrict)
    (λ q l. (
      has_reference-parts others sent left q k l ∙ other_bit r a others q w l ∙ not_first (has_bit r q) (q == a)
          ∙ ap (λ b. not (q == a) && b) (sym (has_reference-parts r i s q p l))
          ∙ sym (has_reference-mask_word reference invalidate restrict q l),
      has_invalidate-parts others sent left q k l ∙ other_bit (bit_or i r) a sent q v l
          ∙ ap (λ b. b && not (q == a)) (has_bit-or i r q) ∙ not_first (has_bit i q || has_bit r q) (q == a)
          ∙ ap (λ b. not (q == a) && (b || has_bit r q)) (sym (has_invalidate-parts r i s q p l))
          ∙ ap (λ b. not (q == a) && (has_invalidate n q || b)) (sym (has_reference-parts r i s q p l))
          ∙ sym (has_invalidate-mask_word reference invalidate restrict q l),
      has_restrict-parts others sent left q k l ∙ other_bit s a left q u l ∙ not_first (has_bit s q) (q == a)
          ∙ ap (λ b. not (q == a) && b) (sym (has_restrict-parts r i s q p l))
          ∙ sym (has_restrict-mask_word reference invalidate restrict q l),
    ))
