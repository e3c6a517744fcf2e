-- directories and translations as single words: what is read is spelled so, and what is spelled so is read
use Rattle.std.proofs.Common.{◌≡◌, ℕ, suc, ◌+◌, ◌^◌, ◌<◌, ◌≤◌, Bool, true, false, not, cond, ltb, eqb, List, [], ◌∷◌, ◌++◌, length, take}
use Rattle.std.proofs.Common.{drop, Option, Some, None, Result, Ok, Err, codes, bytes_eq, refl, ap, sym, ◌∙◌, subst, arith, append_assoc}
use Rattle.std.proofs.Common.{⊎_elim}
use Rattle.std.specs.List.{list_all, position_or_len, before_first, after_first}
use Rattle.std.specs.Char.{is_ascii_digit}
use Rattle.std.specs.Fmt.{decimal}
use Rattle.std.proofs.lemmas.Bool.{cases_Bool, and_parts, and_from, eqb-true, lt-ltb, ltb-true, le-ltb, not-true, not_from_false}
use Rattle.std.proofs.lemmas.Bool.Decides.{nat_tests}
use Rattle.std.proofs.lemmas.Slice.Eq.{bytes_eq-Decides}
use Rattle.std.proofs.lemmas.List.{take_at, length-append}
use Rattle.std.proofs.lemmas.List.Folds.{list_all-append}
use Rattle.std.proofs.lemmas.List.Sums.{split_at_first, passes_at_first}
use Rattle.plat_base.specs.Machine.{Machine}
use Rattle.plat_base.specs.Decide.{is_frame}
use Rattle.plat_grammar.specs.Forms.{number_below}
use Rattle.plat_base.specs.declared.faults.Why.{Why}
use Rattle.plat_base.specs.declared.frames.Frame.{Frame}
use Rattle.plat_base.specs.declared.items.Grant.{Grant}
use Rattle.plat_text.proofs.Results.{taking, then_ok, ok_is}
use Rattle.plat_text.proofs.NumberLemmas.{decimal-spelling}
use Rattle.plat_text.proofs.WordLaws.{IsWordForm, below-law}
use Rattle.plat_grammar.specs.HistoryCanon.{point, frame_word, translation_word, grant_word, right_word}
use Rattle.plat_grammar.specs.HistoryForms.{named, rights, expected, part_below, cut, wanted, frame_of, translation_of, granted_of}
use Rattle.plat_grammar.specs.HistoryGrammar.{is_told_grant}
use Rattle.plat_history.proofs.PartLemmas.{is_byte, cut-some}
use Rattle.plat_history.proofs.NameLaws.{rights-law}

-- ---- words that lack a byte

abbrev pub lacks : ℕ → List ℕ → Bool
lacks byte word = list_all (λ b. not (eqb b byte)) word

pub lacks-append : (byte : ℕ) (v w : List ℕ) → lacks byte v ≡ true → lacks byte w ≡ true → lacks byte (v ++ w) ≡ true
lacks-append byte v w h k = list_all-append (λ b. not (eqb b byte)) v w ∙ and_from _ _ h k

digit-not : (byte b : ℕ) → is_ascii_digit byte ≡ false → is_ascii_digit b ≡ true → not (eqb b byte) ≡ true
digit-not byte b h k = ⊎_elim (λ t. absurd (apart (ap is_ascii_digit (eqb-true b byte t)))) (λ t. not_from_false _ t)
    (cases_Bool (eqb b byte)) where
      apart : is_ascii_digit b ≡ is_ascii_digit byte → ⊥
      apart e = let wrong : true ≡ false = sym k ∙ e ∙ h in cc

tests-follow : (p q : ℕ → Bool) → ((x : ℕ) → p x ≡ true → q x ≡ true) → (xs : List ℕ) → list_all p xs ≡ true → list_all q xs ≡ true
tests-follow p q f [] h = refl
tests-follow p q f (x ∷ xs) h = let parts = and_parts (p x) (list_all p xs) h in
    and_from (q x) (list_all q xs) (f x parts.0) (tests-follow p q f xs parts.1)

-- a number's spelling has digits alone
pub decimal-lacks : (byte n : ℕ) → is_ascii_digit byte ≡ false → n < 2 ^ 32 → lacks byte (decimal n) ≡ true
decimal-lacks byte n h small =
    let first = and_parts _ _ (decimal-spelling n small) in
    tests-follow is_ascii_digit (λ b. not (eqb b byte)) (λ b k. digit-not byte b h k) (decimal n) (and_parts _ _ first.0).1

-- ---- a word that is cut

place-first : (byte : ℕ) (before after : List ℕ) → lacks byte before ≡ true → position_or_len (is_byte byte) (before ++ byte ∷ after)
    ≡ length before
place-first byte [] after h = here byte where
  here : (byte : ℕ) → cond (not (eqb byte byte)) (1 + position_or_len (is_byte byte) after) 0 ≡ 0
  here byte = grind (arith, nat_tests)
place-first byte (b ∷ bs) after h =
    let parts = and_parts (not (eqb b byte)) (lacks byte bs) h in
    rw (not-true _ parts.0, place-first byte bs after parts.1) (omega arith)

pub cut-again : (byte : ℕ) (before after : List ℕ) → lacks byte before ≡ true → cut byte (before ++ byte ∷ after) ≡ Some (before, after)
unfolding cut
cut-again byte before after h =
    let place = place-first byte before after h in
    let inside : ltb (length before) (length (before ++ byte ∷ after)) ≡ true =
    lt-ltb _ _ (omega (arith, length-append before (byte ∷ after))) in
    let first : take (length before) (before ++ byte ∷ after) ≡ before = take_at before (byte ∷ after) (length before) refl in
    let rest : drop (length before + 1) (before ++ byte ∷ after) ≡ after = shifted before byte after in
    rw (place, inside, first, rest) refl where
      shifted : (before : List ℕ) (byte : ℕ) (after : List ℕ) → drop (length before + 1) (before ++ byte ∷ after) ≡ after
      shifted [] byte after = refl
      shifted (b ∷ bs) byte after = let e : suc (length bs) + 1 ≡ suc (length bs + 1) = omega arith in rw e (shifted bs byte after)

place-none : (byte : ℕ) (word : List ℕ) → lacks byte word ≡ true → position_or_len (is_byte byte) word ≡ length word
place-none byte [] h = refl
place-none byte (b ∷ bs) h =
    let parts = and_parts (not (eqb b byte)) (lacks byte bs) h in
    rw (not-true _ parts.0, place-none byte bs parts.1) (omega arith)

pub cut-lacks : (byte : ℕ) (word : List ℕ) → lacks byte word ≡ true → cut byte word ≡ None
unfolding cut
cut-lacks byte word h = rw (place-none byte word h, le-ltb (length word) (length word) (omega arith)) refl

pub cut-takes : (byte : ℕ) (word before after : List ℕ) → cut byte word ≡ Some (before, after) → word ≡ before ++ byte ∷ after
cut-takes byte word before after e =
    let t = cut-some byte word before after e in
    let here = eqb-true _ byte (passes_at_first (is_byte byte) word 0 t.inside) in
    split_at_first (is_byte byte) word 0 t.inside ∙ ap (λ b. before_first (is_byte byte) word ++ b ∷ after_first (is_byte byte) word) here
    ∙ ap (λ k. k ++ byte ∷ after_first (is_byte byte) word) (sym t.first) ∙ ap (λ k. before ++ byte ∷ k) (sym t.rest)

wanted-ok : {A : Type 0} (o : Option A) (x : A) → wanted o ≡ Ok x → o ≡ Some x
wanted-ok None x e = cc
wanted-ok (Some y) x e = ap Some (ok_is y x e)

wanted-takes : (byte : ℕ) (word : List ℕ) (parts : List ℕ × List ℕ) → wanted (cut byte word) ≡ Ok parts → word ≡ parts.0 ++ byte ∷ parts.1
wanted-takes byte word parts e = cut-takes byte word parts.0 parts.1 (wanted-ok (cut byte word) parts e)

-- ---- numbers

expected-ok : {A : Type 0} (r : Result A Why) (x : A) → expected r ≡ Ok x → r ≡ Ok x
expected-ok (Ok y) x e = ap Ok (ok_is y x e)
expected-ok (Err why) x e = cc

pub part-law : (limit : ℕ) → limit ≤ 2 ^ 32 → IsWordForm (part_below limit) decimal (λ n. n < limit)
part-law limit small = record {
  takes = λ w n e. (below-law limit small).takes w n (expected-ok (number_below limit w) n e);
  again = λ n h. ap expected ((below-law limit small).again n h);
}

-- ---- frames, translations, directories

module _ (m : Machine) (entries : length m.entries ≤ 2 ^ 32) (nodes : m.nodes ≤ 2 ^ 32) (frames : m.frames ≤ 2 ^ 32) where
  pub frame_from : (f : Frame) → f.module < m.nodes → f.number < m.frames → is_frame m f ≡ true
  frame_from f a b = and_from (ltb f.module m.nodes) (ltb f.number m.frames) (lt-ltb f.module m.nodes a) (lt-ltb f.number m.frames b)

  pub frame_parts : (f : Frame) → is_frame m f ≡ true → (f.module < m.nodes) × (f.number < m.frames)
  frame_parts f h = let parts = and_parts (ltb f.module m.nodes) (ltb f.number m.frames) h in
      (ltb-true f.module m.nodes parts.0, ltb-true f.number m.frames parts.1)

  pub module-lacks : (byte : ℕ) (f : Frame) → is_ascii_digit byte ≡ false → is_frame m f ≡ true → lacks byte (decimal f.module) ≡ true
  module-lacks byte f d h = decimal-lacks byte f.module d (omega (arith, (frame_parts f h).0, nodes))

  pub number-lacks : (byte : ℕ) (f : Frame) → is_ascii_digit byte ≡ false → is_frame m f ≡ true → lacks byte (decimal f.number) ≡ true
  number-lacks byte f d h = decimal-lacks byte f.number d (omega (arith, (frame_parts f h).1, frames))

  pub frame-law : IsWordForm (frame_of m.nodes m.frames) frame_word (λ f. is_frame m f ≡ true)
  unfolding frame_of
  frame-law = record {
    takes = λ w f e.
        taking (wanted (cut point w)) _ _ e
        (λ p p-is e1. taking (part_below m.nodes p.0) _ _ e1 (λ a a-is e2. taking (part_below m.frames p.1) _ _ e2 (λ b b-is e3.
        let value : record { «module» = a; number = b } ≡ f = ok_is (record { «module» = a; number = b }) f e3 in
        let first = (part-law m.nodes nodes).takes p.0 a a-is in
        let second = (part-law m.frames frames).takes p.1 b b-is in
        let word : w ≡ decimal a ++ point ∷ decimal b = wanted-takes point w p p-is ∙ rw (first.0, second.0) refl in (
          word ∙ ap frame_word value,
          subst (λ k. is_frame m k ≡ true) value
              (frame_from (record { «module» = a; number = b }) first.1 second.1),
        ))));
    again = λ f h.
        let parts = frame_parts f h in
        then_ok (wanted (cut point (frame_word f))) _ (decimal f.module, decimal f.number) _
        (ap wanted (cut-again point (decimal f.module) (decimal f.number) (module-lacks point f refl h)))
        (then_ok (part_below m.nodes (decimal f.module)) _ f.module _ ((part-law m.nodes nodes).again f.module parts.0)
        (then_ok (part_below m.frames (decimal f.number)) _ f.number _ ((part-law m.frames frames).again f.number parts.1) refl));
  }

  -- ---- translations

  abbrev pub IsTranslation : Grant → Type 0
  IsTranslation g = (g.entry < length m.entries) × (is_frame m g.frame ≡ true)

  in_turn : (a b c : List ℕ) → a ++ point ∷ (b ++ point ∷ c) ≡ (a ++ point ∷ b) ++ point ∷ c
  in_turn a b c = sym (append_assoc a (point ∷ b) (point ∷ c))

  translation-takes : (w : List ℕ) (g : Grant) → translation_of (length m.entries) m.nodes m.frames w ≡ Ok g → (w ≡ translation_word g)
      × IsTranslation g
  unfolding translation_of
  translation-takes w g e =
      taking (wanted (cut point w)) _ _ e (λ p p-is e1. taking (part_below (length m.entries) p.0) _ _ e1 (λ n n-is e2.
      taking (wanted (cut point p.1)) _ _ e2 (λ q q-is e3. taking (part_below m.nodes q.0) _ _ e3 (λ a a-is e4.
      taking (wanted (cut point q.1)) _ _ e4 (λ r r-is e5. taking (part_below m.frames r.0) _ _ e5 (λ b b-is e6.
      taking (named rights r.1) _ _ e6 (λ t t-is e7.
      let f : Frame = record { «module» = a; number = b } in
      let value : record { entry = n; frame = f; right = t } ≡ g = ok_is _ g e7 in
      let entry = (part-law (length m.entries) entries).takes p.0 n n-is in
      let first = (part-law m.nodes nodes).takes q.0 a a-is in
      let second = (part-law m.frames frames).takes r.0 b b-is in
      let last = rights-law.takes r.1 t t-is in
      let inner : p.1 ≡ frame_word f ++ point ∷ right_word t = wanted-takes point p.1 q q-is
      ∙ ap (λ k. q.0 ++ point ∷ k) (wanted-takes point q.1 r r-is)
      ∙ rw (first.0, second.0, last.0) (in_turn (decimal a) (decimal b) (right_word t)) in
      let word : w ≡ decimal n ++ point ∷ (frame_word f ++ point ∷ right_word t) = wanted-takes point w p p-is ∙ rw (entry.0, inner) refl in
      rw (← value) (word, (entry.1, frame_from f first.1 second.1)))))))))

  translation-again : (g : Grant) → IsTranslation g → translation_of (length m.entries) m.nodes m.frames (translation_word g) ≡ Ok g
  unfolding translation_of
  translation-again g h =
      let f = g.frame in
      let parts = frame_parts f h.1 in
      let rest : List ℕ = decimal f.number ++ point ∷ right_word g.right in
      let inner : frame_word f ++ point ∷ right_word g.right ≡ decimal f.module ++ point ∷ rest =
      sym (in_turn (decimal f.module) (decimal f.number) (right_word g.right)) in
      then_ok (wanted (cut point (translation_word g))) _ (decimal g.entry, frame_word f ++ point ∷ right_word g.right) _
      (ap wanted (cut-again point (decimal g.entry) (frame_word f ++ point ∷ right_word g.right)
      (decimal-lacks point g.entry refl (omega (arith, h.0, entries)))))
      (then_ok (part_below (length m.entries) (decimal g.entry)) _ g.entry _ ((part-law (length m.entries) entries).again g.entry h.0)
      (then_ok (wanted (cut point (frame_word f ++ point ∷ right_word g.right))) _ (decimal f.module, rest) _
      (ap (λ k. wanted (cut point k)) inner ∙ ap wanted (cut-again point (decimal f.module) rest (module-lacks point f refl h.1)))
      (then_ok (part_below m.nodes (decimal f.module)) _ f.module _ ((part-law m.nodes nodes).again f.module parts.0)
      (then_ok (wanted (cut point rest)) _ (decimal f.number, right_word g.right) _
      (ap wanted (cut-again point (decimal f.number) (right_word g.right) (number-lacks point f refl h.1)))
      (then_ok (part_below m.frames (decimal f.number)) _ f.number _ ((part-law m.frames frames).again f.number parts.1)
      (then_ok (named rights (right_word g.right)) _ g.right _ (rights-law.again g.right tt) refl))))))

  told_translation : (g : Grant) → IsTranslation g → is_told_grant m (Some g) ≡ true
  told_translation g h = and_from (ltb g.entry (length m.entries)) (is_frame m g.frame) (lt-ltb g.entry (length m.entries) h.0) h.1

  pub translation-numbers : (g : Grant) → is_told_grant m (Some g) ≡ true → IsTranslation g
  translation-numbers g h = let parts = and_parts (ltb g.entry (length m.entries)) (is_frame m g.frame) h in
      (ltb-true g.entry (length m.entries) parts.0, parts.1)

  -- `none` is no translation
  not_none : (g : Grant) → IsTranslation g → bytes_eq (translation_word g) (codes "none") ≡ false
  not_none g h = ⊎_elim (λ t. absurd (apart ((bytes_eq-Decides (translation_word g) (codes "none")).0 t))) (λ t. t)
      (cases_Bool (bytes_eq (translation_word g) (codes "none"))) where
        apart : translation_word g ≡ codes "none" → ⊥
        apart e =
            let there = cut-again point (decimal g.entry) (frame_word g.frame ++ point ∷ right_word g.right)
            (decimal-lacks point g.entry refl (omega (arith, h.0, entries))) in
            let none = cut-lacks point (codes "none") refl in
            let wrong : ◌≡◌ {A = Option (List ℕ × List ℕ)} None (Some (decimal g.entry, frame_word g.frame ++ point ∷ right_word g.right)) =
            sym none ∙ ap (cut point) (sym e) ∙ there in
            cc

  pub granted-law : IsWordForm (granted_of (length m.entries) m.nodes m.frames) grant_word (λ g. is_told_grant m g ≡ true)
  unfolding granted_of
  granted-law = record { takes = by_word; again = by_grant } where
    by_word : (w : List ℕ) (g : Option Grant) → granted_of (length m.entries) m.nodes m.frames w ≡ Ok g →
        (w ≡ grant_word g) × (is_told_grant m g ≡ true)
    by_word w g e = ⊎_elim
        (λ t. let none : None ≡ g = ok_is None g (rw t at e) in rw (← none) ((bytes_eq-Decides w (codes "none")).0 t, refl))
        (λ t. taking (translation_of (length m.entries) m.nodes m.frames w) _ _ (rw t at e) (λ x x-is e1.
        let value : Some x ≡ g = ok_is (Some x) g e1 in
        let u = translation-takes w x x-is in
        rw (← value) (u.0, told_translation x u.1)))
        (cases_Bool (bytes_eq w (codes "none")))

    by_grant : (g : Option Grant) → is_told_grant m g ≡ true → granted_of (length m.entries) m.nodes m.frames (grant_word g) ≡ Ok g
    by_grant None h = refl
    by_grant (Some g) h = let t = translation-numbers g h in
        rw (not_none g t) (then_ok (translation_of (length m.entries) m.nodes m.frames (translation_word g)) _ g _ (translation-again g t)
        refl)
