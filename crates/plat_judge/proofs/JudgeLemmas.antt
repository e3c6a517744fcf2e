-- the first bad one of the items from the next one on
use Rattle.std.proofs.Common.{◌≡◌, ℕ, ◌+◌, ◌<◌, ◌≤◌, List, [], ◌∷◌, ◌++◌, length, get_or, take, drop, Option, Some, None, ap, sym, ◌∙◌}
use Rattle.std.proofs.lemmas.List.{drop_more, drop_all, take_more}
use Rattle.plat_base.specs.Verdicts.{Answer}
use Rattle.plat_base.specs.Machine.{Machine}
use Rattle.plat_base.specs.Rules.{bad_rule, bad_at, bad_after, bad_or, bad_ends, first_bad}
use Rattle.plat_base.specs.declared.endings.Ended.{Ended}
use Rattle.plat_base.specs.declared.items.Item.{Item}
use Rattle.plat_base.specs.declared.statuses.Bad.{Bad}
use Rattle.plat_base.specs.declared.statuses.Rule.{Rule}

pub taken-more : (items : List Item) (n : ℕ) (i : Item) → n < length items → i ≡ get_or items n i →
    take (n + 1) items ≡ take n items ++ i ∷ []
taken-more items n i inside here = take_more items n i inside ∙ ap (λ (x : Item). take n items ++ x ∷ []) (sym here)

module _ (m : Machine) (answer : Answer) (items : List Item) where
  -- a bad one is among the items from this one on
  abbrev pub IsAmong : ℕ → Type 0
  IsAmong n = bad_after m answer [] 0 items ≡ bad_after m answer (take n items) n (drop n items)

  -- the next item, and the rest
  next-item : (n : ℕ) (i : Item) → n < length items → i ≡ get_or items n i
      → bad_after m answer (take n items) n (drop n items)
      ≡ bad_at n (bad_rule m answer (take n items) i) (bad_after m answer (take n items ++ i ∷ []) (n + 1) (drop (n + 1) items))
  next-item n i inside here =
      ap (bad_after m answer (take n items) n) (drop_more items n i inside ∙ ap (λ (x : Item). x ∷ drop (n + 1) items) (sym here))

  pub found-bad : (ends : List Ended) (n : ℕ) (i : Item) (r : Rule) → n < length items → i ≡ get_or items n i → IsAmong n
      → Some r ≡ bad_rule m answer (take n items) i → Some (let b : Bad = record { item = n; rule = r } in b)
      ≡ first_bad m answer items ends
  unfolding first_bad
  found-bad ends n i r inside here among bad =
      let at : bad_after m answer [] 0 items ≡ Some (record { item = n; rule = r }) =
      (among ∙ next-item n i inside here)
      ∙ ap (λ (x : Option Rule). bad_at n x (bad_after m answer (take n items ++ i ∷ []) (n + 1) (drop (n + 1) items))) (sym bad)
      in sym (ap (λ (x : Option Bad). bad_or x (bad_ends m items ends)) at)

  pub among-more : (n : ℕ) (i : Item) → n < length items → i ≡ get_or items n i → IsAmong n
      → None ≡ bad_rule m answer (take n items) i → IsAmong (n + 1)
  among-more n i inside here among good =
      ((among ∙ next-item n i inside here)
      ∙ ap (λ (x : Option Rule). bad_at n x (bad_after m answer (take n items ++ i ∷ []) (n + 1) (drop (n + 1) items))) (sym good))
      ∙ ap (λ (before : List Item). bad_after m answer before (n + 1) (drop (n + 1) items)) (sym (taken-more items n i inside here))

  pub found-none : (ends : List Ended) (n : ℕ) → length items ≤ n → IsAmong n → bad_ends m items ends ≡ first_bad m answer items ends
  unfolding first_bad
  found-none ends n past among =
      sym (ap (λ (x : Option Bad). bad_or x (bad_ends m items ends))
      (among ∙ ap (bad_after m answer (take n items) n) (drop_all n items past)))
