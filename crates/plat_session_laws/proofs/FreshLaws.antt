-- no change of a page has the number that the page's next change gets, or a later one
use Rattle.std.specs.Prelude.{◌≡◌, ℕ, ◌+◌, ◌≤◌, ◌==◌, nat_lt, ◌&&◌, ◌||◌, if◌then◌else◌, Bool, true, false, List, [], ◌∷◌, ◌++◌, None}
use Rattle.std.proofs.Common.{refl, ap, ◌∙◌, arith, subst}
use Rattle.std.proofs.lemmas.Bool.{eqb-true}
use Rattle.std.proofs.lemmas.Bool.Decides.{nat_tests}
use Rattle.std.proofs.lemmas.List.{append_assoc, append-nil}
use Rattle.plat_base.specs.Verdicts.{Answer}
use Rattle.plat_base.specs.Machine.{Machine}
use Rattle.plat_base.specs.Directories.{seq_of}
use Rattle.plat_base.specs.Held.{later}
use Rattle.plat_base.specs.Rules.{bad_rule, bad_after, is_chained}
use Rattle.plat_base.specs.declared.items.Item.{Item}
use Rattle.plat_base.specs.declared.items.Item.TheVariants as item
use Rattle.plat_base.specs.declared.items.Removed.{Removed}
use Rattle.plat_base.specs.declared.statuses.Rule.TheVariants as rule
use Rattle.plat_laws.proofs.ItemLaws.{seq_of-access, seq_of-applied, seq_of-change, seq_of-switch, later-access, later-applied}
use Rattle.plat_laws.proofs.ItemLaws.{later-change, later-switch}
use Rattle.plat_laws.proofs.ChangeLaws.{good_change}
use Rattle.plat_base.proofs.RuleLemmas.{unless-none, bad_at-none}

abbrev IsFresh : List Item → Type 0
IsFresh items = (test : Removed → Bool) (page n : ℕ) → seq_of items page ≤ n → later test items page n ≡ false

change-fresh :
    (before : Bool) (same : Bool) (seq n number : ℕ) (test : Bool) → number ≡ seq → (seq ≤ n → before ≡ false) →
    (if same then seq + 1 else seq) ≤ n → (before || (same && nat_lt n number && test)) ≡ false
change-fresh before true seq n number test is old above =
    let none = old (omega arith) in let less : nat_lt n number ≡ false = grind (arith, nat_tests) in rw (none, less) refl
change-fresh before false seq n number test is old above = rw (old above) refl

fresh-item : (m : Machine) (answer : Answer) (xs : List Item) (i : Item) → bad_rule m answer xs i ≡ None → IsFresh xs →
    IsFresh (xs ++ i ∷ [])
fresh-item m answer xs (item.Access a) ok fresh test page n above =
    later-access test xs a page n ∙ fresh test page n (let same = seq_of-access xs a page in omega (arith, same, above))
fresh-item m answer xs (item.Change c) ok fresh test page n above = later-change test xs c page n ∙ by (c.page == page) refl
  where
    number : (c.page == page) ≡ true → c.seq ≡ seq_of xs page
    number is = let good = good_change m answer xs c (unless-none (is_chained m answer xs c) rule.Chain ok) in
        good.seq ∙ ap (seq_of xs) (eqb-true c.page page is)

    bound : (if c.page == page then seq_of xs page + 1 else seq_of xs page) ≤ n
    bound = subst (λ k. k ≤ n) (seq_of-change xs c page) above

    by : (b : Bool) → (c.page == page) ≡ b → (later test xs page n || (c.page == page && nat_lt n c.seq && test c.removed)) ≡ false
    by true is =
        ap (λ b. later test xs page n || (b && nat_lt n c.seq && test c.removed)) is
        ∙ change-fresh (later test xs page n) true (seq_of xs page) n c.seq (test c.removed) (number is) (λ k. fresh test page n k)
        (subst (λ b. (if b then seq_of xs page + 1 else seq_of xs page) ≤ n) is bound)
    by false is =
        ap (λ b. later test xs page n || (b && nat_lt n c.seq && test c.removed)) is
        ∙ change-fresh (later test xs page n) false (seq_of xs page) n (seq_of xs page) (test c.removed) refl (λ k. fresh test page n k)
        (subst (λ b. (if b then seq_of xs page + 1 else seq_of xs page) ≤ n) is bound)
fresh-item m answer xs (item.Applied x) ok fresh test page n above =
    later-applied test xs (item.Applied x ∷ []) page n refl
    ∙ fresh test page n (let same = seq_of-applied xs (item.Applied x ∷ []) page refl in omega (arith, same, above))
fresh-item m answer xs (item.Switch x) ok fresh test page n above =
    later-switch test xs x page n ∙ fresh test page n (let same = seq_of-switch xs x page in omega (arith, same, above))

fresh-items :
    (m : Machine) (answer : Answer) (xs : List Item) (k : ℕ) (is : List Item) → bad_after m answer xs k is ≡ None → IsFresh xs →
    IsFresh (xs ++ is)
fresh-items m answer xs k [] ok fresh = rw append-nil fresh
fresh-items m answer xs k (i ∷ is) ok fresh =
    let both = bad_at-none k (bad_rule m answer xs i) (bad_after m answer (xs ++ i ∷ []) (k + 1) is) ok in
    subst IsFresh (append_assoc xs (i ∷ []) is)
    (fresh-items m answer (xs ++ i ∷ []) (k + 1) is both.1 (fresh-item m answer xs i both.0 fresh))

-- so nothing was removed behind the next change of the page
pub later-fresh :
    (m : Machine) (answer : Answer) (items : List Item) → bad_after m answer [] 0 items ≡ None → (test : Removed → Bool) (page n : ℕ) →
    seq_of items page ≤ n → later test items page n ≡ false
later-fresh m answer items ok = fresh-items m answer [] 0 items ok (λ test page n above. refl)
