-- what the counts are once the next item is placed
use Rattle.std.specs.Prelude.{◌≡◌, ◌⊎◌, ℕ, ◌+◌, ◌<◌, ◌≤◌, ◌==◌, nat_lt, nat_le, ◌&&◌, not, if◌then◌else◌, Bool, true, false, List, [], ◌∷◌}
use Rattle.std.specs.Prelude.{◌++◌, count_by, Some, None}
use Rattle.std.proofs.Common.{refl, ap, sym, ◌∙◌, inl, inr, arith, subst}
use Rattle.std.specs.List.{list_any}
use Rattle.std.proofs.lemmas.Bool.{cases_Bool, and_parts, not-true, eqb-true}
use Rattle.std.proofs.lemmas.Bool.Decides.{nat_tests}
use Rattle.std.proofs.lemmas.List.{append_assoc}
use Rattle.std.proofs.lemmas.List.Sums.{sum_by-cons, sum_by-append}
use Rattle.plat_base.specs.Items.{is_access_that}
use Rattle.plat_base.specs.Verdicts.{Answer}
use Rattle.plat_base.specs.Machine.{Machine}
use Rattle.plat_base.specs.Flat.{is_write, writes_word, flat_writes}
use Rattle.plat_base.specs.Directories.{change_on, seq_after, seq_of}
use Rattle.plat_base.specs.Rules.{bad_rule}
use Rattle.plat_base.specs.declared.items.Access.{Access}
use Rattle.plat_base.specs.declared.items.Change.{Change}
use Rattle.plat_base.specs.declared.items.Item.{Item}
use Rattle.plat_base.specs.declared.items.Item.TheVariants as item
use Rattle.plat_laws.proofs.ItemLaws.{flat_writes-append, seq_of-append}
use Rattle.plat_merge_laws.proofs.OrderLemmas.{writes-rise, seq-rises, not-both}
use Rattle.plat_merge_laws.proofs.MergeLaws.{AllKept, kept-append, current-after}
use Rattle.plat_merge.specs.Standing.{changes_page, is_load_of, is_load_up_to, is_load_at, is_use_at, is_write_at}
use Rattle.plat_merge.specs.Standing.{loads_waiting, uses_waiting, writes_waiting}
use Rattle.plat_merge.proofs.StandLemmas.{one_if, none-count, FitsVersion, HasNumbers, kept-numbers}

-- ---- counts of lists

pub count-cons : {A : Type 0} (f : A → Bool) (x : A) (xs : List A) → count_by f (x ∷ xs) ≡ one_if (f x) + count_by f xs
count-cons f x xs = sum_by-cons (λ y. if f y then 1 else 0) x xs

pub count-append : {A : Type 0} (f : A → Bool) (xs ys : List A) → count_by f (xs ++ ys) ≡ count_by f xs + count_by f ys
count-append f xs ys = sum_by-append (λ y. if f y then 1 else 0) xs ys

count-taken : {A : Type 0} (f : A → Bool) (front back : List A) (i : A) →
    count_by f (front ++ i ∷ back) ≡ one_if (f i) + count_by f (front ++ back)
count-taken f front back i =
    omega (arith, count-append f front (i ∷ back), count-cons f i back, count-append f front back)

-- a test that is one of two others, never both
pub count-split :
    {A : Type 0} (f g h : A → Bool) → ((x : A) → one_if (f x) ≡ one_if (g x) + one_if (h x)) → (xs : List A)
    → count_by f xs ≡ count_by g xs + count_by h xs
count-split f g h each [] = refl
count-split f g h each (x ∷ xs) =
    omega (arith, count-cons f x xs, count-cons g x xs, count-cons h x xs, each x, count-split f g h each xs)

-- ---- tests of accesses by a number

-- up to the next number: up to this one, or the next
up-to-split : (pass : Bool) (n v : ℕ) → one_if (pass && nat_le v (n + 1)) ≡ one_if (pass && nat_le v n) + one_if (pass && v == n + 1)
up-to-split false n v = refl
up-to-split true n v = grind (arith, nat_tests)

below-split : (pass : Bool) (n v : ℕ) → one_if (pass && nat_lt v (n + 1)) ≡ one_if (pass && nat_lt v n) + one_if (pass && v == n)
below-split false n v = refl
below-split true n v = grind (arith, nat_tests)

passes-split :
    (f g h : Access → Bool) → ((a : Access) → one_if (f a) ≡ one_if (g a) + one_if (h a)) → (i : Item)
    → one_if (is_access_that f i) ≡ one_if (is_access_that g i) + one_if (is_access_that h i)
passes-split f g h each (item.Access a) = each a
passes-split f g h each (item.Change c) = refl
passes-split f g h each (item.Applied x) = refl
passes-split f g h each (item.Switch s) = refl

-- ---- what is placed has no later version and no later grant

module _ (m : Machine) (answer : Answer) where
  pub load-past :
      (page word n : ℕ) (before xs : List Item) → AllKept m answer [] before → AllKept m answer before xs
      → flat_writes (before ++ xs) page word ≤ n → list_any (is_load_at page word (n + 1)) xs ≡ false
  unfolding FitsVersion
  load-past page word n before [] start kept low = refl
  load-past page word n before (x ∷ xs) start kept low =
      rw (one x kept.0 (omega (
        arith,
        low,
        flat_writes-append before (x ∷ xs) page word,
        writes-rise page word (flat_writes before page word) (x ∷ xs),
      )))
      (load-past page word n (before ++ x ∷ []) xs (kept-append m answer [] before (x ∷ []) start (kept.0, tt)) kept.1
      (subst (λ zs. flat_writes zs page word ≤ n) (sym (append_assoc before (x ∷ []) xs)) low))
    where
      one : (x : Item) → bad_rule m answer before x ≡ None → flat_writes before page word ≤ n → is_load_at page word (n + 1) x ≡ false
      one (item.Access b) here below =
          not-both (is_load_of page word b) (b.version == n + 1) (λ of at.
          let parts = and_parts (not (is_write b.kind)) (b.page == page && b.word == word) of in
          let load : is_write b.kind ≡ false = not-true (is_write b.kind) parts.0 in
          let p : b.page ≡ page = eqb-true b.page page (and_parts (b.page == page) (b.word == word) parts.1).0 in
          let w : b.word ≡ word = eqb-true b.word word (and_parts (b.page == page) (b.word == word) parts.1).1 in
          let count : flat_writes before b.page b.word ≡ flat_writes before page word =
          ap (λ x. flat_writes before x b.word) p ∙ ap (flat_writes before page) w in
          let numbers = kept-numbers before m answer (item.Access b) (current-after m answer before start) here in
          let early : b.version ≤ flat_writes before b.page b.word =
          subst (λ t. FitsVersion before t b.version (flat_writes before b.page b.word)) load numbers.1 in
          omega (arith, early, count, below, eqb-true b.version (n + 1) at))
      one (item.Change c) here below = refl
      one (item.Applied y) here below = refl
      one (item.Switch s) here below = refl

  pub grant-past :
      (pass : Access → Bool) (page n : ℕ) → ((a : Access) → pass a ≡ true → a.page ≡ page) → (before xs : List Item)
      → AllKept m answer [] before → AllKept m answer before xs → seq_of (before ++ xs) page ≤ n
      → list_any (is_access_that (λ a. pass a && a.grant == n)) xs ≡ false
  grant-past pass page n of_page before [] start kept low = refl
  grant-past pass page n of_page before (x ∷ xs) start kept low =
      rw (one x kept.0 (omega (arith, low, seq_of-append before (x ∷ xs) page, seq-rises page (seq_of before page) (x ∷ xs))))
      (grant-past pass page n of_page (before ++ x ∷ []) xs (kept-append m answer [] before (x ∷ []) start (kept.0, tt)) kept.1
      (subst (λ zs. seq_of zs page ≤ n) (sym (append_assoc before (x ∷ []) xs)) low))
    where
      one : (x : Item) → bad_rule m answer before x ≡ None → seq_of before page ≤ n → is_access_that (λ a. pass a && a.grant == n) x ≡ false
      one (item.Access b) here below =
          not-both (pass b) (b.grant == n) (λ passes at.
          let count : seq_of before b.page ≡ seq_of before page = ap (seq_of before) (of_page b passes) in
          let numbers = kept-numbers before m answer (item.Access b) (current-after m answer before start) here in
          omega (arith, numbers.0, count, below, eqb-true b.grant n at))
      one (item.Change c) here below = refl
      one (item.Applied y) here below = refl
      one (item.Switch s) here below = refl

-- ---- one more item

pub flat_writes-more : (placed : List Item) (i : Item) (page word : ℕ) → flat_writes (placed ++ i ∷ []) page word
    ≡ flat_writes placed page word + one_if (writes_word page word i)
flat_writes-more placed i page word = flat_writes-append placed (i ∷ []) page word
    ∙ by (writes_word page word i) (flat_writes placed page word)
  where
    by : (b : Bool) (n : ℕ) → (if b then n + 1 else n) ≡ n + one_if b
    by true n = refl
    by false n = omega arith

pub seq_of-more : (placed : List Item) (i : Item) (page : ℕ) →
    seq_of (placed ++ i ∷ []) page ≡ seq_of placed page + one_if (changes_page page i)
seq_of-more placed i page = seq_of-append placed (i ∷ []) page ∙ by i (seq_of placed page)
  where
    none : (n : ℕ) → n ≡ n + 0
    none n = omega arith

    by_page : (b : Bool) (c : Change) (n : ℕ) → seq_after n (if b then Some c else None) ≡ n + one_if b
    by_page true c n = refl
    by_page false c n = omega arith

    by : (i : Item) (n : ℕ) → seq_after n (change_on page i) ≡ n + one_if (changes_page page i)
    by (item.Access a) n = none n
    by (item.Change c) n = by_page (c.page == page) c n
    by (item.Applied x) n = none n
    by (item.Switch s) n = none n

pass-if : (p q : Bool) → (p ≡ true → q ≡ true) → (p && q) ≡ p
pass-if true q h = h refl
pass-if false q h = refl

-- an item that writes a word loads nothing
write-loads : (page word : ℕ) (g : Access → Bool) (i : Item) → writes_word page word i ≡ true →
    is_access_that (λ a. is_load_of page word a && g a) i ≡ false
write-loads page word g (item.Access a) h =
    let writes = (and_parts (is_write a.kind) (a.page == page) (and_parts (is_write a.kind && a.page == page) (a.word == word) h).0).0 in
    rw writes refl
write-loads page word g (item.Change c) h = absurd cc
write-loads page word g (item.Applied x) h = absurd cc
write-loads page word g (item.Switch s) h = absurd cc

write-loads_none : (page word : ℕ) (i : Item) → writes_word page word i ≡ true → is_access_that (is_load_of page word) i ≡ false
write-loads_none page word (item.Access a) h =
    let writes = (and_parts (is_write a.kind) (a.page == page) (and_parts (is_write a.kind && a.page == page) (a.word == word) h).0).0 in
    rw writes refl
write-loads_none page word (item.Change c) h = absurd cc
write-loads_none page word (item.Applied x) h = absurd cc
write-loads_none page word (item.Switch s) h = absurd cc

change-passes : (page : ℕ) (f : Access → Bool) (i : Item) → changes_page page i ≡ true → is_access_that f i ≡ false
change-passes page f (item.Access a) h = absurd cc
change-passes page f (item.Change c) h = refl
change-passes page f (item.Applied x) h = refl
change-passes page f (item.Switch s) h = refl

module _
    (m : Machine) (answer : Answer) (placed front back : List Item) (i : Item) (start : AllKept m answer [] placed)
    (kept : bad_rule m answer placed i ≡ None)
  where
    abbrev pub whole : List Item
    whole = front ++ i ∷ back

    abbrev pub next : List Item
    next = placed ++ i ∷ []

    pub numbers : HasNumbers placed i
    numbers = kept-numbers placed m answer i (current-after m answer placed start) kept

    -- a load has a version that is placed
    load-counted : (page word : ℕ) (i : Item) → HasNumbers placed i → is_load_up_to page word (flat_writes placed page word) i
        ≡ is_access_that (is_load_of page word) i
    unfolding FitsVersion
    load-counted page word (item.Access a) numbers =
        pass-if (is_load_of page word a) (nat_le a.version (flat_writes placed page word)) (λ of.
        let parts = and_parts (not (is_write a.kind)) (a.page == page && a.word == word) of in
        let load : is_write a.kind ≡ false = not-true (is_write a.kind) parts.0 in
        let p : a.page ≡ page = eqb-true a.page page (and_parts (a.page == page) (a.word == word) parts.1).0 in
        let w : a.word ≡ word = eqb-true a.word word (and_parts (a.page == page) (a.word == word) parts.1).1 in
        let count : flat_writes placed a.page a.word ≡ flat_writes placed page word =
        ap (λ x. flat_writes placed x a.word) p ∙ ap (flat_writes placed page) w in
        let early : a.version ≤ flat_writes placed a.page a.word =
        subst (λ t. FitsVersion placed t a.version (flat_writes placed a.page a.word)) load numbers.1 in
        let low : a.version ≤ flat_writes placed page word = omega (arith, early, count) in
        grind (arith, nat_tests))
    load-counted page word (item.Change c) numbers = refl
    load-counted page word (item.Applied x) numbers = refl
    load-counted page word (item.Switch s) numbers = refl

    -- an access has a grant that is placed
    grant-counted :
        (pass : Access → Bool) (page : ℕ) → ((a : Access) → pass a ≡ true → a.page ≡ page) → (i : Item) → HasNumbers placed i
        → is_access_that (λ a. pass a && nat_lt a.grant (seq_of placed page)) i ≡ is_access_that pass i
    grant-counted pass page of_page (item.Access a) numbers =
        pass-if (pass a) (nat_lt a.grant (seq_of placed page)) (λ passes.
        let count : seq_of placed a.page ≡ seq_of placed page = ap (seq_of placed) (of_page a passes) in
        let low : a.grant < seq_of placed page = omega (arith, numbers.0, count) in
        grind (arith, nat_tests))
    grant-counted pass page of_page (item.Change c) numbers = refl
    grant-counted pass page of_page (item.Applied x) numbers = refl
    grant-counted pass page of_page (item.Switch s) numbers = refl

    -- the loads of a word that wait
    pub loads-step :
        (page word : ℕ)
        → loads_waiting next (front ++ back) page word + one_if (is_access_that (is_load_of page word) i)
        ≡ loads_waiting placed whole page word
        + (if writes_word page word i then count_by (is_load_at page word (flat_writes placed page word + 1)) (placed ++ whole) else 0)
    loads-step page word = by (cases_Bool (writes_word page word i))
      where
        n : ℕ
        n = flat_writes placed page word

        taken : count_by (is_load_up_to page word n) whole ≡ one_if (is_load_up_to page word n i)
            + count_by (is_load_up_to page word n) (front ++ back)
        taken = count-taken (is_load_up_to page word n) front back i

        by :
            (writes_word page word i ≡ true) ⊎ (writes_word page word i ≡ false)
            → loads_waiting next (front ++ back) page word + one_if (is_access_that (is_load_of page word) i)
            ≡ loads_waiting placed whole page word
            + (if writes_word page word i then count_by (is_load_at page word (flat_writes placed page word + 1)) (placed ++ whole) else 0)
        by (inl writes) =
            let more : flat_writes next page word ≡ n + 1 = flat_writes-more placed i page word ∙ ap (λ b. n + one_if b) writes in
            let bound = ap (λ k. count_by (is_load_up_to page word k) (front ++ back)) more in
            let split = count-split (is_load_up_to page word (n + 1)) (is_load_up_to page word n) (is_load_at page word (n + 1))
            (passes-split (λ a. is_load_of page word a && nat_le a.version (n + 1)) (λ a. is_load_of page word a && nat_le a.version n)
            (λ a. is_load_of page word a && a.version == n + 1) (λ a. up-to-split (is_load_of page word a) n a.version))
            (front ++ back) in
            let here = ap one_if (write-loads page word (λ a. nat_le a.version n) i writes) in
            let at = ap one_if (write-loads page word (λ a. a.version == n + 1) i writes) in
            let none = ap one_if (write-loads_none page word i writes) in
            let past = none-count (is_load_at page word (n + 1)) placed (load-past m answer page word n [] placed tt start (omega arith)) in
            let all = count-append (is_load_at page word (n + 1)) placed whole in
            let rest = count-taken (is_load_at page word (n + 1)) front back i in
            let test = ap (λ (b : Bool). if b then count_by (is_load_at page word (n + 1)) (placed ++ whole) else 0) writes in
            omega (arith, bound, split, here, at, none, past, all, rest, test, taken)
        by (inr none) =
            let more : flat_writes next page word ≡ n = flat_writes-more placed i page word ∙ (ap (λ b. n + one_if b) none ∙ omega arith) in
            let bound = ap (λ k. count_by (is_load_up_to page word k) (front ++ back)) more in
            let here = ap one_if (load-counted page word i numbers) in
            let test = ap (λ (b : Bool). if b then count_by (is_load_at page word (n + 1)) (placed ++ whole) else 0) none in
            omega (arith, bound, here, test, taken)

    -- the accesses of a page that wait, of those that pass a test
    grants-step :
        (pass : Access → Bool) (page : ℕ) → ((a : Access) → pass a ≡ true → a.page ≡ page)
        → count_by (is_access_that (λ a. pass a && nat_lt a.grant (seq_of next page))) (front ++ back) + one_if (is_access_that pass i)
        ≡ count_by (is_access_that (λ a. pass a && nat_lt a.grant (seq_of placed page))) whole
        + (if changes_page page i then count_by (is_access_that (λ a. pass a && a.grant == seq_of placed page)) (placed ++ whole) else 0)
    grants-step pass page of_page = by (cases_Bool (changes_page page i))
      where
        n : ℕ
        n = seq_of placed page

        below : ℕ → Item → Bool
        below k = is_access_that (λ a. pass a && nat_lt a.grant k)

        exactly : Item → Bool
        exactly = is_access_that (λ a. pass a && a.grant == n)

        taken : count_by (below n) whole ≡ one_if (below n i) + count_by (below n) (front ++ back)
        taken = count-taken (below n) front back i

        by :
            (changes_page page i ≡ true) ⊎ (changes_page page i ≡ false)
            → count_by (below (seq_of next page)) (front ++ back) + one_if (is_access_that pass i)
            ≡ count_by (below n) whole + (if changes_page page i then count_by exactly (placed ++ whole) else 0)
        by (inl changes) =
            let more : seq_of next page ≡ n + 1 = seq_of-more placed i page ∙ ap (λ b. n + one_if b) changes in
            let bound = ap (λ k. count_by (below k) (front ++ back)) more in
            let split = count-split (below (n + 1)) (below n) exactly
            (passes-split (λ a. pass a && nat_lt a.grant (n + 1)) (λ a. pass a && nat_lt a.grant n) (λ a. pass a && a.grant == n)
            (λ a. below-split (pass a) n a.grant)) (front ++ back) in
            let here = ap one_if (change-passes page (λ a. pass a && nat_lt a.grant n) i changes) in
            let at = ap one_if (change-passes page (λ a. pass a && a.grant == n) i changes) in
            let none = ap one_if (change-passes page pass i changes) in
            let past = none-count exactly placed (grant-past m answer pass page n of_page [] placed tt start (omega arith)) in
            let all = count-append exactly placed whole in
            let rest = count-taken exactly front back i in
            let test = ap (λ (b : Bool). if b then count_by exactly (placed ++ whole) else 0) changes in
            omega (arith, bound, split, here, at, none, past, all, rest, test, taken)
        by (inr none) =
            let more : seq_of next page ≡ n = seq_of-more placed i page ∙ (ap (λ b. n + one_if b) none ∙ omega arith) in
            let bound = ap (λ k. count_by (below k) (front ++ back)) more in
            let here = ap one_if (grant-counted pass page of_page i numbers) in
            let test = ap (λ (b : Bool). if b then count_by exactly (placed ++ whole) else 0) none in
            omega (arith, bound, here, test, taken)

    pub uses-step :
        (page : ℕ)
        → uses_waiting next (front ++ back) page + one_if (is_access_that (λ a. a.page == page) i)
        ≡ uses_waiting placed whole page + (if changes_page page i then count_by (is_use_at page (seq_of placed page)) (placed ++ whole)
        else 0)
    uses-step page = grants-step (λ a. a.page == page) page (λ a h. eqb-true a.page page h)

    pub writes-step :
        (page : ℕ)
        → writes_waiting next (front ++ back) page + one_if (is_access_that (λ a. is_write a.kind && a.page == page) i)
        ≡ writes_waiting placed whole page + (if changes_page page i then count_by (is_write_at page (seq_of placed page)) (placed ++ whole)
        else 0)
    writes-step page =
        grants-step (λ a. is_write a.kind && a.page == page) page
        (λ a h. eqb-true a.page page (and_parts (is_write a.kind) (a.page == page) h).1)
