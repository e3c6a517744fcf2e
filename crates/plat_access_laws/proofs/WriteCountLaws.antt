-- how often a word was written: less often than all processors may make turns, where one has an operation still to make
use Rattle.std.specs.Prelude.{◌≡◌, ◌≢◌, ◌⊎◌, ℕ, zero, suc, ◌+◌, ◌*◌, ◌<◌, ◌≤◌, ◌==◌, ◌&&◌, ◌||◌, not, if◌then◌else◌, cond, nat_lt, Bool}
use Rattle.std.specs.Prelude.{true, false, List, [], ◌∷◌, ◌++◌, None, sum_by, count_by}
use Rattle.std.proofs.Common.{refl, ap, inl, inr, arith}
use Rattle.std.specs.List.{fold, list_all, range_with_len}
use Rattle.std.proofs.lemmas.Bool.{and_parts, cases_eq, eq-eqb}
use Rattle.std.proofs.lemmas.Bool.Decides.{nat_tests}
use Rattle.std.proofs.lemmas.List.Sums.{sum_by-cons}
use Rattle.plat_base.specs.Items.{is_access}
use Rattle.plat_base.specs.Verdicts.{Answer}
use Rattle.plat_base.specs.Machine.{Machine}
use Rattle.plat_base.specs.Pages.{numbers}
use Rattle.plat_base.specs.Flat.{writes_word, flat_writes}
use Rattle.plat_base.specs.Rules.{bad_rule, bad_after, is_access_next, next_operation}
use Rattle.plat_base.specs.Decide.{is_frame}
use Rattle.plat_base.specs.declared.items.Item.{Item}
use Rattle.plat_base.specs.declared.items.Item.TheVariants as item
use Rattle.plat_laws.specs.Guests.{IsWithinLimits}
use Rattle.plat_laws.proofs.AccessLaws.{access_parts}
use Rattle.plat_events.specs.Privates.{actor_count}
use Rattle.plat_events.specs.Kept.{private_of}
use Rattle.plat_events.specs.Runs.{Fine, ends_of}
use Rattle.plat_events.specs.Shown.{actor_of, items_by, bit_of, Shows}
use Rattle.plat_local_laws.specs.Numbers.{is_in_turn, is_operation}
use Rattle.plat_local_laws.specs.Alone.{PrivateOk}
use Rattle.plat_fine_laws.proofs.AloneLaws.{alone_ok}
use Rattle.plat_frame_laws.proofs.SumLaws.{first}
use Rattle.plat_base.proofs.RuleLemmas.{bad_at-none}
use Rattle.plat_laws.proofs.HistoryLaws.{good-items}

-- ---- sums of smaller summands

range-less :
    (g h : ℕ → ℕ) (a n : ℕ) → ((q : ℕ) → a ≤ q → q < a + n → g q ≤ h q) →
    sum_by g (range_with_len a n) ≤ sum_by h (range_with_len a n)
range-less g h a zero less = omega arith
range-less g h a (suc n) less =
    let here : g a ≤ h a = less a (omega arith) (omega arith) in
    let rest = range-less g h (a + 1) n (λ q low high. less q (omega arith) (omega arith)) in
    omega (arith, first g a n, first h a n, here, rest)

range-fewer :
    (g h : ℕ → ℕ) (a n p : ℕ) → a ≤ p → p < a + n → ((q : ℕ) → a ≤ q → q < a + n → g q ≤ h q) → g p + 1 ≤ h p →
    sum_by g (range_with_len a n) + 1 ≤ sum_by h (range_with_len a n)
range-fewer g h a zero p low high less one = absurd (omega arith)
range-fewer g h a (suc n) p low high less one =
    by (cases_eq p a) (λ more. range-fewer g h (a + 1) n p more (omega arith) (λ q l k. less q (omega arith) (omega arith)) one)
  where
    by :
        (p ≡ a) ⊎ (p ≢ a) →
        (a + 1 ≤ p → sum_by g (range_with_len (a + 1) n) + 1 ≤ sum_by h (range_with_len (a + 1) n)) →
        sum_by g (range_with_len a (suc n)) + 1 ≤ sum_by h (range_with_len a (suc n))
    by (inl e) more =
        let rest = range-less g h (a + 1) n (λ q l k. less q (omega arith) (omega arith)) in
        omega (arith, first g a n, first h a n, rest, one, ap g e, ap h e)
    by (inr apart) more =
        let here : g a ≤ h a = less a (omega arith) (omega arith) in
        let rest = more (omega arith) in omega (arith, first g a n, first h a n, here, rest)

sum-less : (g h : ℕ → ℕ) (n : ℕ) → ((q : ℕ) → q < n → g q ≤ h q) → sum_by g (numbers n) ≤ sum_by h (numbers n)
sum-less g h n less = range-less g h 0 n (λ q low high. less q (omega arith))

sum-fewer :
    (g h : ℕ → ℕ) (n p : ℕ) → p < n → ((q : ℕ) → q < n → g q ≤ h q) → g p + 1 ≤ h p →
    sum_by g (numbers n) + 1 ≤ sum_by h (numbers n)
sum-fewer g h n p inside less one = range-fewer g h 0 n p (omega arith) (omega arith) (λ q low high. less q (omega arith)) one

range-even : (b a n : ℕ) → sum_by (λ (q : ℕ). b) (range_with_len a n) ≡ n * b
range-even b a zero = omega arith
range-even b a (suc n) = let rest = range-even b (a + 1) n in omega (arith, first (λ q. b) a n, rest)

-- ---- the operations of each actor

-- how many accesses and switches of an actor are among these items
abbrev made_by : List Item → ℕ → ℕ
made_by items q = count_by is_operation (items_by q items)

no-fewer : (i : Item) (b : Bool) (xs : List Item) → count_by is_operation xs ≤ count_by is_operation (cond b (i ∷ xs) xs)
no-fewer i true xs = let more = sum_by-cons (λ x. if is_operation x then 1 else 0) i xs in omega (arith, more)
no-fewer i false xs = omega arith

one-more :
    (i : Item) (b : Bool) (xs : List Item) → b ≡ true → is_operation i ≡ true →
    count_by is_operation xs + 1 ≤ count_by is_operation (cond b (i ∷ xs) xs)
one-more i true xs own does =
    let more = sum_by-cons (λ x. if is_operation x then 1 else 0) i xs in
    let one : bit_of (is_operation i) ≡ 1 = ap bit_of does in omega (arith, more, one)
one-more i false xs own does = absurd cc

writes-operation : (page w : ℕ) (i : Item) → writes_word page w i ≡ true → is_operation i ≡ true
writes-operation page w (item.Access x) h = refl
writes-operation page w (item.Change c) h = absurd cc
writes-operation page w (item.Applied x) h = absurd cc
writes-operation page w (item.Switch x) h = absurd cc

-- ---- accesses are made by processors

-- the item is no access, or a processor's
abbrev is_by_node : ℕ → Item → Bool
is_by_node n i = not (is_access i) || nat_lt (actor_of i) n

writes-node : (page w n : ℕ) (i : Item) → writes_word page w i ≡ true → is_by_node n i ≡ true → actor_of i < n
writes-node page w n (item.Access x) h by_node = let below : nat_lt x.actor n ≡ true = by_node in grind (arith, nat_tests)
writes-node page w n (item.Change c) h by_node = absurd cc
writes-node page w n (item.Applied x) h by_node = absurd cc
writes-node page w n (item.Switch x) h by_node = absurd cc

all-by_node :
    (m : Machine) (answer : Answer) (before : List Item) (k : ℕ) (items : List Item) → bad_after m answer before k items ≡ None →
    list_all (is_by_node m.nodes) items ≡ true
all-by_node m answer before k [] good = refl
all-by_node m answer before k (i ∷ is) good =
    let parts = bad_at-none k (bad_rule m answer before i) (bad_after m answer (before ++ i ∷ []) (k + 1) is) good in
    rw (one i parts.0) (all-by_node m answer (before ++ i ∷ []) (k + 1) is parts.1)
  where
    one : (i : Item) → bad_rule m answer before i ≡ None → is_by_node m.nodes i ≡ true
    one (item.Access x) ok =
        let ordered = (access_parts m answer before x ok).0 in
        let both =
        and_parts (nat_lt x.actor m.nodes && is_frame m x.frame) (is_access_next (next_operation m before x.actor) x) ordered in
        (and_parts (nat_lt x.actor m.nodes) (is_frame m x.frame) both.0).0
    one (item.Change c) ok = refl
    one (item.Applied x) ok = refl
    one (item.Switch x) ok = refl

-- ---- a word is written no more often than there are operations

fold-most :
    (page w n k : ℕ) (items : List Item) → list_all (is_by_node n) items ≡ true →
    fold (λ v i. if writes_word page w i then v + 1 else v) k items ≤ k + sum_by (made_by items) (numbers n)
fold-most page w n k [] known = omega arith
fold-most page w n k (i ∷ is) known =
    let parts = and_parts (is_by_node n i) (list_all (is_by_node n) is) known in
    by (writes_word page w i) refl parts.0 (λ j. fold-most page w n j is parts.1)
  where
    most : (q : ℕ) → q < n → made_by is q ≤ made_by (i ∷ is) q
    most q inside = no-fewer i (actor_of i == q) (items_by q is)

    by : (b : Bool) → writes_word page w i ≡ b → is_by_node n i ≡ true →
        ((j : ℕ) → fold (λ v i. if writes_word page w i then v + 1 else v) j is ≤ j + sum_by (made_by is) (numbers n)) →
        fold (λ v i. if writes_word page w i then v + 1 else v) (if b then k + 1 else k) is ≤ k + sum_by (made_by (i ∷ is)) (numbers n)
    by true does node rest =
        let fewer =
        sum-fewer (made_by is) (made_by (i ∷ is)) n (actor_of i) (writes-node page w n i does node) most
        (one-more i (actor_of i == actor_of i) (items_by (actor_of i) is) (eq-eqb (actor_of i) (actor_of i) refl)
        (writes-operation page w i does)) in
        let so_far = rest (k + 1) in omega (arith, fewer, so_far)
    by false does node rest =
        let less = sum-less (made_by is) (made_by (i ∷ is)) n most in
        let so_far = rest k in omega (arith, less, so_far)

module _ (m : Machine) (answer : Answer) (s : Fine) (limits : IsWithinLimits m) (shows : Shows m answer s) where
  bound : (q : ℕ) → q < m.nodes → made_by s.history q + bit_of (is_in_turn (private_of m s q).place) ≤ m.budget
  bound q inside =
      let within : q < actor_count m = omega arith in
      let alone : PrivateOk m answer q (private_of m s q) = alone_ok m answer s q limits shows within in
      let operations = alone.numbers.operations inside in
      let turns = alone.standing.turns_most in
      let journal : count_by is_operation (private_of m s q).journal ≡ made_by s.history q =
      ap (count_by is_operation) (shows.journals_are_history q within) in
      omega (arith, operations, turns, journal)

  -- a processor that has not made the operation of its turn leaves room for one more
  pub writes-fewer :
      (a page w : ℕ) → a < m.nodes → is_in_turn (private_of m s a).place ≡ true →
      flat_writes s.history page w + 1 ≤ m.nodes * m.budget
  writes-fewer a page w inside turn =
      let known : list_all (is_by_node m.nodes) s.history ≡ true =
      all-by_node m answer [] 0 s.history (good-items m answer s.history (ends_of m s.privates) shows.history_good) in
      let writes = fold-most page w m.nodes 0 s.history known in
      let one : bit_of (is_in_turn (private_of m s a).place) ≡ 1 = ap bit_of turn in
      let own : made_by s.history a + 1 ≤ m.budget = let most = bound a inside in omega (arith, most, one) in
      let fewer =
      sum-fewer (made_by s.history) (λ q. m.budget) m.nodes a inside (λ q below. let most = bound q below in omega (arith, most)) own in
      let even : sum_by (λ (q : ℕ). m.budget) (numbers m.nodes) ≡ m.nodes * m.budget = range-even m.budget 0 m.nodes in
      omega (arith, writes, fewer, even)
