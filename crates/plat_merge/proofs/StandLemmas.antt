-- where the journals are those of a good history, the counts say exactly which items are ready
use Rattle.std.specs.Prelude.{◌≡◌, ◌⊎◌, ℕ, ◌+◌, ◌<◌, ◌≤◌, ◌==◌, nat_lt, nat_le, ◌&&◌, ◌||◌, not, if◌then◌else◌, Bool, true, false, List, []}
use Rattle.std.specs.Prelude.{◌∷◌, ◌++◌, count_by, None}
use Rattle.std.proofs.Common.{refl, ap, sym, ◌∙◌, inl, inr, arith, subst}
use Rattle.std.specs.List.{list_any, list_all}
use Rattle.std.proofs.lemmas.Bool.{cases_Bool, and_parts, or_parts, eqb-true, eq-eqb, true≢false}
use Rattle.std.proofs.lemmas.Bool.Decides.{nat_tests}
use Rattle.std.proofs.lemmas.List.{append_assoc, append-nil}
use Rattle.std.proofs.lemmas.List.Folds.{list_any-append}
use Rattle.std.proofs.lemmas.List.Sums.{sum_by-cons}
use Rattle.plat_base.specs.Verdicts.{Answer}
use Rattle.plat_base.specs.Machine.{Machine}
use Rattle.plat_base.specs.Pages.{page_of}
use Rattle.plat_base.specs.Accesses.{writes_made}
use Rattle.plat_base.specs.Flat.{is_write, flat_writes}
use Rattle.plat_base.specs.Directories.{seq_of}
use Rattle.plat_base.specs.Held.{removes_all, removes_writes}
use Rattle.plat_base.specs.Histories.{IsByGrant}
use Rattle.plat_base.specs.Rules.{bad_rule}
use Rattle.plat_base.specs.declared.items.Removed.{Removed}
use Rattle.plat_base.specs.declared.items.Removed.TheVariants as removed
use Rattle.plat_base.specs.declared.items.Access.{Access}
use Rattle.plat_base.specs.declared.items.Change.{Change}
use Rattle.plat_base.specs.declared.items.Item.{Item}
use Rattle.plat_base.specs.declared.items.Item.TheVariants as item
use Rattle.plat_events.specs.Shown.{actor_of}
use Rattle.plat_events.specs.Merges.{comes_before, comes_before_access, comes_before_use, comes_before_change}
use Rattle.plat_laws.proofs.ItemLaws.{flat_writes-append, seq_of-append}
use Rattle.plat_laws.proofs.AccessLaws.{by_grant}
use Rattle.plat_laws.proofs.CopyLaws.{IsCurrent}
use Rattle.plat_merge_laws.proofs.NeighbourLemmas.{version-counts, seq-counts}
use Rattle.plat_merge_laws.proofs.OrderLemmas.{writes-rise, seq-rises, not-both}
use Rattle.plat_merge_laws.proofs.MergeLaws.{AllKept, kept-moved, current-after}
use Rattle.plat_merge.specs.Standing.{is_load_of, is_load_up_to, is_use_below, is_write_below, loads_waiting, uses_waiting, writes_waiting}
use Rattle.plat_merge.specs.Standing.{may_remove, may_stand}

-- ---- counts and tests of lists

abbrev pub one_if : Bool → ℕ
one_if b = if b then 1 else 0

count-none : {A : Type 0} (f : A → Bool) (xs : List A) → count_by f xs ≡ 0 → list_any f xs ≡ false
count-none f [] h = refl
count-none f (x ∷ xs) h = by (f x) (sym (sum_by-cons (λ y. if f y then 1 else 0) x xs) ∙ h) (count-none f xs)
  where
    by : (b : Bool) → (if b then 1 else 0) + count_by f xs ≡ 0 → (count_by f xs ≡ 0 → list_any f xs ≡ false) → (b || list_any f xs) ≡ false
    by true e rest = absurd (omega arith)
    by false e rest = rest (omega (arith, e))

pub none-count : {A : Type 0} (f : A → Bool) (xs : List A) → list_any f xs ≡ false → count_by f xs ≡ 0
none-count f [] h = refl
none-count f (x ∷ xs) h =
    let parts = or_parts (f x) (list_any f xs) h in
    let one : one_if (f x) ≡ 0 = ap one_if parts.0 in
    let more = none-count f xs parts.1 in
    omega (arith, sum_by-cons (λ y. if f y then 1 else 0) x xs, one, more)

-- what passes none of two tests passes no third one
if-none :
    {A : Type 0} (due f g : A → Bool) → ((x : A) → due x ≡ true → g x ≡ false → f x ≡ false) → (xs : List A) → list_all due xs ≡ true
    → list_any g xs ≡ false → list_any f xs ≡ false
if-none due f g each [] h k = refl
if-none due f g each (x ∷ xs) h k =
    let due_parts = and_parts (due x) (list_all due xs) h in
    let parts = or_parts (g x) (list_any g xs) k in
    rw (each x due_parts.0 parts.0) (if-none due f g each xs due_parts.1 parts.1)

none-too : {A : Type 0} (f g : A → Bool) → ((x : A) → f x ≡ false → g x ≡ false) → (xs : List A) → list_any f xs ≡ false →
    list_any g xs ≡ false
none-too f g each [] h = refl
none-too f g each (x ∷ xs) h =
    let parts = or_parts (f x) (list_any f xs) h in rw (each x parts.0) (none-too f g each xs parts.1)

abbrev is_no_access : Item → Bool
is_no_access (item.Access a) = false
is_no_access (item.Change c) = true
is_no_access (item.Applied x) = true
is_no_access (item.Switch s) = true

-- ---- what is left has later versions and numbers than what is placed

abbrev is_due : List Item → Item → Bool
is_due placed (item.Access b) = nat_le (flat_writes placed b.page b.word + writes_made b.kind) b.version
is_due placed (item.Change c) = nat_le (seq_of placed c.page) c.seq
is_due placed (item.Applied x) = true
is_due placed (item.Switch s) = true

module _ (m : Machine) (answer : Answer) (placed : List Item) where
  due-one : (between : List Item) (j : Item) → bad_rule m answer (placed ++ between) j ≡ None → is_due placed j ≡ true
  due-one between (item.Access b) kept =
      let version = version-counts m answer (placed ++ between) b kept in
      let rise = writes-rise b.page b.word (flat_writes placed b.page b.word) between in
      let whole = flat_writes-append placed between b.page b.word in
      let below : flat_writes placed b.page b.word + writes_made b.kind ≤ b.version = omega (arith, version, rise, whole) in
      grind (arith, nat_tests)
  due-one between (item.Change c) kept =
      let seq = seq-counts m answer (placed ++ between) c kept in
      let rise = seq-rises c.page (seq_of placed c.page) between in
      let whole = seq_of-append placed between c.page in
      let below : seq_of placed c.page ≤ c.seq = omega (arith, seq, rise, whole) in
      grind (arith, nat_tests)
  due-one between (item.Applied x) kept = refl
  due-one between (item.Switch s) kept = refl

  due-all : (between left : List Item) → AllKept m answer (placed ++ between) left → list_all (is_due placed) left ≡ true
  due-all between [] kept = refl
  due-all between (j ∷ left) kept =
      rw (due-one between j kept.0)
      (due-all (between ++ j ∷ []) left (subst (λ zs. AllKept m answer zs left) (append_assoc placed between (j ∷ [])) kept.1))

-- ---- an item that may stand next has nothing left to wait for

absurd_bool : {A : Type 0} (b : Bool) → b ≡ true → b ≡ false → A
absurd_bool b h k = absurd (true≢false (sym h ∙ k))

module _ (placed : List Item) where
  load-free :
      (a b : Access) → is_write a.kind ≡ false → a.version ≤ flat_writes placed a.page a.word → is_due placed (item.Access b) ≡ true
      → comes_before_access b a ≡ false
  load-free a b load low due = rw load
      (not-both (b.page == a.page && b.word == a.word) (is_write b.kind && nat_le b.version a.version) (λ same before.
      let writes = and_parts (is_write b.kind) (nat_le b.version a.version) before in
      let p : b.page ≡ a.page = eqb-true b.page a.page (and_parts (b.page == a.page) (b.word == a.word) same).0 in
      let w : b.word ≡ a.word = eqb-true b.word a.word (and_parts (b.page == a.page) (b.word == a.word) same).1 in
      let count : flat_writes placed b.page b.word ≡ flat_writes placed a.page a.word =
      ap (λ x. flat_writes placed x b.word) p ∙ ap (flat_writes placed a.page) w in
      let one : writes_made b.kind ≡ 1 = ap (λ (x : Bool). if x then 1 else 0) writes.0 in
      let late : flat_writes placed b.page b.word + writes_made b.kind ≤ b.version = grind (arith, nat_tests) in
      let early : b.version ≤ a.version = let e = writes.1 in grind (arith, nat_tests) in
      omega (arith, count, one, late, early, low)))

  write-free :
      (a b : Access) → is_write a.kind ≡ true → a.version ≡ flat_writes placed a.page a.word + 1
      → is_due placed (item.Access b) ≡ true
      → is_load_up_to a.page a.word (flat_writes placed a.page a.word) (item.Access b) ≡ false → comes_before_access b a ≡ false
  write-free a b write next due none = rw write
      (not-both (b.page == a.page && b.word == a.word) (nat_lt b.version a.version) (λ same before.
      let p : b.page ≡ a.page = eqb-true b.page a.page (and_parts (b.page == a.page) (b.word == a.word) same).0 in
      let w : b.word ≡ a.word = eqb-true b.word a.word (and_parts (b.page == a.page) (b.word == a.word) same).1 in
      let count : flat_writes placed b.page b.word ≡ flat_writes placed a.page a.word =
      ap (λ x. flat_writes placed x b.word) p ∙ ap (flat_writes placed a.page) w in
      let early : b.version < a.version = grind (arith, nat_tests) in
      let low : nat_le b.version (flat_writes placed a.page a.word) ≡ true = grind (arith, nat_tests) in
      by (cases_Bool (is_write b.kind)) count early same low))
    where
      by :
          (is_write b.kind ≡ true) ⊎ (is_write b.kind ≡ false) → flat_writes placed b.page b.word ≡ flat_writes placed a.page a.word
          → b.version < a.version → (b.page == a.page && b.word == a.word) ≡ true
          → nat_le b.version (flat_writes placed a.page a.word) ≡ true → ⊥
      by (inl writes) count early same low =
          let one : writes_made b.kind ≡ 1 = ap (λ (x : Bool). if x then 1 else 0) writes in
          let late : flat_writes placed b.page b.word + writes_made b.kind ≤ b.version = grind (arith, nat_tests) in
          omega (arith, count, one, late, early, next)
      by (inr load) count early same low = true≢false (sym (rw (load, same, low) refl) ∙ none)

  use-free : (a : Access) (c : Change) → a.grant < seq_of placed a.page → is_due placed (item.Change c) ≡ true →
      comes_before_use c a ≡ false
  use-free a c granted due =
      not-both (c.page == a.page) (nat_le c.seq a.grant) (λ same before.
      let p : c.page ≡ a.page = eqb-true c.page a.page same in
      let count : seq_of placed c.page ≡ seq_of placed a.page = ap (seq_of placed) p in
      let late : seq_of placed c.page ≤ c.seq = grind (arith, nat_tests) in
      let early : c.seq ≤ a.grant = grind (arith, nat_tests) in
      omega (arith, count, late, early, granted))

  change-free : (d c : Change) → d.seq ≡ seq_of placed d.page → is_due placed (item.Change c) ≡ true → comes_before_change c d ≡ false
  change-free d c next due =
      not-both (c.page == d.page) (nat_lt c.seq d.seq) (λ same before.
      let p : c.page ≡ d.page = eqb-true c.page d.page same in
      let count : seq_of placed c.page ≡ seq_of placed d.page = ap (seq_of placed) p in
      let late : seq_of placed c.page ≤ c.seq = grind (arith, nat_tests) in
      let early : c.seq < d.seq = grind (arith, nat_tests) in
      omega (arith, count, late, early, next))

  -- the accesses that a removal has to wait for
  waited-for : Change → Removed → Item → Bool
  waited-for d removed.Nothing j = false
  waited-for d removed.Writes j = is_write_below d.page (seq_of placed d.page) j
  waited-for d removed.All j = is_use_below d.page (seq_of placed d.page) j

  removal_by : Change → Removed → Access → Bool
  removal_by d r b = b.page == d.page && nat_lt b.grant d.seq && (removes_all r || (is_write b.kind && removes_writes r))

  removal-waits :
      (d : Change) (r : Removed) (b : Access) → d.seq ≡ seq_of placed d.page → removal_by d r b ≡ waited-for d r (item.Access b)
  unfolding waited-for removal_by
  removal-waits d removed.Nothing b next = no_removal (b.page == d.page && nat_lt b.grant d.seq) (is_write b.kind)
    where
      no_removal : (x w : Bool) → (x && (false || (w && false))) ≡ false
      no_removal true true = refl
      no_removal true false = refl
      no_removal false w = refl
  removal-waits d removed.Writes b next = rw next (turned (b.page == d.page) (nat_lt b.grant (seq_of placed d.page)) (is_write b.kind))
    where
      turned : (p x w : Bool) → (p && x && (false || (w && true))) ≡ (w && p && x)
      turned true true true = refl
      turned true true false = refl
      turned true false true = refl
      turned true false false = refl
      turned false x true = refl
      turned false x false = refl
  removal-waits d removed.All b next = rw next (all_of (b.page == d.page && nat_lt b.grant (seq_of placed d.page)) (is_write b.kind))
    where
      all_of : (x w : Bool) → (x && (true || (w && false))) ≡ x
      all_of true w = refl
      all_of false w = refl

  -- what an item waits for, as a test of those left
  holds-up : Item → Item → Bool
  holds-up (item.Access a) j = if is_write a.kind then is_load_up_to a.page a.word (flat_writes placed a.page a.word) j else false
  holds-up (item.Change d) j = waited-for d d.removed j
  holds-up (item.Applied x) j = false
  holds-up (item.Switch s) j = false

  -- the numbers of an item that may stand next
  unfoldable pub FitsVersion : (writes : Bool) → (version count : ℕ) → Type 0
  FitsVersion true version count = version ≡ count + 1
  FitsVersion false version count = version ≤ count

  abbrev pub HasNumbers : Item → Type 0
  HasNumbers (item.Access a) = (a.grant < seq_of placed a.page) × FitsVersion (is_write a.kind) a.version (flat_writes placed a.page a.word)
  HasNumbers (item.Change d) = d.seq ≡ seq_of placed d.page
  HasNumbers (item.Applied x) = Unit {0}
  HasNumbers (item.Switch s) = Unit {0}

  -- what is due and does not hold it up need not stand before it
  access-free :
      (a b : Access) → FitsVersion (is_write a.kind) a.version (flat_writes placed a.page a.word) → is_due placed (item.Access b) ≡ true
      → holds-up (item.Access a) (item.Access b) ≡ false → comes_before_access b a ≡ false
  unfolding FitsVersion holds-up
  access-free a b fits due none = by (cases_Bool (is_write a.kind))
    where
      by : (is_write a.kind ≡ true) ⊎ (is_write a.kind ≡ false) → comes_before_access b a ≡ false
      by (inl write) =
          write-free a b write (subst (λ w. FitsVersion w a.version (flat_writes placed a.page a.word)) write fits) due
          (sym (ap (λ (w : Bool). if w then is_load_up_to a.page a.word (flat_writes placed a.page a.word) (item.Access b) else false)
          write) ∙ none)
      by (inr load) = load-free a b load (subst (λ w. FitsVersion w a.version (flat_writes placed a.page a.word)) load fits) due

  free-one : (i j : Item) → HasNumbers i → is_due placed j ≡ true → holds-up i j ≡ false → comes_before j i ≡ false
  unfolding holds-up removal_by
  free-one (item.Access a) (item.Access b) numbers due none = access-free a b numbers.1 due none
  free-one (item.Access a) (item.Change c) numbers due none = use-free a c numbers.0 due
  free-one (item.Access a) (item.Applied x) numbers due none = refl
  free-one (item.Access a) (item.Switch s) numbers due none = refl
  free-one (item.Change d) (item.Access b) numbers due none = removal-waits d d.removed b numbers ∙ none
  free-one (item.Change d) (item.Change c) numbers due none = change-free d c numbers due
  free-one (item.Change d) (item.Applied x) numbers due none = refl
  free-one (item.Change d) (item.Switch s) numbers due none = refl
  free-one (item.Applied y) (item.Access b) numbers due none = refl
  free-one (item.Applied y) (item.Change c) numbers due none = refl
  free-one (item.Applied y) (item.Applied x) numbers due none = refl
  free-one (item.Applied y) (item.Switch s) numbers due none = refl
  free-one (item.Switch y) (item.Access b) numbers due none = refl
  free-one (item.Switch y) (item.Change c) numbers due none = refl
  free-one (item.Switch y) (item.Applied x) numbers due none = refl
  free-one (item.Switch y) (item.Switch s) numbers due none = refl

  -- what need not stand before it does not hold it up
  load-held :
      (a b : Access) → FitsVersion (is_write a.kind) a.version (flat_writes placed a.page a.word) → comes_before_access b a ≡ false
      → holds-up (item.Access a) (item.Access b) ≡ false
  unfolding FitsVersion holds-up
  load-held a b fits free = by (cases_Bool (is_write a.kind))
    where
      by : (is_write a.kind ≡ true) ⊎ (is_write a.kind ≡ false) → holds-up (item.Access a) (item.Access b) ≡ false
      by (inr load) = rw load refl
      by (inl write) = rw write
          (not-both (is_load_of a.page a.word b) (nat_le b.version (flat_writes placed a.page a.word)) (λ of low.
          let next : a.version ≡ flat_writes placed a.page a.word + 1 =
          subst (λ w. FitsVersion w a.version (flat_writes placed a.page a.word)) write fits in
          let same : (b.page == a.page && b.word == a.word) ≡ true =
          (and_parts (not (is_write b.kind)) (b.page == a.page && b.word == a.word) of).1 in
          let early : nat_lt b.version a.version ≡ true = grind (arith, nat_tests) in
          let before : comes_before_access b a ≡ true = rw (write, same, early) refl in
          true≢false (sym before ∙ free)))

  waited-other : (d : Change) (r : Removed) (j : Item) → is_no_access j ≡ true → waited-for d r j ≡ false
  unfolding waited-for
  waited-other d removed.Nothing (item.Access b) h = refl
  waited-other d removed.Nothing (item.Change c) h = refl
  waited-other d removed.Nothing (item.Applied x) h = refl
  waited-other d removed.Nothing (item.Switch s) h = refl
  waited-other d removed.Writes (item.Access b) h = absurd cc
  waited-other d removed.Writes (item.Change c) h = refl
  waited-other d removed.Writes (item.Applied x) h = refl
  waited-other d removed.Writes (item.Switch s) h = refl
  waited-other d removed.All (item.Access b) h = absurd cc
  waited-other d removed.All (item.Change c) h = refl
  waited-other d removed.All (item.Applied x) h = refl
  waited-other d removed.All (item.Switch s) h = refl

  not_held : (b : Bool) → (if b then false else false) ≡ false
  not_held true = refl
  not_held false = refl

  held-one : (i j : Item) → HasNumbers i → comes_before j i ≡ false → holds-up i j ≡ false
  unfolding holds-up removal_by
  held-one (item.Access a) (item.Access b) numbers free = load-held a b numbers.1 free
  held-one (item.Access a) (item.Change c) numbers free = not_held (is_write a.kind)
  held-one (item.Access a) (item.Applied x) numbers free = not_held (is_write a.kind)
  held-one (item.Access a) (item.Switch s) numbers free = not_held (is_write a.kind)
  held-one (item.Change d) (item.Access b) numbers free = sym (removal-waits d d.removed b numbers) ∙ free
  held-one (item.Change d) (item.Change c) numbers free = waited-other d d.removed (item.Change c) refl
  held-one (item.Change d) (item.Applied x) numbers free = waited-other d d.removed (item.Applied x) refl
  held-one (item.Change d) (item.Switch s) numbers free = waited-other d d.removed (item.Switch s) refl
  held-one (item.Applied y) j numbers free = refl
  held-one (item.Switch y) j numbers free = refl

  -- ---- the test of the counts

  removal-stands :
      (d : Change) (r : Removed) (left : List Item) → list_any (waited-for d r) left ≡ false
      → may_remove (uses_waiting placed left d.page) (writes_waiting placed left d.page) r ≡ true
  unfolding waited-for
  removal-stands d removed.Nothing left none = refl
  removal-stands d removed.Writes left none =
      eq-eqb (writes_waiting placed left d.page) 0 (none-count (is_write_below d.page (seq_of placed d.page)) left none)
  removal-stands d removed.All left none =
      eq-eqb (uses_waiting placed left d.page) 0 (none-count (is_use_below d.page (seq_of placed d.page)) left none)

  all-false : {A : Type 0} (xs : List A) → list_any (λ x. false) xs ≡ false
  all-false [] = refl
  all-false (x ∷ xs) = all-false xs

  stands-removal :
      (d : Change) (r : Removed) (left : List Item) → may_remove (uses_waiting placed left d.page) (writes_waiting placed left d.page) r
      ≡ true
      → list_any (waited-for d r) left ≡ false
  unfolding waited-for
  stands-removal d removed.Nothing left h = all-false left
  stands-removal d removed.Writes left h =
      count-none (is_write_below d.page (seq_of placed d.page)) left (eqb-true (writes_waiting placed left d.page) 0 h)
  stands-removal d removed.All left h =
      count-none (is_use_below d.page (seq_of placed d.page)) left (eqb-true (uses_waiting placed left d.page) 0 h)

  access-stands :
      (a : Access) (left : List Item) → HasNumbers (item.Access a) → list_any (holds-up (item.Access a)) left ≡ false
      → may_stand placed left (item.Access a) ≡ true
  unfolding holds-up FitsVersion
  access-stands a left numbers none = by (cases_Bool (is_write a.kind))
    where
      granted : nat_lt a.grant (seq_of placed a.page) ≡ true
      granted = let g = numbers.0 in grind (arith, nat_tests)

      by : (is_write a.kind ≡ true) ⊎ (is_write a.kind ≡ false) → may_stand placed left (item.Access a) ≡ true
      by (inl write) =
          let next : (a.version == flat_writes placed a.page a.word + 1) ≡ true =
          eq-eqb a.version (flat_writes placed a.page a.word + 1)
          (subst (λ w. FitsVersion w a.version (flat_writes placed a.page a.word)) write numbers.1) in
          let waits : list_any (is_load_up_to a.page a.word (flat_writes placed a.page a.word)) left ≡ false =
          sym (ap (λ (w : Bool). list_any (λ j. if w then is_load_up_to a.page a.word (flat_writes placed a.page a.word) j else false) left)
          write) ∙ none in
          let zero : (loads_waiting placed left a.page a.word == 0) ≡ true =
          eq-eqb (loads_waiting placed left a.page a.word) 0
          (none-count (is_load_up_to a.page a.word (flat_writes placed a.page a.word)) left waits) in
          joined write granted next zero
        where
          joined :
              is_write a.kind ≡ true → nat_lt a.grant (seq_of placed a.page) ≡ true
              → (a.version == flat_writes placed a.page a.word + 1) ≡ true → (loads_waiting placed left a.page a.word == 0) ≡ true
              → may_stand placed left (item.Access a) ≡ true
          joined write g n z =
              ap (λ (w : Bool). nat_lt a.grant (seq_of placed a.page)
              && (if w then a.version == flat_writes placed a.page a.word + 1 && loads_waiting placed left a.page a.word == 0
              else nat_le a.version (flat_writes placed a.page a.word))) write
              ∙ all_three (nat_lt a.grant (seq_of placed a.page)) (a.version == flat_writes placed a.page a.word + 1)
              (loads_waiting placed left a.page a.word == 0) g n z
            where
              all_three : (x y z : Bool) → x ≡ true → y ≡ true → z ≡ true → (x && (y && z)) ≡ true
              all_three x y z e f g = rw (e, f, g) refl
      by (inr load) =
          let low : a.version ≤ flat_writes placed a.page a.word =
          subst (λ w. FitsVersion w a.version (flat_writes placed a.page a.word)) load numbers.1 in
          let test : nat_le a.version (flat_writes placed a.page a.word) ≡ true = grind (arith, nat_tests) in
          ap (λ (w : Bool). nat_lt a.grant (seq_of placed a.page)
          && (if w then a.version == flat_writes placed a.page a.word + 1 && loads_waiting placed left a.page a.word == 0
          else nat_le a.version (flat_writes placed a.page a.word))) load
          ∙ both (nat_lt a.grant (seq_of placed a.page)) (nat_le a.version (flat_writes placed a.page a.word)) granted test
        where
          both : (x y : Bool) → x ≡ true → y ≡ true → (x && y) ≡ true
          both x y e f = rw (e, f) refl

  stands-access :
      (a : Access) (left : List Item) → may_stand placed left (item.Access a) ≡ true
      → HasNumbers (item.Access a) × (list_any (holds-up (item.Access a)) left ≡ false)
  unfolding holds-up FitsVersion
  stands-access a left h = by (cases_Bool (is_write a.kind))
    where
      parts :
          (w : Bool) → is_write a.kind ≡ w
          → (nat_lt a.grant (seq_of placed a.page) ≡ true)
          × ((if w then a.version == flat_writes placed a.page a.word + 1 && loads_waiting placed left a.page a.word == 0
          else nat_le a.version (flat_writes placed a.page a.word)) ≡ true)
      parts w e =
          and_parts (nat_lt a.grant (seq_of placed a.page))
          (if w then a.version == flat_writes placed a.page a.word + 1 && loads_waiting placed left a.page a.word == 0
          else nat_le a.version (flat_writes placed a.page a.word))
          (sym (ap (λ (w : Bool). nat_lt a.grant (seq_of placed a.page)
          && (if w then a.version == flat_writes placed a.page a.word + 1 && loads_waiting placed left a.page a.word == 0
          else nat_le a.version (flat_writes placed a.page a.word))) e) ∙ h)

      by :
          (is_write a.kind ≡ true) ⊎ (is_write a.kind ≡ false)
          → HasNumbers (item.Access a) × (list_any (holds-up (item.Access a)) left ≡ false)
      by (inl write) =
          let p = parts true write in
          let q = and_parts (a.version == flat_writes placed a.page a.word + 1) (loads_waiting placed left a.page a.word == 0) p.1 in
          let granted : a.grant < seq_of placed a.page = let g = p.0 in grind (arith, nat_tests) in
          let none = count-none (is_load_up_to a.page a.word (flat_writes placed a.page a.word)) left
          (eqb-true (loads_waiting placed left a.page a.word) 0 q.1) in (
            (
              granted,
              subst (λ w. FitsVersion w a.version (flat_writes placed a.page a.word)) (sym write)
                  (eqb-true a.version (flat_writes placed a.page a.word + 1) q.0),
            ),
            ap (λ (w : Bool). list_any (λ j. if w then is_load_up_to a.page a.word (flat_writes placed a.page a.word) j else false) left)
                write ∙ none,
          )
      by (inr load) =
          let p = parts false load in
          let granted : a.grant < seq_of placed a.page = let g = p.0 in grind (arith, nat_tests) in
          let low : a.version ≤ flat_writes placed a.page a.word = let g = p.1 in grind (arith, nat_tests) in (
            (granted, subst (λ w. FitsVersion w a.version (flat_writes placed a.page a.word)) (sym load) low),
            ap (λ (w : Bool). list_any (λ j. if w then is_load_up_to a.page a.word (flat_writes placed a.page a.word) j else false) left)
                load ∙ all-false left,
          )

  numbers-stand : (i : Item) (left : List Item) → HasNumbers i → list_any (holds-up i) left ≡ false → may_stand placed left i ≡ true
  unfolding holds-up
  numbers-stand (item.Access a) left numbers none = access-stands a left numbers none
  numbers-stand (item.Change d) left numbers none =
      rw (eq-eqb d.seq (seq_of placed d.page) numbers, removal-stands d d.removed left none) refl
  numbers-stand (item.Applied x) left numbers none = refl
  numbers-stand (item.Switch s) left numbers none = refl

  stand-numbers : (i : Item) (left : List Item) → may_stand placed left i ≡ true → HasNumbers i × (list_any (holds-up i) left ≡ false)
  unfolding holds-up
  stand-numbers (item.Access a) left h = stands-access a left h
  stand-numbers (item.Change d) left h =
      let parts = and_parts (d.seq == seq_of placed d.page)
      (may_remove (uses_waiting placed left d.page) (writes_waiting placed left d.page) d.removed) h
      in (eqb-true d.seq (seq_of placed d.page) parts.0, stands-removal d d.removed left parts.1)
  stand-numbers (item.Applied x) left h = (tt, all-false left)
  stand-numbers (item.Switch s) left h = (tt, all-false left)

  -- the numbers of an item that breaks no rule next
  pub kept-numbers : (m : Machine) (answer : Answer) (i : Item) → IsCurrent m placed → bad_rule m answer placed i ≡ None → HasNumbers i
  unfolding FitsVersion
  kept-numbers m answer (item.Access a) current kept =
      let g : IsByGrant m placed a = by_grant m answer placed a kept in
      let below = (current.leads a.actor g.entry g.translation g.holds).below in
      let numbered : g.translation.seq ≡ a.grant = g.numbered in
      let same : seq_of placed (page_of m g.entry) ≡ seq_of placed a.page = ap (seq_of placed) g.of_page in
      (omega (arith, below, numbered, same), by (is_write a.kind) (version-counts m answer placed a kept))
    where
      by :
          (w : Bool) → a.version ≡ flat_writes placed a.page a.word + (if w then 1 else 0)
          → FitsVersion w a.version (flat_writes placed a.page a.word)
      by true e = e
      by false e = omega (arith, e)
  kept-numbers m answer (item.Change d) current kept = seq-counts m answer placed d kept
  kept-numbers m answer (item.Applied x) current kept = tt
  kept-numbers m answer (item.Switch s) current kept = tt

-- ---- the law: the next item of an actor is ready exactly where the counts say that it may stand next

module _ (m : Machine) (answer : Answer) (placed front back : List Item) (i : Item) where
  abbrev left : List Item
  left = front ++ i ∷ back

  abbrev waits : Bool
  waits = list_any (λ j. comes_before j i) left

  pub stands-exactly :
      AllKept m answer [] placed → AllKept m answer placed left → list_any (λ j. actor_of j == actor_of i) front ≡ false
      → not waits ≡ may_stand placed left i
  stands-exactly start kept alone = by (cases_Bool waits) (cases_Bool (may_stand placed left i))
    where
      ready : waits ≡ false → may_stand placed left i ≡ true
      ready free =
          let front_free =
          (or_parts (list_any (λ j. comes_before j i) front) (list_any (λ j. comes_before j i) (i ∷ back))
          (sym (list_any-append (λ j. comes_before j i) front (i ∷ back)) ∙ free)).0 in
          let moved = kept-moved m answer placed front back i front_free alone kept in
          let numbers = kept-numbers placed m answer i (current-after m answer placed start) moved.0 in
          numbers-stand placed i left numbers
          (none-too (λ j. comes_before j i) (holds-up placed i) (λ j. held-one placed i j numbers) left free)

      free_of : may_stand placed left i ≡ true → waits ≡ false
      free_of h =
          let numbers = stand-numbers placed i left h in
          if-none (is_due placed) (λ j. comes_before j i) (holds-up placed i) (λ j. free-one placed i j numbers.0) left
          (due-all m answer placed [] left (subst (λ zs. AllKept m answer zs left) (sym (append-nil placed)) kept)) numbers.1

      by :
          (waits ≡ true) ⊎ (waits ≡ false) → (may_stand placed left i ≡ true) ⊎ (may_stand placed left i ≡ false)
          → not waits ≡ may_stand placed left i
      by (inl w) (inl s) = absurd (true≢false (sym w ∙ free_of s))
      by (inl w) (inr s) = ap not w ∙ sym s
      by (inr f) (inl s) = ap not f ∙ sym s
      by (inr f) (inr s) = absurd (true≢false (sym (ready f) ∙ s))
