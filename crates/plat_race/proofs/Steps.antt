-- one more access: what each of the four tables becomes
use Rattle.std.specs.Prelude.{◌≡◌, ◌≢◌, ◌⊎◌, ℕ, suc, ◌*◌, ◌<◌, ◌==◌, ◌&&◌, Bool, true, false, max, List, [], length, slice_index, refl}
use Rattle.std.proofs.Common.{sym, ◌∙◌, arith, ⊎_elim, subst, get_or, set}
use Rattle.std.proofs.lemmas.Bool.Decides.{nat_tests}
use Rattle.std.proofs.lemmas.List.{get_or-set_other, get_or_default}
use Rattle.std.proofs.lemmas.Grind.{get_or-set_at}
use Rattle.std.proofs.lemmas.Nat.{same_from_place, mul-add-lt}
use Rattle.std.proofs.Math.Nat.{mul_comm}
use Rattle.plat_base.specs.declared.limits.TheConstants.{MODULES}
use Rattle.plat_base.specs.Flat.{is_write}
use Rattle.plat_base.specs.declared.items.Access.{Access}
use Rattle.plat_base.specs.declared.items.Item.{Item}
use Rattle.plat_base.specs.declared.items.Item.TheVariants as item
use Rattle.plat_base.specs.Items.{is_access_that}
use Rattle.plat_race.specs.Races.{item_at, is_add, is_directly_before}
use Rattle.plat_race.specs.Marks.{is_by, adds_to, uses, writes, AreMarks, AreClocks, AreLasts, IsLast}
use Rattle.plat_race.specs.Tabled.{row_at, word_row, FitTables, AreAfter}
use Rattle.plat_race.proofs.Marking.{mark-kept, last-kept, last-here, mark-clock, mark-own, clock-alone, clock-joined, by-actor, by-other}
use Rattle.plat_race.proofs.Marking.{own-lead, adds-lead, alone-led, add-led}

-- ---- rows

-- a row that was read
pub row_read : (rows : List (List ℕ)) (r : ℕ) (row : List ℕ) → row ≡ get_or rows r row → r < length rows → row_at rows r ≡ row
row_read rows r row e within = get_or_default rows r [] row within ∙ sym e

equal_or : (a b : ℕ) → (a ≡ b) ⊎ (a ≢ b)
equal_or a b = grind arith

-- the row of another word is another row
rows_differ : (words page word p w : ℕ) → word < words → w < words → ((p ≡ page) × (w ≡ word) → ⊥)
    → word_row words p w ≢ word_row words page word
rows_differ words page word p w lw lw2 apart same = let t = same_from_place p w page word words lw2 lw same
    in apart (omega arith, omega arith)

row_within : (pages words page word : ℕ) → page < pages → word < words → word_row words page word < pages * words
row_within pages words page word p w = omega (arith, mul-add-lt page words word pages p w, mul_comm words pages)

-- ---- an item that is no access

pub not_access : (i : Item) → ((a : Access) → i ≡ item.Access a → ⊥) → (test : Access → Bool) → is_access_that test i ≡ false
not_access (item.Access a) none test = absurd (none a refl)
not_access (item.Change c) none test = refl
not_access (item.Applied x) none test = refl
not_access (item.Switch s) none test = refl

pub after-other :
    (items : List Item) (n pages words : ℕ) (clocks adds accesses stores : List (List ℕ))
    → ((test : Access → Bool) → is_access_that test (item_at items n) ≡ false) → AreAfter items n pages words clocks adds accesses stores
    → AreAfter items (suc n) pages words clocks adds accesses stores
after-other items n pages words clocks adds accesses stores none old = record {
  own = λ q l b k. mark-kept items (is_by q) n b (slice_index (row_at clocks q) b) (none (λ a. a.actor == q)) (old.own q l b k);
  added = λ page word p w b k.
      mark-kept items (adds_to page word) n b (slice_index (row_at adds (word_row words page word)) b) (none
      (λ a. is_add a.kind && a.page == page && a.word == word))
      (old.added page word p w b k);
  used = λ page word p w b k.
      last-kept items (uses page word b) n (slice_index (row_at accesses (word_row words page word)) b) (none
      (λ a. a.actor == b && a.page == page && a.word == word))
      (old.used page word p w b k);
  written = λ page word p w b k.
      last-kept items (writes page word b) n (slice_index (row_at stores (word_row words page word)) b)
      (none (λ a. is_write a.kind && a.actor == b && a.page == page && a.word == word)) (old.written page word p w b k);
}

module _ (items : List Item) (n : ℕ) (a : Access) (here : item_at items n ≡ item.Access a) (few : a.actor < MODULES) where
  -- ---- the clock of the access

  pub clocks-alone : (marks : List ℕ) → is_add a.kind ≡ false → AreMarks items (is_by a.actor) n marks → AreClocks items n marks
  clocks-alone marks alone h b l =
      clock-alone items (is_by a.actor) n b (slice_index marks b) (own-lead items n a here) (alone-led items n a here alone) (h b l)

  pub clocks-joined :
      (marks more joined : List ℕ) → is_add a.kind ≡ true → AreMarks items (is_by a.actor) n marks
      → AreMarks items (adds_to a.page a.word) n more
      → ((b : ℕ) → b < MODULES → slice_index joined b ≡ max (slice_index marks b) (slice_index more b)) → AreClocks items n joined
  clocks-joined marks more joined adds h g e b l =
      rw (e b l)
      (clock-joined items (is_by a.actor) (adds_to a.page a.word) n b (slice_index marks b) (slice_index more b)
      (own-lead items n a here) (adds-lead items n a here adds) (add-led items n a here) (h b l) (g b l))

  -- ---- the marks with the access

  module _ (clock : List ℕ) (size : length clock ≡ MODULES) (heard : AreClocks items n clock) where
    known : (test : Item → Bool) → test (item_at items n) ≡ true
        → ((k : ℕ) → k < n → test (item_at items k) ≡ true → is_directly_before items k n ≡ true)
        → AreMarks items test (suc n) (set clock a.actor (suc n))
    known test passes lead b l =
        ⊎_elim
        (λ (own : b ≡ a.actor).
        let is : get_or (set clock a.actor (suc n)) b 0 ≡ suc n = get_or-set_at clock a.actor b (suc n) 0 own (omega arith)
        in rw is (mark-own items test n b passes (λ i below by. own-lead items n a here i below (rw own at by))))
        (λ (other : b ≢ a.actor).
        let is : get_or (set clock a.actor (suc n)) b 0 ≡ get_or clock b 0 = get_or-set_other clock a.actor b (suc n) 0 other
        in rw is (mark-clock items test n b (get_or clock b 0) passes lead (by-other items n a here b other) (heard b l)))
        (equal_or b a.actor)

    -- the actors' own table
    own-step : (clocks : List (List ℕ)) → length clocks ≡ MODULES
        → ((q : ℕ) → q < MODULES → AreMarks items (is_by q) n (row_at clocks q))
        → (q : ℕ) → q < MODULES → AreMarks items (is_by q) (suc n) (row_at (set clocks a.actor (set clock a.actor (suc n))) q)
    own-step clocks rows old q l =
        ⊎_elim
        (λ (own : q ≡ a.actor).
        let is : row_at (set clocks a.actor (set clock a.actor (suc n))) q ≡ set clock a.actor (suc n) =
        get_or-set_at clocks a.actor q (set clock a.actor (suc n)) _ own (omega arith)
        in rw is (subst (λ (q : ℕ). AreMarks items (is_by q) (suc n) (set clock a.actor (suc n))) (sym own) (known (is_by a.actor)
        (by-actor items n a here) (own-lead items n a here))))
        (λ (other : q ≢ a.actor).
        let is : row_at (set clocks a.actor (set clock a.actor (suc n))) q ≡ row_at clocks q =
        get_or-set_other clocks a.actor q (set clock a.actor (suc n)) _ other
        in rw is (λ b k. mark-kept items (is_by q) n b (slice_index (row_at clocks q) b) (by-other items n a here q other) (old q l b k)))
        (equal_or q a.actor)

    -- the table of fetch-and-adds, after one
    added-step : (adds : List (List ℕ)) (pages words : ℕ) → length adds ≡ pages * words → a.page < pages → a.word < words
        → is_add a.kind ≡ true
        → ((page word : ℕ) → page < pages → word < words → AreMarks items (adds_to page word) n (row_at adds (word_row words page word)))
        → (page word : ℕ) → page < pages → word < words
        → AreMarks items (adds_to page word) (suc n) (row_at (set adds (word_row words a.page a.word) (set clock a.actor (suc n)))
        (word_row words page word))
    added-step adds pages words size lp lw is_one old page word p w =
        ⊎_elim
        (λ (same : (page ≡ a.page) × (word ≡ a.word)).
        let at : word_row words page word ≡ word_row words a.page a.word = rw (same.0, same.1) refl
        in let within : word_row words a.page a.word < length adds = let r = row_within pages words a.page a.word lp lw in omega arith
        in let is : row_at (set adds (word_row words a.page a.word) (set clock a.actor (suc n))) (word_row words page word)
        ≡ set clock a.actor (suc n) =
        get_or-set_at adds (word_row words a.page a.word) (word_row words page word) (set clock a.actor (suc n)) _ at within
        in rw is
        (subst (λ (q : ℕ). AreMarks items (adds_to q word) (suc n) (set clock a.actor (suc n))) (sym same.0)
        (subst (λ (q : ℕ). AreMarks items (adds_to a.page q) (suc n) (set clock a.actor (suc n))) (sym same.1)
        (known (adds_to a.page a.word) (rw here (adds-here is_one)) (adds-lead items n a here is_one)))))
        (λ (other : (page ≡ a.page) × (word ≡ a.word) → ⊥).
        let is : row_at (set adds (word_row words a.page a.word) (set clock a.actor (suc n))) (word_row words page word)
        ≡ row_at adds (word_row words page word) =
        get_or-set_other adds (word_row words a.page a.word) (word_row words page word) (set clock a.actor (suc n)) _
        (rows_differ words a.page a.word page word lw w other)
        in rw is
        (λ b k. mark-kept items (adds_to page word) n b (slice_index (row_at adds (word_row words page word)) b) (rw here
        (adds-elsewhere page word other)) (old page word p w b k)))
        (same_or page word)
      where
        same_or : (page word : ℕ) → ((page ≡ a.page) × (word ≡ a.word)) ⊎ ((page ≡ a.page) × (word ≡ a.word) → ⊥)
        same_or page word = grind arith

        adds-here : is_add a.kind ≡ true → adds_to a.page a.word (item.Access a) ≡ true
        adds-here is_one = grind (arith, nat_tests)

        adds-elsewhere : (page word : ℕ) → ((page ≡ a.page) × (word ≡ a.word) → ⊥) → adds_to page word (item.Access a) ≡ false
        adds-elsewhere page word other = grind (arith, nat_tests)

  -- the table of fetch-and-adds, after another access
  added-kept : (adds : List (List ℕ)) (pages words : ℕ) → is_add a.kind ≡ false
      → ((page word : ℕ) → page < pages → word < words → AreMarks items (adds_to page word) n (row_at adds (word_row words page word)))
      → (page word : ℕ) → page < pages → word < words → AreMarks items (adds_to page word) (suc n) (row_at adds (word_row words page word))
  added-kept adds pages words alone old page word p w b k =
      mark-kept items (adds_to page word) n b (slice_index (row_at adds (word_row words page word)) b) (rw here (none page word alone))
      (old page word p w b k)
    where
      none : (page word : ℕ) → is_add a.kind ≡ false → adds_to page word (item.Access a) ≡ false
      none page word alone = grind (arith, nat_tests)

  -- a table of last accesses or writes, whose test this access passes at its own word and actor alone
  lasts-step :
      (test : (page word b : ℕ) → Item → Bool) → test a.page a.word a.actor (item.Access a) ≡ true
      → ((page word b : ℕ) → ((page ≡ a.page) × (word ≡ a.word) × (b ≡ a.actor) → ⊥) → test page word b (item.Access a) ≡ false)
      → (rows : List (List ℕ)) (pages words : ℕ) → length rows ≡ pages * words → a.page < pages → a.word < words
      → length (row_at rows (word_row words a.page a.word)) ≡ MODULES
      → ((page word : ℕ) → page < pages → word < words → AreLasts items (test page word) n (row_at rows (word_row words page word)))
      → (page word : ℕ) → page < pages → word < words
      → AreLasts items (test page word) (suc n)
      (row_at (set rows (word_row words a.page a.word) (set (row_at rows (word_row words a.page a.word)) a.actor (suc n)))
      (word_row words page word))
  lasts-step test passes fails rows pages words size lp lw wide old page word p w b k =
      ⊎_elim
      (λ (same : (page ≡ a.page) × (word ≡ a.word)).
      let at : word_row words page word ≡ word_row words a.page a.word = rw (same.0, same.1) refl
      in let within : word_row words a.page a.word < length rows = let r = row_within pages words a.page a.word lp lw in omega arith
      in let is : row_at (set rows (word_row words a.page a.word) (set (row_at rows (word_row words a.page a.word)) a.actor (suc n)))
      (word_row words page word) ≡ set (row_at rows (word_row words a.page a.word)) a.actor (suc n) =
      get_or-set_at rows (word_row words a.page a.word) (word_row words page word) (set (row_at rows
      (word_row words a.page a.word)) a.actor (suc n)) _ at within
      in rw is (at_word same (rw at at (old page word p w b k))))
      (λ (other : (page ≡ a.page) × (word ≡ a.word) → ⊥).
      let is : row_at (set rows (word_row words a.page a.word) (set (row_at rows (word_row words a.page a.word)) a.actor (suc n)))
      (word_row words page word) ≡ row_at rows (word_row words page word) =
      get_or-set_other rows (word_row words a.page a.word) (word_row words page word) (set (row_at rows
      (word_row words a.page a.word)) a.actor (suc n)) _ (rows_differ words a.page a.word page word lw w other)
      in rw is
      (last-kept items (test page word b) n (slice_index (row_at rows (word_row words page word)) b) (rw here (fails page word b
      (λ e. other (e.0, e.1)))) (old page word p w b k)))
      (same_or page word)
    where
      same_or : (page word : ℕ) → ((page ≡ a.page) × (word ≡ a.word)) ⊎ ((page ≡ a.page) × (word ≡ a.word) → ⊥)
      same_or page word = grind arith

      at_word : (page ≡ a.page) × (word ≡ a.word) → IsLast items (test page word b) n (slice_index (row_at rows
          (word_row words a.page a.word)) b)
          → IsLast items (test page word b) (suc n) (get_or (set (row_at rows (word_row words a.page a.word)) a.actor (suc n)) b 0)
      at_word same h =
          ⊎_elim
          (λ (own : b ≡ a.actor).
          let is : get_or (set (row_at rows (word_row words a.page a.word)) a.actor (suc n)) b 0 ≡ suc n =
          get_or-set_at (row_at rows (word_row words a.page a.word)) a.actor b (suc n) 0 own (omega arith)
          in rw is (last-here items (test page word b) n (rw (here, same.0, same.1, own) passes)))
          (λ (other : b ≢ a.actor).
          let is : get_or (set (row_at rows (word_row words a.page a.word)) a.actor (suc n)) b 0
          ≡ get_or (row_at rows (word_row words a.page a.word)) b 0 =
          get_or-set_other (row_at rows (word_row words a.page a.word)) a.actor b (suc n) 0 other
          in rw is (last-kept items (test page word b) n (slice_index (row_at rows (word_row words a.page a.word)) b) (rw here
          (fails page word b (λ e. other e.2))) h))
          (equal_or b a.actor)

  -- a table of lasts whose test this access does not pass
  lasts-kept :
      (test : (page word b : ℕ) → Item → Bool) → ((page word b : ℕ) → test page word b (item.Access a) ≡ false)
      → (rows : List (List ℕ)) (pages words : ℕ)
      → ((page word : ℕ) → page < pages → word < words → AreLasts items (test page word) n (row_at rows (word_row words page word)))
      → (page word : ℕ) → page < pages → word < words → AreLasts items (test page word) (suc n) (row_at rows (word_row words page word))
  lasts-kept test fails rows pages words old page word p w b k =
      last-kept items (test page word b) n (slice_index (row_at rows (word_row words page word)) b) (rw here (fails page word b))
      (old page word p w b k)

  -- ---- all four tables

  use_here : uses a.page a.word a.actor (item.Access a) ≡ true
  use_here = grind (arith, nat_tests)

  use_elsewhere : (page word b : ℕ) → ((page ≡ a.page) × (word ≡ a.word) × (b ≡ a.actor) → ⊥) → uses page word b (item.Access a) ≡ false
  use_elsewhere page word b other = grind (arith, nat_tests)

  write_here : is_write a.kind ≡ true → writes a.page a.word a.actor (item.Access a) ≡ true
  write_here is_one = grind (arith, nat_tests)

  write_elsewhere : (page word b : ℕ) → ((page ≡ a.page) × (word ≡ a.word) × (b ≡ a.actor) → ⊥) → writes page word b (item.Access a) ≡ false
  write_elsewhere page word b other = grind (arith, nat_tests)

  no_write : is_write a.kind ≡ false → (page word b : ℕ) → writes page word b (item.Access a) ≡ false
  no_write load page word b = grind (arith, nat_tests)

  module _ (clock : List ℕ) (size : length clock ≡ MODULES) (heard : AreClocks items n clock)
      (pages words : ℕ) (clocks adds accesses stores : List (List ℕ)) (fit : FitTables pages words clocks adds accesses stores)
      (lp : a.page < pages) (lw : a.word < words) (old : AreAfter items n pages words clocks adds accesses stores)
      (wide : length (row_at accesses (word_row words a.page a.word)) ≡ MODULES) where
    pub after-load : is_add a.kind ≡ false → is_write a.kind ≡ false
        → AreAfter items (suc n) pages words (set clocks a.actor (set clock a.actor (suc n))) adds
        (set accesses (word_row words a.page a.word) (set (row_at accesses (word_row words a.page a.word)) a.actor (suc n))) stores
    after-load alone load = record {
      own = own-step clock size heard clocks fit.clocks_size old.own;
      added = added-kept adds pages words alone old.added;
      used = lasts-step uses use_here use_elsewhere accesses pages words fit.accesses_size lp lw wide old.used;
      written = lasts-kept writes (no_write load) stores pages words old.written;
    }

    pub after-store : is_add a.kind ≡ false → is_write a.kind ≡ true → length (row_at stores (word_row words a.page a.word)) ≡ MODULES
        → AreAfter items (suc n) pages words (set clocks a.actor (set clock a.actor (suc n))) adds
        (set accesses (word_row words a.page a.word) (set (row_at accesses (word_row words a.page a.word)) a.actor (suc n)))
        (set stores (word_row words a.page a.word) (set (row_at stores (word_row words a.page a.word)) a.actor (suc n)))
    after-store alone write wide2 = record {
      own = own-step clock size heard clocks fit.clocks_size old.own;
      added = added-kept adds pages words alone old.added;
      used = lasts-step uses use_here use_elsewhere accesses pages words fit.accesses_size lp lw wide old.used;
      written = lasts-step writes (write_here write) write_elsewhere stores pages words fit.stores_size lp lw wide2 old.written;
    }

    pub after-add : is_add a.kind ≡ true → is_write a.kind ≡ true → length (row_at stores (word_row words a.page a.word)) ≡ MODULES
        → AreAfter items (suc n) pages words (set clocks a.actor (set clock a.actor (suc n)))
        (set adds (word_row words a.page a.word) (set clock a.actor (suc n)))
        (set accesses (word_row words a.page a.word) (set (row_at accesses (word_row words a.page a.word)) a.actor (suc n)))
        (set stores (word_row words a.page a.word) (set (row_at stores (word_row words a.page a.word)) a.actor (suc n)))
    after-add is_one write wide2 = record {
      own = own-step clock size heard clocks fit.clocks_size old.own;
      added = added-step clock size heard adds pages words fit.adds_size lp lw is_one old.added;
      used = lasts-step uses use_here use_elsewhere accesses pages words fit.accesses_size lp lw wide old.used;
      written = lasts-step writes (write_here write) write_elsewhere stores pages words fit.stores_size lp lw wide2 old.written;
    }
