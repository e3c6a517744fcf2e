-- the greatest numbers of removing changes, against the history
use Rattle.std.proofs.Common.{◌≡◌, ℕ, zero, suc, ◌+◌, ◌<◌, ◌≤◌, max, List, [], ◌∷◌, ◌++◌, length, get_or, set, Bool, true, false, ◌&&◌}
use Rattle.std.proofs.Common.{◌||◌, not, inl, inr, ap, sym, subst, arith}
use Rattle.std.specs.Prelude.{◌==◌, nat_lt}
use Rattle.std.specs.List.{list_any, enumerate_from}
use Rattle.std.proofs.lemmas.Bool.{cases_eq}
use Rattle.std.proofs.lemmas.Bool.Decides.{nat_tests}
use Rattle.std.proofs.lemmas.List.{get_or-set_same, get_or-set_other, length-set}
use Rattle.plat_laws.proofs.ItemLaws.{by_other-change, later-change}
use Rattle.plat_base.specs.Held.{removes_all, removes_writes}
use Rattle.plat_base.specs.declared.items.Change.{Change}
use Rattle.plat_base.specs.declared.items.Item.{Item}
use Rattle.plat_base.specs.declared.items.Item.TheVariants as item
use Rattle.plat_base.specs.declared.items.Removed.{Removed}
use Rattle.plat_base.specs.declared.items.Removed.TheVariants.{Writes, All}
use Rattle.plat_chronicle.specs.declared.removals.Highest.{Highest}
use Rattle.plat_chronicle.specs.Removals.{is_other, is_some_above, no_removal, ShowsHighest, ShowsRemovals}

-- ---- one more number

-- the numbers with that of a change by actor a
abbrev pub raised : List ℕ → (a s : ℕ) → List ℕ
raised highs a s = set highs a (max (get_or highs a 0) s)

other-set : (k a q seq s : ℕ) (highs : List ℕ) → a < length highs
    → list_any (is_other q seq) (enumerate_from k (raised highs a s))
    ≡ list_any (is_other q seq) (enumerate_from k highs) || (not (k + a == q) && nat_lt seq s)
other-set k a q seq s [] h = grind arith
other-set k zero q seq s (x ∷ xs) h = grind (arith, nat_tests)
other-set k (suc a) q seq s (x ∷ xs) h = grind (arith, nat_tests, other-set (k + 1) a q seq s xs)

above-set : (a seq s : ℕ) (highs : List ℕ) → a < length highs
    → is_some_above (raised highs a s) seq ≡ is_some_above highs seq || nat_lt seq s
above-set a seq s [] h = grind arith
above-set zero seq s (x ∷ xs) h = grind (arith, nat_tests)
above-set (suc a) seq s (x ∷ xs) h = grind (arith, nat_tests, above-set a seq s xs)

-- ---- one more change

-- the numbers of its page, where it removes what the test names
pub ShowsHighest-more : (test : Removed → Bool) (items : List Item) (c : Change) (highs : List ℕ)
    → ShowsHighest test items c.page highs → c.actor ≤ 8 → test c.removed ≡ true
    → ShowsHighest test (items ++ item.Change c ∷ []) c.page (raised highs c.actor c.seq)
ShowsHighest-more test items c highs shows actor removes = record {
  size = grind (arith, length-set {A = ℕ}, shows.size);
  others = λ q seq.
      grind (
        arith,
        nat_tests,
        by_other-change test items c q c.page seq,
        other-set 0 c.actor q seq c.seq highs,
        shows.others q seq,
        shows.size,
      );
  above = λ seq. grind (
    arith,
    nat_tests,
    later-change test items c c.page seq,
    above-set c.actor seq c.seq highs,
    shows.above seq,
    shows.size,
  );
}

-- the numbers of another page, or of a change that removes nothing that the test names, stay
pub ShowsHighest-same : (test : Removed → Bool) (items : List Item) (c : Change) (page : ℕ) (highs : List ℕ)
    → ((c.page == page) && test c.removed) ≡ false
    → ShowsHighest test items page highs → ShowsHighest test (items ++ item.Change c ∷ []) page highs
ShowsHighest-same test items c page highs unlike shows = record {
  size = shows.size;
  others = λ q seq. grind (arith, nat_tests, by_other-change test items c q page seq, shows.others q seq);
  above = λ seq. grind (arith, nat_tests, later-change test items c page seq, shows.above seq);
}

-- ---- the numbers of every page

-- what is kept of a page after a change
abbrev pub with_writes : Highest → Change → Highest
with_writes h c = record { all = h.all; writes = raised h.writes c.actor c.seq }

abbrev pub with_all : Highest → Change → Highest
with_all h c = record { all = raised h.all c.actor c.seq; writes = h.writes }

-- of each page but that of a change its numbers, and of that page new ones
module _ (test : Removed → Bool) (part : Highest → List ℕ) (pages : ℕ) (items : List Item) (c : Change) (hs : List Highest) (new : Highest)
    (shows : (page : ℕ) → ShowsHighest test items page (part (get_or hs page no_removal))) (size : length hs ≡ pages)
    (inside : c.page < pages) where
  abbrev now : ℕ → List ℕ
  now page = part (get_or (set hs c.page new) page no_removal)

  pub ShowsHighest-each : ShowsHighest test (items ++ item.Change c ∷ []) c.page (part new) → (page : ℕ) →
      ShowsHighest test (items ++ item.Change c ∷ []) page (now page)
  ShowsHighest-each here page =
      elim (cases_eq page c.page) [
        | inl same ↦
            subst (λ (p : ℕ). ShowsHighest test (items ++ item.Change c ∷ []) p (now p)) (sym same)
            (subst (ShowsHighest test (items ++ item.Change c ∷ []) c.page)
            (sym (ap part (get_or-set_same hs c.page new no_removal (omega arith)))) here)
        | inr differ ↦
            subst (ShowsHighest test (items ++ item.Change c ∷ []) page)
            (sym (ap part (get_or-set_other hs c.page page new no_removal differ)))
            (ShowsHighest-same test items c page (part (get_or hs page no_removal)) (grind (arith, nat_tests)) (shows page))
      ]

-- the kept numbers show the history with one more change
pub ShowsRemovals-writes : (pages : ℕ) (items : List Item) (c : Change) (hs : List Highest) → ShowsRemovals pages items hs
    → c.removed ≡ Writes → c.page < pages → c.actor ≤ 8
    → ShowsRemovals pages (items ++ item.Change c ∷ []) (set hs c.page (with_writes (get_or hs c.page no_removal) c))
ShowsRemovals-writes pages items c hs shows is inside actor =
    let old = get_or hs c.page no_removal in record {
      size = grind (arith, length-set {A = Highest}, shows.size);
      all =
          ShowsHighest-each removes_all (λ h. h.all) pages items c hs (with_writes old c) shows.all shows.size inside
          (ShowsHighest-same removes_all items c c.page old.all (rw is (grind arith)) (shows.all c.page));
      writes =
          ShowsHighest-each removes_writes (λ h. h.writes) pages items c hs (with_writes old c) shows.writes shows.size inside
          (ShowsHighest-more removes_writes items c old.writes (shows.writes c.page) actor (rw is (cc)));
    }

pub ShowsRemovals-all : (pages : ℕ) (items : List Item) (c : Change) (hs : List Highest) → ShowsRemovals pages items hs
    → c.removed ≡ All → c.page < pages → c.actor ≤ 8
    → ShowsRemovals pages (items ++ item.Change c ∷ []) (set hs c.page (with_all (get_or hs c.page no_removal) c))
ShowsRemovals-all pages items c hs shows is inside actor =
    let old = get_or hs c.page no_removal in record {
      size = grind (arith, length-set {A = Highest}, shows.size);
      all =
          ShowsHighest-each removes_all (λ h. h.all) pages items c hs (with_all old c) shows.all shows.size inside
          (ShowsHighest-more removes_all items c old.all (shows.all c.page) actor (rw is (cc)));
      writes =
          ShowsHighest-each removes_writes (λ h. h.writes) pages items c hs (with_all old c) shows.writes shows.size inside
          (ShowsHighest-same removes_writes items c c.page old.writes (rw is (grind arith)) (shows.writes c.page));
    }

-- a change that removes nothing leaves them
pub ShowsRemovals-nothing : (pages : ℕ) (items : List Item) (c : Change) (hs : List Highest) → ShowsRemovals pages items hs
    → removes_all c.removed ≡ false → removes_writes c.removed ≡ false → ShowsRemovals pages (items ++ item.Change c ∷ []) hs
ShowsRemovals-nothing pages items c hs shows all writes = record {
  size = shows.size;
  all = λ page.
      ShowsHighest-same removes_all items c page (get_or hs page no_removal).all (grind (arith, nat_tests)) (shows.all page);
  writes = λ page.
      ShowsHighest-same removes_writes items c page (get_or hs page no_removal).writes (grind (arith, nat_tests)) (shows.writes page);
}
