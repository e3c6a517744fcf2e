-- a post that is made keeps the invariant at the entry that it is made to
use Rattle.std.specs.Prelude.{◌≡◌, ℕ, zero, suc, ◌+◌, ◌<◌, ◌≤◌, ◌==◌, ◌&&◌, ◌||◌, Bool, true, false, List, ◌∷◌, length, take, filter, cond}
use Rattle.std.specs.Prelude.{slice_index}
use Rattle.std.proofs.Common.{refl, ap, ◌∙◌, arith}
use Rattle.std.specs.List.{list_any, range_with_len}
use Rattle.std.proofs.lemmas.Bool.{ne_eqb}
use Rattle.plat_base.specs.Machine.{Machine}
use Rattle.plat_base.specs.Messages.{removes_some}
use Rattle.plat_base.specs.Pages.{page_of, entries_of_page}
use Rattle.plat_base.specs.declared.items.Removed.{Removed}
use Rattle.plat_events.specs.Places.{entry_count}
use Rattle.plat_events.specs.Shootdowns.{entry_posted}
use Rattle.plat_shootdown_laws.proofs.ShotPairLaws.{posted_by}

-- ---- the entries of a page are each another

entry-low : (m : Machine) (page lo n k : ℕ) → k < length (filter (λ e. page_of m e == page) (range_with_len lo n)) →
    lo ≤ slice_index (filter (λ e. page_of m e == page) (range_with_len lo n)) k
entry-low m page lo zero k inside = absurd (omega arith)
entry-low m page lo (suc n) k inside =
    by (page_of m lo == page) (filter (λ e. page_of m e == page) (range_with_len (lo + 1) n)) k inside
    (λ j below. entry-low m page (lo + 1) n j below)
  where
    by : (b : Bool) (later : List ℕ) (j : ℕ) → j < length (cond b (lo ∷ later) later) →
        ((i : ℕ) → i < length later → lo + 1 ≤ slice_index later i) → lo ≤ slice_index (cond b (lo ∷ later) later) j
    by true later zero inside rest = omega arith
    by true later (suc j) inside rest = let least = rest j (omega arith) in omega (arith, least)
    by false later j inside rest = let least = rest j inside in omega (arith, least)

none-before : (m : Machine) (page lo n k : ℕ) → k < length (filter (λ e. page_of m e == page) (range_with_len lo n)) →
    list_any (λ y. y == slice_index (filter (λ e. page_of m e == page) (range_with_len lo n)) k)
    (take k (filter (λ e. page_of m e == page) (range_with_len lo n))) ≡ false
none-before m page lo zero k inside = absurd (omega arith)
none-before m page lo (suc n) k inside =
    by (page_of m lo == page) (filter (λ e. page_of m e == page) (range_with_len (lo + 1) n)) k inside
    (λ j below. entry-low m page (lo + 1) n j below) (λ j below. none-before m page (lo + 1) n j below)
  where
    by : (b : Bool) (later : List ℕ) (j : ℕ) → j < length (cond b (lo ∷ later) later) →
        ((i : ℕ) → i < length later → lo + 1 ≤ slice_index later i) →
        ((i : ℕ) → i < length later → list_any (λ y. y == slice_index later i) (take i later) ≡ false) →
        list_any (λ y. y == slice_index (cond b (lo ∷ later) later) j) (take j (cond b (lo ∷ later) later)) ≡ false
    by true later zero inside low rest = refl
    by true later (suc j) inside low rest =
        let least = low j (omega arith) in
        let apart : (lo == slice_index later j) ≡ false = ne_eqb lo (slice_index later j) (omega (arith, least)) in
        ap (λ c. c || list_any (λ y. y == slice_index later j) (take j later)) apart ∙ rest j (omega arith)
    by false later j inside low rest = rest j inside

-- the entry that is next was not posted to
pub next-unposted : (m : Machine) (page : ℕ) (rem : Removed) (posts : List ℕ) → length posts < length (entries_of_page m page) →
    posted_by m page rem posts (entry_posted m page posts) ≡ false
next-unposted m page rem posts inside =
    ap (λ c. removes_some rem && c) (none-before m page 0 (entry_count m) (length posts) inside) ∙ by (removes_some rem)
  where
    by : (b : Bool) → (b && false) ≡ false
    by true = refl
    by false = refl
