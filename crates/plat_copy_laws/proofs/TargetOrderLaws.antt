-- the targets of a shootdown rise, by entry and then by processor, so none stands twice
use Rattle.std.specs.Prelude.{◌≡◌, ℕ, zero, suc, ◌+◌, ◌<◌, ◌==◌, ◌&&◌, ◌||◌, nat_lt, nat_le, not, Bool, true, false, List, [], ◌∷◌, ◌++◌}
use Rattle.std.specs.Prelude.{map, filter, cond, drop, length, slice_index_or}
use Rattle.std.proofs.Common.{refl, ◌∙◌, arith}
use Rattle.std.specs.List.{list_any, list_all, range_with_len, zip, flat_map}
use Rattle.std.proofs.lemmas.Bool.{and_parts, and_from}
use Rattle.std.proofs.lemmas.Bool.Decides.{nat_tests}
use Rattle.std.proofs.lemmas.List.Folds.{list_all-append}
use Rattle.plat_base.specs.Machine.{Machine}
use Rattle.plat_base.specs.Pages.{page_of}
use Rattle.plat_events.specs.Words.{has_reference}
use Rattle.plat_events.specs.Places.{entry_count}
use Rattle.plat_events.specs.Shootdowns.{Target, targets_of, targets}

abbrev before : Target → Target → Bool
before t u = nat_lt t.entry u.entry || (t.entry == u.entry && nat_lt t.processor u.processor)

-- each target stands before all behind it
abbrev rise : List Target → Bool
rise [] = true
rise (t ∷ ts) = list_all (before t) ts && rise ts

abbrev is_at : (e q : ℕ) → Target → Bool
is_at e q t = t.entry == e && t.processor == q

all-follows : (p q : Target → Bool) → ((t : Target) → p t ≡ true → q t ≡ true) → (ts : List Target) → list_all p ts ≡ true →
    list_all q ts ≡ true
all-follows p q follows [] all = refl
all-follows p q follows (t ∷ ts) all =
    let parts = and_parts (p t) (list_all p ts) all in
    and_from (q t) (list_all q ts) (follows t parts.0) (all-follows p q follows ts parts.1)

-- ---- none stands twice

absent-behind : (t : Target) (n : ℕ) (ts : List Target) → list_all (before t) ts ≡ true →
    list_any (is_at t.entry t.processor) (drop n ts) ≡ false
absent-behind t zero [] all = refl
absent-behind t (suc n) [] all = refl
absent-behind t zero (u ∷ ts) all =
    let parts = and_parts (before t u) (list_all (before t) ts) all in
    neither (is_at t.entry t.processor u) (list_any (is_at t.entry t.processor) ts) (apart parts.0) (absent-behind t zero ts parts.1)
  where
    neither : (b c : Bool) → b ≡ false → c ≡ false → (b || c) ≡ false
    neither false c h k = k
    neither true c h k = absurd cc

    apart : before t u ≡ true → is_at t.entry t.processor u ≡ false
    apart h = grind (arith, nat_tests)
absent-behind t (suc n) (u ∷ ts) all =
    absent-behind t n ts (and_parts (before t u) (list_all (before t) ts) all).1

pub absent-later : (d : Target) (ts : List Target) (k n : ℕ) → rise ts ≡ true → k < n → k < length ts →
    list_any (is_at (slice_index_or ts k d).entry (slice_index_or ts k d).processor) (drop n ts) ≡ false
absent-later d [] k n risen below inside = absurd (omega arith)
absent-later d (t ∷ ts) k zero risen below inside = absurd (omega arith)
absent-later d (t ∷ ts) zero (suc n) risen below inside = absent-behind t n ts (and_parts (list_all (before t) ts) (rise ts) risen).0
absent-later d (t ∷ ts) (suc k) (suc n) risen below inside =
    absent-later d ts k n (and_parts (list_all (before t) ts) (rise ts) risen).1 (omega arith) (omega arith)

-- ---- the targets of one entry

abbrev is_from : (e lo : ℕ) → Target → Bool
is_from e lo t = t.entry == e && nat_le lo t.processor

record RiseFrom (test : Target → Bool) (ts : List Target) : Type 0 where
  risen : rise ts ≡ true
  from : list_all test ts ≡ true

processors-rise : (e lo n : ℕ) (keep : ℕ → Bool) →
    RiseFrom (is_from e lo) (map (λ q. record { entry = e; processor = q }) (filter keep (range_with_len lo n)))
processors-rise e lo zero keep = record { risen = refl; from = refl }
processors-rise e lo (suc n) keep =
    by (keep lo) (map (λ q. record { entry = e; processor = q }) (filter keep (range_with_len (lo + 1) n)))
    (filter keep (range_with_len (lo + 1) n)) refl (processors-rise e (lo + 1) n keep)
  where
    first : Target
    first = record { entry = e; processor = lo }

    later : (t : Target) → is_from e (lo + 1) t ≡ true → is_from e lo t ≡ true
    later t h = grind (arith, nat_tests)

    behind : (t : Target) → is_from e (lo + 1) t ≡ true → before first t ≡ true
    behind t h = grind (arith, nat_tests)

    here : is_from e lo first ≡ true
    here = grind (arith, nat_tests)

    by : (b : Bool) (ts : List Target) (qs : List ℕ) → map (λ q. record { entry = e; processor = q }) qs ≡ ts →
        RiseFrom (is_from e (lo + 1)) ts →
        RiseFrom (is_from e lo) (map (λ q. record { entry = e; processor = q }) (cond b (lo ∷ qs) qs))
    by true ts qs same rest =
        rw same
        (record {
          risen =
              and_from (list_all (before first) ts) (rise ts) (all-follows (is_from e (lo + 1)) (before first) behind ts rest.from)
              rest.risen;
          from =
              and_from (is_from e lo first) (list_all (is_from e lo) ts) here
              (all-follows (is_from e (lo + 1)) (is_from e lo) later ts rest.from);
        })
    by false ts qs same rest =
        rw same (record { risen = rest.risen; from = all-follows (is_from e (lo + 1)) (is_from e lo) later ts rest.from })

-- ---- the targets of all entries

abbrev enters_from : ℕ → Target → Bool
enters_from lo t = nat_le lo t.entry

rise-append : (e : ℕ) (xs ys : List Target) → rise xs ≡ true → list_all (is_from e 0) xs ≡ true → rise ys ≡ true →
    list_all (enters_from (e + 1)) ys ≡ true → rise (xs ++ ys) ≡ true
rise-append e [] ys risen at risen_more from = risen_more
rise-append e (x ∷ xs) ys risen at risen_more from =
    let parts = and_parts (list_all (before x) xs) (rise xs) risen in
    let places = and_parts (is_from e 0 x) (list_all (is_from e 0) xs) at in
    and_from (list_all (before x) (xs ++ ys)) (rise (xs ++ ys))
    (list_all-append (before x) xs ys
    ∙ and_from (list_all (before x) xs) (list_all (before x) ys) parts.0
    (all-follows (enters_from (e + 1)) (before x) (λ t h. behind t h places.0) ys from))
    (rise-append e xs ys parts.1 places.1 risen_more from)
  where
    behind : (t : Target) → enters_from (e + 1) t ≡ true → is_from e 0 x ≡ true → before x t ≡ true
    behind t h at_x = grind (arith, nat_tests)

entries-rise : (m : Machine) (a page lo n : ℕ) (posts : List ℕ) →
    RiseFrom (enters_from lo)
    (flat_map (λ (x : ℕ × ℕ). targets_of m a x.0 x.1) (zip (filter (λ e. page_of m e == page) (range_with_len lo n)) posts))
entries-rise m a page lo zero posts = record { risen = refl; from = refl }
entries-rise m a page lo (suc n) posts =
    by (page_of m lo == page) (filter (λ e. page_of m e == page) (range_with_len (lo + 1) n)) posts (entries-rise m a page (lo + 1) n)
  where
    later : (t : Target) → enters_from (lo + 1) t ≡ true → enters_from lo t ≡ true
    later t h = grind (arith, nat_tests)

    here : (t : Target) → is_from lo 0 t ≡ true → enters_from lo t ≡ true
    here t h = grind (arith, nat_tests)

    all : List ℕ → List ℕ → List Target
    all es ns = flat_map (λ (x : ℕ × ℕ). targets_of m a x.0 x.1) (zip es ns)

    by : (b : Bool) (es ns : List ℕ) →
        ((ks : List ℕ) → RiseFrom (enters_from (lo + 1)) (flat_map (λ (x : ℕ × ℕ). targets_of m a x.0 x.1) (zip es ks))) →
        RiseFrom (enters_from lo) (flat_map (λ (x : ℕ × ℕ). targets_of m a x.0 x.1) (zip (cond b (lo ∷ es) es) ns))
    by true es [] rest = record { risen = refl; from = refl }
    by true es (k ∷ ns) rest =
        let one = processors-rise lo 0 m.nodes (λ q. has_reference k q && not (q == a)) in
        let more = rest ns in
        record {
          risen = rise-append lo (targets_of m a lo k) (all es ns) one.risen one.from more.risen more.from;
          from =
              list_all-append (enters_from lo) (targets_of m a lo k) (all es ns)
              ∙ and_from (list_all (enters_from lo) (targets_of m a lo k)) (list_all (enters_from lo) (all es ns))
              (all-follows (is_from lo 0) (enters_from lo) here (targets_of m a lo k) one.from)
              (all-follows (enters_from (lo + 1)) (enters_from lo) later (all es ns) more.from);
        }
    by false es ns rest =
        let more = rest ns in
        record { risen = more.risen; from = all-follows (enters_from (lo + 1)) (enters_from lo) later (all es ns) more.from }

pub targets-rise : (m : Machine) (a page : ℕ) (posts : List ℕ) → rise (targets m a page posts) ≡ true
targets-rise m a page posts = (entries-rise m a page 0 (entry_count m) posts).risen
