-- the targets of a shootdown, and the entries that it has posted to
use Rattle.std.specs.Prelude.{◌≡◌, ℕ, zero, suc, ◌+◌, ◌<◌, ◌≤◌, ◌==◌, ◌&&◌, ◌||◌, nat_lt, not, Bool, true, false, List, [], ◌∷◌, ◌++◌, map}
use Rattle.std.specs.Prelude.{length, take, drop, filter, cond, slice_index, slice_index_or}
use Rattle.std.proofs.Common.{refl, ap, sym, ◌∙◌, arith}
use Rattle.std.specs.List.{list_any, list_all, range_with_len, zip, flat_map}
use Rattle.std.proofs.lemmas.Bool.{and_parts, eqb-true, and_from, ltb-true}
use Rattle.std.proofs.lemmas.Bool.Decides.{nat_tests}
use Rattle.std.proofs.lemmas.List.{take_more}
use Rattle.std.proofs.lemmas.List.Folds.{list_any-append}
use Rattle.plat_base.specs.Machine.{Machine}
use Rattle.plat_base.specs.Pages.{page_of, entries_of_page}
use Rattle.plat_events.specs.Words.{has_reference}
use Rattle.plat_events.specs.Places.{entry_count}
use Rattle.plat_events.specs.Shootdowns.{Target, targets_of, targets, target_at}
use Rattle.plat_frame_laws.proofs.StartPhaseLaws.{targets-none}
use Rattle.plat_base.proofs.ListLemmas.{list_any-push}

-- ---- one more of a list

pub any-take_more :
    (test : ℕ → Bool) (k : ℕ) (es : List ℕ) → k < length es →
    list_any test (take (k + 1) es) ≡ (list_any test (take k es) || test (slice_index es k))
any-take_more test k es inside =
    ap (list_any test) (take_more es k 0 inside) ∙ list_any-push test (take k es) (slice_index es k)

pub any-drop_more :
    (test : Target → Bool) (d : Target) (k : ℕ) (ts : List Target) → k < length ts →
    list_any test (drop k ts) ≡ (test (slice_index_or ts k d) || list_any test (drop (k + 1) ts))
any-drop_more test d k [] inside = absurd (omega arith)
any-drop_more test d zero (t ∷ ts) inside = refl
any-drop_more test d (suc k) (t ∷ ts) inside =
    let number : suc k + 1 ≡ suc (k + 1) = omega arith in
    any-drop_more test d k ts (omega arith) ∙ ap (λ n. test (slice_index_or ts k d) || list_any test (drop n (t ∷ ts))) (sym number)

-- what holds of each of a list holds of the one at a place
pub all-at : {A : Type 0} (test : A → Bool) (d : A) (k : ℕ) (xs : List A) → list_all test xs ≡ true → k < length xs →
    test (slice_index_or xs k d) ≡ true
all-at test d k [] all inside = absurd (omega arith)
all-at test d zero (x ∷ xs) all inside = (and_parts (test x) (list_all test xs) all).0
all-at test d (suc k) (x ∷ xs) all inside = all-at test d k xs (and_parts (test x) (list_all test xs) all).1 (omega arith)

all-append : {A : Type 0} (test : A → Bool) (xs ys : List A) → list_all test xs ≡ true → list_all test ys ≡ true →
    list_all test (xs ++ ys) ≡ true
all-append test [] ys h k = k
all-append test (x ∷ xs) ys h k =
    let parts = and_parts (test x) (list_all test xs) h in
    and_from (test x) (list_all test (xs ++ ys)) parts.0 (all-append test xs ys parts.1 k)

-- ---- targets

-- a test of processors and entries that each of the machine and the page passes
module _ (m : Machine) (a page : ℕ) (test : Target → Bool)
    (passes : (e q : ℕ) → e < entry_count m → page_of m e ≡ page → q < m.nodes → test (record { entry = e; processor = q }) ≡ true) where
  all-processors : (e lo n : ℕ) (keep : ℕ → Bool) → e < entry_count m → page_of m e ≡ page → lo + n ≤ m.nodes →
      list_all test (map (λ q. record { entry = e; processor = q }) (filter keep (range_with_len lo n))) ≡ true
  all-processors e lo zero keep below is most = refl
  all-processors e lo (suc n) keep below is most =
      by (keep lo) (filter keep (range_with_len (lo + 1) n)) (passes e lo below is (omega arith))
      (all-processors e (lo + 1) n keep below is (omega arith))
    where
      by : (b : Bool) (qs : List ℕ) → test (record { entry = e; processor = lo }) ≡ true →
          list_all test (map (λ q. record { entry = e; processor = q }) qs) ≡ true →
          list_all test (map (λ q. record { entry = e; processor = q }) (cond b (lo ∷ qs) qs)) ≡ true
      by true qs first rest =
          and_from (test (record { entry = e; processor = lo })) (list_all test (map (λ q. record { entry = e; processor = q }) qs)) first
          rest
      by false qs first rest = rest

  all-entries : (lo n : ℕ) (posts : List ℕ) → lo + n ≤ entry_count m →
      list_all test (flat_map (λ (x : ℕ × ℕ). targets_of m a x.0 x.1)
      (zip (filter (λ e. page_of m e == page) (range_with_len lo n)) posts)) ≡ true
  all-entries lo zero posts most = refl
  all-entries lo (suc n) posts most =
      by (page_of m lo == page) refl (filter (λ e. page_of m e == page) (range_with_len (lo + 1) n)) posts
      (λ ns. all-entries (lo + 1) n ns (omega arith))
    where
      by : (b : Bool) → (page_of m lo == page) ≡ b → (later ns : List ℕ) →
          ((ks : List ℕ) → list_all test (flat_map (λ (x : ℕ × ℕ). targets_of m a x.0 x.1) (zip later ks)) ≡ true) →
          list_all test (flat_map (λ (x : ℕ × ℕ). targets_of m a x.0 x.1) (zip (cond b (lo ∷ later) later) ns)) ≡ true
      by true is later [] rest = refl
      by true is later (k ∷ ns) rest =
          all-append test (targets_of m a lo k) (flat_map (λ (x : ℕ × ℕ). targets_of m a x.0 x.1) (zip later ns))
          (all-processors lo 0 m.nodes (λ q. has_reference k q && not (q == a)) (omega arith) (eqb-true (page_of m lo) page is) (omega
          arith))
          (rest ns)
      by false is later ns rest = rest ns

  pub all-targets : (posts : List ℕ) → list_all test (targets m a page posts) ≡ true
  all-targets posts = all-entries 0 (entry_count m) posts (omega arith)

-- a target is a processor of the machine and an entry of the page
pub record TargetIs (m : Machine) (page : ℕ) (t : Target) : Type 0 where
  pub processor : t.processor < m.nodes
  pub entry : t.entry < entry_count m
  pub of_page : page_of m t.entry ≡ page

abbrev is_target_of : Machine → (page : ℕ) → Target → Bool
is_target_of m page t = nat_lt t.processor m.nodes && nat_lt t.entry (entry_count m) && (page_of m t.entry == page)

pub target-is : (m : Machine) (a page : ℕ) (posts : List ℕ) (k : ℕ) → k < length (targets m a page posts) →
    TargetIs m page (target_at m a page posts k)
target-is m a page posts k inside =
    let t = target_at m a page posts k in
    let all = all-targets m a page (is_target_of m page) (λ e q below is node. grind (arith, nat_tests)) posts in
    let here : is_target_of m page t ≡ true = all-at (is_target_of m page) (record { entry = 0; processor = 0 }) k (targets m a page posts)
    all inside in
    let parts = and_parts (nat_lt t.processor m.nodes && nat_lt t.entry (entry_count m)) (page_of m t.entry == page) here in
    let first = and_parts (nat_lt t.processor m.nodes) (nat_lt t.entry (entry_count m)) parts.0 in
    record {
      processor = ltb-true t.processor m.nodes first.0;
      entry = ltb-true t.entry (entry_count m) first.1;
      of_page = eqb-true (page_of m t.entry) page parts.1;
    }

-- an entry that is next to be posted to is one of the page
pub record EntryIs (m : Machine) (page e : ℕ) : Type 0 where
  pub below : e < entry_count m
  pub of_page : page_of m e ≡ page

entry-at : (m : Machine) (page lo n k : ℕ) → lo + n ≤ entry_count m →
    k < length (filter (λ e. page_of m e == page) (range_with_len lo n)) →
    EntryIs m page (slice_index (filter (λ e. page_of m e == page) (range_with_len lo n)) k)
entry-at m page lo zero k most inside = absurd (omega arith)
entry-at m page lo (suc n) k most inside =
    by (page_of m lo == page) refl (filter (λ e. page_of m e == page) (range_with_len (lo + 1) n)) k inside
    (λ j below. entry-at m page (lo + 1) n j (omega arith) below)
  where
    by : (b : Bool) → (page_of m lo == page) ≡ b → (later : List ℕ) (j : ℕ) → j < length (cond b (lo ∷ later) later) →
        ((i : ℕ) → i < length later → EntryIs m page (slice_index later i)) → EntryIs m page (slice_index (cond b (lo ∷ later) later) j)
    by true is later zero inside rest = record { below = omega arith; of_page = eqb-true (page_of m lo) page is }
    by true is later (suc j) inside rest = rest j (omega arith)
    by false is later j inside rest = rest j inside

pub entry-is : (m : Machine) (page k : ℕ) → k < length (entries_of_page m page) →
    EntryIs m page (slice_index (entries_of_page m page) k)
entry-is m page k inside = entry-at m page 0 (entry_count m) k (omega arith) inside

-- ---- one more post

pub targets-more :
    (m : Machine) (a n : ℕ) (es posts : List ℕ) → length posts < length es →
    flat_map (λ (x : ℕ × ℕ). targets_of m a x.0 x.1) (zip es (posts ++ n ∷ []))
    ≡ flat_map (λ (x : ℕ × ℕ). targets_of m a x.0 x.1) (zip es posts) ++ targets_of m a (slice_index es (length posts)) n
targets-more m a n [] posts inside = absurd (omega arith)
targets-more m a n (e ∷ es) [] inside = ap (λ l. targets_of m a e n ++ l) (targets-none m a es) ∙ append-nil (targets_of m a e n)
  where
    append-nil : (ts : List Target) → ts ++ [] ≡ ts
    append-nil [] = refl
    append-nil (t ∷ ts) = ap (λ l. t ∷ l) (append-nil ts)
targets-more m a n (e ∷ es) (k ∷ posts) inside =
    ap (λ l. targets_of m a e k ++ l) (targets-more m a n es posts (omega arith))
    ∙ assoc (targets_of m a e k) (flat_map (λ (x : ℕ × ℕ). targets_of m a x.0 x.1) (zip es posts))
    (targets_of m a (slice_index es (length posts)) n)
  where
    assoc : (xs ys zs : List Target) → xs ++ (ys ++ zs) ≡ (xs ++ ys) ++ zs
    assoc [] ys zs = refl
    assoc (x ∷ xs) ys zs = ap (λ l. x ∷ l) (assoc xs ys zs)

-- a target of the posts so far is one of more posts
pub any-targets_more :
    (m : Machine) (a n : ℕ) (test : Target → Bool) (es posts : List ℕ) → length posts < length es →
    list_any test (flat_map (λ (x : ℕ × ℕ). targets_of m a x.0 x.1) (zip es (posts ++ n ∷ [])))
    ≡ (list_any test (flat_map (λ (x : ℕ × ℕ). targets_of m a x.0 x.1) (zip es posts))
    || list_any test (targets_of m a (slice_index es (length posts)) n))
any-targets_more m a n test es posts inside =
    ap (list_any test) (targets-more m a n es posts inside)
    ∙ list_any-append test (flat_map (λ (x : ℕ × ℕ). targets_of m a x.0 x.1) (zip es posts)) (targets_of m a (slice_index es (length
    posts)) n)
