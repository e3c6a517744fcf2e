-- the targets of a shootdown, as a search goes past them
use Rattle.std.proofs.Common.{◌≡◌, ℕ, zero, suc, ◌+◌, ◌*◌, ◌<◌, ◌≤◌, true, false, inl, inr, List, [], ◌∷◌, ◌++◌, length, map, drop}
use Rattle.std.proofs.Common.{get_or, Some, None, refl, ap, ◌∙◌, arith}
use Rattle.std.specs.Prelude.{◌==◌, nat_lt, ◌&&◌, not, slice_get}
use Rattle.std.specs.Option.{option_map}
use Rattle.std.specs.List.{flat_map, zip}
use Rattle.std.proofs.lemmas.Option.{slice_get-map, slice_get_within, slice_get-get_or}
use Rattle.std.proofs.lemmas.List.{length-append}
use Rattle.std.proofs.lemmas.List.FromFn.{length-range_with_len}
use Rattle.std.proofs.lemmas.Bool.{cases_lt}
use Rattle.std.proofs.lemmas.Bool.Decides.{nat_tests}
use Rattle.plat_base.specs.Seen.{machine}
use Rattle.plat_base.specs.declared.configs.Config.{Config}
use Rattle.plat_base.proofs.EntryLists.{page_entries_few}
use Rattle.plat_base.proofs.LimitLemmas.{nodes_most}
use Rattle.plat_base.specs.Machine.{Machine}
use Rattle.plat_base.specs.Pages.{numbers, entries_of_page}
use Rattle.plat_events.specs.Words.{has_reference}
use Rattle.plat_events.specs.Shootdowns as events
use Rattle.plat_events.specs.Shootdowns.{targets, targets_of, ask_from, Makes, Done, Asking, no_target}
use Rattle.plat_shoot.specs.Sought.{others}
use Rattle.plat_shoot.proofs.WalkLemmas.{rest_from}
use Rattle.plat_base.proofs.ListLemmas.{slice_get-append, length-filter}

-- the other references of a mask from processor q on
abbrev pub others_from : (nodes actor mask q : ℕ) → List ℕ
others_from nodes actor mask q = rest_from (λ i. has_reference mask i && not (i == actor)) nodes q

-- the targets of the posts from place i on
abbrev pub targets_from : Machine → (actor page : ℕ) → (posts : List ℕ) → (i : ℕ) → List events.Target
targets_from m actor page posts i =
    flat_map (λ (x : ℕ × ℕ). targets_of m actor x.0 x.1) (drop i (zip (entries_of_page m page) posts))

pub get_behind : {T : Type 0} (xs ys : List T) (left at : ℕ) → length xs + left ≡ at → slice_get (xs ++ ys) at ≡ slice_get ys left
get_behind [] ys left at h = ap (λ n. slice_get ys n) (omega arith)
get_behind (x ∷ xs) ys left zero h = absurd (omega arith)
get_behind (x ∷ xs) ys left (suc at) h = get_behind xs ys left at (omega arith)

drop_all : {T : Type 0} (xs : List T) (i : ℕ) → length xs ≤ i → drop i xs ≡ []
drop_all [] zero h = refl
drop_all [] (suc i) h = refl
drop_all (x ∷ xs) zero h = absurd (omega arith)
drop_all (x ∷ xs) (suc i) h = drop_all xs i (omega arith)

pair_at :
    (es ms : List ℕ) (i e mask : ℕ) → i < length es → i < length ms → e ≡ get_or es i 0 → mask ≡ get_or ms i 0 →
    drop i (zip es ms) ≡ (e, mask) ∷ drop (i + 1) (zip es ms)
pair_at [] ms i e mask h k p q = absurd (omega arith)
pair_at (x ∷ es) [] i e mask h k p q = absurd (omega arith)
pair_at (x ∷ es) (y ∷ ms) zero e mask h k p q = rw (p, q) refl
pair_at (x ∷ es) (y ∷ ms) (suc i) e mask h k p q =
    let same : suc (i + 1) ≡ suc i + 1 = omega arith in
    pair_at es ms i e mask (omega arith) (omega arith) p q
    ∙ ap (λ (zs : List (ℕ × ℕ)). (e, mask) ∷ zs) (ap (λ (n : ℕ). drop n ((x, y) ∷ zip es ms)) same)

length-map_targets : (e : ℕ) (qs : List ℕ) → length (map (λ q. let t : events.Target = record { entry = e; processor = q } in t) qs)
    ≡ length qs
length-map_targets e [] = refl
length-map_targets e (q ∷ qs) = ap suc (length-map_targets e qs)

pub length-targets_of : (m : Machine) (actor e mask : ℕ) → length (targets_of m actor e mask) ≡ length (others m.nodes actor mask)
length-targets_of m actor e mask = length-map_targets e (others m.nodes actor mask)

module _ (m : Machine) (actor page : ℕ) (posts : List ℕ) (i : ℕ) where
  pub targets_from-end : length (zip (entries_of_page m page) posts) ≤ i → targets_from m actor page posts i ≡ []
  targets_from-end h =
      ap (λ (xs : List (ℕ × ℕ)). flat_map (λ (x : ℕ × ℕ). targets_of m actor x.0 x.1) xs)
      (drop_all (zip (entries_of_page m page) posts) i h)

  module _ (e mask : ℕ) (here : i < length (entries_of_page m page)) (posted : i < length posts)
      (entry : e ≡ get_or (entries_of_page m page) i 0) (found : mask ≡ get_or posts i 0) where
    targets_from-next : targets_from m actor page posts i ≡ targets_of m actor e mask ++ targets_from m actor page posts (i + 1)
    targets_from-next = rw (pair_at (entries_of_page m page) posts i e mask here posted entry found) refl

    -- the target that is sought stands among those of this entry
    pub target-found :
        (at left q : ℕ) →
        slice_get (targets m actor page posts) at ≡ slice_get (targets_from m actor page posts i) left →
        slice_get (others m.nodes actor mask) left ≡ Some q →
        slice_get (targets m actor page posts) at ≡ Some (record { entry = e; processor = q })
    target-found at left q t f =
        let stands : slice_get (targets_of m actor e mask) left ≡ Some (record { entry = e; processor = q }) =
        slice_get-map (λ q. record { entry = e; processor = q }) (others m.nodes actor mask) left
        ∙ ap (option_map (λ q. record { entry = e; processor = q })) f in
        t ∙ ap (λ (ts : List events.Target). slice_get ts left) targets_from-next
        ∙ slice_get-append (targets_of m actor e mask) (targets_from m actor page posts (i + 1)) left
        (record { entry = e; processor = q }) stands

    -- or behind them
    pub target-left :
        (at left more : ℕ) →
        slice_get (targets m actor page posts) at ≡ slice_get (targets_from m actor page posts i) left →
        length (others m.nodes actor mask) + more ≡ left →
        slice_get (targets m actor page posts) at ≡ slice_get (targets_from m actor page posts (i + 1)) more
    target-left at left more t f =
        t ∙ ap (λ (ts : List events.Target). slice_get ts left) targets_from-next
        ∙ get_behind (targets_of m actor e mask) (targets_from m actor page posts (i + 1)) more left
        (grind (arith, length-map_targets e (others m.nodes actor mask)))

-- ---- how many there are

targets_of-few : (m : Machine) (a e mask : ℕ) → m.nodes ≤ 8 → length (targets_of m a e mask) ≤ 8
targets_of-few m a e mask h =
    omega (
      arith,
      h,
      length-map_targets e (others m.nodes a mask),
      length-filter (λ q. has_reference mask q && not (q == a)) (numbers m.nodes),
      length-range_with_len 0 m.nodes,
    )

flat-few : (m : Machine) (a : ℕ) (xs : List (ℕ × ℕ)) → m.nodes ≤ 8 →
    length (flat_map (λ (x : ℕ × ℕ). targets_of m a x.0 x.1) xs) ≤ 8 * length xs
flat-few m a [] h = omega arith
flat-few m a (x ∷ xs) h =
    omega (
      arith,
      targets_of-few m a x.0 x.1 h,
      flat-few m a xs h,
      length-append (targets_of m a x.0 x.1) (flat_map (λ (x : ℕ × ℕ). targets_of m a x.0 x.1) xs),
    )

zip-few : (es ms : List ℕ) → length (zip es ms) ≤ length es
zip-few [] ms = omega arith
zip-few (e ∷ es) [] = omega arith
zip-few (e ∷ es) (n ∷ ms) = omega (arith, zip-few es ms)

pub targets-few : (cfg : Config) (a page : ℕ) (posts : List ℕ) → length (targets (machine cfg) a page posts) ≤ 4096
targets-few cfg a page posts =
    omega (
      arith,
      flat-few (machine cfg) a (zip (entries_of_page (machine cfg) page) posts) (nodes_most cfg),
      zip-few (entries_of_page (machine cfg) page) posts,
      page_entries_few cfg page,
    )

-- ---- whether one is left

module _ (m : Machine) (a page : ℕ) (posts : List ℕ) (k : ℕ) where
  pub ask_from-some : (t : events.Target) → slice_get (targets m a page posts) k ≡ Some t →
      ask_from m a page posts k ≡ Makes posts (Asking k)
  ask_from-some t h =
      let within : k < length (targets m a page posts) = slice_get_within (targets m a page posts) k t h in
      let is : nat_lt k (length (targets m a page posts)) ≡ true = grind (arith, nat_tests) in rw is refl

  pub ask_from-none : slice_get (targets m a page posts) k ≡ None → ask_from m a page posts k ≡ Done posts
  ask_from-none h =
      elim (cases_lt k (length (targets m a page posts))) [
        | inl within ↦ absurd (cc (slice_get-get_or (targets m a page posts) k no_target within))
        | inr past ↦ (let is : nat_lt k (length (targets m a page posts)) ≡ false = grind (arith, nat_tests) in rw is refl)
      ]

pub ruleset few = (targets-few)
