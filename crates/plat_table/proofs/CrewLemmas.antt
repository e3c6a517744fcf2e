-- the actors that seats know
use Rattle.std.proofs.Common.{◌≡◌, ℕ, zero, suc, ◌+◌, ◌<◌, ◌≤◌, ◌≢◌, Bool, true, false, List, [], ◌∷◌, ◌++◌, length, set, take, drop, refl}
use Rattle.std.proofs.Common.{sym, ap, ◌∙◌, subst, arith}
use Rattle.std.specs.Prelude.{◌==◌, if◌then◌else◌, All, Some, slice_get}
use Rattle.std.proofs.lemmas.Bool.Decides.{nat_tests}
use Rattle.std.proofs.lemmas.List.{take-append-drop}
use Rattle.std.proofs.lemmas.List.Elements.{All-nil, All-cons, All-head, All-tail}
use Rattle.std.proofs.lemmas.Option.{same_Some}
use mathlib.Core.Option.{some, some-injective, some-ne-none}
use lib.ListN.{get_elem?}
use Rattle.plat_events.specs.Privates.{Private}
use Rattle.plat_table.specs.Rule.{Held, times, times_in, IsStateIn, AreStatesIn}

-- ---- places of lists

pub All-at : {X : Type 0} (P : X → Type 0) (xs : List X) (i : ℕ) (x : X) → All P xs → get_elem? xs i ≡ some x → P x
All-at P [] i x h e = absurd (some-ne-none x (sym e))
All-at P (y ∷ ys) zero x h e = subst P (some-injective y x e) (All-head P y ys h)
All-at P (y ∷ ys) (suc i) x h e = All-at P ys i x (All-tail P y ys h) e

pub All-get : {X : Type 0} (P : X → Type 0) (xs : List X) (i : ℕ) (x : X) → All P xs → slice_get xs i ≡ Some x → P x
All-get P [] i x h e = absurd cc
All-get P (y ∷ ys) zero x h e = subst P (same_Some y x e) (All-head P y ys h)
All-get P (y ∷ ys) (suc i) x h e = All-get P ys i x (All-tail P y ys h) e

pub get-set_same : {X : Type 0} (xs : List X) (i : ℕ) (x : X) → i < length xs → slice_get (set xs i x) i ≡ Some x
get-set_same [] i x h = absurd (omega arith)
get-set_same (y ∷ ys) zero x h = refl
get-set_same (y ∷ ys) (suc i) x h = get-set_same ys i x (omega arith)

pub get-set_other : {X : Type 0} (xs : List X) (i j : ℕ) (x : X) → j ≢ i → slice_get (set xs i x) j ≡ slice_get xs j
get-set_other [] i j x n = refl
get-set_other (y ∷ ys) zero zero x n = absurd (n refl)
get-set_other (y ∷ ys) zero (suc j) x n = refl
get-set_other (y ∷ ys) (suc i) zero x n = refl
get-set_other (y ∷ ys) (suc i) (suc j) x n = get-set_other ys i j x (λ e. n (ap suc e))

-- ---- how often an actor is there

abbrev once_if : Bool → ℕ
once_if b = if b then 1 else 0

pub times-append : (b : ℕ) (xs ys : List Held) → times b (xs ++ ys) ≡ times b xs + times b ys
times-append b [] ys = omega arith
times-append b (x ∷ xs) ys = omega (arith, times-append b xs ys)

pub times-halves : (b k : ℕ) (crew : List Held) → times b (take k crew) + times b (drop k crew) ≡ times b crew
times-halves b k crew = sym (times-append b (take k crew) (drop k crew)) ∙ ap (times b) (take-append-drop k crew)

pub times-set :
    (b : ℕ) (crew : List Held) (at : ℕ) (h : Held) (p : Private) → slice_get crew at ≡ Some h → times b
    (set crew at (h.0, p)) ≡ times b crew
times-set b [] at h p e = absurd cc
times-set b (g ∷ gs) zero h p e = ap (λ (k : Held). once_if (k.0 == b) + times b gs) (sym (same_Some g h e))
times-set b (g ∷ gs) (suc at) h p e = ap (λ k. once_if (g.0 == b) + k) (times-set b gs at h p e)

here-once : (a : ℕ) → once_if (a == a) ≡ 1
here-once a = grind (arith, nat_tests)

pub times-least : (crew : List Held) (at : ℕ) (h : Held) → slice_get crew at ≡ Some h → 1 ≤ times h.0 crew
times-least [] at h e = absurd cc
times-least (g ∷ gs) zero h e =
    let here : once_if (g.0 == h.0) ≡ 1 = ap (λ (k : Held). once_if (k.0 == h.0)) (same_Some g h e) ∙ here-once h.0 in omega (arith, here)
times-least (g ∷ gs) (suc at) h e = omega (arith, times-least gs at h e)

pub times_in-set :
    (b : ℕ) (vs : List (List Held)) (i : ℕ) (v w : List Held) → get_elem? vs i ≡ some v
    → times_in b (set vs i w) + times b v ≡ times_in b vs + times b w
times_in-set b [] i v w e = absurd (some-ne-none v (sym e))
times_in-set b (x ∷ xs) zero v w e = let same : times b x ≡ times b v = ap (times b) (some-injective x v e) in omega (arith, same)
times_in-set b (x ∷ xs) (suc i) v w e = omega (arith, times_in-set b xs i v w e)

pub times_in-more : (b : ℕ) (vs : List (List Held)) (w : List Held) → times_in b (vs ++ w ∷ []) ≡ times_in b vs + times b w
times_in-more b [] w = omega arith
times_in-more b (x ∷ xs) w = omega (arith, times_in-more b xs w)

times_in-least : (b : ℕ) (vs : List (List Held)) (i : ℕ) (v : List Held) → get_elem? vs i ≡ some v → times b v ≤ times_in b vs
times_in-least b [] i v e = absurd (some-ne-none v (sym e))
times_in-least b (x ∷ xs) zero v e = let same : times b x ≡ times b v = ap (times b) (some-injective x v e) in omega (arith, same)
times_in-least b (x ∷ xs) (suc i) v e = omega (arith, times_in-least b xs i v e)

-- ---- what is known of the others stays, where one private state is changed

not-once : (b : Bool) (n : ℕ) → once_if b + n ≡ 0 → (b ≡ false) × (n ≡ 0)
not-once true n e = absurd (omega arith)
not-once false n e = (refl, omega arith)

is-other : (a b : ℕ) → (a == b) ≡ false → a ≢ b
is-other a b e = λ s. grind (arith, nat_tests)

known-else :
    (privates : List Private) (a : ℕ) (q : Private) (crew : List Held) → AreStatesIn privates crew → times a crew ≡ 0
    → AreStatesIn (set privates a q) crew
known-else privates a q [] k t = All-nil (IsStateIn (set privates a q))
known-else privates a q (h ∷ hs) k t =
    let none = not-once (h.0 == a) (times a hs) t in
    All-cons (IsStateIn (set privates a q)) h hs
    (get-set_other privates a h.0 q (is-other h.0 a none.0) ∙ All-head (IsStateIn privates) h hs k)
    (known-else privates a q hs (All-tail (IsStateIn privates) h hs k) none.1)

-- and the changed one is known
known-here :
    (privates : List Private) (q : Private) (crew : List Held) (at : ℕ) (h : Held) → h.0 < length privates → AreStatesIn privates crew
    → slice_get crew at ≡ Some h → times h.0 crew ≤ 1 → AreStatesIn (set privates h.0 q) (set crew at (h.0, q))
known-here privates q [] at h l k e t = absurd cc
known-here privates q (g ∷ gs) zero h l k e t =
    let here : once_if (g.0 == h.0) ≡ 1 = ap (λ (k : Held). once_if (k.0 == h.0)) (same_Some g h e) ∙ here-once h.0 in
    All-cons (IsStateIn (set privates h.0 q)) (h.0, q) gs
    (get-set_same privates h.0 q l)
    (known-else privates h.0 q gs (All-tail (IsStateIn privates) g gs k) (omega (arith, here, t)))
known-here privates q (g ∷ gs) (suc at) h l k e t =
    let least = times-least gs at h e in
    let none = not-once (g.0 == h.0) 0 (omega (arith, least, t)) in
    All-cons (IsStateIn (set privates h.0 q)) g (set gs at (h.0, q))
    (get-set_other privates h.0 g.0 q (is-other g.0 h.0 none.0) ∙ All-head (IsStateIn privates) g gs k)
    (known-here privates q gs at h l (All-tail (IsStateIn privates) g gs k) e (omega (arith, t)))

crews-else :
    (privates : List Private) (a : ℕ) (q : Private) (crews : List (List Held)) → All (AreStatesIn privates) crews → times_in a crews ≡ 0
    → All (AreStatesIn (set privates a q)) crews
crews-else privates a q [] k t = All-nil (AreStatesIn (set privates a q))
crews-else privates a q (v ∷ vs) k t =
    All-cons (AreStatesIn (set privates a q)) v vs
    (known-else privates a q v (All-head (AreStatesIn privates) v vs k) (omega (arith, t)))
    (crews-else privates a q vs (All-tail (AreStatesIn privates) v vs k) (omega (arith, t)))

pub crews-here :
    (privates : List Private) (q : Private) (crews : List (List Held)) (id : ℕ) (crew : List Held) (at : ℕ) (h : Held)
    → h.0 < length privates → All (AreStatesIn privates) crews → get_elem? crews id ≡ some crew → slice_get crew at ≡ Some h
    → times_in h.0 crews ≤ 1 → All (AreStatesIn (set privates h.0 q)) (set crews id (set crew at (h.0, q)))
crews-here privates q [] id crew at h l k c e t = absurd (some-ne-none crew (sym c))
crews-here privates q (v ∷ vs) zero crew at h l k c e t =
    let same : v ≡ crew = some-injective v crew c in
    let there : slice_get v at ≡ Some h = ap (λ (hs : List Held). slice_get hs at) same ∙ e in
    let least = times-least v at h there in
    All-cons (AreStatesIn (set privates h.0 q)) (set crew at (h.0, q)) vs
    (subst (λ (hs : List Held). AreStatesIn (set privates h.0 q) (set hs at (h.0, q))) same
    (known-here privates q v at h l (All-head (AreStatesIn privates) v vs k) there (omega (arith, t))))
    (crews-else privates h.0 q vs (All-tail (AreStatesIn privates) v vs k) (omega (arith, t, least)))
crews-here privates q (v ∷ vs) (suc id) crew at h l k c e t =
    let least = times-least crew at h e in
    let most = times_in-least h.0 vs id crew c in
    All-cons (AreStatesIn (set privates h.0 q)) v (set vs id (set crew at (h.0, q)))
    (known-else privates h.0 q v (All-head (AreStatesIn privates) v vs k) (omega (arith, t, least, most)))
    (crews-here privates q vs id crew at h l (All-tail (AreStatesIn privates) v vs k) c e (omega (arith, t)))
