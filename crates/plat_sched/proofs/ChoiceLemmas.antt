-- who is chosen: nobody where nobody is live, and else somebody who is live
use Rattle.std.proofs.Common.{◌≡◌, ◌≢◌, ℕ, ◌%◌, ◌+◌, ◌<◌, zero, suc, Bool, true, false, List, [], ◌∷◌, length, find, filter, nat_lt}
use Rattle.std.proofs.Common.{if◌then◌else◌, Option, Some, None, refl, ap, sym, ◌∙◌, subst, arith}
use Rattle.std.specs.Prelude.{◌==◌, slice_get}
use Rattle.std.specs.List.{list_any, range_with_len}
use Rattle.std.proofs.lemmas.Bool.Decides.{nat_tests}
use Rattle.std.proofs.lemmas.Nat.Bits.{bit_at-zero}
use Rattle.std.proofs.lemmas.Option.{slice_get_past, slice_get-get_or}
use Rattle.std.proofs.lemmas.Nat.{mod_below}
use Rattle.plat_base.specs.Machine.{Turns, robin, random, listed}
use Rattle.plat_base.specs.Schedule.{Chooser, choose, chosen, robin_choice, listed_choice, listed_or_robin, or_else, random_word}
use Rattle.plat_base.specs.Schedule.{next_random}
use Rattle.plat_sched.specs.Actors.{is_set, actors_of, most_actors}
use Rattle.plat_sched.specs.ScheduleSeen.{actor_chosen}
use Rattle.plat_base.proofs.ChoiceLemmas.{choose-nobody}

-- ---- nobody is live

filter_none : (a n : ℕ) → filter (is_set 0) (range_with_len a n) ≡ []
filter_none a zero = refl
filter_none a (suc n) = grind (arith, nat_tests, bit_at-zero a, filter_none (a + 1) n)

pub no_actors : actors_of 0 ≡ []
unfolding actors_of
no_actors = filter_none 0 most_actors

robin_nobody : (last : Option ℕ) → robin_choice last [] ≡ None
robin_nobody None = slice_get_past [] 0 (omega arith)
robin_nobody (Some a) = slice_get_past [] 0 (omega arith)

-- ---- somebody is live

actor_of_chosen : (left : List ℕ) (seed : ℕ) (o : Option ℕ) → actor_chosen (chosen left seed o) ≡ o
actor_of_chosen left seed None = refl
actor_of_chosen left seed (Some a) = refl

or_else_some : (o : Option ℕ) (a : ℕ) → or_else o (Some a) ≢ None
or_else_some None a = λ e. cc
or_else_some (Some b) a = λ e. cc

robin_somebody : (last : Option ℕ) (live : List ℕ) → 0 < length live → robin_choice last live ≢ None
robin_somebody last [] h = absurd (omega arith)
robin_somebody None (a ∷ live) h = λ e. cc
robin_somebody (Some b) (a ∷ live) h = or_else_some _ a

place_somebody : (live : List ℕ) (i : ℕ) → i < length live → slice_get live i ≢ None
place_somebody live i h = λ e. cc (slice_get-get_or live i 0 h)

listed_somebody : (c : Chooser) (live : List ℕ) (o : Option (ℕ × List ℕ)) → 0 < length live → actor_chosen (listed_or_robin c live o) ≢ None
listed_somebody c live None h = λ e. robin_somebody c.last live h (sym (actor_of_chosen [] c.random (robin_choice c.last live)) ∙ e)
listed_somebody c live (Some x) h = λ e. cc

pub choose_somebody : (t : Turns) (live : List ℕ) (c : Chooser) → 0 < length live → actor_chosen (choose t live c) ≢ None
choose_somebody t [] c h = absurd (omega arith)
choose_somebody robin (a ∷ live) c h =
    λ e. robin_somebody c.last (a ∷ live) h (sym (actor_of_chosen [] c.random _) ∙ e)
choose_somebody (random x y) (a ∷ live) c h =
    λ e. place_somebody (a ∷ live) (random_word c.random % length (a ∷ live)) (mod_below (random_word c.random) (length (a ∷ live)) h)
    (sym (actor_of_chosen [] (next_random y c.random) _) ∙ e)
choose_somebody (listed actors) (a ∷ live) c h = listed_somebody c (a ∷ live) _ h

-- ---- who is chosen is live

slice_get_live : (live : List ℕ) (i a : ℕ) → slice_get live i ≡ Some a → list_any (λ b. b == a) live ≡ true
slice_get_live [] i a e = absurd (cc (slice_get_past {X = ℕ} [] i (omega arith)))
slice_get_live (b ∷ live) zero a e = grind (arith, nat_tests)
slice_get_live (b ∷ live) (suc i) a e = grind (arith, nat_tests, slice_get_live live i a)

find_live : (p : ℕ → Bool) (live : List ℕ) (a : ℕ) → find p live ≡ Some a → list_any (λ b. b == a) live ≡ true
find_live p [] a e = absurd cc
find_live p (b ∷ live) a e = grind (arith, nat_tests, find_live p live a)

or_else_live : (live : List ℕ) (o p : Option ℕ) (a : ℕ) → or_else o p ≡ Some a → (o ≡ Some a → list_any (λ b. b == a) live ≡ true) →
    (p ≡ Some a → list_any (λ b. b == a) live ≡ true) → list_any (λ b. b == a) live ≡ true
or_else_live live None p a e f g = g e
or_else_live live (Some b) p a e f g = f e

robin_live : (last : Option ℕ) (live : List ℕ) (a : ℕ) → robin_choice last live ≡ Some a → list_any (λ b. b == a) live ≡ true
robin_live None live a e = slice_get_live live 0 a e
robin_live (Some b) live a e = or_else_live live _ _ a e (find_live (nat_lt b) live a) (slice_get_live live 0 a)

listed_by_head : (live left : List ℕ) (a : ℕ) (here : Bool) (later : Option (ℕ × List ℕ)) (x : ℕ × List ℕ) →
    list_any (λ b. b == a) live ≡ here → (if here then Some (a, left) else later) ≡ Some x →
    (later ≡ Some x → list_any (λ b. b == x.0) live ≡ true) → list_any (λ b. b == x.0) live ≡ true
listed_by_head live left a true later x h e f =
    let g : a ≡ x.0 = ap (λ (p : ℕ × List ℕ). p.0) (let k : (a, left) ≡ x = cc in k) in
    subst (λ (y : ℕ). list_any (λ b. b == y) live ≡ true) g h
listed_by_head live left a false later x h e f = f e

listed_live : (live left : List ℕ) (x : ℕ × List ℕ) → listed_choice live left ≡ Some x → list_any (λ b. b == x.0) live ≡ true
listed_live live [] x e = absurd cc
listed_live live (a ∷ left) x e =
    listed_by_head live left a (list_any (λ b. b == a) live) (listed_choice live left) x refl e (listed_live live left x)

listed_or_robin_live : (c : Chooser) (live left : List ℕ) (o : Option (ℕ × List ℕ)) (a : ℕ) → listed_choice live left ≡ o →
    actor_chosen (listed_or_robin c live o) ≡ Some a → list_any (λ b. b == a) live ≡ true
listed_or_robin_live c live left None a h e =
    robin_live c.last live a (sym (actor_of_chosen [] c.random (robin_choice c.last live)) ∙ e)
listed_or_robin_live c live left (Some x) a h e =
    let g : x.0 ≡ a = cc in
    subst (λ (y : ℕ). list_any (λ b. b == y) live ≡ true) g (listed_live live left x h)

pub choose_live : (t : Turns) (live : List ℕ) (c : Chooser) (a : ℕ) → actor_chosen (choose t live c) ≡ Some a →
    list_any (λ b. b == a) live ≡ true
choose_live t [] c a e = absurd (cc (ap actor_chosen (choose-nobody t c)))
choose_live robin (b ∷ live) c a e = robin_live c.last (b ∷ live) a (sym (actor_of_chosen [] c.random _) ∙ e)
choose_live (random x y) (b ∷ live) c a e =
    slice_get_live (b ∷ live) _ a (sym (actor_of_chosen [] (next_random y c.random) _) ∙ e)
choose_live (listed actors) (b ∷ live) c a e = listed_or_robin_live c (b ∷ live) c.left _ a refl e
