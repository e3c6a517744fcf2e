-- the riders of this crate's test
use Rattle.std.proofs.Common.{◌≡◌, ℕ, true, false, List, [], ◌∷◌, ◌++◌, length, map, take, drop, refl, ap, ◌∙◌}
use Rattle.std.proofs.lemmas.List.{map-append}
use Rattle.std.specs.Prelude.{All}
use Rattle.std.proofs.lemmas.List.Elements.{All-nil, All-cons}
use Rattle.std.proofs.lemmas.Bool.{not-false}
use Rattle.plat_events.specs.Privates.{actor_count, is_over}
use Rattle.plat_table.specs.Riders.{is_live_at, numbers_of}
use Rattle.plat_base.specs.Machine.{Machine}
use Rattle.plat_base.specs.Pages.{numbers}
use Rattle.plat_table.specs.Rule.{Held, held_first, kept_of}
use Rattle.plat_samples.specs.Samples.{adding}

pub one_there : (crew : List Held) (a : ℕ) → numbers_of crew ≡ a ∷ [] → length crew ≡ 1
one_there [] a e = absurd cc
one_there (g ∷ []) a e = refl
one_there (g ∷ h ∷ more) a e = absurd cc

pub two_there : (crew : List Held) (a b : ℕ) → numbers_of crew ≡ a ∷ b ∷ [] → length crew ≡ 2
two_there [] a b e = absurd cc
two_there (g ∷ []) a b e = absurd cc
two_there (g ∷ h ∷ []) a b e = refl
two_there (g ∷ h ∷ k ∷ more) a b e = absurd cc

pub joined :
    (xs ys zs : List Held) (a b : ℕ) → numbers_of xs ≡ a ∷ [] → numbers_of ys ≡ b ∷ [] → zs ≡ xs ++ ys → numbers_of zs ≡ a ∷ b ∷ []
joined xs ys zs a b e f g =
    ap numbers_of g ∙ map-append (λ (h : Held). h.0) xs ys ∙ ap (λ ns. ns ++ numbers_of ys) e ∙ ap (λ ns. a ∷ ns) f

pub both_over :
    (crew : List Held) (a b : ℕ) → numbers_of crew ≡ a ∷ b ∷ [] → is_live_at crew 0 ≡ false → is_live_at crew 1 ≡ false
    → All (λ (h : Held). is_over h.1.place ≡ true) crew
both_over [] a b e zero_over one_over = absurd cc
both_over (g ∷ []) a b e zero_over one_over = absurd cc
both_over (g ∷ h ∷ []) a b e zero_over one_over =
    All-cons (λ (k : Held). is_over k.1.place ≡ true) g (h ∷ []) (not-false (is_over g.1.place) zero_over)
    (All-cons (λ (k : Held). is_over k.1.place ≡ true) h [] (not-false (is_over h.1.place) one_over)
    (All-nil (λ (k : Held). is_over k.1.place ≡ true)))
both_over (g ∷ h ∷ k ∷ more) a b e zero_over one_over = absurd cc

-- both halves of the first rider
pub first_half :
    (m : Machine) (crew low : List Held) → m ≡ adding → crew ≡ map (held_first m) (numbers (actor_count m))
    → low ≡ take (kept_of crew) crew → numbers_of low ≡ 0 ∷ []
first_half m crew low is all half =
    ap numbers_of half ∙ ap (λ (c : List Held). numbers_of (take (kept_of c) c)) all
    ∙ ap (λ (n : Machine). numbers_of (take (kept_of (map (held_first n) (numbers (actor_count n))))
    (map (held_first n) (numbers (actor_count n))))) is

pub second_half :
    (m : Machine) (crew high : List Held) → m ≡ adding → crew ≡ map (held_first m) (numbers (actor_count m))
    → high ≡ drop (kept_of crew) crew → numbers_of high ≡ 1 ∷ []
second_half m crew high is all half =
    ap numbers_of half ∙ ap (λ (c : List Held). numbers_of (drop (kept_of c) c)) all
    ∙ ap (λ (n : Machine). numbers_of (drop (kept_of (map (held_first n) (numbers (actor_count n))))
    (map (held_first n) (numbers (actor_count n))))) is
