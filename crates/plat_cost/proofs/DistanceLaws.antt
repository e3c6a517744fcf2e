-- distances are at most 1,000
use Rattle.std.specs.Prelude.{ℕ, ◌*◌, ◌≤◌, ◌==◌, ◌&&◌, Bool, List, [], ◌∷◌, IsTrue, unwrap_or, find}
use Rattle.std.specs.Option.{option_map}
use Rattle.std.specs.List.{list_all}
use Rattle.std.proofs.Common.{arith}
use Rattle.std.proofs.Math.Nat.{mul-le-mul_right}
use Rattle.std.proofs.lemmas.Bool.Decides.{nat_tests}
use Rattle.plat_base.specs.Machine.{Machine, is_machine, is_distance}
use Rattle.plat_base.specs.Pages.{distance}
use Rattle.plat_base.specs.Seen.{machine}
use Rattle.plat_base.specs.declared.configs.Config.{Config}
use Rattle.plat_base.specs.declared.configs.Distance.{Distance}
use Rattle.plat_base.proofs.LimitLemmas.{limits_of, words_most}

line_most :
    (nodes : ℕ) (test : Distance → Bool) (ds : List Distance) → IsTrue (list_all (is_distance nodes) ds)
    → unwrap_or (option_map (λ (d : Distance). d.d) (find test ds)) 1 ≤ 1000
line_most nodes test [] h = omega arith
line_most nodes test (d ∷ ds) h = grind (arith, nat_tests, line_most nodes test ds)

distance_low : (m : Machine) (a b : ℕ) → IsTrue (is_machine m) → distance m a b ≤ 1000
distance_low m a b h =
    let line = line_most m.nodes (λ d. d.a == a && d.b == b) m.distances (limits_of m h).distances in grind (arith, nat_tests, line)

pub distance_most : (cfg : Config) (a b : ℕ) → distance (machine cfg) a b ≤ 1000
distance_most cfg a b = distance_low (machine cfg) a b cfg.limits

-- carrying a page costs at most 64,000
pub carry_most : (cfg : Config) (d : ℕ) → d ≤ 1000 → cfg.words * d ≤ 64000
carry_most cfg d l = let product : cfg.words * d ≤ 64 * d = mul-le-mul_right d (words_most cfg) in omega arith
