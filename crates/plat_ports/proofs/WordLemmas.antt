-- the words at the start, one kind after another
use Rattle.std.proofs.Common.{◌≡◌, ℕ, ◌+◌, ◌*◌, ◌≤◌, [], ◌∷◌, ◌++◌, zero-add}
use Rattle.std.proofs.lemmas.List.FromFn.{map-range_with_len_more}
use Rattle.std.proofs.lemmas.Nat.{mul-le}
use Rattle.plat_base.specs.Machine.{Machine}
use Rattle.plat_base.specs.Pages.{program_of}
use Rattle.plat_base.specs.declared.configs.Config.{Config}
use Rattle.plat_ports.specs.Starts.{first_actives}
use Rattle.plat_base.proofs.LimitLemmas.{nodes_most, frames_most, words_most}

-- one more processor's space
pub spaces_more : (m : Machine) (q : ℕ) → first_actives m (q + 1) ≡ first_actives m q ++ ((program_of m q).space + 1) ∷ []
spaces_more m q = map-range_with_len_more (λ k. (program_of m k).space + 1) 0 q q (zero-add q)

-- all frames together have few words
pub data_most : (cfg : Config) → cfg.nodes * cfg.frames * cfg.words ≤ 32768
data_most cfg =
    mul-le (cfg.nodes * cfg.frames) cfg.words 512 64 (mul-le cfg.nodes cfg.frames 8 64 (nodes_most cfg) (frames_most cfg)) (words_most cfg)
