use Rattle.std.proofs.Common.{◌≡◌, List, ℕ, true, take, Bor}
use Rattle.std.specs.List.{list_all}
use Rattle.plat_cmd.specs.Arguments.{is_plain}
use Rattle.plat_cmd.proofs.arguments.all_plain.Given as goal

abbrev pub invariant-loop-word : goal.invariant-loop-word
invariant-loop-word l = list_all (λ (w : Bor (List ℕ)). is_plain w.now) (take l.word-index l.words) ≡ true
