use Rattle.std.proofs.Common.{arith}
use Rattle.std.proofs.lemmas.Grind.{common_steps}
use Rattle.std.proofs.lemmas.List.Folds.{list_all-map, list_all_at}
use Rattle.plat_cmd.proofs.arguments.all_plain.Goals as goal

-- src/arguments.rt:28:13
pub returns-then-not-is_plain : goal.returns-then-not-is_plain
returns-then-not-is_plain c = rw list_all-map (grind (arith, common_steps, list_all_at))

-- src/arguments.rt:23:1
pub returns : goal.returns
returns c = rw list_all-map (grind (arith, common_steps))
