use Rattle.std.proofs.Common.{sym, arith}
use Rattle.plat_laws.proofs.Limits.{frames-most}
use Rattle.plat_coarse.proofs.FrameLemmas.{trailing_ones_missing, free_frame_missing, free_frame_nowhere}
use Rattle.plat_coarse.proofs.MachineLemmas.{limits_of}
use Rattle.plat_coarse.proofs.frames.free_frame.Goals as goal

pub returns-then-number-config : goal.returns-then-number-config
returns-then-number-config c =
    let chronicle = c.args.chronicle.now in
    let used = c.used_numbers.result in
    let number = c.trailing_ones-number.result in
    let few = frames-most chronicle.machine (limits_of c.config.result.now chronicle.machine c.config.ensures) in
    let missing = trailing_ones_missing used number c.used_numbers.type_inv c.trailing_ones-number.ensures in
    let within = c.if-number-config.true in
    sym (free_frame_missing chronicle.machine chronicle.items c.args.module used few c.used_numbers.ensures number missing (grind arith))

pub returns-else-number-config : goal.returns-else-number-config
returns-else-number-config c =
    let chronicle = c.args.chronicle.now in
    let used = c.used_numbers.result in
    let number = c.trailing_ones-number.result in
    let few = frames-most chronicle.machine (limits_of c.config.result.now chronicle.machine c.config.ensures) in
    let missing = trailing_ones_missing used number c.used_numbers.type_inv c.trailing_ones-number.ensures in
    let above = c.if-number-config.false in
    sym (free_frame_nowhere chronicle.machine chronicle.items c.args.module used few c.used_numbers.ensures number missing (grind arith))
