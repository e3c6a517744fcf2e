use Rattle.std.proofs.Common.{◌∙◌}
use Rattle.plat_base.specs.Seen.{machine}
use Rattle.plat_table_rows.proofs.RunLemmas.{all_over, first_numbers}
use Rattle.plat_table_rows.proofs.runs.run.Goals as goal

pub close-requires-clause-over : goal.close-requires-clause-over
close-requires-clause-over g c =
    let m = machine c.args.cfg in
    let made = c.in_ok-board in
    all_over c.finish.new.rider made.board m c.finish.ensures.of made.ensures.machine
    (c.finish.ensures.numbers ∙ (c.step_listed-listed.ensures.numbers ∙ first_numbers m made.rider.crew made.ensures.crew))
    c.finish.ensures.over
