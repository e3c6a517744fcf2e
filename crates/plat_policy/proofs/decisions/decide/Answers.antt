use Rattle.std.proofs.Common.{◌≡◌, arith}
use Rattle.std.specs.Prelude.{is_some}
use Rattle.plat_base.specs.Copies.{copy_on}
use Rattle.plat_base.specs.Decide.{row_of, moves_page}
use Rattle.plat_base.specs.Seen.{machine}
use Rattle.plat_base.specs.declared.items.Cause.TheVariants.{Thaw}
use Rattle.plat_policy.specs.Rows.{row_seen}
use Rattle.plat_policy.proofs.Faults.{fault-row, fault-frozen, fault-fits}
use Rattle.plat_policy.proofs.decisions.decide.Goals as goal

pub row_does-requires-2-clause-fits : goal.row_does-requires-2-clause-fits
row_does-requires-2-clause-fits g c =
    let faults : c.args.cause ≡ Thaw → ⊥ = λ e. grind arith in
    let answer = g.P.Policy.answer c.args.policy.now in
    let dir = c.args.dir.now in
    let row :
    row_seen c.row_of-row.result
    ≡ row_of c.args.cause dir.state (is_some (copy_on c.args.node dir.copies)) (moves_page (answer dir c.args.last c.args.now) c.args.got) =
    cc (fault-row c.args.cause answer dir c.args.last c.args.now c.args.node c.args.got faults) in
    rw row
    (fault-fits (machine c.args.cfg.now) c.args.cause answer dir c.args.last c.args.now c.args.node c.args.got faults
    (c.requires.node faults) c.requires.fits)

pub returns : goal.returns
returns g c =
    let faults : c.args.cause ≡ Thaw → ⊥ = λ e. grind arith in
    let answer = g.P.Policy.answer c.args.policy.now in
    cc (
      fault-row c.args.cause answer c.args.dir.now c.args.last c.args.now c.args.node c.args.got faults,
      fault-frozen c.args.cause answer c.args.dir.now c.args.last c.args.now c.args.node faults,
    )
