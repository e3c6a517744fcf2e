use Rattle.std.proofs.Common.{◌≡◌, slice_index_or, arith, sym, subst, IsTrue}
use Rattle.plat_base.specs.Machine.{Program, is_program}
use Rattle.plat_base.proofs.LimitLemmas.{guests_count}
use Rattle.plat_guest.proofs.LimitsLemmas.{program_at, program_is}
use Rattle.plat_guest.proofs.programs.program.Goals as goal

pub bounds-as_slice-node : goal.bounds-as_slice-node
bounds-as_slice-node c = grind (arith, guests_count c.args.cfg.now)

pub returns-clause-program : goal.returns-clause-program
returns-clause-program c = program_at c.args.cfg.now c.args.node c.index-as_slice-node.result c.requires cc

pub returns-clause-within : goal.returns-clause-within
returns-clause-within c =
    let e : c.index-as_slice-node.result ≡ slice_index_or c.args.cfg.now.guests.items c.args.node c.index-as_slice-node.result = cc in
    subst (λ (p : Program). IsTrue (is_program p)) (sym (program_at c.args.cfg.now c.args.node _ c.requires e))
    (program_is c.args.cfg.now c.args.node c.requires)
