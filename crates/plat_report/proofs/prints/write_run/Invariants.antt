use Rattle.std.proofs.Common.{◌-◌}
use Rattle.plat_base.specs.Seen.{machine}
use Rattle.plat_report.proofs.Printing.{IsPrinted}
use Rattle.plat_report.proofs.prints.write_run.Given as goal

abbrev pub invariant-loop-made : goal.invariant-loop-made
invariant-loop-made g l = IsPrinted g.K.Sink (machine l.cfg) l.q l.fn.run l.fn.turns l.fn.sink l.run (l.turns - l.made) l.sink
