use Rattle.std.proofs.Common.{◌≡◌, map, take, Ok}
use Rattle.plat_base.specs.Canon.{instr_words, label_name}
use Rattle.plat_io.specs.declared.faults.WriteFault.{WriteFault}
use Rattle.plat_io.specs.Lines.{AddsLines}
use Rattle.plat_machine.proofs.PrintLabels.{last_at, lines_to}
use Rattle.plat_machine.proofs.printing_guests.write_labelled.Given as goal

-- the lines up to that of the last label before `label` were added
abbrev pub invariant-loop-label : goal.invariant-loop-label
invariant-loop-label g l = record {
  at : l.at ≡ last_at 0 (take l.label-index l.labels);
  written :
      AddsLines {E = WriteFault} g.K.Sink l.fn.sink l.sink (Ok (tt {0}))
      (lines_to 0 (map (instr_words (label_name l.labels)) l.code) (take l.label-index l.labels));
}
