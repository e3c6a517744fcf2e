use Rattle.std.proofs.Common.{◌≡◌, ◌≤◌, ◌*◌, take, Ok}
use Rattle.std.specs.Prelude.{sum_by}
use Rattle.std.specs.List.{flat_map}
use Rattle.plat_base.specs.Pages.{numbers}
use Rattle.plat_base.specs.Seen.{machine}
use Rattle.plat_cost.specs.CostLines.{least, page_lines}
use Rattle.plat_cost.specs.Costs.{actual}
use Rattle.plat_cost.specs.Placements.{IsFor}
use Rattle.plat_cost.specs.declared.printing.TheConstants.{MOST_ACTUAL}
use Rattle.plat_cost.specs.declared.rests.TheConstants.{MOST_REST}
use Rattle.plat_io.specs.declared.faults.WriteFault.{WriteFault}
use Rattle.plat_io.specs.Lines.{AddsLines}
use Rattle.plat_cost.proofs.printing.write_pages.Given as goal

-- the lines of the pages before `page` were added, and their costs
abbrev pub invariant-loop-page : goal.invariant-loop-page
invariant-loop-page g l = record {
  added : AddsLines {E = WriteFault} g.K.Sink l.fn.sink l.sink (Ok (tt {0}))
      (flat_map (page_lines (machine l.cfg) l.items) (take l.page (numbers l.cfg.pages)));
  actual : l.totals.actual ≡ sum_by (actual (machine l.cfg) l.items) (take l.page (numbers l.cfg.pages));
  least : l.totals.least ≡ sum_by (least (machine l.cfg) l.items) (take l.page (numbers l.cfg.pages));
  actual_low : l.totals.actual ≤ l.page * MOST_ACTUAL;
  least_low : l.totals.least ≤ l.page * MOST_REST;
  made : IsFor (machine l.cfg) l.placer;
}
