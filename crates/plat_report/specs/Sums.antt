-- the sums that a report takes of a history, against the history
use Rattle.std.specs.Prelude.{◌≡◌, List, ◌++◌}
use Rattle.std.specs.List.{flat_map}
use Rattle.plat_base.specs.Canon.{Words}
use Rattle.plat_base.specs.Pages.{numbers}
use Rattle.plat_base.specs.Report.{page_lines, count_lines, total_lines}
use Rattle.plat_base.specs.Machine.{Machine}
use Rattle.plat_base.specs.declared.items.Item.{Item}
use Rattle.plat_flat.specs.FlatSeen.{IsFlatOf}
use Rattle.plat_report.specs.Actors.{ShowsCounts}
use Rattle.plat_report.specs.Counts.{totals_of}
use Rattle.plat_report.specs.declared.sums.Sums.{Sums}

-- each part is what these items say
pub record ShowsSums (m : Machine) (items : List Item) (sums : Sums) : Type 0 where
  pub flat : IsFlatOf m items sums.flat
  pub totals : sums.totals ≡ totals_of items
  pub actors : ShowsCounts m items sums.actors

-- the lines of a report that they give
abbrev pub sum_lines : Machine → List Item → List Words
sum_lines m items =
    flat_map (page_lines m items) (numbers m.pages) ++ (flat_map (count_lines m items) (numbers m.nodes) ++ total_lines items)
