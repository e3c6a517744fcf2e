-- a coarse run so far
use Rattle.std.specs.Prelude.{List, [], replicate}
use Rattle.plat_base.specs.Machine.{Machine}
use Rattle.plat_base.specs.declared.items.Item.{Item}
use Rattle.plat_base.specs.declared.endings.Ended.{Ended}
use Rattle.plat_base.specs.Ends.{cut_at}

-- a coarse run so far: the history, and for each processor its turns and its end, Cut where it is live
pub record Coarse : Type 0 where
  pub history : List Item
  pub ends : List Ended

abbrev pub coarse_start : Machine → Coarse
coarse_start m = record { history = []; ends = replicate m.nodes (cut_at 0) }
