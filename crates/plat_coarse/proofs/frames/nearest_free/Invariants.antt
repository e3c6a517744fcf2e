use Rattle.std.proofs.Common.{◌≡◌}
use Rattle.std.specs.List.{filter_map}
use Rattle.plat_base.specs.Frames.{free_frame, nearest_in}
use Rattle.plat_base.specs.Pages.{numbers}
use Rattle.plat_coarse.proofs.frames.nearest_free.Given as goal

-- the nearest free frame of the modules before the next one
abbrev pub invariant-loop-module : goal.invariant-loop-module
invariant-loop-module l = l.best
    ≡ nearest_in l.chronicle.machine l.node (filter_map (free_frame l.chronicle.machine l.chronicle.items) (numbers l.module))
