use Rattle.std.proofs.Common.{◌≡◌}
use Rattle.std.specs.Prelude.{slice_get, not}
use Rattle.std.specs.List.{list_any}
use Rattle.plat_base.specs.Copies.{same_frame}
use Rattle.plat_handler.specs.Decided.{going_to}
use Rattle.plat_handler.proofs.GoingLemmas.{left_from}
use Rattle.plat_handler.proofs.decisions.frame_going.Given as goal

-- the frame that is sought stands among those of the modules that are left
abbrev pub invariant-loop-module : goal.invariant-loop-module
invariant-loop-module l =
    slice_get (going_to l.dir l.after) l.at
    ≡ slice_get (left_from (λ f. not (list_any (same_frame f) l.after.copies)) l.dir.copies l.module) l.left
