-- the nearer of two frames
use Rattle.std.specs.Prelude.{ℕ, Option, Some, None}
use Rattle.plat_base.specs.Machine.{Machine}
use Rattle.plat_base.specs.Decide.{nearer}
use Rattle.plat_base.specs.declared.frames.Frame.{Frame}

abbrev pub nearer_of : Machine → ℕ → Option Frame → Frame → Frame
nearer_of m node None frame = frame
nearer_of m node (Some best) frame = nearer m node best frame
