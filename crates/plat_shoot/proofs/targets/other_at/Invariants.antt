use Rattle.std.proofs.Common.{◌≡◌, ◌+◌, length}
use Rattle.std.specs.Prelude.{slice_get}
use Rattle.plat_shoot.specs.Sought.{others}
use Rattle.plat_shoot.proofs.TargetLemmas.{others_from}
use Rattle.plat_shoot.proofs.targets.other_at.Given as goal

-- the processor that is sought stands among those that are left, or behind them
abbrev pub invariant-loop-q : goal.invariant-loop-q
invariant-loop-q l =
    (slice_get (others l.cfg.nodes l.actor l.mask) l.at ≡ slice_get (others_from l.cfg.nodes l.actor l.mask l.q) l.left)
    × (length (others l.cfg.nodes l.actor l.mask) + l.left ≡ l.at + length (others_from l.cfg.nodes l.actor l.mask l.q))
