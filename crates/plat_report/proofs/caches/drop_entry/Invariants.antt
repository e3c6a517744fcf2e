use Rattle.std.proofs.Common.{◌≡◌, ◌++◌, map, take, drop}
use Rattle.plat_base.specs.Cache.{without_entry}
use Rattle.plat_report.proofs.caches.drop_entry.Given as goal

abbrev pub invariant-loop-place : goal.invariant-loop-place
invariant-loop-place l =
    l.places ≡ map (without_entry l.entry) (take l.place-index l.fn.places) ++ drop l.place-index l.fn.places
