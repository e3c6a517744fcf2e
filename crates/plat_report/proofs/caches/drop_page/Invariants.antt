use Rattle.std.proofs.Common.{◌≡◌, ◌++◌, map, take, drop}
use Rattle.plat_base.specs.Seen.{machine}
use Rattle.plat_base.specs.Cache.{without_page}
use Rattle.plat_report.proofs.caches.drop_page.Given as goal

abbrev pub invariant-loop-place : goal.invariant-loop-place
invariant-loop-place l =
    l.places ≡ map (without_page (machine l.cfg) l.page) (take l.place-index l.fn.places) ++ drop l.place-index l.fn.places
