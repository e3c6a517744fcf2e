use Rattle.std.proofs.Common.{rules}
use Rattle.std.proofs.lemmas.List.Edits.{map_over_more}
use Rattle.plat_base.specs.Seen.{machine}
use Rattle.plat_base.specs.Cache.{without_page}
use Rattle.plat_report.proofs.caches.drop_page.Goals as goal

pub loop-place-preserved : goal.loop-place-preserved
loop-place-preserved c = search (rules, map_over_more (without_page (machine c.args.cfg.now) c.args.page))
