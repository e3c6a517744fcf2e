use Rattle.std.proofs.Common.{sym, ◌∙◌, refl}
use Rattle.plat_base.specs.Seen.{machine}
use Rattle.plat_handler.proofs.DecisionLemmas.{Decides-none}
use Rattle.plat_handler.proofs.courses.seek_from.Goals as goal

pub start_course-requires : goal.start_course-requires
start_course-requires c =
    Decides-none (machine c.args.cfg.now) c.args.lock.now _ c.requires (sym c.is_empty.ensures ∙ c.if-is_empty.false) refl
