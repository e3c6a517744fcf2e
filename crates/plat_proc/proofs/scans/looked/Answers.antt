use Rattle.std.proofs.Common.{sym, ◌∙◌}
use Rattle.plat_proc.proofs.scans.looked.Goals as goal

pub returns-else-has_restrict : goal.returns-else-has_restrict
returns-else-has_restrict c =
    λ h w. rw (sym c.has_invalidate.ensures ∙ c.if-has_invalidate.false, sym c.has_restrict.ensures ∙ c.if-has_restrict.false)
    (c.scan_from.ensures h w)
