use Rattle.std.proofs.Common.{sym, ◌∙◌}
use Rattle.plat_proc.proofs.scans.polled.Goals as goal

pub returns-then-bit : goal.returns-then-bit
returns-then-bit c = λ h w. rw (sym c.bit.ensures ∙ c.if-bit.true) (c.scan_from.ensures h w)

pub returns-else-bit : goal.returns-else-bit
returns-else-bit c = λ h w. rw (sym c.bit.ensures ∙ c.if-bit.false) (c.go_on.ensures h w)
