use Rattle.std.proofs.Common.{◌≡◌}
use Rattle.plat_grammar.specs.Forms.{rest_of}
use Rattle.plat_text.proofs.ahead.scan.Given as goal

-- no row was passed over
abbrev pub invariant-loop-next : goal.invariant-loop-next
invariant-loop-next l = rest_of l.next l.lines ≡ rest_of l.fn.next l.fn.lines
