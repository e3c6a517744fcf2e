use Rattle.std.proofs.Common.{◌≡◌, length}
use Rattle.plat_grammar.specs.FirstFault.{body_from, body_at}
use Rattle.plat_machine.specs.Shown.{drafts}
use Rattle.plat_machine.proofs.guests.read_body.Given as goal

-- what is left reads on as the whole does
abbrev pub invariant-loop-body : goal.invariant-loop-body
invariant-loop-body l = body_from l.rows.stop (drafts l.body.drafts.items) l.body.labels.items l.rows.rows ≡ body_at l.fn.rows

abbrev pub decreases-loop-body : goal.decreases-loop-body
decreases-loop-body l = length l.rows.rows
