use Rattle.std.proofs.Common.{◌≡◌, [], drop}
use Rattle.plat_grammar.specs.Drafts.{code_from}
use Rattle.plat_machine.specs.Shown.{drafts}
use Rattle.plat_machine.proofs.guests.code.Given as goal

abbrev pub invariant-loop-read : goal.invariant-loop-read
invariant-loop-read l =
    code_from l.body.labels.items l.list.items (drafts (drop l.read-index l.body.drafts.items))
    ≡ code_from l.body.labels.items [] (drafts l.body.drafts.items)
