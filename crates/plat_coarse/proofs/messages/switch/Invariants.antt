use Rattle.plat_chronicle.specs.Chronicle.{HasAdded}
use Rattle.plat_coarse.proofs.MessageLemmas.{told_before}
use Rattle.plat_coarse.proofs.messages.switch.Given as goal

-- the switch is made, and the messages for the space's entries before the next one are told
abbrev pub invariant-loop-place : goal.invariant-loop-place
invariant-loop-place l =
    let before = l.fn.chronicle in HasAdded before l.chronicle (told_before before.machine before.items l.q l.space l.place)
