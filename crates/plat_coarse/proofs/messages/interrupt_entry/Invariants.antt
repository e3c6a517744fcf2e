use Rattle.plat_chronicle.specs.Chronicle.{HasAdded}
use Rattle.plat_coarse.proofs.MessageLemmas.{sent_below}
use Rattle.plat_coarse.proofs.messages.interrupt_entry.Given as goal

-- the messages to the processors before the next one are sent
abbrev pub invariant-loop-r : goal.invariant-loop-r
invariant-loop-r l =
    let before = l.fn.chronicle
    in HasAdded before l.chronicle (sent_below before.machine before.items l.ends l.initiator l.fn.removed l.entry l.r)
