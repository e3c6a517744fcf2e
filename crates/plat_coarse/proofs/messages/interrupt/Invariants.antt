use Rattle.plat_chronicle.specs.Chronicle.{HasAdded}
use Rattle.plat_coarse.proofs.MessageLemmas.{sent_before}
use Rattle.plat_coarse.proofs.messages.interrupt.Given as goal

-- the messages for the page's entries before the next one are sent
abbrev pub invariant-loop-place : goal.invariant-loop-place
invariant-loop-place l =
    let before = l.fn.chronicle
    in HasAdded before l.chronicle (sent_before before.machine before.items l.ends l.initiator l.page l.removed l.place)
