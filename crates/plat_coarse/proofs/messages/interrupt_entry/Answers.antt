use Rattle.std.proofs.Common.{◌∷◌, [], sym, ◌∙◌, arith}
use Rattle.plat_base.specs.Messages.{interrupt_of}
use Rattle.plat_chronicle.specs.Chronicle.{HasAdded, HasRoom}
use Rattle.plat_coarse.proofs.MessageLemmas.{HasRoom-target, HasAdded-target, HasAdded-other, sent_below}
use Rattle.plat_coarse.proofs.messages.interrupt_entry.Goals as goal
use Rattle.plat_coarse.proofs.messages.interrupt_entry.Goals.{then-is_target, else-is_target}

-- there is room for the message to a target
pub add_applied-requires : goal.add_applied-requires
add_applied-requires c =
    let args = c.args in
    let before = args.chronicle.now in
    let now = c.loop-r.chronicle in
    let is = sym c.is_target.ensures ∙ c.if-is_target.true in
    let same = c.loop-r.invariant.machine in
    let within = c.loop-r-test.true in
    let room : HasRoom before (sent_below before.machine before.items args.ends.now args.initiator args.removed args.entry
    before.machine.nodes) = c.requires.room in
    let here = HasRoom-target before now args.ends.now args.initiator args.removed args.entry c.loop-r.r c.loop-r.invariant is (grind arith)
    room in
    record { processor = grind arith; entry = grind (arith, c.requires.entry); room = rw c.message_of_removed-message.ensures here }

pub loop-r-preserved : goal.loop-r-preserved
loop-r-preserved c =
    let args = c.args in
    let before = args.chronicle.now in
    let now = c.loop-r.chronicle in
    elim c.if-is_target.branch [
      | then-is_target w ↦
          let is = sym c.is_target.ensures ∙ w.if-is_target.true in
          let message = c.message_of_removed-message.ensures in
          let sent : HasAdded now c.if-is_target.chronicle (interrupt_of args.removed args.entry c.loop-r.r ∷ []) =
          rw w.chronicle-is (rw (← message) w.add_applied.ensures) in
          HasAdded-target before now args.ends.now args.initiator args.removed args.entry c.loop-r.r c.loop-r.invariant
          c.if-is_target.chronicle is sent
      | else-is_target w ↦
          let is = sym c.is_target.ensures ∙ w.if-is_target.false in
          rw w.chronicle-is (HasAdded-other before now args.ends.now args.initiator args.removed args.entry c.loop-r.r c.loop-r.invariant
          is)
    ]
