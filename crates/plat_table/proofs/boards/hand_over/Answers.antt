use Rattle.std.proofs.Common.{◌≡◌, ◌+◌, ap, sym, ◌∙◌, arith}
use Rattle.plat_table.proofs.BoardLemmas.{handed, left-more}
use Rattle.plat_table.proofs.boards.hand_over.Goals as goal

pub loop-preserved : goal.loop-preserved
loop-preserved c =
    let all = c.args.actors.items in
    let k = c.loop.counter in
    record {
      left = left-more all c.loop.actors.items c.remove-actor.new.self.items k c.loop.invariant.left c.remove-actor.ensures.items;
      rooms = c.put.ensures.rooms ∙ c.loop.invariant.rooms;
      lists = c.put.ensures.lists
          ∙ handed all c.loop.actors.items k c.remove-actor.result c.args.journals.now.lists c.loop.journals.lists c.finish.result.items
          c.requires.order c.loop.invariant.left (omega (arith, c.loop-test.true, c.len-end.ensures.value)) c.remove-actor.ensures.value
          c.requires.lists c.loop.invariant.lists c.finish.ensures;
    }
