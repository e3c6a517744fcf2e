use Rattle.std.proofs.Common.{arith}
use Rattle.plat_machine.proofs.LabelLemmas.{named_push, length_push_one}
use Rattle.plat_machine.proofs.bodies.Body.keep.Goals as goal

pub invariant_of-self-2 : goal.invariant_of-self-2
invariant_of-self-2 c = record {
  named = named_push c.args.self.now.names.keys _ c.args.name c.args.self.now.labels.items _ _
      (record { name = c.new.result; at = c.args.at })
      c.args.self.now.named c.requires.unknown c.in_ok-insert.ensures.keys c.new.ensures c.in_ok-reserve.ensures.items c.push.ensures.items;
  few = omega (
    arith,
    length_push_one c.args.self.now.labels.items _ _ (record { name = c.new.result; at = c.args.at })
        c.in_ok-reserve.ensures.items c.push.ensures.items,
    c.requires.room,
  );
  short = c.args.self.now.short;
}
