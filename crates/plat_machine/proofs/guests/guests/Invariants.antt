use Rattle.std.proofs.Common.{◌≡◌, ◌-◌, []}
use Rattle.plat_base.specs.Machine.{programs_seen}
use Rattle.plat_grammar.specs.FirstFault.{guests_from}
use Rattle.plat_machine.proofs.guests.guests.Given as goal

-- what is left reads on as the whole does
abbrev pub invariant-loop-node : goal.invariant-loop-node
invariant-loop-node l = guests_from (l.nodes - l._node) (programs_seen l.list.items) l.rows ≡ guests_from l.nodes [] l.fn.rows
