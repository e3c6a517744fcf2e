use Rattle.std.proofs.Common.{◌≡◌, ◌+◌, ◌++◌}
use Rattle.std.specs.Prelude.{vec_len, vec_capacity}
use Rattle.plat_base.specs.Seen.{machine}
use Rattle.plat_ports.specs.Starts.{first_actives}
use Rattle.plat_ports.proofs.vec_ports.add_spaces.Given as goal

abbrev pub invariant-loop-q : goal.invariant-loop-q
invariant-loop-q l = record {
  items : l.words.items ≡ l.initial.words.items ++ first_actives (machine l.fn.cfg) l.q;
  long : vec_len l.words ≡ vec_len l.initial.words + l.q;
  room : vec_capacity l.words ≡ vec_capacity l.initial.words;
}
