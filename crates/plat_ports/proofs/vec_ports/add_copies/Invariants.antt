use Rattle.std.proofs.Common.{◌≡◌, ◌+◌, ◌++◌}
use Rattle.std.specs.Prelude.{replicate, vec_len, vec_capacity}
use Rattle.plat_ports.proofs.vec_ports.add_copies.Given as goal

abbrev pub invariant-loop : goal.invariant-loop
invariant-loop l = record {
  items : l.words.items ≡ l.initial.words.items ++ replicate l.counter l.word;
  long : vec_len l.words ≡ vec_len l.initial.words + l.counter;
  room : vec_capacity l.words ≡ vec_capacity l.initial.words;
}
