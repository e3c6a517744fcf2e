use Rattle.std.proofs.Common.{◌≡◌, ◌+◌, length}
use Rattle.plat_coarse.proofs.DaemonLemmas.{IsThawed}
use Rattle.plat_coarse.proofs.acts.daemon.Given as goal

-- the pages before the next one are thawed
abbrev pub invariant-loop-page : goal.invariant-loop-page
invariant-loop-page g l = record {
  thawed : IsThawed l.fn.chronicle l.chronicle (g.P.Policy.answer l.policy) l.ends l.now l.page;
  spare : l.chronicle.spare + length l.chronicle.items ≡ l.fn.chronicle.spare + length l.fn.chronicle.items;
}
