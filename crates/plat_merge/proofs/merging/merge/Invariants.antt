use Rattle.std.proofs.Common.{◌≡◌, ◌+◌, ◌≤◌, length}
use Rattle.plat_base.specs.Seen.{machine}
use Rattle.plat_merge.proofs.StartLemmas.{IsMerging}
use Rattle.plat_merge.proofs.merging.merge.Given as goal

-- what is placed and what is left of a good history
abbrev pub invariant-loop : goal.invariant-loop
invariant-loop l = record {
  way : IsMerging (machine l.cfg) l.totals l.journals.lists l.next l.placed.items l.counts.words.items l.counts.pages.items l.most;
  same : l.counts.page_words ≡ l.cfg.words;
  placed : length l.placed.items ≡ l.counter;
  spare : l.most ≤ l.placed.spare + length l.placed.items;
  places : length l.next ≡ 9;
}
