use Rattle.std.proofs.Common.{◌≡◌, ◌<◌, ℕ, length}
use Rattle.plat_merge.specs.Counts.{word_at}
use Rattle.plat_merge.specs.Keys.{first_count}
use Rattle.plat_merge.proofs.counts.Counts.begin.Given as goal

-- the words so far are noted
abbrev pub invariant-loop-cell : goal.invariant-loop-cell
invariant-loop-cell l = record {
  words : (k : ℕ) → k < l.cell → word_at l.self.words.items k ≡ first_count l.loads k;
  size : length l.self.words.items ≡ length l.initial.self.words.items;
  pages : l.self.pages.items ≡ l.initial.self.pages.items;
  same : l.self.page_words ≡ l.initial.self.page_words;
}
