use Rattle.std.proofs.Common.{◌≡◌, ℕ, suc, ◌+◌, ◌<◌, List, ◌++◌, length, set, take, drop, ap, ◌∙◌, arith}
use Rattle.std.specs.Prelude.{Some}
use Rattle.std.specs.Slots.{slots_items}
use Rattle.plat_table.proofs.BoardLemmas.{read-more}
use Rattle.plat_table.proofs.boards.read_words.Goals as goal

same-words : (xs ys : List ℕ) → Some xs ≡ Some ys → xs ≡ ys
same-words xs ys e = cc

pub loop-at-preserved : goal.loop-at-preserved
loop-at-preserved c =
    let items = slots_items c.args.table.now.words in
    let at = c.loop-at.at in
    let words = c.args.words.now in
    let within : at < length words = omega (arith, c.loop-at-test.true, ap length c.words-at-end.ensures) in
    let next : suc at ≡ at + 1 = omega arith in
    same-words c.apply.new.self (set c.loop-at.words at c.word.result) c.apply.ensures.words
    ∙ ap (λ (ws : List ℕ). set ws at c.word.result) c.loop-at.invariant
    ∙ read-more items words at c.word.result c.word.ensures within
    ∙ ap (λ k. take k items ++ drop k words) next
