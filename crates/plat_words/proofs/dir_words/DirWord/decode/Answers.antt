-- a value whose word this is has the directory and the lock that were read
use Rattle.std.proofs.Common.{◌≡◌, ◌∙◌, Some, ap, arith}
use Rattle.plat_base.specs.declared.frames.Dir.{Dir}
use Rattle.plat_events.specs.Words.{state_numbered, dir_read, is_locked, dir_word}
use Rattle.plat_words.proofs.Sames.{dir_found, dir_word_read, dir_word_back}
use Rattle.plat_words.proofs.dir_words.DirWord.decode.Goals as goal

pub returns-then-number-word-clause-exact : goal.returns-then-number-word-clause-exact
returns-then-number-word-clause-exact c = λ x e.
    ap Some
    (dir_word_read c.args.word x _
    (record {
      dir = dir_found c.args.word _ (c.state_of.ensures ∙ ap state_numbered c.bits.ensures) c.bit.ensures c.copies_of.ensures.copies;
      lock = c.bit-2.ensures;
    }) e)

pub returns-else-number-word-clause-exact : goal.returns-else-number-word-clause-exact
returns-else-number-word-clause-exact c = λ x e.
    let found : Dir = record { state = c.state_of.result; frozen = c.bit.result; copies = c.copies_of.result } in
    let dir : found ≡ dir_read c.args.word =
    dir_found c.args.word found (c.state_of.ensures ∙ ap state_numbered c.bits.ensures) c.bit.ensures c.copies_of.ensures.copies in
    let lock : c.bit-2.result ≡ is_locked c.args.word = c.bit-2.ensures in
    let back = dir_word_back c.args.word x e in
    let number : c.number.result ≡ c.args.word =
    c.number.ensures ∙ ap (λ d. dir_word d c.bit-2.result) dir ∙ ap (λ l. dir_word (dir_read c.args.word) l) lock ∙ back
    in absurd (omega (arith, number))
