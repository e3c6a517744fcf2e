use Rattle.std.proofs.Common.{◌∙◌, sym}
use Rattle.plat_cmd.proofs.WordLemmas.{same_words-texts_of}
use Rattle.plat_cmd.proofs.words.are_words.Goals as goal

pub returns : goal.returns
returns c = c.eq.ensures ∙ sym (same_words-texts_of c.args.words.now c.args.wanted.now)
