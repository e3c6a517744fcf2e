use Rattle.std.proofs.Common.{Err, inr, sym, ap, ◌∙◌}
use Rattle.plat_cmd.specs.Arguments.{texts_of}
use Rattle.plat_cmd.specs.Commands.{read_of}
use Rattle.plat_cmd.specs.declared.words.WordsFault.{WordsFault}
use Rattle.plat_cmd.proofs.CommandLemmas.{unplain, named-as, unnamed-as}
use Rattle.plat_cmd.proofs.words.read_words.Goals as goal

-- src/words.rt:45:9
pub returns-then-not-are_plain-clause-command : goal.returns-then-not-are_plain-clause-command
returns-then-not-are_plain-clause-command c = unplain (texts_of c.args.words.now) _ (sym c.are_plain.ensures ∙ c.if-not-are_plain.true)

pub returns-clause-command : goal.returns-clause-command
returns-clause-command c =
    named-as (read_of (texts_of c.args.words.now)) _ _ (λ d is. inr (ap (λ (f : WordsFault). Err f) is))
    c.fault_without_memory.ensures.command

pub returns-clause-bad_words : goal.returns-clause-bad_words
returns-clause-bad_words c =
    unnamed-as (read_of (texts_of c.args.words.now)) _ _ (λ d is. ap (λ (f : WordsFault). Err f) is)
    c.fault_without_memory.ensures.bad_words
