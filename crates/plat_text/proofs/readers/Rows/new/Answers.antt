use Rattle.std.proofs.Common.{◌∙◌, ap}
use Rattle.plat_grammar.specs.Forms.{rest_of}
use Rattle.plat_text.proofs.readers.Rows.new.Goals as goal

pub returns : goal.returns
returns c = c.scan-next.ensures ∙ ap (λ ls. rest_of c.args.first ls) c.new-lines.ensures
