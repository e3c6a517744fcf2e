use Rattle.std.proofs.Common.{◌∙◌}
use Rattle.plat_machine.proofs.LabelLemmas.{known_by_keys}
use Rattle.plat_machine.proofs.bodies.Body.knows.Goals as goal

pub returns : goal.returns
returns c = c.contains.ensures ∙ known_by_keys c.args.name.now _ _ c.args.self.now.named
