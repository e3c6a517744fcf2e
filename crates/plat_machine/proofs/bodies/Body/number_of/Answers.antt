use Rattle.std.proofs.Common.{◌∙◌, sym}
use Rattle.plat_machine.proofs.LabelLemmas.{place_by_keys}
use Rattle.plat_machine.proofs.bodies.Body.number_of.Goals as goal

pub returns-in_err-number : goal.returns-in_err-number
returns-in_err-number c =
    c.from_residual.ensures ∙ sym c.in_err-number.was ∙ c.get_index_of.ensures.index
    ∙ place_by_keys c.args.name.now _ _ c.args.self.now.named

pub returns : goal.returns
returns c = sym c.in_ok-number.was ∙ c.get_index_of.ensures.index ∙ place_by_keys c.args.name.now _ _ c.args.self.now.named
