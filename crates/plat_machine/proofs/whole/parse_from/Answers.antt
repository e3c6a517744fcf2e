use Rattle.plat_machine.proofs.WholeLaws.{gives-found, gives-only, from-takes, from-again}
use Rattle.plat_machine.proofs.whole.parse_from.Goals as goal

pub returns-clause-found : goal.returns-clause-found
returns-clause-found c = gives-found _ _ _ c.read_text_from.ensures (λ y. from-takes c.args.first_line c.args.bytes.now y.0 y.1)

pub returns-clause-only : goal.returns-clause-only
returns-clause-only c = λ m next fits short h. gives-only _ _ _ (m, next) c.read_text_from.ensures
    (from-again c.args.first_line c.args.bytes.now m next fits short h)
