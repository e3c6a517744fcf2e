use Rattle.plat_machine.proofs.WholeLaws.{gives-found, gives-only, text-takes, text-again}
use Rattle.plat_machine.proofs.whole.parse.Goals as goal

pub returns-clause-found : goal.returns-clause-found
returns-clause-found c = gives-found _ _ _ c.read_text.ensures (text-takes c.args.bytes.now)

pub returns-clause-only : goal.returns-clause-only
returns-clause-only c = λ m fits h. gives-only _ _ _ m c.read_text.ensures (text-again c.args.bytes.now m fits h)
