use Rattle.plat_machine.proofs.WholeLaws.{gives-found, gives-only}
use Rattle.plat_history.proofs.HistoryLaws.{history-takes, history-again}
use Rattle.plat_history.proofs.reading.read_history.Goals as goal

pub returns-clause-found : goal.returns-clause-found
returns-clause-found c = gives-found _ _ _ c.read_text.ensures (λ h e. (history-takes c.args.bytes.now h e).0)

pub returns-clause-ranges : goal.returns-clause-ranges
returns-clause-ranges c = gives-found _ _ _ c.read_text.ensures (λ h e. (history-takes c.args.bytes.now h e).1)

pub returns-clause-only : goal.returns-clause-only
returns-clause-only c = λ h fits text. gives-only _ _ _ h c.read_text.ensures (history-again c.args.bytes.now h fits text)
