use Rattle.plat_gen_laws.proofs.GeneratedLaws.{guest_halts, generated_ends, generated_done}
use Rattle.plat_gen_laws.proofs.runs.generated_run.Goals as goal

pub returns-clause-guests : goal.returns-clause-guests
returns-clause-guests g c = λ q inside. guest_halts c.args.n q inside

pub returns-clause-ends : goal.returns-clause-ends
returns-clause-ends g c = generated_ends c.args.n (g.P.Policy.answer c.args.policy.now)

pub returns-clause-done : goal.returns-clause-done
returns-clause-done g c = generated_done c.args.n (g.P.Policy.answer c.args.policy.now)
