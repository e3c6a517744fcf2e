use Rattle.std.proofs.Common.{refl, ⊎_elim}
use Rattle.plat_cmd.specs.declared.words.Command.TheVariants as command
use Rattle.plat_cmd.specs.declared.outcomes.Stop.TheVariants as stop
use Rattle.plat_cmd.proofs.PromiseLemmas.{did_end, stopped_end, stopped_silent, did_complete, wanting_complete}
use Rattle.plat_cmd.proofs.generated.big.Goals as goal

pub returns-clause-done : goal.returns-clause-done
returns-clause-done g c = λ told.
    ⊎_elim (λ done. done)
    (λ has. absurd (stopped_silent (command.Big c.args.n) g.K.Sink c.args.sink.now c.sum_nth.new.sink c.sum_nth.result stop.OutOfMemory has
    told))
    c.sum_nth.ensures

pub returns-clause-complete : goal.returns-clause-complete
returns-clause-complete g c = λ quiet.
    let out = c.sum_nth.result in
    ⊎_elim
    (λ done. did_complete (command.Big c.args.n) g.K.Sink c.args.sink.now c.sum_nth.new.sink out tt done quiet)
    (λ has. wanting_complete (command.Big c.args.n) g.K.Sink c.args.sink.now c.sum_nth.new.sink out tt has.ended) c.sum_nth.ensures

pub returns-clause-ended : goal.returns-clause-ended
returns-clause-ended g c =
    let out = c.sum_nth.result in
    ⊎_elim (did_end (command.Big c.args.n) g.K.Sink c.args.sink.now c.sum_nth.new.sink out tt)
    (stopped_end (command.Big c.args.n) g.K.Sink c.args.sink.now c.sum_nth.new.sink out stop.OutOfMemory refl) c.sum_nth.ensures
