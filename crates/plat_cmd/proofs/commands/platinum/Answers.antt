use Rattle.std.proofs.Common.{◌≡◌, Ok, refl, ap, ◌∙◌}
use Rattle.plat_cmd.specs.Arguments.{texts_of}
use Rattle.plat_cmd.specs.Commands.{read_of}
use Rattle.plat_cmd.specs.Promises.{Promises}
use Rattle.plat_cmd.specs.declared.words.Command.{Command}
use Rattle.plat_cmd.proofs.PromiseLemmas.{it_is, named_by, not_bad, any_command, wanting, printed_or_not, summed_or_not}
use Rattle.plat_cmd.proofs.commands.platinum.Given.{Over}
use Rattle.plat_cmd.proofs.commands.platinum.Goals.{After-read_words}
use Rattle.plat_cmd.proofs.commands.platinum.Goals as goal

-- the command that was read is the one that the words name
named : {d e : Command} (g : Over) (c : After-read_words g) → c.read_words.result ≡ Ok d → d ≡ e →
    read_of (texts_of c.args.words.now) ≡ Ok e
named {e = e} g c is same =
    it_is c.read_words.result (read_of (texts_of c.args.words.now)) e (is ∙ ap (λ (x : Command). Ok x) same)
    c.read_words.ensures.command c.read_words.ensures.bad_words

pub returns-in-Ok-Check-clause-named : goal.returns-in-Ok-Check-clause-named
returns-in-Ok-Check-clause-named g c =
    named_by (named g (goal.at.returns-in-Ok-Check-clause-named g c).After-read_words c.in-Ok-Check.is c.in-Ok-Check.field-0-is) _
    c.check.ensures

pub returns-in-Ok-Check-clause-bad_words : goal.returns-in-Ok-Check-clause-bad_words
returns-in-Ok-Check-clause-bad_words g c =
    not_bad (named g (goal.at.returns-in-Ok-Check-clause-bad_words g c).After-read_words c.in-Ok-Check.is c.in-Ok-Check.field-0-is) _

pub returns-in-Ok-Sim-clause-named : goal.returns-in-Ok-Sim-clause-named
returns-in-Ok-Sim-clause-named g c =
    named_by (named g (goal.at.returns-in-Ok-Sim-clause-named g c).After-read_words c.in-Ok-Sim.is c.in-Ok-Sim.field-0-is) _
    c.sim.ensures

pub returns-in-Ok-Sim-clause-bad_words : goal.returns-in-Ok-Sim-clause-bad_words
returns-in-Ok-Sim-clause-bad_words g c =
    not_bad (named g (goal.at.returns-in-Ok-Sim-clause-bad_words g c).After-read_words c.in-Ok-Sim.is c.in-Ok-Sim.field-0-is) _

pub returns-in-Ok-Run-clause-named : goal.returns-in-Ok-Run-clause-named
returns-in-Ok-Run-clause-named g c =
    named_by (named g (goal.at.returns-in-Ok-Run-clause-named g c).After-read_words c.in-Ok-Run.is c.in-Ok-Run.field-0-is) _
    c.run.ensures

pub returns-in-Ok-Run-clause-bad_words : goal.returns-in-Ok-Run-clause-bad_words
returns-in-Ok-Run-clause-bad_words g c =
    not_bad (named g (goal.at.returns-in-Ok-Run-clause-bad_words g c).After-read_words c.in-Ok-Run.is c.in-Ok-Run.field-0-is) _

pub returns-in-Ok-Gen-clause-named : goal.returns-in-Ok-Gen-clause-named
returns-in-Ok-Gen-clause-named g c =
    named_by (named g (goal.at.returns-in-Ok-Gen-clause-named g c).After-read_words c.in-Ok-Gen.is c.in-Ok-Gen.field-0-is) _
    (printed_or_not g.S.Source g.K.Sink c.args.source.now c.args.sink.now c.print_nth.new.sink c.print_nth.result
    c.in-Ok-Gen.n c.print_nth.ensures)

pub returns-in-Ok-Gen-clause-bad_words : goal.returns-in-Ok-Gen-clause-bad_words
returns-in-Ok-Gen-clause-bad_words g c =
    not_bad (named g (goal.at.returns-in-Ok-Gen-clause-bad_words g c).After-read_words c.in-Ok-Gen.is c.in-Ok-Gen.field-0-is) _

pub returns-in-Ok-Big-clause-named : goal.returns-in-Ok-Big-clause-named
returns-in-Ok-Big-clause-named g c =
    named_by (named g (goal.at.returns-in-Ok-Big-clause-named g c).After-read_words c.in-Ok-Big.is c.in-Ok-Big.field-0-is) _
    (summed_or_not g.S.Source g.K.Sink c.args.source.now c.args.sink.now c.sum_nth.new.sink c.sum_nth.result
    c.in-Ok-Big.n c.sum_nth.ensures)

pub returns-in-Ok-Big-clause-bad_words : goal.returns-in-Ok-Big-clause-bad_words
returns-in-Ok-Big-clause-bad_words g c =
    not_bad (named g (goal.at.returns-in-Ok-Big-clause-bad_words g c).After-read_words c.in-Ok-Big.is c.in-Ok-Big.field-0-is) _

pub returns-in-Ok-Replay-clause-named : goal.returns-in-Ok-Replay-clause-named
returns-in-Ok-Replay-clause-named g c =
    named_by (named g (goal.at.returns-in-Ok-Replay-clause-named g c).After-read_words c.in-Ok-Replay.is c.in-Ok-Replay.field-0-is) _
    c.replay.ensures

pub returns-in-Ok-Replay-clause-bad_words : goal.returns-in-Ok-Replay-clause-bad_words
returns-in-Ok-Replay-clause-bad_words g c =
    not_bad (named g (goal.at.returns-in-Ok-Replay-clause-bad_words g c).After-read_words c.in-Ok-Replay.is c.in-Ok-Replay.field-0-is) _

pub returns-in-Ok-Race-clause-named : goal.returns-in-Ok-Race-clause-named
returns-in-Ok-Race-clause-named g c =
    named_by (named g (goal.at.returns-in-Ok-Race-clause-named g c).After-read_words c.in-Ok-Race.is c.in-Ok-Race.field-0-is) _
    c.race.ensures

pub returns-in-Ok-Race-clause-bad_words : goal.returns-in-Ok-Race-clause-bad_words
returns-in-Ok-Race-clause-bad_words g c =
    not_bad (named g (goal.at.returns-in-Ok-Race-clause-bad_words g c).After-read_words c.in-Ok-Race.is c.in-Ok-Race.field-0-is) _

pub returns-in-Ok-Cost-clause-named : goal.returns-in-Ok-Cost-clause-named
returns-in-Ok-Cost-clause-named g c =
    named_by (named g (goal.at.returns-in-Ok-Cost-clause-named g c).After-read_words c.in-Ok-Cost.is c.in-Ok-Cost.field-0-is) _
    c.cost.ensures

pub returns-in-Ok-Cost-clause-bad_words : goal.returns-in-Ok-Cost-clause-bad_words
returns-in-Ok-Cost-clause-bad_words g c =
    not_bad (named g (goal.at.returns-in-Ok-Cost-clause-bad_words g c).After-read_words c.in-Ok-Cost.is c.in-Ok-Cost.field-0-is) _

pub returns-in-Err-OutOfMemory-clause-named : goal.returns-in-Err-OutOfMemory-clause-named
returns-in-Err-OutOfMemory-clause-named g c =
    let out = c.without_run-in-Err-OutOfMemory in
    any_command (read_of (texts_of c.args.words.now))
    (λ d. Promises d g.S.Source g.K.Sink c.args.source.now c.args.source.now c.args.sink.now c.args.sink.now out.result)
    (λ d. wanting g.S.Source g.K.Sink c.args.source.now c.args.sink.now c.args.sink.now out.result d
    (record { ended = out.ensures.status; history = out.ensures.kept; no_threads = out.ensures.ran; sink = refl }))
