use Rattle.std.proofs.Common.{◌≡◌, true, ap, sym, ◌∙◌}
use Rattle.std.specs.Prelude.{Some}
use Rattle.plat_base.specs.Coarse.{Coarse}
use Rattle.plat_base.specs.Ends.{ended_of, is_live}
use Rattle.plat_base.specs.Machine.{Machine}
use Rattle.plat_base.specs.Schedule.{choose, live_processors}
use Rattle.plat_coarse.specs.CoarseSeen.{turned_of}
use Rattle.plat_coarse_laws.proofs.RunLaws.{choose-live}
use Rattle.plat_cmd.proofs.RunLemmas.{live_stay}
use Rattle.plat_cmd.proofs.StepLemmas.{chosen_is}
use Rattle.plat_cmd.proofs.coarse_runs.next_turn.Given.{Over}
use Rattle.plat_cmd.proofs.coarse_runs.next_turn.Goals.{In-Some}
use Rattle.plat_cmd.proofs.coarse_runs.next_turn.Goals as goal

-- the schedule's choice is that of the definition
chosen : (g : Over) (c : In-Some g) →
    let k = c.args.coarse.now in
    choose k.machine.schedule (live_processors k.machine k.run) c.args.schedule.now.chooser ≡ Some (c.in-Some.q, c.next.new.self.chooser)
chosen g c =
    let k = c.args.coarse.now in
    chosen_is k.machine.schedule (live_processors k.machine k.run) c.args.schedule.now c.args.live.now c.in-Some.q c.requires.plan
    c.requires.live c.next.new.self c.next.ensures.after (sym c.next.ensures.chosen ∙ c.in-Some.is)

was_live : (g : Over) (c : In-Some g) → is_live c.args.coarse.now.run.ends c.in-Some.q ≡ true
was_live g c =
    let k = c.args.coarse.now in choose-live k.machine k.run k.machine.schedule c.args.schedule.now.chooser _ (chosen g c)

pub turn-requires : goal.turn-requires
turn-requires g c = record { live = was_live g (goal.at.turn-requires g c).In-Some }

pub returns-in-Ran-clause-live : goal.returns-in-Ran-clause-live
returns-in-Ran-clause-live g c =
    let k = c.args.coarse.now in
    let answer = g.P.Policy.answer k.policy in
    let ran = ap (λ (s : Coarse). turned_of (ended_of s.ends c.in-Some.q).end) (sym c.turn.ensures.run)
    ∙ (sym c.turn.ensures.turned ∙ c.in-Ran.is) in
    c.requires.live
    ∙ sym (ap (λ (m : Machine). live_processors m c.turn.new.self.run) c.turn.ensures.machine
    ∙ (ap (live_processors k.machine) c.turn.ensures.run
    ∙ live_stay k.machine answer k.run c.in-Some.q (was_live g (goal.at.returns-in-Ran-clause-live g c).In-Some) ran))
