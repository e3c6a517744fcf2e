use Rattle.std.proofs.Common.{◌≡◌, refl, ap, sym, ◌∙◌, arith}
use Rattle.plat_base.specs.Machine.{Machine}
use Rattle.plat_base.specs.Schedule.{scheduled}
use Rattle.plat_cmd.specs.Steps.{standing}
use Rattle.plat_cmd.proofs.RunLemmas.{next_turn_is, over_turns_is}
use Rattle.plat_cmd.proofs.coarse_runs.make_turns.Goals as goal

pub loop-turn-init : goal.loop-turn-init
loop-turn-init g c =
    record { config = refl; policy = refl; plan = c.requires.plan; run = c.requires.start; live = c.live_word-live.ensures }

pub next_turn-requires : goal.next_turn-requires
next_turn-requires g c = record {
  plan = c.loop-turn.invariant.plan ∙ ap (λ (m : Machine). m.schedule) (sym c.loop-turn.invariant.config);
  live = c.loop-turn.invariant.live;
}

pub returns-then-not-next_turn-clause-machine : goal.returns-then-not-next_turn-clause-machine
returns-then-not-next_turn-clause-machine g c = c.next_turn.ensures.machine ∙ c.loop-turn.invariant.config

pub returns-then-not-next_turn-clause-turns : goal.returns-then-not-next_turn-clause-turns
returns-then-not-next_turn-clause-turns g c =
    let answer = g.P.Policy.answer in
    over_turns_is c.args.coarse.now.machine c.loop-turn.coarse.machine (answer c.args.coarse.now.policy) (answer c.loop-turn.coarse.policy)
    (standing c.loop-turn.coarse c.loop-turn.schedule) (standing c.next_turn.new.coarse c.next_turn.new.schedule)
    c.loop-turn._turn c.args.turns c.loop-turn.invariant.config (ap answer c.loop-turn.invariant.policy)
    c.loop-turn.invariant.run c.loop-turn.auto._turn-end (c.next_turn.ensures.over c.if-not-next_turn.true) c.next_turn.ensures.turn

pub loop-turn-preserved : goal.loop-turn-preserved
loop-turn-preserved g c =
    let answer = g.P.Policy.answer in
    record {
      config = c.next_turn.ensures.machine ∙ c.loop-turn.invariant.config;
      policy = c.next_turn.ensures.policy ∙ c.loop-turn.invariant.policy;
      plan = c.next_turn.ensures.plan ∙ c.loop-turn.invariant.plan;
      run =
          next_turn_is c.args.coarse.now.machine c.loop-turn.coarse.machine (answer c.args.coarse.now.policy)
          (answer c.loop-turn.coarse.policy)
          (standing c.loop-turn.coarse c.loop-turn.schedule) (standing c.next_turn.new.coarse c.next_turn.new.schedule)
          c.loop-turn._turn c.loop-turn.invariant.config (ap answer c.loop-turn.invariant.policy)
          c.loop-turn.invariant.run c.next_turn.ensures.turn;
      live = c.next_turn.ensures.live;
    }

pub returns-clause-machine : goal.returns-clause-machine
returns-clause-machine g c = c.loop-turn.invariant.config

pub returns-clause-turns : goal.returns-clause-turns
returns-clause-turns g c =
    let all : c.loop-turn._turn ≡ c.args.turns = omega (arith, c.loop-turn-test.false, c.loop-turn.auto._turn-end) in
    c.loop-turn.invariant.run ∙ ap (scheduled c.args.coarse.now.machine (g.P.Policy.answer c.args.coarse.now.policy)) all
