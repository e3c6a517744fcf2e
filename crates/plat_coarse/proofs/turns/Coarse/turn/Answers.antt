use Rattle.std.proofs.Common.{◌≡◌, length, ap, arith, ◌∙◌}
use Rattle.plat_base.specs.Machine.{Machine}
use Rattle.plat_base.specs.Ends.{is_live as is_live_of}
use Rattle.plat_base.specs.Turns.{turn as turn_of}
use Rattle.plat_laws.proofs.Limits.{budget-most}
use Rattle.plat_coarse.specs.CoarseSeen.{CoarseSeen}
use Rattle.plat_coarse.proofs.TurnLemmas.{Turning, want_now, wants, room_at, node_within, tick_below, turns_below}
use Rattle.plat_coarse.proofs.TurnLemmas.{HasActed, HasActed-now, HasSettled, HasSettled-now, settled_length}
use Rattle.plat_coarse.proofs.TurnLemmas.{made_is_sound, passed_length, passed_few, state_last, RunsOn-last}
use Rattle.plat_coarse.proofs.turns.Coarse.turn.Given.{Over}
use Rattle.plat_coarse.proofs.turns.Coarse.turn.Goals.{After-self, After-next-want, After-act-acted, After-as_slice-2}
use Rattle.plat_coarse.proofs.turns.Coarse.turn.Goals as goal

-- the turn that is to be made
abbrev turning : (g : Over) → After-self g → Turning
turning g c = record {
  chronicle = c.self.inside.chronicle;
  answer = g.P.Policy.answer c.self.inside.policy;
  ends = c.self.inside.ends.items;
  guests = c.self.inside.guests.items;
  time = c.self.inside.time;
  processor = c.args.q;
  runs = c.self.invariant.0;
  live = ap (λ (s : CoarseSeen _). is_live_of s.run.ends c.args.q) c.self.view_is ∙ c.requires.live;
}

-- what its guest wants
wanted : (g : Over) (c : After-next-want g) → c.next-want.result ≡ want_now (turning g (goal.at.After-next-want g c).After-self)
wanted g c = wants (turning g (goal.at.After-next-want g c).After-self) c.config.ensures c.index.ensures c.next-want.ensures

-- what the turn proper did
acted : (g : Over) (c : After-act-acted g) →
    HasActed (turning g (goal.at.After-act-acted g c).After-self) c.act-acted.result c.act-acted.new.chronicle
acted g c =
    HasActed-now (turning g (goal.at.After-act-acted g c).After-self) c.as_slice.ensures.value
    (wanted g (goal.at.After-act-acted g c).After-next-want) c.act-acted.ensures.end c.act-acted.ensures.value c.act-acted.ensures.added

-- it is counted, and its end is noted
settled : (g : Over) (c : After-as_slice-2 g) →
    HasSettled (turning g (goal.at.After-as_slice-2 g c).After-self) c.act-acted.result c.act-acted.new.chronicle c.as_slice-2.result.now
settled g c =
    HasSettled-now (turning g (goal.at.After-as_slice-2 g c).After-self) (acted g (goal.at.After-as_slice-2 g c).After-act-acted)
    c.config-3.ensures c.settle-end.ensures.end c.settle-end.ensures.ends c.as_slice-2.ensures.value

pub overflow_add-now : goal.overflow_add-now
overflow_add-now g c = omega (arith, tick_below (turning g c))

pub act-acted-requires-clause-room : goal.act-acted-requires-clause-room
act-acted-requires-clause-room g c =
    let at = goal.at.act-acted-requires-clause-room g c in
    room_at (turning g at.After-self) c.as_slice.ensures.value (wanted g at.After-next-want)

pub advance-requires-clause-node : goal.advance-requires-clause-node
advance-requires-clause-node g c =
    let within = node_within (turning g (goal.at.advance-requires-clause-node g c).After-self) in
    omega (arith, within, ap (λ (m : Machine). m.nodes) (c.config-2.ensures ∙ c.act-acted.ensures.added.machine))

pub settle-end-requires-clause-turns : goal.settle-end-requires-clause-turns
settle-end-requires-clause-turns g c =
    let below = turns_below (turning g (goal.at.settle-end-requires-clause-turns g c).After-self) in
    omega (arith, below, budget-most c.self.inside.chronicle.machine c.self.invariant.0.machine)

pub settle-end-requires-clause-budget : goal.settle-end-requires-clause-budget
settle-end-requires-clause-budget g c =
    let below = turns_below (turning g (goal.at.settle-end-requires-clause-budget g c).After-self) in
    omega (arith, below, ap (λ (m : Machine). m.budget) (c.config-3.ensures ∙ c.act-acted.ensures.added.machine))

pub daemon-requires-clause-sound : goal.daemon-requires-clause-sound
daemon-requires-clause-sound g c = made_is_sound _ (settled g c)

pub daemon-requires-clause-spare : goal.daemon-requires-clause-spare
daemon-requires-clause-spare g c = passed_length _ (settled g c)

pub daemon-requires-clause-few : goal.daemon-requires-clause-few
daemon-requires-clause-few g c = passed_few _ (settled g c)

pub invariant_of-self : goal.invariant_of-self
invariant_of-self g c =
    let done = settled g (goal.at.invariant_of-self g c).After-as_slice-2 in
    let noted = c.as_slice-2.ensures.value in
    let passed = c.daemon.ensures in (
      RunsOn-last _ done _ _ noted passed.items passed.machine passed.spare c.config-2.ensures c.advance.ensures,
      (c.self.invariant.1.0, omega (arith, c.self.invariant.1.1, settled_length _ done, ap length noted)),
    )

pub returns-clause-run : goal.returns-clause-run
returns-clause-run g c =
    let done = settled g (goal.at.returns-clause-run g c).After-as_slice-2 in
    state_last _ done c.daemon.new.chronicle _ c.as_slice-2.ensures.value c.daemon.ensures.items
    ∙ ap (λ (s : CoarseSeen _). turn_of s.machine (g.P.Policy.answer s.policy) s.run c.args.q) c.self.view_is
