use Rattle.std.proofs.Common.{ap, sym, ◌∙◌, arith}
use Rattle.plat_table.specs.Riders.{RiderSeen, BoardSeen}
use Rattle.plat_table.proofs.RuleLemmas.{splits}
use Rattle.plat_table.proofs.RiderLemmas.{rides-low, rides-high, halves-behind}
use Rattle.plat_table.proofs.riders.Rider.split.Goals as goal

pub split_seat-seat-requires : goal.split_seat-seat-requires
split_seat-seat-requires g c = (
  ap (λ (r : RiderSeen). r.table_id) c.self.view_is ∙ c.requires.of.0 ∙ sym (ap (λ (b : BoardSeen). b.table_id) c.board.view_is),
  omega (arith, c.board.invariant.table_words),
  splits c.board.inside.table.shared.key c.self.inside.seat.id c.self.inside.seat.me.0,
)

pub invariant_of-self : goal.invariant_of-self
invariant_of-self g c =
    rides-low c.self.inside.seat.me c.split_seat-seat.new.seat.me c.self.inside.actors.items c.upper-actors.new.actors.items
    c.self.invariant c.split_seat-seat.ensures.2 c.upper-actors.ensures.kept

pub invariant_of-result : goal.invariant_of-result
invariant_of-result g c =
    rides-high c.self.inside.seat.me c.split_seat-seat.result.me c.self.inside.actors.items c.upper-actors.result.items
    c.self.invariant c.split_seat-seat.ensures.4 c.upper-actors.ensures.given

pub returns-clause-behind : goal.returns-clause-behind
returns-clause-behind g c =
    halves-behind c.self.inside.seat.me c.split_seat-seat.new.seat.me c.split_seat-seat.result.me c.self.inside.actors.items
    c.self.invariant c.split_seat-seat.ensures.2 c.split_seat-seat.ensures.4
