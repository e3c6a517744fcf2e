use Rattle.std.proofs.Common.{◌≡◌, ap, sym, ◌∙◌, subst, arith}
use Rattle.atomic_table.specs.Table.{Me}
use Rattle.plat_table.specs.Riders.{RiderSeen, BoardSeen, AreBehind, numbers_of}
use Rattle.plat_table.specs.Rule.{Known}
use Rattle.plat_table.proofs.RuleLemmas.{joins}
use Rattle.plat_table.proofs.RiderLemmas.{rides-both, both-few}
use Rattle.plat_table.proofs.riders.Rider.join.Goals as goal

pub join_seat-requires : goal.join_seat-requires
join_seat-requires g c = (
  ap (λ (r : RiderSeen). r.table_id) c.self.view_is ∙ c.requires.of.0.0 ∙ sym (ap (λ (b : BoardSeen). b.table_id) c.board.view_is),
  ap (λ (r : RiderSeen). r.table_id) c.other.view_is ∙ c.requires.of.1.0 ∙ sym (ap (λ (b : BoardSeen). b.table_id) c.board.view_is),
  ap (λ (me : Me _ Known). me.1) c.other.invariant.seat,
  omega (arith, c.board.invariant.table_words),
  joins c.board.inside.table.shared.key c.self.inside.seat.id c.self.inside.seat.me.0 c.other.inside.seat.id c.other.inside.seat.me.0,
)

pub append-requires : goal.append-requires
append-requires g c =
    let me = c.self.inside.seat.me in
    let other = c.other.inside.seat.me in
    let same : other.0.machine ≡ me.0.machine =
    ap (λ (r : RiderSeen). r.machine) c.other.view_is ∙ c.requires.of.1.1 ∙ sym c.requires.of.0.1
    ∙ sym (ap (λ (r : RiderSeen). r.machine) c.self.view_is) in
    let behind : AreBehind (numbers_of me.0.crew) (numbers_of other.0.crew) =
    subst (λ (r : RiderSeen). AreBehind (numbers_of r.crew) (numbers_of other.0.crew)) (sym c.self.view_is)
    (subst (λ (r : RiderSeen). AreBehind (numbers_of c.args.self.now.crew) (numbers_of r.crew)) (sym c.other.view_is) c.requires.behind) in
    both-few me other c.self.inside.actors.items c.other.inside.actors.items c.self.invariant c.other.invariant same behind

pub invariant_of-self : goal.invariant_of-self
invariant_of-self g c =
    let me = c.self.inside.seat.me in
    let other = c.other.inside.seat.me in
    let same : other.0.machine ≡ me.0.machine =
    ap (λ (r : RiderSeen). r.machine) c.other.view_is ∙ c.requires.of.1.1 ∙ sym c.requires.of.0.1
    ∙ sym (ap (λ (r : RiderSeen). r.machine) c.self.view_is) in
    let behind : AreBehind (numbers_of me.0.crew) (numbers_of other.0.crew) =
    subst (λ (r : RiderSeen). AreBehind (numbers_of r.crew) (numbers_of other.0.crew)) (sym c.self.view_is)
    (subst (λ (r : RiderSeen). AreBehind (numbers_of c.args.self.now.crew) (numbers_of r.crew)) (sym c.other.view_is) c.requires.behind) in
    rides-both me other c.join_seat.new.seat.me c.self.inside.actors.items c.other.inside.actors.items c.append.new.actors.items
    c.self.invariant c.other.invariant same behind c.join_seat.ensures.2 c.append.ensures
