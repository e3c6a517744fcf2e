use Rattle.std.proofs.Common.{◌≡◌, ℕ, ◌<◌, IsSome, slice_get, ap, sym, ◌∙◌, subst}
use Rattle.atomic_table.specs.Table.{Me}
use Rattle.plat_table.specs.Ports.{IsAtItsTable, StaysWithinAt}
use Rattle.plat_table.specs.Rule.{Known, served, moved}
use Rattle.plat_table.proofs.PortLemmas.{within-next, there-moved, stays-moved, serves-moved, table-moved}
use Rattle.plat_table.proofs.ports.TablePortWordPort.apply.Goals as goal

pub make-requires-clause-within : goal.make-requires-clause-within
make-requires-clause-within g c =
    let self = c.args.self.now in
    subst (λ n. c.args.at < n) (sym self.of.words)
    (within-next g.J.Turn.at self.seat.now.me.0 c.args.at c.args.op self.there self.within c.requires.its_own)

pub invariant_of-self : goal.invariant_of-self
invariant_of-self g c =
    let self = c.args.self.now in
    let event = c.make.ensures.event in
    let knows : c.make.new.seat.me.0 ≡ moved g.J.Turn.at self.seat.now.me.0 event.0 = ap (λ (me : Me ℕ Known). me.0) event.2 in
    record {
      of = subst (IsAtItsTable self.table.now.table_id self.table.now.key c.make.new.seat.table_id) (sym knows)
          (table-moved self.table.now.table_id self.table.now.key self.seat.now.table_id c.make.new.seat.table_id g.J.Turn.at
          self.seat.now.me.0 event.0 self.of c.make.ensures.seat.0);
      there = subst (λ (v : Known). IsSome (slice_get v.crew g.J.Turn.at)) (sym knows)
          (there-moved g.J.Turn.at self.seat.now.me.0 event.0 self.there);
      within = subst (StaysWithinAt g.J.Turn.at) (sym knows)
          (stays-moved g.J.Turn.at self.seat.now.me.0 event.0 self.there self.within);
    }

pub returns-clause-serves : goal.returns-clause-serves
returns-clause-serves g c =
    let self = c.args.self.now in
    let event = c.make.ensures.event in
    ap (λ (me : Me ℕ Known). served g.J.Turn.at me.0) event.2
    ∙ serves-moved g.J.Turn.at self.seat.now.me.0 event.0 c.args.at c.make.result c.args.op self.there c.requires.its_own event.1
