use Rattle.std.proofs.Common.{◌≡◌, ◌∙◌, ℕ, List, ap, arith, subst, ◌+◌, length}
use Rattle.plat_base.specs.Canon.{Words}
use Rattle.plat_base.specs.Seen.{machine}
use Rattle.plat_base.proofs.LimitLemmas.{pages_most}
use Rattle.plat_io.specs.declared.faults.WriteFault.{WriteFault}
use Rattle.plat_io.specs.Lines.{AddsLines}
use Rattle.plat_cost.specs.CostLines.{placed_lines}
use Rattle.plat_cost.proofs.CostLaws.{room_most}
use Rattle.plat_cost.proofs.PageLemmas.{actual-most, least-most, plan-length, least-placed, page_lines-placed}
use Rattle.plat_cost.proofs.printing.write_next_page.Goals as goal

pub overflow_add-totals : goal.overflow_add-totals
overflow_add-totals g c =
    let one = actual-most c.args.cfg.now c.args.items.now c.args.page in
    let is = c.page-placed.ensures.actual in
    let before = c.requires.actual_low in
    let few = c.requires.few in
    let pages = pages_most c.args.cfg.now in
    let inside = c.requires.page in omega arith

pub overflow_add-totals-2 : goal.overflow_add-totals-2
overflow_add-totals-2 g c =
    let one = least-most c.args.cfg.now c.args.items.now c.args.page (c.requires.places.few c.args.page c.requires.page) in
    let is =
    least-placed c.args.cfg.now c.args.items.now c.args.page c.page-placed.new.self.actors c.page-placed.new.self.plan
    c.page-placed.ensures.actors c.page-placed.ensures.best c.page-placed.result.least c.page-placed.ensures.least in
    let before = c.requires.least_low in
    let pages = pages_most c.args.cfg.now in
    let inside = c.requires.page in omega arith

pub write_page-requires : goal.write_page-requires
write_page-requires g c =
    let few = c.requires.places.few c.args.page c.requires.page in
    let room = room_most c.args.cfg.now in
    let same =
    plan-length (machine c.args.cfg.now) c.page-placed.new.self.actors c.page-placed.new.self.plan c.page-placed.ensures.best.possible in
    let count = ap (λ (xs : List ℕ). length xs) c.page-placed.ensures.actors in
    rw c.plan.ensures (omega arith)

pub returns-clause-written : goal.returns-clause-written
returns-clause-written g c =
    subst (λ (lines : List Words). AddsLines {E = WriteFault} g.K.Sink c.args.sink.now c.write_page.new.sink c.write_page.result lines)
    (page_lines-placed c.args.cfg.now c.args.items.now c.args.page c.page-placed.new.self.actors c.page-placed.new.self.plan
    c.page-placed.ensures.actors c.page-placed.ensures.best c.page-placed.result.accesses c.page-placed.result.actual
    c.page-placed.result.least c.page-placed.result.moves c.page-placed.ensures.accesses c.page-placed.ensures.actual
    c.page-placed.ensures.least c.page-placed.ensures.moves)
    (subst (λ (plan : List ℕ). AddsLines {E = WriteFault} g.K.Sink c.args.sink.now c.write_page.new.sink c.write_page.result
    (placed_lines c.args.page c.page-placed.result.accesses c.page-placed.result.actual c.page-placed.result.least
    c.page-placed.result.moves plan)) c.plan.ensures c.write_page.ensures)

pub returns-clause-least : goal.returns-clause-least
returns-clause-least g c =
    ap (λ n. c.args.totals.now.least + n)
    (least-placed c.args.cfg.now c.args.items.now c.args.page c.page-placed.new.self.actors c.page-placed.new.self.plan
    c.page-placed.ensures.actors c.page-placed.ensures.best c.page-placed.result.least c.page-placed.ensures.least)

pub returns-clause-actual_low : goal.returns-clause-actual_low
returns-clause-actual_low g c =
    let one = actual-most c.args.cfg.now c.args.items.now c.args.page in
    let is = c.page-placed.ensures.actual in
    let before = c.requires.actual_low in
    let few = c.requires.few in omega arith

pub returns-clause-least_low : goal.returns-clause-least_low
returns-clause-least_low g c =
    let one = least-most c.args.cfg.now c.args.items.now c.args.page (c.requires.places.few c.args.page c.requires.page) in
    let is =
    least-placed c.args.cfg.now c.args.items.now c.args.page c.page-placed.new.self.actors c.page-placed.new.self.plan
    c.page-placed.ensures.actors c.page-placed.ensures.best c.page-placed.result.least c.page-placed.ensures.least in
    let before = c.requires.least_low in omega arith
