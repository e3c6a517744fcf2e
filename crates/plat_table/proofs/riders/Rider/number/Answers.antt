use Rattle.std.proofs.Common.{◌≡◌, List, map, ap, sym, ◌∙◌}
use Rattle.std.specs.Prelude.{Some, slice_get, slice_index_or}
use Rattle.atomic_table.specs.Table.{Me}
use Rattle.plat_table.specs.declared.actors.Actor.{Actor}
use Rattle.plat_table.specs.Actors.{held}
use Rattle.plat_table.specs.Riders.{RiderSeen, numbers_of}
use Rattle.plat_table.specs.Rule.{Held, Known}
use Rattle.plat_table.proofs.RiderLemmas.{held-at, number-at, stands-at}
use Rattle.plat_table.proofs.riders.Rider.number.Goals as goal

pub returns : goal.returns
returns c =
    let m = c.self.inside.seat.me.0.machine in
    let actors = c.self.inside.actors.items in
    let x = c.index-deref-at.result in
    let crew : c.args.self.now.crew ≡ map (held m) actors =
    ap (λ (r : RiderSeen). r.crew) (sym c.self.view_is) ∙ ap (λ (me : Me _ Known). me.0.crew) c.self.invariant.seat in
    let there = stands-at m actors c.args.self.now.crew c.args.at x crew c.requires
    (c.index-deref-at.is ∙ ap (λ xs. slice_index_or xs c.args.at x) c.deref.ensures.0) in
    ap (λ (y : Actor). Some y.number) (sym c.index-deref-at.is) ∙ sym (ap (λ (hs : List Held). slice_get (numbers_of hs) c.args.at) crew
    ∙ number-at (map (held m) actors) c.args.at (held m x) (held-at m actors c.args.at x there))
