use Rattle.std.proofs.Common.{◌≡◌, ◌≤◌, ◌<◌, ℕ, sym, arith, List, length, None}
use Rattle.plat_base.specs.Seen.{machine}
use Rattle.plat_base.specs.declared.items.Item.{Item}
use Rattle.plat_race.specs.Races.{race_at, first_race}
use Rattle.plat_race.proofs.Racing.{first-none, first-some}
use Rattle.plat_race.proofs.Reordering.{order-legal}
use Rattle.plat_race.proofs.racers.Racer.first.Goals as goal

pub returns-in-Some-clause-first : goal.returns-in-Some-clause-first
returns-in-Some-clause-first c =
    sym (first-some c.args.items.now c.loop-place.place c.in-Some.pair c.loop-place-test.true
    (sym c.in-Some.ensures.race) c.loop-place.invariant.none)

-- every place was met, and no race ends at any
all_met : (items : List Item) (n : ℕ) → length items ≤ n → ((j : ℕ) → j < n → race_at items j ≡ None) → first_race items ≡ None
all_met items n l none = first-none items (λ j k. none j (omega arith))

pub returns-clause-first : goal.returns-clause-first
returns-clause-first c = sym (all_met c.args.items.now c.loop-place.place c.loop-place-test.false c.loop-place.invariant.none)

pub returns-clause-free : goal.returns-clause-free
returns-clause-free c =
    order-legal c.args.items.now (all_met c.args.items.now c.loop-place.place c.loop-place-test.false c.loop-place.invariant.none)
    (machine c.args.cfg.now)
