use Rattle.std.proofs.Common.{◌≡◌, ◌≤◌, ◌<◌, ℕ, Bool, true, false, sym, ◌∙◌, arith}
use Rattle.std.specs.Prelude.{◌&&◌, nat_le, slice_index}
use Rattle.std.proofs.lemmas.Bool.Decides.{nat_tests}
use Rattle.plat_race.specs.Races.{is_conflict}
use Rattle.plat_race.proofs.Racing.{race-by_clock}
use Rattle.plat_race.proofs.pairs.is_race.Goals as goal

passed : (known place : ℕ) (b r : Bool) → known ≤ place → r ≡ (b && nat_le known place) → b ≡ r
passed known place true r l e = grind (arith, nat_tests)
passed known place false r l e = sym e

not_passed : (known place : ℕ) (b r : Bool) → place < known → r ≡ (b && nat_le known place) → nat_le known place ≡ r
not_passed known place true r l e = sym e
not_passed known place false r l e = grind (arith, nat_tests)

pub returns-then-known-place : goal.returns-then-known-place
returns-then-known-place c = λ items n there here below heard.
    let a = c.in-Access.access
    in c.is_conflict.ensures
    ∙ passed (slice_index c.args.clock.now a.actor) c.args.place (is_conflict a c.args.later.now) _ c.if-known-place.true
    (race-by_clock items n c.args.later.now here c.args.place (slice_index c.args.clock.now a.actor) a (there ∙ c.in-Access.is) below
    (heard a.actor (c.requires.mark a c.in-Access.is)))

pub returns-else-known-place : goal.returns-else-known-place
returns-else-known-place c = λ items n there here below heard.
    let a = c.in-Access.access
    in not_passed (slice_index c.args.clock.now a.actor) c.args.place (is_conflict a c.args.later.now) _ c.if-known-place.false
    (race-by_clock items n c.args.later.now here c.args.place (slice_index c.args.clock.now a.actor) a (there ∙ c.in-Access.is) below
    (heard a.actor (c.requires.mark a c.in-Access.is)))
