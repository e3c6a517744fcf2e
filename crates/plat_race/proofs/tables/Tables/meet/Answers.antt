use Rattle.std.proofs.Common.{◌≡◌, ◌+◌, ◌∙◌, suc, false, arith, ap, sym}
use Rattle.std.proofs.lemmas.List.{get_or_default}
use Rattle.plat_base.specs.declared.items.Access.{Access}
use Rattle.std.specs.Prelude.{Bool}
use Rattle.plat_base.specs.Items.{is_access_that}
use Rattle.plat_race.specs.Races.{item_at, no_item}
use Rattle.plat_race.proofs.Racing.{race_at-other}
use Rattle.plat_race.proofs.Steps.{not_access, after-other}
use Rattle.plat_race.proofs.tables.Tables.meet.Goals as goal

pub returns-in_default : goal.returns-in_default
returns-in_default c =
    let items = c.args.items.now
    in let t = c.args.self.now
    in let next : c.args.place + 1 ≡ suc c.args.place = omega arith
    in let there : item_at items c.args.place ≡ c.index-items-place.result =
    get_or_default items c.args.place no_item c.index-items-place.result c.requires.place ∙ sym c.index-items-place.is
    in let none : (test : Access → Bool) → is_access_that test (item_at items c.args.place) ≡ false =
    (λ test. ap (is_access_that test) there ∙ not_access c.index-items-place.result c.in_default.not-Access test)
    in record {
      race = sym (race_at-other items c.args.place none);
      met =
          rw next
          (after-other items c.args.place t.pages t.words t.clocks.items t.adds.items t.accesses.items t.writes.items none c.requires.met);
      suits = c.requires.suits;
    }
