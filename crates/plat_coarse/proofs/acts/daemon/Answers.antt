use Rattle.std.proofs.Common.{◌≡◌, ◌<◌, ap, true, arith, refl, ◌∙◌}
use Rattle.plat_base.specs.Machine.{Machine}
use Rattle.plat_base.specs.Seen.{machine}
use Rattle.plat_base.specs.Turns.{is_pass}
use Rattle.plat_coarse.proofs.DaemonLemmas.{IsThawed-dir, IsThawed-length, IsThawed-more, pass_of}
use Rattle.plat_coarse.proofs.acts.daemon.Given as given
use Rattle.plat_coarse.proofs.acts.daemon.Goals as goal

pass : (g : given.Over) (c : goal.After-thaw-arg-1 g) → is_pass c.args.chronicle.now.machine.policy c.args.now ≡ true
pass g c = pass_of c.args.chronicle.now.machine (machine c.config.result.now) c.in-Platinum.t1 c.in-Platinum.t2 c.args.now c.config.ensures
    c.in-Platinum.is c.if-now-t2-ne0.false

inside : (g : given.Over) (c : goal.After-thaw-arg-1 g) → c.loop-page.page < c.args.chronicle.now.machine.pages
inside g c = let pages = ap (λ (m : Machine). m.pages) c.config-2.ensures in omega (arith, pages, c.loop-page-test.true)

pub loop-page-init : goal.loop-page-init
loop-page-init g c = record { thawed = record { machine = refl; state = refl }; spare = refl }

pub thaw-requires-clause-page : goal.thaw-requires-clause-page
thaw-requires-clause-page g c =
    let pages = ap (λ (m : Machine). m.pages) c.loop-page.invariant.thawed.machine in omega (arith, pages, inside g c)

pub thaw-requires-clause-dirs : goal.thaw-requires-clause-dirs
thaw-requires-clause-dirs g c =
    IsThawed-dir c.args.chronicle.now c.loop-page.chronicle (g.P.Policy.answer c.args.policy.now) c.args.ends.now c.args.now
    c.loop-page.page c.loop-page.invariant.thawed
    c.requires.sound (pass g c) (inside g c)

pub thaw-requires-clause-spare : goal.thaw-requires-clause-spare
thaw-requires-clause-spare g c =
    omega (
      arith,
      c.requires.spare,
      c.loop-page.invariant.spare,
      IsThawed-length c.args.chronicle.now c.loop-page.chronicle (g.P.Policy.answer c.args.policy.now) c.args.ends.now c.args.now
          c.loop-page.page c.loop-page.invariant.thawed (pass g c) (inside g c),
    )

pub thaw-requires-clause-few : goal.thaw-requires-clause-few
thaw-requires-clause-few g c =
    omega (
      arith,
      c.requires.few,
      IsThawed-length c.args.chronicle.now c.loop-page.chronicle (g.P.Policy.answer c.args.policy.now) c.args.ends.now c.args.now
          c.loop-page.page c.loop-page.invariant.thawed (pass g c) (inside g c),
    )

pub loop-page-preserved : goal.loop-page-preserved
loop-page-preserved g c = record {
  thawed = IsThawed-more c.args.chronicle.now c.loop-page.chronicle c.thaw.new.chronicle (g.P.Policy.answer c.args.policy.now)
      c.args.ends.now c.args.now c.loop-page.page c.loop-page.invariant.thawed c.thaw.ensures.machine c.thaw.ensures.items;
  spare = c.thaw.ensures.spare ∙ c.loop-page.invariant.spare;
}
