use Rattle.std.proofs.Common.{◌≡◌, ◌/◌, Some, subst, sym, ◌∙◌}
use Rattle.plat_base.specs.Machine.{Machine}
use Rattle.plat_base.specs.Pages.{entry_at}
use Rattle.plat_base.specs.GuestRun.{reach_of}
use Rattle.plat_coarse.specs.Reached.{reach_seen}
use Rattle.plat_coarse.proofs.MachineLemmas.{limits_of}
use Rattle.plat_coarse.proofs.ReachLemmas.{LeadsTo, LeadsTo-found}
use Rattle.plat_coarse.proofs.acts.access.Given as given
use Rattle.plat_coarse.proofs.acts.access.Goals as goal

leads : (g : given.Over) (c : goal.After-reach-1 g) →
    LeadsTo c.args.chronicle.now.machine c.in-Some.entry (reach_seen c.reach_of-reach.result)
leads g c =
    let m = c.args.chronicle.now.machine in
    let is = c.config-cfg.ensures in
    let P : Machine → Type 0 = λ m. entry_at m c.args.space (c.args.addr / m.words) ≡ Some c.in-Some.entry in
    let Q : Machine → Type 0 = λ m. reach_seen c.reach_of-reach.result ≡ reach_of m c.args.kind c.args.space c.args.addr c.args.operand in
    LeadsTo-found m c.args.kind c.args.space c.args.addr c.args.operand c.in-Some.entry (reach_seen c.reach_of-reach.result)
    (limits_of c.config-cfg.result.now m is)
    (subst P is (sym c.entry_at.ensures ∙ c.in-Some.is))
    (subst Q is c.reach_of-reach.ensures)

pub value-value-requires : goal.value-value-requires
value-value-requires g c =
    let m = c.args.chronicle.now.machine in
    let is = c.config-cfg.ensures in
    let P : Machine → Type 0 = λ m. entry_at m c.args.space (c.args.addr / m.words) ≡ Some c.in-Some.entry in
    let Q : Machine → Type 0 = λ m. reach_seen c.reach_of-reach.result ≡ reach_of m c.args.kind c.args.space c.args.addr c.args.operand in
    let to = LeadsTo-found m c.args.kind c.args.space c.args.addr c.args.operand c.in-Some.entry (reach_seen c.reach_of-reach.result)
    (limits_of c.config-cfg.result.now m is)
    (subst P is (sym c.entry_at.ensures ∙ c.in-Some.is))
    (subst Q is c.reach_of-reach.ensures) in
    record { page = to.page; word = to.word }

pub access_through-end-requires-clause-entry : goal.access_through-end-requires-clause-entry
access_through-end-requires-clause-entry g c = (leads g c).entry

pub access_through-end-requires-clause-page : goal.access_through-end-requires-clause-page
access_through-end-requires-clause-page g c = (leads g c).page

pub access_through-end-requires-clause-dirs : goal.access_through-end-requires-clause-dirs
access_through-end-requires-clause-dirs g c = c.requires.dirs c.reach_of-reach.result.page (leads g c).page
