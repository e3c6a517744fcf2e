use Rattle.std.proofs.Common.{◌≡◌, [], subst, sym, refl}
use Rattle.std.specs.Prelude.{IsTrue}
use Rattle.std.specs.Fmt.{digits}
use Rattle.plat_base.specs.Machine.{Machine, programs_seen, machine_of, is_machine}
use Rattle.plat_base.specs.Canon.{canon_text, is_short}
use Rattle.plat_base.specs.Roomy.{Roomy}
use Rattle.plat_base.specs.declared.configs.Distance.{Distance}
use Rattle.plat_base.specs.declared.configs.Entry.{Entry}
use Rattle.plat_base.specs.declared.configs.Init.{Init}
use Rattle.plat_base.specs.declared.guests.GuestText.{GuestText}
use Rattle.plat_base.specs.declared.configs.Plan.TheVariants.{Robin}
use Rattle.plat_base.specs.declared.policies.PolicyKind.TheVariants.{Platinum}
use Rattle.plat_fine_tests.specs.DaemonTried.{three_nodes}
use Rattle.plat_fine_tests.proofs.daemon_tests.three_nodes.Goals as goal

limits : IsTrue (is_machine three_nodes)
limits = refl

short : IsTrue (is_short three_nodes)
unfolding is_short canon_text digits
short = refl

seen :
    (distances : Roomy Distance) (entries : Roomy Entry) (inits : Roomy Init) (guests : Roomy GuestText) → distances.items ≡ [] →
    entries.items ≡ three_nodes.entries → inits.items ≡ [] → programs_seen guests.items ≡ three_nodes.guests →
    machine_of 3 3 8 3 (Platinum 25 64) 73 Robin distances entries inits guests ≡ three_nodes
seen distances entries inits guests d e i g = simp (d, e, i, g)

pub invariant_of-result : goal.invariant_of-result
invariant_of-result c =
    let is = seen c.new.result c.in_ok-entries.entries c.new-2.result c.in_ok-guests.guests c.new.ensures
    c.in_ok-entries.ensures c.new-2.ensures c.in_ok-guests.ensures in
    record {
      limits = subst (λ (m : Machine). IsTrue (is_machine m)) (sym is) limits;
      short = subst (λ (m : Machine). IsTrue (is_short m)) (sym is) short;
    }
