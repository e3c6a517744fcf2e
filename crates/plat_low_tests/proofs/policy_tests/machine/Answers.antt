use Rattle.std.proofs.Common.{◌≡◌, [], ◌∷◌, subst, sym, refl, replicate}
use Rattle.std.specs.Prelude.{IsTrue}
use Rattle.std.specs.Fmt.{digits}
use Rattle.plat_base.specs.Machine.{Machine, robin, programs_seen, machine_of, is_machine}
use Rattle.plat_base.specs.Canon.{canon_text, is_short}
use Rattle.plat_base.specs.Roomy.{Roomy}
use Rattle.plat_base.specs.declared.configs.Distance.{Distance}
use Rattle.plat_base.specs.declared.configs.Entry.{Entry}
use Rattle.plat_base.specs.declared.configs.Init.{Init}
use Rattle.plat_base.specs.declared.guests.GuestText.{GuestText}
use Rattle.plat_base.specs.declared.configs.Plan.TheVariants.{Robin}
use Rattle.plat_base.specs.declared.policies.PolicyKind.TheVariants.{Replicate}
use Rattle.plat_samples.specs.Samples.{idle}
use Rattle.plat_low_tests.proofs.policy_tests.machine.Goals as goal

four : Machine
four = record {
  nodes = 4;
  frames = 4;
  words = 4;
  pages = 1;
  policy = Replicate;
  budget = 100;
  schedule = robin;
  distances = record { a = 3; b = 0; d = 5 } ∷ record { a = 3; b = 1; d = 5 } ∷ [];
  entries = [];
  inits = [];
  guests = replicate 4 idle;
}

four-limits : IsTrue (is_machine four)
unfolding four
four-limits = refl

four-short : IsTrue (is_short four)
unfolding four is_short canon_text digits
four-short = refl

four-seen : (distances : Roomy Distance) (entries : Roomy Entry) (inits : Roomy Init) (guests : Roomy GuestText) →
    distances.items ≡ four.distances → entries.items ≡ [] → inits.items ≡ [] → programs_seen guests.items ≡ four.guests →
    machine_of 4 4 4 1 Replicate 100 Robin distances entries inits guests ≡ four
unfolding four
four-seen distances entries inits guests d e i g = rw (d, e, i, g) refl

pub invariant_of-result : goal.invariant_of-result
unfolding four
invariant_of-result c =
    let seen : machine_of 4 4 4 1 Replicate 100 Robin c.in_ok-distances.distances c.in_ok-entries.entries c.new.result c.in_ok-guests.guests
    ≡ four =
    four-seen c.in_ok-distances.distances c.in_ok-entries.entries c.new.result c.in_ok-guests.guests
    c.in_ok-distances.ensures c.in_ok-entries.ensures c.new.ensures c.in_ok-guests.ensures in
    record {
      limits = subst (λ (m : Machine). IsTrue (is_machine m)) (sym seen) four-limits;
      short = subst (λ (m : Machine). IsTrue (is_short m)) (sym seen) four-short;
    }
