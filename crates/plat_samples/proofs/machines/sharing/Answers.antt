use Rattle.std.proofs.Common.{◌≡◌, [], ◌∷◌, refl}
use Rattle.plat_base.specs.Machine.{programs_seen}
use Rattle.plat_samples.specs.Samples.{entry, reading, writing}
use Rattle.plat_samples.proofs.SampleLemmas.{sharing_limits, sharing_short}
use Rattle.plat_samples.proofs.machines.sharing.Goals as goal

pub small-requires : goal.small-requires
small-requires c =
    let entries : c.entry.result ∷ [] ≡ entry 0 0 ∷ [] = rw c.entry.ensures refl in
    let guests : programs_seen c.in_ok-guests.guests.items ≡ writing ∷ reading ∷ [] =
    rw (c.in_ok-guests.ensures, c.in_ok-writer.ensures, c.in_ok-reader.ensures) refl in
    record {
      limits = sharing_limits c.args.policy (c.entry.result ∷ []) (programs_seen c.in_ok-guests.guests.items) c.requires entries guests;
      short = sharing_short c.args.policy (c.entry.result ∷ []) (programs_seen c.in_ok-guests.guests.items) c.requires entries guests;
    }
