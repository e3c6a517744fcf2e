-- the local facts hold of each actor of a state with the invariant
use Rattle.std.specs.Prelude.{ℕ, ◌<◌}
use Rattle.plat_base.specs.Verdicts.{Answer}
use Rattle.plat_base.specs.Machine.{Machine}
use Rattle.plat_laws.specs.Guests.{IsWithinLimits}
use Rattle.plat_events.specs.Privates.{actor_count}
use Rattle.plat_events.specs.Kept.{private_of}
use Rattle.plat_events.specs.Runs.{Fine}
use Rattle.plat_events.specs.Shown.{Shows}
use Rattle.plat_local_laws.specs.Alone.{PrivateOk}
use Rattle.plat_local_laws.proofs.PrivateLaws.{private_ok}

pub alone_ok :
    (m : Machine) (answer : Answer) (s : Fine) (a : ℕ) → IsWithinLimits m → Shows m answer s → a < actor_count m →
    PrivateOk m answer a (private_of m s a)
alone_ok m answer s a limits shows within = private_ok m answer a (private_of m s a) limits within (shows.reached_alone a within)
