-- the local facts of a private state hold of every one that is reached alone, and its journal has room
use Rattle.std.proofs.Common.{◌≡◌, ℕ, ◌<◌, refl}
use Rattle.plat_base.specs.Verdicts.{Answer}
use Rattle.plat_base.specs.Machine.{Machine}
use Rattle.plat_laws.specs.Guests.{IsWithinLimits}
use Rattle.plat_events.specs.Privates.{Private, actor_count, first_private}
use Rattle.plat_events.specs.Shown.{IsReachedAlone}
use Rattle.plat_local_laws.specs.Numbers.{PassesOk, NumbersOk}
use Rattle.plat_local_laws.specs.Alone.{PrivateOk}
use Rattle.plat_local_laws.proofs.AloneLaws.{followed, IsKept, alone-keeps}
use Rattle.plat_local_laws.proofs.StandingLaws.{actor-is, standing-kept, standing-first}
use Rattle.plat_local_laws.proofs.GuestStepLaws.{guest-kept, guest-first}
use Rattle.plat_local_laws.proofs.CountLaws.{CountsOk, place-counts, counts-first}
use Rattle.plat_local_laws.proofs.RegisterLaws.{place-registers}
use Rattle.plat_local_laws.proofs.PassLaws.{place-passes, period-some, passes-first}

pub counts-of : (m : Machine) (a : ℕ) (p : Private) → NumbersOk m a p → a < m.nodes → CountsOk p
counts-of m a p h l = record { changes = h.changes l; operations = h.operations l; messages = h.messages l }

numbers-from : (m : Machine) (a : ℕ) (p : Private) → (a < m.nodes → CountsOk p) → (a ≡ m.nodes → PassesOk m p) → NumbersOk m a p
numbers-from m a p h k = record {
  changes = λ l. (h l).changes;
  operations = λ l. (h l).operations;
  messages = λ l. (h l).messages;
  passes = k;
}

private-kept : (m : Machine) (answer : Answer) (a : ℕ) → IsWithinLimits m → a < actor_count m → IsKept m answer a (PrivateOk m answer a)
private-kept m answer a h l p n e k = record {
  standing = standing-kept m answer a p n h (actor-is m a l) e k.standing;
  guest = guest-kept m answer a p n e k.standing k.guest;
  registers = place-registers m answer a p n p.place h k.standing.place e k.registers;
  numbers = numbers-from m a (followed m answer a p n)
      (λ q. place-counts m answer a p n p.place q refl (counts-of m a p k.numbers q) k.standing.place e)
      (λ q. place-passes m answer a p n p.place (period-some m a h l q) q refl (k.numbers.passes q) k.standing.place e);
}

private-first : (m : Machine) (answer : Answer) (a : ℕ) → IsWithinLimits m → a < actor_count m → PrivateOk m answer a (first_private m a)
private-first m answer a h l = record {
  standing = standing-first m answer a h (actor-is m a l);
  guest = guest-first m a (actor-is m a l);
  registers = refl;
  numbers = numbers-from m a (first_private m a) (λ q. counts-first m a q) (λ q. passes-first m a (period-some m a h l q));
}

pub private_ok :
    (m : Machine) (answer : Answer) (a : ℕ) (p : Private) → IsWithinLimits m → a < actor_count m → IsReachedAlone m answer a p
    → PrivateOk m answer a p
private_ok m answer a p h l r =
    alone-keeps m answer a (PrivateOk m answer a) (private-kept m answer a h l) (private-first m answer a h l) p r
