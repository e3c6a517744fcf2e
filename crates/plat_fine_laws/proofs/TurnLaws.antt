-- what a turn does with its tick leaves the translations, the space and the items of a processor
use Rattle.std.specs.Prelude.{◌≡◌, ℕ, zero, suc, ◌*◌, ◌<◌, ◌≤◌, ◌==◌, if◌then◌else◌, List, [], ◌∷◌, slice_get, Some, None}
use Rattle.std.proofs.Common.{refl, ap, ◌∙◌, arith}
use Rattle.std.specs.List.{sum_by}
use Rattle.std.proofs.lemmas.List.Sums.{sum_by-cons}
use Rattle.plat_base.specs.Machine.{Machine}
use Rattle.plat_base.specs.GuestRun.{Reach, reach_of, want_of}
use Rattle.plat_base.specs.Flat.{is_write}
use Rattle.plat_base.specs.Held.{has_right}
use Rattle.plat_base.specs.Accesses.{cause_of}
use Rattle.plat_base.specs.declared.endings.End.TheVariants as end
use Rattle.plat_base.specs.declared.guests.Want.{Want}
use Rattle.plat_base.specs.declared.guests.Want.TheVariants as want
use Rattle.plat_laws.proofs.GuestLaws.{space_after, space-guest_after}
use Rattle.plat_events.specs.Privates.{Polling, NewTurn, Loading, Expecting, Locking, Leaving, Private, translation_at}
use Rattle.plat_events.specs.Scans.{turn_over}
use Rattle.plat_events.specs.Events.{entry_of, look_up_place, turn_does}
use Rattle.plat_fine_laws.specs.Changes.{GoesOn}
use Rattle.plat_fine_laws.proofs.PlaceLaws.{goes-if, turn_over-goes, IsPlain, plain-if}

pub record Turned (m : Machine) (q after : Private) : Type 0 where
  pub turns : after.turns ≡ q.turns
  pub now : after.now ≡ q.now
  pub pmap : after.pmap ≡ q.pmap
  pub space : after.guest.space ≡ q.guest.space
  pub goes : GoesOn None after.place
  pub plain : (x : Private) → IsPlain m x after.place

pub turn_over-plain : (m : Machine) (x : Private) (turns : ℕ) → IsPlain m x (turn_over m turns)
turn_over-plain m x turns =
    plain-if m x (turns == m.budget) (Leaving end.Spent) (Polling NewTurn) (record { scan = refl; message = refl })
    (record { scan = refl; message = refl })

look_up-goes : (m : Machine) (p : Private) (r : Reach) → GoesOn None (look_up_place m p r)
look_up-goes m p r =
    goes-if None (has_right r.kind (translation_at p (entry_of m r))) (if is_write r.kind then Expecting else Loading)
    (Locking (record { page = r.page; entry = Some (entry_of m r); cause = cause_of r.kind }))
    (goes-if None (is_write r.kind) Expecting Loading
    (record { session = refl; over = refl; left = refl; ended = refl; framed = λ e. absurd cc })
    (record { session = refl; over = refl; left = refl; ended = refl; framed = λ e. absurd cc }))
    (record { session = refl; over = refl; left = refl; ended = refl; framed = λ e. absurd cc })

look_up-plain : (m : Machine) (p x : Private) (r : Reach) → IsPlain m x (look_up_place m p r)
look_up-plain m p x r =
    plain-if m x (has_right r.kind (translation_at p (entry_of m r))) (if is_write r.kind then Expecting else Loading)
    (Locking (record { page = r.page; entry = Some (entry_of m r); cause = cause_of r.kind }))
    (plain-if m x (is_write r.kind) Expecting Loading (record { scan = refl; message = refl }) (record { scan = refl; message = refl }))
    (record { scan = refl; message = refl })

pub turned : (m : Machine) (a : ℕ) (q : Private) (w : Want) → want_of m a q.guest ≡ w → Turned m q (turn_does m a q w)
turned m a q want.Local is = record {
  turns = refl;
  now = refl;
  pmap = refl;
  space = space-guest_after m a q.guest 0 ∙ ap (space_after q.guest.space) is;
  goes = turn_over-goes m q.turns;
  plain = λ x. turn_over-plain m x q.turns;
}
turned m a q (want.Access kind space addr operand) is = record {
  turns = refl;
  now = refl;
  pmap = refl;
  space = refl;
  goes = look_up-goes m q (reach_of m kind space addr operand);
  plain = λ x. look_up-plain m q x (reach_of m kind space addr operand);
}
turned m a q (want.Switch space) is = record {
  turns = refl;
  now = refl;
  pmap = refl;
  space = refl;
  goes = record { session = refl; over = refl; left = refl; ended = refl; framed = λ e. absurd cc };
  plain = λ x. record { scan = refl; message = refl };
}
turned m a q (want.Print value) is = record {
  turns = refl;
  now = refl;
  pmap = refl;
  space = space-guest_after m a q.guest 0 ∙ ap (space_after q.guest.space) is;
  goes = turn_over-goes m q.turns;
  plain = λ x. turn_over-plain m x q.turns;
}
turned m a q want.Halted is = record {
  turns = refl;
  now = refl;
  pmap = refl;
  space = refl;
  goes = record { session = refl; over = refl; left = refl; ended = refl; framed = λ e. absurd cc };
  plain = λ x. record { scan = refl; message = refl };
}
turned m a q want.Trap is = record {
  turns = refl;
  now = refl;
  pmap = refl;
  space = refl;
  goes = record { session = refl; over = refl; left = refl; ended = refl; framed = λ e. absurd cc };
  plain = λ x. record { scan = refl; message = refl };
}

-- a sum of numbers of which the first n are bounded and the others are 0
pub sum-most :
    {A : Type 0} (f : A → ℕ) (n b : ℕ) (xs : List A) → ((i : ℕ) (x : A) → slice_get xs i ≡ Some x → i < n → f x ≤ b) →
    ((i : ℕ) (x : A) → slice_get xs i ≡ Some x → n ≤ i → f x ≡ 0) → sum_by f xs ≤ n * b
sum-most f n b [] most none = omega arith
sum-most f zero b (x ∷ xs) most none =
    let rest = sum-most f zero b xs (λ i y here below. absurd (omega arith)) (λ i y here above. none (suc i) y here (omega arith)) in
    let first = none zero x refl (omega arith) in omega (arith, sum_by-cons f x xs, rest, first)
sum-most f (suc n) b (x ∷ xs) most none =
    let rest =
    sum-most f n b xs (λ i y here below. most (suc i) y here (omega arith)) (λ i y here above. none (suc i) y here (omega arith)) in
    let first = most zero x refl (omega arith) in omega (arith, sum_by-cons f x xs, rest, first)
