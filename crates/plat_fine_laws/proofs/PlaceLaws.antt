-- where polls and scans lead: to places of the same session
use Rattle.std.specs.Prelude.{◌≡◌, ℕ, ◌+◌, ◌==◌, ◌&&◌, not, nat_lt, if◌then◌else◌, Bool, true, false, length, drop, Option, None}
use Rattle.std.proofs.Common.{refl, ap, sym, ◌∙◌}
use Rattle.std.specs.Option.{option_map, option_map_or}
use Rattle.std.specs.List.{list_any}
use Rattle.plat_base.specs.Machine.{Machine}
use Rattle.plat_base.specs.Pages.{space_of, entries_of_space}
use Rattle.plat_base.specs.declared.items.Message.{Message}
use Rattle.plat_base.specs.declared.items.Message.TheVariants as message
use Rattle.plat_base.specs.declared.items.Moment.{Moment}
use Rattle.plat_base.specs.declared.items.Moment.TheVariants as moment
use Rattle.plat_base.specs.declared.endings.End.TheVariants as end
use Rattle.plat_events.specs.Words.{has_bit, has_invalidate, has_restrict}
use Rattle.plat_events.specs.Sessions.{Session}
use Rattle.plat_events.specs.Privates.{Onward, NewTurn, TurnOver, Relock, Rewait, Place, Polling, Looking, Applying, Leaving, Private}
use Rattle.plat_events.specs.Scans.{turn_over, go_on, scan_from, poll_place, look_place}
use Rattle.plat_events.specs.Events.{at}
use Rattle.plat_events.specs.Kept.{session_behind, has_left, activation_at, message_at, is_unscanned}
use Rattle.plat_events.specs.Views.{is_restrict, place_view}
use Rattle.plat_fine_laws.specs.Changes.{GoesOn, Moves}

-- ---- each such place goes on

pub polling-goes : (onward : Onward) → GoesOn (session_behind onward) (Polling onward)
polling-goes onward = record { session = refl; over = refl; left = refl; ended = refl; framed = λ e. absurd cc }

pub looking-goes : (i : ℕ) (moment : Moment) (onward : Onward) → GoesOn (session_behind onward) (Looking i moment onward)
looking-goes i moment onward = record { session = refl; over = refl; left = refl; ended = refl; framed = λ e. absurd cc }

pub applying-goes : (i : ℕ) (msg : Message) (moment : Moment) (onward : Onward) →
    GoesOn (session_behind onward) (Applying i msg moment onward)
applying-goes i msg moment onward = record { session = refl; over = refl; left = refl; ended = refl; framed = λ e. absurd cc }

pub goes-if : (session : Option Session) (b : Bool) (x y : Place) → GoesOn session x → GoesOn session y →
    GoesOn session (if b then x else y)
goes-if session true x y gx gy = gx
goes-if session false x y gx gy = gy

pub turn_over-goes : (m : Machine) (turns : ℕ) → GoesOn None (turn_over m turns)
turn_over-goes m turns =
    goes-if None (turns == m.budget) (Leaving end.Spent) (Polling NewTurn)
    (record { session = refl; over = refl; left = refl; ended = refl; framed = λ e. absurd cc }) (polling-goes NewTurn)

pub go_on-goes : (m : Machine) (turns : ℕ) (onward : Onward) → GoesOn (session_behind onward) (go_on m turns onward)
go_on-goes m turns NewTurn = record { session = refl; over = refl; left = refl; ended = refl; framed = λ e. absurd cc }
go_on-goes m turns TurnOver = turn_over-goes m turns
go_on-goes m turns (Relock fault) = record { session = refl; over = refl; left = refl; ended = refl; framed = λ e. absurd cc }
go_on-goes m turns (Rewait session) = record { session = refl; over = refl; left = refl; ended = refl; framed = λ e. absurd cc }

pub scan_from-goes :
    (m : Machine) (turns space i : ℕ) (moment : Moment) (onward : Onward) →
    GoesOn (session_behind onward) (scan_from m turns space i moment onward)
scan_from-goes m turns space i moment onward =
    goes-if (session_behind onward) (nat_lt i (length (entries_of_space m space))) (Looking i moment onward) (go_on m turns onward)
    (looking-goes i moment onward) (go_on-goes m turns onward)

pub poll_place-goes :
    (m : Machine) (p : Private) (onward : Onward) (n : ℕ) → GoesOn (session_behind onward) (poll_place m p onward n)
poll_place-goes m p onward n =
    goes-if (session_behind onward) (has_bit n p.guest.space) (scan_from m p.turns p.guest.space 0 moment.Interrupt onward)
    (go_on m p.turns onward) (scan_from-goes m p.turns p.guest.space 0 moment.Interrupt onward) (go_on-goes m p.turns onward)

pub look_place-goes :
    (m : Machine) (a : ℕ) (p : Private) (i : ℕ) (moment : Moment) (onward : Onward) (n : ℕ) →
    GoesOn (session_behind onward) (look_place m a p i moment onward n)
look_place-goes m a p i moment onward n =
    goes-if (session_behind onward) (has_invalidate n a) (Applying i message.Invalidate moment onward)
    (if has_restrict n a then Applying i message.Restrict moment onward else scan_from m p.turns p.guest.space (i + 1) moment onward)
    (applying-goes i message.Invalidate moment onward)
    (goes-if (session_behind onward) (has_restrict n a) (Applying i message.Restrict moment onward)
    (scan_from m p.turns p.guest.space (i + 1) moment onward) (applying-goes i message.Restrict moment onward)
    (scan_from-goes m p.turns p.guest.space (i + 1) moment onward))

-- ---- a move from one such place to another

pub moves-on :
    (m : Machine) (a : ℕ) (p : Private) (place : Place) (session : Option Session) → GoesOn session p.place → GoesOn session place →
    Moves m a p (at p place)
moves-on m a p place session from to = record {
  turns = refl;
  space = refl;
  pmap = refl;
  journal = refl;
  running = ap (option_map (λ (x : Session). record { actor = a; now = p.now; session = x })) (to.session ∙ sym from.session);
  over = λ inside. to.over ∙ sym from.over;
  left = λ inside. to.left ∙ sym from.left;
  ended = λ inside. to.ended ∙ sym from.ended;
  framed = λ enough. to.framed;
}

-- ---- what the places say of an entry

pub place_view-same :
    (m : Machine) (p after : Private) (e : ℕ) → after.guest.space ≡ p.guest.space → has_left after.place ≡ has_left p.place →
    is_unscanned m after e ≡ is_unscanned m p e → message_at m after after.place ≡ message_at m p p.place →
    place_view m after e ≡ place_view m p e
place_view-same m p after e space left unscanned message = λ i. record {
  active = space_of m e == space i && not (left i);
  usable = (space_of m e == space i && not (left i)) && not (unscanned i);
  restricting = option_map_or (λ (x : ℕ × Message). x.0 == e && is_restrict x.1) (message i) false;
  invalidating = option_map_or (λ (x : ℕ × Message). x.0 == e && not (is_restrict x.1)) (message i) false;
}

-- a place without an activation scan under way, and without a message about to be applied
pub record IsPlain (m : Machine) (p : Private) (place : Place) : Type 0 where
  pub scan : activation_at place ≡ None
  pub message : message_at m p place ≡ None

pub plain-if : (m : Machine) (p : Private) (b : Bool) (x y : Place) → IsPlain m p x → IsPlain m p y → IsPlain m p (if b then x else y)
plain-if m p true x y px py = px
plain-if m p false x y px py = py

pub go_on-plain : (m : Machine) (p : Private) (turns : ℕ) (onward : Onward) → IsPlain m p (go_on m turns onward)
go_on-plain m p turns NewTurn = record { scan = refl; message = refl }
go_on-plain m p turns TurnOver =
    plain-if m p (turns == m.budget) (Leaving end.Spent) (Polling NewTurn) (record { scan = refl; message = refl })
    (record { scan = refl; message = refl })
go_on-plain m p turns (Relock fault) = record { scan = refl; message = refl }
go_on-plain m p turns (Rewait session) = record { scan = refl; message = refl }

pub unscanned-none : (m : Machine) (p : Private) (e : ℕ) → activation_at p.place ≡ None → is_unscanned m p e ≡ false
unscanned-none m p e none =
    ap (λ (o : Option ℕ). option_map_or (λ i. list_any (λ x. x == e) (drop i (entries_of_space m p.guest.space))) o false) none

pub plain_view :
    (m : Machine) (p after : Private) (e : ℕ) → after.guest.space ≡ p.guest.space → has_left after.place ≡ has_left p.place →
    IsPlain m p p.place → IsPlain m after after.place → place_view m after e ≡ place_view m p e
plain_view m p after e space left from to =
    place_view-same m p after e space left (unscanned-none m after e to.scan ∙ sym (unscanned-none m p e from.scan))
    (to.message ∙ sym from.message)
