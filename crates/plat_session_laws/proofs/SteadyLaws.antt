-- an actor goes from one place without a scan and without a message to another
use Rattle.std.specs.Prelude.{◌≡◌, ◌≢◌, ℕ, Option, Some}
use Rattle.std.proofs.Common.{ap, sym, ◌∙◌}
use Rattle.plat_base.specs.Machine.{Machine}
use Rattle.plat_base.specs.Rules.{HasEnoughFrames}
use Rattle.plat_base.specs.declared.items.Item.{Item}
use Rattle.plat_base.specs.declared.endings.End.TheVariants as end
use Rattle.plat_events.specs.Sessions.{Session}
use Rattle.plat_events.specs.Privates.{InSession, Locking, Private, is_over}
use Rattle.plat_events.specs.Sessions.{Fault}
use Rattle.plat_events.specs.Events.{with_item}
use Rattle.plat_events.specs.Kept.{session_of, has_left, activation_at, message_at}
use Rattle.plat_events.specs.Runs.{end_at}
use Rattle.plat_events.specs.Shown.{goes_to}
use Rattle.plat_fine_laws.specs.Changes.{IsBy}
use Rattle.plat_fine_laws.proofs.PlaceLaws.{plain_view}
use Rattle.plat_session_laws.specs.OnePage.{ActorGoes, IsSteady}

pub steady-goes :
    (m : Machine) (a : ℕ) (p after : Private) (made : Option Item) (page : ℕ) → IsSteady m p → IsSteady m after →
    after.turns ≡ p.turns → after.now ≡ p.now → after.guest.space ≡ p.guest.space → after.journal ≡ with_item p.journal made →
    IsBy a made → (HasEnoughFrames m → goes_to after.place ≢ Some end.NoFrames) →
    ((x : Session) → session_of p.place ≡ Some x → x.fault.page ≡ page) →
    ((x : Session) → session_of after.place ≡ Some x → x.fault.page ≡ page) → ActorGoes m a p after made page
steady-goes m a p after made page from to turns now space journal own framed was is = record {
  turns = turns;
  now = now;
  space = space;
  journal = journal;
  own = own;
  over = λ inside. to.over ∙ sym from.over;
  left = λ inside. to.left ∙ sym from.left;
  ended = λ inside. to.ended ∙ sym from.ended;
  framed = framed;
  places = λ e.
      plain_view m p after e space (to.left ∙ sym from.left) (record { scan = from.scan; message = from.message })
      (record { scan = to.scan; message = to.message });
  was_on = was;
  is_on = is;
}

pub steady-session : (m : Machine) (p : Private) (x : Session) → p.place ≡ InSession x → IsSteady m p
steady-session m p x stands = record {
  over = ap is_over stands;
  left = ap has_left stands;
  ended = ap end_at stands;
  scan = ap activation_at stands;
  message = ap (message_at m p) stands;
}

pub steady-locking : (m : Machine) (p : Private) (f : Fault) → p.place ≡ Locking f → IsSteady m p
steady-locking m p f stands = record {
  over = ap is_over stands;
  left = ap has_left stands;
  ended = ap end_at stands;
  scan = ap activation_at stands;
  message = ap (message_at m p) stands;
}
