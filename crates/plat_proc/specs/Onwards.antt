-- where a poll and its scan lead, as the code keeps it, and what becomes of a handler that waited for them
use Rattle.std.specs.Prelude.{◌≡◌, ℕ, ◌+◌, true, if◌then◌else◌, Option, Some, None}
use Rattle.plat_base.specs.Machine.{Machine}
use Rattle.plat_base.specs.declared.items.Message.TheVariants as message
use Rattle.plat_base.specs.declared.items.Moment.{Moment}
use Rattle.plat_base.specs.declared.items.Moment.TheVariants as moment
use Rattle.plat_handler.specs.HandlerSeen.{HandlerSeen}
use Rattle.plat_handler.specs.Stages.{stage_polled}
use Rattle.plat_events.specs.Privates as events
use Rattle.plat_events.specs.Scans.{go_on, scan_from}
use Rattle.plat_events.specs.Words.{has_bit, has_invalidate, has_restrict}
use Rattle.plat_proc.specs.declared.places.Onward.{Onward}
use Rattle.plat_proc.specs.declared.places.Place.{Place}
use Rattle.plat_proc.specs.declared.places.Place.TheVariants as place
use Rattle.plat_proc.specs.Places.{HandlesWell, Waits, WaitsWell, onward_seen, place_seen}

-- a handler goes on behind its poll
abbrev pub handler_polled : Option HandlerSeen → Option HandlerSeen
handler_polled None = None
handler_polled (Some h) = Some (record h { stage = stage_polled h.stage })

-- the handler of a processor that goes to a place
abbrev pub handler_at : Option HandlerSeen → Place → Option HandlerSeen
handler_at handler (place.Polling o) = handler
handler_at handler (place.Looking i moment o) = handler
handler_at handler (place.Applying i message moment o) = handler
handler_at handler place.Ticking = handler
handler_at handler (place.Switching space) = handler
handler_at handler place.Loading = handler
handler_at handler place.Expecting = handler
handler_at handler (place.Exchanging seen) = handler
handler_at handler place.Faulting = handler_polled handler
handler_at handler (place.Leaving e) = handler
handler_at handler (place.Lessening e) = handler
handler_at handler (place.Gone e) = handler

-- it may go there: a fault goes on where its handler waits for the poll
abbrev pub MayGo : Option HandlerSeen → Place → Type 0
MayGo handler (place.Polling o) = HandlesWell handler (place.Polling o)
MayGo handler (place.Looking i moment o) = HandlesWell handler (place.Looking i moment o)
MayGo handler (place.Applying i message moment o) = HandlesWell handler (place.Applying i message moment o)
MayGo handler place.Ticking = HandlesWell handler place.Ticking
MayGo handler (place.Switching space) = HandlesWell handler (place.Switching space)
MayGo handler place.Loading = HandlesWell handler place.Loading
MayGo handler place.Expecting = HandlesWell handler place.Expecting
MayGo handler (place.Exchanging seen) = HandlesWell handler (place.Exchanging seen)
MayGo handler place.Faulting = Waits true handler
MayGo handler (place.Leaving e) = HandlesWell handler (place.Leaving e)
MayGo handler (place.Lessening e) = HandlesWell handler (place.Lessening e)
MayGo handler (place.Gone e) = HandlesWell handler (place.Gone e)

-- the place is one that a processor with this handler may go to, and stands there as the events have it
pub record LeadsTo (handler : Option HandlerSeen) (place : Place) (there : events.Place) : Type 0 where
  pub may : MayGo handler place
  pub is : place_seen (handler_at handler place) place ≡ there

-- whatever handler waits for the poll and its scan, the place is the one that the events go to
abbrev pub LeadsOn : Onward → Place → (events.Onward → events.Place) → Type 0
LeadsOn onward place there = (handler : Option HandlerSeen) → WaitsWell handler onward
    → LeadsTo handler place (there (onward_seen handler onward))

-- where the events go to behind a poll that found these interrupts
abbrev pub poll_from : Machine → (turns space interrupts : ℕ) → events.Onward → events.Place
poll_from m turns space interrupts next =
    if has_bit interrupts space then scan_from m turns space 0 moment.Interrupt next else go_on m turns next

-- where the events go to behind a look at a mask
abbrev pub look_from : Machine → (q turns space i : ℕ) → Moment → (mask : ℕ) → events.Onward → events.Place
look_from m q turns space i moment mask next =
    if has_invalidate mask q then events.Applying i message.Invalidate moment next
    else if has_restrict mask q then events.Applying i message.Restrict moment next
    else scan_from m turns space (i + 1) moment next
