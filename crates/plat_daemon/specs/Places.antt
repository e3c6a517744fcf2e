-- where the daemon stands, as its code keeps it, and as the events have it
use Rattle.std.specs.Prelude.{◌≡◌, false, Option, Some, None, unwrap_or}
use Rattle.plat_handler.specs.HandlerSeen.{HandlerSeen, is_polling}
use Rattle.plat_handler.specs.Stages.{place_in}
use Rattle.plat_daemon.specs.declared.daemons.Place.{Place}
use Rattle.plat_daemon.specs.declared.daemons.Place.TheVariants as place
use Rattle.plat_events.specs.Privates as events

-- the place of a page is that of its handler, until its session has ended
abbrev pub sweeps_at : Option HandlerSeen → events.Place
sweeps_at None = events.LiveLooking
sweeps_at (Some h) = unwrap_or (place_in h.stage) events.LiveLooking

abbrev pub place_seen : Option HandlerSeen → Place → events.Place
place_seen handler place.LiveLooking = events.LiveLooking
place_seen handler place.TimeLooking = events.TimeLooking
place_seen handler place.Sweeping = sweeps_at handler
place_seen handler place.Over = events.Over

-- ---- the daemon has a handler exactly where it has come to a page

abbrev pub IsThere : Option HandlerSeen → Type 0
IsThere None = ⊥
IsThere (Some h) = is_polling h.stage ≡ false

abbrev pub HandlesWell : Option HandlerSeen → Place → Type 0
HandlesWell handler place.LiveLooking = handler ≡ None
HandlesWell handler place.TimeLooking = handler ≡ None
HandlesWell handler place.Sweeping = IsThere handler
HandlesWell handler place.Over = handler ≡ None
