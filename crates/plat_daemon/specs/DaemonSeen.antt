-- the daemon as its contracts see it
use Rattle.std.specs.Prelude.{ℕ, Bool, true, false, List, Option, None, replicate}
use Rattle.plat_base.specs.Machine.{Machine}
use Rattle.plat_base.specs.GuestRun.{guest_start}
use Rattle.plat_base.specs.Cache.{no_places}
use Rattle.plat_base.specs.declared.items.Item.{Item}
use Rattle.plat_events.specs.Places.{entry_count}
use Rattle.plat_events.specs.Privates.{Place, Private}
use Rattle.plat_handler.specs.HandlerSeen.{HandlerSeen}
use Rattle.plat_daemon.specs.declared.daemons.Went.{Went}
use Rattle.plat_daemon.specs.declared.daemons.Went.TheVariants.{More, Ended}

-- the time of its pass, when the next one is due, where it stands, its items and how many it may have, the page that it has
-- come to, and that page's handler
pub record DaemonSeen : Type 0 where
  pub now : ℕ
  pub due : ℕ
  pub place : Place
  pub journal : List Item
  pub room : ℕ
  pub page : ℕ
  pub handler : Option HandlerSeen

-- its private state: it makes no turn, runs no guest and has no translation
abbrev pub state_of : Machine → DaemonSeen → Private
state_of m x = record {
  turns = 0;
  now = x.now;
  guest = guest_start m m.nodes;
  pmap = replicate (entry_count m) None;
  atc = no_places;
  due = x.due;
  place = x.place;
  journal = x.journal;
}

-- how an operation left its actor
abbrev pub went_to : (live : Bool) → Went
went_to true = More
went_to false = Ended
