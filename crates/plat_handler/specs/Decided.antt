-- when the row of a session is decided, and the frames that go by it
use Rattle.std.specs.Prelude.{◌≡◌, ◌≢◌, ◌<◌, not, List, [], filter, IsTrue}
use Rattle.std.specs.List.{list_any}
use Rattle.plat_base.specs.Machine.{Machine}
use Rattle.plat_base.specs.Copies.{same_frame}
use Rattle.plat_base.specs.Decide.{is_dir, fits_cause}
use Rattle.plat_base.specs.declared.frames.Dir.{Dir}
use Rattle.plat_base.specs.declared.frames.Frame.{Frame}
use Rattle.plat_base.specs.declared.items.Cause.TheVariants.{Thaw}
use Rattle.plat_base.specs.declared.items.Removed.{Removed}
use Rattle.plat_base.specs.declared.items.Removed.TheVariants.{Nothing}
use Rattle.plat_events.specs.Sessions.{Returning}
use Rattle.plat_handler.specs.Phases.{answer_of, decided, session_seen, phase_seen, fault_seen}
use Rattle.plat_handler.specs.Fits.{SessionFits, PhaseFits, may_begin}
use Rattle.plat_handler.specs.declared.phases.Lock.{Lock}
use Rattle.plat_handler.specs.declared.phases.Course.{Course}
use Rattle.plat_handler.specs.declared.phases.Phase.{Phase}
use Rattle.plat_handler.specs.declared.phases.Then.{Then}
use Rattle.plat_handler.specs.declared.phases.Then.TheVariants.{Runs, Shoots}

-- a session before its row is decided: a directory of the machine, and a node where it is no thaw
pub record Begins (m : Machine) (lock : Lock) : Type 0 where
  pub dir : IsTrue (is_dir m lock.dir)
  pub node : lock.fault.cause ≢ Thaw → lock.actor < m.nodes
  pub begins : IsTrue (may_begin lock.fault.cause lock.dir)

-- what a decision wants beside that: a frame that the row can use
pub record Decides (m : Machine) (lock : Lock) (c : Course) : Type 0 where
  pub dir : IsTrue (is_dir m lock.dir)
  pub node : lock.fault.cause ≢ Thaw → lock.actor < m.nodes
  pub fits : IsTrue (fits_cause m (answer_of m) lock.dir c.stamp.last lock.tick lock.actor lock.fault.cause c.got)

-- a session of the machine in one of its phases
abbrev pub RunsOn : Machine → Lock → Phase → Type 0
RunsOn m lock p =
    SessionFits m lock.actor (fault_seen lock.fault) lock.dir
    × PhaseFits m lock.actor lock.tick (session_seen lock Returning) (phase_seen [] p)

-- a shootdown removes what was decided, and that is something
pub record Removes (m : Machine) (lock : Lock) (c : Course) (r : Removed) : Type 0 where
  pub decides : Decides m lock c
  pub is : r ≡ (decided m lock c).removed
  pub some : r ≢ Nothing

abbrev pub RemovesSome : Machine → Lock → Then → Type 0
RemovesSome m lock (Runs p) = Unit {0}
RemovesSome m lock (Shoots c removed) = Removes m lock c removed

-- the copies of one directory that another does not have
abbrev pub going_to : Dir → Dir → List Frame
going_to before after = filter (λ f. not (list_any (same_frame f) after.copies)) before.copies
