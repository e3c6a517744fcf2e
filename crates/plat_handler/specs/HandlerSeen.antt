-- what contracts see of a handler, and what it asks
use Rattle.std.specs.Prelude.{ℕ, ◌-◌, ◌^◌, ◌<◌, ◌==◌, if◌then◌else◌, Bool, true, false, Option, Some, None}
use Rattle.plat_base.specs.Machine.{Machine}
use Rattle.plat_base.specs.declared.items.Removed.{Removed}
use Rattle.plat_base.specs.declared.items.Removed.TheVariants as removed
use Rattle.plat_base.specs.declared.words.Op.{Op}
use Rattle.plat_base.specs.declared.words.WordName.{WordName}
use Rattle.plat_events.specs.Places.{place_of}
use Rattle.plat_events.specs.Words.{lock_place}
use Rattle.plat_base.specs.declared.items.Translation.{Translation}
use Rattle.plat_events.specs.Sessions.{Fault, Phase, Stamping, Seeking, Taking, Returning, Shooting, Filling, Reading, Copying, Giving}
use Rattle.plat_events.specs.Sessions.{Storing, Granting, Unlocking, Session, decision_of, change_made}
use Rattle.plat_shoot.specs.declared.needs.Need.{Need}
use Rattle.plat_shoot.specs.declared.needs.Need.TheVariants as need
use Rattle.plat_shoot.specs.declared.needs.Own.{Own}
use Rattle.plat_shoot.specs.ShootSeen.{ShootSeen, own_by}
use Rattle.plat_handler.specs.Stages.{Stage, Locks, Relocks, Runs, Rewaits, Returned, Changed, stage_next, stage_after, own_told}
use Rattle.plat_handler.specs.Stages.{installed_by}
use Rattle.plat_handler.specs.Phases.{answer_of}
use Rattle.plat_handler.specs.Fits.{StageFits, StageShoots}
use Rattle.plat_handler.specs.Locks.{IsTaken}
use Rattle.plat_handler.specs.declared.asks.Ask.{Ask}
use Rattle.plat_handler.specs.declared.asks.Ask.TheVariants as ask

-- now is the tick of the actor's turn or pass, shoot its shootdown, as it runs or ran, and tried the last word of a locked page
-- that its lock tested
pub record HandlerSeen : Type 0 where
  pub actor : ℕ
  pub now : ℕ
  pub stage : Stage
  pub shoot : Option ShootSeen
  pub tried : ℕ

-- it is one of the machine
pub record HandlesOn (m : Machine) (h : HandlerSeen) : Type 0 where
  pub now : h.now < 2 ^ 32 - 1
  pub fits : StageFits m h.actor h.now h.stage
  pub shoots : StageShoots m h.actor h.now h.shoot h.stage
  pub tried : IsTaken m h.tried

-- ---- what it asks

abbrev pub ask_word : Machine → Option (WordName × Op) → Ask
ask_word m None = ask.Poll
ask_word m (Some x) = ask.Word (place_of m x.0) x.1

abbrev pub ask_of : Machine → (a now : ℕ) → Stage → Ask
ask_of m a now (Locks fault) = ask_word m (stage_next m (answer_of m) a now (Locks fault))
ask_of m a now (Relocks fault) = ask.Poll
ask_of m a now (Runs s) = ask_word m (stage_next m (answer_of m) a now (Runs s))
ask_of m a now (Rewaits s) = ask.Poll
ask_of m a now (Returned s) = if a == m.nodes then ask.NotFrozen else ask.NoFrames
ask_of m a now (Changed s c) =
    if a == m.nodes then ask.Thawed (change_made m (answer_of m) a now s c)
    else ask.Granted (change_made m (answer_of m) a now s c)

-- what a shootdown needs, as it is asked
abbrev pub ask_seen : Need → Ask
ask_seen (need.Word at op) = ask.Word at op
ask_seen need.Poll = ask.Poll
ask_seen need.Finished = ask.Poll

abbrev pub is_word_asked : Ask → Bool
is_word_asked (ask.Word at op) = true
is_word_asked ask.Poll = false
is_word_asked (ask.Granted change) = false
is_word_asked (ask.Thawed change) = false
is_word_asked ask.NotFrozen = false
is_word_asked ask.NoFrames = false

abbrev pub is_polling : Stage → Bool
is_polling (Locks fault) = false
is_polling (Relocks fault) = true
is_polling (Runs s) = false
is_polling (Rewaits s) = true
is_polling (Returned s) = false
is_polling (Changed s c) = false

-- ---- what its operation takes of the actor's own translations

-- what its session removes
abbrev pub removed_in : Machine → (a now : ℕ) → Session → Phase → Removed
removed_in m a now s Stamping = removed.Nothing
removed_in m a now s (Seeking st i) = removed.Nothing
removed_in m a now s (Taking st i seen) = removed.Nothing
removed_in m a now s Returning = removed.Nothing
removed_in m a now s (Shooting c shot) = (decision_of m (answer_of m) a now s c).removed
removed_in m a now s (Filling c w) = removed.Nothing
removed_in m a now s (Reading c w) = removed.Nothing
removed_in m a now s (Copying c w seen) = removed.Nothing
removed_in m a now s (Giving c k) = removed.Nothing
removed_in m a now s (Storing c) = removed.Nothing
removed_in m a now s (Granting c) = removed.Nothing
removed_in m a now s (Unlocking c) = removed.Nothing

abbrev pub removed_by : Machine → (a now : ℕ) → Stage → Removed
removed_by m a now (Locks fault) = removed.Nothing
removed_by m a now (Relocks fault) = removed.Nothing
removed_by m a now (Runs s) = removed_in m a now s s.phase
removed_by m a now (Rewaits s) = removed.Nothing
removed_by m a now (Returned s) = removed.Nothing
removed_by m a now (Changed s c) = removed.Nothing

abbrev pub own_of : Machine → (a now n : ℕ) → Stage → Own
own_of m a now n stage = own_by (removed_by m a now stage) (own_told m (answer_of m) a now n stage)

-- ---- of the handler as a whole

abbrev pub asked : Machine → HandlerSeen → Ask
asked m h = ask_of m h.actor h.now h.stage

abbrev pub stage_told : Machine → HandlerSeen → (n : ℕ) → Stage
stage_told m h n = stage_after m (answer_of m) h.actor h.now n h.stage

abbrev pub own_taken : Machine → HandlerSeen → (n : ℕ) → Own
own_taken m h n = own_of m h.actor h.now n h.stage

abbrev pub installed : Machine → HandlerSeen → Option Translation
installed m h = installed_by m (answer_of m) h.actor h.now h.stage

abbrev pub handler_started : (actor now : ℕ) → Fault → HandlerSeen
handler_started actor now fault =
    record { actor = actor; now = now; stage = Locks fault; shoot = None; tried = 2 ^ lock_place }
