-- what contracts see of a shootdown: what it is for, and where it stands
use Rattle.std.specs.Prelude.{ℕ, ◌<◌, ◌≤◌, if◌then◌else◌, Bool, true, false, [], Option, Some, None}
use Rattle.plat_base.specs.Machine.{Machine}
use Rattle.plat_base.specs.declared.items.Removed.{Removed}
use Rattle.plat_base.specs.declared.items.Removed.TheVariants as removed
use Rattle.plat_base.specs.declared.words.Op.{Op}
use Rattle.plat_base.specs.declared.words.WordName.{WordName}
use Rattle.plat_events.specs.Events.{is_followed}
use Rattle.plat_events.specs.Places.{place_of}
use Rattle.plat_events.specs.Shootdowns.{Shoot, Makes, Polls, Done, Watching, shot_next, shot_after, shoot_from, own_post}
use Rattle.plat_shoot.specs.Steps.{ShootFits}
use Rattle.plat_shoot.specs.declared.needs.Need.{Need}
use Rattle.plat_shoot.specs.declared.needs.Need.TheVariants as need
use Rattle.plat_shoot.specs.declared.needs.Own.{Own}
use Rattle.plat_shoot.specs.declared.needs.Own.TheVariants as own

pub record ShootSeen : Type 0 where
  pub actor : ℕ
  pub page : ℕ
  pub removed : Removed
  pub shoot : Shoot

-- it is one of the machine
pub record ShootsOn (m : Machine) (s : ShootSeen) : Type 0 where
  pub actor : s.actor ≤ m.nodes
  pub page : s.page < m.pages
  pub shoot : ShootFits m s.actor s.page s.shoot

abbrev pub shoot_started : Machine → (actor page : ℕ) → Removed → ShootSeen
shoot_started m actor page rem = record { actor = actor; page = page; removed = rem; shoot = shoot_from m actor page [] }

abbrev pub with_shoot : ShootSeen → Shoot → ShootSeen
with_shoot s shoot = record { actor = s.actor; page = s.page; removed = s.removed; shoot = shoot }

-- ---- what it needs next

abbrev pub need_word : Machine → WordName × Op → Need
need_word m x = need.Word (place_of m x.0) x.1

abbrev pub need_by : Machine → ShootSeen → Shoot → Need
need_by m s (Makes posts shot) = need_word m (shot_next m s.actor s.page s.removed posts shot)
need_by m s (Polls posts k) = need.Poll
need_by m s (Done posts) = need.Finished

abbrev pub need_of : Machine → ShootSeen → Need
need_of m s = need_by m s s.shoot

abbrev pub is_word_needed : Need → Bool
is_word_needed (need.Word at op) = true
is_word_needed need.Poll = false
is_word_needed need.Finished = false

abbrev pub is_finished : Need → Bool
is_finished (need.Word at op) = false
is_finished need.Poll = false
is_finished need.Finished = true

abbrev pub is_polling : Shoot → Bool
is_polling (Makes posts shot) = false
is_polling (Polls posts k) = true
is_polling (Done posts) = false

-- ---- what follows

-- the shootdown after its operation told n; a number that the word cannot be changes nothing
abbrev pub shoot_after : Machine → ShootSeen → ℕ → Shoot → Shoot
shoot_after m s n (Makes posts shot) =
    if is_followed m (Some (shot_next m s.actor s.page s.removed posts shot)) n
    then shot_after m s.actor s.page posts n shot
    else Makes posts shot
shoot_after m s n (Polls posts k) = Polls posts k
shoot_after m s n (Done posts) = Done posts

-- after a poll it watches its target again
abbrev pub watch_again : Shoot → Shoot
watch_again (Makes posts shot) = Makes posts shot
watch_again (Polls posts k) = Makes posts (Watching k)
watch_again (Done posts) = Done posts

-- ---- what it takes of the actor's own translations

abbrev pub own_by : Removed → Option ℕ → Own
own_by rem None = own.Nothing
own_by removed.Nothing (Some e) = own.Nothing
own_by removed.Writes (Some e) = own.Lowered e
own_by removed.All (Some e) = own.Dropped e

abbrev pub own_after : Machine → ShootSeen → ℕ → Shoot → Own
own_after m s n (Makes posts shot) =
    if is_followed m (Some (shot_next m s.actor s.page s.removed posts shot)) n
    then own_by s.removed (own_post m s.actor s.page posts n shot)
    else own.Nothing
own_after m s n (Polls posts k) = own.Nothing
own_after m s n (Done posts) = own.Nothing
