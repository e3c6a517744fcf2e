-- where a shootdown of the program stands, as the definition sees it, and when it is one of the machine
use Rattle.std.specs.Prelude.{ℕ, ◌<◌, List, length, IsTrue}
use Rattle.plat_base.specs.Machine.{Machine}
use Rattle.plat_base.specs.Pages.{entries_of_page}
use Rattle.plat_events.specs.Places.{is_mask_word}
use Rattle.plat_events.specs.Shootdowns as events
use Rattle.plat_events.specs.Shootdowns.{targets}
use Rattle.plat_shoot.specs.declared.steps.Shot.{Shot}
use Rattle.plat_shoot.specs.declared.steps.Shot.TheVariants as shot
use Rattle.plat_shoot.specs.declared.steps.Step.{Step}
use Rattle.plat_shoot.specs.declared.steps.Step.TheVariants as step

abbrev pub shot_seen : Shot → events.Shot
shot_seen shot.Posting = events.Posting
shot_seen (shot.PostingOn seen) = events.PostingOn seen
shot_seen (shot.Asking k) = events.Asking k
shot_seen (shot.Interrupting k) = events.Interrupting k
shot_seen (shot.Watching k) = events.Watching k
shot_seen (shot.AskingAgain k) = events.AskingAgain k

-- posts are the masks that were found
abbrev pub shoot_seen : (posts : List ℕ) → Step → events.Shoot
shoot_seen posts (step.Makes s) = events.Makes posts (shot_seen s)
shoot_seen posts (step.Polls k) = events.Polls posts k
shoot_seen posts step.Done = events.Done posts

-- ---- of the machine

-- an entry is left for a post, and the mask that it is made on is one of the machine; and there is a target to wait for
abbrev pub ShotFits : Machine → (actor page : ℕ) → (posts : List ℕ) → events.Shot → Type 0
ShotFits m actor page posts events.Posting = length posts < length (entries_of_page m page)
ShotFits m actor page posts (events.PostingOn seen) = (length posts < length (entries_of_page m page)) × IsTrue (is_mask_word m seen)
ShotFits m actor page posts (events.Asking k) = k < length (targets m actor page posts)
ShotFits m actor page posts (events.Interrupting k) = k < length (targets m actor page posts)
ShotFits m actor page posts (events.Watching k) = k < length (targets m actor page posts)
ShotFits m actor page posts (events.AskingAgain k) = k < length (targets m actor page posts)

abbrev pub ShootFits : Machine → (actor page : ℕ) → events.Shoot → Type 0
ShootFits m actor page (events.Makes posts shot) = ShotFits m actor page posts shot
ShootFits m actor page (events.Polls posts k) = k < length (targets m actor page posts)
ShootFits m actor page (events.Done posts) = Unit {0}
