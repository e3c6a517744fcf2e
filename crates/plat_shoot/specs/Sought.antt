-- a search for one of the targets of a shootdown
use Rattle.std.specs.Prelude.{◌≡◌, ℕ, ◌+◌, ◌<◌, ◌≤◌, ◌==◌, ◌&&◌, not, List, filter, length, take, sum_by, Some, slice_get}
use Rattle.plat_base.specs.Pages.{numbers}
use Rattle.plat_events.specs.Words.{has_reference}
use Rattle.plat_events.specs.Shootdowns as events
use Rattle.plat_shoot.specs.declared.targets.Found as declared
use Rattle.plat_shoot.specs.declared.targets.Passed.{Passed}
use Rattle.plat_shoot.specs.declared.targets.Target.{Target}
use Rattle.plat_shoot.specs.declared.targets.Sought.{Sought}
use Rattle.plat_shoot.specs.declared.targets.Sought.TheVariants.{Found, Left}

abbrev pub target_seen : Target → events.Target
target_seen t = record { entry = t.entry; processor = t.processor }

abbrev pub found_seen : declared.Found → events.Target
found_seen f = target_seen f.target

-- the other references of a mask, in rising number
abbrev pub others : (nodes actor mask : ℕ) → List ℕ
others nodes actor mask = filter (λ q. has_reference mask q && not (q == actor)) (numbers nodes)

-- the first posts have so many targets, on a machine of so many nodes
pub record HasPassed (actor : ℕ) (posts : List ℕ) (p : Passed) : Type 0 where
  pub within : p.posts ≤ length posts
  pub counted : p.targets ≡ sum_by (λ mask. length (others p.nodes actor mask)) (take p.posts posts)

-- a search for the target at this place is behind these posts
pub record IsAt (count actor : ℕ) (posts : List ℕ) (at : ℕ) (p : Passed) : Type 0 where
  pub nodes : p.nodes ≡ count
  pub passed : HasPassed actor posts p
  pub left : p.targets ≤ at

-- the processor at this place among these, or how many places are still to be passed behind them
abbrev pub IsSought : List ℕ → ℕ → Sought → Type 0
IsSought qs at (Found q) = slice_get qs at ≡ Some q
IsSought qs at (Left n) = length qs + n ≡ at

-- the processor is one of these nodes
abbrev pub IsWithin : ℕ → Sought → Type 0
IsWithin nodes (Found q) = q < nodes
IsWithin nodes (Left n) = Unit {0}
