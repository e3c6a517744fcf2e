-- a placer as its contracts see it
use Rattle.std.specs.Prelude.{◌≡◌, ℕ, ◌*◌, ◌≤◌, List, [], length}
use Rattle.plat_base.specs.declared.limits.TheConstants.{MODULES, MOST_TURNS}
use Rattle.plat_base.specs.Machine.{Machine}

-- how many nodes and accesses it has room for, and of the last page the actors of its accesses, the best plan for them and
-- the least costs of the rest
pub record Placements : Type 0 where
  pub nodes : ℕ
  pub room : ℕ
  pub actors : List ℕ
  pub plan : List ℕ
  pub rest : List ℕ

-- room for all accesses of a run of this machine
pub record IsFor (m : Machine) (placer : Placements) : Type 0 where
  pub nodes : placer.nodes ≡ m.nodes
  pub room : placer.room ≡ m.nodes * m.budget

-- no page was placed yet
pub record IsEmpty (placer : Placements) : Type 0 where
  pub actors : placer.actors ≡ []
  pub plan : placer.plan ≡ []
  pub rest : placer.rest ≡ []

-- the room of a placer, of which the front is in use
pub record FitsRoom (nodes room count : ℕ) (actors plan rest : List ℕ) : Type 0 where
  pub few : room ≤ MOST_TURNS
  pub modules : nodes ≤ MODULES
  pub within : count ≤ room
  pub actors_size : length actors ≡ room
  pub plan_size : length plan ≡ room
  pub rest_size : length rest ≡ room * nodes
