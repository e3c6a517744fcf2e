-- worked outputs, computed from the definitions
use Rattle.std.specs.Prelude.{◌≡◌, ℕ, false, List, [], ◌∷◌, None, codes, refl}
use Rattle.std.specs.Fmt.{digits}
use Rattle.plat_base.specs.declared.frames.Dir.{Dir}
use Rattle.plat_base.specs.declared.frames.State.TheVariants as state
use Rattle.plat_base.specs.declared.items.Action.{Action}
use Rattle.plat_base.specs.declared.items.Action.TheVariants as action
use Rattle.plat_base.specs.declared.items.Cause.TheVariants as cause
use Rattle.plat_base.specs.declared.items.Kind.TheVariants as kind
use Rattle.plat_base.specs.declared.items.Removed.TheVariants as removed
use Rattle.plat_base.specs.declared.items.Item.{Item}
use Rattle.plat_base.specs.declared.items.Item.TheVariants as item
use Rattle.plat_cost.specs.BestPlans.{best_plan}
use Rattle.plat_cost.specs.CostLines.{cost_text, page_lines}
use Rattle.plat_coarse_tests.specs.CostTried.{tried}

-- a store by an actor to the copy on a module
store : (actor mo : ℕ) → Item
store actor mo = item.Access (record {
  actor = actor;
  kind = kind.Store;
  space = 0;
  addr = 0;
  page = 0;
  word = 0;
  old = 0;
  new = 0;
  version = 0;
  frame = record { «module» = mo; number = 0 };
  grant = 0;
})

-- a directory with one copy, on module 0
alone : Dir
alone = record { state = state.Modified; frozen = false; copies = (record { «module» = 0; number = 0 }) ∷ [] }

change : (actor : ℕ) → Action → Item
change actor x = item.Change (record {
  actor = actor;
  page = 0;
  seq = 0;
  time = 1;
  cause = cause.Write;
  action = x;
  removed = removed.Nothing;
  before = alone;
  after = alone;
  granted = None;
})

-- the page moves once to node 1, and node 0 goes to it there
moved : List Item
moved =
    change 0 action.Fill ∷ store 0 0 ∷ change 1 action.Migrate ∷ store 1 1 ∷ change 0 action.MapRemote ∷ store 0 1 ∷ store 1 1 ∷ store 0 1
    ∷ []

moved_text : cost_text tried moved
    ≡ codes "platinum cost 1\npage 0 accesses 5 actual 6 least 2 moves 0\nfrom 1 at 0\ntotal actual 6 least 2\n"
unfolding store alone change moved cost_text page_lines best_plan digits
moved_text = refl

-- node 1 reads a copy of its own, and node 0 takes it back
read : List Item
read = change 0 action.Fill ∷ store 0 0 ∷ change 1 action.Replicate ∷ store 1 1 ∷ change 0 action.Collapse ∷ store 0 0 ∷ []

read_text : cost_text tried read
    ≡ codes "platinum cost 1\npage 0 accesses 3 actual 4 least 1 moves 0\nfrom 1 at 0\ntotal actual 4 least 1\n"
unfolding store alone change read cost_text page_lines best_plan digits
read_text = refl

-- six accesses of node 0, and then six of node 1: one move pays
phases : List Item
phases =
    store 0 0 ∷ store 0 0 ∷ store 0 0 ∷ store 0 0 ∷ store 0 0 ∷ store 0 0 ∷ store 1 0 ∷ store 1 0 ∷ store 1 0 ∷ store 1 0 ∷ store 1 0
    ∷ store 1 0 ∷ []

phases_text : cost_text tried phases
    ≡ codes "platinum cost 1\npage 0 accesses 12 actual 6 least 4 moves 1\nfrom 1 at 0\nfrom 7 at 1\ntotal actual 6 least 4\n"
unfolding store phases cost_text page_lines best_plan digits
phases_text = refl
