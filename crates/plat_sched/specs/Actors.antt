-- the live actors, as the bits of a word
use Rattle.std.specs.Prelude.{ℕ, Bool, ◌&&◌, ◌==◌, nat_lt, List, filter}
use Rattle.std.specs.Int.{bit_at}
use Rattle.plat_base.specs.Pages.{numbers}

abbrev pub is_set : ℕ → ℕ → Bool
is_set live a = bit_at live a == 1

-- how many actors there can be
unfoldable pub most_actors : ℕ
most_actors = 32

-- an actor is one of the 32 bits
abbrev pub is_actor : ℕ → ℕ → Bool
is_actor live a = nat_lt a 32 && is_set live a

-- the numbers of the bits that are set, rising
unfoldable pub actors_of : ℕ → List ℕ
actors_of live = filter (is_set live) (numbers most_actors)
