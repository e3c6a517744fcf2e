-- what a writing does to its sink
use Rattle.std.specs.Prelude.{◌≡◌, ℕ, ◌≤◌, Bool, true, false, ◌&&◌, IsTrue, List, ◌++◌, Option, None, Some, Result, OnOk, OnErr, nat_eq}
use Rattle.std.specs.List.{starts_with}
use Rattle.plat_io.specs.Streams.{HasRisen, added}
use Rattle.plat_io.specs.declared.sinks.Sink.{Ghosts}

-- what a sink tells now is what it told before and the first bytes of a piece, perhaps none or all of them
unfoldable pub is_part : Option (List ℕ) → List ℕ → Option (List ℕ) → Bool
is_part None piece None = true
is_part None piece (Some now) = false
is_part (Some held) piece None = false
is_part (Some held) piece (Some now) = starts_with nat_eq now held && starts_with nat_eq (held ++ piece) now

-- a writing of a piece: on Ok it adds all of the piece, on Err a part of it, and then the count of faults has risen
pub record Adds {K E : Type 0} (sink : Ghosts K) (old new : K) (result : Result (Unit {0}) E) (piece : List ℕ) : Type 0 where
  pub whole : OnOk result (sink.holds new ≡ added (sink.holds old) piece)
  pub part : OnErr result (IsTrue (is_part (sink.holds old) piece (sink.holds new)))
  pub risen : OnErr result (HasRisen (sink.faults old) (sink.faults new))
  pub count : sink.faults old ≤ sink.faults new
  pub size : sink.size new ≡ sink.size old
