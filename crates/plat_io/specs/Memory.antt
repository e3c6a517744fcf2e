-- sources and sinks in memory, as their contracts see them
use Rattle.std.specs.Prelude.{ℕ, ◌==◌, if◌then◌else◌, List, length}

-- a source: the bytes that are left, the number of calls so far, the numbers of the calls that fail, and its count of faults
pub record SourceState : Type 0 where
  pub left : List ℕ
  pub calls : ℕ
  pub fails : List ℕ
  pub faults : ℕ

-- a sink: the bytes that it holds, how many it can hold, and the rest as of a source
pub record SinkState : Type 0 where
  pub bytes : List ℕ
  pub size : ℕ
  pub calls : ℕ
  pub fails : List ℕ
  pub faults : ℕ

-- a sink that fails only where it is full: the bytes that it holds, how many it can hold, and how often it refused a piece
pub record QuietState : Type 0 where
  pub bytes : List ℕ
  pub size : ℕ
  pub refused : ℕ

-- its count of faults, which is above 0 only where it holds `size` bytes
abbrev pub quiet_faults : QuietState → ℕ
quiet_faults s = if length s.bytes == s.size then s.refused else 0
