-- the ends of a run so far, for each processor, and the time
use Rattle.std.specs.Prelude.{ℕ, ◌==◌, nat_lt, ◌&&◌, if◌then◌else◌, Bool, List, length, sum_by, slice_index_or}
use Rattle.plat_base.specs.Machine.{Machine}
use Rattle.plat_base.specs.Alike.{same_end}
use Rattle.plat_base.specs.declared.endings.End.{End}
use Rattle.plat_base.specs.declared.endings.End.TheVariants as end
use Rattle.plat_base.specs.declared.endings.Ended.{Ended}

abbrev pub cut_at : ℕ → Ended
cut_at turns = record { end = end.Cut; turns = turns }

abbrev pub ended_of : List Ended → ℕ → Ended
ended_of ends q = slice_index_or ends q (cut_at 0)

abbrev pub is_live : List Ended → ℕ → Bool
is_live ends q = nat_lt q (length ends) && same_end (ended_of ends q).end end.Cut

-- time is the number of turns made
abbrev pub time_of : List Ended → ℕ
time_of ends = sum_by (λ (e : Ended). e.turns) ends

-- a processor whose guest goes on is spent once it has made the budget
abbrev pub end_after : Machine → ℕ → End → End
end_after m turns end.Halted = end.Halted
end_after m turns end.Trapped = end.Trapped
end_after m turns end.Spent = end.Spent
end_after m turns end.NoFrames = end.NoFrames
end_after m turns end.Cut = if turns == m.budget then end.Spent else end.Cut
