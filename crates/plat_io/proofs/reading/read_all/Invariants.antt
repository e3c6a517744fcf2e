use Rattle.std.proofs.Common.{◌≡◌, ◌-◌, ◌≤◌, length}
use Rattle.plat_io.specs.Streams.{preceded}
use Rattle.plat_io.proofs.reading.read_all.Given as goal

-- the list has what was taken
abbrev pub invariant-loop-bytes : goal.invariant-loop-bytes
invariant-loop-bytes g l =
    (length l.bytes.items ≤ l.limit)
    × (length l.chunk ≡ 4096)
    × (g.S.Source.faults l.fn.source ≤ g.S.Source.faults l.source)
    × (g.S.Source.left l.fn.source ≡ preceded l.bytes.items (g.S.Source.left l.source))

abbrev pub decreases-loop-bytes : goal.decreases-loop-bytes
decreases-loop-bytes g l = l.most - length l.bytes.items
