use Rattle.std.proofs.Common.{◌≡◌, ◌+◌, ◌++◌, take}
use Rattle.plat_io.proofs.quiet.push_all.Given as goal

-- the bytes before `byte` were added
abbrev pub invariant-loop-byte : goal.invariant-loop-byte
invariant-loop-byte l =
    (l.list.items ≡ l.fn.list.items ++ take l.byte-index l.bytes) × (l.fn.list.spare ≡ l.list.spare + l.byte-index)
