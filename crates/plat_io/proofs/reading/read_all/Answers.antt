use Rattle.std.proofs.Common.{◌≡◌, ◌∙◌, ◌++◌, take, refl, arith, length-take}
use Rattle.plat_io.proofs.ReadLemmas.{same_left, nothing_read, more_read, not_too_long, read_fault_other, out_of_memory_other, ok_other}
use Rattle.plat_io.proofs.ReadLemmas.{length_read, length-lent, length-rejoined, pushed, TakesWithin-stopped, TakesWithin-too_long}
use Rattle.plat_io.proofs.ReadLemmas.{whole_read}
use Rattle.plat_io.proofs.reading.read_all.Goals as goal

pub loop-bytes-preserved : goal.loop-bytes-preserved
loop-bytes-preserved g c =
    let items = c.loop-bytes.bytes.items in
    let left = more_read items _ _ _ _ c.loop-bytes.invariant.3 c.in_ok-n.ensures.taken in
    let now : c.push_all.new.list.items ≡ items ++ take c.in_ok-n.n c.read.new.buf =
    pushed items _ _ c.read.new.buf _ c.in_ok-n.n c.in_ok-n.ensures.bound c.reserve.ensures.items c.push_all.ensures.items in
    let count = length_read items c.read.new.buf c.in_ok-n.n c.in_ok-n.ensures.bound in
    let most = length-lent _ _ _ c.read.auto.buf in (
      rw now (omega (arith, most, c.in_ok-n.ensures.bound)),
      length-rejoined _ _ _ c.read.auto.buf ∙ c.loop-bytes.invariant.1,
      omega arith,
      rw now left,
    )

pub returns-in_err-n-clause-taken : goal.returns-in_err-n-clause-taken
returns-in_err-n-clause-taken g c =
    let left = same_left c.loop-bytes.bytes.items _ _ _ c.loop-bytes.invariant.3 c.in_err-n.ensures.kept in
    TakesWithin-stopped c.args.limit c.loop-bytes.bytes.items _ _ _ left c.loop-bytes.invariant.0
    (not_too_long _ _ read_fault_other c.from_residual.ensures.1)

pub returns-then-n-eq0-clause-all : goal.returns-then-n-eq0-clause-all
returns-then-n-eq0-clause-all g c =
    let left = nothing_read c.loop-bytes.bytes.items _ _ _ _ _ c.loop-bytes.invariant.3 c.in_ok-n.ensures.taken c.if-n-eq0.true in
    whole_read c.loop-bytes.bytes.items _ _ left
    (c.in_ok-n.ensures.end c.if-n-eq0.true (omega (arith, c.read.auto.buf, length-take c.min-room.result c.loop-bytes.chunk)))

pub returns-then-n-eq0-clause-taken : goal.returns-then-n-eq0-clause-taken
returns-then-n-eq0-clause-taken g c =
    let left = nothing_read c.loop-bytes.bytes.items _ _ _ _ _ c.loop-bytes.invariant.3 c.in_ok-n.ensures.taken c.if-n-eq0.true in
    TakesWithin-stopped c.args.limit c.loop-bytes.bytes.items _ _ _ left c.loop-bytes.invariant.0 (ok_other _)

pub returns-then-len-n-clause-taken : goal.returns-then-len-n-clause-taken
returns-then-len-n-clause-taken g c =
    let left = more_read c.loop-bytes.bytes.items _ _ _ _ c.loop-bytes.invariant.3 c.in_ok-n.ensures.taken in
    let count = length_read c.loop-bytes.bytes.items c.read.new.buf c.in_ok-n.n c.in_ok-n.ensures.bound in
    TakesWithin-too_long c.args.limit _ _ _ _ left (omega arith) refl

pub returns-in_err-reserve-clause-taken : goal.returns-in_err-reserve-clause-taken
returns-in_err-reserve-clause-taken g c =
    let left = more_read c.loop-bytes.bytes.items _ _ _ _ c.loop-bytes.invariant.3 c.in_ok-n.ensures.taken in
    let count = length_read c.loop-bytes.bytes.items c.read.new.buf c.in_ok-n.n c.in_ok-n.ensures.bound in
    let most = length-lent _ _ _ c.read.auto.buf in
    TakesWithin-stopped c.args.limit _ _ _ _ left (omega (arith, most, c.in_ok-n.ensures.bound))
    (not_too_long _ _ out_of_memory_other c.from_residual-in_err-reserve.ensures.1)
