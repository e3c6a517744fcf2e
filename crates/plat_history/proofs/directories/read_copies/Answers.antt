use Rattle.std.proofs.Common.{◌≡◌, ◌∷◌, ◌++◌, [], ap, sym, ◌∙◌, arith}
use Rattle.std.proofs.lemmas.Result.{err_from_is_err_and}
use Rattle.plat_history.specs.Shown.{parts_left}
use Rattle.plat_history.proofs.PartLemmas.{copies-wrong, copies-low, copies-more, with_frame-above, are_below-more}
use Rattle.plat_history.proofs.directories.read_copies.Goals as goal

pub returns-in_err-frame : goal.returns-in_err-frame
returns-in_err-frame c =
    let left : parts_left c.loop-left.left ≡ c.first_part.result.0.now ∷ parts_left c.first_part.result.1 = ap parts_left c.in-Some.is
    ∙ c.first_part.ensures in
    let wrong = copies-wrong c.args.nodes c.args.frames c.loop-left.low c.loop-left.copies _ _ _ left c.in_err-frame.field-0.0
    c.in_err-frame.ensures.value in
    let p = err_from_is_err_and c.from_residual.result c.from_residual.ensures.1 in
    rw (p.1, p.2) (sym wrong ∙ c.loop-left.invariant.reads)

pub returns-then-frame-low : goal.returns-then-frame-low
returns-then-frame-low c =
    let left : parts_left c.loop-left.left ≡ c.first_part.result.0.now ∷ parts_left c.first_part.result.1 = ap parts_left c.in-Some.is
    ∙ c.first_part.ensures in
    let wrong = copies-low c.args.nodes c.args.frames c.loop-left.low c.loop-left.copies _ _ _ left c.in_ok-frame.frame
    c.in_ok-frame.ensures.value c.if-frame-low.true in
    sym wrong ∙ c.loop-left.invariant.reads

pub loop-left-preserved : goal.loop-left-preserved
loop-left-preserved c =
    let left : parts_left c.loop-left.left ≡ c.first_part.result.0.now ∷ parts_left c.first_part.result.1 = ap parts_left c.in-Some.is
    ∙ c.first_part.ensures in
    let more = copies-more c.args.nodes c.args.frames c.loop-left.low c.loop-left.copies _ _ _ left c.in_ok-frame.frame
    c.in_ok-frame.ensures.value c.if-frame-low.false in
    let last : c.with-copies.result ≡ c.loop-left.copies ++ c.in_ok-frame.frame ∷ [] =
    c.with-copies.ensures ∙ with_frame-above c.loop-left.low c.in_ok-frame.frame c.loop-left.copies c.if-frame-low.false
    c.loop-left.invariant.below in
    rw last (record {
      reads = sym more ∙ c.loop-left.invariant.reads;
      below = are_below-more c.loop-left.low c.in_ok-frame.frame c.loop-left.copies c.if-frame-low.false c.loop-left.invariant.below;
      low = omega (arith, c.in_ok-frame.ensures.module, c.requires.nodes);
    })
