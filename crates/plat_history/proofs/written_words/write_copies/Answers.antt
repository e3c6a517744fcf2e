use Rattle.std.proofs.Common.{◌≡◌, Some, sym, ap, ◌∙◌, arith}
use Rattle.plat_base.specs.Copies.{copy_on}
use Rattle.plat_history.proofs.AddsLemmas.{adds_nothing, adds_then, adds_begun}
use Rattle.plat_history.proofs.CopyLemmas.{below, mark_after, below-first, below-all, below-none, copies-some, copies-more, copies-all}
use Rattle.plat_history.proofs.written_words.write_copies.Goals as goal
use Rattle.plat_history.proofs.written_words.write_copies.Goals.{in-Some+in_ok-write_copy, in_default}

pub loop-node-init : goal.loop-node-init
loop-node-init g c =
    let none = below-first c.args.copies in
    record { written = rw none (adds_nothing g.K.Sink c.args.sink.now); mark = sym (ap mark_after none) }

pub returns-in_err-write_copy : goal.returns-in_err-write_copy
returns-in_err-write_copy g c =
    let all = copies-all c.loop-node.node c.loop-node.mark c.in-Some.frame c.args.copies c.count-count.ensures.rising
    (sym c.in-Some.ensures) c.loop-node.invariant.mark in
    rw all.1
    (adds_then g.K.Sink _ _ _ _ _ _ _ c.loop-node.invariant.written
    (adds_begun g.K.Sink _ _ _ _ _ all.0 c.from_residual.ensures.0 c.in_err-write_copy.ensures))

pub loop-node-preserved : goal.loop-node-preserved
loop-node-preserved g c = elim c.match-on.branch [
  | in-Some+in_ok-write_copy w ↦
      let here : copy_on c.loop-node.node c.args.copies ≡ Some w.in-Some.frame = sym w.in-Some.ensures in
      let more = copies-more c.loop-node.node c.loop-node.mark w.in-Some.frame c.args.copies c.count-count.ensures.rising here
      c.loop-node.invariant.mark in
      let comma = (copies-some c.loop-node.node w.in-Some.frame c.args.copies c.count-count.ensures.rising here).1 in
      record {
        written = rw (w.sink-is, more) (adds_then g.K.Sink _ _ _ _ _ _ _ c.loop-node.invariant.written w.in_ok-write_copy.ensures);
        mark = w.mark-is ∙ sym comma;
      }
  | in_default w ↦
      let same = below-none c.loop-node.node c.args.copies (sym w.in_default.ensures) in
      record {
        written = rw (w.sink-is, same) c.loop-node.invariant.written;
        mark = w.mark-is ∙ c.loop-node.invariant.mark ∙ ap mark_after (sym same);
      }
]

pub returns : goal.returns
returns g c =
    let last : c.loop-node.node ≡ 8 = omega (arith, c.loop-node.auto.node-end, c.loop-node-test.false) in
    let all : below c.loop-node.node c.args.copies ≡ c.args.copies = ap (λ k. below k c.args.copies) last
    ∙ below-all c.args.copies c.count-count.ensures.rising in
    rw all at c.loop-node.invariant.written
