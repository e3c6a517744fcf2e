use Rattle.std.proofs.Common.{◌≡◌, ◌+◌, ℕ, Bool, true, false, List, ap, sym, ◌∙◌, arith}
use Rattle.std.specs.Prelude.{slice_get, not}
use Rattle.std.specs.List.{list_any}
use Rattle.plat_base.specs.Copies.{same_frame}
use Rattle.plat_base.specs.declared.frames.Frame.{Frame}
use Rattle.plat_handler.specs.Decided.{going_to}
use Rattle.plat_handler.proofs.GoingLemmas.{left_from, left_from-start, left_from-none, left_from-kept, left_from-goes, left_from-end}
use Rattle.plat_shoot.proofs.WalkLemmas.{at_next, at_first}
use Rattle.plat_base.proofs.CopiesLemmas.{copy_on-module}
use Rattle.plat_handler.proofs.decisions.frame_going.Goals as goal
use Rattle.plat_handler.proofs.decisions.frame_going.Goals.{in-Some+then-not-has_frame+else-left-eq0, in-Some+else-not-has_frame}
use Rattle.plat_handler.proofs.decisions.frame_going.Goals.{in_default}

pub loop-module-init : goal.loop-module-init
loop-module-init c =
    let dir = c.args.dir.now in let after = c.args.after.now in
    let q : Frame → Bool = λ f. not (list_any (same_frame f) after.copies) in
    ap (λ (fs : List Frame). slice_get fs c.args.at) (sym (left_from-start q dir.copies c.count-before.ensures.rising))

pub has_frame-requires-clause-module : goal.has_frame-requires-clause-module
has_frame-requires-clause-module c =
    omega (
      arith,
      copy_on-module c.loop-module.module c.in-Some.frame c.args.dir.now.copies
          (sym c.in-Some.ensures),
      c.loop-module-test.true,
    )

pub returns-then-left-eq0 : goal.returns-then-left-eq0
returns-then-left-eq0 c =
    let dir = c.args.dir.now in let after = c.args.after.now in let k = c.loop-module.module in let left = c.loop-module.left in
    let q : Frame → Bool = λ f. not (list_any (same_frame f) after.copies) in
    let goes : q c.in-Some.frame ≡ true = ap not (sym c.has_frame.ensures ∙ c.if-not-has_frame.true) in
    let next = left_from-goes q dir.copies k c.in-Some.frame (sym c.in-Some.ensures) c.count-before.ensures.rising goes in
    sym (at_first (going_to dir after) (left_from q dir.copies (k + 1)) c.in-Some.frame c.args.at left
    (c.loop-module.invariant ∙ ap (λ (fs : List Frame). slice_get fs left) next) c.if-left-eq0.true)

pub loop-module-preserved : goal.loop-module-preserved
loop-module-preserved c =
    let dir = c.args.dir.now in let after = c.args.after.now in let k = c.loop-module.module in let left = c.loop-module.left in
    let q : Frame → Bool = λ f. not (list_any (same_frame f) after.copies) in
    let rest : List Frame = left_from q dir.copies (k + 1) in
    elim c.match-on.branch [
      | in-Some+then-not-has_frame+else-left-eq0 w ↦
          (let goes : q w.in-Some.frame ≡ true = ap not (sym w.has_frame.ensures ∙ w.if-not-has_frame.true) in
          let next = left_from-goes q dir.copies k w.in-Some.frame (sym w.in-Some.ensures) c.count-before.ensures.rising goes in
          at_next (going_to dir after) rest w.in-Some.frame c.args.at left
          (c.loop-module.invariant ∙ ap (λ (fs : List Frame). slice_get fs left) next) w.if-left-eq0.false
          ∙ ap (λ (n : ℕ). slice_get rest n) (sym w.left-is))
      | in-Some+else-not-has_frame w ↦
          (let stays : q w.in-Some.frame ≡ false = ap not (sym w.has_frame.ensures ∙ w.if-not-has_frame.false) in
          let past = left_from-kept q dir.copies k w.in-Some.frame (sym w.in-Some.ensures) c.count-before.ensures.rising stays in
          c.loop-module.invariant ∙ ap (λ (fs : List Frame). slice_get fs left) past ∙ ap (λ (n : ℕ). slice_get rest n) (sym w.left-is))
      | in_default w ↦
          (let past = left_from-none q dir.copies k (sym w.in_default.ensures) in
          c.loop-module.invariant ∙ ap (λ (fs : List Frame). slice_get fs left) past ∙ ap (λ (n : ℕ). slice_get rest n) (sym w.left-is))
    ]

pub returns : goal.returns
returns c =
    let dir = c.args.dir.now in let after = c.args.after.now in let k = c.loop-module.module in
    let q : Frame → Bool = λ f. not (list_any (same_frame f) after.copies) in
    sym (c.loop-module.invariant
    ∙ ap (λ (fs : List Frame). slice_get fs c.loop-module.left)
    (left_from-end q dir.copies k c.loop-module-test.false c.count-before.ensures.rising))
