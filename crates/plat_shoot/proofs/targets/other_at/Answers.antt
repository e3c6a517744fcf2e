use Rattle.std.proofs.Common.{◌≡◌, ◌+◌, length, List, ℕ, suc, ap, sym, ◌∙◌, arith}
use Rattle.std.specs.Prelude.{slice_get, ◌==◌, ◌&&◌, not}
use Rattle.plat_events.specs.Words.{has_reference}
use Rattle.plat_shoot.specs.Sought.{others}
use Rattle.plat_shoot.proofs.WalkLemmas.{rest_from-next, rest_from-past, at_next}
use Rattle.plat_shoot.proofs.TargetLemmas.{others_from}
use Rattle.plat_shoot.proofs.targets.other_at.Goals as goal
use Rattle.plat_shoot.proofs.targets.other_at.Goals.{then-is_other+else-left-eq0, else-is_other}

pub loop-q-preserved : goal.loop-q-preserved
loop-q-preserved c =
    let nodes = c.args.cfg.now.nodes in let a = c.args.actor in let mask = c.args.mask in let q = c.loop-q.q in let left = c.loop-q.left in
    let inv = c.loop-q.invariant in
    elim c.if-is_other.branch [
      | then-is_other+else-left-eq0 w ↦
          (let next = rest_from-next (λ i. has_reference mask i && not (i == a)) nodes q c.loop-q-test.true
          (sym c.is_other.ensures ∙ w.if-is_other.true) in
          let one : length (others_from nodes a mask q) ≡ suc (length (others_from nodes a mask (q + 1))) = ap length next in (
            at_next (others nodes a mask) (others_from nodes a mask (q + 1)) q c.args.at left
                (inv.0 ∙ ap (λ (xs : List ℕ). slice_get xs left) next) w.if-left-eq0.false
                ∙ ap (λ (n : ℕ). slice_get (others_from nodes a mask (q + 1)) n) (sym w.left-is),
            omega (arith, inv.1, one, w.left-is, w.if-left-eq0.false),
          ))
      | else-is_other w ↦
          (let past = rest_from-past (λ i. has_reference mask i && not (i == a)) nodes q c.loop-q-test.true
          (sym c.is_other.ensures ∙ w.if-is_other.false) in
          let same : length (others_from nodes a mask q) ≡ length (others_from nodes a mask (q + 1)) = ap length past in (
            inv.0 ∙ ap (λ (xs : List ℕ). slice_get xs left) past
                ∙ ap (λ (n : ℕ). slice_get (others_from nodes a mask (q + 1)) n) (sym w.left-is),
            omega (arith, inv.1, same, w.left-is),
          ))
    ]
