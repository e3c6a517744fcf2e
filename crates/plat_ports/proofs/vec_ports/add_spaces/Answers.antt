use Rattle.std.proofs.Common.{List, ℕ, [], ◌∷◌, ◌++◌, ap, sym, ◌∙◌, append_assoc, arith}
use Rattle.plat_base.specs.Seen.{machine}
use Rattle.plat_ports.specs.Starts.{first_actives}
use Rattle.plat_ports.proofs.WordLemmas.{spaces_more}
use Rattle.plat_ports.proofs.vec_ports.add_spaces.Goals as goal

pub loop-q-preserved : goal.loop-q-preserved
loop-q-preserved c =
    let m = machine c.args.cfg.now in
    let so_far = first_actives m c.loop-q.q in
    let before = c.args.words.now.items in
    record {
      items =
          c.push_reserved.ensures.items
          ∙ ap (λ (ws : List ℕ). ws ++ c.first_active.result ∷ []) c.loop-q.invariant.items
          ∙ append_assoc before so_far (c.first_active.result ∷ [])
          ∙ ap (λ (x : ℕ). before ++ (so_far ++ x ∷ [])) c.first_active.ensures
          ∙ ap (λ (ws : List ℕ). before ++ ws) (sym (spaces_more m c.loop-q.q));
      long = omega arith;
      room = c.push_reserved.ensures.capacity ∙ c.loop-q.invariant.room;
    }
