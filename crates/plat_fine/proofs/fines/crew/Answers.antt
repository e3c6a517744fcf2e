use Rattle.std.proofs.Common.{◌∷◌, [], ◌++◌, map, List, ap, sym, ◌∙◌, subst, arith}
use Rattle.plat_base.specs.Pages.{numbers}
use Rattle.plat_base.specs.Seen.{machine}
use Rattle.plat_events.specs.Privates.{Private, first_private}
use Rattle.plat_proc.specs.ProcSeen.{ProcSeen}
use Rattle.plat_fine.specs.Crew.{IsCrew, states}
use Rattle.plat_fine.proofs.CrewLemmas.{IsCrew-more, states-more, first-more}
use Rattle.plat_fine.proofs.fines.crew.Goals as goal

pub loop-q-preserved : goal.loop-q-preserved
loop-q-preserved c =
    let m = machine c.args.cfg.now in
    let procs = c.loop-q.procs.items in
    let x = c.in_ok-new.field-0 in
    let made = c.in_ok-new.ensures in
    let pushed = c.push_reserved.ensures.items in
    record {
      crew = subst (λ (xs : List ProcSeen). IsCrew m xs) (sym pushed)
          (IsCrew-more m procs x c.loop-q.invariant.crew (record { actor = made.actor ∙ sym c.loop-q.invariant.long; fits = made.fits }));
      long = omega (arith, c.push_reserved.ensures.len, c.loop-q.invariant.long);
      room = omega (arith, c.push_reserved.ensures.capacity, c.loop-q.invariant.room);
      states = ap states pushed ∙ states-more procs x ∙ ap (λ (ps : List Private). ps ++ x.state ∷ []) c.loop-q.invariant.states
          ∙ ap (λ (p : Private). map (first_private m) (numbers c.loop-q.q) ++ p ∷ []) made.start ∙ sym (first-more m c.loop-q.q);
    }
