use Rattle.std.proofs.Common.{◌≡◌, ℕ, ◌+◌, List, [], ◌∷◌, ◌++◌, map, length, All, ap, sym, ◌∙◌, subst, arith, length-append}
use Rattle.arrayvec.specs.ArrayVec.{ArrayVec}
use Rattle.plat_base.specs.Seen.{machine}
use Rattle.plat_events.specs.Privates.{Private}
use Rattle.plat_table.specs.declared.actors.Actor.{Actor}
use Rattle.plat_table.specs.declared.actors.Part.TheVariants as part
use Rattle.plat_table.specs.Actors.{Fits, held}
use Rattle.plat_table.proofs.BoardLemmas.{fit-more, held-more, held-without, held-with}
use Rattle.plat_table.proofs.boards.crew.Goals.{in-Place, in-Platinum+in_ok-new-in-Platinum}
use Rattle.plat_table.proofs.boards.crew.Goals as goal

pub loop-number-preserved : goal.loop-number-preserved
loop-number-preserved c =
    let m = machine c.args.cfg.now in
    let actors = c.loop-number.actors.items in
    let n = c.loop-number.number in
    let made = c.in_ok-new.ensures in
    let x : Actor = record { number = n; part = part.Processor c.in_ok-new.field-0 } in
    let pushed = c.push.ensures.items in
    record {
      fit = subst (λ (xs : List Actor). All (Fits m) xs) (sym pushed)
          (fit-more m actors x c.loop-number.invariant.fit (made.actor, made.fits));
      held = ap (map (held m)) pushed
          ∙ held-more m actors n x c.loop-number.invariant.held (ap (λ (p : Private). (n, p)) made.start);
      long = let sum = length-append actors (x ∷ []) in
          omega (arith, ap (λ (xs : List Actor). length xs) pushed, sum, c.loop-number.invariant.long);
    }

pub returns-clause-held : goal.returns-clause-held
returns-clause-held c =
    let m = machine c.args.cfg.now in
    let all : c.loop-number.number ≡ c.args.cfg.now.nodes =
    omega (arith, c.loop-number-test.false, c.loop-number.auto.number-end) in
    elim c.match-cfg.branch [
      | in-Place w ↦ ap (λ (a : ArrayVec Actor). map (held m) a.items) w.actors-is
          ∙ held-without m c.loop-number.actors.items c.loop-number.number c.loop-number.invariant.held all w.in-Place.is
      | in-Platinum+in_ok-new-in-Platinum w ↦ ap (λ (a : ArrayVec Actor). map (held m) a.items) w.actors-is
          ∙ ap (map (held m)) w.push-in-Platinum.ensures.items
          ∙ held-with m c.loop-number.actors.items c.loop-number.number
          (record { number = c.args.cfg.now.nodes; part = part.Daemon w.in_ok-new-in-Platinum.field-0 }) w.in-Platinum.t1 w.in-Platinum.t2
          c.loop-number.invariant.held all
          (ap (λ (p : Private). (c.args.cfg.now.nodes, p)) w.in_ok-new-in-Platinum.ensures.start) w.in-Platinum.is
    ]
