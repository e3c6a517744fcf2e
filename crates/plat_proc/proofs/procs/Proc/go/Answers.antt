use Rattle.std.proofs.Common.{ap, sym, ◌∙◌}
use Rattle.plat_proc.specs.ProcSeen.{ProcSeen}
use Rattle.plat_proc.proofs.TurnLemmas.{handling-kept, handling-gone}
use Rattle.plat_proc.proofs.procs.Proc.go.Goals as goal
use Rattle.plat_proc.proofs.procs.Proc.go.Goals.{then-eq+in-Some, then-eq+in_default, else-eq}

pub returns-clause-handling : goal.returns-clause-handling
returns-clause-handling c =
    let x = c.args.self.now in
    let handler = ap (λ (y : ProcSeen). y.handler) c.self.view_is in
    let actor = ap (λ (y : ProcSeen). y.actor) c.self.view_is in
    let now = ap (λ (y : ProcSeen). y.state.now) c.self.view_is in
    λ m h. elim c.if-eq.branch [
      | then-eq+in-Some w ↦
          let told = w.polled.ensures in
          handling-gone m x.actor _ x.state _ x.handler _ w.in-Some.handler w.polled.new.self h (sym handler ∙ w.in-Some.is)
          (ap (λ y. y.handler) w.self-inside-is) told.actor told.now told.after (told.fits m) (ap (λ y. y.q) w.self-inside-is ∙ actor)
          (ap (λ y. y.tick) w.self-inside-is ∙ now)
      | then-eq+in_default w ↦
          handling-kept m x.actor _ x.state _ x.handler _ h (ap (λ y. y.handler) w.self-inside-is ∙ handler)
          (ap (λ y. y.q) w.self-inside-is ∙ actor)
          (ap (λ y. y.tick) w.self-inside-is ∙ now)
      | else-eq w ↦
          handling-kept m x.actor _ x.state _ x.handler _ h (ap (λ y. y.handler) w.self-inside-is ∙ handler)
          (ap (λ y. y.q) w.self-inside-is ∙ actor)
          (ap (λ y. y.tick) w.self-inside-is ∙ now)
    ]
