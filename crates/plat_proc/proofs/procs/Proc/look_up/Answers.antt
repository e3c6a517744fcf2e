use Rattle.std.proofs.Common.{ap, refl, sym, ◌∙◌, subst, true}
use Rattle.std.specs.Prelude.{IsSome, is_some, Option, ◌≡◌}
use Rattle.plat_base.specs.Seen.{machine}
use Rattle.plat_base.specs.declared.items.Translation.{Translation}
use Rattle.plat_events.specs.Events.{look_up}
use Rattle.plat_pmap.specs.Translations.{translation_of, usable}
use Rattle.plat_proc.specs.ProcSeen.{ProcSeen}
use Rattle.plat_proc.specs.contracts.procs.Proc.{the_view}
use Rattle.plat_proc.specs.Reached.{reach_seen}
use Rattle.plat_proc.proofs.AccessLemmas.{look_up-found}
use Rattle.plat_proc.proofs.procs.Proc.look_up.Goals as goal
use Rattle.plat_proc.proofs.procs.Proc.look_up.Goals.{then-is_write, else-is_write}

pub returns-after-is_write-clause-state : goal.returns-after-is_write-clause-state
returns-after-is_write-clause-state c =
    let m = machine c.args.cfg.now in
    let r = c.args.reach.now in
    let s = c.self.inside in
    let p = (the_view c.self.inside).state in
    let there : is_some c.find-look.result.found ≡ true = sym c.is_some.ensures ∙ c.if-is_some.true in
    let found : IsSome (usable r.kind (translation_of s.pmap r.entry)) =
    subst (λ (t : Option Translation). IsSome t) c.find-look.ensures.found there in
    let told = c.find-look.ensures.counted there in
    let known = ap (λ (y : ProcSeen). look_up m (reach_seen r) y.state) c.self.view_is in
    elim c.if-is_write.branch [
      | then-is_write w ↦
          look_up-found m r p _ s.atc c.find-look.new.self c.find-look.result.hit c.requires.leads refl found told
          (rw (w.self-is, sym c.is_write.ensures ∙ w.if-is_write.true) refl) ∙ known
      | else-is_write w ↦
          look_up-found m r p _ s.atc c.find-look.new.self c.find-look.result.hit c.requires.leads refl found told
          (rw (w.self-is, sym c.is_write.ensures ∙ w.if-is_write.false) refl) ∙ known
    ]
