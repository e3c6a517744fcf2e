use Rattle.std.proofs.Common.{◌≡◌, true, false, Bool, refl}
use Rattle.std.specs.Prelude.{Some}
use Rattle.plat_base.specs.Seen.{machine}
use Rattle.plat_events.specs.Privates.{Exchanging}
use Rattle.plat_proc.specs.Followed.{is_told, next_named}
use Rattle.plat_proc.specs.Reached.{GoesBy}
use Rattle.plat_proc.proofs.AccessLemmas.{next-reached}
use Rattle.plat_proc.proofs.EventLemmas.{after-not_told, after-told, event-made, served-after, served-its, told-named}
use Rattle.plat_proc.proofs.FitsLemmas.{fits-followed, names}
use Rattle.plat_proc.proofs.TurnLemmas.{place-stands, version-below}
use Rattle.plat_proc.proofs.procs.Proc.access.Given.{Over}
use Rattle.plat_proc.proofs.procs.Proc.access.Goals.{After-access_op-op, After-is_followed}
use Rattle.plat_proc.proofs.procs.Proc.access.Goals as goal

-- its next operation
next : (g : Over) (c : After-access_op-op g) →
    next_named (machine c.args.cfg.now) c.args.self.now ≡ Some (c.memory_of-name.result, c.access_op-op.result)
next g c =
    let m = machine c.args.cfg.now in
    let x = c.args.self.now in
    let r = c.reach-reach.result in
    let goes : GoesBy m x r c.translation-translation.result = record {
      reach = c.reach-reach.ensures.reach;
      leads = c.reach-reach.ensures.leads;
      translation = c.translation-translation.ensures;
    } in
    next-reached m x r c.translation-translation.result c.memory_of-name.result c.access_op-op.result goes c.memory_of-name.ensures
    (c.access_op-op.ensures m c.reach-reach.ensures.reach)

-- the machine may have what it found, or not
told : (g : Over) (c : After-is_followed g) (b : Bool) → c.is_followed.result ≡ b →
    is_told (machine c.args.cfg.now) c.args.self.now c.apply-found.result ≡ b
told g c b e =
    told-named (machine c.args.cfg.now) c.args.self.now _ c.apply-found.result c.is_followed.result b
    (next g (goal.at.After-is_followed g c).After-access_op-op) c.is_followed.ensures e

pub access_op-op-requires-clause-version : goal.access_op-op-requires-clause-version
access_op-op-requires-clause-version g c =
    let m = machine c.args.cfg.now in
    let limits = c.args.cfg.now.limits in
    λ n e. version-below m n limits (place-stands m c.args.self.now (Exchanging n) limits c.requires.fits e).word

pub place-requires : goal.place-requires
place-requires g c =
    names (machine c.args.cfg.now) c.args.self.now _ c.args.cfg.now.limits c.requires.fits
    (next g (goal.at.place-requires g c).After-access_op-op)

pub apply-found-requires-clause-its_own : goal.apply-found-requires-clause-its_own
apply-found-requires-clause-its_own g c =
    let next = next g (goal.at.apply-found-requires-clause-its_own g c).After-access_op-op in
    served-its (machine c.args.cfg.now) c.args.self.now (g.P.WordPort.serves c.args.port.now) _ c.place.result c.requires.serves next
    c.place.ensures.at

pub returns-then-is_followed-clause-event : goal.returns-then-is_followed-clause-event
returns-then-is_followed-clause-event g c =
    let m = machine c.args.cfg.now in
    let x = c.args.self.now in
    let n = c.apply-found.result in
    let at = (goal.at.returns-then-is_followed-clause-event g c).After-is_followed in
    let next = next g (goal.at.After-is_followed g at).After-access_op-op in
    let made = c.apply-found.ensures in
    event-made m x c.follow_access.new.self.state _ _ _ c.place.result n next c.place.ensures.at
    (after-told m x c.follow_access.new.self.state n (told g at true c.if-is_followed.true) c.follow_access.ensures.state)
    made.words made.found made.says

pub returns-then-is_followed-clause-fits : goal.returns-then-is_followed-clause-fits
returns-then-is_followed-clause-fits g c =
    let m = machine c.args.cfg.now in
    let told = told g (goal.at.returns-then-is_followed-clause-fits g c).After-is_followed true c.if-is_followed.true in
    let done = c.follow_access.ensures in
    fits-followed m c.args.self.now c.follow_access.new.self c.apply-found.result c.args.cfg.now.limits c.requires.fits told done.actor
    done.room done.state done.slots (rw done.handler tt)

pub returns-then-is_followed-clause-serves : goal.returns-then-is_followed-clause-serves
returns-then-is_followed-clause-serves g c =
    let m = machine c.args.cfg.now in
    let x = c.args.self.now in
    let n = c.apply-found.result in
    let told = told g (goal.at.returns-then-is_followed-clause-serves g c).After-is_followed true c.if-is_followed.true in
    served-after m x.actor _ x.state _ n _ _ c.requires.serves c.apply-found.ensures.serves c.follow_access.ensures.actor
    (after-told m x c.follow_access.new.self.state n told c.follow_access.ensures.state)

pub returns-else-is_followed-clause-event : goal.returns-else-is_followed-clause-event
returns-else-is_followed-clause-event g c =
    let m = machine c.args.cfg.now in
    let x = c.args.self.now in
    let n = c.apply-found.result in
    let at = (goal.at.returns-else-is_followed-clause-event g c).After-is_followed in
    let next = next g (goal.at.After-is_followed g at).After-access_op-op in
    let made = c.apply-found.ensures in
    event-made m x x.state _ _ _ c.place.result n next c.place.ensures.at
    (after-not_told m x n (told g at false c.if-is_followed.false)) made.words made.found made.says

pub returns-else-is_followed-clause-serves : goal.returns-else-is_followed-clause-serves
returns-else-is_followed-clause-serves g c =
    let m = machine c.args.cfg.now in
    let x = c.args.self.now in
    let n = c.apply-found.result in
    let told = told g (goal.at.returns-else-is_followed-clause-serves g c).After-is_followed false c.if-is_followed.false in
    served-after m x.actor x.actor x.state x.state n _ _ c.requires.serves c.apply-found.ensures.serves refl (after-not_told m x n told)
