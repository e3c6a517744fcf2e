use Rattle.std.proofs.Common.{◌≡◌, true, false, Bool, refl}
use Rattle.plat_base.specs.Seen.{machine}
use Rattle.plat_proc.specs.Followed.{is_told}
use Rattle.plat_proc.proofs.EventLemmas.{after-not_told, after-told, event-made, served-after, served-its, told-named}
use Rattle.plat_proc.proofs.FitsLemmas.{fits-followed}
use Rattle.plat_proc.proofs.procs.Proc.act.Given.{Over}
use Rattle.plat_proc.proofs.procs.Proc.act.Goals.{After-is_followed}
use Rattle.plat_proc.proofs.procs.Proc.act.Goals as goal

-- the machine may have what it found, or not
told : (g : Over) (c : After-is_followed g) (b : Bool) → c.is_followed.result ≡ b →
    is_told (machine c.args.cfg.now) c.args.self.now c.apply-found.result ≡ b
told g c b e =
    told-named (machine c.args.cfg.now) c.args.self.now c.next-name.result c.apply-found.result c.is_followed.result b
    c.next-name.ensures.next c.is_followed.ensures e

pub apply-found-requires-clause-its_own : goal.apply-found-requires-clause-its_own
apply-found-requires-clause-its_own g c =
    served-its (machine c.args.cfg.now) c.args.self.now (g.P.WordPort.serves c.args.port.now) c.next-name.result c.place.result
    c.requires.serves c.next-name.ensures.next c.place.ensures.at

pub returns-then-is_followed-clause-event : goal.returns-then-is_followed-clause-event
returns-then-is_followed-clause-event g c =
    let m = machine c.args.cfg.now in
    let x = c.args.self.now in
    let n = c.apply-found.result in
    let at = (goal.at.returns-then-is_followed-clause-event g c).After-is_followed in
    let made = c.apply-found.ensures in
    event-made m x c.follow.new.self.state _ _ c.next-name.result c.place.result n c.next-name.ensures.next c.place.ensures.at
    (after-told m x c.follow.new.self.state n (told g at true c.if-is_followed.true) c.follow.ensures.state)
    made.words made.found made.says

pub returns-then-is_followed-clause-fits : goal.returns-then-is_followed-clause-fits
returns-then-is_followed-clause-fits g c =
    let m = machine c.args.cfg.now in
    let told = told g (goal.at.returns-then-is_followed-clause-fits g c).After-is_followed true c.if-is_followed.true in
    let done = c.follow.ensures in
    fits-followed m c.args.self.now c.follow.new.self c.apply-found.result c.args.cfg.now.limits c.requires.fits told done.actor
    done.room done.state done.slots done.handling

pub returns-then-is_followed-clause-serves : goal.returns-then-is_followed-clause-serves
returns-then-is_followed-clause-serves g c =
    let m = machine c.args.cfg.now in
    let x = c.args.self.now in
    let n = c.apply-found.result in
    let told = told g (goal.at.returns-then-is_followed-clause-serves g c).After-is_followed true c.if-is_followed.true in
    served-after m x.actor _ x.state _ n _ _ c.requires.serves c.apply-found.ensures.serves c.follow.ensures.actor
    (after-told m x c.follow.new.self.state n told c.follow.ensures.state)

pub returns-else-is_followed-clause-event : goal.returns-else-is_followed-clause-event
returns-else-is_followed-clause-event g c =
    let m = machine c.args.cfg.now in
    let x = c.args.self.now in
    let n = c.apply-found.result in
    let at = (goal.at.returns-else-is_followed-clause-event g c).After-is_followed in
    let made = c.apply-found.ensures in
    event-made m x x.state _ _ c.next-name.result c.place.result n c.next-name.ensures.next c.place.ensures.at
    (after-not_told m x n (told g at false c.if-is_followed.false)) made.words made.found made.says

pub returns-else-is_followed-clause-serves : goal.returns-else-is_followed-clause-serves
returns-else-is_followed-clause-serves g c =
    let m = machine c.args.cfg.now in
    let x = c.args.self.now in
    let n = c.apply-found.result in
    let told = told g (goal.at.returns-else-is_followed-clause-serves g c).After-is_followed false c.if-is_followed.false in
    served-after m x.actor x.actor x.state x.state n _ _ c.requires.serves c.apply-found.ensures.serves refl (after-not_told m x n told)
