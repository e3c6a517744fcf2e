use Rattle.std.proofs.Common.{◌≡◌, ap, arith}
use Rattle.plat_ports.specs.Made.{RecordSeen}
use Rattle.plat_ports.proofs.record_ports.RecordPortWordPort.apply.Goals as goal

pub returns-else-self-gt0-clause-stays : goal.returns-else-self-gt0-clause-stays
returns-else-self-gt0-clause-stays c =
    let left : c.self.inside.left ≡ c.args.self.now.spare = ap (λ (r : RecordSeen). r.spare) c.self.view_is in
    let made = ap (λ (r : RecordSeen). r.made) c.self.view_is in
    let none : c.args.self.now.spare ≡ 0 = omega arith in
    (record { at = c.args.at; op = c.args.op; found = c.apply-found.result }, rw none made, omega arith)
