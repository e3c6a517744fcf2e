use Rattle.std.proofs.Common.{◌∙◌, ap, leb, length, List, ℕ}
use Rattle.plat_base.specs.Canon.{most_bytes}
use Rattle.plat_machine.proofs.ShortLemmas.{whole-short, part-short}
use Rattle.plat_machine.proofs.whole.has_short_text.Goals as goal

pub returns-in-Ok : goal.returns-in-Ok
returns-in-Ok c =
    ap (λ (bytes : List ℕ). leb (length bytes) most_bytes) c.bytes.ensures.bytes
    ∙ whole-short c.args.read.now _ _ c.in_ok-text.ensures.empty c.in_ok-text.ensures.size c.in-Ok.ensures

pub returns : goal.returns
returns c = part-short c.args.read.now _ _ c.in_ok-text.ensures.empty c.in_ok-text.ensures.size _ c.in-Err.ensures
