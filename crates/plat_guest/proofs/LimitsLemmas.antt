-- what a Config's limits say of its guests
use Rattle.std.proofs.Common.{◌≡◌, ℕ, ◌<◌, slice_index_or, ap, sym, ◌∙◌, IsTrue}
use Rattle.plat_base.specs.declared.configs.Config.{Config}
use Rattle.plat_base.specs.declared.guests.GuestText.{GuestText}
use Rattle.plat_base.specs.Machine.{program_seen, is_program}
use Rattle.plat_base.specs.Pages.{program_of}
use Rattle.plat_base.specs.Seen.{machine}
use Rattle.plat_base.proofs.LimitLemmas.{at_program, program_of-guest}

pub program_at : (cfg : Config) (q : ℕ) (g : GuestText) → q < cfg.nodes → g ≡ slice_index_or cfg.guests.items q g →
    program_seen g ≡ program_of (machine cfg) q
program_at cfg q g l e = ap program_seen e ∙ sym (program_of-guest cfg q g l)

pub program_is : (cfg : Config) (q : ℕ) → q < cfg.nodes → IsTrue (is_program (program_of (machine cfg) q))
program_is cfg q l = at_program (machine cfg) q cfg.limits
