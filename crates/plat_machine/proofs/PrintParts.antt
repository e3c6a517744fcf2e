-- the parts that are printed make up the canonical text
use Rattle.std.proofs.Common.{◌≡◌, ℕ, ◌+◌, ◌<◌, List, [], ◌∷◌, ◌++◌, length, take, get_or, refl, sym, ap, ◌∙◌}
use Rattle.std.specs.List.{flat_map}
use Rattle.std.proofs.lemmas.List.{append-nil, take_more}
use Rattle.std.proofs.lemmas.Grind.{flat_map-append}
use Rattle.plat_base.specs.Canon.{Words, canon_text, program_lines}
use Rattle.plat_base.specs.Machine.{programs_seen}
use Rattle.plat_base.specs.Seen.{machine}
use Rattle.plat_base.specs.declared.configs.Config.{Config}
use Rattle.plat_base.specs.declared.guests.GuestText.{GuestText}
use Rattle.plat_io.specs.Lines.{text}
use Rattle.plat_machine.specs.Printed.{policy_line, schedule_line, size_lines, setting_lines, guest_lines, machine_lines}
use Rattle.plat_machine.specs.Printed.{front_lines}
use Rattle.plat_machine.specs.Shown.{front}
use Rattle.plat_machine.specs.declared.whole.Front.{Front}

guest_lines-programs : (guests : List GuestText) → flat_map guest_lines guests ≡ flat_map program_lines (programs_seen guests)
unfolding guest_lines
guest_lines-programs [] = refl
guest_lines-programs (g ∷ gs) = ap (λ (ls : List Words). guest_lines g ++ ls) (guest_lines-programs gs)

pub machine_lines-canon : (cfg : Config) → text (machine_lines cfg) ≡ canon_text (machine cfg)
unfolding text canon_text size_lines setting_lines policy_line schedule_line
machine_lines-canon cfg = rw guest_lines-programs refl

pub front_lines-canon : (f : Front) → text (front_lines f) ≡ canon_text (front f)
unfolding text canon_text size_lines setting_lines policy_line schedule_line
front_lines-canon f = rw guest_lines-programs refl

-- the lines of one guest more
pub guest_lines-next : (guests : List GuestText) (i : ℕ) (g : GuestText) → i < length guests → g ≡ get_or guests i g →
    flat_map guest_lines (take (i + 1) guests) ≡ flat_map guest_lines (take i guests) ++ guest_lines g
guest_lines-next guests i g k e =
    ap (flat_map guest_lines) (take_more guests i g k ∙ ap (λ (x : GuestText). take i guests ++ x ∷ []) (sym e))
    ∙ flat_map-append guest_lines (take i guests) (g ∷ [])
    ∙ ap (λ (ls : List Words). flat_map guest_lines (take i guests) ++ ls) (append-nil (guest_lines g))
