-- what the limits of a machine say of its guests
use Rattle.std.proofs.Common.{◌≡◌, ℕ, zero, suc, ◌<◌, Bool, List, [], ◌∷◌, length, get_or, take, drop, IsTrue, refl, ap, arith}
use Rattle.std.specs.List.{list_all}
use Rattle.std.proofs.lemmas.List.{get_or_default}
use Rattle.plat_base.proofs.LimitLemmas.{config_limits}
use Rattle.plat_base.specs.Canon.{label_name}
use Rattle.plat_base.specs.GuestRun.{no_label}
use Rattle.plat_base.specs.Machine.{Program, is_program, is_instr, labels_rise, program_seen, programs_seen}
use Rattle.plat_base.specs.declared.configs.Config.{Config}
use Rattle.plat_base.specs.declared.guests.GuestText.{GuestText}
use Rattle.plat_base.specs.declared.guests.Label.{Label}

pub guests_within : (cfg : Config) → IsTrue (list_all is_program (programs_seen cfg.guests.items))
guests_within cfg = (config_limits cfg).guests

pub guest_within : (guests : List GuestText) (i : ℕ) (other : GuestText) → IsTrue (list_all is_program (programs_seen guests)) →
    i < length guests → IsTrue (is_program (program_seen (get_or guests i other)))
guest_within [] i other h k = absurd (omega arith)
guest_within (g ∷ gs) zero other h k = grind arith
guest_within (g ∷ gs) (suc i) other h k = grind (arith, guest_within gs i other)

all-take : {T : Type 0} (test : T → Bool) (n : ℕ) (xs : List T) → IsTrue (list_all test xs) → IsTrue (list_all test (take n xs))
all-take test zero xs h = refl
all-take test (suc n) [] h = refl
all-take test (suc n) (x ∷ xs) h = grind (arith, all-take test n xs)

all-drop : {T : Type 0} (test : T → Bool) (n : ℕ) (xs : List T) → IsTrue (list_all test xs) → IsTrue (list_all test (drop n xs))
all-drop test zero xs h = h
all-drop test (suc n) [] h = refl
all-drop test (suc n) (x ∷ xs) h = all-drop test n xs (grind arith)

-- what holds of all holds of those of a part
pub all_between : {T : Type 0} (test : T → Bool) (m n : ℕ) (xs : List T) → IsTrue (list_all test xs) →
    IsTrue (list_all test (take m (drop n xs)))
all_between test m n xs h = all-take test m (drop n xs) (all-drop test n xs h)

pub program_parts : (p : Program) → IsTrue (is_program p) → IsTrue (list_all (is_instr (length p.labels)) p.code)
    × IsTrue (labels_rise 0 (length p.code) p.labels)
program_parts p h = grind arith

pub name_at : (labels : List Label) (i : ℕ) (other : Label) → i < length labels → (get_or labels i other).name ≡ label_name labels i
name_at labels i other h = ap (λ (l : Label). l.name) (get_or_default labels i other no_label h)
