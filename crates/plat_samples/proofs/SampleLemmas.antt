-- the machines whose guests add and share are within their limits, and their texts are short; and one idle guest more
use Rattle.std.proofs.Common.{◌≡◌, ℕ, ◌+◌, false, List, [], ◌∷◌, ◌++◌, replicate, refl, sym, subst}
use Rattle.std.proofs.lemmas.List.{replicate_more}
use Rattle.std.specs.Prelude.{IsTrue}
use Rattle.std.specs.Fmt.{digits}
use Rattle.plat_base.specs.Canon.{is_short, canon_text}
use Rattle.plat_base.specs.Machine.{Program, is_machine, program_seen, programs_seen}
use Rattle.plat_base.specs.declared.guests.GuestText.{GuestText}
use Rattle.plat_base.specs.Rules.{has_daemon}
use Rattle.plat_base.specs.declared.configs.Entry.{Entry}
use Rattle.plat_base.specs.declared.policies.PolicyKind.{PolicyKind}
use Rattle.plat_base.specs.declared.policies.PolicyKind.TheVariants as policy
use Rattle.plat_base.specs.declared.policies.PolicyKind.TheVariants.{Place, Replicate, Platinum}
use Rattle.plat_samples.specs.Samples.{adding, adding_guest, entry, idle, reading, sharing, small, two_nodes, writing}
use Rattle.plat_samples.specs.declared.machines.Sizes.{Sizes}
use Rattle.plat_base.proofs.LimitLemmas.{programs_seen-push}

abbrev pub sharing_sizes : Sizes
sharing_sizes = record { nodes = 2; frames = 4; pages = 1; budget = 100 }

adding-limits : IsTrue (is_machine adding)
adding-limits = refl

adding-short : IsTrue (is_short adding)
unfolding is_short canon_text digits
adding-short = refl

pub adding_limits :
    (p q : Program) → p ≡ adding_guest → q ≡ adding_guest → IsTrue (is_machine (two_nodes policy.Place 1000 0 (p ∷ q ∷ [])))
adding_limits p q e f =
    subst (λ (x : Program). IsTrue (is_machine (two_nodes policy.Place 1000 0 (x ∷ q ∷ [])))) (sym e)
    (subst (λ (x : Program). IsTrue (is_machine (two_nodes policy.Place 1000 0 (adding_guest ∷ x ∷ [])))) (sym f) adding-limits)

pub adding_short :
    (p q : Program) → p ≡ adding_guest → q ≡ adding_guest → IsTrue (is_short (two_nodes policy.Place 1000 0 (p ∷ q ∷ [])))
adding_short p q e f =
    subst (λ (x : Program). IsTrue (is_short (two_nodes policy.Place 1000 0 (x ∷ q ∷ [])))) (sym e)
    (subst (λ (x : Program). IsTrue (is_short (two_nodes policy.Place 1000 0 (adding_guest ∷ x ∷ [])))) (sym f) adding-short)

sharing-limits : (policy : PolicyKind) → has_daemon policy ≡ false → IsTrue (is_machine (sharing policy))
sharing-limits Place h = refl
sharing-limits Replicate h = refl
sharing-limits (Platinum t1 t2) h = absurd cc

sharing-short : (policy : PolicyKind) → has_daemon policy ≡ false → IsTrue (is_short (sharing policy))
unfolding is_short canon_text digits
sharing-short Place h = refl
sharing-short Replicate h = refl
sharing-short (Platinum t1 t2) h = absurd cc

pub sharing_limits : (policy : PolicyKind) (entries : List Entry) (guests : List Program) → has_daemon policy ≡ false →
    entries ≡ entry 0 0 ∷ [] → guests ≡ writing ∷ reading ∷ [] → IsTrue (is_machine (small sharing_sizes policy entries [] guests))
sharing_limits policy entries guests h e f =
    subst (λ (x : List Entry). IsTrue (is_machine (small sharing_sizes policy x [] guests))) (sym e)
    (subst (λ (x : List Program). IsTrue (is_machine (small sharing_sizes policy (entry 0 0 ∷ []) [] x))) (sym f)
    (sharing-limits policy h))

pub sharing_short : (policy : PolicyKind) (entries : List Entry) (guests : List Program) → has_daemon policy ≡ false →
    entries ≡ entry 0 0 ∷ [] → guests ≡ writing ∷ reading ∷ [] → IsTrue (is_short (small sharing_sizes policy entries [] guests))
sharing_short policy entries guests h e f =
    subst (λ (x : List Entry). IsTrue (is_short (small sharing_sizes policy x [] guests))) (sym e)
    (subst (λ (x : List Program). IsTrue (is_short (small sharing_sizes policy (entry 0 0 ∷ []) [] x))) (sym f)
    (sharing-short policy h))

pub idle-push : (gs : List GuestText) (g : GuestText) (n : ℕ) → programs_seen gs ≡ replicate n idle → program_seen g ≡ idle →
    programs_seen (gs ++ g ∷ []) ≡ replicate (n + 1) idle
idle-push gs g n e f = rw (programs_seen-push gs g, e, f) (replicate_more n idle)
