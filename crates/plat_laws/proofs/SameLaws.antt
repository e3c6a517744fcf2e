-- values that pass a test of equality are one
use Rattle.std.specs.Prelude.{◌≡◌, ℕ, ◌==◌, ◌&&◌, Bool, true, List, [], ◌∷◌}
use Rattle.std.proofs.Common.{refl, ap, ◌∙◌, arith}
use Rattle.std.proofs.lemmas.Bool.{and_parts, eqb-true}
use Rattle.plat_base.specs.Copies.{same_frame, same_frames}
use Rattle.plat_base.specs.Alike.{same_state, same_right, same_cause, same_action, same_removed, same_bool, same_dir}
use Rattle.plat_base.specs.declared.frames.Frame.{Frame}
use Rattle.plat_base.specs.declared.frames.Dir.{Dir}
use Rattle.plat_base.specs.declared.frames.State.{State}
use Rattle.plat_base.specs.declared.items.Right.{Right}
use Rattle.plat_base.specs.declared.items.Cause.{Cause}
use Rattle.plat_base.specs.declared.items.Action.{Action}
use Rattle.plat_base.specs.declared.items.Removed.{Removed}

-- ---- values of one number

pub same_state-true : (a b : State) → same_state a b ≡ true → a ≡ b
same_state-true a b h = search arith

pub same_right-true : (a b : Right) → same_right a b ≡ true → a ≡ b
same_right-true a b h = search arith

pub same_cause-true : (a b : Cause) → same_cause a b ≡ true → a ≡ b
same_cause-true a b h = search arith

pub same_removed-true : (a b : Removed) → same_removed a b ≡ true → a ≡ b
same_removed-true a b h = search arith

pub same_action-true : (a b : Action) → same_action a b ≡ true → a ≡ b
same_action-true a b h = search arith

-- ---- frames and directories

pub same_frame-true : (f g : Frame) → same_frame f g ≡ true → f ≡ g
same_frame-true f g h =
    let parts = and_parts (f.module == g.module) (f.number == g.number) h in
    let on : f.module ≡ g.module = eqb-true f.module g.module parts.0 in
    let named : f.number ≡ g.number = eqb-true f.number g.number parts.1
    in ap (λ (mo : ℕ). record { «module» = mo; number = f.number }) on ∙ ap (λ (n : ℕ). record { «module» = g.module; number = n }) named

same_frames-true : (fs gs : List Frame) → same_frames fs gs ≡ true → fs ≡ gs
same_frames-true [] [] h = refl
same_frames-true [] (g ∷ gs) h = absurd cc
same_frames-true (f ∷ fs) [] h = absurd cc
same_frames-true (f ∷ fs) (g ∷ gs) h =
    let parts = and_parts (same_frame f g) (same_frames fs gs) h
    in ap (λ (x : Frame). x ∷ fs) (same_frame-true f g parts.0) ∙ ap (λ (xs : List Frame). g ∷ xs) (same_frames-true fs gs parts.1)

same_bool-true : (a b : Bool) → same_bool a b ≡ true → a ≡ b
same_bool-true a b h = search arith

pub same_dir-true : (a b : Dir) → same_dir a b ≡ true → a ≡ b
same_dir-true a b h =
    let all = and_parts (same_state a.state b.state && same_bool a.frozen b.frozen) (same_frames a.copies b.copies) h in
    let two = and_parts (same_state a.state b.state) (same_bool a.frozen b.frozen) all.0
    in ap (λ (s : State). record { state = s; frozen = a.frozen; copies = a.copies }) (same_state-true a.state b.state two.0)
    ∙ ap (λ (z : Bool). record { state = b.state; frozen = z; copies = a.copies }) (same_bool-true a.frozen b.frozen two.1)
    ∙ ap (λ (fs : List Frame). record { state = b.state; frozen = b.frozen; copies = fs }) (same_frames-true a.copies b.copies all.1)
