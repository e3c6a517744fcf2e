-- the daemon's pass, page by page
use Rattle.std.proofs.Common.{◌≡◌, ℕ, ◌+◌, ◌%◌, ◌<◌, ◌≤◌, List, length, true, sym, ap, ◌∙◌, subst, arith}
use Rattle.std.specs.List.{fold}
use Rattle.std.proofs.lemmas.Grind.{fold-append}
use Rattle.std.proofs.lemmas.Bool.Decides.{nat_tests}
use Rattle.plat_base.specs.Machine.{Machine}
use Rattle.plat_base.specs.Pages.{numbers}
use Rattle.plat_base.specs.Directories.{dir_of}
use Rattle.plat_base.specs.Decide.{is_dir}
use Rattle.plat_base.specs.Coarse.{Coarse}
use Rattle.plat_base.specs.Turns.{thaw, daemon, is_pass}
use Rattle.plat_base.specs.Verdicts.{Answer}
use Rattle.plat_base.specs.declared.endings.Ended.{Ended}
use Rattle.plat_chronicle.specs.Chronicle.{Chronicled}
use Rattle.plat_coarse.specs.Running.{state_of}
use Rattle.plat_base.specs.declared.policies.PolicyKind.{PolicyKind}
use Rattle.plat_base.specs.declared.policies.PolicyKind.TheVariants as policy
use Rattle.plat_coarse_laws.specs.Sound.{Sound}
use Rattle.plat_coarse_laws.proofs.TurnItemLaws.{has_daemon-is_pass}
use Rattle.plat_coarse_laws.proofs.TurnLaws.{thaws_sound}
use Rattle.plat_coarse_laws.proofs.RoomLaws.{thaws-within}
use Rattle.plat_base.proofs.ListLemmas.{numbers-more}

pub pass_at : (p : PolicyKind) (t1 t2 now : ℕ) → p ≡ policy.Platinum t1 t2 → now % t2 ≡ 0 → is_pass p now ≡ true
pass_at p t1 t2 now is divides = rw is (grind (arith, nat_tests))

-- the run once the pages below this one are thawed
abbrev pub thawed_below : Machine → Answer → ℕ → Coarse → ℕ → Coarse
thawed_below m answer now s page = fold (thaw m answer now) s (numbers page)

pub thawed_below-more : (m : Machine) (answer : Answer) (now : ℕ) (s : Coarse) (page : ℕ)
    → thawed_below m answer now s (page + 1) ≡ thaw m answer now (thawed_below m answer now s page) page
thawed_below-more m answer now s page =
    ap (fold (thaw m answer now) s) (numbers-more page) ∙ fold-append (thaw m answer now) s (numbers page) _

pub thawed_below-dir : (m : Machine) (answer : Answer) (now : ℕ) (s : Coarse) (page : ℕ) → Sound m answer s
    → is_pass m.policy now ≡ true → page < m.pages → is_dir m (dir_of (thawed_below m answer now s page).history page) ≡ true
thawed_below-dir m answer now s page sound pass inside =
    let below : Sound m answer (thawed_below m answer now s page) =
    thaws_sound m answer s now 0 page sound (has_daemon-is_pass m.policy now pass) (omega arith) in
    (below.settled.page page inside).dir

pub thawed_below-length : (m : Machine) (answer : Answer) (now : ℕ) (s : Coarse) (page : ℕ)
    → is_pass m.policy now ≡ true → page < m.pages
    → length (thaw m answer now (thawed_below m answer now s page) page).history ≤ length (daemon m answer now s).history
thawed_below-length m answer now s page pass inside =
    let more = ap (λ (z : Coarse). length z.history) (thawed_below-more m answer now s page) in
    omega (arith, more, thaws-within m answer now s (page + 1) pass (omega arith))

-- ---- the engine between two pages of a pass

-- the chronicle of a run whose pages below this one are thawed
pub record IsThawed (old now : Chronicled) (answer : Answer) (ends : List Ended) (tick page : ℕ) : Type 0 where
  pub machine : now.machine ≡ old.machine
  pub state : state_of now ends ≡ thawed_below old.machine answer tick (state_of old ends) page

pub IsThawed-dir : (old now : Chronicled) (answer : Answer) (ends : List Ended) (tick page : ℕ) → IsThawed old now answer ends tick page
    → Sound old.machine answer (state_of old ends) → is_pass old.machine.policy tick ≡ true
    → page < old.machine.pages → is_dir now.machine (dir_of now.items page) ≡ true
IsThawed-dir old now answer ends tick page is sound pass inside =
    let P : Machine → Type 0 = λ m. is_dir m (dir_of now.items page) ≡ true in
    let Q : Coarse → Type 0 = λ s. is_dir old.machine (dir_of s.history page) ≡ true in
    subst P (sym is.machine)
    (subst Q (sym is.state) (thawed_below-dir old.machine answer tick (state_of old ends) page sound pass inside))

pub IsThawed-length : (old now : Chronicled) (answer : Answer) (ends : List Ended) (tick page : ℕ) → IsThawed old now answer ends tick page
    → is_pass old.machine.policy tick ≡ true → page < old.machine.pages
    → length (thaw now.machine answer tick (state_of now ends) page).history
    ≤ length (daemon old.machine answer tick (state_of old ends)).history
IsThawed-length old now answer ends tick page is pass inside =
    let most = length (daemon old.machine answer tick (state_of old ends)).history in
    let P : Machine → Type 0 = λ m. length (thaw m answer tick (state_of now ends) page).history ≤ most in
    let Q : Coarse → Type 0 = λ s. length (thaw old.machine answer tick s page).history ≤ most in
    subst P (sym is.machine)
    (subst Q (sym is.state) (thawed_below-length old.machine answer tick (state_of old ends) page pass inside))

pub IsThawed-more : (old now next : Chronicled) (answer : Answer) (ends : List Ended) (tick page : ℕ) →
    IsThawed old now answer ends tick page
    → next.machine ≡ now.machine
    → state_of next ends ≡ thaw now.machine answer tick (state_of now ends) page
    → IsThawed old next answer ends tick (page + 1)
IsThawed-more old now next answer ends tick page is machine state = record {
  machine = machine ∙ is.machine;
  state =
      let P : Machine → Type 0 = λ m. state_of next ends ≡ thaw m answer tick (state_of now ends) page in
      let Q : Coarse → Type 0 = λ s. state_of next ends ≡ thaw old.machine answer tick s page in
      subst Q is.state (subst P is.machine state)
      ∙ sym (thawed_below-more old.machine answer tick (state_of old ends) page);
}

-- the tick of a pass, as the code tests it
pub pass_of : (m n : Machine) (t1 t2 now : ℕ) → n ≡ m → n.policy ≡ policy.Platinum t1 t2 → now % t2 ≡ 0 → is_pass m.policy now ≡ true
pass_of m n t1 t2 now same is divides = pass_at m.policy t1 t2 now (ap (λ (x : Machine). x.policy) (sym same) ∙ is) divides
