-- a guest within the limits switches to a space of the machine
use Rattle.std.proofs.Common.{◌≡◌, ℕ, zero, suc, ◌<◌, Bool, true, false, List, [], ◌∷◌, length, arith, ap, sym, ◌∙◌}
use Rattle.std.specs.Prelude.{if◌then◌else◌, nat_lt, slice_get}
use Rattle.std.specs.List.{list_all}
use Rattle.std.proofs.lemmas.Bool.{and_parts, ltb-true}
use Rattle.std.proofs.lemmas.Bool.Decides.{nat_tests}
use Rattle.plat_base.specs.Machine.{Machine, Program, limits, is_program, is_instr}
use Rattle.plat_base.specs.Pages.{program_of, no_program}
use Rattle.plat_base.specs.GuestRun.{GuestState, want_of, wanted, wanted_next, address, register}
use Rattle.plat_base.specs.declared.limits.TheConstants.{SPACES}
use Rattle.plat_base.specs.declared.guests.Instr.{Instr}
use Rattle.plat_base.specs.declared.guests.Instr.TheVariants as instr
use Rattle.plat_base.specs.declared.guests.Want.TheVariants as want
use Rattle.plat_base.specs.declared.items.Kind.{Kind}
use Rattle.plat_laws.specs.Guests.{IsWithinLimits}
use Rattle.plat_laws.proofs.Limits.{guests-count}
use Rattle.plat_base.proofs.LimitLemmas.{holds_at}

access_no_switch : (b : Bool) (k : Kind) (sp ad o space : ℕ) → (if b then want.Access k sp ad o else want.Trap) ≡ want.Switch space →
    nat_lt space SPACES ≡ true
access_no_switch true k sp ad o space h = absurd cc
access_no_switch false k sp ad o space h = absurd cc

switch-instr :
    (m : Machine) (s : GuestState) (labels space : ℕ) (i : Instr) → wanted m s i ≡ want.Switch space → is_instr labels i ≡ true
    → nat_lt space SPACES ≡ true
switch-instr m s labels space (instr.Set d n) h k = absurd cc
switch-instr m s labels space (instr.Move d b) h k = absurd cc
switch-instr m s labels space (instr.Add d b c) h k = absurd cc
switch-instr m s labels space (instr.Sub d b c) h k = absurd cc
switch-instr m s labels space (instr.Mul d b c) h k = absurd cc
switch-instr m s labels space (instr.And d b c) h k = absurd cc
switch-instr m s labels space (instr.Shr d b c) h k = absurd cc
switch-instr m s labels space (instr.Load d at i) h k = access_no_switch _ _ s.space (address s at i) 0 space h
switch-instr m s labels space (instr.Store r at i) h k = access_no_switch _ _ s.space (address s at i) (register s r) space h
switch-instr m s labels space (instr.Fadd d r at i) h k = access_no_switch _ _ s.space (address s at i) (register s r) space h
switch-instr m s labels space (instr.Switch next) h k =
    let same : next ≡ space = cc in sym (ap (λ x. nat_lt x SPACES) same) ∙ k
switch-instr m s labels space (instr.Print r) h k = absurd cc
switch-instr m s labels space (instr.Jump l) h k = absurd cc
switch-instr m s labels space (instr.Zero b l) h k = absurd cc
switch-instr m s labels space (instr.Less b c l) h k = absurd cc
switch-instr m s labels space instr.Halt h k = absurd cc

switch-next :
    (m : Machine) (s : GuestState) (labels space : ℕ) (code : List Instr) (i : ℕ) → wanted_next m s (slice_get code i) ≡ want.Switch space
    → list_all (is_instr labels) code ≡ true → nat_lt space SPACES ≡ true
switch-next m s labels space [] i h k = absurd cc
switch-next m s labels space (x ∷ xs) zero h k =
    switch-instr m s labels space x h (and_parts (is_instr labels x) (list_all (is_instr labels) xs) k).0
switch-next m s labels space (x ∷ xs) (suc i) h k =
    switch-next m s labels space xs i h (and_parts (is_instr labels x) (list_all (is_instr labels) xs) k).1

is_program-parts : (p : Program) → is_program p ≡ true → (p.space < SPACES) × (list_all (is_instr (length p.labels)) p.code ≡ true)
is_program-parts p h = grind (arith, nat_tests)

program-is : (m : Machine) (q : ℕ) → IsWithinLimits m → q < m.nodes → is_program (program_of m q) ≡ true
program-is m q h l =
    holds_at is_program m.guests q no_program (holds_at (λ b. b) (limits m) 14 true h (omega arith))
    (omega (arith, guests-count m h))

-- the instructions of a guest are within the limits
pub program-instrs :
    (m : Machine) (q : ℕ) → IsWithinLimits m → q < m.nodes
    → list_all (is_instr (length (program_of m q).labels)) (program_of m q).code ≡ true
program-instrs m q h l = (is_program-parts (program_of m q) (program-is m q h l)).1

-- the space that a guest starts in, and the spaces that it switches to
pub first-space : (m : Machine) (q : ℕ) → IsWithinLimits m → q < m.nodes → (program_of m q).space < SPACES
first-space m q h l = (is_program-parts (program_of m q) (program-is m q h l)).0

pub switch-space :
    (m : Machine) (q : ℕ) (s : GuestState) (space : ℕ) → IsWithinLimits m → q < m.nodes → want_of m q s ≡ want.Switch space
    → space < SPACES
switch-space m q s space h l w =
    let p = program_of m q in
    ltb-true space SPACES
    (switch-next m s (length p.labels) space p.code s.at w (is_program-parts p (program-is m q h l)).1)
