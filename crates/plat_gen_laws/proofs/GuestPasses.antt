-- the turns of a generated guest: seven before its loop, ten for each of the 4,000 passes, and one to halt
use Rattle.std.proofs.Common.{◌≡◌, subst, replicate, ℕ, zero, suc, ◌+◌, ◌*◌, ◌<◌, ◌≤◌, true, List, [], ◌∷◌, length, Some, None, refl, arith}
use Rattle.std.proofs.Common.{get_or}
use Rattle.std.specs.Prelude.{is_some, bit_and, ◌/◌, ◌%◌, ◌^◌}
use Rattle.std.proofs.lemmas.Bool.{lt-ltb}
use Rattle.std.proofs.lemmas.Nat.{and_le_r}
use Rattle.std.proofs.lemmas.Option.{slice_get-get_or}
use Rattle.plat_base.specs.Machine.{Machine}
use Rattle.plat_base.specs.Pages.{program_of, entry_at}
use Rattle.plat_base.specs.GuestRun.{GuestState, HasHalted, guest_run, word_modulus}
use Rattle.plat_base.specs.declared.guests.Instr.TheVariants as instr
use Rattle.plat_base.specs.declared.items.Kind.TheVariants as kind
use Rattle.plat_gen.specs.Generated.{guest}
use Rattle.plat_gen_laws.proofs.GuestSteps.{IsAt, IsAt-as, local_turn, access_turn, last_turn}

-- a machine whose guest q starts from x, with an entry for each of 33 pages of 16 words
pub record HasGuest (m : Machine) (q x : ℕ) : Type 0 where
  pub program : program_of m q ≡ guest x
  pub entry : (addr : ℕ) → addr < 528 → is_some (entry_at m 0 (addr / m.words)) ≡ true

-- the registers in the loop, on its pass k; what the others hold does not matter
abbrev registers : (r0 r7 r8 r9 k : ℕ) → List ℕ
registers r0 r7 r8 r9 k =
    r0 ∷ 1 ∷ 4000 ∷ 1664525 ∷ 1013904223 ∷ 511 ∷ 16 ∷ r7 ∷ r8 ∷ r9 ∷ k ∷ 0 ∷ 0 ∷ 0 ∷ 0 ∷ 0 ∷ []

abbrev here : ℕ → List ℕ → GuestState
here at held = record { registers = held; at = at; space = 0 }

module _ (m : Machine) (q x : ℕ) (vs : List ℕ) (g : HasGuest m q x) where
  -- before the loop
  before_loop : IsAt m q vs 7 (here 7 (registers x 0 0 0 0)) 0
  before_loop =
      let e = g.program in
      let a0 : IsAt m q vs 0 (here 0 (replicate 16 0)) 0 = record { state = rw e refl; taken = refl; turns = refl; goes = refl } in
      let a1 = local_turn m q vs (guest x) e (instr.Set 0 x) refl refl a0 in
      let a2 = local_turn m q vs (guest x) e (instr.Set 1 1) refl refl a1 in
      let a3 = local_turn m q vs (guest x) e (instr.Set 2 4000) refl refl a2 in
      let a4 = local_turn m q vs (guest x) e (instr.Set 3 1664525) refl refl a3 in
      let a5 = local_turn m q vs (guest x) e (instr.Set 4 1013904223) refl refl a4 in
      let a6 = local_turn m q vs (guest x) e (instr.Set 5 511) refl refl a5
      in local_turn m q vs (guest x) e (instr.Set 6 16) refl refl a6

  -- the next number of the sequence, and the word of the pages that it selects
  abbrev next : ℕ → ℕ
  next r0 = ((r0 * 1664525) % word_modulus + 1013904223) % word_modulus

  abbrev selected : ℕ → ℕ
  selected r0 = bit_and (r0 / 2 ^ 16) 511

  -- the four turns of a pass before its load
  to_load :
      {t used : ℕ} (r0 r7 r8 r9 k : ℕ) → IsAt m q vs t (here 7 (registers r0 r7 r8 r9 k)) used
      → IsAt m q vs (t + 4) (here 11 (registers (next r0) (selected (next r0)) r8 r9 k)) used
  to_load {t} {used} r0 r7 r8 r9 k a0 =
      let e = g.program in
      let a1 = local_turn m q vs (guest x) e (instr.Mul 0 0 3) refl refl a0 in
      let a2 = local_turn m q vs (guest x) e (instr.Add 0 0 4) refl refl a1 in
      let a3 = local_turn m q vs (guest x) e (instr.Shr 7 0 6) refl refl a2 in
      let a4 = local_turn m q vs (guest x) e (instr.And 7 7 5) refl refl a3
      in IsAt-as a4 (omega arith) refl refl

  -- the five turns from its load on to its branch
  to_branch :
      {t used : ℕ} (r0 r7 r8 r9 k : ℕ) → r7 ≤ 511 → k < 4000 → used + 2 ≤ length vs
      → IsAt m q vs t (here 11 (registers r0 r7 r8 r9 k)) used
      → IsAt m q vs (t + 5) (here 16 (registers r0 r7 ((get_or vs used 0 + 1) % word_modulus) (get_or vs (used + 1) 0) (k + 1))) (used + 2)
  to_branch {t} {used} r0 r7 r8 r9 k small inside room a0 =
      let e = g.program in
      let at : ℕ = (0 + r7) % word_modulus in
      let below : at < 528 = omega arith in
      let there = g.entry at below in
      let shared = g.entry 512 (omega arith) in
      let old : ℕ = get_or vs used 0 in
      let count : ℕ = get_or vs (used + 1) 0 in
      let first = slice_get-get_or vs used 0 (omega arith) in
      let second = slice_get-get_or vs (used + 1) 0 (omega arith) in
      let one : (k + 1) % word_modulus ≡ k + 1 = omega arith in
      let a1 = access_turn m q vs (guest x) e (instr.Load 8 0 (Some 7)) kind.Load 0 at 0 old refl (rw there refl) first a0 in
      let a2 = local_turn m q vs (guest x) e (instr.Add 8 8 1) refl refl a1 in
      let sum : ℕ = (old + 1) % word_modulus in
      let a3 = access_turn m q vs (guest x) e (instr.Store 8 0 (Some 7)) kind.Store 0 at sum 0 refl (rw there refl) refl a2 in
      let a4 = access_turn m q vs (guest x) e (instr.Fadd 9 1 512 None) kind.Add 0 512 1 count refl (rw shared refl) second
      (IsAt-as a3 refl refl (omega arith)) in
      let a5 = local_turn m q vs (guest x) e (instr.Add 10 10 1) refl refl a4
      in IsAt-as a5 (omega arith) (rw one refl) (omega arith)

  -- the branch goes back while the counter is below 4,000
  to_start :
      {t used : ℕ} (r0 r7 r8 r9 k : ℕ) → k < 4000 → IsAt m q vs t (here 16 (registers r0 r7 r8 r9 k)) used
      → IsAt m q vs (t + 1) (here 7 (registers r0 r7 r8 r9 k)) used
  to_start {t} {used} r0 r7 r8 r9 k inside a0 =
      let a1 = local_turn m q vs (guest x) g.program (instr.Less 10 2 0) refl refl a0
      in IsAt-as a1 (omega arith) (rw (lt-ltb k 4000 inside) refl) refl

  to_halt :
      {t used : ℕ} (r0 r7 r8 r9 k : ℕ) → k ≡ 4000 → IsAt m q vs t (here 16 (registers r0 r7 r8 r9 k)) used
      → IsAt m q vs (t + 1) (here 17 (registers r0 r7 r8 r9 k)) used
  to_halt {t} {used} r0 r7 r8 r9 k out a0 =
      let a1 = local_turn m q vs (guest x) g.program (instr.Less 10 2 0) refl refl a0
      in IsAt-as a1 (omega arith) (rw out refl) refl

  -- the guest is at this position with this count of passes
  record AtPoint (at k t used : ℕ) : Type 0 where
    pub r0 : ℕ
    pub r7 : ℕ
    pub r8 : ℕ
    pub r9 : ℕ
    pub is : IsAt m q vs t (here at (registers r0 r7 r8 r9 k)) used

  point_as : {at k l t u used taken : ℕ} → AtPoint at k t used → k ≡ l → t ≡ u → used ≡ taken → AtPoint at l u taken
  point_as {at} {k} {l} {t} {u} {used} {taken} p e f g =
      subst (λ n. AtPoint at n u taken) e (subst (λ n. AtPoint at k n taken) f (subst (λ n. AtPoint at k t n) g p))

  -- a pass as far as its branch
  pass : (k t used : ℕ) → k < 4000 → used + 2 ≤ length vs → AtPoint 7 k t used → AtPoint 16 (k + 1) (t + 4 + 5) (used + 2)
  pass k t used inside room p =
      let now = next p.r0 in
      let small = and_le_r (now / 2 ^ 16) 511 in
      let loads = to_load p.r0 p.r7 p.r8 p.r9 k p.is
      in record { r0 = now; r7 = selected now; r8 = _; r9 = _; is = to_branch now (selected now) p.r8 p.r9 k small inside room loads }

  passes : (k : ℕ) → k < 4000 → 2 * k ≤ length vs → AtPoint 7 k (7 + 10 * k) (2 * k)
  passes zero h room = record { r0 = x; r7 = 0; r8 = 0; r9 = 0; is = before_loop }
  passes (suc k) h room =
      let p = pass k (7 + 10 * k) (2 * k) (omega arith) (omega arith) (passes k (omega arith) (omega arith)) in
      let back = to_start p.r0 p.r7 p.r8 p.r9 (k + 1) (omega arith) p.is in
      let start : AtPoint 7 (k + 1) (7 + 10 * k + 4 + 5 + 1) (2 * k + 2) = record { r0 = p.r0; r7 = p.r7; r8 = p.r8; r9 = p.r9; is = back }
      in point_as start (omega arith) (omega arith) (omega arith)

  at_halt :
      (k t used : ℕ) → AtPoint 17 k t used → ((guest_run m q vs (suc t)).turns ≡ suc t) × ((guest_run m q vs (suc t)).outcome ≡ HasHalted)
  at_halt k t used p = last_turn m q vs (guest x) g.program instr.Halt refl refl p.is

  -- the turn in which it halts; k and t stay variables, since the run would compute at a number
  halting :
      (k t : ℕ) → k ≡ 3999 → t ≡ 40007 → 8000 ≤ length vs
      → ((guest_run m q vs (suc t)).turns ≡ suc t) × ((guest_run m q vs (suc t)).outcome ≡ HasHalted)
  halting k t e f room =
      let p = pass k (7 + 10 * k) (2 * k) (omega arith) (omega arith) (passes k (omega arith) (omega arith)) in
      let out = to_halt p.r0 p.r7 p.r8 p.r9 (k + 1) (omega arith) p.is in
      let end : AtPoint 17 (k + 1) (7 + 10 * k + 4 + 5 + 1) (2 * k + 2) = record { r0 = p.r0; r7 = p.r7; r8 = p.r8; r9 = p.r9; is = out }
      in at_halt (k + 1) t (2 * k + 2) (point_as end refl (omega arith) refl)

  pub halts :
      (t : ℕ) → t ≡ 40008 → 8000 ≤ length vs → ((guest_run m q vs t).turns ≡ t) × ((guest_run m q vs t).outcome ≡ HasHalted)
  halts zero e room = absurd (omega arith)
  halts (suc t) e room = halting 3999 t refl (omega arith) room
