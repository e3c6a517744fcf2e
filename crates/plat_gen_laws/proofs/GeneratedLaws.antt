-- the guests of a generated machine halt, and so do its processors
use Rattle.std.proofs.Common.{◌≡◌, Option, ◌≢◌, ℕ, zero, suc, ◌+◌, ◌<◌, ◌≤◌, Bool, true, false, map, refl, arith, if◌then◌else◌}
use Rattle.std.specs.Prelude.{is_some, ◌/◌, ◌==◌, ◌&&◌, replicate, Some}
use Rattle.std.specs.List.{position_from, range_with_len}
use Rattle.std.proofs.lemmas.List.FromFn.{get_or-map-range_with_len}
use Rattle.std.proofs.lemmas.Bool.{eqb-false}
use Rattle.plat_base.specs.Verdicts.{Answer}
use Rattle.plat_base.specs.Pages.{no_program}
use Rattle.plat_base.specs.Schedule.{coarse_run}
use Rattle.plat_base.specs.Statuses.{status_of}
use Rattle.plat_base.specs.declared.statuses.Status.TheVariants.{Done}
use Rattle.plat_gen.specs.Generated.{seed, same_page, guest, generated}
use Rattle.plat_gen.proofs.GeneratedLimits.{generated-limits}
use Rattle.plat_gen_laws.specs.Halts.{HaltsIn, halted_in}
use Rattle.plat_gen_laws.proofs.GuestPasses.{HasGuest, halts}
use Rattle.plat_gen_laws.proofs.HaltLaws.{HaltsIn-from, run_all_halt}

-- the entry of a virtual page of space 0, searched for from place i on among those of n pages from a on
abbrev found_from : (v a n i : ℕ) → Option ℕ
found_from v a n i = position_from (λ e. e.space == 0 && e.vpage == v) i (map same_page (range_with_len a n))

entry_found : (v a n i : ℕ) → a ≤ v → v < a + n → is_some (found_from v a n i) ≡ true
entry_found v a zero i l h = absurd (omega arith)
entry_found v a (suc n) i l h = by (a == v) refl (λ k. entry_found v (a + 1) n (i + 1) k (omega arith))
  where
    by :
        (b : Bool) → (a == v) ≡ b → (a + 1 ≤ v → is_some (found_from v (a + 1) n (i + 1)) ≡ true)
        → is_some (if b then Some i else found_from v (a + 1) n (i + 1)) ≡ true
    by true e k = refl
    by false e k = let other : a ≢ v = eqb-false a v e in k (omega arith)

pub has_guest : (n q : ℕ) → q < 8 → HasGuest (generated n) q (seed n q)
unfolding generated
has_guest n q l = record {
  program = get_or-map-range_with_len (λ r. guest (seed n r)) 0 8 q q no_program l (omega arith);
  entry = λ addr h. entry_found (addr / 16) 0 33 0 (omega arith) (omega arith);
}

pub guest_halts : (n q : ℕ) → q < 8 → HaltsIn (generated n) q 40008 8000
guest_halts n q l = by 40008 8000 refl refl
  where
    by : (last enough : ℕ) → last ≡ 40008 → enough ≡ 8000 → HaltsIn (generated n) q last enough
    by last enough e f =
        HaltsIn-from (generated n) q last enough (λ vs room. halts (generated n) q (seed n q) vs (has_guest n q l) last e (omega arith))

pub generated_ends : (n : ℕ) (answer : Answer) → (coarse_run (generated n) answer).ends ≡ replicate 8 (halted_in 40008)
unfolding generated
generated_ends n answer =
    run_all_halt (generated n) answer 40008 8000 (generated-limits n) (omega arith) (omega arith) (λ q l. guest_halts n q l)

pub generated_done : (n : ℕ) (answer : Answer) → status_of (coarse_run (generated n) answer).ends false ≡ Done
generated_done n answer = rw (generated_ends n answer) refl
