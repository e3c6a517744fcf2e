-- the rooms of journals: each fits 32 bits, and all of them together are the most items of a history
use Rattle.std.proofs.Common.{◌≡◌, ℕ, ◌+◌, ◌*◌, ◌/◌, ◌≤◌, List, [], ◌∷◌, length, map, set, get_or, zero, suc, Option, Some, None, refl}
use Rattle.std.proofs.Common.{arith}
use mir.Val.{bool_byte}
use Rattle.std.specs.Prelude.{IsTrue, ◌++◌, replicate, is_some}
use Rattle.std.specs.List.{sum, sum_by}
use Rattle.std.specs.Option.{option_to_list}
use Rattle.std.proofs.Math.Nat.{div-le_of_le-mul}
use Rattle.std.proofs.lemmas.Bool.Decides.{nat_tests}
use Rattle.std.proofs.lemmas.Grind.{common_steps}
use Rattle.std.proofs.lemmas.List.{map-set}
use Rattle.std.proofs.lemmas.List.Folds.{sum_by-replicate}
use Rattle.std.proofs.lemmas.List.Sums.{sum_by_from, sum_by-append}
use Rattle.std.proofs.lemmas.Simd.{splat_is_map}
use Rattle.std.proofs.lemmas.Nat.{mul-le}
use Rattle.plat_base.specs.Roomy.{Roomy}
use Rattle.plat_base.specs.Machine.{Machine, is_machine}
use Rattle.plat_base.specs.Rooms.{processor_room, daemon_room, journal_rooms, lists_seen, fit_rooms}
use Rattle.plat_base.specs.declared.items.Item.{Item}
use Rattle.plat_base.specs.declared.policies.PolicyKind.{PolicyKind}
use Rattle.plat_base.specs.declared.policies.PolicyKind.TheVariants as policy
use Rattle.plat_base.proofs.LimitLemmas.{Limits, limits_of, period_least}

passes_most : (nodes budget t2 : ℕ) → nodes ≤ 8 → budget ≤ 65536 → 64 ≤ t2 → nodes * budget / t2 ≤ 8192
passes_most nodes budget t2 h k l = div-le_of_le-mul t2 (omega (arith, mul-le nodes budget 8 65536 h k))

pub thaws_most : (m : Machine) (t1 t2 : ℕ) → IsTrue (is_machine m) → m.policy ≡ policy.Platinum t1 t2 →
    m.nodes * m.budget / t2 * m.pages ≤ 524288
thaws_most m t1 t2 h e =
    let l : Limits m = limits_of m h in
    mul-le _ _ 8192 64 (passes_most m.nodes m.budget t2 l.nodes_most l.budget_most (period_least t1 t2 (rw e at l.policy))) l.pages_most

-- an empty journal for each room
abbrev pub empties : List ℕ → List (List Item)
empties rooms = map (λ _. []) rooms

pub fit_rooms-empties : (rooms : List ℕ) → IsTrue (fit_rooms rooms (empties rooms))
fit_rooms-empties [] = refl
fit_rooms-empties (r ∷ rs) = grind (arith, nat_tests, fit_rooms-empties rs)

length-rooms : (nodes room : ℕ) (daemon : Option ℕ) → length (replicate nodes room ++ option_to_list daemon)
    ≡ nodes + bool_byte (is_some daemon)
length-rooms nodes room None = grind (arith, common_steps)
length-rooms nodes room (Some d) = grind (arith, common_steps)

-- there is a room for each node, and one for the daemon
pub empties-rooms : (nodes room : ℕ) (daemon : Option ℕ) (n : ℕ) → n ≡ nodes + bool_byte (is_some daemon) →
    replicate n [] ≡ empties (replicate nodes room ++ option_to_list daemon)
empties-rooms nodes room daemon n h =
    splat_is_map (replicate nodes room ++ option_to_list daemon) n [] (omega (arith, length-rooms nodes room daemon))

-- a list that fits its room takes the place of another
pub fit_rooms-set : (rooms : List ℕ) (lists : List (List Item)) (i : ℕ) (l : List Item) → IsTrue (fit_rooms rooms lists) →
    length l ≤ get_or rooms i 0 → IsTrue (fit_rooms rooms (set lists i l))
fit_rooms-set [] [] i l h k = h
fit_rooms-set [] (m ∷ ms) i l h k = absurd cc
fit_rooms-set (r ∷ rs) [] i l h k = absurd cc
fit_rooms-set (r ∷ rs) (m ∷ ms) zero l h k = grind (arith, nat_tests)
fit_rooms-set (r ∷ rs) (m ∷ ms) (suc i) l h k = grind (arith, nat_tests, fit_rooms-set rs ms i l)

pub lists_seen-set : (ls : List (Roomy Item)) (i : ℕ) (l : Roomy Item) → lists_seen (set ls i l) ≡ set (lists_seen ls) i l.items
lists_seen-set ls i l = map-set (λ (l : Roomy Item). l.items) ls i l

-- ---- all journals together

daemon_room-most : (m : Machine) (p : PolicyKind) → IsTrue (is_machine m) → m.policy ≡ p →
    sum (option_to_list (daemon_room m.nodes m.budget m.pages p)) ≤ 524288
daemon_room-most m policy.Place h e = omega arith
daemon_room-most m policy.Replicate h e = omega arith
daemon_room-most m (policy.Platinum t1 t2) h e = omega (arith, thaws_most m t1 t2 h e)

pub journal_rooms-most : (m : Machine) → IsTrue (is_machine m) → sum (journal_rooms m) ≤ 2621440
journal_rooms-most m h =
    let l : Limits m = limits_of m h in
    omega (
      arith,
      sum_by-append (λ x. x) (replicate m.nodes (processor_room m.budget))
          (option_to_list (daemon_room m.nodes m.budget m.pages m.policy)),
      sum_by-replicate (λ x. x) m.nodes (processor_room m.budget),
      mul-le m.nodes m.budget 8 65536 l.nodes_most l.budget_most,
      daemon_room-most m m.policy h refl,
    )

pub lengths-most : (rooms : List ℕ) (lists : List (List Item)) → IsTrue (fit_rooms rooms lists) → sum_by (λ l. length l) lists ≤ sum rooms
lengths-most [] [] h = omega arith
lengths-most [] (l ∷ ls) h = absurd cc
lengths-most (r ∷ rs) [] h = absurd cc
lengths-most (r ∷ rs) (l ∷ ls) h =
    grind (arith, nat_tests, sum_by_from (λ x. x) r rs, sum_by_from (λ (l : List Item). length l) (length l) ls, lengths-most rs ls)

-- the items of the processors
pub processors-fit : (m : Machine) → IsTrue (is_machine m) → m.nodes * (4 * m.budget) ≤ 2097152
processors-fit m h =
    let l : Limits m = limits_of m h in
    mul-le m.nodes (4 * m.budget) 8 262144 l.nodes_most (omega (arith, l.budget_most))
