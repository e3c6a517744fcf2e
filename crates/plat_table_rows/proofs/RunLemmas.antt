-- actors that have ended, all actors of a machine, and their journals
use Rattle.std.proofs.Common.{◌≡◌, ℕ, zero, suc, ◌+◌, ◌<◌, Bool, true, false, List, [], ◌∷◌, length, map, sym, ap, ◌∙◌, subst, inl}
use Rattle.std.proofs.Common.{inr, arith}
use Rattle.std.specs.Prelude.{◌⊎◌, All, replicate, slice_index_or}
use Rattle.std.specs.Option.{option_to_list}
use Rattle.std.proofs.Math.Nat.{eq-or-lt_of_le}
use Rattle.std.proofs.lemmas.List.{length-map, length-append, length-replicate}
use Rattle.std.proofs.lemmas.List.FromFn.{length-range_with_len}
use Rattle.std.proofs.lemmas.Bool.{not-false}
use Rattle.plat_base.specs.Machine.{Machine}
use Rattle.plat_base.specs.Pages.{numbers}
use Rattle.plat_base.specs.Rooms.{journal_rooms, processor_room, daemon_room}
use Rattle.plat_base.specs.declared.policies.PolicyKind.TheVariants as policy
use Rattle.plat_events.specs.Privates.{actor_count, is_over}
use Rattle.plat_table.specs.Riders.{BoardSeen, RiderSeen, AreOver, IsOf, is_live_at, numbers_of}
use Rattle.plat_table.specs.Rule.{Held, held_first}
use Rattle.plat_table.proofs.RunLemmas.{numbers-first}

-- ---- the end of every actor

over-at : (crew : List Held) (k : ℕ) (d : Held) → is_live_at crew k ≡ false → k < length crew → is_over (slice_index_or crew k d).1.place
    ≡ true
over-at [] k d e b = absurd (omega arith)
over-at (h ∷ crew) zero d e b = not-false (is_over h.1.place) e
over-at (h ∷ crew) (suc k) d e b = over-at crew k d e (omega arith)

-- the actors before a place have ended
pub record AreOverBelow (crew : List Held) (n : ℕ) : Type 0 where
  pub ended : (k : ℕ) → k < n → is_live_at crew k ≡ false

pub none_below : (crew : List Held) → AreOverBelow crew 0
none_below crew = record { ended = λ k b. absurd (omega arith) }

one-more :
    (crew : List Held) (n k : ℕ) → AreOverBelow crew n → is_live_at crew n ≡ false → k < n + 1 → (k ≡ n) ⊎ (k < n)
    → is_live_at crew k ≡ false
one-more crew n k below here b (inr less) = below.ended k less
one-more crew n k below here b (inl same) = subst (λ (j : ℕ). is_live_at crew j ≡ false) (sym same) here

pub one_more : (crew : List Held) (n : ℕ) (live : Bool) → AreOverBelow crew n → live ≡ is_live_at crew n → live ≡ false →
    AreOverBelow crew (n + 1)
one_more crew n live below e f = record { ended = λ k b. one-more crew n k below (sym e ∙ f) b (eq-or-lt_of_le (omega (arith, b))) }

pub all_ended : (crew : List Held) (n : ℕ) → AreOverBelow crew n → n ≡ length crew → All (λ (h : Held). is_over h.1.place ≡ true) crew
all_ended crew n below e = λ k d b. over-at crew k d (below.ended k (omega (arith, e, b))) b

-- ---- all actors of a machine

pub first_numbers :
    (m : Machine) (crew : List Held) → crew ≡ map (held_first m) (numbers (actor_count m)) → numbers_of crew ≡ numbers (actor_count m)
first_numbers m crew e = ap numbers_of e ∙ numbers-first m (numbers (actor_count m))

pub all_over :
    (x : RiderSeen) (b : BoardSeen) (m : Machine) → IsOf x b → b.machine ≡ m → numbers_of x.crew ≡ numbers (actor_count m)
    → All (λ (h : Held). is_over h.1.place ≡ true) x.crew → AreOver x
all_over x b m of same all over = record {
  all = sym (length-map x.crew (λ (h : Held). h.0)) ∙ (ap length all
      ∙ (length-range_with_len 0 (actor_count m) ∙ ap actor_count (sym (of.1 ∙ same))));
  over = over;
}

-- ---- journals

pub has_room_of_processor : (m : Machine) (rooms : List ℕ) (a : ℕ) → rooms ≡ journal_rooms m → a < m.nodes → a < length rooms
has_room_of_processor m rooms a e h =
    let daemon = daemon_room m.nodes m.budget m.pages m.policy in
    omega (
      arith,
      ap length e,
      length-append (replicate m.nodes (processor_room m.budget)) (option_to_list daemon),
      length-replicate m.nodes (processor_room m.budget),
      h,
    )

pub has_room_of_daemon :
    (m : Machine) (rooms : List ℕ) (one two : ℕ) → rooms ≡ journal_rooms m → m.policy ≡ policy.Platinum one two → m.nodes < length rooms
has_room_of_daemon m rooms one two e p =
    let count : length (option_to_list (daemon_room m.nodes m.budget m.pages m.policy)) ≡ 1 =
    ap (λ k. length (option_to_list (daemon_room m.nodes m.budget m.pages k))) p in
    omega (
      arith,
      ap length e,
      length-append (replicate m.nodes (processor_room m.budget)) (option_to_list (daemon_room m.nodes m.budget m.pages m.policy)),
      length-replicate m.nodes (processor_room m.budget),
      count,
    )
