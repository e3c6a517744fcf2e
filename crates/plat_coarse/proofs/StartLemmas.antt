-- before its first turn the engine follows the empty history
use Rattle.std.proofs.Common.{◌≡◌, ℕ, ◌+◌, ◌<◌, ◌≤◌, List, [], ◌∷◌, ◌++◌, length, true, refl, sym, ap, ◌∙◌, subst, inl, inr, arith}
use Rattle.std.specs.Prelude.{slice_index_or, replicate}
use Rattle.std.proofs.lemmas.Bool.{cases_eq}
use Rattle.std.proofs.lemmas.List.{get_or-replicate, length-replicate, get_or_push, get_or_append_left}
use Rattle.std.proofs.lemmas.List.Folds.{sum_by-replicate}
use Rattle.plat_base.specs.Machine.{Machine}
use Rattle.plat_base.specs.GuestRun.{guest_start}
use Rattle.plat_base.specs.Ends.{cut_at, is_live, time_of}
use Rattle.plat_base.specs.Coarse.{Coarse, coarse_start}
use Rattle.plat_base.specs.Turns.{guest_now}
use Rattle.plat_base.specs.Verdicts.{Answer}
use Rattle.plat_base.specs.declared.endings.Ended.{Ended}
use Rattle.plat_guest.specs.GuestSeen.{GuestSeen, new_guest}
use Rattle.plat_laws.specs.Guests.{IsWithinLimits}
use Rattle.plat_coarse_laws.specs.Sound.{Sound}
use Rattle.plat_coarse_laws.specs.Room.{room, IsRoomy}
use Rattle.plat_coarse_laws.proofs.RoomLaws.{roomy_start}
use Rattle.plat_laws.proofs.EndLaws.{is_live-below}
use Rattle.plat_coarse_laws.proofs.TurnLaws.{sound_start}
use Rattle.plat_coarse.specs.Advanced.{no_guest}
use Rattle.plat_chronicle.specs.Chronicle.{Chronicled}
use Rattle.plat_coarse.specs.CoarseSeen.{RunsOn}
use Rattle.plat_coarse.specs.Running.{state_of}

-- each of a list is what its number gives, once one more is
pub each-pushed : {X : Type 0} (xs : List X) (x d : X) (f : ℕ → X) (n : ℕ) → length xs ≡ n → x ≡ f n →
    ((q : ℕ) → q < n → slice_index_or xs q d ≡ f q) → (q : ℕ) → q < n + 1 → slice_index_or (xs ++ x ∷ []) q d ≡ f q
each-pushed xs x d f n count is each q l = elim (cases_eq q n) [
  | inl same ↦ subst (λ (k : ℕ). slice_index_or (xs ++ x ∷ []) k d ≡ f k) (sym same) (get_or_push xs x d n count ∙ is)
  | inr differ ↦ get_or_append_left xs (x ∷ []) d q (omega (arith, l, differ, count)) ∙ each q (omega (arith, l, differ))
]

guest_now-start : (m : Machine) (q : ℕ) → q < m.nodes → (guest_now m (coarse_start m) q).state ≡ guest_start m q
guest_now-start m q inside = rw (get_or-replicate m.nodes q (cut_at 0) (cut_at 0) inside) refl

pub start_is : (m : Machine) (k : Chronicled) (ends : List Ended) → k.items ≡ [] → ends ≡ replicate m.nodes (cut_at 0) →
    state_of k ends ≡ coarse_start m
start_is m k ends none cut = ap (λ is. record { history = is; ends = ends }) none ∙ ap (λ es. record { history = []; ends = es }) cut

starts : (m : Machine) (k : Chronicled) (answer : Answer) (ends : List Ended) (guests : List GuestSeen) → IsWithinLimits m → k.machine ≡ m →
    k.items ≡ []
    → room m ≤ k.spare → ends ≡ replicate m.nodes (cut_at 0) → length guests ≡ m.nodes
    → ((q : ℕ) → q < m.nodes → slice_index_or guests q no_guest ≡ new_guest m q)
    → RunsOn (record { machine = m; items = k.items; spare = k.spare }) answer ends guests 0
starts m k answer ends guests machine same none spare cut count each = record {
  machine = machine;
  sound = subst (λ (s : Coarse). Sound m answer s) (sym (start_is m k ends none cut)) (sound_start m answer machine);
  roomy = subst (λ (s : Coarse). IsRoomy m s) (sym (start_is m k ends none cut)) (roomy_start m);
  time = sym (ap time_of cut ∙ (sum_by-replicate (λ (x : Ended). x.turns) m.nodes (cut_at 0) ∙ omega arith));
  guests = count;
  nodes = λ q inside. ap (λ (g : GuestSeen). g.node) (each q inside);
  states = λ q live.
      let here : is_live (replicate m.nodes (cut_at 0)) q ≡ true = subst (λ (es : List Ended). is_live es q ≡ true) cut live in
      let inside : q < m.nodes = omega (arith, is_live-below (replicate m.nodes (cut_at 0)) q here, length-replicate m.nodes (cut_at 0)) in
      ap (λ (g : GuestSeen). g.state) (each q inside)
      ∙ (sym (guest_now-start m q inside) ∙ ap (λ (s : Coarse). (guest_now m s q).state) (sym (start_is m k ends none cut)));
  room = omega (arith, spare);
}

pub RunsOn-start : (m : Machine) (k : Chronicled) (answer : Answer) (ends : List Ended) (guests : List GuestSeen) → IsWithinLimits m →
    k.machine ≡ m → k.items ≡ []
    → room m ≤ k.spare → ends ≡ replicate m.nodes (cut_at 0) → length guests ≡ m.nodes
    → ((q : ℕ) → q < m.nodes → slice_index_or guests q no_guest ≡ new_guest m q) → RunsOn k answer ends guests 0
RunsOn-start m k answer ends guests machine same none spare cut count each =
    subst (λ (x : Machine). RunsOn (record { machine = x; items = k.items; spare = k.spare }) answer ends guests 0) (sym same)
    (starts m k answer ends guests machine same none spare cut count each)
