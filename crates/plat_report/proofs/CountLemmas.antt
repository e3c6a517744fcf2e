-- counts after one more item, and that they have room
use Rattle.std.proofs.Common.{◌≡◌, ℕ, ◌+◌, ◌<◌, ◌≤◌, Bool, true, false, if◌then◌else◌, List, [], ◌∷◌, ◌++◌, length, take, refl, ◌∙◌, arith}
use Rattle.std.specs.List.{count_by}
use Rattle.std.proofs.lemmas.List.Sums.{count_by-le-length, sum_by_push}
use Rattle.std.proofs.lemmas.List.{length-take}
use Rattle.plat_base.specs.declared.items.Item.{Item}
use Rattle.plat_report.specs.Counts.{one_more, most, access_counts, with_access, AccessRoom, change_counts, with_change, ChangeRoom}
use Rattle.plat_report.specs.Counts.{applied_counts, with_applied, AppliedRoom, totals_of, with_total, TotalRoom}

room : {X : Type 0} (p : X → Bool) (xs : List X) (i : ℕ) → i < length xs → length xs ≤ 2621440 → count_by p (take i xs) < most
room {X} p xs i h few = omega (arith, count_by-le-length p (take i xs), length-take {A = X})

pub access_room : (q : ℕ) (items : List Item) (i : ℕ) → i < length items → length items ≤ 2621440 →
    AccessRoom (access_counts q (take i items))
access_room q items i h few = record {
  loads = room _ items i h few;
  stores = room _ items i h few;
  adds = room _ items i h few;
  local = room _ items i h few;
  remote = room _ items i h few;
}

pub change_room : (items : List Item) (i : ℕ) → i < length items → length items ≤ 2621440 → ChangeRoom (change_counts (take i items))
change_room items i h few = record {
  fills = room _ items i h few;
  local_maps = room _ items i h few;
  remote_maps = room _ items i h few;
  replications = room _ items i h few;
  migrations = room _ items i h few;
  collapses = room _ items i h few;
  thaws = room _ items i h few;
  freezes = room _ items i h few;
}

pub applied_room : (items : List Item) (i : ℕ) → i < length items → length items ≤ 2621440 → AppliedRoom (applied_counts (take i items))
applied_room items i h few = record { at_interrupt = room _ items i h few; at_activation = room _ items i h few }

pub total_room : (items : List Item) (i : ℕ) → i < length items → length items ≤ 2621440 → TotalRoom (totals_of (take i items))
total_room items i h few = record { changes = change_room items i h few; applied = applied_room items i h few }

-- ---- the counts of a list and one more item

plus-one_more : (b : Bool) (n : ℕ) → n + (if b then 1 else 0) ≡ one_more b n
plus-one_more true n = refl
plus-one_more false n = omega arith

count_by-push : {X : Type 0} (p : X → Bool) (xs : List X) (x : X) → count_by p (xs ++ x ∷ []) ≡ one_more (p x) (count_by p xs)
count_by-push p xs x = sum_by_push (λ y. if p y then 1 else 0) xs x ∙ plus-one_more (p x) (count_by p xs)

pub access_counts-push : (q : ℕ) (items : List Item) (i : Item) → access_counts q (items ++ i ∷ [])
    ≡ with_access q (access_counts q items) i
access_counts-push q items i = simp (λ (p : Item → Bool). count_by-push p items i)

change_counts-push : (items : List Item) (i : Item) → change_counts (items ++ i ∷ []) ≡ with_change (change_counts items) i
change_counts-push items i = simp (λ (p : Item → Bool). count_by-push p items i)

applied_counts-push : (items : List Item) (i : Item) → applied_counts (items ++ i ∷ []) ≡ with_applied (applied_counts items) i
applied_counts-push items i = simp (λ (p : Item → Bool). count_by-push p items i)

pub totals_of-push : (items : List Item) (i : Item) → totals_of (items ++ i ∷ []) ≡ with_total (totals_of items) i
totals_of-push items i = rw (change_counts-push items i, applied_counts-push items i) refl
