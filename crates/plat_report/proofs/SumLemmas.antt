-- the sums of a history after one more item, that they have room, and the lines that they give
use Rattle.std.proofs.Common.{◌≡◌, ℕ, ◌<◌, ◌≤◌, List, [], ◌∷◌, ◌++◌, length, take, replicate, refl, ap, sym, ◌∙◌, arith, Bool, true, false}
use Rattle.std.specs.Prelude.{nat_lt, slice_index_or, IsTrue}
use Rattle.std.specs.List.{flat_map}
use Rattle.std.proofs.lemmas.Bool.Decides.{nat_tests}
use Rattle.std.proofs.lemmas.List.{get_or_past, get_or-replicate}
use Rattle.std.proofs.lemmas.List.Sums.{fold-append}
use Rattle.plat_base.specs.Machine.{Machine, is_machine}
use Rattle.plat_base.specs.Cache.{cache_after, cache_start}
use Rattle.plat_base.specs.Pages.{numbers}
use Rattle.plat_base.specs.Report.{count_lines}
use Rattle.plat_base.specs.declared.items.Item.{Item}
use Rattle.plat_flat.specs.FlatSeen.{FlatSeen, IsFlatOf}
use Rattle.plat_base.proofs.LimitLemmas.{limits_of}
use Rattle.plat_report.specs.declared.actors.ActorCounts.{ActorCounts}
use Rattle.plat_report.specs.declared.sums.Sums.{Sums}
use Rattle.plat_report.specs.declared.totals.Totals.{Totals}
use Rattle.plat_report.specs.Actors.{actor_counts, no_counts, with_item, CountRoom, ShowsCounts}
use Rattle.plat_report.specs.Counts.{TotalRoom, totals_of, with_total}
use Rattle.plat_report.specs.Lines.{counts_words, count_words}
use Rattle.plat_report.specs.Sums.{ShowsSums}
use Rattle.plat_report.proofs.CacheLemmas.{cache_room}
use Rattle.plat_report.proofs.CountLemmas.{access_room, total_room, access_counts-push, totals_of-push}
use Rattle.plat_report.proofs.WritingLemmas.{numbers_same}

-- ---- room

counts_room : (m : Machine) (items : List Item) (i q : ℕ) → i < length items → length items ≤ 2621440 →
    CountRoom (actor_counts m (take i items) q)
counts_room m items i q h few =
    let cache = cache_room m q items i h few in
    record { accesses = access_room q items i h few; hits = cache.0; misses = cache.1 }

none_room : CountRoom no_counts
none_room = record {
  accesses = record { loads = omega arith; stores = omega arith; adds = omega arith; local = omega arith; remote = omega arith };
  hits = omega arith;
  misses = omega arith;
}

pub sums-total_room : (m : Machine) (items : List Item) (i : ℕ) (sums : Sums) → i < length items → length items ≤ 2621440 →
    ShowsSums m (take i items) sums → TotalRoom sums.totals
sums-total_room m items i sums h few shows = rw shows.totals (total_room items i h few)

count_room-at :
    (m : Machine) (items : List Item) (i : ℕ) (counts : List ActorCounts) → i < length items → length items ≤ 2621440 →
    ShowsCounts m (take i items) counts
    → (q : ℕ) → (b : Bool) → nat_lt q 8 ≡ b → CountRoom (slice_index_or counts q no_counts)
count_room-at m items i counts h few shows q true low = rw (shows.at q (grind (arith, nat_tests, low))) (counts_room m items i q h few)
count_room-at m items i counts h few shows q false high =
    let past : length counts ≤ q = grind (arith, nat_tests, shows.size, high) in rw (get_or_past counts q no_counts past) none_room

pub sums-count_room :
    (m : Machine) (items : List Item) (i : ℕ) (sums : Sums) → i < length items → length items ≤ 2621440 → ShowsSums m (take i items) sums
    → (q : ℕ) → CountRoom (slice_index_or sums.actors q no_counts)
sums-count_room m items i sums h few shows q = count_room-at m items i sums.actors h few shows.actors q (nat_lt q 8) refl

-- ---- one more item

actor_counts-push : (m : Machine) (items : List Item) (q : ℕ) (i : Item) → actor_counts m (items ++ i ∷ []) q
    ≡ with_item m q (actor_counts m items q) i
actor_counts-push m items q i = rw (access_counts-push q items i, fold-append (cache_after m q) cache_start items (i ∷ [])) refl

ShowsCounts-more :
    (m : Machine) (items : List Item) (before after : List ActorCounts) (i : Item) → ShowsCounts m items before →
    length after ≡ length before
    → ((q : ℕ) → q < length before → slice_index_or after q no_counts ≡ with_item m q (slice_index_or before q no_counts) i)
    → ShowsCounts m (items ++ i ∷ []) after
ShowsCounts-more m items before after i shows size at = record {
  size = size ∙ shows.size;
  at = λ q low.
      at q (omega (arith, shows.size))
      ∙ (ap (λ (counts : ActorCounts). with_item m q counts i) (shows.at q low) ∙ sym (actor_counts-push m items q i));
}

pub ShowsSums-more :
    (m : Machine) (items : List Item) (sums : Sums) (i : Item) (flat : FlatSeen) (totals : Totals) (actors : List ActorCounts) →
    ShowsSums m items sums
    → IsFlatOf m (items ++ i ∷ []) flat → totals ≡ with_total sums.totals i → length actors ≡ length sums.actors
    → ((q : ℕ) → q < length sums.actors → slice_index_or actors q no_counts ≡ with_item m q (slice_index_or sums.actors q no_counts) i)
    → ShowsSums m (items ++ i ∷ []) (record { flat = flat; totals = totals; actors = actors })
ShowsSums-more m items sums i flat totals actors shows memory counted size at = record {
  flat = memory;
  totals = counted ∙ (ap (λ (t : Totals). with_total t i) shows.totals ∙ sym (totals_of-push items i));
  actors = ShowsCounts-more m items sums.actors actors i shows.actors size at;
}

-- ---- no items

pub ShowsSums-start :
    (m : Machine) (flat : FlatSeen) (totals : Totals) (counts : ActorCounts) → totals ≡ totals_of [] → counts ≡ no_counts →
    IsFlatOf m [] flat
    → ShowsSums m [] (record { flat = flat; totals = totals; actors = replicate 8 counts })
ShowsSums-start m flat totals counts e f made = rw (e, f) (record {
  flat = made;
  totals = refl;
  actors = record { size = refl; at = λ q low. get_or-replicate 8 q no_counts no_counts low };
})

-- ---- the lines of the counts

pub lines_of_counts :
    (m : Machine) (items : List Item) (counts : List ActorCounts) → IsTrue (is_machine m) → ShowsCounts m items counts
    → flat_map (counts_words counts) (numbers m.nodes) ≡ flat_map (count_lines m items) (numbers m.nodes)
lines_of_counts m items counts within shows =
    numbers_same (counts_words counts) (count_lines m items) m.nodes
    (λ q low. ap (count_words q) (shows.at q (omega (arith, (limits_of m within).nodes_most))))

pub counts_enough : (m : Machine) (items : List Item) (counts : List ActorCounts) → IsTrue (is_machine m) → ShowsCounts m items counts →
    m.nodes ≤ length counts
counts_enough m items counts within shows = omega (arith, shows.size, (limits_of m within).nodes_most)
