-- the merge of the journals of a good history is good
use Rattle.std.specs.Prelude.{◌≡◌, ◌≢◌, ℕ, zero, suc, ◌+◌, ◌<◌, ◌==◌, not, true, false, List, [], ◌∷◌, ◌++◌, length}
use Rattle.std.specs.Prelude.{Option, Some, None, slice_index_or, slice_get}
use Rattle.std.proofs.Common.{refl, ap, sym, ◌∙◌, arith, subst}
use Rattle.std.specs.List.{fold, list_any, filter_map}
use Rattle.std.proofs.lemmas.Bool.{or_parts, not-true, eq-eqb, true≢false}
use Rattle.std.proofs.lemmas.List.{append_assoc, append-nil, length-append}
use Rattle.std.proofs.lemmas.List.Folds.{list_any-append}
use Rattle.plat_base.specs.Verdicts.{Answer}
use Rattle.plat_base.specs.Machine.{Machine}
use Rattle.plat_base.specs.Pages.{program_of}
use Rattle.plat_base.specs.Done.{value_of, done_of}
use Rattle.plat_base.specs.Held.{held_after, active_after}
use Rattle.plat_base.specs.Rules.{is_in_order, bad_rule, bad_after}
use Rattle.plat_base.specs.Histories.{IsOneHistory}
use Rattle.plat_base.specs.declared.items.Item.{Item}
use Rattle.plat_base.specs.declared.items.Item.TheVariants as item
use Rattle.plat_events.specs.Shown.{actor_of, items_by}
use Rattle.plat_events.specs.Merges.{Journals, comes_before, ready_actor, without_next, placed_first, merge_step, merge_from, merged}
use Rattle.plat_laws.proofs.ItemLaws.{fold-filter}
use Rattle.plat_laws.proofs.CopyLaws.{IsCurrent}
use Rattle.plat_laws.proofs.CopyChangeLaws.{good_current}
use Rattle.plat_laws.proofs.EndLaws.{first_bad-none}
use Rattle.plat_laws.proofs.HistoryLaws.{one_history, good-items}
use Rattle.plat_merge_laws.specs.Merging.{HasJournals, MergesAreGood}
use Rattle.plat_merge_laws.proofs.ReadLemmas.{SameOwn, is_in_order-same}
use Rattle.plat_merge_laws.proofs.SwapLemmas.{Same, same-more, bad_rule-same}
use Rattle.plat_merge_laws.proofs.NeighbourLemmas.{may_swap}
use Rattle.plat_merge_laws.proofs.OrderLemmas.{behind-not_before, itself-not_before}
use Rattle.plat_merge_laws.proofs.JournalLemmas.{none-journals, journals-none, IsFirst, first_of, journals-moved, journals-without}
use Rattle.plat_merge_laws.proofs.JournalLemmas.{journals-with, items_left-length, IsReadyNext, ready_actor-some, ready_actor-there}
use Rattle.plat_base.proofs.RuleLemmas.{bad_at-none}
use Rattle.plat_base.proofs.ListLemmas.{filter_map-filter}
use Rattle.plat_events.proofs.ActorLemmas.{value_of-other, done_of-other, held_after-other, active_after-other}

-- ---- items that break no rule behind others

abbrev pub AllKept : Machine → Answer → (before items : List Item) → Type 0
AllKept m answer before [] = Unit {0}
AllKept m answer before (i ∷ is) = (bad_rule m answer before i ≡ None) × AllKept m answer (before ++ i ∷ []) is

module _ (m : Machine) (answer : Answer) where
  pub kept-from : (before : List Item) (n : ℕ) (items : List Item) → bad_after m answer before n items ≡ None →
      AllKept m answer before items
  kept-from before n [] h = tt
  kept-from before n (i ∷ is) h =
      let both = bad_at-none n (bad_rule m answer before i) (bad_after m answer (before ++ i ∷ []) (n + 1) is) h
      in (both.0, kept-from (before ++ i ∷ []) (n + 1) is both.1)

  pub kept-to : (before : List Item) (n : ℕ) (items : List Item) → AllKept m answer before items → bad_after m answer before n items ≡ None
  kept-to before n [] h = refl
  kept-to before n (i ∷ is) h = rw h.0 (kept-to (before ++ i ∷ []) (n + 1) is h.1)

  kept-same : (xs ys items : List Item) → Same m xs ys → AllKept m answer xs items → AllKept m answer ys items
  kept-same xs ys [] same h = tt
  kept-same xs ys (i ∷ is) same h =
      (sym (bad_rule-same m answer xs ys i same) ∙ h.0, kept-same (xs ++ i ∷ []) (ys ++ i ∷ []) is (same-more m xs ys i same) h.1)

  pub kept-append : (before xs ys : List Item) → AllKept m answer before xs → AllKept m answer (before ++ xs) ys →
      AllKept m answer before (xs ++ ys)
  kept-append before [] ys h k = subst (λ zs. AllKept m answer zs ys) (append-nil before) k
  kept-append before (x ∷ xs) ys h k =
      (h.0, kept-append (before ++ x ∷ []) xs ys h.1 (subst (λ zs. AllKept m answer zs ys) (sym (append_assoc before (x ∷ []) xs)) k))

  -- an item of another actor moves in front of items that need not stand before it
  pub kept-moved :
      (before front back : List Item) (i : Item) → list_any (λ j. comes_before j i) front ≡ false
      → list_any (λ j. actor_of j == actor_of i) front ≡ false → AllKept m answer before (front ++ i ∷ back)
      → AllKept m answer before (i ∷ front ++ back)
  kept-moved before [] back i free alone h = h
  kept-moved before (j ∷ front) back i free alone h =
      let free_parts = or_parts (comes_before j i) (list_any (λ j. comes_before j i) front) free in
      let alone_parts = or_parts (actor_of j == actor_of i) (list_any (λ j. actor_of j == actor_of i) front) alone in
      let moved = kept-moved (before ++ j ∷ []) front back i free_parts.1 alone_parts.1 h.1 in
      let apart : actor_of j ≢ actor_of i = λ e. true≢false (sym (eq-eqb (actor_of j) (actor_of i) e) ∙ alone_parts.0) in
      let swap = may_swap m answer before j i apart free_parts.0 h.0 moved.0
      in (
        swap.first,
        (
          swap.second,
          kept-same ((before ++ j ∷ []) ++ i ∷ []) ((before ++ i ∷ []) ++ j ∷ []) (front ++ back) swap.same
              moved.1,
        ),
      )

  -- nothing behind an item has to stand before it
  none-behind :
      (before between items : List Item) (r : Item) → IsCurrent m before → bad_rule m answer before r ≡ None
      → AllKept m answer (before ++ r ∷ between) items → list_any (λ j. comes_before j r) items ≡ false
  none-behind before between [] r current kept h = refl
  none-behind before between (j ∷ items) r current kept h =
      rw (behind-not_before m answer before between r j current kept h.0)
      (none-behind before (between ++ j ∷ []) items r current kept
      (subst (λ zs. AllKept m answer zs items) (append_assoc before (r ∷ between) (j ∷ [])) h.1))

  pub current-after : (before : List Item) → AllKept m answer [] before → IsCurrent m before
  current-after before h = good_current m answer before (kept-to [] 0 before h)

  -- ---- the merge

  -- some actor's next item is ready where an item is left
  some-ready :
      (before items : List Item) (r : Item) (left : Journals) → HasJournals (r ∷ items) left → AllKept m answer [] before
      → AllKept m answer before (r ∷ items) → ready_actor left ≢ None
  some-ready before items r left has placed kept =
      ready_actor-there left (actor_of r) r (items_by (actor_of r) items) here
      (ap not (journals-none (r ∷ items) left has (λ j. comes_before j r) (rw (itself-not_before r) behind)))
    where
      here : slice_index_or left (actor_of r) [] ≡ r ∷ items_by (actor_of r) items
      here = has (actor_of r) ∙ rw (eq-eqb (actor_of r) (actor_of r) refl) refl

      behind : list_any (λ j. comes_before j r) items ≡ false
      behind = none-behind before [] items r (current-after before placed) kept.0 kept.1

  -- what is merged behind the items placed: all that is left, and nothing of it breaks a rule
  record IsMerged (before items : List Item) (left : Journals) (result : List Item) : Type 0 where
    whole : length result ≡ length items
    has : HasJournals result left
    kept : AllKept m answer before result

  -- the next item, and the merge of what is then left
  abbrev Goes : ℕ → Type 0
  Goes k =
      (before items : List Item) (left : Journals) → length items ≡ k → HasJournals items left → AllKept m answer [] before
      → AllKept m answer before items → IsMerged before items left (merge_from k left)

  merge_step-merged :
      (k a : ℕ) (before items : List Item) (left : Journals) → Goes k → length items ≡ suc k → HasJournals items left
      → AllKept m answer [] before → AllKept m answer before items → IsReadyNext left a
      → IsMerged before items left (merge_step (λ rest. merge_from k rest) left (Some a))
  merge_step-merged k a before items left goes size has placed kept next =
      subst (λ result. IsMerged before items left result) (sym placed_next) (record {
        whole = ap (λ n. suc n) rest.whole ∙ (ap (λ n. suc n) rest_size ∙ sym size);
        has = journals-with i (merge_from k (without_next left (actor_of i))) left next.rest here rest.has;
        kept = (moved.0, rest.kept);
      })
    where
      i : Item
      i = next.next

      first : IsFirst a items i next.rest
      first = first_of a items i next.rest (sym (has a) ∙ next.here)

      here : slice_index_or left (actor_of i) [] ≡ i ∷ next.rest
      here = ap (λ b. slice_index_or left b []) first.by_actor ∙ next.here

      free : list_any (λ j. comes_before j i) items ≡ false
      free = none-journals items left has (λ j. comes_before j i)
          (not-true (list_any (λ journal. list_any (λ j. comes_before j i) journal) left) next.ready)

      others : List Item
      others = first.front ++ first.back

      alone : list_any (λ j. actor_of j == actor_of i) first.front ≡ false
      alone = ap (λ b. list_any (λ j. actor_of j == b) first.front) first.by_actor ∙ first.alone

      front_free : list_any (λ j. comes_before j i) first.front ≡ false
      front_free =
          (or_parts (list_any (λ j. comes_before j i) first.front) (list_any (λ j. comes_before j i) (i ∷ first.back))
          (sym (list_any-append (λ j. comes_before j i) first.front (i ∷ first.back))
          ∙ (ap (list_any (λ j. comes_before j i)) (sym first.parts) ∙ free))).0

      moved : AllKept m answer before (i ∷ others)
      moved = kept-moved before first.front first.back i front_free alone (subst (λ zs. AllKept m answer before zs) first.parts kept)

      moved_journals : HasJournals (i ∷ others) left
      moved_journals = journals-moved first.front first.back i left alone (subst (λ zs. HasJournals zs left) first.parts has)

      rest_size : length others ≡ k
      rest_size =
          let split = length-append first.front (i ∷ first.back) in
          let joined = length-append first.front first.back in
          let whole : length items ≡ length (first.front ++ i ∷ first.back) = ap length first.parts in
          omega (arith, split, joined, whole, size)

      rest : IsMerged (before ++ i ∷ []) others (without_next left (actor_of i)) (merge_from k (without_next left (actor_of i)))
      rest =
          goes (before ++ i ∷ []) others (without_next left (actor_of i)) rest_size (journals-without i others left moved_journals)
          (kept-append [] before (i ∷ []) placed (moved.0, tt)) moved.1

      placed_next : merge_step (λ rest. merge_from k rest) left (Some a) ≡ i ∷ merge_from k (without_next left (actor_of i))
      placed_next =
          ap (λ (journal : List Item). placed_first (slice_get journal 0) (merge_from k (without_next left a))) next.here
          ∙ ap (λ b. i ∷ merge_from k (without_next left b)) (sym first.by_actor)

  merge_from-merged : (k : ℕ) → Goes k
  merge_from-merged zero before [] left size has placed kept = record { whole = refl; has = has; kept = tt }
  merge_from-merged zero before (r ∷ items) left size has placed kept = absurd (omega (arith, size))
  merge_from-merged (suc k) before [] left size has placed kept = absurd (omega (arith, size))
  merge_from-merged (suc k) before (r ∷ items) left size has placed kept =
      by (ready_actor left) refl (merge_from-merged k)
    where
      by : (o : Option ℕ) → ready_actor left ≡ o → Goes k → IsMerged before (r ∷ items) left (merge_step (λ rest. merge_from k rest) left o)
      by None e goes = absurd (some-ready before items r left has placed kept e)
      by (Some a) e goes = merge_step-merged k a before (r ∷ items) left goes size has placed kept (ready_actor-some left a e)

-- ---- ends

-- what an actor's own items say is the same where they are the same
own-items : (m : Machine) (xs ys : List Item) (q : ℕ) → items_by q xs ≡ items_by q ys → SameOwn m xs ys q
own-items m xs ys q h = record {
  values =
      sym (filter_map-filter (value_of q) (λ i. actor_of i == q) (value_of-other q) xs)
      ∙ (ap (filter_map (value_of q)) h ∙ filter_map-filter (value_of q) (λ i. actor_of i == q) (value_of-other q) ys);
  operations =
      sym (filter_map-filter (done_of q) (λ i. actor_of i == q) (done_of-other q) xs)
      ∙ (ap (filter_map (done_of q)) h ∙ filter_map-filter (done_of q) (λ i. actor_of i == q) (done_of-other q) ys);
  holds = λ e.
      sym (fold-filter (held_after m q e) (λ i. actor_of i == q) (held_after-other m q e) None xs)
      ∙ (ap (fold (held_after m q e) None) h ∙ fold-filter (held_after m q e) (λ i. actor_of i == q) (held_after-other m q e) None ys);
  is_in =
      sym (fold-filter (active_after q) (λ i. actor_of i == q) (active_after-other q) (program_of m q).space xs)
      ∙ (ap (fold (active_after q) (program_of m q).space) h
      ∙ fold-filter (active_after q) (λ i. actor_of i == q) (active_after-other q) (program_of m q).space ys);
}

-- ---- the whole

pub merges-good : (m : Machine) (answer : Answer) → MergesAreGood m answer
unfolding merged
merges-good m answer items journals ends has good = record {
  all = ap length is ∙ result.whole;
  placed = subst (λ zs. HasJournals zs journals) (sym is) result.has;
  good =
      first_bad-none m answer (merged journals) ends
      (ap (bad_after m answer [] 0) is ∙ kept-to m answer [] 0 (merge_from (length items) journals) result.kept)
      history.all_end in_order;
}
  where
    history : IsOneHistory m items ends
    history = one_history m answer items ends good

    is : merged journals ≡ merge_from (length items) journals
    is = ap (λ k. merge_from k journals) (items_left-length items journals has)

    result : IsMerged m answer [] items journals (merge_from (length items) journals)
    result = merge_from-merged m answer (length items) [] items journals refl has tt
        (kept-from m answer [] 0 items (good-items m answer items ends good))

    in_order : (q : ℕ) → q < m.nodes → is_in_order m (merged journals) ends q ≡ true
    in_order q inside =
        is_in_order-same m (merged journals) items q
        (own-items m (merged journals) items q (ap (items_by q) is ∙ (sym (result.has q) ∙ has q))) ends
        ∙ history.in_order q inside
