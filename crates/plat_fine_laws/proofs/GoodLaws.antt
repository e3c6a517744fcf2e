-- a good history with one more item that breaks no rule, and another end of the processor that made it, is good
use Rattle.std.specs.Prelude.{◌≡◌, ◌≢◌, ◌⊎◌, ℕ, ◌+◌, ◌<◌, ◌≤◌, nat_le, ◌&&◌, true, false, List, [], ◌∷◌, length, take, slice_index_or}
use Rattle.std.specs.Prelude.{slice_get, slice_set, Option, Some, None}
use Rattle.std.proofs.Common.{refl, ap, sym, ◌∙◌, inl, inr, arith, subst}
use Rattle.std.specs.List.{list_any}
use Rattle.std.proofs.lemmas.Bool.{ne_eqb, cases_eq}
use Rattle.std.proofs.lemmas.List.{length-map, length-take, length-set, get_or-map, get_or-take, get_or-set_same, get_or-set_other}
use Rattle.std.proofs.lemmas.Option.{slice_get_within}
use Rattle.plat_base.specs.Verdicts.{Answer}
use Rattle.plat_base.specs.Machine.{Machine}
use Rattle.plat_base.specs.Ends.{ended_of, cut_at}
use Rattle.plat_base.specs.Rules.{Good, bad_rule, bad_after, bad_ends, first_bad, is_end, is_in_order}
use Rattle.plat_base.specs.declared.items.Item.{Item}
use Rattle.plat_base.specs.declared.items.Item.TheVariants as item
use Rattle.plat_base.specs.declared.endings.Ended.{Ended}
use Rattle.plat_laws.proofs.ItemLaws.{is_by, is_in_order-not_mine}
use Rattle.plat_laws.proofs.HistoryLaws.{one_history, good-items}
use Rattle.plat_laws.proofs.EndLaws.{is_in_order-from, first_bad-none, bad_after-more, bad_after-one}
use Rattle.plat_events.specs.Privates.{Private, first_private}
use Rattle.plat_events.specs.Events.{with_item}
use Rattle.plat_events.specs.Runs.{end_at, ended_by, ends_of}
use Rattle.plat_events.specs.Shown.{actor_of}
use Rattle.plat_fine_laws.specs.Changes.{IsBy}
use Rattle.plat_base.proofs.RuleLemmas.{bad_or-none}

bad-more :
    (m : Machine) (answer : Answer) (items : List Item) (made : Option Item) → bad_after m answer [] 0 items ≡ None →
    ((i : Item) → made ≡ Some i → bad_rule m answer items i ≡ None) → bad_after m answer [] 0 (with_item items made) ≡ None
bad-more m answer items None none rule = none
bad-more m answer items (Some i) none rule =
    bad_after-more m answer [] 0 items (i ∷ []) none (bad_after-one m answer items (0 + length items) i (rule i refl))

by-other : (a q : ℕ) (i : Item) → actor_of i ≡ a → q ≢ a → is_by q i ≡ false
by-other a q (item.Access x) own apart = ne_eqb x.actor q (λ e. apart (sym e ∙ own))
by-other a q (item.Change x) own apart = ne_eqb x.actor q (λ e. apart (sym e ∙ own))
by-other a q (item.Applied x) own apart = ne_eqb x.actor q (λ e. apart (sym e ∙ own))
by-other a q (item.Switch x) own apart = ne_eqb x.actor q (λ e. apart (sym e ∙ own))

order-other :
    (m : Machine) (items : List Item) (made : Option Item) (before after : List Ended) (a q : ℕ) → IsBy a made → q ≢ a →
    ended_of after q ≡ ended_of before q → is_in_order m items before q ≡ true → is_in_order m (with_item items made) after q ≡ true
order-other m items None before after a q own apart same order =
    ap (λ (x : Ended). nat_le x.turns m.budget && is_end m items q x.end x.turns) same ∙ order
order-other m items (Some i) before after a q own apart same order =
    let none : list_any (is_by q) (i ∷ []) ≡ false = rw (by-other a q i (own i refl) apart) refl in
    is_in_order-not_mine m items (i ∷ []) before after q none same ∙ order

module _ (m : Machine) (ps : List Private) (a : ℕ) (p after : Private) (within : a < m.nodes) (all : m.nodes ≤ length ps)
    (here : slice_get ps a ≡ Some p) where
  ends-length : (qs : List Private) → m.nodes ≤ length qs → length (ends_of m qs) ≡ m.nodes
  ends-length qs enough = omega (arith, length-map (take m.nodes qs) ended_by, length-take m.nodes qs)

  ended-at : (qs : List Private) (q : ℕ) → m.nodes ≤ length qs → q < m.nodes →
      ended_of (ends_of m qs) q ≡ ended_by (slice_index_or qs q (first_private m q))
  ended-at qs q enough inside =
      get_or-map ended_by (take m.nodes qs) q (first_private m q) (cut_at 0) (omega (arith, length-take m.nodes qs))
      ∙ ap ended_by (get_or-take m.nodes qs q (first_private m q) inside)

  pub good-next :
      (answer : Answer) (items : List Item) (made : Option Item) → Good m answer items (ends_of m ps) → IsBy a made →
      ((i : Item) → made ≡ Some i → bad_rule m answer items i ≡ None) → after.turns ≤ m.budget →
      is_end m (with_item items made) a (end_at after.place) after.turns ≡ true →
      Good m answer (with_item items made) (ends_of m (slice_set ps a after))
  good-next answer items made good own rule most order =
      let enough : m.nodes ≤ length (slice_set ps a after) = omega (arith, length-set ps a after) in
      first_bad-none m answer (with_item items made) (ends_of m (slice_set ps a after))
      (bad-more m answer items made (good-items m answer items (ends_of m ps) good) rule)
      (ends-length (slice_set ps a after) enough)
      (λ q inside. by q inside enough (cases_eq q a))
    where
      by : (q : ℕ) → q < m.nodes → m.nodes ≤ length (slice_set ps a after) → (q ≡ a) ⊎ (q ≢ a) →
          is_in_order m (with_item items made) (ends_of m (slice_set ps a after)) q ≡ true
      by q inside enough (inl same) =
          let ended : ended_of (ends_of m (slice_set ps a after)) a ≡ ended_by after =
          ended-at (slice_set ps a after) a enough within
          ∙ ap ended_by (get_or-set_same ps a after (first_private m a) (slice_get_within ps a p here)) in
          let ordered : is_in_order m (with_item items made) (ends_of m (slice_set ps a after)) a ≡ true =
          is_in_order-from m (with_item items made) (ends_of m (slice_set ps a after)) a
          (subst (λ (x : Ended). x.turns ≤ m.budget) (sym ended) most)
          (ap (λ (x : Ended). is_end m (with_item items made) a x.end x.turns) ended ∙ order) in
          ap (is_in_order m (with_item items made) (ends_of m (slice_set ps a after))) same ∙ ordered
      by q inside enough (inr apart) =
          order-other m items made (ends_of m ps) (ends_of m (slice_set ps a after)) a q own apart
          (ended-at (slice_set ps a after) q enough inside
          ∙ (ap ended_by (get_or-set_other ps a q after (first_private m q) apart) ∙ sym (ended-at ps q all inside)))
          ((one_history m answer items (ends_of m ps) good).in_order q inside)
