-- a page has fewer changes than the longest history has items, in every state with the invariant
use Rattle.std.specs.Prelude.{◌≡◌, ◌≢◌, ◌⊎◌, ℕ, zero, suc, ◌+◌, ◌*◌, ◌<◌, ◌≤◌, ◌==◌, nat_lt, ◌&&◌, not, ◌||◌, if◌then◌else◌, Bool, true}
use Rattle.std.specs.Prelude.{false, List, [], ◌∷◌, ◌++◌, length, cond, replicate, option_to_list, slice_index, slice_index_or, ◌-◌, Some}
use Rattle.std.specs.Prelude.{None}
use Rattle.std.proofs.Common.{refl, ap, sym, ◌∙◌, inl, inr, arith, subst}
use Rattle.std.specs.List.{fold, sum_by, count_by, list_all, range_with_len}
use Rattle.std.proofs.lemmas.Bool.{cases_eq, eq-eqb, ne_eqb, eqb-true, and_parts, cases_lt}
use Rattle.std.proofs.lemmas.Bool.Decides.{nat_tests}
use Rattle.std.proofs.lemmas.List.Sums.{sum_by-cons}
use Rattle.plat_base.specs.Items.{is_change}
use Rattle.plat_base.specs.Verdicts.{Answer}
use Rattle.plat_base.specs.Machine.{Machine}
use Rattle.plat_base.specs.Pages.{numbers}
use Rattle.plat_base.specs.Directories.{change_on, seq_of, seq_after}
use Rattle.plat_base.specs.Alike.{same_dir}
use Rattle.plat_base.specs.Rules.{bad_rule, bad_after, has_daemon, is_chained, is_fault_change, is_thaw_change}
use Rattle.plat_base.specs.Directories.{dir_of}
use Rattle.plat_base.specs.declared.items.Change.{Change}
use Rattle.plat_base.specs.declared.items.Item.{Item}
use Rattle.plat_base.specs.declared.items.Item.TheVariants as item
use Rattle.plat_base.specs.declared.statuses.Rule.TheVariants as rule
use Rattle.std.proofs.lemmas.List.{get_or-append_right, length-replicate}
use Rattle.plat_base.specs.Rooms.{processor_room, daemon_room, journal_rooms}
use Rattle.plat_base.specs.declared.policies.PolicyKind.{PolicyKind}
use Rattle.plat_base.specs.declared.policies.PolicyKind.TheVariants as policy
use Rattle.plat_base.proofs.RoomLemmas.{thaws_most}
use Rattle.plat_events.specs.Places.{most_changes}
use Rattle.plat_laws.specs.Guests.{IsWithinLimits}
use Rattle.plat_laws.proofs.Limits.{nodes-most, budget-most}
use Rattle.plat_events.specs.Privates.{actor_count}
use Rattle.plat_events.specs.Kept.{private_of}
use Rattle.plat_events.specs.Runs.{Fine, ends_of}
use Rattle.plat_events.specs.Shown.{actor_of, bit_of, items_by, Shows}
use Rattle.plat_local_laws.proofs.RoomLaws.{journal_fits}
use Rattle.plat_fine_laws.proofs.AloneLaws.{alone_ok}
use Rattle.plat_frame_laws.proofs.SumLaws.{sum-one, sum-same}
use Rattle.plat_base.proofs.RuleLemmas.{unless-none, bad_at-none}
use Rattle.plat_laws.proofs.HistoryLaws.{good-items}

abbrev changes_in : List Item → ℕ
changes_in items = count_by is_change items

counts : (i : Item) (is : List Item) → changes_in (i ∷ is) ≡ bit_of (is_change i) + changes_in is
counts i is = sum_by-cons (λ (x : Item). cond (is_change x) 1 0) i is ∙ by (is_change i)
  where
    by : (b : Bool) → cond b 1 0 + changes_in is ≡ bit_of b + changes_in is
    by true = refl
    by false = refl

-- ---- the changes of a page are among all changes

seq-counted :
    (page n : ℕ) (items : List Item) → fold (λ k i. seq_after k (change_on page i)) n items ≤ n + changes_in items
seq-counted page n [] = omega arith
seq-counted page n (item.Access x ∷ is) = omega (arith, seq-counted page n is, counts (item.Access x) is)
seq-counted page n (item.Change c ∷ is) = by (c.page == page) (λ k. seq-counted page k is)
  where
    by :
        (b : Bool) → ((k : ℕ) → fold (λ j i. seq_after j (change_on page i)) k is ≤ k + changes_in is) →
        fold (λ k i. seq_after k (change_on page i)) (seq_after n (if b then Some c else None)) is ≤ n + changes_in (item.Change c ∷ is)
    by true more = omega (arith, more (n + 1), counts (item.Change c) is)
    by false more = omega (arith, more n, counts (item.Change c) is)
seq-counted page n (item.Applied x ∷ is) = omega (arith, seq-counted page n is, counts (item.Applied x) is)
seq-counted page n (item.Switch x ∷ is) = omega (arith, seq-counted page n is, counts (item.Switch x) is)

-- ---- each change is that of an actor of the machine

actor-change : (m : Machine) (answer : Answer) (items : List Item) (c : Change) → is_chained m answer items c ≡ true →
    c.actor < actor_count m
actor-change m answer items c h = by (nat_lt c.actor m.nodes) refl rest
  where
    rest : (if nat_lt c.actor m.nodes then is_fault_change m answer items c c.granted else c.actor == m.nodes
        && is_thaw_change m answer items c) ≡ true
    rest =
        (and_parts (nat_lt c.page m.pages && c.seq == seq_of items c.page && same_dir c.before (dir_of items c.page))
        (if nat_lt c.actor m.nodes then is_fault_change m answer items c c.granted else c.actor == m.nodes
        && is_thaw_change m answer items c) h).1

    first : (a b : Bool) → (a && b) ≡ true → a ≡ true
    first true b e = refl
    first false b e = absurd cc

    daemon : is_thaw_change m answer items c ≡ true → has_daemon m.policy ≡ true
    daemon thaw = first (has_daemon m.policy) _ (first _ _ (first _ _ (first _ _ thaw)))

    by :
        (b : Bool) → nat_lt c.actor m.nodes ≡ b →
        (if b then is_fault_change m answer items c c.granted else c.actor == m.nodes && is_thaw_change m answer items c) ≡ true →
        c.actor < actor_count m
    by true below h = let inside : c.actor < m.nodes = grind (arith, nat_tests) in omega arith
    by false below h =
        let both = and_parts (c.actor == m.nodes) (is_thaw_change m answer items c) h in
        let last = eqb-true c.actor m.nodes both.0 in
        let count : actor_count m ≡ m.nodes + 1 = ap (λ b. m.nodes + (if b then 1 else 0)) (daemon both.1) in
        omega (arith, last, count)

abbrev pub is_within : ℕ → Item → Bool
is_within n i = not (is_change i) || nat_lt (actor_of i) n

pub changes-within :
    (m : Machine) (answer : Answer) (before : List Item) (k : ℕ) (items : List Item) → bad_after m answer before k items ≡ None →
    list_all (is_within (actor_count m)) items ≡ true
changes-within m answer before k [] good = refl
changes-within m answer before k (i ∷ is) good =
    let parts = bad_at-none k (bad_rule m answer before i) (bad_after m answer (before ++ i ∷ []) (k + 1) is) good in
    rw (one i parts.0) (changes-within m answer (before ++ i ∷ []) (k + 1) is parts.1)
  where
    one : (i : Item) → bad_rule m answer before i ≡ None → is_within (actor_count m) i ≡ true
    one (item.Access x) ok = refl
    one (item.Change c) ok =
        let below = actor-change m answer before c (unless-none (is_chained m answer before c) rule.Chain ok) in grind (arith, nat_tests)
    one (item.Applied x) ok = refl
    one (item.Switch x) ok = refl

-- ---- so they are among those of the actors

all-by : (n : ℕ) (items : List Item) → list_all (is_within n) items ≡ true →
    changes_in items ≤ sum_by (λ b. changes_in (items_by b items)) (numbers n)
all-by n [] all = omega arith
all-by n (i ∷ is) all =
    let parts = and_parts (is_within n i) (list_all (is_within n) is) all in by (is_change i) refl parts.0 (all-by n is parts.1)
  where
    plus : (k : ℕ) → bit_of (false && is_change i) + k ≡ k
    plus k = omega arith

    old : ℕ → ℕ
    old b = changes_in (items_by b is)

    new : ℕ → ℕ
    new b = changes_in (items_by b (i ∷ is))

    new-is : (b : ℕ) → new b ≡ bit_of (actor_of i == b && is_change i) + old b
    new-is b = with (actor_of i == b)
      where
        with : (c : Bool) → changes_in (cond c (i ∷ items_by b is) (items_by b is)) ≡ bit_of (c && is_change i) + old b
        with true = counts i (items_by b is)
        with false = omega arith

    by :
        (c : Bool) → is_change i ≡ c → (not c || nat_lt (actor_of i) n) ≡ true → changes_in is ≤ sum_by old (numbers n) →
        changes_in (i ∷ is) ≤ sum_by new (numbers n)
    by false is_not within less =
        let same = sum-same new old n
        (λ b below. new-is b ∙ (ap (λ c. bit_of (actor_of i == b && c) + old b) is_not ∙ none (actor_of i == b) (old b))) in
        let none_more : bit_of (is_change i) ≡ 0 = ap bit_of is_not in omega (arith, counts i is, same, less, none_more)
      where
        none : (c : Bool) (k : ℕ) → bit_of (c && false) + k ≡ k
        none true k = omega arith
        none false k = omega arith
    by true is_one within less =
        let below : actor_of i < n = grind (arith, nat_tests) in
        let here : new (actor_of i) ≡ 1 + old (actor_of i) =
        new-is (actor_of i) ∙ rw (eq-eqb (actor_of i) (actor_of i) refl, is_one) refl in
        let one = sum-one old new n (actor_of i) below
        (λ b inside apart. sym (new-is b ∙ ap (λ c. bit_of (c && is_change i) + old b) (ne_eqb (actor_of i) b (λ e. apart (sym e)))
        ∙ plus (old b))) in
        let one_more : bit_of (is_change i) ≡ 1 = ap bit_of is_one in omega (arith, counts i is, here, one, less, one_more)

-- ---- how many they are

most-plain : (f : ℕ → ℕ) (a n : ℕ) → ((b : ℕ) → a ≤ b → b < a + n → f b ≤ 65536) → sum_by f (range_with_len a n) ≤ n * 65536
most-plain f a zero each = omega arith
most-plain f a (suc n) each =
    omega (
      arith,
      sum_by-cons f a (range_with_len (a + 1) n),
      each a (omega arith) (omega arith),
      most-plain f (a + 1) n (λ b low high. each b (omega arith) (omega arith)),
    )

most-one :
    (f : ℕ → ℕ) (p a n : ℕ) → ((b : ℕ) → a ≤ b → b < a + n → b ≢ p → f b ≤ 65536) → f p ≤ 524288 →
    sum_by f (range_with_len a n) ≤ n * 65536 + 524288
most-one f p a zero each last = omega arith
most-one f p a (suc n) each last =
    by (cases_eq a p) (most-one f p (a + 1) n (λ b low high apart. each b (omega arith) (omega arith) apart) last)
  where
    by : (a ≡ p) ⊎ (a ≢ p) → sum_by f (range_with_len (a + 1) n) ≤ n * 65536 + 524288 →
        sum_by f (range_with_len a (suc n)) ≤ suc n * 65536 + 524288
    by (inl same) more =
        let here : f a ≤ 524288 = subst (λ k. f k ≤ 524288) (sym same) last in
        let rest = most-plain f (a + 1) n (λ b low high. each b (omega arith) (omega arith) (λ e. absurd (omega arith))) in
        omega (arith, sum_by-cons f a (range_with_len (a + 1) n), here, rest)
    by (inr apart) more = omega (arith, sum_by-cons f a (range_with_len (a + 1) n), each a (omega arith) (omega arith) apart, more)

changes-length : (items : List Item) → changes_in items ≤ length items
changes-length [] = omega arith
changes-length (i ∷ is) = omega (arith, counts i is, one (is_change i), changes-length is)
  where
    one : (b : Bool) → bit_of b ≤ 1
    one true = omega arith
    one false = omega arith

-- the daemon's room
room-last : (m : Machine) → IsWithinLimits m → slice_index (journal_rooms m) m.nodes ≤ 524288
room-last m limits =
    let rest = option_to_list (daemon_room m.nodes m.budget m.pages m.policy) in
    let none : m.nodes - m.nodes ≡ 0 = omega arith in
    let moved =
    get_or-append_right (replicate m.nodes (processor_room m.budget)) rest m.nodes m.nodes 0
    (length-replicate m.nodes (processor_room m.budget)) (omega arith)
    ∙ ap (λ i. slice_index_or rest i 0) none in
    subst (λ k. k ≤ 524288) (sym moved) (by m.policy refl)
  where
    by : (p : PolicyKind) → m.policy ≡ p → slice_index_or (option_to_list (daemon_room m.nodes m.budget m.pages p)) 0 0 ≤ 524288
    by policy.Place e = omega arith
    by policy.Replicate e = omega arith
    by (policy.Platinum t1 t2) e = thaws_most m t1 t2 limits e

module _ (m : Machine) (answer : Answer) (s : Fine) (limits : IsWithinLimits m) (shows : Shows m answer s) where
  abbrev made : ℕ → ℕ
  made b = changes_in (items_by b s.history)

  made-journal : (b : ℕ) → b < actor_count m → made b ≡ changes_in (private_of m s b).journal
  made-journal b below = ap changes_in (sym (shows.journals_are_history b below))

  made-processor : (b : ℕ) → b < actor_count m → b ≢ m.nodes → made b ≤ 65536
  made-processor b below apart =
      let ok = alone_ok m answer s b limits shows below in
      let node : b < m.nodes = daemon-last (has_daemon m.policy) below in
      let turns = ok.numbers.changes node in
      omega (arith, made-journal b below, turns, ok.standing.turns_most, budget-most m limits)
    where
      daemon-last : (d : Bool) → b < m.nodes + (if d then 1 else 0) → b < m.nodes
      daemon-last true h = omega (arith, apart)
      daemon-last false h = omega arith

  made-daemon : m.nodes < actor_count m → made m.nodes ≤ 524288
  made-daemon below =
      let fits = journal_fits m answer m.nodes (private_of m s m.nodes) limits below (shows.reached_alone m.nodes below) in
      omega (arith, made-journal m.nodes below, changes-length (private_of m s m.nodes).journal, fits, room-last m limits)

  few-actors : actor_count m ≤ 9
  few-actors = by (has_daemon m.policy)
    where
      by : (d : Bool) → m.nodes + (if d then 1 else 0) ≤ 9
      by true = let nodes = nodes-most m limits in omega (arith, nodes)
      by false = let nodes = nodes-most m limits in omega (arith, nodes)

  all-made : sum_by made (numbers (actor_count m)) ≤ 9 * 65536 + 524288
  all-made = by (cases_lt m.nodes (actor_count m))
    where
      by : (m.nodes < actor_count m) ⊎ (actor_count m ≤ m.nodes) → sum_by made (numbers (actor_count m)) ≤ 9 * 65536 + 524288
      by (inl daemon) =
          let most = most-one made m.nodes 0 (actor_count m) (λ b low high apart. made-processor b (omega arith) apart)
          (made-daemon daemon) in
          let few = few-actors in omega (arith, most, few)
      by (inr none) =
          let most = most-plain made 0 (actor_count m) (λ b low high. made-processor b (omega arith) (λ e. absurd (omega arith))) in
          let few = few-actors in omega (arith, most, few)

  -- the page has room for one more change
  pub seq-room : (page : ℕ) → seq_of s.history page + 1 ≤ most_changes
  seq-room page =
      let good = good-items m answer s.history (ends_of m s.privates) shows.history_good in
      let all = all-by (actor_count m) s.history (changes-within m answer [] 0 s.history good) in
      omega (arith, seq-counted page 0 s.history, all, all-made)
