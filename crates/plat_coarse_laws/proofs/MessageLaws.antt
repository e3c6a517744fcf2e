-- what the messages of a turn do: those by interrupt before a change, and those that a switch answers
use Rattle.std.specs.Prelude.{◌≡◌, ◌≢◌, ◌≤◌, ◌<◌, ℕ, zero, suc, ◌+◌, ◌==◌, nat_lt, nat_le, ◌&&◌, ◌||◌, not, if◌then◌else◌, Bool, true}
use Rattle.std.specs.Prelude.{false, List, [], ◌∷◌, ◌++◌, length, map, filter, Option, Some, None, is_some}
use Rattle.std.specs.Option.{option_map}
use Rattle.std.proofs.Common.{refl, ap, sym, ◌∙◌, arith}
use Rattle.std.specs.List.{All, fold, list_any, filter_map, cons_option, flat_map, range_with_len}
use Rattle.std.proofs.lemmas.Bool.{true≢false, and_parts, eq-eqb, eqb-true, eqb-false, not-true, ne_eqb, lt-ltb, ltb-true, cond_both}
use Rattle.std.proofs.lemmas.Bool.Decides.{nat_tests}
use Rattle.std.proofs.lemmas.Grind.{fold-append}
use Rattle.std.proofs.lemmas.List.Elements.{All-nil, All-cons, All-append}
use Rattle.std.proofs.lemmas.List.Folds.{list_any_none, list_any-append}
use Rattle.std.proofs.lemmas.List.Sums.{list_all-from_AllPass}
use Rattle.std.proofs.lemmas.List.{append_assoc}
use Rattle.plat_base.specs.Verdicts.{Answer}
use Rattle.plat_base.specs.Machine.{Machine}
use Rattle.plat_base.specs.Pages.{page_of, space_of, entries_of_space}
use Rattle.plat_base.specs.Directories.{dir_of, seq_of}
use Rattle.plat_base.specs.Flat.{flat_value, flat_writes}
use Rattle.plat_base.specs.Done.{values_of, operations_of}
use Rattle.plat_base.specs.Held.{kept_of, told, granted_to, held_after, held, active, later, removes_all, removes_writes}
use Rattle.plat_base.specs.Accesses.{access_by, cause_of}
use Rattle.plat_base.specs.Ends.{is_live}
use Rattle.plat_base.specs.Coarse.{Coarse}
use Rattle.plat_base.specs.Messages.{by_other, owed_for, owed, message_of, removes_some, is_target, interrupt_of, interrupts, activation_of}
use Rattle.plat_base.specs.Messages.{activation, switch_items}
use Rattle.plat_base.specs.Turns.{change_by, grant_of, fault_items}
use Rattle.plat_base.specs.GuestRun.{Reach}
use Rattle.plat_base.specs.declared.policies.Decision.{Decision}
use Rattle.plat_base.specs.Rules.{may_apply, is_answered, is_switch_next, next_operation, is_ordered_switch, unless, bad_after, bad_at}
use Rattle.plat_laws.proofs.ItemLaws.{or-false, same_number, other_number, held-append, is_applied, all_applied, dir_of-applied}
use Rattle.plat_laws.proofs.ItemLaws.{seq_of-applied, active-applied, flat_value-applied, flat_writes-applied, later-applied}
use Rattle.plat_laws.proofs.ItemLaws.{by_other-applied, values_of-applied, operations_of-applied, dir_of-change, seq_of-change}
use Rattle.plat_laws.proofs.ItemLaws.{later-change, by_other-change, active-change, flat_value-change, flat_writes-change, values_of-change}
use Rattle.plat_laws.proofs.ItemLaws.{operations_of-change, held-change_own, held-change_other, dir_of-switch, seq_of-switch, held-switch}
use Rattle.plat_laws.proofs.ItemLaws.{active-switch, active-switch_own, later-switch, by_other-switch, is_by, held-not_mine}
use Rattle.plat_laws.proofs.ItemLaws.{bad_after-append}
use Rattle.plat_base.specs.declared.items.Removed.{Removed}
use Rattle.plat_base.specs.declared.items.Message.{Message}
use Rattle.plat_base.specs.declared.items.Moment.TheVariants as moment
use Rattle.plat_base.specs.declared.items.Applied.{Applied}
use Rattle.plat_base.specs.declared.items.Message.TheVariants as message
use Rattle.plat_base.specs.declared.items.Translation.{Translation}
use Rattle.plat_base.specs.declared.items.Change.{Change}
use Rattle.plat_base.specs.declared.items.Switch.{Switch}
use Rattle.plat_base.specs.declared.items.Item.{Item}
use Rattle.plat_base.specs.declared.items.Item.TheVariants as item
use Rattle.plat_base.specs.declared.statuses.Rule.TheVariants as rule

-- the translation of this processor and entry gets a message by interrupt before the change
abbrev pub hit : Machine → Coarse → (initiator page : ℕ) → Removed → (r e : ℕ) → Bool
hit m s initiator page rem r e = removes_some rem && page_of m e == page && nat_lt r m.nodes && is_target m s initiator e r

-- the messages to those of the processors from a on that pass the test
row : Removed → (test : ℕ → Bool) → (e a n : ℕ) → List Item
row rem test e a n = map (interrupt_of rem e) (filter test (range_with_len a n))

row-held : (m : Machine) (rem : Removed) (test : ℕ → Bool) (e a n r k : ℕ) (t : Option Translation) →
    fold (held_after m r k) t (row rem test e a n) ≡ if e == k && nat_le a r && nat_lt r (a + n) && test r then told (message_of rem) t
    else t
unfolding row
row-held m rem test e a zero r k t = grind (arith, nat_tests)
row-held m rem test e a (suc n) r k t =
    grind (arith, nat_tests, row-held m rem test e (a + 1) n r k t, row-held m rem test e (a + 1) n r k (told (message_of rem) t))

-- the rows of the entries from b on that pass a test
block : Removed → (here : ℕ → Bool) → (test : ℕ → ℕ → Bool) → (nodes b n : ℕ) → List Item
block rem here test nodes b n = flat_map (λ e. row rem (test e) e 0 nodes) (filter here (range_with_len b n))

block-step : (rem : Removed) (here : ℕ → Bool) (test : ℕ → ℕ → Bool) (nodes b n : ℕ) → block rem here test nodes b (suc n)
    ≡ if here b then row rem (test b) b 0 nodes ++ block rem here test nodes (b + 1) n else block rem here test nodes (b + 1) n
unfolding block
block-step rem here test nodes b n = by (here b)
  where
    by : (v : Bool) → flat_map (λ e. row rem (test e) e 0 nodes) (if v then b ∷ filter here (range_with_len (b + 1) n)
        else filter here (range_with_len (b + 1) n)) ≡ if v then row rem (test b) b 0 nodes ++ block rem here test nodes (b + 1) n
        else block rem here test nodes (b + 1) n
    by true = refl
    by false = refl

block-held : (m : Machine) (rem : Removed) (here : ℕ → Bool) (test : ℕ → ℕ → Bool) (nodes b n r k : ℕ) (t : Option Translation) →
    fold (held_after m r k) t (block rem here test nodes b n) ≡ if here k && nat_le b k && nat_lt k (b + n) && nat_lt r nodes
    && test k r then told (message_of rem) t else t
unfolding block
block-held m rem here test nodes b zero r k t = grind (arith, nat_tests)
block-held m rem here test nodes b (suc n) r k t =
    grind (
      arith,
      nat_tests,
      block-step rem here test nodes b n,
      row-held m rem (test b) b 0 nodes r k t,
      fold-append (held_after m r k) t (row rem (test b) b 0 nodes) (block rem here test nodes (b + 1) n),
      block-held m rem here test nodes (b + 1) n r k t,
      block-held m rem here test nodes (b + 1) n r k (told (message_of rem) t),
    )

interrupts-block : (m : Machine) (s : Coarse) (initiator page : ℕ) (rem : Removed) → interrupts m s initiator page rem
    ≡ if removes_some rem then block rem (λ e. page_of m e == page) (is_target m s initiator) m.nodes 0 (length m.entries) else []
unfolding block row
interrupts-block m s initiator page rem = refl

pub held-interrupts : (m : Machine) (s : Coarse) (initiator page : ℕ) (rem : Removed) (r e : ℕ) → e < length m.entries →
    held m (s.history ++ interrupts m s initiator page rem) r e
    ≡ if hit m s initiator page rem r e then told (message_of rem) (held m s.history r e) else held m s.history r e
held-interrupts m s initiator page rem r e h =
    held-append m s.history (interrupts m s initiator page rem) r e
    ∙ rw (interrupts-block m s initiator page rem) (by (removes_some rem))
  where
    by : (some : Bool) → fold (held_after m r e) (held m s.history r e)
        (if some then block rem (λ e. page_of m e == page) (is_target m s initiator) m.nodes 0 (length m.entries) else [])
        ≡ if some && page_of m e == page && nat_lt r m.nodes && is_target m s initiator e r then
        told (message_of rem) (held m s.history r e) else held m s.history r e
    by true = grind (
      arith,
      nat_tests,
      block-held m rem (λ e. page_of m e == page) (is_target m s initiator) m.nodes 0 (length m.entries) r
          e (held m s.history r e),
    )
    by false = refl

-- ---- what holds of each message

row-All : (P : Item → Type 0) (rem : Removed) (test : ℕ → Bool) (e a n : ℕ) →
    ((r : ℕ) → a ≤ r → r < a + n → test r ≡ true → P (interrupt_of rem e r)) → All P (row rem test e a n)
unfolding row
row-All P rem test e a zero h = All-nil P
row-All P rem test e a (suc n) h =
    let left = filter test (range_with_len (a + 1) n)
    in let rest = row-All P rem test e (a + 1) n (λ r l u k. h r (omega arith) (omega arith) k)
    in cond_both (test a) (a ∷ left) left (λ rs. All P (map (interrupt_of rem e) rs))
    (λ k. All-cons P (interrupt_of rem e a) (map (interrupt_of rem e) left) (h a (omega arith) (omega arith) k) rest)
    (λ k. rest)

block-All : (P : Item → Type 0) (rem : Removed) (here : ℕ → Bool) (test : ℕ → ℕ → Bool) (nodes b n : ℕ) →
    ((r e : ℕ) → b ≤ e → e < b + n → here e ≡ true → r < nodes → test e r ≡ true → P (interrupt_of rem e r)) →
    All P (block rem here test nodes b n)
unfolding block
block-All P rem here test nodes b zero h = All-nil P
block-All P rem here test nodes b (suc n) h =
    let others = block rem here test nodes (b + 1) n
    in let rest = block-All P rem here test nodes (b + 1) n (λ r e l u k o w. h r e (omega arith) (omega arith) k o w)
    in rw (block-step rem here test nodes b n)
    (cond_both (here b) (row rem (test b) b 0 nodes ++ others) others (All P)
    (λ k. All-append P (row rem (test b) b 0 nodes) others
    (row-All P rem (test b) b 0 nodes (λ r l u w. h r b (omega arith) (omega arith) k (omega arith) w)) rest)
    (λ k. rest))

pub interrupts-All : (P : Item → Type 0) (m : Machine) (s : Coarse) (initiator page : ℕ) (rem : Removed) →
    ((r e : ℕ) → r < m.nodes → e < length m.entries → page_of m e ≡ page → is_target m s initiator e r ≡ true → removes_some rem ≡ true →
    P (interrupt_of rem e r)) → All P (interrupts m s initiator page rem)
interrupts-All P m s initiator page rem h = rw (interrupts-block m s initiator page rem) (by (removes_some rem) refl)
  where
    by : (v : Bool) → removes_some rem ≡ v →
        All P (if v then block rem (λ e. page_of m e == page) (is_target m s initiator) m.nodes 0 (length m.entries) else [])
    by true k =
        block-All P rem (λ e. page_of m e == page) (is_target m s initiator) m.nodes 0 (length m.entries)
        (λ r e l u o n w. h r e n (omega arith) (eqb-true (page_of m e) page o) w k)
    by false k = All-nil P

pub interrupts-applied : (m : Machine) (s : Coarse) (initiator page : ℕ) (rem : Removed) → all_applied (interrupts m s initiator page rem)
    ≡ true
interrupts-applied m s initiator page rem =
    list_all-from_AllPass is_applied (interrupts m s initiator page rem)
    (interrupts-All (λ i. is_applied i ≡ true) m s initiator page rem (λ r e n k o w some. refl))

-- no message of a processor that is no target

pub interrupts-none_by : (m : Machine) (s : Coarse) (initiator page : ℕ) (rem : Removed) (q : ℕ) →
    ((e : ℕ) → is_target m s initiator e q ≡ false) → list_any (is_by q) (interrupts m s initiator page rem) ≡ false
interrupts-none_by m s initiator page rem q h =
    list_any_none (is_by q) (interrupts m s initiator page rem)
    (interrupts-All (λ i. is_by q i ≡ false) m s initiator page rem (λ r e n k o w some.
    ne_eqb r q (λ same. true≢false (sym w ∙ ap (is_target m s initiator e) same ∙ h e))))

pub interrupts-none_by_initiator : (m : Machine) (s : Coarse) (initiator page : ℕ) (rem : Removed) →
    list_any (is_by initiator) (interrupts m s initiator page rem) ≡ false
interrupts-none_by_initiator m s initiator page rem =
    interrupts-none_by m s initiator page rem initiator (λ e. rw (eq-eqb initiator initiator refl) refl)

pub interrupts-none_by_ended : (m : Machine) (s : Coarse) (initiator page : ℕ) (rem : Removed) (q : ℕ) → is_live s.ends q ≡ false →
    list_any (is_by q) (interrupts m s initiator page rem) ≡ false
interrupts-none_by_ended m s initiator page rem q h =
    interrupts-none_by m s initiator page rem q
    (λ e. rw h (two_rest (not (q == initiator)) (is_some (held m s.history q e)) (active m s.history q == space_of m e)))
  where
    two_rest : (a b c : Bool) → (a && false && b && c) ≡ false
    two_rest true b c = refl
    two_rest false b c = refl

-- ---- the rule Held of each message: those before it went to other translations

applied_of : Removed → (e r : ℕ) → Applied
applied_of rem e r = record { actor = r; entry = e; message = message_of rem; moment = moment.Interrupt }

answered-past : (m : Machine) (xs ys : List Item) (x : Applied) → all_applied ys ≡ true → held m (xs ++ ys) x.actor x.entry
    ≡ held m xs x.actor x.entry → is_answered m (xs ++ ys) x ≡ is_answered m xs x
answered-past m xs ys x h k = rw (active-applied m xs ys x.actor h, k) refl

-- an answered message is followed by what follows it
bad_after-answered : (m : Machine) (answer : Answer) (xs : List Item) (i : ℕ) (x : Applied) (ys : List Item) → is_answered m xs x ≡ true →
    bad_after m answer (xs ++ item.Applied x ∷ []) (i + 1) ys ≡ None → bad_after m answer xs i (item.Applied x ∷ ys) ≡ None
bad_after-answered m answer xs i x ys h k =
    ap (λ b. bad_at i (unless b rule.Held) (bad_after m answer (xs ++ item.Applied x ∷ []) (i + 1) ys)) h ∙ k

row-applied : (rem : Removed) (test : ℕ → Bool) (e a n : ℕ) → all_applied (row rem test e a n) ≡ true
row-applied rem test e a n = list_all-from_AllPass is_applied (row rem test e a n)
    (row-All (λ i. is_applied i ≡ true) rem test e a n (λ r l u k. refl))

row-answered : (m : Machine) (answer : Answer) (xs : List Item) (i : ℕ) (rem : Removed) (test : ℕ → Bool) (e a n : ℕ) →
    ((r : ℕ) → a ≤ r → r < a + n → test r ≡ true → is_answered m xs (applied_of rem e r) ≡ true) →
    bad_after m answer xs i (row rem test e a n) ≡ None
unfolding row applied_of
row-answered m answer xs i rem test e a zero h = refl
row-answered m answer xs i rem test e a (suc n) h =
    let left = filter test (range_with_len (a + 1) n)
    in cond_both (test a) (a ∷ left) left (λ rs. bad_after m answer xs i (map (interrupt_of rem e) rs) ≡ None)
    (λ k. bad_after-answered m answer xs i (applied_of rem e a) (map (interrupt_of rem e) left) (h a (omega arith) (omega arith) k)
    (row-answered m answer (xs ++ interrupt_of rem e a ∷ []) (i + 1) rem test e (a + 1) n (λ r l u w.
    let other : a ≢ r = λ same. absurd (omega arith)
    in answered-past m xs (interrupt_of rem e a ∷ []) (applied_of rem e r) refl
    (held-append m xs (interrupt_of rem e a ∷ []) r e ∙ rw (ne_eqb a r other) refl)
    ∙ h r (omega arith) (omega arith) w)))
    (λ k. row-answered m answer xs i rem test e (a + 1) n (λ r l u w. h r (omega arith) (omega arith) w))

block-answered : (m : Machine) (answer : Answer) (xs : List Item) (i : ℕ) (rem : Removed) (here : ℕ → Bool) (test : ℕ → ℕ → Bool)
    (nodes b n : ℕ) → ((r e : ℕ) → b ≤ e → e < b + n → here e ≡ true → r < nodes → test e r ≡ true → is_answered m xs (applied_of rem e r)
    ≡ true) → bad_after m answer xs i (block rem here test nodes b n) ≡ None
unfolding block applied_of
block-answered m answer xs i rem here test nodes b zero h = refl
block-answered m answer xs i rem here test nodes b (suc n) h =
    let first = row rem (test b) b 0 nodes in let others = block rem here test nodes (b + 1) n
    in rw (block-step rem here test nodes b n)
    (cond_both (here b) (first ++ others) others (λ ys. bad_after m answer xs i ys ≡ None)
    (λ k. bad_after-append m answer xs i first others
    ∙ rw (row-answered m answer xs i rem (test b) b 0 nodes (λ r l u w. h r b (omega arith) (omega arith) k (omega arith) w))
    (block-answered m answer (xs ++ first) (i + length first) rem here test nodes (b + 1) n (λ r e l u o v w.
    let other : b ≢ e = λ same. absurd (omega arith)
    in answered-past m xs first (applied_of rem e r) (row-applied rem (test b) b 0 nodes)
    (held-append m xs first r e ∙ row-held m rem (test b) b 0 nodes r e (held m xs r e) ∙ rw (ne_eqb b e other) refl)
    ∙ h r e (omega arith) (omega arith) o v w)))
    (λ k. block-answered m answer xs i rem here test nodes (b + 1) n (λ r e l u o v w. h r e (omega arith) (omega arith) o v w)))

-- what a target is
pub record IsTarget (m : Machine) (s : Coarse) (initiator e r : ℕ) : Type 0 where
  pub other : r ≢ initiator
  pub live : is_live s.ends r ≡ true
  pub holds : is_some (held m s.history r e) ≡ true
  pub here : active m s.history r ≡ space_of m e

pub is_target-parts : (m : Machine) (s : Coarse) (initiator e r : ℕ) → is_target m s initiator e r ≡ true → IsTarget m s initiator e r
is_target-parts m s initiator e r h =
    let first = and_parts (not (r == initiator) && is_live s.ends r && is_some (held m s.history r e))
    (active m s.history r == space_of m e) h
    in let second = and_parts (not (r == initiator) && is_live s.ends r) (is_some (held m s.history r e)) first.0
    in let third = and_parts (not (r == initiator)) (is_live s.ends r) second.0
    in record {
      other = eqb-false r initiator (not-true (r == initiator) third.0);
      live = third.1;
      holds = second.1;
      here = eqb-true (active m s.history r) (space_of m e) first.1;
    }

-- each message finds its translation, if it does so in the state before the turn
pub bad_after-interrupts : (m : Machine) (answer : Answer) (s : Coarse) (initiator page : ℕ) (rem : Removed) (n : ℕ) →
    ((r e : ℕ) → r < m.nodes → e < length m.entries → hit m s initiator page rem r e ≡ true →
    may_apply (message_of rem) (held m s.history r e) ≡ true) → bad_after m answer s.history n (interrupts m s initiator page rem) ≡ None
unfolding applied_of
bad_after-interrupts m answer s initiator page rem n h = rw (interrupts-block m s initiator page rem) (by (removes_some rem) refl)
  where
    by : (v : Bool) → removes_some rem ≡ v →
        bad_after m answer s.history n
        (if v then block rem (λ e. page_of m e == page) (is_target m s initiator) m.nodes 0 (length m.entries) else []) ≡ None
    by true some =
        block-answered m answer s.history n rem (λ e. page_of m e == page) (is_target m s initiator) m.nodes 0 (length m.entries)
        (λ r e l u o v w.
        let is_hit : hit m s initiator page rem r e ≡ true = rw (some, o, lt-ltb r m.nodes v) w
        in rw (
          lt-ltb r m.nodes v,
          lt-ltb e (length m.entries) (omega arith),
          eq-eqb (active m s.history r) (space_of m e) (is_target-parts m s initiator e r w).here,
        )
        (h r e v (omega arith) is_hit))
    by false some = refl

-- ---- a change behind its messages

-- the messages before a change
abbrev pub sent : Machine → Coarse → Change → List Item
sent m s c = interrupts m s c.actor c.page c.removed

-- the history with a change and the messages before it
abbrev pub posted : Machine → Coarse → Change → List Item
posted m s c = s.history ++ (sent m s c ++ item.Change c ∷ [])

-- what holds of each history that ends in the change holds of this one
at_posted : {A : Type 0} (f : List Item → A) (m : Machine) (s : Coarse) (c : Change) (v : A) →
    f ((s.history ++ sent m s c) ++ item.Change c ∷ []) ≡ v → f (posted m s c) ≡ v
at_posted f m s c v h = ap f (sym (append_assoc s.history (sent m s c) (item.Change c ∷ []))) ∙ h

module _ (m : Machine) (s : Coarse) (c : Change) where
  pub sent-applied : all_applied (sent m s c) ≡ true
  sent-applied = interrupts-applied m s c.actor c.page c.removed

  pub dir_of-posted : (page : ℕ) → dir_of (posted m s c) page ≡ if c.page == page then c.after else dir_of s.history page
  dir_of-posted page =
      at_posted (λ xs. dir_of xs page) m s c (if c.page == page then c.after else dir_of s.history page)
      (dir_of-change (s.history ++ sent m s c) c page ∙ rw (dir_of-applied s.history (sent m s c) page sent-applied) refl)

  pub seq_of-posted : (page : ℕ) → seq_of (posted m s c) page ≡ if c.page == page then seq_of s.history page + 1 else seq_of s.history page
  seq_of-posted page =
      at_posted (λ xs. seq_of xs page) m s c (if c.page == page then seq_of s.history page + 1 else seq_of s.history page)
      (seq_of-change (s.history ++ sent m s c) c page ∙ rw (seq_of-applied s.history (sent m s c) page sent-applied) refl)

  pub later-posted : (test : Removed → Bool) (page seq : ℕ) → later test (posted m s c) page seq
      ≡ (later test s.history page seq || (c.page == page && nat_lt seq c.seq && test c.removed))
  later-posted test page seq =
      at_posted (λ xs. later test xs page seq) m s c
      (later test s.history page seq || (c.page == page && nat_lt seq c.seq && test c.removed))
      (later-change test (s.history ++ sent m s c) c page seq
      ∙ ap (λ b. b || (c.page == page && nat_lt seq c.seq && test c.removed))
      (later-applied test s.history (sent m s c) page seq sent-applied))

  pub by_other-posted : (test : Removed → Bool) (q page seq : ℕ) → by_other test (posted m s c) q page seq
      ≡ (by_other test s.history q page seq || (c.page == page && nat_lt seq c.seq && test c.removed && not (c.actor == q)))
  by_other-posted test q page seq =
      at_posted (λ xs. by_other test xs q page seq) m s c
      (by_other test s.history q page seq || (c.page == page && nat_lt seq c.seq && test c.removed && not (c.actor == q)))
      (by_other-change test (s.history ++ sent m s c) c q page seq
      ∙ ap (λ b. b || (c.page == page && nat_lt seq c.seq && test c.removed && not (c.actor == q)))
      (by_other-applied test s.history (sent m s c) q page seq sent-applied))

  pub active-posted : (q : ℕ) → active m (posted m s c) q ≡ active m s.history q
  active-posted q =
      at_posted (λ xs. active m xs q) m s c (active m s.history q)
      (active-change m (s.history ++ sent m s c) c q ∙ active-applied m s.history (sent m s c) q sent-applied)

  pub flat_value-posted : (page word : ℕ) → flat_value m (posted m s c) page word ≡ flat_value m s.history page word
  flat_value-posted page word =
      at_posted (λ xs. flat_value m xs page word) m s c (flat_value m s.history page word)
      (flat_value-change m (s.history ++ sent m s c) c page word ∙ flat_value-applied m s.history (sent m s c) page word sent-applied)

  pub flat_writes-posted : (page word : ℕ) → flat_writes (posted m s c) page word ≡ flat_writes s.history page word
  flat_writes-posted page word =
      at_posted (λ xs. flat_writes xs page word) m s c (flat_writes s.history page word)
      (flat_writes-change (s.history ++ sent m s c) c page word ∙ flat_writes-applied s.history (sent m s c) page word sent-applied)

  pub values_of-posted : (q : ℕ) → values_of q (posted m s c) ≡ values_of q s.history
  values_of-posted q =
      at_posted (values_of q) m s c (values_of q s.history)
      (values_of-change q (s.history ++ sent m s c) c ∙ values_of-applied q s.history (sent m s c) sent-applied)

  pub operations_of-posted : (q : ℕ) → operations_of q (posted m s c) ≡ operations_of q s.history
  operations_of-posted q =
      at_posted (operations_of q) m s c (operations_of q s.history)
      (operations_of-change q (s.history ++ sent m s c) c ∙ operations_of-applied q s.history (sent m s c) sent-applied)

  -- of the change's own page

  pub dir_of-posted_own : dir_of (posted m s c) c.page ≡ c.after
  dir_of-posted_own = dir_of-posted c.page ∙ same_number c.page c.after (dir_of s.history c.page)

  pub seq_of-posted_own : seq_of (posted m s c) c.page ≡ seq_of s.history c.page + 1
  seq_of-posted_own = seq_of-posted c.page ∙ same_number c.page (seq_of s.history c.page + 1) (seq_of s.history c.page)

  -- of another page

  pub dir_of-posted_other : (page : ℕ) → c.page ≢ page → dir_of (posted m s c) page ≡ dir_of s.history page
  dir_of-posted_other page h = dir_of-posted page ∙ other_number c.page page c.after (dir_of s.history page) h

  pub seq_of-posted_other : (page : ℕ) → c.page ≢ page → seq_of (posted m s c) page ≡ seq_of s.history page
  seq_of-posted_other page h = seq_of-posted page ∙ other_number c.page page (seq_of s.history page + 1) (seq_of s.history page) h

  pub later-posted_other : (test : Removed → Bool) (page seq : ℕ) → c.page ≢ page → later test (posted m s c) page seq
      ≡ later test s.history page seq
  later-posted_other test page seq h = later-posted test page seq ∙ rw (ne_eqb c.page page h) (or-false (later test s.history page seq))

  pub by_other-posted_other : (test : Removed → Bool) (q page seq : ℕ) → c.page ≢ page → by_other test (posted m s c) q page seq
      ≡ by_other test s.history q page seq
  by_other-posted_other test q page seq h =
      by_other-posted test q page seq ∙ rw (ne_eqb c.page page h) (or-false (by_other test s.history q page seq))

  -- what is held

  pub held-posted_own : (e : ℕ) →
      held m (posted m s c) c.actor e
      ≡ granted_to e c.seq c.granted (if page_of m e == c.page then kept_of c.removed (held m s.history c.actor e)
      else held m s.history c.actor e)
  held-posted_own e =
      at_posted (λ xs. held m xs c.actor e) m s c
      (granted_to e c.seq c.granted (if page_of m e == c.page then kept_of c.removed (held m s.history c.actor e)
      else held m s.history c.actor e))
      (held-change_own m (s.history ++ sent m s c) c e
      ∙ ap (λ t. granted_to e c.seq c.granted (if page_of m e == c.page then kept_of c.removed t else t))
      (held-not_mine m s.history (sent m s c) c.actor e (interrupts-none_by_initiator m s c.actor c.page c.removed)))

  pub held-posted_other : (r e : ℕ) → r ≢ c.actor → e < length m.entries →
      held m (posted m s c) r e ≡ if hit m s c.actor c.page c.removed r e then told (message_of c.removed) (held m s.history r e)
      else held m s.history r e
  held-posted_other r e h k =
      at_posted (λ xs. held m xs r e) m s c (if hit m s c.actor c.page c.removed r e then told (message_of c.removed) (held m s.history r e)
      else held m s.history r e)
      (held-change_other m (s.history ++ sent m s c) c r e (λ same. h (sym same)) ∙ held-interrupts m s c.actor c.page c.removed r e k)

  -- no item of another processor that is not live

  pub posted-none_by : (r : ℕ) → c.actor ≢ r → is_live s.ends r ≡ false → list_any (is_by r) (sent m s c ++ item.Change c ∷ []) ≡ false
  posted-none_by r h k = list_any-append (is_by r) (sent m s c) (item.Change c ∷ [])
      ∙ rw (interrupts-none_by_ended m s c.actor c.page c.removed r k, ne_eqb c.actor r h) refl

-- a fault's items are those of its change, and the access; a thaw's are those of its change

pub fault_items-parts : (m : Machine) (s : Coarse) (q now entry : ℕ) (r : Reach) (d : Decision) →
    s.history ++ fault_items m s q now entry r d
    ≡ posted m s (change_by s.history q r.page now (cause_of r.kind) d (Some (grant_of entry (cause_of r.kind) d)))
    ++ access_by m s.history q r d.frame (seq_of s.history r.page) ∷ []
fault_items-parts m s q now entry r d =
    let c = change_by s.history q r.page now (cause_of r.kind) d (Some (grant_of entry (cause_of r.kind) d))
    in let a = access_by m s.history q r d.frame (seq_of s.history r.page)
    in sym (append_assoc s.history (sent m s c ++ item.Change c ∷ []) (a ∷ [])
    ∙ ap (λ xs. s.history ++ xs) (append_assoc (sent m s c) (item.Change c ∷ []) (a ∷ [])))

-- ---- a switch and the messages that it answers

-- what is left of a translation once an owed message was applied, if there is one
abbrev pub told_by : Option Message → Option Translation → Option Translation
told_by None t = t
told_by (Some msg) t = told msg t

-- the messages of the entries from b on that pass a test
waiting : ℕ → (owes : ℕ → Option Message) → (here : ℕ → Bool) → (b n : ℕ) → List Item
waiting q owes here b n = filter_map (λ e. option_map (activation_of q e) (owes e)) (filter here (range_with_len b n))

waiting-step : (q : ℕ) (owes : ℕ → Option Message) (here : ℕ → Bool) (b n : ℕ) →
    waiting q owes here b (suc n) ≡ if here b then cons_option (option_map (activation_of q b) (owes b)) (waiting q owes here (b + 1) n)
    else waiting q owes here (b + 1) n
unfolding waiting
waiting-step q owes here b n = by (here b)
  where
    by : (v : Bool) → filter_map (λ e. option_map (activation_of q e) (owes e)) (if v then b ∷ filter here (range_with_len (b + 1) n)
        else filter here (range_with_len (b + 1) n))
        ≡ if v then cons_option (option_map (activation_of q b) (owes b)) (waiting q owes here (b + 1) n) else waiting q owes here (b + 1) n
    by true = refl
    by false = refl

-- one message more, or none
one-held : (m : Machine) (q b r k : ℕ) (o : Option Message) (t : Option Translation) (xs : List Item) →
    fold (held_after m r k) t (cons_option (option_map (activation_of q b) o) xs)
    ≡ fold (held_after m r k) (if r == q && b == k then told_by o t else t) xs
one-held m q b r k None t xs = grind (arith, nat_tests)
one-held m q b r k (Some msg) t xs = grind (arith, nat_tests)

waiting-held : (m : Machine) (q : ℕ) (owes : ℕ → Option Message) (here : ℕ → Bool) (b n r k : ℕ) (t : Option Translation) →
    fold (held_after m r k) t (waiting q owes here b n) ≡ if r == q && here k && nat_le b k && nat_lt k (b + n) then told_by (owes k) t
    else t
unfolding waiting
waiting-held m q owes here b zero r k t = grind (arith, nat_tests)
waiting-held m q owes here b (suc n) r k t =
    grind (
      arith,
      nat_tests,
      waiting-step q owes here b n,
      one-held m q b r k (owes b) t (waiting q owes here (b + 1) n),
      waiting-held m q owes here (b + 1) n r k t,
      waiting-held m q owes here (b + 1) n r k (told_by (owes b) t),
    )

waiting-held_all : (m : Machine) (q : ℕ) (owes : ℕ → Option Message) (here : ℕ → Bool) (n r k : ℕ) (t : Option Translation) → k < n →
    fold (held_after m r k) t (waiting q owes here 0 n) ≡ if r == q && here k then told_by (owes k) t else t
waiting-held_all m q owes here n r k t h = grind (arith, nat_tests, waiting-held m q owes here 0 n r k t)

waiting-All : (P : Item → Type 0) (q : ℕ) (owes : ℕ → Option Message) (here : ℕ → Bool) (b n : ℕ) →
    ((e : ℕ) (msg : Message) → b ≤ e → e < b + n → here e ≡ true → owes e ≡ Some msg → P (activation_of q e msg)) →
    All P (waiting q owes here b n)
unfolding waiting
waiting-All P q owes here b zero h = All-nil P
waiting-All P q owes here b (suc n) h =
    let others = waiting q owes here (b + 1) n
    in let rest = waiting-All P q owes here (b + 1) n (λ e msg l u o w. h e msg (omega arith) (omega arith) o w)
    in rw (waiting-step q owes here b n)
    (cond_both (here b) (cons_option (option_map (activation_of q b) (owes b)) others) others (All P)
    (λ k. one (owes b) (λ msg w. h b msg (omega arith) (omega arith) k w) others rest)
    (λ k. rest))
  where
    one : (o : Option Message) → ((msg : Message) → o ≡ Some msg → P (activation_of q b msg)) → (xs : List Item) → All P xs →
        All P (cons_option (option_map (activation_of q b) o) xs)
    one None k xs r = r
    one (Some msg) k xs r = All-cons P (activation_of q b msg) xs (k msg refl) r

activated : (q e : ℕ) → Message → Applied
activated q e msg = record { actor = q; entry = e; message = msg; moment = moment.Activation }

waiting-answered : (m : Machine) (answer : Answer) (xs : List Item) (i q : ℕ) (owes : ℕ → Option Message) (here : ℕ → Bool) (b n : ℕ) →
    ((e : ℕ) (msg : Message) → b ≤ e → e < b + n → here e ≡ true → owes e ≡ Some msg → is_answered m xs (activated q e msg) ≡ true) →
    bad_after m answer xs i (waiting q owes here b n) ≡ None
unfolding waiting activated
waiting-answered m answer xs i q owes here b zero h = refl
waiting-answered m answer xs i q owes here b (suc n) h =
    let others = waiting q owes here (b + 1) n
    in rw (waiting-step q owes here b n)
    (cond_both (here b) (cons_option (option_map (activation_of q b) (owes b)) others) others (λ ys. bad_after m answer xs i ys ≡ None)
    (λ k. one (owes b) (λ msg w. h b msg (omega arith) (omega arith) k w) others
    (waiting-answered m answer xs i q owes here (b + 1) n (λ e msg l u o w. h e msg (omega arith) (omega arith) o w))
    (λ msg. waiting-answered m answer (xs ++ activation_of q b msg ∷ []) (i + 1) q owes here (b + 1) n (λ e msg' l u o w.
    let other : b ≢ e = λ same. absurd (omega arith)
    in answered-past m xs (activation_of q b msg ∷ []) (activated q e msg') refl
    (held-append m xs (activation_of q b msg ∷ []) q e ∙ rw (ne_eqb b e other, eq-eqb q q refl) refl)
    ∙ h e msg' (omega arith) (omega arith) o w)))
    (λ k. waiting-answered m answer xs i q owes here (b + 1) n (λ e msg l u o w. h e msg (omega arith) (omega arith) o w)))
  where
    one : (o : Option Message) → ((msg : Message) → o ≡ Some msg → is_answered m xs (activated q b msg) ≡ true) → (ys : List Item) →
        bad_after m answer xs i ys ≡ None → ((msg : Message) → bad_after m answer (xs ++ activation_of q b msg ∷ []) (i + 1) ys ≡ None) →
        bad_after m answer xs i (cons_option (option_map (activation_of q b) o) ys) ≡ None
    one None k ys none some = none
    one (Some msg) k ys none some = bad_after-answered m answer xs i (activated q b msg) ys (k msg refl) (some msg)

abbrev pub switch_of : (q space : ℕ) → Switch
switch_of q space = record { actor = q; space = space }

-- the messages behind a switch of q to a space
abbrev pub activations : Machine → List Item → (q space : ℕ) → List Item
activations m xs q space = filter_map (activation m xs q) (entries_of_space m space)

activations-waiting : (m : Machine) (xs : List Item) (q space : ℕ) →
    activations m xs q space ≡ waiting q (owed m xs q) (λ e. space_of m e == space) 0 (length m.entries)
unfolding waiting
activations-waiting m xs q space = refl

restrict_unmarked : (all marked writes : Bool) →
    (if all then Some message.Invalidate else if not marked && writes then Some message.Restrict else None) ≡ Some message.Restrict →
    not marked ≡ true
restrict_unmarked true marked writes h = absurd cc
restrict_unmarked false false writes h = refl
restrict_unmarked false true writes h = absurd cc

-- an owed message finds its translation
pub owed-may_apply : (m : Machine) (xs : List Item) (q e : ℕ) (msg : Message) → owed m xs q e ≡ Some msg →
    may_apply msg (held m xs q e) ≡ true
owed-may_apply m xs q e msg h = by (held m xs q e) msg h
  where
    by : (t : Option Translation) (msg : Message) → owed_for xs q (page_of m e) t ≡ Some msg → may_apply msg t ≡ true
    by None msg h = absurd cc
    by (Some t) message.Invalidate h = refl
    by (Some t) message.Restrict h =
        restrict_unmarked (by_other removes_all xs q (page_of m e) t.seq) t.restricted (by_other removes_writes xs q (page_of m e) t.seq) h

pub switch_items-parts : (m : Machine) (xs : List Item) (q space : ℕ) →
    xs ++ switch_items m xs q space ≡ (xs ++ item.Switch (switch_of q space) ∷ []) ++ activations m xs q space
switch_items-parts m xs q space = sym (append_assoc xs (item.Switch (switch_of q space) ∷ []) (activations m xs q space))

at_switched : {A : Type 0} (f : List Item → A) (m : Machine) (xs : List Item) (q space : ℕ) (v : A) →
    f ((xs ++ item.Switch (switch_of q space) ∷ []) ++ activations m xs q space) ≡ v → f (xs ++ switch_items m xs q space) ≡ v
at_switched f m xs q space v h = ap f (switch_items-parts m xs q space) ∙ h

pub activations-All : (P : Item → Type 0) (m : Machine) (xs : List Item) (q space : ℕ) →
    ((e : ℕ) (msg : Message) → e < length m.entries → space_of m e ≡ space → owed m xs q e ≡ Some msg → P (activation_of q e msg)) →
    All P (activations m xs q space)
activations-All P m xs q space h =
    rw (activations-waiting m xs q space)
    (waiting-All P q (owed m xs q) (λ e. space_of m e == space) 0 (length m.entries) (λ e msg l u o w.
    h e msg (omega arith) (eqb-true (space_of m e) space o) w))

pub activations-applied : (m : Machine) (xs : List Item) (q space : ℕ) → all_applied (activations m xs q space) ≡ true
activations-applied m xs q space =
    list_all-from_AllPass is_applied (activations m xs q space)
    (activations-All (λ i. is_applied i ≡ true) m xs q space (λ e msg l o w. refl))

pub switch_items-none_by : (m : Machine) (xs : List Item) (q space r : ℕ) → q ≢ r → list_any (is_by r) (switch_items m xs q space) ≡ false
switch_items-none_by m xs q space r h =
    rw (ne_eqb q r h)
    (list_any_none (is_by r) (activations m xs q space)
    (activations-All (λ i. is_by r i ≡ false) m xs q space (λ e msg l o w. ne_eqb q r h)))

pub held-switch_items : (m : Machine) (xs : List Item) (q space r e : ℕ) → e < length m.entries →
    held m (xs ++ switch_items m xs q space) r e ≡ if r == q && space_of m e == space then told_by (owed m xs q e) (held m xs r e)
    else held m xs r e
held-switch_items m xs q space r e h =
    held-append m xs (switch_items m xs q space) r e
    ∙ ap (fold (held_after m r e) (held m xs r e)) (activations-waiting m xs q space)
    ∙ waiting-held_all m q (owed m xs q) (λ k. space_of m k == space) (length m.entries) r e (held m xs r e) h

pub active-switch_items : (m : Machine) (xs : List Item) (q space r : ℕ) → active m (xs ++ switch_items m xs q space) r
    ≡ if r == q then space else active m xs r
active-switch_items m xs q space r =
    ap (λ ys. active m ys r) (switch_items-parts m xs q space)
    ∙ active-applied m (xs ++ item.Switch (switch_of q space) ∷ []) (activations m xs q space) r (activations-applied m xs q space)
    ∙ active-switch m xs (switch_of q space) r
    ∙ turned
  where
    turned : (if q == r then space else active m xs r) ≡ if r == q then space else active m xs r
    turned = grind (arith, nat_tests)

-- each message behind the switch finds its translation
pub bad_after-activations : (m : Machine) (answer : Answer) (xs : List Item) (q space n : ℕ) → q < m.nodes →
    bad_after m answer (xs ++ item.Switch (switch_of q space) ∷ []) n (activations m xs q space) ≡ None
unfolding activated
bad_after-activations m answer xs q space n h =
    let s = switch_of q space
    in rw (activations-waiting m xs q space)
    (waiting-answered m answer (xs ++ item.Switch s ∷ []) n q (owed m xs q) (λ e. space_of m e == space) 0 (length m.entries)
    (λ e msg l u o w.
    rw (lt-ltb q m.nodes h, lt-ltb e (length m.entries) (omega arith), active-switch_own m xs s, held-switch m xs s q e)
    (rw (eq-eqb space (space_of m e) (sym (eqb-true (space_of m e) space o))) (owed-may_apply m xs q e msg w))))

pub bad_after-switch_items : (m : Machine) (answer : Answer) (xs : List Item) (q space n : ℕ) → is_ordered_switch m xs (switch_of q space)
    ≡ true → bad_after m answer xs n (switch_items m xs q space) ≡ None
bad_after-switch_items m answer xs q space n h =
    let s = switch_of q space
    in let node = and_parts (nat_lt q m.nodes) (is_switch_next (next_operation m xs q) space) h
    in ap (λ b. bad_at n (unless b rule.Order) (bad_after m answer (xs ++ item.Switch s ∷ []) (n + 1) (activations m xs q space))) h
    ∙ bad_after-activations m answer xs q space (n + 1) (ltb-true q m.nodes node.0)

-- what a switch and its messages leave

module _ (m : Machine) (xs : List Item) (q space : ℕ) where
  pub dir_of-switch_items : (page : ℕ) → dir_of (xs ++ switch_items m xs q space) page ≡ dir_of xs page
  dir_of-switch_items page =
      at_switched (λ ys. dir_of ys page) m xs q space (dir_of xs page)
      (dir_of-applied (xs ++ item.Switch (switch_of q space) ∷ []) (activations m xs q space) page (activations-applied m xs q space)
      ∙ dir_of-switch xs (switch_of q space) page)

  pub seq_of-switch_items : (page : ℕ) → seq_of (xs ++ switch_items m xs q space) page ≡ seq_of xs page
  seq_of-switch_items page =
      at_switched (λ ys. seq_of ys page) m xs q space (seq_of xs page)
      (seq_of-applied (xs ++ item.Switch (switch_of q space) ∷ []) (activations m xs q space) page (activations-applied m xs q space)
      ∙ seq_of-switch xs (switch_of q space) page)

  pub later-switch_items : (test : Removed → Bool) (page seq : ℕ) → later test (xs ++ switch_items m xs q space) page seq
      ≡ later test xs page seq
  later-switch_items test page seq =
      at_switched (λ ys. later test ys page seq) m xs q space (later test xs page seq)
      (later-applied test (xs ++ item.Switch (switch_of q space) ∷ []) (activations m xs q space) page seq
      (activations-applied m xs q space)
      ∙ later-switch test xs (switch_of q space) page seq)

  pub by_other-switch_items : (test : Removed → Bool) (r page seq : ℕ) → by_other test (xs ++ switch_items m xs q space) r page seq
      ≡ by_other test xs r page seq
  by_other-switch_items test r page seq =
      at_switched (λ ys. by_other test ys r page seq) m xs q space (by_other test xs r page seq)
      (by_other-applied test (xs ++ item.Switch (switch_of q space) ∷ []) (activations m xs q space) r page seq
      (activations-applied m xs q space)
      ∙ by_other-switch test xs (switch_of q space) r page seq)
