-- the messages of an interrupt and of a switch, as far as a loop has sent them: what they leave as it is, and how many they are
use Rattle.std.proofs.Common.{◌≡◌, ◌≢◌, ℕ, zero, suc, ◌+◌, ◌<◌, ◌≤◌, Bool, true, false, not, ◌&&◌, List, [], ◌∷◌, ◌++◌, length, map, filter}
use Rattle.std.proofs.Common.{take, drop, get_or}
use Rattle.std.proofs.Common.{Option, Some, None, refl, ap, sym, subst, ◌∙◌, arith}
use Rattle.std.specs.Prelude.{◌==◌}
use Rattle.std.specs.Option.{option_map}
use Rattle.std.specs.List.{list_all, flat_map, filter_map, range_with_len}
use Rattle.std.proofs.lemmas.Bool.{ne_eqb, and_parts}
use Rattle.std.proofs.lemmas.Bool.Decides.{nat_tests}
use Rattle.std.proofs.lemmas.Grind.{flat_map-append}
use Rattle.std.proofs.lemmas.List.{map-append, append-nil, length-append, take_more, take-append-drop}
use Rattle.std.proofs.lemmas.List.Folds.{list_all-append}
use Rattle.std.proofs.lemmas.List.Elements.{filter-append, filter_map-append, filter_agree}
use Rattle.plat_laws.proofs.ItemLaws.{fold-append_still, list_any-append_still, is_applied, all_applied, active-applied}
use Rattle.plat_base.specs.Machine.{Machine}
use Rattle.plat_base.specs.Pages.{numbers, page_of, entries_of_page, entries_of_space}
use Rattle.plat_base.specs.Held.{held, held_after}
use Rattle.plat_base.specs.Coarse.{Coarse}
use Rattle.plat_base.specs.Messages.{removes_some, is_target, interrupt_of, interrupts, is_owed_for, by_other, owed_for, owed}
use Rattle.plat_base.specs.Messages.{activation_of, activation, switch_items}
use Rattle.plat_base.specs.declared.endings.Ended.{Ended}
use Rattle.plat_base.specs.declared.items.Removed.{Removed}
use Rattle.plat_base.specs.declared.items.Message.{Message}
use Rattle.plat_base.specs.declared.items.Translation.{Translation}
use Rattle.plat_base.specs.declared.items.Item.{Item}
use Rattle.plat_base.specs.declared.items.Item.TheVariants as item
use Rattle.plat_chronicle.specs.Chronicle.{Chronicled, HasAdded, HasRoom}
use Rattle.plat_chronicle.proofs.ChronicleLemmas.{HasAdded-more, HasRoom-more}
use Rattle.plat_base.proofs.EntryLists.{entries_of_page-apart, entries_of_page-below, entries_of_space-apart, entries_of_space-below}
use Rattle.plat_coarse.proofs.NumberLemmas.{IsByParts, by_parts-more, by_parts-length}

-- ---- items that leave a translation as it is

-- no change, and no message to this processor and entry
abbrev pub not_to : (r e : ℕ) → Item → Bool
not_to r e (item.Access a) = true
not_to r e (item.Change c) = false
not_to r e (item.Applied x) = not (x.actor == r && x.entry == e)
not_to r e (item.Switch s) = true

held-kept : (m : Machine) (r e : ℕ) (t : Option Translation) (i : Item) → not_to r e i ≡ true → held_after m r e t i ≡ t
held-kept m r e t (item.Access a) h = refl
held-kept m r e t (item.Change c) h = absurd cc
held-kept m r e t (item.Applied x) h = grind arith
held-kept m r e t (item.Switch s) h = refl

pub held-past : (m : Machine) (xs ys : List Item) (r e : ℕ) → list_all (not_to r e) ys ≡ true → held m (xs ++ ys) r e ≡ held m xs r e
held-past m xs ys r e h = fold-append_still (held_after m r e) (not_to r e) (held-kept m r e) None xs ys h

by_other-kept : (test : Removed → Bool) (r e q page seq : ℕ) (i : Item) → not_to r e i ≡ true → is_owed_for test q page seq i ≡ false
by_other-kept test r e q page seq (item.Access a) h = refl
by_other-kept test r e q page seq (item.Change c) h = absurd cc
by_other-kept test r e q page seq (item.Applied x) h = refl
by_other-kept test r e q page seq (item.Switch s) h = refl

by_other-past : (test : Removed → Bool) (xs ys : List Item) (r e q page seq : ℕ) → list_all (not_to r e) ys ≡ true →
    by_other test (xs ++ ys) q page seq ≡ by_other test xs q page seq
by_other-past test xs ys r e q page seq h =
    list_any-append_still (is_owed_for test q page seq) (not_to r e) (by_other-kept test r e q page seq) xs ys h

pub owed-past : (m : Machine) (xs ys : List Item) (q e : ℕ) → list_all (not_to q e) ys ≡ true → owed m (xs ++ ys) q e ≡ owed m xs q e
owed-past m xs ys q e h = rw (held-past m xs ys q e h) (by (held m xs q e))
  where
    by : (t : Option Translation) → owed_for (xs ++ ys) q (page_of m e) t ≡ owed_for xs q (page_of m e) t
    by None = refl
    by (Some t) = simp (λ (test : Removed → Bool) (seq : ℕ). by_other-past test xs ys q e q (page_of m e) seq h)

-- ---- the messages of an interrupt

-- the run with these items and ends
abbrev pub run : List Item → List Ended → Coarse
run items ends = record { history = items; ends = ends }

pub is_target-past : (m : Machine) (xs ys : List Item) (ends : List Ended) (initiator e r : ℕ) → all_applied ys ≡ true →
    list_all (not_to r e) ys ≡ true → is_target m (run (xs ++ ys) ends) initiator e r ≡ is_target m (run xs ends) initiator e r
is_target-past m xs ys ends initiator e r applied other = rw (held-past m xs ys r e other, active-applied m xs ys r applied) refl

row-all : (p : Item → Bool) (f : ℕ → Item) (test : ℕ → Bool) (a n : ℕ) → ((r : ℕ) → r < a + n → p (f r) ≡ true) →
    list_all p (map f (filter test (range_with_len a n))) ≡ true
row-all p f test a zero h = refl
row-all p f test a (suc n) h = grind (arith, h a, row-all p f test (a + 1) n (λ r l. h r (omega arith)))

block-all : (p : Item → Bool) (f : ℕ → List Item) (test : ℕ → Bool) (es : List ℕ) →
    ((e : ℕ) → test e ≡ true → list_all p (f e) ≡ true) → list_all test es ≡ true → list_all p (flat_map f es) ≡ true
block-all p f test [] h k = refl
block-all p f test (e ∷ es) h k =
    let parts = and_parts (test e) (list_all test es) k in
    grind (arith, list_all-append p (f e) (flat_map f es), h e parts.0, block-all p f test es h parts.1)

waiting-all : (p : Item → Bool) (f : ℕ → Option Item) (test : ℕ → Bool) (es : List ℕ) →
    ((e : ℕ) (i : Item) → test e ≡ true → f e ≡ Some i → p i ≡ true) → list_all test es ≡ true → list_all p (filter_map f es) ≡ true
waiting-all p f test [] h k = refl
waiting-all p f test (e ∷ es) h k =
    let parts = and_parts (test e) (list_all test es) k in
    grind (arith, λ (i : Item). h e i parts.0, waiting-all p f test es h parts.1)

-- the messages for one entry to those of these processors that are targets
abbrev pub row : Machine → Coarse → (initiator : ℕ) → Removed → (entry : ℕ) → List ℕ → List Item
row m s initiator removed entry rs = map (interrupt_of removed entry) (filter (is_target m s initiator entry) rs)

row-by_parts : (m : Machine) (s : Coarse) (initiator : ℕ) (removed : Removed) (entry : ℕ) → IsByParts (row m s initiator removed entry)
row-by_parts m s initiator removed entry xs ys =
    ap (map (interrupt_of removed entry)) (filter-append (is_target m s initiator entry) xs ys)
    ∙ map-append (interrupt_of removed entry) (filter (is_target m s initiator entry) xs) (filter (is_target m s initiator entry) ys)

module _ (m : Machine) (items : List Item) (ends : List Ended) (initiator : ℕ) (removed : Removed) (entry : ℕ) where
  -- the messages to the processors below r
  abbrev pub sent_below : ℕ → List Item
  sent_below r = row m (run items ends) initiator removed entry (numbers r)

  pub sent_below-applied : (r : ℕ) → all_applied (sent_below r) ≡ true
  sent_below-applied r = row-all is_applied (interrupt_of removed entry) (is_target m (run items ends) initiator entry) 0 r (λ k l. refl)

  -- none of them is to processor r
  sent_below-not_to : (r : ℕ) → list_all (not_to r entry) (sent_below r) ≡ true
  sent_below-not_to r =
      row-all (not_to r entry) (interrupt_of removed entry) (is_target m (run items ends) initiator entry) 0 r
      (λ k l. let other : k ≢ r = λ same. absurd (omega arith) in rw (ne_eqb k r other) refl)

  -- none of them is for another entry
  pub sent_below-not_for : (r q e : ℕ) → entry ≢ e → list_all (not_to q e) (sent_below r) ≡ true
  sent_below-not_for r q e other =
      row-all (not_to q e) (interrupt_of removed entry) (is_target m (run items ends) initiator entry) 0 r
      (λ k l. rw (ne_eqb entry e other) (grind (arith, nat_tests)))

  -- whether r is a target is asked of the history with the messages so far
  pub is_target-sent_below : (r : ℕ) → is_target m (run (items ++ sent_below r) ends) initiator entry r
      ≡ is_target m (run items ends) initiator entry r
  is_target-sent_below r = is_target-past m items (sent_below r) ends initiator entry r (sent_below-applied r) (sent_below-not_to r)

  pub sent_below-target : (r : ℕ) → is_target m (run items ends) initiator entry r ≡ true →
      sent_below (r + 1) ≡ sent_below r ++ interrupt_of removed entry r ∷ []
  sent_below-target r is = by_parts-more (row m (run items ends) initiator removed entry)
      (row-by_parts m (run items ends) initiator removed entry) r ∙ rw is refl

  pub sent_below-other : (r : ℕ) → is_target m (run items ends) initiator entry r ≡ false → sent_below (r + 1) ≡ sent_below r
  sent_below-other r is = by_parts-more (row m (run items ends) initiator removed entry)
      (row-by_parts m (run items ends) initiator removed entry) r ∙ rw is (append-nil (sent_below r))

  pub length-sent_below : (r k : ℕ) → r ≤ k → length (sent_below r) ≤ length (sent_below k)
  length-sent_below r k l = by_parts-length (row m (run items ends) initiator removed entry)
      (row-by_parts m (run items ends) initiator removed entry) r k l

module _ (before now : Chronicled) (ends : List Ended) (initiator : ℕ) (removed : Removed) (entry r : ℕ)
    (h : HasAdded before now (sent_below before.machine before.items ends initiator removed entry r)) where
  is_target-now : is_target now.machine (run now.items ends) initiator entry r
      ≡ is_target before.machine (run before.items ends) initiator entry r
  is_target-now = rw (h.machine, h.items) (is_target-sent_below before.machine before.items ends initiator removed entry r)

  pub HasRoom-target : is_target now.machine (run now.items ends) initiator entry r ≡ true → r < before.machine.nodes →
      HasRoom before (sent_below before.machine before.items ends initiator removed entry before.machine.nodes) →
      HasRoom now (interrupt_of removed entry r ∷ [])
  HasRoom-target is within room =
      let sent = sent_below before.machine before.items ends initiator removed entry in
      HasRoom-more before now (sent r) (interrupt_of removed entry r ∷ []) (sent (r + 1)) (sent before.machine.nodes) room h
      (sent_below-target before.machine before.items ends initiator removed entry r (sym is_target-now ∙ is))
      (length-sent_below before.machine before.items ends initiator removed entry (r + 1) before.machine.nodes (omega arith))

  pub HasAdded-target : (after : Chronicled) → is_target now.machine (run now.items ends) initiator entry r ≡ true →
      HasAdded now after (interrupt_of removed entry r ∷ []) →
      HasAdded before after (sent_below before.machine before.items ends initiator removed entry (r + 1))
  HasAdded-target after is k =
      let sent = sent_below before.machine before.items ends initiator removed entry in
      HasAdded-more before now after (sent r) (interrupt_of removed entry r ∷ []) (sent (r + 1)) h k
      (sent_below-target before.machine before.items ends initiator removed entry r (sym is_target-now ∙ is))

  pub HasAdded-other : is_target now.machine (run now.items ends) initiator entry r ≡ false →
      HasAdded before now (sent_below before.machine before.items ends initiator removed entry (r + 1))
  HasAdded-other is = rw (sent_below-other before.machine before.items ends initiator removed entry r (sym is_target-now ∙ is)) h

-- ---- the messages of an interrupt for several entries

-- it is not entry e
abbrev pub is_other : (e k : ℕ) → Bool
is_other e k = not (k == e)

other_entry : (e k : ℕ) → is_other e k ≡ true → k ≢ e
other_entry e k h = grind (arith, nat_tests)

module _ (m : Machine) (items : List Item) (ends : List Ended) (initiator : ℕ) (removed : Removed) where
  -- the messages for these entries
  abbrev pub sent_for : List ℕ → List Item
  sent_for es = flat_map (λ e. sent_below m items ends initiator removed e m.nodes) es

  sent_for-more : (es : List ℕ) (e : ℕ) → sent_for (es ++ e ∷ []) ≡ sent_for es ++ sent_below m items ends initiator removed e m.nodes
  sent_for-more es e =
      flat_map-append (λ e. sent_below m items ends initiator removed e m.nodes) es (e ∷ [])
      ∙ ap (λ ys. sent_for es ++ ys) (append-nil (sent_below m items ends initiator removed e m.nodes))

  module _ (es : List ℕ) (e : ℕ) (others : list_all (is_other e) es ≡ true) where
    sent_for-applied : all_applied (sent_for es) ≡ true
    sent_for-applied =
        block-all is_applied (λ k. sent_below m items ends initiator removed k m.nodes) (is_other e) es
        (λ k h. sent_below-applied m items ends initiator removed k m.nodes) others

    -- none of them is for entry e
    sent_for-not_for : (q : ℕ) → list_all (not_to q e) (sent_for es) ≡ true
    sent_for-not_for q =
        block-all (not_to q e) (λ k. sent_below m items ends initiator removed k m.nodes) (is_other e) es
        (λ k h. sent_below-not_for m items ends initiator removed k m.nodes q e (other_entry e k h)) others

    -- which processors are targets for entry e is asked of the history with the messages so far
    pub row-sent_for : row m (run (items ++ sent_for es) ends) initiator removed e (numbers m.nodes)
        ≡ sent_below m items ends initiator removed e m.nodes
    row-sent_for =
        ap (map (interrupt_of removed e))
        (filter_agree (is_target m (run (items ++ sent_for es) ends) initiator e) (is_target m (run items ends) initiator e)
        (λ r. is_target-past m items (sent_for es) ends initiator e r sent_for-applied (sent_for-not_for r)) (numbers m.nodes))

-- the messages for the first entries of a page, so many
abbrev pub sent_before : Machine → List Item → List Ended → (initiator page : ℕ) → Removed → (place : ℕ) → List Item
sent_before m items ends initiator page removed place = sent_for m items ends initiator removed (take place (entries_of_page m page))

pub interrupts-sent : (m : Machine) (items : List Item) (ends : List Ended) (initiator page : ℕ) (removed : Removed) →
    removes_some removed ≡ true → interrupts m (run items ends) initiator page removed
    ≡ sent_for m items ends initiator removed (entries_of_page m page)
interrupts-sent m items ends initiator page removed some = rw some refl

-- at a place among the page's entries, where the messages for those before it are sent
pub record IsAtEntry (before now : Chronicled) (ends : List Ended) (initiator page : ℕ) (removed : Removed) (place e : ℕ) : Type 0 where
  pub sent : HasAdded before now (sent_before before.machine before.items ends initiator page removed place)
  pub inside : place < length (entries_of_page before.machine page)
  pub stands : get_or (entries_of_page before.machine page) place 0 ≡ e

module _ {before now : Chronicled} {ends : List Ended} {initiator page : ℕ} {removed : Removed} {place e : ℕ}
    (here : IsAtEntry before now ends initiator page removed place e) where
  pub entry_at_within : e < length now.machine.entries
  entry_at_within =
      omega (
        arith,
        entries_of_page-below before.machine page place 0 here.inside,
        here.stands,
        ap (λ (m : Machine). length m.entries) here.sent.machine,
      )

  others : list_all (is_other e) (take place (entries_of_page before.machine page)) ≡ true
  others = rw here.stands at (entries_of_page-apart before.machine page place 0 here.inside)

  row-now : row now.machine (run now.items ends) initiator removed e (numbers now.machine.nodes)
      ≡ sent_below before.machine before.items ends initiator removed e before.machine.nodes
  row-now = rw (here.sent.machine, here.sent.items)
      (row-sent_for before.machine before.items ends initiator removed (take place (entries_of_page before.machine page)) e others)

  sent_before-now : sent_before before.machine before.items ends initiator page removed (place + 1)
      ≡ sent_before before.machine before.items ends initiator page removed place ++ row now.machine (run now.items ends) initiator
      removed e (numbers now.machine.nodes)
  sent_before-now =
      rw row-now
      (ap (sent_for before.machine before.items ends initiator removed)
      (take_more (entries_of_page before.machine page) place 0 here.inside
      ∙ ap (λ (k : ℕ). take place (entries_of_page before.machine page) ++ k ∷ []) here.stands)
      ∙ sent_for-more before.machine before.items ends initiator removed (take place (entries_of_page before.machine page)) e)

  sent_before-length : length (sent_before before.machine before.items ends initiator page removed (place + 1))
      ≤ length (sent_for before.machine before.items ends initiator removed (entries_of_page before.machine page))
  sent_before-length =
      let es = entries_of_page before.machine page in
      let sent = sent_for before.machine before.items ends initiator removed in
      let row = λ (e : ℕ). sent_below before.machine before.items ends initiator removed e before.machine.nodes in
      omega (
        arith,
        ap (λ xs. length (sent xs)) (take-append-drop (place + 1) es),
        ap length (flat_map-append row (take (place + 1) es) (drop (place + 1) es)),
        length-append (sent (take (place + 1) es)) (sent (drop (place + 1) es)),
      )

  pub HasRoom-page : removes_some removed ≡ true →
      HasRoom before (interrupts before.machine (run before.items ends) initiator page removed) →
      HasRoom now (row now.machine (run now.items ends) initiator removed e (numbers now.machine.nodes))
  HasRoom-page some room =
      let sent = sent_before before.machine before.items ends initiator page removed in
      HasRoom-more before now (sent place) (row now.machine (run now.items ends) initiator removed e (numbers now.machine.nodes))
      (sent (place + 1)) (sent_for before.machine before.items ends initiator removed (entries_of_page before.machine page))
      (rw (interrupts-sent before.machine before.items ends initiator page removed some) at room) here.sent sent_before-now
      sent_before-length

  pub HasAdded-page : {after : Chronicled} →
      HasAdded now after (row now.machine (run now.items ends) initiator removed e (numbers now.machine.nodes)) →
      HasAdded before after (sent_before before.machine before.items ends initiator page removed (place + 1))
  HasAdded-page {after} more =
      let sent = sent_before before.machine before.items ends initiator page removed in
      HasAdded-more before now after (sent place) (row now.machine (run now.items ends) initiator removed e (numbers now.machine.nodes))
      (sent (place + 1)) here.sent more sent_before-now

-- ---- the messages that wait for a switch

activation-not_to : (q e k : ℕ) (msg : Option Message) (i : Item) → k ≢ e → option_map (activation_of q k) msg ≡ Some i →
    not_to q e i ≡ true
activation-not_to q e k None i other is = absurd cc
activation-not_to q e k (Some msg) i other is =
    let sent : activation_of q k msg ≡ i = cc in
    subst (λ (i : Item). not_to q e i ≡ true) sent (rw (ne_eqb k e other) (grind (arith, nat_tests)))

module _ (m : Machine) (items : List Item) (q space : ℕ) where
  -- the switch, and the messages for these entries
  abbrev pub told_for : List ℕ → List Item
  told_for es = item.Switch (record { actor = q; space = space }) ∷ filter_map (activation m items q) es

  -- what is owed for another entry is asked of the history with the switch and the messages so far
  owed-told_for : (es : List ℕ) (e : ℕ) → list_all (is_other e) es ≡ true → owed m (items ++ told_for es) q e ≡ owed m items q e
  owed-told_for es e others =
      owed-past m items (told_for es) q e
      (waiting-all (not_to q e) (activation m items q) (is_other e) es
      (λ k i h is. activation-not_to q e k (owed m items q k) i (other_entry e k h) is) others)

  told_for-more : (es : List ℕ) (e : ℕ) → told_for (es ++ e ∷ []) ≡ told_for es ++ filter_map (activation m items q) (e ∷ [])
  told_for-more es e =
      ap (λ ys. item.Switch (record { actor = q; space = space }) ∷ ys) (filter_map-append (activation m items q) es (e ∷ []))

  -- the switch, and the messages for the first entries of the space, so many
  abbrev pub told_before : (place : ℕ) → List Item
  told_before place = told_for (take place (entries_of_space m space))

-- at a place among the space's entries, where the switch and the messages for those before it are told
pub record IsAtPlace (before now : Chronicled) (q space place e : ℕ) : Type 0 where
  pub told : HasAdded before now (told_before before.machine before.items q space place)
  pub inside : place < length (entries_of_space before.machine space)
  pub stands : get_or (entries_of_space before.machine space) place 0 ≡ e

module _ {before now : Chronicled} {q space place e : ℕ} (here : IsAtPlace before now q space place e) where
  pub entry_within : e < length now.machine.entries
  entry_within =
      omega (
        arith,
        entries_of_space-below before.machine space place 0 here.inside,
        here.stands,
        ap (λ (m : Machine). length m.entries) here.told.machine,
      )

  owed-now : owed now.machine now.items q e ≡ owed before.machine before.items q e
  owed-now = rw (here.told.machine, here.told.items)
      (owed-told_for before.machine before.items q space (take place (entries_of_space before.machine space)) e
      (rw here.stands at (entries_of_space-apart before.machine space place 0 here.inside)))

  told_before-more : told_before before.machine before.items q space (place + 1)
      ≡ told_before before.machine before.items q space place ++ filter_map (activation before.machine before.items q) (e ∷ [])
  told_before-more =
      ap (told_for before.machine before.items q space)
      (take_more (entries_of_space before.machine space) place 0 here.inside
      ∙ ap (λ (k : ℕ). take place (entries_of_space before.machine space) ++ k ∷ []) here.stands)
      ∙ told_for-more before.machine before.items q space (take place (entries_of_space before.machine space)) e

  told_before-owed : (msg : Message) → owed now.machine now.items q e ≡ Some msg →
      told_before before.machine before.items q space (place + 1)
      ≡ told_before before.machine before.items q space place ++ activation_of q e msg ∷ []
  told_before-owed msg owes = told_before-more ∙ rw (sym owed-now ∙ owes) refl

  told_before-none : owed now.machine now.items q e ≡ None → told_before before.machine before.items q space (place + 1)
      ≡ told_before before.machine before.items q space place
  told_before-none owes =
      told_before-more ∙ rw (sym owed-now ∙ owes) (append-nil (told_before before.machine before.items q space place))

  told_before-length : length (told_before before.machine before.items q space (place + 1))
      ≤ length (told_for before.machine before.items q space (entries_of_space before.machine space))
  told_before-length =
      let es = entries_of_space before.machine space in
      let waiting = filter_map (activation before.machine before.items q) in
      omega (
        arith,
        ap (λ xs. length (waiting xs)) (take-append-drop (place + 1) es),
        ap length (filter_map-append (activation before.machine before.items q) (take (place + 1) es) (drop (place + 1) es)),
        length-append (waiting (take (place + 1) es)) (waiting (drop (place + 1) es)),
      )

  pub HasRoom-owed : {msg : Message} → owed now.machine now.items q e ≡ Some msg →
      HasRoom before (switch_items before.machine before.items q space) → HasRoom now (activation_of q e msg ∷ [])
  HasRoom-owed {msg} owes room =
      let told = told_before before.machine before.items q space in
      HasRoom-more before now (told place) (activation_of q e msg ∷ []) (told (place + 1))
      (switch_items before.machine before.items q space) room here.told (told_before-owed msg owes) told_before-length

  pub HasAdded-owed : {after : Chronicled} {msg : Message} → owed now.machine now.items q e ≡ Some msg →
      HasAdded now after (activation_of q e msg ∷ []) → HasAdded before after (told_before before.machine before.items q space (place + 1))
  HasAdded-owed {after} {msg} owes sent =
      let told = told_before before.machine before.items q space in
      HasAdded-more before now after (told place) (activation_of q e msg ∷ []) (told (place + 1)) here.told sent (told_before-owed msg owes)

  pub HasAdded-none_owed : owed now.machine now.items q e ≡ None →
      HasAdded before now (told_before before.machine before.items q space (place + 1))
  HasAdded-none_owed owes = rw (told_before-none owes) here.told
