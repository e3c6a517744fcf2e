-- the ends of a guest, items that are none of a processor's, and when nothing is bad
use Rattle.std.proofs.Common.{◌≡◌, ℕ, zero, suc, ◌+◌, ◌<◌, ◌≤◌, Bool, true, false, List, [], ◌∷◌, ◌++◌, length, Option, Some, None, refl}
use Rattle.std.proofs.Common.{arith, add-one, if◌then◌else◌}
use Rattle.std.specs.Prelude.{◌==◌, ◌&&◌, ◌||◌, not, nat_lt, ◌/◌}
use Rattle.std.specs.List.{fold, filter_map, cons_option, list_any, find}
use Rattle.std.proofs.lemmas.List.Sums.{fold-append}
use Rattle.std.proofs.lemmas.Bool.Decides.{nat_tests}
use Rattle.std.proofs.lemmas.Bool.{and_from, or_left, or_parts}
use Rattle.plat_base.specs.Verdicts.{Answer}
use Rattle.plat_base.specs.Machine.{Machine}
use Rattle.plat_base.specs.Pages.{entry_at, numbers}
use Rattle.plat_base.specs.GuestRun.{GuestRun, Outcome, GoesOn, HasHalted, HasTrapped, want_of, guest_run}
use Rattle.plat_base.specs.Done.{Accessed, Switched, value_of, values_of, done_of, operations_of}
use Rattle.plat_base.specs.Held.{active, active_after, has_right, held_through}
use Rattle.plat_base.specs.Ends.{ended_of, is_live}
use Rattle.plat_base.specs.Alike.{same_end}
use Rattle.plat_base.specs.Rules.{stands, has_made, same_outcome, wants_right, wants_operation, is_end, is_in_order, bad_at, bad_or}
use Rattle.plat_base.specs.Rules.{bad_rule, bad_after, bad_ends, first_bad}
use Rattle.plat_base.specs.declared.endings.End.{End}
use Rattle.plat_base.specs.declared.endings.End.TheVariants as end
use Rattle.plat_base.specs.declared.endings.Ended.{Ended}
use Rattle.plat_base.specs.declared.statuses.Rule.{Rule}
use Rattle.plat_base.specs.declared.statuses.Bad.{Bad}
use Rattle.plat_base.specs.declared.guests.Want.TheVariants as want
use Rattle.plat_base.specs.declared.items.Item.{Item}
use Rattle.plat_base.specs.declared.items.Item.TheVariants as item
use Rattle.plat_base.specs.declared.items.Kind.{Kind}
use Rattle.plat_laws.specs.Guests.{IsGuest}
use Rattle.plat_laws.proofs.Limits.{and-left, and-right}
use Rattle.plat_laws.proofs.GuestLaws.{fewer_turns, guest_run-next_same, IsGuest-not_mine}
use Rattle.plat_laws.proofs.ItemLaws.{bad_after-append}
use Rattle.plat_base.proofs.ListLemmas.{find-range_none}

-- ---- how a run stands

same_outcome-itself : (o : Outcome) → same_outcome o o ≡ true
same_outcome-itself GoesOn = refl
same_outcome-itself HasHalted = refl
same_outcome-itself HasTrapped = refl

stands-as : (r : GuestRun) (t : ℕ) (o : Outcome) → r.turns ≡ t → r.outcome ≡ o → stands r t o ≡ true
stands-as r t o e f = rw (f, same_outcome-itself) (grind (arith, nat_tests))

stands-made :
    (items : List Item) (q : ℕ) (r : GuestRun) (t : ℕ) (o : Outcome) → r.turns ≡ t → r.outcome ≡ o → has_made items q r ≡ true
    → (stands r t o && has_made items q r) ≡ true
stands-made items q r t o e f h = and_from (stands r t o) (has_made items q r) (stands-as r t o e f) h

-- ---- the ends of a guest

pub is_end-halted :
    (m : Machine) (items : List Item) (t q : ℕ) → IsGuest m items t q
    → want_of m q (guest_run m q (values_of q items) t).state ≡ want.Halted → is_end m items q end.Halted (t + 1) ≡ true
is_end-halted m items t q g w =
    let n = guest_run-next_same m q (values_of q items) t want.Halted g.goes w in
    let r = guest_run m q (values_of q items) (suc t)
    in rw add-one (stands-made items q r (suc t) HasHalted (rw n (omega arith)) (rw n) (rw n g.done))

pub is_end-trapped :
    (m : Machine) (items : List Item) (t q : ℕ) → IsGuest m items t q
    → want_of m q (guest_run m q (values_of q items) t).state ≡ want.Trap → is_end m items q end.Trapped (t + 1) ≡ true
is_end-trapped m items t q g w =
    let n = guest_run-next_same m q (values_of q items) t want.Trap g.goes w in
    let r = guest_run m q (values_of q items) (suc t)
    in rw add-one (stands-made items q r (suc t) HasTrapped (rw n (omega arith)) (rw n) (rw n g.done))

pub is_end-spent : (m : Machine) (items : List Item) (t q : ℕ) → IsGuest m items t q → t ≡ m.budget → is_end m items q end.Spent t ≡ true
is_end-spent m items t q g b =
    let r = guest_run m q (values_of q items) t in
    let spent : (t == m.budget) ≡ true = grind (arith, nat_tests) in
    let one = and_from (t == m.budget) (stands r t GoesOn) spent (stands-as r t GoesOn g.made g.goes)
    in and_from (t == m.budget && stands r t GoesOn) (has_made items q r) one g.done

pub is_end-cut : (m : Machine) (items : List Item) (t q : ℕ) → IsGuest m items t q → is_end m items q end.Cut t ≡ true
is_end-cut m items zero q g = g.done
is_end-cut m items (suc t) q g =
    let before = guest_run m q (values_of q items) t in
    let whole = guest_run m q (values_of q items) (suc t) in
    let e = fewer_turns m q (values_of q items) t g.made in
    let made = or_left (has_made items q whole) (wants_operation (want_of m q before.state) && has_made items q before) g.done
    in and_from (stands before t GoesOn) (has_made items q whole || (wants_operation (want_of m q before.state) && has_made items q before))
    (stands-as before t GoesOn e.0 e.1) made

pub is_end-no_frames :
    (m : Machine) (items : List Item) (t q : ℕ) (k : Kind) (sp a o : ℕ) → IsGuest m items t q
    → want_of m q (guest_run m q (values_of q items) t).state ≡ want.Access k sp a o
    → has_right k (held_through m items q (entry_at m sp (a / m.words))) ≡ false → m.frames < m.pages
    → is_end m items q end.NoFrames (t + 1) ≡ true
is_end-no_frames m items t q k sp a o g w h f =
    let r = guest_run m q (values_of q items) t in
    let few : nat_lt m.frames m.pages ≡ true = grind (arith, nat_tests) in
    let wants : wants_right m items q (want_of m q r.state) ≡ true = rw (w, h)
    in rw add-one (rw (few, stands-as r t GoesOn g.made g.goes, g.done, wants))

-- a processor's turns and end are in order
pub is_in_order-from :
    (m : Machine) (items : List Item) (ends : List Ended) (q : ℕ) → (ended_of ends q).turns ≤ m.budget
    → is_end m items q (ended_of ends q).end (ended_of ends q).turns ≡ true → is_in_order m items ends q ≡ true
is_in_order-from m items ends q l h = rw h (grind (arith, nat_tests))

-- ---- a live processor

same_end-cut : (e : End) → same_end e end.Cut ≡ true → e ≡ end.Cut
same_end-cut end.Halted h = absurd cc
same_end-cut end.Trapped h = absurd cc
same_end-cut end.Spent h = absurd cc
same_end-cut end.NoFrames h = absurd cc
same_end-cut end.Cut h = refl

pub is_live-below : (ends : List Ended) (q : ℕ) → is_live ends q ≡ true → q < length ends
is_live-below ends q h = let l = and-left (nat_lt q (length ends)) _ h in grind (arith, nat_tests)

pub is_live-cut : (ends : List Ended) (q : ℕ) → is_live ends q ≡ true → (ended_of ends q).end ≡ end.Cut
is_live-cut ends q h = same_end-cut (ended_of ends q).end (and-right (nat_lt q (length ends)) _ h)

pub is_in_order-live :
    (m : Machine) (items : List Item) (ends : List Ended) (q : ℕ) → is_live ends q ≡ true → (ended_of ends q).turns ≤ m.budget
    → IsGuest m items (ended_of ends q).turns q → is_in_order m items ends q ≡ true
is_in_order-live m items ends q h l g =
    is_in_order-from m items ends q l (rw (is_live-cut ends q h) (is_end-cut m items (ended_of ends q).turns q g))

-- ---- items of other actors

-- an item of processor q
abbrev pub is_by : ℕ → Item → Bool
is_by q (item.Access a) = a.actor == q
is_by q (item.Change c) = c.actor == q
is_by q (item.Applied x) = x.actor == q
is_by q (item.Switch s) = s.actor == q

filter_map-passed_over :
    {A B : Type 0} (f : A → Option B) (p : A → Bool) (xs : List A) → ((x : A) → p x ≡ false → f x ≡ None) → list_any p xs ≡ false
    → filter_map f xs ≡ []
filter_map-passed_over f p [] k h = refl
filter_map-passed_over f p (x ∷ xs) k h =
    let e = or_parts (p x) (list_any p xs) h in rw (k x e.0) (filter_map-passed_over f p xs k e.1)

value_of-not_by : (q : ℕ) (i : Item) → is_by q i ≡ false → value_of q i ≡ None
value_of-not_by q (item.Access a) h = rw h
value_of-not_by q (item.Change c) h = refl
value_of-not_by q (item.Applied x) h = refl
value_of-not_by q (item.Switch s) h = refl

done_of-not_by : (q : ℕ) (i : Item) → is_by q i ≡ false → done_of q i ≡ None
done_of-not_by q (item.Access a) h = rw h
done_of-not_by q (item.Change c) h = refl
done_of-not_by q (item.Applied x) h = refl
done_of-not_by q (item.Switch s) h = rw h

pub values_of-not_by : (q : ℕ) (more : List Item) → list_any (is_by q) more ≡ false → values_of q more ≡ []
values_of-not_by q more h = filter_map-passed_over (value_of q) (is_by q) more (value_of-not_by q) h

pub operations_of-not_by : (q : ℕ) (more : List Item) → list_any (is_by q) more ≡ false → operations_of q more ≡ []
operations_of-not_by q more h = filter_map-passed_over (done_of q) (is_by q) more (done_of-not_by q) h

-- ---- items that are no operations

cons_option-none : {A : Type 0} (x : Option A) (xs : List A) → cons_option x xs ≡ [] → (x ≡ None) × (xs ≡ [])
cons_option-none None xs h = (refl, h)
cons_option-none (Some x) xs h = absurd cc

filter_map-none_too :
    {A B C : Type 0} (f : A → Option B) (g : A → Option C) (xs : List A) → ((x : A) → f x ≡ None → g x ≡ None) → filter_map f xs ≡ []
    → filter_map g xs ≡ []
filter_map-none_too f g [] k h = refl
filter_map-none_too f g (x ∷ xs) k h =
    let e = cons_option-none (f x) (filter_map f xs) h in rw (k x e.0) (filter_map-none_too f g xs k e.1)

fold-none_too :
    {A B C : Type 0} (f : A → Option B) (g : C → A → C) (c : C) (xs : List A) → ((d : C) (x : A) → f x ≡ None → g d x ≡ d)
    → filter_map f xs ≡ [] → fold g c xs ≡ c
fold-none_too f g c [] k h = refl
fold-none_too f g c (x ∷ xs) k h =
    let e = cons_option-none (f x) (filter_map f xs) h in rw (k c x e.0) (fold-none_too f g c xs k e.1)

if-none : {A : Type 0} (b : Bool) (x : A) → (if b then Some x else None) ≡ None → b ≡ false
if-none true x h = absurd cc
if-none false x h = refl

value_of-no_operation : (q : ℕ) (i : Item) → done_of q i ≡ None → value_of q i ≡ None
value_of-no_operation q (item.Access a) h = rw (if-none (a.actor == q) (Accessed a) h)
value_of-no_operation q (item.Change c) h = refl
value_of-no_operation q (item.Applied x) h = refl
value_of-no_operation q (item.Switch s) h = refl

active_after-no_operation : (q space : ℕ) (i : Item) → done_of q i ≡ None → active_after q space i ≡ space
active_after-no_operation q space (item.Access a) h = refl
active_after-no_operation q space (item.Change c) h = refl
active_after-no_operation q space (item.Applied x) h = refl
active_after-no_operation q space (item.Switch s) h = rw (if-none (s.actor == q) (Switched s.space) h)

pub values_of-no_operations : (q : ℕ) (more : List Item) → operations_of q more ≡ [] → values_of q more ≡ []
values_of-no_operations q more h = filter_map-none_too (done_of q) (value_of q) more (value_of-no_operation q) h

pub active-no_operations :
    (m : Machine) (items more : List Item) (q : ℕ) → operations_of q more ≡ [] → active m (items ++ more) q ≡ active m items q
active-no_operations m items more q h =
    rw fold-append (fold-none_too (done_of q) (active_after q) (active m items q) more (active_after-no_operation q) h)

-- the one premise that the others follow from
pub IsGuest-no_operations :
    (m : Machine) (items more : List Item) (t q : ℕ) → IsGuest m items t q → operations_of q more ≡ [] → IsGuest m (items ++ more) t q
IsGuest-no_operations m items more t q g h =
    IsGuest-not_mine m items more t q g (values_of-no_operations q more h) h (active-no_operations m items more q h)

-- ---- the first bad item

bad_or-bad_at :
    (n : ℕ) (r : Option Rule) (a b : Option Bad) → bad_at n r (bad_or a b) ≡ bad_or (bad_at n r a) b
bad_or-bad_at n None a b = refl
bad_or-bad_at n (Some r) a b = refl

-- items none of which is bad, behind items none of which is bad
pub bad_after-more :
    (m : Machine) (answer : Answer) (before : List Item) (n : ℕ) (xs ys : List Item)
    → bad_after m answer before n xs ≡ None → bad_after m answer (before ++ xs) (n + length xs) ys ≡ None
    → bad_after m answer before n (xs ++ ys) ≡ None
bad_after-more m answer before n xs ys h k = rw (bad_after-append, h, k)

pub bad_after-one :
    (m : Machine) (answer : Answer) (before : List Item) (n : ℕ) (i : Item)
    → bad_rule m answer before i ≡ None → bad_after m answer before n (i ∷ []) ≡ None
bad_after-one m answer before n i h = rw h

-- ---- the ends of all

pub bad_ends-none :
    (m : Machine) (items : List Item) (ends : List Ended) → length ends ≡ m.nodes
    → ((q : ℕ) → q < m.nodes → is_in_order m items ends q ≡ true) → bad_ends m items ends ≡ None
bad_ends-none m items ends c h =
    let none : find (λ q. not (is_in_order m items ends q)) (numbers m.nodes) ≡ None =
    find-range_none (λ q. not (is_in_order m items ends q)) 0 m.nodes (λ q low l. rw (h q (omega arith))) in
    let count : (length ends == m.nodes) ≡ true = grind (arith, nat_tests)
    in rw (count, none)

-- items none of which is bad and ends that are in order are good
pub first_bad-none :
    (m : Machine) (answer : Answer) (items : List Item) (ends : List Ended)
    → bad_after m answer [] 0 items ≡ None → length ends ≡ m.nodes
    → ((q : ℕ) → q < m.nodes → is_in_order m items ends q ≡ true) → first_bad m answer items ends ≡ None
unfolding first_bad
first_bad-none m answer items ends b c h = rw (b, bad_ends-none m items ends c h)
