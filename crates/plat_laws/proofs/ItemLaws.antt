-- what each item of a history leaves alone, and what it changes: of an append, of applied messages, and of one more item
use Rattle.std.specs.Prelude.{◌≡◌, ◌≢◌, ℕ, zero, suc, ◌+◌, ◌/◌, ◌==◌, nat_lt, nat_le, ◌&&◌, ◌||◌, not, if◌then◌else◌, Bool, true, false}
use Rattle.std.specs.Prelude.{List, [], ◌∷◌, ◌++◌, ◌⊎◌, length, filter, Option, Some, None, is_none}
use Rattle.std.proofs.Common.{refl, ap, sym, ◌∙◌, inl, inr, arith}
use Rattle.std.specs.List.{fold, list_any, list_all, filter_map, cons_option}
use Rattle.std.proofs.lemmas.Bool.{and_parts, or_parts, not-true, eq-eqb, ne_eqb, cond-true, cond-false, cases_Bool}
use Rattle.std.proofs.lemmas.Grind.{fold-append}
use Rattle.std.proofs.lemmas.List.{append_assoc, append-nil}
use Rattle.std.proofs.lemmas.List.Folds.{list_any-append}
use Rattle.std.proofs.lemmas.List.Elements.{filter_map-append}
use Rattle.plat_base.specs.Verdicts.{Answer}
use Rattle.plat_base.specs.Machine.{Machine}
use Rattle.plat_base.specs.Pages.{entry_at, page_of, program_of, initial_value}
use Rattle.plat_base.specs.Flat.{writes_word, written, flat_value, flat_writes}
use Rattle.plat_base.specs.Directories.{change_on, empty_dir, dir_after, dir_of, seq_after, seq_of, last_after, last_of}
use Rattle.plat_base.specs.Held.{kept_of, granted_to, held_after, held, active_after, active, has_right, is_later_change, later}
use Rattle.plat_base.specs.Held.{held_through}
use Rattle.plat_base.specs.Done.{value_of, values_of, reads_word, Done, Accessed, done_of, operations_of, are_done}
use Rattle.plat_base.specs.GuestRun.{guest_run, want_of, GoesOn, HasHalted, HasTrapped}
use Rattle.plat_base.specs.Ends.{ended_of}
use Rattle.plat_base.specs.Messages.{is_owed_for, by_other}
use Rattle.plat_base.specs.Rules.{wants_right, wants_operation, stands, is_end, is_in_order, bad_rule, bad_at, bad_or, bad_after}
use Rattle.plat_base.specs.declared.items.Removed.{Removed}
use Rattle.plat_base.specs.declared.items.Translation.{Translation}
use Rattle.plat_base.specs.declared.items.Access.{Access}
use Rattle.plat_base.specs.declared.items.Change.{Change}
use Rattle.plat_base.specs.declared.items.Switch.{Switch}
use Rattle.plat_base.specs.declared.items.Item.{Item}
use Rattle.plat_base.specs.declared.items.Item.TheVariants as item
use Rattle.plat_base.specs.declared.endings.End.{End}
use Rattle.plat_base.specs.declared.endings.End.TheVariants as end
use Rattle.plat_base.specs.declared.endings.Ended.{Ended}
use Rattle.plat_base.specs.declared.guests.Want.{Want}
use Rattle.plat_base.specs.declared.statuses.Rule.{Rule}
use Rattle.plat_base.specs.declared.statuses.Bad.{Bad}
use Rattle.plat_base.specs.declared.guests.Want.TheVariants as want
use Rattle.plat_base.proofs.ListLemmas.{list_any-push}

-- ---- lists

pub or-false : (b : Bool) → (b || false) ≡ b
or-false true = refl
or-false false = refl

-- a fold over items that each leave it as it is
pub fold-still : {A B : Type 0} (f : B → A → B) (p : A → Bool) → ((b : B) (x : A) → p x ≡ true → f b x ≡ b) → (z : B) (xs : List A) →
    list_all p xs ≡ true → fold f z xs ≡ z
fold-still f p h z [] k = refl
fold-still f p h z (x ∷ xs) k =
    let t = and_parts (p x) (list_all p xs) k in fold-still f p h (f z x) xs t.1 ∙ h z x t.0

pub fold-append_still : {A B : Type 0} (f : B → A → B) (p : A → Bool) → ((b : B) (x : A) → p x ≡ true → f b x ≡ b) →
    (z : B) (xs ys : List A) → list_all p ys ≡ true → fold f z (xs ++ ys) ≡ fold f z xs
fold-append_still f p h z xs ys k = fold-append f z xs ys ∙ fold-still f p h (fold f z xs) ys k

-- items that leave it as they are may be left out
pub fold-filter :
    {A B : Type 0} (f : B → A → B) (p : A → Bool) → ((b : B) (x : A) → p x ≡ false → f b x ≡ b) → (b : B) (xs : List A)
    → fold f b (filter p xs) ≡ fold f b xs
fold-filter f p idle b [] = refl
fold-filter f p idle b (x ∷ xs) = by (cases_Bool (p x)) (fold-filter f p idle (f b x) xs) (fold-filter f p idle b xs)
  where
    by :
        (p x ≡ true) ⊎ (p x ≡ false) → fold f (f b x) (filter p xs) ≡ fold f (f b x) xs → fold f b (filter p xs) ≡ fold f b xs
        → fold f b (filter p (x ∷ xs)) ≡ fold f b (x ∷ xs)
    by (inl here) more rest = rw here more
    by (inr none) more rest = rw (none, idle b x none) rest

pub list_any-still : {A : Type 0} (f p : A → Bool) → ((x : A) → p x ≡ true → f x ≡ false) → (xs : List A) → list_all p xs ≡ true →
    list_any f xs ≡ false
list_any-still f p h [] k = refl
list_any-still f p h (x ∷ xs) k =
    let t = and_parts (p x) (list_all p xs) k in rw (h x t.0) (list_any-still f p h xs t.1)

pub filter_map-still : {A B : Type 0} (f : A → Option B) (p : A → Bool) → ((x : A) → p x ≡ true → f x ≡ None) → (xs : List A) →
    list_all p xs ≡ true → filter_map f xs ≡ []
filter_map-still f p h [] k = refl
filter_map-still f p h (x ∷ xs) k =
    let t = and_parts (p x) (list_all p xs) k in rw (h x t.0) (filter_map-still f p h xs t.1)

pub list_any-append_still : {A : Type 0} (f p : A → Bool) → ((x : A) → p x ≡ true → f x ≡ false) → (xs ys : List A) → list_all p ys ≡ true →
    list_any f (xs ++ ys) ≡ list_any f xs
list_any-append_still f p h xs ys k = rw (list_any-append f xs ys, list_any-still f p h ys k) (or-false (list_any f xs))

pub filter_map-append_still : {A B : Type 0} (f : A → Option B) (p : A → Bool) → ((x : A) → p x ≡ true → f x ≡ None) → (xs ys : List A) →
    list_all p ys ≡ true → filter_map f (xs ++ ys) ≡ filter_map f xs
filter_map-append_still f p h xs ys k = rw (filter_map-append f xs ys, filter_map-still f p h ys k) (append-nil (filter_map f xs))

-- the same where no item passes a test

all_not : {A : Type 0} (p : A → Bool) (xs : List A) → list_any p xs ≡ false → list_all (λ x. not (p x)) xs ≡ true
all_not p [] k = refl
all_not p (x ∷ xs) k = let t = or_parts (p x) (list_any p xs) k in rw (t.0, all_not p xs t.1) refl

pub fold-append_untouched : {A B : Type 0} (f : B → A → B) (p : A → Bool) → ((b : B) (x : A) → p x ≡ false → f b x ≡ b) →
    (z : B) (xs ys : List A) → list_any p ys ≡ false → fold f z (xs ++ ys) ≡ fold f z xs
fold-append_untouched f p h z xs ys k =
    fold-append_still f (λ x. not (p x)) (λ b x n. h b x (not-true (p x) n)) z xs ys (all_not p ys k)

pub filter_map-append_untouched : {A B : Type 0} (f : A → Option B) (p : A → Bool) → ((x : A) → p x ≡ false → f x ≡ None) →
    (xs ys : List A) → list_any p ys ≡ false → filter_map f (xs ++ ys) ≡ filter_map f xs
filter_map-append_untouched f p h xs ys k =
    filter_map-append_still f (λ x. not (p x)) (λ x n. h x (not-true (p x) n)) xs ys (all_not p ys k)

-- ---- numbers

pub same_number : {A : Type 0} (n : ℕ) (x y : A) → (if n == n then x else y) ≡ x
same_number n x y = cond-true (n == n) x y (eq-eqb n n refl)

pub other_number : {A : Type 0} (n k : ℕ) (x y : A) → n ≢ k → (if n == k then x else y) ≡ y
other_number n k x y h = cond-false (n == k) x y (ne_eqb n k h)

-- ---- an append: each fold goes on, each test is an or

pub dir_of-append : (xs ys : List Item) (page : ℕ) →
    dir_of (xs ++ ys) page ≡ fold (λ d i. dir_after d (change_on page i)) (dir_of xs page) ys
dir_of-append xs ys page = fold-append (λ d i. dir_after d (change_on page i)) empty_dir xs ys

pub seq_of-append : (xs ys : List Item) (page : ℕ) →
    seq_of (xs ++ ys) page ≡ fold (λ n i. seq_after n (change_on page i)) (seq_of xs page) ys
seq_of-append xs ys page = fold-append (λ n i. seq_after n (change_on page i)) 0 xs ys

pub last_of-append : (xs ys : List Item) (page : ℕ) →
    last_of (xs ++ ys) page ≡ fold (λ last i. last_after last (change_on page i)) (last_of xs page) ys
last_of-append xs ys page = fold-append (λ last i. last_after last (change_on page i)) None xs ys

pub held-append : (m : Machine) (xs ys : List Item) (q entry : ℕ) →
    held m (xs ++ ys) q entry ≡ fold (held_after m q entry) (held m xs q entry) ys
held-append m xs ys q entry = fold-append (held_after m q entry) None xs ys

pub active-append : (m : Machine) (xs ys : List Item) (q : ℕ) → active m (xs ++ ys) q ≡ fold (active_after q) (active m xs q) ys
active-append m xs ys q = fold-append (active_after q) (program_of m q).space xs ys

pub flat_value-append : (m : Machine) (xs ys : List Item) (page word : ℕ) → flat_value m (xs ++ ys) page word
    ≡ fold (λ v i. if writes_word page word i then written i else v) (flat_value m xs page word) ys
flat_value-append m xs ys page word = fold-append (λ v i. if writes_word page word i then written i else v) (initial_value m page word) xs
    ys

pub flat_writes-append : (xs ys : List Item) (page word : ℕ) →
    flat_writes (xs ++ ys) page word ≡ fold (λ n i. if writes_word page word i then n + 1 else n) (flat_writes xs page word) ys
flat_writes-append xs ys page word = fold-append (λ n i. if writes_word page word i then n + 1 else n) 0 xs ys

pub values_of-append : (q : ℕ) (xs ys : List Item) → values_of q (xs ++ ys) ≡ values_of q xs ++ values_of q ys
values_of-append q xs ys = filter_map-append (value_of q) xs ys

pub operations_of-append : (q : ℕ) (xs ys : List Item) → operations_of q (xs ++ ys) ≡ operations_of q xs ++ operations_of q ys
operations_of-append q xs ys = filter_map-append (done_of q) xs ys

-- ---- applied messages: they change what is held, and nothing else

abbrev pub is_applied : Item → Bool
is_applied (item.Access a) = false
is_applied (item.Change c) = false
is_applied (item.Applied x) = true
is_applied (item.Switch s) = false

abbrev pub all_applied : List Item → Bool
all_applied xs = list_all is_applied xs

no_change : (page : ℕ) (i : Item) → is_applied i ≡ true → change_on page i ≡ None
no_change page (item.Access a) h = absurd cc
no_change page (item.Change c) h = absurd cc
no_change page (item.Applied x) h = refl
no_change page (item.Switch s) h = absurd cc

no_write : (page word : ℕ) (i : Item) → is_applied i ≡ true → writes_word page word i ≡ false
no_write page word (item.Access a) h = absurd cc
no_write page word (item.Change c) h = absurd cc
no_write page word (item.Applied x) h = refl
no_write page word (item.Switch s) h = absurd cc

no_switch : (q space : ℕ) (i : Item) → is_applied i ≡ true → active_after q space i ≡ space
no_switch q space (item.Access a) h = absurd cc
no_switch q space (item.Change c) h = absurd cc
no_switch q space (item.Applied x) h = refl
no_switch q space (item.Switch s) h = absurd cc

no_later : (test : Removed → Bool) (page seq : ℕ) (i : Item) → is_applied i ≡ true → is_later_change test page seq i ≡ false
no_later test page seq (item.Access a) h = absurd cc
no_later test page seq (item.Change c) h = absurd cc
no_later test page seq (item.Applied x) h = refl
no_later test page seq (item.Switch s) h = absurd cc

no_other : (test : Removed → Bool) (q page seq : ℕ) (i : Item) → is_applied i ≡ true → is_owed_for test q page seq i ≡ false
no_other test q page seq (item.Access a) h = absurd cc
no_other test q page seq (item.Change c) h = absurd cc
no_other test q page seq (item.Applied x) h = refl
no_other test q page seq (item.Switch s) h = absurd cc

no_value : (q : ℕ) (i : Item) → is_applied i ≡ true → value_of q i ≡ None
no_value q (item.Access a) h = absurd cc
no_value q (item.Change c) h = absurd cc
no_value q (item.Applied x) h = refl
no_value q (item.Switch s) h = absurd cc

no_operation : (q : ℕ) (i : Item) → is_applied i ≡ true → done_of q i ≡ None
no_operation q (item.Access a) h = absurd cc
no_operation q (item.Change c) h = absurd cc
no_operation q (item.Applied x) h = refl
no_operation q (item.Switch s) h = absurd cc

pub dir_of-applied : (xs ys : List Item) (page : ℕ) → all_applied ys ≡ true → dir_of (xs ++ ys) page ≡ dir_of xs page
dir_of-applied xs ys page h =
    fold-append_still (λ d i. dir_after d (change_on page i)) is_applied (λ d i k. ap (dir_after d) (no_change page i k)) empty_dir xs ys h

pub seq_of-applied : (xs ys : List Item) (page : ℕ) → all_applied ys ≡ true → seq_of (xs ++ ys) page ≡ seq_of xs page
seq_of-applied xs ys page h =
    fold-append_still (λ n i. seq_after n (change_on page i)) is_applied (λ n i k. ap (seq_after n) (no_change page i k)) 0 xs ys h

pub last_of-applied : (xs ys : List Item) (page : ℕ) → all_applied ys ≡ true → last_of (xs ++ ys) page ≡ last_of xs page
last_of-applied xs ys page h =
    fold-append_still (λ last i. last_after last (change_on page i)) is_applied (λ last i k. ap (last_after last) (no_change page i k)) None
    xs ys h

pub active-applied : (m : Machine) (xs ys : List Item) (q : ℕ) → all_applied ys ≡ true → active m (xs ++ ys) q ≡ active m xs q
active-applied m xs ys q h = fold-append_still (active_after q) is_applied (no_switch q) (program_of m q).space xs ys h

pub flat_value-applied : (m : Machine) (xs ys : List Item) (page word : ℕ) → all_applied ys ≡ true → flat_value m (xs ++ ys) page word
    ≡ flat_value m xs page word
flat_value-applied m xs ys page word h =
    fold-append_still (λ v i. if writes_word page word i then written i else v) is_applied
    (λ v i k. ap (λ (b : Bool). if b then written i else v) (no_write page word i k)) (initial_value m page word) xs ys h

pub flat_writes-applied : (xs ys : List Item) (page word : ℕ) → all_applied ys ≡ true →
    flat_writes (xs ++ ys) page word ≡ flat_writes xs page word
flat_writes-applied xs ys page word h =
    fold-append_still (λ n i. if writes_word page word i then n + 1 else n) is_applied
    (λ n i k. ap (λ (b : Bool). if b then n + 1 else n) (no_write page word i k)) 0 xs ys h

pub later-applied : (test : Removed → Bool) (xs ys : List Item) (page seq : ℕ) → all_applied ys ≡ true →
    later test (xs ++ ys) page seq ≡ later test xs page seq
later-applied test xs ys page seq h =
    list_any-append_still (is_later_change test page seq) is_applied (no_later test page seq) xs ys h

pub by_other-applied : (test : Removed → Bool) (xs ys : List Item) (q page seq : ℕ) → all_applied ys ≡ true →
    by_other test (xs ++ ys) q page seq ≡ by_other test xs q page seq
by_other-applied test xs ys q page seq h =
    list_any-append_still (is_owed_for test q page seq) is_applied (no_other test q page seq) xs ys h

pub values_of-applied : (q : ℕ) (xs ys : List Item) → all_applied ys ≡ true → values_of q (xs ++ ys) ≡ values_of q xs
values_of-applied q xs ys h = filter_map-append_still (value_of q) is_applied (no_value q) xs ys h

pub operations_of-applied : (q : ℕ) (xs ys : List Item) → all_applied ys ≡ true → operations_of q (xs ++ ys) ≡ operations_of q xs
operations_of-applied q xs ys h = filter_map-append_still (done_of q) is_applied (no_operation q) xs ys h

-- ---- one more change

pub dir_of-change : (xs : List Item) (c : Change) (page : ℕ) → dir_of (xs ++ item.Change c ∷ []) page ≡ if c.page == page then c.after
    else dir_of xs page
dir_of-change xs c page = dir_of-append xs (item.Change c ∷ []) page ∙ taken (c.page == page)
  where
    taken : (b : Bool) → dir_after (dir_of xs page) (if b then Some c else None) ≡ if b then c.after else dir_of xs page
    taken true = refl
    taken false = refl

pub seq_of-change : (xs : List Item) (c : Change) (page : ℕ) → seq_of (xs ++ item.Change c ∷ []) page
    ≡ if c.page == page then seq_of xs page + 1 else seq_of xs page
seq_of-change xs c page = seq_of-append xs (item.Change c ∷ []) page ∙ taken (c.page == page)
  where
    taken : (b : Bool) → seq_after (seq_of xs page) (if b then Some c else None) ≡ if b then seq_of xs page + 1 else seq_of xs page
    taken true = refl
    taken false = refl

pub held-change : (m : Machine) (xs : List Item) (c : Change) (q entry : ℕ) → held m (xs ++ item.Change c ∷ []) q entry
    ≡ held_after m q entry (held m xs q entry) (item.Change c)
held-change m xs c q entry = held-append m xs (item.Change c ∷ []) q entry

pub later-change : (test : Removed → Bool) (xs : List Item) (c : Change) (page seq : ℕ) → later test (xs ++ item.Change c ∷ []) page seq
    ≡ (later test xs page seq || (c.page == page && nat_lt seq c.seq && test c.removed))
later-change test xs c page seq = list_any-push (is_later_change test page seq) xs (item.Change c)

pub by_other-change : (test : Removed → Bool) (xs : List Item) (c : Change) (q page seq : ℕ) →
    by_other test (xs ++ item.Change c ∷ []) q page seq
    ≡ (by_other test xs q page seq || (c.page == page && nat_lt seq c.seq && test c.removed && not (c.actor == q)))
by_other-change test xs c q page seq = list_any-push (is_owed_for test q page seq) xs (item.Change c)

-- of the actor and of another processor

pub held-change_own : (m : Machine) (xs : List Item) (c : Change) (entry : ℕ) → held m (xs ++ item.Change c ∷ []) c.actor entry
    ≡ granted_to entry c.seq c.granted (if page_of m entry == c.page then kept_of c.removed (held m xs c.actor entry)
    else held m xs c.actor entry)
held-change_own m xs c entry =
    held-change m xs c c.actor entry
    ∙ same_number c.actor (granted_to entry c.seq c.granted (if page_of m entry == c.page then kept_of c.removed (held m xs c.actor entry)
    else held m xs c.actor entry)) (held m xs c.actor entry)

pub held-change_other : (m : Machine) (xs : List Item) (c : Change) (q entry : ℕ) → c.actor ≢ q → held m (xs ++ item.Change c ∷ []) q entry
    ≡ held m xs q entry
held-change_other m xs c q entry h =
    held-change m xs c q entry
    ∙ other_number c.actor q (granted_to entry c.seq c.granted (if page_of m entry == c.page then kept_of c.removed (held m xs q entry)
    else held m xs q entry)) (held m xs q entry) h

-- a change leaves the rest

pub active-change : (m : Machine) (xs : List Item) (c : Change) (q : ℕ) → active m (xs ++ item.Change c ∷ []) q ≡ active m xs q
active-change m xs c q = active-append m xs (item.Change c ∷ []) q

pub flat_value-change : (m : Machine) (xs : List Item) (c : Change) (page word : ℕ) → flat_value m (xs ++ item.Change c ∷ []) page word
    ≡ flat_value m xs page word
flat_value-change m xs c page word = flat_value-append m xs (item.Change c ∷ []) page word

pub flat_writes-change : (xs : List Item) (c : Change) (page word : ℕ) → flat_writes (xs ++ item.Change c ∷ []) page word
    ≡ flat_writes xs page word
flat_writes-change xs c page word = flat_writes-append xs (item.Change c ∷ []) page word

pub values_of-change : (q : ℕ) (xs : List Item) (c : Change) → values_of q (xs ++ item.Change c ∷ []) ≡ values_of q xs
values_of-change q xs c = values_of-append q xs (item.Change c ∷ []) ∙ append-nil (values_of q xs)

pub operations_of-change : (q : ℕ) (xs : List Item) (c : Change) → operations_of q (xs ++ item.Change c ∷ []) ≡ operations_of q xs
operations_of-change q xs c = operations_of-append q xs (item.Change c ∷ []) ∙ append-nil (operations_of q xs)

-- ---- one more access

pub dir_of-access : (xs : List Item) (a : Access) (page : ℕ) → dir_of (xs ++ item.Access a ∷ []) page ≡ dir_of xs page
dir_of-access xs a page = dir_of-append xs (item.Access a ∷ []) page

pub seq_of-access : (xs : List Item) (a : Access) (page : ℕ) → seq_of (xs ++ item.Access a ∷ []) page ≡ seq_of xs page
seq_of-access xs a page = seq_of-append xs (item.Access a ∷ []) page

pub last_of-access : (xs : List Item) (a : Access) (page : ℕ) → last_of (xs ++ item.Access a ∷ []) page ≡ last_of xs page
last_of-access xs a page = last_of-append xs (item.Access a ∷ []) page

pub held-access : (m : Machine) (xs : List Item) (a : Access) (q entry : ℕ) → held m (xs ++ item.Access a ∷ []) q entry ≡ held m xs q entry
held-access m xs a q entry = held-append m xs (item.Access a ∷ []) q entry

pub active-access : (m : Machine) (xs : List Item) (a : Access) (q : ℕ) → active m (xs ++ item.Access a ∷ []) q ≡ active m xs q
active-access m xs a q = active-append m xs (item.Access a ∷ []) q

pub later-access : (test : Removed → Bool) (xs : List Item) (a : Access) (page seq : ℕ) → later test (xs ++ item.Access a ∷ []) page seq
    ≡ later test xs page seq
later-access test xs a page seq = list_any-push (is_later_change test page seq) xs (item.Access a) ∙ or-false (later test xs page seq)

pub by_other-access : (test : Removed → Bool) (xs : List Item) (a : Access) (q page seq : ℕ) →
    by_other test (xs ++ item.Access a ∷ []) q page seq ≡ by_other test xs q page seq
by_other-access test xs a q page seq = list_any-push (is_owed_for test q page seq) xs (item.Access a)
    ∙ or-false (by_other test xs q page seq)

-- ---- one more switch

pub dir_of-switch : (xs : List Item) (s : Switch) (page : ℕ) → dir_of (xs ++ item.Switch s ∷ []) page ≡ dir_of xs page
dir_of-switch xs s page = dir_of-append xs (item.Switch s ∷ []) page

pub seq_of-switch : (xs : List Item) (s : Switch) (page : ℕ) → seq_of (xs ++ item.Switch s ∷ []) page ≡ seq_of xs page
seq_of-switch xs s page = seq_of-append xs (item.Switch s ∷ []) page

pub last_of-switch : (xs : List Item) (s : Switch) (page : ℕ) → last_of (xs ++ item.Switch s ∷ []) page ≡ last_of xs page
last_of-switch xs s page = last_of-append xs (item.Switch s ∷ []) page

pub held-switch : (m : Machine) (xs : List Item) (s : Switch) (q entry : ℕ) → held m (xs ++ item.Switch s ∷ []) q entry ≡ held m xs q entry
held-switch m xs s q entry = held-append m xs (item.Switch s ∷ []) q entry

pub later-switch : (test : Removed → Bool) (xs : List Item) (s : Switch) (page seq : ℕ) → later test (xs ++ item.Switch s ∷ []) page seq
    ≡ later test xs page seq
later-switch test xs s page seq = list_any-push (is_later_change test page seq) xs (item.Switch s) ∙ or-false (later test xs page seq)

pub by_other-switch : (test : Removed → Bool) (xs : List Item) (s : Switch) (q page seq : ℕ) →
    by_other test (xs ++ item.Switch s ∷ []) q page seq ≡ by_other test xs q page seq
by_other-switch test xs s q page seq = list_any-push (is_owed_for test q page seq) xs (item.Switch s)
    ∙ or-false (by_other test xs q page seq)

pub flat_value-switch : (m : Machine) (xs : List Item) (s : Switch) (page word : ℕ) → flat_value m (xs ++ item.Switch s ∷ []) page word
    ≡ flat_value m xs page word
flat_value-switch m xs s page word = flat_value-append m xs (item.Switch s ∷ []) page word

pub flat_writes-switch : (xs : List Item) (s : Switch) (page word : ℕ) → flat_writes (xs ++ item.Switch s ∷ []) page word
    ≡ flat_writes xs page word
flat_writes-switch xs s page word = flat_writes-append xs (item.Switch s ∷ []) page word

pub active-switch : (m : Machine) (xs : List Item) (s : Switch) (q : ℕ) → active m (xs ++ item.Switch s ∷ []) q
    ≡ if s.actor == q then s.space else active m xs q
active-switch m xs s q = active-append m xs (item.Switch s ∷ []) q

pub active-switch_own : (m : Machine) (xs : List Item) (s : Switch) → active m (xs ++ item.Switch s ∷ []) s.actor ≡ s.space
active-switch_own m xs s = active-switch m xs s s.actor ∙ same_number s.actor s.space (active m xs s.actor)

-- ---- items of others: what one processor holds, is and did stays

abbrev pub is_by : ℕ → Item → Bool
is_by q (item.Access a) = a.actor == q
is_by q (item.Change c) = c.actor == q
is_by q (item.Applied x) = x.actor == q
is_by q (item.Switch s) = s.actor == q

pub held-not_mine : (m : Machine) (xs ys : List Item) (q entry : ℕ) → list_any (is_by q) ys ≡ false →
    held m (xs ++ ys) q entry ≡ held m xs q entry
held-not_mine m xs ys q entry h = fold-append_untouched (held_after m q entry) (is_by q) kept None xs ys h
  where
    kept : (t : Option Translation) (i : Item) → is_by q i ≡ false → held_after m q entry t i ≡ t
    kept t (item.Access a) h = refl
    kept t (item.Change c) h = rw h refl
    kept t (item.Applied x) h = rw h refl
    kept t (item.Switch s) h = refl

pub values_of-not_mine : (q : ℕ) (xs ys : List Item) → list_any (is_by q) ys ≡ false → values_of q (xs ++ ys) ≡ values_of q xs
values_of-not_mine q xs ys h = filter_map-append_untouched (value_of q) (is_by q) none xs ys h
  where
    none : (i : Item) → is_by q i ≡ false → value_of q i ≡ None
    none (item.Access a) h = rw h refl
    none (item.Change c) h = refl
    none (item.Applied x) h = refl
    none (item.Switch s) h = refl

pub operations_of-not_mine : (q : ℕ) (xs ys : List Item) → list_any (is_by q) ys ≡ false → operations_of q (xs ++ ys) ≡ operations_of q xs
operations_of-not_mine q xs ys h = filter_map-append_untouched (done_of q) (is_by q) none xs ys h
  where
    none : (i : Item) → is_by q i ≡ false → done_of q i ≡ None
    none (item.Access a) h = rw h refl
    none (item.Change c) h = refl
    none (item.Applied x) h = refl
    none (item.Switch s) h = rw h refl

held_through-not_mine :
    (m : Machine) (xs ys : List Item) (q : ℕ) (entry : Option ℕ) → list_any (is_by q) ys ≡ false
    → held_through m (xs ++ ys) q entry ≡ held_through m xs q entry
held_through-not_mine m xs ys q None h = refl
held_through-not_mine m xs ys q (Some entry) h = held-not_mine m xs ys q entry h

wants_right-not_mine : (m : Machine) (xs ys : List Item) (q : ℕ) (w : Want) → list_any (is_by q) ys ≡ false →
    wants_right m (xs ++ ys) q w ≡ wants_right m xs q w
wants_right-not_mine m xs ys q want.Local h = refl
wants_right-not_mine m xs ys q (want.Access k space addr operand) h =
    ap (λ t. not (has_right k t)) (held_through-not_mine m xs ys q (entry_at m space (addr / m.words)) h)
wants_right-not_mine m xs ys q (want.Switch space) h = refl
wants_right-not_mine m xs ys q (want.Print value) h = refl
wants_right-not_mine m xs ys q want.Halted h = refl
wants_right-not_mine m xs ys q want.Trap h = refl

-- `is_end` of the values, the operations and the wish that it reads
is_end_by : Machine → (q : ℕ) → List ℕ → List Done → (Want → Bool) → End → ℕ → Bool
is_end_by m q vs ds wants end.Halted turns =
    let r = guest_run m q vs turns in stands r turns HasHalted && are_done r.operations ds
is_end_by m q vs ds wants end.Trapped turns =
    let r = guest_run m q vs turns in stands r turns HasTrapped && are_done r.operations ds
is_end_by m q vs ds wants end.Spent turns =
    let r = guest_run m q vs turns in turns == m.budget && stands r turns GoesOn && are_done r.operations ds
is_end_by m q vs ds wants end.NoFrames zero = false
is_end_by m q vs ds wants end.NoFrames (suc t) =
    let r = guest_run m q vs t
    in nat_lt m.frames m.pages && stands r t GoesOn && are_done r.operations ds && wants (want_of m q r.state)
is_end_by m q vs ds wants end.Cut zero = are_done (guest_run m q vs 0).operations ds
is_end_by m q vs ds wants end.Cut (suc t) =
    let r = guest_run m q vs t
    in stands r t GoesOn
    && (are_done (guest_run m q vs (suc t)).operations ds || (wants_operation (want_of m q r.state) && are_done r.operations ds))

is_end-by : (m : Machine) (xs : List Item) (q : ℕ) (e : End) (turns : ℕ) →
    is_end m xs q e turns ≡ is_end_by m q (values_of q xs) (operations_of q xs) (wants_right m xs q) e turns
unfolding is_end_by
is_end-by m xs q end.Halted turns = refl
is_end-by m xs q end.Trapped turns = refl
is_end-by m xs q end.Spent turns = refl
is_end-by m xs q end.NoFrames zero = refl
is_end-by m xs q end.NoFrames (suc t) = refl
is_end-by m xs q end.Cut zero = refl
is_end-by m xs q end.Cut (suc t) = refl

is_end_by-like : (m : Machine) (q : ℕ) (vs : List ℕ) (ds : List Done) (wants also : Want → Bool) (e : End) (turns : ℕ) →
    ((w : Want) → wants w ≡ also w) → is_end_by m q vs ds wants e turns ≡ is_end_by m q vs ds also e turns
unfolding is_end_by
is_end_by-like m q vs ds wants also end.Halted turns h = refl
is_end_by-like m q vs ds wants also end.Trapped turns h = refl
is_end_by-like m q vs ds wants also end.Spent turns h = refl
is_end_by-like m q vs ds wants also end.NoFrames zero h = refl
is_end_by-like m q vs ds wants also end.NoFrames (suc t) h =
    let r = guest_run m q vs t
    in ap (λ b. nat_lt m.frames m.pages && stands r t GoesOn && are_done r.operations ds && b) (h (want_of m q r.state))
is_end_by-like m q vs ds wants also end.Cut zero h = refl
is_end_by-like m q vs ds wants also end.Cut (suc t) h = refl

pub is_end-not_mine : (m : Machine) (xs ys : List Item) (q : ℕ) (e : End) (turns : ℕ) → list_any (is_by q) ys ≡ false →
    is_end m (xs ++ ys) q e turns ≡ is_end m xs q e turns
is_end-not_mine m xs ys q e turns h =
    is_end-by m (xs ++ ys) q e turns
    ∙ rw (values_of-not_mine q xs ys h, operations_of-not_mine q xs ys h)
    (is_end_by-like m q (values_of q xs) (operations_of q xs) (wants_right m (xs ++ ys) q) (wants_right m xs q) e turns
    (λ w. wants_right-not_mine m xs ys q w h))
    ∙ sym (is_end-by m xs q e turns)

pub is_in_order-not_mine : (m : Machine) (xs ys : List Item) (before after : List Ended) (q : ℕ) → list_any (is_by q) ys ≡ false →
    ended_of after q ≡ ended_of before q → is_in_order m (xs ++ ys) after q ≡ is_in_order m xs before q
is_in_order-not_mine m xs ys before after q h e =
    ap (λ (x : Ended). nat_le x.turns m.budget && is_end m (xs ++ ys) q x.end x.turns) e
    ∙ ap (λ b. nat_le (ended_of before q).turns m.budget && b)
    (is_end-not_mine m xs ys q (ended_of before q).end (ended_of before q).turns h)

-- ---- the rules of an append

pub bad_after-append : (m : Machine) (answer : Answer) (before : List Item) (n : ℕ) (xs ys : List Item) →
    bad_after m answer before n (xs ++ ys) ≡ bad_or (bad_after m answer before n xs) (bad_after m answer (before ++ xs) (n + length xs) ys)
bad_after-append m answer before n [] ys =
    let k : n ≡ n + 0 = omega arith
    in rw append-nil (ap (λ i. bad_after m answer before i ys) k)
bad_after-append m answer before n (x ∷ xs) ys =
    let k : n + 1 + length xs ≡ n + length (x ∷ xs) = omega arith
    in ap (bad_at n (bad_rule m answer before x))
    (bad_after-append m answer (before ++ x ∷ []) (n + 1) xs ys
    ∙ rw (append_assoc before (x ∷ []) xs, k) refl)
    ∙ first_or (bad_rule m answer before x) (bad_after m answer (before ++ x ∷ []) (n + 1) xs)
    (bad_after m answer (before ++ x ∷ xs) (n + length (x ∷ xs)) ys)
  where
    first_or : (r : Option Rule) (b other : Option Bad) → bad_at n r (bad_or b other) ≡ bad_or (bad_at n r b) other
    first_or None b other = refl
    first_or (Some r) b other = refl

-- ---- what an access of processor q adds to what is its own

pub values_of-access :
    (q : ℕ) (a : Access) → a.actor ≡ q → values_of q (item.Access a ∷ []) ≡ (if reads_word a.kind then a.old ∷ [] else [])
values_of-access q a h = rw (eq-eqb a.actor q h) (by (reads_word a.kind))
  where
    by : (b : Bool) → cons_option (if b then Some a.old else None) [] ≡ (if b then a.old ∷ [] else [])
    by true = refl
    by false = refl

pub operations_of-access : (q : ℕ) (a : Access) → a.actor ≡ q → operations_of q (item.Access a ∷ []) ≡ Accessed a ∷ []
operations_of-access q a h = rw (eq-eqb a.actor q h) refl

-- ---- a value that is not there

pub is_none-None : {T : Type 0} (o : Option T) → is_none o ≡ true → o ≡ None
is_none-None None h = refl
is_none-None (Some x) h = absurd cc
