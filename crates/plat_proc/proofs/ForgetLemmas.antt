-- the cache forgets a page: the entries of the page, one after another
use Rattle.std.proofs.Common.{◌≡◌, ℕ, zero, suc, ◌+◌, ◌<◌, ◌≤◌, Bool, true, false, List, [], ◌∷◌, length, map, filter, inl, inr, refl}
use Rattle.std.proofs.Common.{ap, sym, ◌∙◌, arith}
use Rattle.std.specs.Prelude.{◌==◌, if◌then◌else◌, Option, Some, None}
use Rattle.std.specs.List.{list_any, range_with_len}
use Rattle.std.proofs.lemmas.Bool.Decides.{nat_tests}
use Rattle.std.proofs.lemmas.Bool.{cases_lt}
use Rattle.std.proofs.lemmas.List.{get_or_past}
use Rattle.plat_base.specs.Machine.{Machine}
use Rattle.plat_base.specs.Cache.{without_page}
use Rattle.plat_base.specs.Pages.{entries_of_page, no_entry, page_of}
use Rattle.plat_base.specs.declared.configs.Entry.{Entry}
use Rattle.plat_base.specs.declared.limits.TheConstants.{PAGES}
use Rattle.plat_pmap.specs.Slots.{place_of, places, without_slot}
use Rattle.plat_pmap.specs.declared.atcs.Slot.{Slot}
use Rattle.plat_proc.specs.Cached.{without_slot_of}

-- a place without what it keeps of one of these entries
abbrev pub without_these : List ℕ → Option Slot → Option Slot
without_these es None = None
without_these es (Some s) = if list_any (λ e. e == s.entry) es then None else Some s

one-next : (e : ℕ) (es : List ℕ) (s : Option Slot) → without_these es (without_slot e s) ≡ without_these (e ∷ es) s
one-next e es None = refl
one-next e es (Some s) = grind (arith, nat_tests)

pub these-next : (e : ℕ) (es : List ℕ) (xs : List (Option Slot)) →
    map (without_these es) (map (without_slot e) xs) ≡ map (without_these (e ∷ es)) xs
these-next e es [] = refl
these-next e es (x ∷ xs) = rw (one-next e es x, these-next e es xs) refl

one-none : (s : Option Slot) → without_these [] s ≡ s
one-none None = refl
one-none (Some s) = refl

pub these-none : (xs : List (Option Slot)) → map (without_these []) xs ≡ xs
these-none [] = refl
these-none (x ∷ xs) = rw (one-none x, these-none xs) refl

-- ---- the entries of a page are those that lead to it

absent : (p : ℕ → Bool) (k a n : ℕ) → k < a → list_any (λ e. e == k) (filter p (range_with_len a n)) ≡ false
absent p k a zero h = refl
absent p k a (suc n) h = grind (arith, nat_tests, absent p k (a + 1) n)

first : (p : ℕ → Bool) (k a n : ℕ) (b : Bool) → a ≡ k → p a ≡ b → list_any (λ e. e == k) (filter p (range_with_len a (suc n))) ≡ p k
first p k a n true e h = grind (arith, nat_tests, ap p e)
first p k a n false e h = grind (arith, nat_tests, ap p e, absent p k (a + 1) n)

has : (p : ℕ → Bool) (k a n : ℕ) → a ≤ k → k < a + n → list_any (λ e. e == k) (filter p (range_with_len a n)) ≡ p k
has p k a zero h l = absurd (omega arith)
has p k a (suc n) h l =
    elim (cases_lt a k) [
      | inl below ↦ (let rest = has p k (a + 1) n (omega arith) (omega arith) in grind (arith, nat_tests, rest))
      | inr same ↦ first p k a n (p a) (omega arith) refl
    ]

past : (p : ℕ → Bool) (k a n : ℕ) → a + n ≤ k → list_any (λ e. e == k) (filter p (range_with_len a n)) ≡ false
past p k a zero h = refl
past p k a (suc n) h = grind (arith, nat_tests, past p k (a + 1) n)

page_of-past : (m : Machine) (e : ℕ) → length m.entries ≤ e → page_of m e ≡ PAGES
page_of-past m e h = ap (λ (x : Entry). x.page) (get_or_past m.entries e no_entry h)

has-page : (m : Machine) (page k : ℕ) → page < PAGES → list_any (λ e. e == k) (entries_of_page m page) ≡ (page_of m k == page)
has-page m page k h =
    elim (cases_lt k (length m.entries)) [
      | inl below ↦ has (λ e. page_of m e == page) k 0 (length m.entries) (omega arith) (omega arith)
      | inr beyond ↦
          (let none = past (λ e. page_of m e == page) k 0 (length m.entries) (omega arith) in
          let other : (page_of m k == page) ≡ false = grind (arith, nat_tests, page_of-past m k) in none ∙ sym other)
    ]

one-page : (m : Machine) (page : ℕ) → page < PAGES → (s : Option Slot) → without_these (entries_of_page m page) s ≡ without_slot_of m page s
one-page m page h None = refl
one-page m page h (Some s) = rw (has-page m page s.entry h) refl

pub these-page :
    (m : Machine) (page : ℕ) → page < PAGES → (xs : List (Option Slot)) →
    map (without_these (entries_of_page m page)) xs ≡ map (without_slot_of m page) xs
these-page m page h [] = refl
these-page m page h (x ∷ xs) = rw (one-page m page h x, these-page m page h xs) refl

-- ---- the places of a page, as the count of hits sees them

pub place_of-page : (m : Machine) (page : ℕ) (s : Option Slot) → place_of (without_slot_of m page s) ≡ without_page m page (place_of s)
place_of-page m page None = refl
place_of-page m page (Some s) = grind (arith, nat_tests)

pub places-page :
    (m : Machine) (page : ℕ) (xs : List (Option Slot)) →
    places (map (without_slot_of m page) xs) ≡ map (without_page m page) (places xs)
places-page m page [] = refl
places-page m page (x ∷ xs) = rw (place_of-page m page x, places-page m page xs) refl
