-- what holds at the start and is kept by each number that is followed holds of every private state that is reached alone
use Rattle.std.proofs.Common.{◌≡◌, ℕ, Bool, true, false, List, [], ◌∷◌, ◌++◌, refl, ap, sym, subst, ◌∙◌, inl, inr}
use Rattle.std.proofs.lemmas.Bool.{cases_Bool}
use Rattle.std.proofs.lemmas.List.Sums.{fold-append}
use Rattle.std.specs.Prelude.{Option}
use Rattle.std.specs.List.{fold}
use Rattle.plat_base.specs.Verdicts.{Answer}
use Rattle.plat_base.specs.Machine.{Machine}
use Rattle.plat_base.specs.declared.items.Item.{Item}
use Rattle.plat_events.specs.Privates.{Private, first_private}
use Rattle.plat_events.specs.Events.{named_next, moved_at, item_at, is_followed, with_item, after_if, after}
use Rattle.plat_events.specs.Shown.{AllFollowed, IsReachedAlone}

-- the private state after a number that is followed
abbrev pub followed : Machine → Answer → (a : ℕ) → Private → ℕ → Private
followed m answer a p n =
    record (moved_at m answer a p n p.place) { journal = with_item p.journal (item_at m answer a p n p.place) }

after_if-true : (b : Bool) (p moved : Private) (made : Option Item) → b ≡ true →
    after_if b p moved made ≡ record moved { journal = with_item p.journal made }
after_if-true true p moved made e = refl
after_if-true false p moved made e = absurd cc

pub after-followed :
    (m : Machine) (answer : Answer) (a : ℕ) (p : Private) (n : ℕ) → is_followed m (named_next m answer a p p.place) n ≡ true
    → after m answer a p n ≡ followed m answer a p n
unfolding after
after-followed m answer a p n e =
    after_if-true (is_followed m (named_next m answer a p p.place) n) p (moved_at m answer a p n p.place)
    (item_at m answer a p n p.place) e

-- each number that is followed keeps it
abbrev pub IsKept : Machine → Answer → (a : ℕ) → (Private → Type 0) → Type 0
IsKept m answer a P =
    (p : Private) (n : ℕ) → is_followed m (named_next m answer a p p.place) n ≡ true → P p → P (followed m answer a p n)

kept_by :
    (m : Machine) (answer : Answer) (a : ℕ) (P : Private → Type 0) → IsKept m answer a P → (found : List ℕ) (p : Private)
    → AllFollowed m answer a p found → P p → P (fold (after m answer a) p found)
kept_by m answer a P kept [] p f h = h
kept_by m answer a P kept (n ∷ ns) p f h =
    kept_by m answer a P kept ns (after m answer a p n) f.1 (rw (after-followed m answer a p n f.0) (kept p n f.0 h))

pub alone-keeps :
    (m : Machine) (answer : Answer) (a : ℕ) (P : Private → Type 0) → IsKept m answer a P → P (first_private m a) → (p : Private)
    → IsReachedAlone m answer a p → P p
alone-keeps m answer a P kept first p r = subst P r.2 (kept_by m answer a P kept r.0 (first_private m a) r.1 first)

-- ---- one more number

all-more :
    (m : Machine) (answer : Answer) (a : ℕ) (found : List ℕ) (p : Private) (n : ℕ) → AllFollowed m answer a p found
    → is_followed m (named_next m answer a (fold (after m answer a) p found) (fold (after m answer a) p found).place) n ≡ true
    → AllFollowed m answer a p (found ++ n ∷ [])
all-more m answer a [] p n f e = (e, tt)
all-more m answer a (k ∷ ks) p n f e = (f.0, all-more m answer a ks (after m answer a p k) n f.1 e)

-- a number that is followed leads to a private state that is reached alone
pub alone-followed :
    (m : Machine) (answer : Answer) (a : ℕ) (p : Private) (n : ℕ) → IsReachedAlone m answer a p
    → is_followed m (named_next m answer a p p.place) n ≡ true → IsReachedAlone m answer a (after m answer a p n)
alone-followed m answer a p n r e = (
  r.0 ++ n ∷ [],
  all-more m answer a r.0 (first_private m a) n r.1
      (subst (λ q. is_followed m (named_next m answer a q q.place) n ≡ true) (sym r.2) e),
  fold-append (after m answer a) (first_private m a) r.0 (n ∷ []) ∙ ap (λ q. after m answer a q n) r.2,
)

after_if-false : (b : Bool) (p moved : Private) (made : Option Item) → b ≡ false → after_if b p moved made ≡ p
after_if-false true p moved made e = absurd cc
after_if-false false p moved made e = refl

-- and any other changes nothing
pub after-passed :
    (m : Machine) (answer : Answer) (a : ℕ) (p : Private) (n : ℕ) → is_followed m (named_next m answer a p p.place) n ≡ false
    → after m answer a p n ≡ p
unfolding after
after-passed m answer a p n e =
    after_if-false (is_followed m (named_next m answer a p p.place) n) p (moved_at m answer a p n p.place)
    (item_at m answer a p n p.place) e

-- so each event of an actor leads to one
pub alone-after :
    (m : Machine) (answer : Answer) (a : ℕ) (p : Private) (n : ℕ) → IsReachedAlone m answer a p →
    IsReachedAlone m answer a (after m answer a p n)
alone-after m answer a p n r =
    elim (cases_Bool (is_followed m (named_next m answer a p p.place) n)) [
      | inl e ↦ alone-followed m answer a p n r e
      | inr e ↦ subst (IsReachedAlone m answer a) (sym (after-passed m answer a p n e)) r
    ]

pub alone-first : (m : Machine) (answer : Answer) (a : ℕ) → IsReachedAlone m answer a (first_private m a)
alone-first m answer a = ([], tt, refl)
