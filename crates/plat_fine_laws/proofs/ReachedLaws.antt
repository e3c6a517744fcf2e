-- an actor that comes to a private state alone comes to the next one alone
use Rattle.std.specs.Prelude.{◌≡◌, ℕ, List, [], ◌∷◌, ◌++◌, Some, IsTrue}
use Rattle.std.proofs.Common.{ap, ◌∙◌, subst}
use Rattle.std.specs.List.{fold}
use Rattle.std.proofs.lemmas.Grind.{fold-append}
use Rattle.plat_base.specs.Verdicts.{Answer}
use Rattle.plat_base.specs.Machine.{Machine}
use Rattle.plat_base.specs.declared.words.Op.{Op}
use Rattle.plat_base.specs.declared.words.WordName.{WordName}
use Rattle.plat_events.specs.Privates.{Place, Private, first_private}
use Rattle.plat_events.specs.Events.{named_next, is_followed, after}
use Rattle.plat_events.specs.Shown.{AllFollowed, IsReachedAlone}
use Rattle.plat_fine_laws.proofs.EventLaws.{moved_with, after-followed}

AllFollowed-more :
    (m : Machine) (answer : Answer) (a : ℕ) (p : Private) (ns : List ℕ) (n : ℕ) → AllFollowed m answer a p ns →
    IsTrue (is_followed m (named_next m answer a (fold (after m answer a) p ns) (fold (after m answer a) p ns).place) n) →
    AllFollowed m answer a p (ns ++ n ∷ [])
AllFollowed-more m answer a p [] n all more = (more, tt)
AllFollowed-more m answer a p (k ∷ ns) n all more = (all.0, AllFollowed-more m answer a (after m answer a p k) ns n all.1 more)

pub reached-more :
    (m : Machine) (answer : Answer) (a : ℕ) (p : Private) (n : ℕ) → IsReachedAlone m answer a p →
    IsTrue (is_followed m (named_next m answer a p p.place) n) → IsReachedAlone m answer a (after m answer a p n)
reached-more m answer a p n reached more =
    let start = first_private m a in
    let here : fold (after m answer a) start reached.0 ≡ p = reached.2 in
    let followed : IsTrue (is_followed m (named_next m answer a (fold (after m answer a) start reached.0) (fold
    (after m answer a) start reached.0).place) n) =
    ap (λ (q : Private). is_followed m (named_next m answer a q q.place) n) here ∙ more in (
      reached.0 ++ n ∷ [],
      AllFollowed-more m answer a start reached.0 n reached.1 followed,
      fold-append (after m answer a) start reached.0 (n ∷ []) ∙ ap (λ q. after m answer a q n) here,
    )

-- the next private state by what its place makes of the number
pub reached-moved :
    (m : Machine) (answer : Answer) (a : ℕ) (p : Private) (place : Place) (n : ℕ) (name : WordName) (operation : Op) →
    IsReachedAlone m answer a p → p.place ≡ place → named_next m answer a p place ≡ Some (name, operation) →
    IsTrue (is_followed m (Some (name, operation)) n) → IsReachedAlone m answer a (moved_with m answer a p n place)
reached-moved m answer a p place n name operation reached at named found =
    let followed : IsTrue (is_followed m (named_next m answer a p place) n) = rw named found in
    let there : IsTrue (is_followed m (named_next m answer a p p.place) n) =
    ap (λ (x : Place). is_followed m (named_next m answer a p x) n) at ∙ followed in
    subst (IsReachedAlone m answer a) (after-followed m answer a p place at n followed) (reached-more m answer a p n reached there)
