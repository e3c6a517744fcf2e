-- the rule of ends, and what a processor lacks
use Rattle.std.proofs.Common.{◌≡◌, ◌≢◌, ℕ, ◌/◌, ◌<◌, List, length, Option, Some, None, Bool, true, false, not, get_or, refl, ap, sym, ◌∙◌}
use Rattle.std.proofs.Common.{arith}
use Rattle.std.specs.Prelude.{◌==◌, is_none, find, if◌then◌else◌}
use Rattle.std.proofs.lemmas.Bool.{and_right}
use Rattle.std.proofs.lemmas.Bool.Decides.{nat_tests}
use Rattle.std.proofs.lemmas.List.{get_or_default}
use Rattle.plat_laws.proofs.EndLaws.{bad_ends-none}
use Rattle.plat_laws.proofs.NumberLaws.{find_numbers-none}
use Rattle.plat_base.specs.Machine.{Machine}
use Rattle.plat_base.specs.Pages.{numbers, entry_at}
use Rattle.plat_base.specs.GuestRun.{Reaches}
use Rattle.plat_base.specs.Held.{held, held_through, has_right}
use Rattle.plat_base.specs.Ends.{cut_at}
use Rattle.plat_base.specs.Rules.{is_in_order, are_ends}
use Rattle.plat_base.specs.declared.endings.Ended.{Ended}
use Rattle.plat_base.specs.declared.items.Item.{Item}
use Rattle.plat_base.specs.declared.items.Translation.{Translation}
use Rattle.plat_base.specs.declared.statuses.Bad.{Bad}
use Rattle.plat_follow.specs.Wanted.{reach_seen}
use Rattle.plat_follow.specs.Followed.{lacks_right_for, is_ended}
use Rattle.plat_follow.specs.declared.wanted.WantedAccess.{WantedAccess}

-- a processor that wants an access lacks the right for it where the translation of its entry has not enough
pub lacks-access :
    (m : Machine) (items : List Item) (q : ℕ) (a : WantedAccess) (t : Option Translation) (has : Bool)
    → entry_at m a.space (a.addr / m.words) ≡ Some a.entry → t ≡ held m items q a.entry → has ≡ has_right a.kind t
    → not has ≡ lacks_right_for m items q (Some (Reaches (reach_seen a)))
lacks-access m items q a t has entry holds right =
    ap not (right ∙ ap (has_right a.kind) (holds ∙ ap (λ (e : Option ℕ). held_through m items q e) (sym entry)))

module _ (m : Machine) (items : List Item) (ends : List Ended) where
  -- the end that stands at the processor's place
  pub in_order-at : (q : ℕ) (d : Ended) → q < length ends → is_in_order m items ends q ≡ is_ended m items q (get_or ends q d)
  in_order-at q d inside = ap (is_ended m items q) (get_or_default ends q (cut_at 0) d inside)

  none-of : (b : Bool) (bad : Bad) → (if b then None else Some bad) ≡ None → b ≡ true
  none-of true bad h = refl
  none-of false bad h = absurd cc

  pub ends-true : length ends ≡ m.nodes → ((q : ℕ) → q < m.nodes → is_in_order m items ends q ≡ true) → true ≡ are_ends m items ends
  ends-true count each = sym (none-of (are_ends m items ends) _ (bad_ends-none m items ends count each))

  pub ends-miscounted : length ends ≢ m.nodes → false ≡ are_ends m items ends
  ends-miscounted differ = let no : (length ends == m.nodes) ≡ false = grind (arith, nat_tests) in rw no refl

  some-of : (o : Option ℕ) (q : ℕ) → find (λ q. not (is_in_order m items ends q)) (numbers m.nodes) ≡ o
      → q < m.nodes → is_in_order m items ends q ≡ false → is_none o ≡ false
  some-of None q e inside bad =
      let good = find_numbers-none (λ q. not (is_in_order m items ends q)) m.nodes q e inside
      in let other : not (is_in_order m items ends q) ≡ true = rw bad refl
      in absurd (cc (good, other))
  some-of (Some k) q e inside bad = refl

  pub ends-out_of_order : (q : ℕ) → q < m.nodes → is_in_order m items ends q ≡ false → false ≡ are_ends m items ends
  ends-out_of_order q inside bad =
      sym (and_right (length ends == m.nodes) (is_none (find (λ q. not (is_in_order m items ends q)) (numbers m.nodes)))
      (some-of (find (λ q. not (is_in_order m items ends q)) (numbers m.nodes)) q refl inside bad))
