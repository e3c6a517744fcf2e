-- a processor whose guest halts or traps within the budget is not spent
use Rattle.std.specs.Prelude.{◌≡◌, ◌≢◌, ℕ, ◌<◌, ◌==◌, nat_le, ◌&&◌, true, List}
use Rattle.std.proofs.Common.{refl, subst}
use Rattle.std.proofs.lemmas.Bool.{and_parts, eqb-true}
use Rattle.plat_base.specs.Verdicts.{Answer}
use Rattle.plat_base.specs.Machine.{Machine}
use Rattle.plat_base.specs.GuestRun.{guest_run, Outcome, GoesOn, HasHalted, HasTrapped}
use Rattle.plat_base.specs.Done.{values_of}
use Rattle.plat_base.specs.Ends.{ended_of}
use Rattle.plat_base.specs.Rules.{is_end, is_in_order, has_made, same_outcome, stands, Good, HasEnoughFrames}
use Rattle.plat_base.specs.Runs.{GuestEnds, IsCoherentRun}
use Rattle.plat_base.specs.declared.endings.End.{End}
use Rattle.plat_base.specs.declared.endings.End.TheVariants as end
use Rattle.plat_base.specs.declared.endings.Ended.{Ended}
use Rattle.plat_base.specs.declared.items.Item.{Item}
use Rattle.plat_laws.proofs.HistoryLaws.{one_history}

goes_on : (o : Outcome) → same_outcome o GoesOn ≡ true → o ≡ GoesOn
goes_on GoesOn h = refl
goes_on HasHalted h = absurd cc
goes_on HasTrapped h = absurd cc

-- a spent processor has made its budget, and its guest goes on then
spent_goes_on : (m : Machine) (items : List Item) (q turns : ℕ) → is_end m items q end.Spent turns ≡ true →
    (guest_run m q (values_of q items) m.budget).outcome ≡ GoesOn
spent_goes_on m items q turns h =
    let r = guest_run m q (values_of q items) turns in
    let all = and_parts (turns == m.budget && stands r turns GoesOn) (has_made items q r) h in
    let two = and_parts (turns == m.budget) (stands r turns GoesOn) all.0 in
    let how = and_parts (r.turns == turns) (same_outcome r.outcome GoesOn) two.1 in
    subst (λ (t : ℕ). (guest_run m q (values_of q items) t).outcome ≡ GoesOn) (eqb-true turns m.budget two.0) (goes_on r.outcome how.1)

pub not_spent : (m : Machine) (items : List Item) (ends : List Ended) (q : ℕ) → is_in_order m items ends q ≡ true → GuestEnds m items q →
    (ended_of ends q).end ≢ end.Spent
not_spent m items ends q order guest spent =
    let both = and_parts (nat_le (ended_of ends q).turns m.budget) (is_end m items q (ended_of ends q).end (ended_of ends q).turns) order in
    guest (spent_goes_on m items q (ended_of ends q).turns
    (subst (λ (e : End). is_end m items q e (ended_of ends q).turns ≡ true) spent both.1))

-- a good history in which no processor lacks a frame without need is that of a coherent run
pub coherent_run : (m : Machine) (answer : Answer) (items : List Item) (ends : List Ended) → Good m answer items ends
    → (HasEnoughFrames m → (q : ℕ) → q < m.nodes → (ended_of ends q).end ≢ end.NoFrames) → IsCoherentRun m answer items ends
coherent_run m answer items ends good framed =
    let one = one_history m answer items ends good in
    record {
      good = good;
      one = one;
      unspent = λ q inside guest. not_spent m items ends q (one.in_order q inside) guest;
      framed = framed;
    }
