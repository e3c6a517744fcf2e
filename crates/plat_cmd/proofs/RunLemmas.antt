-- the coarse run of the schedule is that of the definition
use Rattle.std.proofs.Common.{◌≡◌, ℕ, ◌+◌, ◌*◌, ◌≤◌, ⊎_elim, true, List, length, refl, sym, ap, subst, ◌∙◌, arith}
use Rattle.std.specs.Prelude.{None}
use Rattle.std.proofs.lemmas.Bool.{cases_eq, lt-ltb}
use Rattle.std.proofs.lemmas.List.Elements.{filter_agree}
use Rattle.plat_base.specs.Alike.{same_end}
use Rattle.plat_base.specs.Ends.{ended_of, is_live}
use Rattle.plat_base.specs.Pages.{numbers}
use Rattle.plat_base.specs.declared.endings.End.{End}
use Rattle.plat_base.specs.declared.endings.End.TheVariants as end
use Rattle.plat_coarse.specs.CoarseSeen.{turned_of}
use Rattle.plat_coarse.specs.declared.turns.Turned.TheVariants.{Ran}
use Rattle.plat_coarse_laws.proofs.RunLaws.{turn-ends, turn-length, is_live-set_other}
use Rattle.plat_laws.proofs.EndLaws.{is_live-below}
use Rattle.plat_base.specs.Machine.{Machine}
use Rattle.plat_base.specs.Coarse.{Coarse}
use Rattle.plat_base.specs.Turns.{turn}
use Rattle.plat_base.specs.Schedule.{Scheduled, choose, live_processors, with_choice, scheduled, scheduled_turn, coarse_run}
use Rattle.plat_base.specs.Verdicts.{Answer}
use Rattle.plat_base.specs.declared.endings.Ended.{Ended}
use Rattle.plat_base.specs.declared.items.Item.{Item}
use Rattle.plat_cmd.proofs.StepLemmas.{next_is, over_is}

-- ---- the live processors after a turn of one that did not end

ran_is_cut : (e : End) → turned_of e ≡ Ran → same_end e end.Cut ≡ true
ran_is_cut end.Halted h = grind (arith, h)
ran_is_cut end.Trapped h = grind (arith, h)
ran_is_cut end.Spent h = grind (arith, h)
ran_is_cut end.NoFrames h = grind (arith, h)
ran_is_cut end.Cut h = refl

pub live_stay : (m : Machine) (answer : Answer) (s : Coarse) (q : ℕ) → is_live s.ends q ≡ true
    → turned_of (ended_of (turn m answer s q).ends q).end ≡ Ran → live_processors m (turn m answer s q) ≡ live_processors m s
live_stay m answer s q was ran = filter_agree (is_live after) (is_live s.ends) same (numbers m.nodes)
  where
    after : List Ended
    after = (turn m answer s q).ends

    now : is_live after q ≡ true
    now =
        rw (turn-length m answer s q, lt-ltb q (length s.ends) (is_live-below s.ends q was))
        (ran_is_cut (ended_of (turn m answer s q).ends q).end ran)

    same : (r : ℕ) → is_live after r ≡ is_live s.ends r
    same r =
        ⊎_elim (λ it. ap (is_live after) it ∙ (now ∙ sym (ap (is_live s.ends) it ∙ was)))
        (λ other. ap (λ (ends : List Ended). is_live ends r) (turn-ends m answer s q) ∙ is_live-set_other s.ends q r _ other)
        (cases_eq r q)

-- ---- turn by turn

-- where nobody is chosen a turn changes nothing
still_is : (m : Machine) (answer : Answer) (x : Scheduled)
    → choose m.schedule (live_processors m x.coarse) x.chooser ≡ None → scheduled_turn m answer x ≡ x
still_is m answer x none = ap (with_choice m answer x) none

-- a turn under the same machine and the same answer
same_turn : (m n : Machine) (answer other : Answer) (x : Scheduled) → n ≡ m → other ≡ answer
    → scheduled_turn n other x ≡ scheduled_turn m answer x
same_turn m n answer other x same alike =
    ap (λ (i : Machine). scheduled_turn i other x) same ∙ ap (λ (a : Answer). scheduled_turn m a x) alike

pub next_turn_is : (m n : Machine) (answer other : Answer) (x y : Scheduled) (k : ℕ) → n ≡ m → other ≡ answer
    → x ≡ scheduled m answer k → y ≡ scheduled_turn n other x → y ≡ scheduled m answer (k + 1)
next_turn_is m n answer other x y k same alike before turned =
    next_is (scheduled m answer) (scheduled_turn m answer) (λ i. refl) x y k before (turned ∙ same_turn m n answer other x same alike)

-- a run that nobody goes on with is as it would be after all turns
pub over_turns_is : (m n : Machine) (answer other : Answer) (x y : Scheduled) (k turns : ℕ) → n ≡ m → other ≡ answer
    → x ≡ scheduled m answer k → k ≤ turns
    → choose n.schedule (live_processors n x.coarse) x.chooser ≡ None → y ≡ scheduled_turn n other x → y ≡ scheduled m answer turns
over_turns_is m n answer other x y k turns same alike before within none turned =
    over_is (scheduled m answer) (scheduled_turn m answer) (λ i. refl) x y k turns before within
    (subst (λ (i : Machine). scheduled_turn i answer x ≡ x) same (still_is n answer x none))
    (turned ∙ same_turn m n answer other x same alike)

-- the run after all turns is the coarse run
run_is : (m : Machine) (answer : Answer) (turns : ℕ) → turns ≡ m.nodes * m.budget → (scheduled m answer turns).coarse ≡ coarse_run m answer
unfolding coarse_run
run_is m answer turns all = ap (λ (k : ℕ). (scheduled m answer k).coarse) all

pub made_is : (m n : Machine) (answer other : Answer) (x : Scheduled) (turns : ℕ) → n ≡ m → other ≡ answer
    → turns ≡ m.nodes * m.budget → x ≡ scheduled n other turns → x.coarse ≡ coarse_run m answer
made_is m n answer other x turns same alike all made =
    ap (λ (s : Scheduled). s.coarse)
    (made ∙ (ap (λ (i : Machine). scheduled i other turns) same ∙ ap (λ (a : Answer). scheduled m a turns) alike))
    ∙ run_is m answer turns all

-- what holds of a history and ends holds of equal ones
pub same_items : (P : List Item → List Ended → Type 0) (is js : List Item) (es fs : List Ended) → is ≡ js → es ≡ fs → P js fs → P is es
same_items P is js es fs same_is same_es holds =
    subst (λ (x : List Item). P x es) (sym same_is) (subst (λ (x : List Ended). P js x) (sym same_es) holds)
