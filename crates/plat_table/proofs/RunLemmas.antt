-- a run with one more event
use Rattle.std.proofs.Common.{◌≡◌, ℕ, List, [], ◌∷◌, ◌++◌, refl, ap, ◌∙◌, map}
use Rattle.std.proofs.lemmas.List.Sums.{fold-append}
use Rattle.std.specs.Prelude.{Some, slice_get, slice_set, slice_index}
use Rattle.plat_base.specs.Machine.{Machine}
use Rattle.plat_base.specs.Verdicts.{Answer, policy_answer}
use Rattle.plat_base.specs.declared.words.Op.{Op}
use Rattle.plat_events.specs.Operations.{written, told}
use Rattle.plat_events.specs.Privates.{Private}
use Rattle.plat_events.specs.Events.{next_of, after}
use Rattle.plat_events.specs.Runs.{Fine, fine_start, event, event_at, event_by, run, run_from, IsLive, AllLive, Reached}
use Rattle.plat_table.specs.Riders.{numbers_of}
use Rattle.plat_table.specs.Rule.{held_first}

run-more : (m : Machine) (answer : Answer) (who : List ℕ) (a : ℕ) → run m answer (who ++ a ∷ []) ≡ event m answer (run m answer who) a
unfolding run
run-more m answer who a = fold-append (event m answer) (fine_start m) who (a ∷ [])

live-more :
    (m : Machine) (answer : Answer) (s : Fine) (who : List ℕ) (a : ℕ) → AllLive m answer s who → IsLive m answer (run_from m answer s who) a
    → AllLive m answer s (who ++ a ∷ [])
live-more m answer s [] a h l = (l, tt)
live-more m answer s (b ∷ who) a h l = (h.0, live-more m answer (event m answer s b) who a h.1 l)

run-live :
    (m : Machine) (answer : Answer) (who : List ℕ) (a : ℕ) → AllLive m answer (fine_start m) who → IsLive m answer (run m answer who) a
    → AllLive m answer (fine_start m) (who ++ a ∷ [])
unfolding run
run-live m answer who a h l = live-more m answer (fine_start m) who a h l

-- the next event of an actor with this private state
pub event-is :
    (m : Machine) (answer : Answer) (s : Fine) (a : ℕ) (p : Private) (x : ℕ × Op) → slice_get s.privates a ≡ Some p
    → next_of m answer a p ≡ Some x → event m answer s a ≡ event_at m answer s a p (Some x)
event-is m answer s a p x there next = ap (event_by m answer s a) there ∙ ap (event_at m answer s a p) next

-- the words and the private states after it
pub reached-event :
    (m : Machine) (words : List ℕ) (privates : List Private) (who : List ℕ) (a : ℕ) (p : Private) (x : ℕ × Op)
    → Reached m (policy_answer m.policy) words privates who → slice_get privates a ≡ Some p
    → next_of m (policy_answer m.policy) a p ≡ Some x
    → Reached m (policy_answer m.policy) (slice_set words x.0 (written x.1 (slice_index words x.0)))
    (slice_set privates a (after m (policy_answer m.policy) a p (told x.1 (slice_index words x.0)))) (who ++ a ∷ [])
reached-event m words privates who a p x r there next =
    let answer = policy_answer m.policy in
    let s = run m answer who in
    let stands : slice_get s.privates a ≡ Some p = ap (λ (ps : List Private). slice_get ps a) r.privates_are ∙ there in
    let made : run m answer (who ++ a ∷ []) ≡ event_at m answer s a p (Some x) =
    run-more m answer who a ∙ event-is m answer s a p x stands next in
    record {
      words_are = ap (λ (t : Fine). t.words) made
          ∙ ap (λ (ws : List ℕ). slice_set ws x.0 (written x.1 (slice_index ws x.0))) r.words_are;
      privates_are = ap (λ (t : Fine). t.privates) made
          ∙ ap (λ (ws : List ℕ). slice_set s.privates a (after m answer a p (told x.1 (slice_index ws x.0)))) r.words_are
          ∙ ap (λ (ps : List Private). slice_set ps a (after m answer a p (told x.1 (slice_index words x.0)))) r.privates_are;
      live = run-live m answer who a r.live (p, stands, x, next);
    }

pub reached-start : (m : Machine) → Reached m (policy_answer m.policy) (fine_start m).words (fine_start m).privates []
unfolding run
reached-start m = record { words_are = refl; privates_are = refl; live = tt }

-- the numbers of actors that have just begun
pub numbers-first : (m : Machine) (actors : List ℕ) → numbers_of (map (held_first m) actors) ≡ actors
numbers-first m [] = refl
numbers-first m (a ∷ actors) = ap (λ (xs : List ℕ). a ∷ xs) (numbers-first m actors)
