-- what an actor's own operations bring it to
use Rattle.std.proofs.Common.{◌≡◌, ℕ, ◌+◌, ◌<◌, ◌≤◌, List, [], ◌∷◌, sym, ap, ◌∙◌, subst, arith}
use Rattle.std.specs.Prelude.{IsTrue, Option, Some, None, slice_get}
use Rattle.std.specs.List.{fold}
use Rattle.std.specs.Option.{option_map}
use Rattle.plat_base.specs.Machine.{Machine, is_machine}
use Rattle.plat_base.specs.Rules.{has_daemon}
use Rattle.plat_base.specs.Verdicts.{Answer, policy_answer}
use Rattle.plat_base.specs.declared.words.Op.{Op}
use Rattle.plat_base.specs.declared.words.WordName.{WordName}
use Rattle.plat_events.specs.Places.{word_count}
use Rattle.plat_events.specs.Privates.{Private, actor_count}
use Rattle.plat_events.specs.Events.{named_next, placed, next_of, after}
use Rattle.plat_events.specs.Shown.{IsReachedAlone}
use Rattle.plat_words.proofs.PlacesApart.{place_of-below}
use Rattle.plat_local_laws.specs.Words.{NamesWord}
use Rattle.plat_local_laws.proofs.AloneLaws.{alone-after}
use Rattle.plat_local_laws.proofs.NameLaws.{names_word}
use Rattle.plat_local_laws.proofs.PrivateLaws.{private_ok}
use Rattle.plat_table.specs.declared.actors.Part.{Part}
use Rattle.plat_table.specs.declared.actors.Part.TheVariants as part
use Rattle.plat_table.specs.declared.actors.Actor.{Actor}
use Rattle.plat_table.specs.Actors.{Fits, PartFits, state_in, held}
use Rattle.plat_table.specs.Ports.{StaysWithin, StaysWithinAt}
use Rattle.plat_table.specs.Rule.{Held, Known}
use Rattle.plat_daemon.proofs.DaemonLemmas.{within-by}

-- ---- an actor of the machine

counted-in : (m : Machine) → IsTrue (has_daemon m.policy) → actor_count m ≡ m.nodes + 1
counted-in m h = grind (arith, h)

pub actor-below : (m : Machine) (a : ℕ) (x : Part) → PartFits m a x → a < actor_count m
actor-below m a part.Nobody f = absurd f
actor-below m a (part.Processor x) f = let inner = f.1.processor in omega (arith, f.0, inner)
actor-below m a (part.Daemon x) f = omega (arith, f.0, counted-in m f.1.there)

pub actor-alone : (m : Machine) (a : ℕ) (x : Part) → PartFits m a x → IsReachedAlone m (policy_answer m.policy) a (state_in m x)
actor-alone m a part.Nobody f = absurd f
actor-alone m a (part.Processor x) f = subst (λ q. IsReachedAlone m (policy_answer m.policy) q x.state) f.0 f.1.alone
actor-alone m a (part.Daemon x) f = subst (λ q. IsReachedAlone m (policy_answer m.policy) q (state_in m (part.Daemon x)))
    (sym f.0) f.1.alone

-- no processor makes more turns than its budget
pub turns-most : (m : Machine) (a : ℕ) (x : Part) → IsTrue (is_machine m) → PartFits m a x → (state_in m x).turns ≤ m.budget
turns-most m a x limits fits =
    (private_ok m (policy_answer m.policy) a (state_in m x) limits (actor-below m a x fits) (actor-alone m a x fits)).standing.turns_most

-- ---- its next operation is on a word of the machine

alone-more :
    (m : Machine) (answer : Answer) (a : ℕ) (p : Private) (found : List ℕ) → IsReachedAlone m answer a p
    → IsReachedAlone m answer a (fold (after m answer a) p found)
alone-more m answer a p [] r = r
alone-more m answer a p (n ∷ ns) r = alone-more m answer a (after m answer a p n) ns (alone-after m answer a p n r)

same-next : (x y : ℕ × Op) → Some x ≡ Some y → x ≡ y
same-next x y e = cc

next-within :
    (m : Machine) (a : ℕ) (p : Private) (x : ℕ × Op) → IsTrue (is_machine m) → a < actor_count m
    → IsReachedAlone m (policy_answer m.policy) a p → next_of m (policy_answer m.policy) a p ≡ Some x → x.0 < word_count m
unfolding next_of
next-within m a p x limits within alone e =
    within-by m (named_next m (policy_answer m.policy) a p p.place) x (names_word m (policy_answer m.policy) a p limits within alone) e

pub stays-within : (m : Machine) (a : ℕ) (x : Part) → IsTrue (is_machine m) → PartFits m a x → StaysWithin m a (state_in m x)
stays-within m a x limits fits = λ found y next.
    next-within m a (fold (after m (policy_answer m.policy) a) (state_in m x) found) y limits (actor-below m a x fits)
    (alone-more m (policy_answer m.policy) a (state_in m x) found (actor-alone m a x fits)) next

same-held : (g h : Held) → Some g ≡ Some h → g ≡ h
same-held g h e = cc

pub stays-within_at :
    (m : Machine) (j : ℕ) (v : Known) (x : Actor) → IsTrue (is_machine m) → Fits m x → v.machine ≡ m → slice_get v.crew j ≡ Some (held m x)
    → StaysWithinAt j v
stays-within_at m j v x limits fits knows there = λ h e.
    subst (λ (mm : Machine). StaysWithin mm h.0 h.1) (sym knows)
    (subst (λ (k : Held). StaysWithin m k.0 k.1) (same-held (held m x) h (sym there ∙ e)) (stays-within m x.number x.part limits fits))
