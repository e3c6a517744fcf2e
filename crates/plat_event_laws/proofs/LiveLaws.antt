-- live actors: those that a schedule may choose are those with a next event, and in states with the invariant the processors
-- among them are those whose end is cut
use Rattle.std.specs.Prelude.{◌≡◌, ℕ, zero, suc, ◌<◌, ◌||◌, not, Bool, true, false, List, [], ◌∷◌, map, filter, length, take, Option, Some}
use Rattle.std.specs.Prelude.{None, slice_get}
use Rattle.std.proofs.Common.{refl, ap, sym, ◌∙◌, arith}
use Rattle.std.specs.Option.{option_map, option_map_or}
use Rattle.std.specs.List.{list_any}
use Rattle.std.proofs.lemmas.Bool.{true≢false, not-true}
use Rattle.std.proofs.lemmas.Bool.Decides.{nat_tests}
use Rattle.std.proofs.lemmas.Option.{slice_get_within}
use Rattle.plat_base.specs.Verdicts.{Answer}
use Rattle.plat_base.specs.Machine.{Machine}
use Rattle.plat_base.specs.Pages.{numbers}
use Rattle.plat_base.specs.Alike.{same_end}
use Rattle.plat_base.specs.declared.endings.End.{End}
use Rattle.plat_base.specs.declared.endings.End.TheVariants as end
use Rattle.plat_base.specs.declared.endings.Ended.{Ended}
use Rattle.plat_base.specs.declared.words.Op.{Op}
use Rattle.plat_base.specs.declared.words.WordName.{WordName}
use Rattle.plat_events.specs.Privates.{Place, Polling, Looking, Applying, Ticking, Switching, Loading, Expecting, Exchanging, Locking}
use Rattle.plat_events.specs.Privates.{InSession, Leaving, Lessening, Gone, LiveLooking, TimeLooking, Over, Private, is_over}
use Rattle.plat_events.specs.Events.{named_next, placed, next_of}
use Rattle.plat_events.specs.Runs.{Fine, IsLive, end_at, ended_by, live_actors}
use Rattle.plat_events.specs.Shown.{goes_to}
use Rattle.plat_local_laws.specs.Standing.{PlaceOk, EndingOk}
use Rattle.plat_fine_laws.proofs.ViewFactLaws.{among-range}
use Rattle.plat_base.proofs.ChoiceLemmas.{among, filter-among}

-- ---- an actor has a next operation until it is over

module _ (m : Machine) (answer : Answer) (a : ℕ) (p : Private) where
  next-named : (place : Place) → is_over place ≡ false → (x : WordName × Op) × (named_next m answer a p place ≡ Some x)
  next-named (Polling onward) h = (_, refl)
  next-named (Looking i moment onward) h = (_, refl)
  next-named (Applying i message moment onward) h = (_, refl)
  next-named Ticking h = (_, refl)
  next-named (Switching space) h = (_, refl)
  next-named Loading h = (_, refl)
  next-named Expecting h = (_, refl)
  next-named (Exchanging seen) h = (_, refl)
  next-named (Locking fault) h = (_, refl)
  next-named (InSession session) h = (_, refl)
  next-named (Leaving e) h = (_, refl)
  next-named (Lessening e) h = (_, refl)
  next-named (Gone e) h = absurd cc
  next-named LiveLooking h = (_, refl)
  next-named TimeLooking h = (_, refl)
  next-named Over h = absurd cc

  named-goes_on : (place : Place) (x : WordName × Op) → named_next m answer a p place ≡ Some x → is_over place ≡ false
  named-goes_on (Polling onward) x h = refl
  named-goes_on (Looking i moment onward) x h = refl
  named-goes_on (Applying i message moment onward) x h = refl
  named-goes_on Ticking x h = refl
  named-goes_on (Switching space) x h = refl
  named-goes_on Loading x h = refl
  named-goes_on Expecting x h = refl
  named-goes_on (Exchanging seen) x h = refl
  named-goes_on (Locking fault) x h = refl
  named-goes_on (InSession session) x h = refl
  named-goes_on (Leaving e) x h = refl
  named-goes_on (Lessening e) x h = refl
  named-goes_on (Gone e) x h = absurd cc
  named-goes_on LiveLooking x h = refl
  named-goes_on TimeLooking x h = refl
  named-goes_on Over x h = absurd cc

mapped-some : {A B : Type 0} (f : A → B) (o : Option A) (y : B) → option_map f o ≡ Some y → (x : A) × (o ≡ Some x)
mapped-some f None y h = absurd cc
mapped-some f (Some x) y h = (x, refl)

-- ---- the list that a schedule chooses from

abbrev goes_on : List Private → ℕ → Bool
goes_on privates a = option_map_or (λ (p : Private). not (is_over p.place)) (slice_get privates a) false

module _ (m : Machine) (answer : Answer) (s : Fine) (a : ℕ) where
  -- an actor that is not over is live
  pub live-private : (p : Private) → slice_get s.privates a ≡ Some p → is_over p.place ≡ false → IsLive m answer s a
  unfolding next_of
  live-private p here goes =
      let named = next-named m answer a p p.place goes in (p, here, placed m named.0, ap (option_map (placed m)) named.1)

  live-goes_on : (live : IsLive m answer s a) → is_over live.0.place ≡ false
  unfolding next_of
  live-goes_on live =
      let named = mapped-some (placed m) (named_next m answer a live.0 live.0.place) live.2 live.3 in
      named-goes_on m answer a live.0 live.0.place named.0 named.1

  -- one that may be chosen is live
  pub among-live : among a (live_actors s.privates) ≡ true → IsLive m answer s a
  among-live h = by (slice_get s.privates a) refl (filter-among (goes_on s.privates) (numbers (length s.privates)) a h)
    where
      by : (o : Option Private) → slice_get s.privates a ≡ o →
          option_map_or (λ (p : Private). not (is_over p.place)) o false ≡ true → IsLive m answer s a
      by None here goes = absurd cc
      by (Some p) here goes = live-private p here (not-true (is_over p.place) goes)

  -- one that is live may be chosen
  pub live-among : IsLive m answer s a → among a (live_actors s.privates) ≡ true
  live-among live =
      among-range (goes_on s.privates) 0 (length s.privates) a (omega arith)
      (let within = slice_get_within s.privates a live.0 live.1 in omega (arith, within))
      (ap (λ o. option_map_or (λ (p : Private). not (is_over p.place)) o false) live.1 ∙ ap not (live-goes_on live))

  -- so where nobody may be chosen nobody is live
  pub none-live : live_actors s.privates ≡ [] → IsLive m answer s a → ⊥
  none-live none live = true≢false (sym (live-among live) ∙ ap (among a) none)

-- ---- the ends of processors

-- a processor that ended so, or has not ended
pub record EndsSo (n : ℕ) (privates : List Private) (e : End) : Type 0 where
  pub actor : ℕ
  pub processor : actor < n
  pub private : Private
  pub stands : slice_get privates actor ≡ Some private
  pub ends : same_end (end_at private.place) e ≡ true

pub ends-so :
    (n : ℕ) (privates : List Private) (e : End) →
    list_any (λ (x : Ended). same_end x.end e) (map ended_by (take n privates)) ≡ true → EndsSo n privates e
ends-so zero privates e h = absurd cc
ends-so (suc n) [] e h = absurd cc
ends-so (suc n) (p ∷ privates) e h = by (same_end (end_at p.place) e) refl h (λ there. ends-so n privates e there)
  where
    by : (b : Bool) → same_end (end_at p.place) e ≡ b →
        (b || list_any (λ (x : Ended). same_end x.end e) (map ended_by (take n privates))) ≡ true →
        (list_any (λ (x : Ended). same_end x.end e) (map ended_by (take n privates)) ≡ true → EndsSo n privates e) →
        EndsSo (suc n) (p ∷ privates) e
    by true here any more = record { actor = 0; processor = omega arith; private = p; stands = refl; ends = here }
    by false here any more =
        let found = more any in
        record {
          actor = suc found.actor;
          processor = let inner = found.processor in omega (arith, inner);
          private = found.private;
          stands = found.stands;
          ends = found.ends;
        }

-- a processor whose end is cut is not over
gone-uncut : (m : Machine) (a : ℕ) (p : Private) (e : End) → EndingOk m a p e → same_end e end.Cut ≡ true → ⊥
gone-uncut m a p end.Halted ok h = cc
gone-uncut m a p end.Trapped ok h = cc
gone-uncut m a p end.Spent ok h = cc
gone-uncut m a p end.NoFrames ok h = cc
gone-uncut m a p end.Cut ok h = ok.end

pub cut-goes_on :
    (m : Machine) (answer : Answer) (a : ℕ) (p : Private) (place : Place) → PlaceOk m answer a p place → a < m.nodes →
    same_end (end_at place) end.Cut ≡ true → is_over place ≡ false
cut-goes_on m answer a p (Polling onward) ok node h = refl
cut-goes_on m answer a p (Looking i moment onward) ok node h = refl
cut-goes_on m answer a p (Applying i message moment onward) ok node h = refl
cut-goes_on m answer a p Ticking ok node h = refl
cut-goes_on m answer a p (Switching space) ok node h = refl
cut-goes_on m answer a p Loading ok node h = refl
cut-goes_on m answer a p Expecting ok node h = refl
cut-goes_on m answer a p (Exchanging seen) ok node h = refl
cut-goes_on m answer a p (Locking fault) ok node h = refl
cut-goes_on m answer a p (InSession session) ok node h = refl
cut-goes_on m answer a p (Leaving e) ok node h = refl
cut-goes_on m answer a p (Lessening e) ok node h = refl
cut-goes_on m answer a p (Gone e) ok node h = absurd (gone-uncut m a p e ok h)
cut-goes_on m answer a p LiveLooking ok node h = refl
cut-goes_on m answer a p TimeLooking ok node h = refl
cut-goes_on m answer a p Over ok node h = absurd (omega arith)

-- one that ended for want of frames goes to that end
end_no_frames : (e : End) → same_end e end.NoFrames ≡ true → e ≡ end.NoFrames
end_no_frames end.Halted h = absurd cc
end_no_frames end.Trapped h = absurd cc
end_no_frames end.Spent h = absurd cc
end_no_frames end.NoFrames h = refl
end_no_frames end.Cut h = absurd cc

pub starved-goes_to : (place : Place) → same_end (end_at place) end.NoFrames ≡ true → goes_to place ≡ Some end.NoFrames
starved-goes_to (Polling onward) h = absurd cc
starved-goes_to (Looking i moment onward) h = absurd cc
starved-goes_to (Applying i message moment onward) h = absurd cc
starved-goes_to Ticking h = absurd cc
starved-goes_to (Switching space) h = absurd cc
starved-goes_to Loading h = absurd cc
starved-goes_to Expecting h = absurd cc
starved-goes_to (Exchanging seen) h = absurd cc
starved-goes_to (Locking fault) h = absurd cc
starved-goes_to (InSession session) h = absurd cc
starved-goes_to (Leaving e) h = absurd cc
starved-goes_to (Lessening e) h = absurd cc
starved-goes_to (Gone e) h = ap (λ (x : End). Some x) (end_no_frames e h)
starved-goes_to LiveLooking h = absurd cc
starved-goes_to TimeLooking h = absurd cc
starved-goes_to Over h = absurd cc
