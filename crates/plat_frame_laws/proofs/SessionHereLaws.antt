-- an actor in a session: what it alone says of it, and its private state behind the operation
use Rattle.std.specs.Prelude.{◌≡◌, ℕ, ◌<◌, if◌then◌else◌, true, Some, None, IsTrue, slice_get}
use Rattle.std.proofs.Common.{refl, ap, sym, ◌∙◌, inl, inr, arith, subst}
use Rattle.std.proofs.lemmas.Bool.{true≢false}
use Rattle.plat_base.specs.Verdicts.{Answer}
use Rattle.plat_base.specs.Machine.{Machine}
use Rattle.plat_base.specs.Rules.{names_got}
use Rattle.plat_base.specs.declared.items.Action.{Action}
use Rattle.plat_base.specs.declared.items.Action.TheVariants as action
use Rattle.plat_base.specs.declared.words.Op.{Op}
use Rattle.plat_base.specs.declared.words.WordName.{WordName}
use Rattle.plat_events.specs.Sessions.{Course, Phase, Session, decision_of, session_next}
use Rattle.plat_events.specs.Privates.{InSession, Private, actor_count}
use Rattle.plat_events.specs.Events.{is_followed, session_moved, session_item, with_item}
use Rattle.plat_events.specs.Kept.{private_of}
use Rattle.plat_events.specs.Runs.{Fine}
use Rattle.plat_events.specs.Shown.{IsReachedAlone, Shows}
use Rattle.plat_laws.specs.Guests.{IsWithinLimits}
use Rattle.plat_laws.proofs.TableLaws.{DecideFacts}
use Rattle.plat_local_laws.specs.Phases.{CourseOk, SessionOk, fills_words}
use Rattle.plat_local_laws.specs.Standing.{PlaceOk}
use Rattle.plat_local_laws.proofs.CourseLaws.{IsActor, fault_decides, thaw_decides}
use Rattle.plat_local_laws.proofs.StandingLaws.{actor-is}
use Rattle.plat_fine_laws.proofs.PrivateLaws.{private_of-get}
use Rattle.plat_fine_laws.proofs.ReachedLaws.{reached-moved}
use Rattle.plat_frame_laws.proofs.HandLaws.{alone}

pub fills-got : (act : Action) → fills_words act ≡ true → (act ≡ action.Fill) × (names_got act ≡ true)
fills-got action.Fill h = (refl, refl)
fills-got action.MapLocal h = absurd cc
fills-got action.MapRemote h = absurd cc
fills-got action.Replicate h = absurd cc
fills-got action.Migrate h = absurd cc
fills-got action.Collapse h = absurd cc
fills-got action.Thaw h = absurd cc

module _ (m : Machine) (answer : Answer) (s : Fine) (a : ℕ) (x : Session) (limits : IsWithinLimits m) (shows : Shows m answer s)
    (within : a < actor_count m) (stands : (private_of m s a).place ≡ InSession x) where
  abbrev p : Private
  p = private_of m s a

  pub here : slice_get s.privates a ≡ Some (private_of m s a)
  here = private_of-get m s a (omega (arith, shows.all_privates))

  pub session : SessionOk m answer a (private_of m s a) x
  session = subst (PlaceOk m answer a p) stands (alone m answer s limits shows a within).standing.place

  -- the private state behind an operation of this phase that told n is one that the actor alone comes to
  pub reached-session :
      (phase : Phase) (name : WordName) (operation : Op) (n : ℕ) → x.phase ≡ phase →
      session_next m answer a (private_of m s a).now x phase ≡ (name, operation) → IsTrue (is_followed m (Some (name, operation)) n) →
      IsReachedAlone m answer a
      (record (session_moved m answer a (private_of m s a) n x phase) {
        journal = with_item (private_of m s a).journal (session_item m answer a (private_of m s a).now x phase);
      })
  reached-session phase name operation n is next found =
      subst
      (λ (ph : Phase). IsReachedAlone m answer a
      (record (session_moved m answer a p n x ph) { journal = with_item p.journal (session_item m answer a p.now x ph) }))
      is
      (reached-moved m answer a p (InSession x) n name operation (shows.reached_alone a within) stands
      (ap (λ (ph : Phase). Some (session_next m answer a p.now x ph)) is ∙ ap (λ (y : WordName × Op). Some y) next) found)

  -- the frame that an action takes is the one in hand, and only a fault takes one
  pub taken :
      (c : Course) → CourseOk m answer a (private_of m s a) x c → names_got (decision_of m answer a (private_of m s a).now x c).action ≡
      true →
      DecideFacts m x.dir c.got x.fault.cause (decision_of m answer a (private_of m s a).now x c)
      × (c.got ≡ Some (decision_of m answer a (private_of m s a).now x c).frame)
  taken c ok names = by (actor-is m a within)
    where
      by :
          IsActor m a →
          DecideFacts m x.dir c.got x.fault.cause (decision_of m answer a p.now x c) × (c.got ≡ Some (decision_of m answer a p.now x
          c).frame)
      by (inl processor) =
          let facts = fault_decides m answer a p x c session.fault ok processor in
          (facts, sym facts.got_back ∙ ap (λ b. if b then Some (decision_of m answer a p.now x c).frame else None) names)
      by (inr daemon) =
          let facts = (thaw_decides m answer a p x c session.fault ok daemon).0 in
          absurd (true≢false (sym names ∙ ap names_got facts.action))
