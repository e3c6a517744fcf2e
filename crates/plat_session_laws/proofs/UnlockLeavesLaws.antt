-- the unlock with a change leaves all other pages, and what it leaves of its actor
use Rattle.std.specs.Prelude.{◌≡◌, ℕ, ◌+◌, ◌==◌, nat_lt, if◌then◌else◌, Bool, true, false, List, map, Option, Some, None}
use Rattle.std.proofs.Common.{refl, ap, sym, ◌∙◌, arith}
use Rattle.std.specs.Option.{option_map_or}
use Rattle.plat_base.specs.Verdicts.{Answer}
use Rattle.plat_base.specs.Machine.{Machine}
use Rattle.plat_base.specs.GuestRun.{Reach}
use Rattle.plat_base.specs.Flat.{is_write}
use Rattle.plat_base.specs.Held.{has_right}
use Rattle.plat_base.specs.Messages.{removes_some}
use Rattle.plat_base.specs.Cache.{without_page}
use Rattle.plat_base.specs.Cache.{Place as CachePlace}
use Rattle.plat_base.specs.Accesses.{cause_of}
use Rattle.plat_base.specs.declared.endings.End.{End}
use Rattle.plat_base.specs.declared.endings.End.TheVariants as end
use Rattle.plat_base.specs.declared.items.Item.{Item}
use Rattle.plat_base.specs.declared.items.Item.TheVariants as item
use Rattle.plat_events.specs.Sessions.{Course, Session, change_made, decision_of}
use Rattle.plat_events.specs.Privates.{Place, InSession, Locking, LiveLooking, Loading, Expecting, Private, translation_at}
use Rattle.plat_events.specs.Events.{at, entry_of, page_done, places_filled, look_up, reach_now, forget_page, unlocked, with_item}
use Rattle.plat_events.specs.Kept.{session_of}
use Rattle.plat_events.specs.Shown.{actor_of, goes_to}
use Rattle.plat_fine_laws.specs.Changes.{IsBy}
use Rattle.plat_session_laws.specs.OnePage.{ActorGoes, IsSteady}
use Rattle.plat_session_laws.proofs.SteadyLaws.{steady-goes, steady-session}

-- what the unlock leaves of the actor: the next page's lock or the end of a pass for the daemon, the look-up for a processor
pub record Unlocks (m : Machine) (p after : Private) : Type 0 where
  pub steady : IsSteady m after
  pub turns : after.turns ≡ p.turns
  pub now : after.now ≡ p.now
  pub space : after.guest.space ≡ p.guest.space
  pub pmap : after.pmap ≡ p.pmap
  pub session : session_of after.place ≡ None
  pub goes : goes_to after.place ≡ None

module _ (m : Machine) (p : Private) (journal : List Item) where
  abbrev with_journal : Private → Private
  with_journal q = record q { journal = journal }

  done-unlocks : (page : ℕ) (more : Bool) (due : ℕ) (next : Place) → IsSteady m (with_journal (at p next)) → session_of next ≡ None →
      goes_to next ≡ None →
      Unlocks m p (with_journal (if more then at p next else record p { due = due; place = LiveLooking }))
  done-unlocks page true due next steady none on =
      record { steady = steady; turns = refl; now = refl; space = refl; pmap = refl; session = none; goes = on }
  done-unlocks page false due next steady none on = search arith

  either : (b : Bool) (x y : Private) → Unlocks m p (with_journal x) → Unlocks m p (with_journal y) →
      Unlocks m p (with_journal (if b then x else y))
  either true x y hx hy = hx
  either false x y hx hy = hy

  done-page : (page : ℕ) → Unlocks m p (with_journal (page_done m p page))
  done-page page =
      done-unlocks page (nat_lt (page + 1) m.pages) _ (Locking _)
      (record { over = refl; left = refl; ended = refl; scan = refl; message = refl })
      refl refl

  -- a look-up leads to an access or to a lock
  looks-if :
      (q : Private) (b c : Bool) (x y z : Place) (atc : List (Option CachePlace)) →
      Unlocks m p (with_journal (record q { atc = atc; place = x })) →
      Unlocks m p (with_journal (record q { atc = atc; place = y })) → Unlocks m p (with_journal (record q { atc = atc; place = z })) →
      Unlocks m p (with_journal (record q { atc = atc; place = if b then if c then x else y else z }))
  looks-if q true true x y z atc hx hy hz = hx
  looks-if q true false x y z atc hx hy hz = hy
  looks-if q false c x y z atc hx hy hz = hz

  looked-up : (atc : List (Option CachePlace)) (r : Reach) → Unlocks m p (with_journal (look_up m r (record p { atc = atc })))
  looked-up atc r =
      looks-if (record p { atc = atc }) (has_right r.kind (translation_at p (entry_of m r))) (is_write r.kind) Expecting Loading
      (Locking (record { page = r.page; entry = Some (entry_of m r); cause = cause_of r.kind }))
      (if has_right r.kind (translation_at p (entry_of m r)) then places_filled m atc r else atc)
      (search arith) (search arith) (search arith)

pub unlocks :
    (m : Machine) (answer : Answer) (a : ℕ) (p : Private) (x : Session) (c : Course) (journal : List Item) →
    Unlocks m p (record (unlocked m answer a p x c) { journal = journal })
unlocks m answer a p x c journal =
    either m p journal (a == m.nodes) (page_done m p x.fault.page)
    (look_up m (reach_now m a p) (forget_page m x.fault.page (decision_of m answer a p.now x c).removed p))
    (done-page m p journal x.fault.page)
    (looked-up m p journal
    (if removes_some (decision_of m answer a p.now x c).removed then map (without_page m x.fault.page) p.atc else p.atc) (reach_now m a p))

-- so its session ends, and nothing else of it is another but its journal
pub unlock-goes :
    (m : Machine) (answer : Answer) (a : ℕ) (p : Private) (x : Session) (c : Course) → p.place ≡ InSession x →
    ActorGoes m a p
    (record (unlocked m answer a p x c) { journal = with_item p.journal (Some (item.Change (change_made m answer a p.now x c))) })
    (Some (item.Change (change_made m answer a p.now x c))) x.fault.page
unlock-goes m answer a p x c stands =
    let ends = unlocks m answer a p x c (with_item p.journal (Some (item.Change (change_made m answer a p.now x c)))) in
    steady-goes m a p (record (unlocked m answer a p x c) {
      journal =
          with_item p.journal (Some (item.Change (change_made m answer a p.now x c)));
    })
    (Some (item.Change (change_made m answer a p.now x c))) x.fault.page (steady-session m p x stands) ends.steady ends.turns ends.now
    ends.space
    refl own (λ enough e. absurd (no-end ends.goes e)) (λ y e. was-on y (sym (ap session_of stands) ∙ e))
    (λ y e. absurd (no-session ends.session e))
  where
    own : IsBy a (Some (item.Change (change_made m answer a p.now x c)))
    own i e = ap (λ o. option_map_or actor_of o a) (sym e)

    was-on : (y : Session) → Some x ≡ Some y → y.fault.page ≡ x.fault.page
    was-on y e = ap (λ o. option_map_or (λ (z : Session). z.fault.page) o x.fault.page) (sym e)

    no-session : {o : Option Session} {y : Session} → o ≡ None → o ≡ Some y → ⊥
    no-session none some = cc

    no-end : {o : Option End} → o ≡ None → o ≡ Some end.NoFrames → ⊥
    no-end none some = cc
