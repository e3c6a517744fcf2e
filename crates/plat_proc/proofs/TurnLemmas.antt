-- what stands at the place of a processor, and what its operation makes of its private state there
use Rattle.std.proofs.Common.{◌≡◌, ℕ, ◌*◌, ◌<◌, ◌≤◌, Bool, true, false, List, [], ◌∷◌, ◌++◌, length, refl, sym, ap, ◌∙◌}
use Rattle.std.proofs.Common.{subst, inl, arith, rules}
use Rattle.std.specs.Prelude.{IsTrue, Option, Some, None, IfSome, IsSome, if◌then◌else◌}
use Rattle.std.proofs.lemmas.Bool.{eq-eqb}
use Rattle.std.proofs.lemmas.Bool.Decides.{nat_tests}
use Rattle.plat_base.specs.Machine.{Machine, is_machine}
use Rattle.plat_base.specs.Pages.{entries_of_space}
use Rattle.plat_base.specs.Cache.{no_places}
use Rattle.plat_base.specs.Cache.{Place as CachePlace}
use Rattle.plat_base.specs.GuestRun.{GuestState, guest_after}
use Rattle.plat_base.specs.declared.items.Item.{Item}
use Rattle.plat_base.specs.declared.items.Item.TheVariants as item
use Rattle.plat_base.specs.declared.items.Message.{Message}
use Rattle.plat_base.specs.declared.items.Moment.{Moment}
use Rattle.plat_base.specs.declared.items.Moment.TheVariants as moment
use Rattle.plat_events.specs.Words.{version_read}
use Rattle.plat_events.specs.Places.{is_data_word}
use Rattle.plat_events.specs.Privates as events
use Rattle.plat_events.specs.Privates.{Private, Place}
use Rattle.plat_events.specs.Scans.{entry_scanned, go_on, scan_from}
use Rattle.plat_events.specs.Events.{access_made, is_followed, item_at, named_next}
use Rattle.plat_handler.specs.HandlerSeen.{HandlerSeen, HandlesOn}
use Rattle.plat_handler.specs.Stages.{Stage, Locks, Relocks, Runs, Rewaits, Returned, Changed, place_in, stage_polled}
use Rattle.plat_handler.specs.Phases.{answer_of}
use Rattle.plat_local_laws.specs.Faults.{AccessOk}
use Rattle.plat_local_laws.specs.Standing.{PlaceOk, StandingOk}
use Rattle.plat_local_laws.proofs.AloneLaws.{alone-keeps}
use Rattle.plat_local_laws.proofs.FootLaws.{space_moved, moved-space}
use Rattle.plat_local_laws.proofs.SpaceLaws.{first-space, switch-space}
use Rattle.plat_local_laws.proofs.StandingLaws.{standing-kept, standing-first}
use Rattle.plat_local_laws.proofs.CourseLaws.{IsActor}
use Rattle.plat_proc.specs.ProcSeen.{ProcSeen}
use Rattle.plat_proc.specs.Fits.{Fits, IsHandling}
use Rattle.plat_proc.specs.Followed.{HasRoomFor, followed_at, followed_next, is_told, next_named}
use Rattle.plat_proc.specs.Onwards.{MayGo, handler_at}
use Rattle.plat_proc.specs.Places.{HandlesWell, is_access, place_seen}
use Rattle.plat_proc.specs.Reached.{MayAccess}
use Rattle.plat_proc.specs.declared.places.Place.TheVariants as place
use Rattle.plat_proc.specs.declared.places.Place as code
use Rattle.plat_proc.specs.declared.procs.Proc.TheInside.{Inside}
use Rattle.plat_proc.specs.contracts.procs.Proc.{the_view}
use Rattle.plat_proc.specs.Cached.{slots_at, slots_followed}
use Rattle.plat_proc.proofs.FitsLemmas.{room-left, stands}
use Rattle.plat_local_laws.proofs.WordLaws.{turns-few}

-- ---- the place

pub place-here :
    (inside : Inside) (x : ProcSeen) (place : code.Place) → the_view inside ≡ x → inside.place ≡ place
    → x.state.place ≡ place_seen inside.handler place
place-here inside x place e is = sym (ap (λ (y : ProcSeen). y.state.place) e) ∙ ap (place_seen inside.handler) is

pub place-stands :
    (m : Machine) (x : ProcSeen) (place : Place) → IsTrue (is_machine m) → Fits m x → x.state.place ≡ place
    → PlaceOk m (answer_of m) x.actor x.state place
place-stands m x place h f e = subst (PlaceOk m (answer_of m) x.actor x.state) e (stands m x h f).standing.place

pub followed-here :
    (m : Machine) (x : ProcSeen) (n : ℕ) (place : Place) → x.state.place ≡ place
    → followed_next m x n ≡ followed_at m x.actor x.state n place
followed-here m x n place e = ap (followed_at m x.actor x.state n) e

pub slots-here :
    (m : Machine) (x : ProcSeen) (place : Place) → x.state.place ≡ place
    → slots_followed m x ≡ slots_at m x.actor x.state x.slots place
slots-here m x place e = ap (slots_at m x.actor x.state x.slots) e

pub next-here :
    (m : Machine) (x : ProcSeen) (place : Place) → x.state.place ≡ place
    → next_named m x ≡ named_next m (answer_of m) x.actor x.state place
next-here m x place e = ap (named_next m (answer_of m) x.actor x.state) e

pub told-here :
    (m : Machine) (x : ProcSeen) (n : ℕ) (place : Place) → x.state.place ≡ place → is_told m x n ≡ true
    → is_followed m (named_next m (answer_of m) x.actor x.state place) n ≡ true
told-here m x n place e t = sym (ap (λ (y : Place). is_followed m (named_next m (answer_of m) x.actor x.state y) n) e) ∙ t

-- there is room for the item that the operation makes at its place
pub room-here :
    (m : Machine) (x : ProcSeen) (n : ℕ) (place : Place) (i : Item) → IsTrue (is_machine m) → Fits m x → is_told m x n ≡ true
    → x.state.place ≡ place → item_at m (answer_of m) x.actor x.state n place ≡ Some i → length x.state.journal < x.room
room-here m x n place i h f t e k = room-left m x n i h f t (ap (item_at m (answer_of m) x.actor x.state n) e ∙ k)

pub room-applied :
    (m : Machine) (x : ProcSeen) (n i : ℕ) (msg : Message) (moment : Moment) (o : events.Onward) → IsTrue (is_machine m) → Fits m x
    → is_told m x n ≡ true → x.state.place ≡ events.Applying i msg moment o → HasRoomFor x (entry_scanned m x.state i) msg
room-applied m x n i msg moment o h f t e k =
    let it = item.Applied (record { actor = x.actor; entry = entry_scanned m x.state i; message = msg; moment = moment }) in
    room-here m x n (events.Applying i msg moment o) it h f t e (ap (λ (b : Bool). if b then Some it else None) k)

pub room-exchanged :
    (m : Machine) (x : ProcSeen) (n seen : ℕ) → IsTrue (is_machine m) → Fits m x → is_told m x n ≡ true
    → x.state.place ≡ events.Exchanging seen → n ≡ seen → length x.state.journal < x.room
room-exchanged m x n seen h f t e k =
    room-here m x n (events.Exchanging seen) (access_made m x.actor x.state n) h f t e
    (ap (λ (b : Bool). if b then Some (access_made m x.actor x.state n) else None) (eq-eqb n seen k))

-- ---- an access

access-at :
    (m : Machine) (a : ℕ) (p : Private) (place : Place) → PlaceOk m (answer_of m) a p place → IsTrue (is_access place)
    → (writes : Bool) × AccessOk m a p writes
access-at m a p (events.Polling onward) k t = absurd cc
access-at m a p (events.Looking i moment onward) k t = absurd cc
access-at m a p (events.Applying i message moment onward) k t = absurd cc
access-at m a p events.Ticking k t = absurd cc
access-at m a p (events.Switching space) k t = absurd cc
access-at m a p events.Loading k t = (false, k)
access-at m a p events.Expecting k t = (true, k)
access-at m a p (events.Exchanging seen) k t = (true, k.access)
access-at m a p (events.Locking fault) k t = absurd cc
access-at m a p (events.InSession session) k t = absurd cc
access-at m a p (events.Leaving e) k t = absurd cc
access-at m a p (events.Lessening e) k t = absurd cc
access-at m a p (events.Gone e) k t = absurd cc
access-at m a p events.LiveLooking k t = absurd cc
access-at m a p events.TimeLooking k t = absurd cc
access-at m a p events.Over k t = absurd cc

pub may-access :
    (m : Machine) (x : ProcSeen) → IsTrue (is_machine m) → Fits m x → IsTrue (is_access x.state.place) → MayAccess m x
may-access m x h f t =
    let standing = (stands m x h f).standing in
    let k = (access-at m x.actor x.state x.state.place standing.place t).1 in
    record { processor = k.processor; wants = k.wants; right = k.right; entries = standing.all_entries }

-- ---- numbers

pub version-below : (m : Machine) (n : ℕ) → IsTrue (is_machine m) → IsTrue (is_data_word m n) → version_read n < 4294967295
version-below m n h w = let few = turns-few m h in let most : version_read n ≤ m.nodes * m.budget = grind (arith, nat_tests) in omega arith

-- ---- the active space

record IsIn (m : Machine) (a : ℕ) (p : Private) : Type 0 where
  standing : StandingOk m (answer_of m) a p
  space : p.guest.space < 8

space-moved :
    (m : Machine) (a : ℕ) (p : Private) (place : Place) → IsTrue (is_machine m) → a < m.nodes → p.guest.space < 8
    → PlaceOk m (answer_of m) a p place → space_moved p place < 8
space-moved m a p (events.Polling onward) h l s k = s
space-moved m a p (events.Looking i moment onward) h l s k = s
space-moved m a p (events.Applying i message moment onward) h l s k = s
space-moved m a p events.Ticking h l s k = s
space-moved m a p (events.Switching space) h l s k = switch-space m a p.guest space h l k.wants
space-moved m a p events.Loading h l s k = s
space-moved m a p events.Expecting h l s k = s
space-moved m a p (events.Exchanging seen) h l s k = s
space-moved m a p (events.Locking fault) h l s k = s
space-moved m a p (events.InSession session) h l s k = s
space-moved m a p (events.Leaving e) h l s k = s
space-moved m a p (events.Lessening e) h l s k = s
space-moved m a p (events.Gone e) h l s k = s
space-moved m a p events.LiveLooking h l s k = s
space-moved m a p events.TimeLooking h l s k = s
space-moved m a p events.Over h l s k = s

-- a processor is active in a space of the machine
pub space-below : (m : Machine) (x : ProcSeen) → IsTrue (is_machine m) → Fits m x → x.state.guest.space < 8
space-below m x h f =
    let answer = answer_of m in let a = x.actor in
    let actor : IsActor m a = inl f.processor in
    (alone-keeps m answer a (IsIn m a)
    (λ p n e k. record {
      standing = standing-kept m answer a p n h actor e k.standing;
      space = rw (moved-space m answer a p n p.place k.standing.place) (space-moved m a p p.place h f.processor k.space k.standing.place);
    })
    (record { standing = standing-first m answer a h actor; space = first-space m a h f.processor }) x.state f.alone).space

-- ---- scans

pub scan_from-past :
    (m : Machine) (turns space i : ℕ) (moment : Moment) (o : events.Onward) → length (entries_of_space m space) ≤ i
    → scan_from m turns space i moment o ≡ go_on m turns o
scan_from-past m turns space i moment o l = grind (arith, nat_tests)

-- ---- where no fault is under way

pub may-none : (at : code.Place) → MayGo None at → HandlesWell None at
may-none (place.Polling o) h = h
may-none (place.Looking i moment o) h = h
may-none (place.Applying i message moment o) h = h
may-none place.Ticking h = h
may-none (place.Switching space) h = h
may-none place.Loading h = h
may-none place.Expecting h = h
may-none (place.Exchanging seen) h = h
may-none place.Faulting h = h
may-none (place.Leaving e) h = h
may-none (place.Lessening e) h = h
may-none (place.Gone e) h = h

pub handler_at-none : (at : code.Place) → handler_at None at ≡ None
handler_at-none (place.Polling o) = refl
handler_at-none (place.Looking i moment o) = refl
handler_at-none (place.Applying i message moment o) = refl
handler_at-none place.Ticking = refl
handler_at-none (place.Switching space) = refl
handler_at-none place.Loading = refl
handler_at-none place.Expecting = refl
handler_at-none (place.Exchanging seen) = refl
handler_at-none place.Faulting = refl
handler_at-none (place.Leaving e) = refl
handler_at-none (place.Lessening e) = refl
handler_at-none (place.Gone e) = refl

pub switched-here :
    (m : Machine) (a n space : ℕ) (p : Private) (g : GuestState) (atc : List (Option CachePlace)) (there : Place) (journal : List Item)
    → p.place ≡ events.Switching space → g ≡ guest_after m a p.guest 0 → atc ≡ no_places
    → there ≡ scan_from m p.turns space 0 moment.Activation events.TurnOver
    → journal ≡ p.journal ++ item.Switch (record { actor = a; space = space }) ∷ []
    → record p { guest = g; atc = atc; place = there; journal = journal } ≡ followed_at m a p n p.place
switched-here m a n space p g atc there journal e eg ea et ej =
    rw (eg, ea, et, ej) (sym (ap (followed_at m a p n) e))

-- ---- the handler of a fault

pub handling-kept :
    (m : Machine) (a b : ℕ) (p q : Private) (h k : Option HandlerSeen) → IfSome h (IsHandling m a p) → k ≡ h → b ≡ a → q.now ≡ p.now
    → IfSome k (IsHandling m b q)
handling-kept m a b p q None k i e c n = rw e tt
handling-kept m a b p q (Some h) k i e c n =
    rw e (record { actor = i.actor ∙ sym c; now = i.now ∙ sym n; stands = i.stands; on = i.on })

stands-polled : (s : Stage) → IsSome (place_in s) → IsSome (place_in (stage_polled s))
stands-polled (Locks fault) h = h
stands-polled (Relocks fault) h = search rules
stands-polled (Runs session) h = h
stands-polled (Rewaits session) h = search rules
stands-polled (Returned session) h = h
stands-polled (Changed session course) h = h

handling-polled :
    (m : Machine) (a : ℕ) (p : Private) (h k : HandlerSeen) → IsHandling m a p h → k.actor ≡ h.actor → k.now ≡ h.now
    → k.stage ≡ stage_polled h.stage → (HandlesOn m h → HandlesOn m k) → IsHandling m a p k
handling-polled m a p h k i c n s on = record {
  actor = c ∙ i.actor;
  now = n ∙ i.now;
  stands = rw s (stands-polled h.stage i.stands);
  on = on i.on;
}

-- what a handler does behind its poll
pub handling-gone :
    (m : Machine) (a b : ℕ) (p q : Private) (old new : Option HandlerSeen) (h k : HandlerSeen) → IfSome old (IsHandling m a p)
    → old ≡ Some h → new ≡ Some k → k.actor ≡ h.actor → k.now ≡ h.now → k.stage ≡ stage_polled h.stage
    → (HandlesOn m h → HandlesOn m k) → b ≡ a → q.now ≡ p.now → IfSome new (IsHandling m b q)
handling-gone m a b p q old new h k i eo en c n s on eb eq =
    let here : IsHandling m a p h = rw eo at i in
    handling-kept m a b p q (Some k) new (handling-polled m a p h k here c n s on) en eb eq
