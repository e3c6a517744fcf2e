-- the daemon between two operations: its next operation, and what is kept by each
use Rattle.std.proofs.Common.{◌≡◌, ℕ, ◌+◌, ◌-◌, ◌*◌, ◌/◌, ◌<◌, ◌≤◌, Bool, true, false, [], ◌∷◌, ◌++◌, length, refl, sym, ap, ◌∙◌, subst}
use Rattle.std.proofs.Common.{arith, length-append, get_or, replicate}
use Rattle.std.specs.Prelude.{◌==◌, nat_lt, if◌then◌else◌, Option, Some, None, IfSome, IsSome, IsTrue, slice_index, unwrap_or}
use Rattle.std.specs.Option.{option_map, option_to_list}
use Rattle.std.proofs.lemmas.Bool.{cond-true, cond-false}
use Rattle.std.proofs.lemmas.List.{length-replicate, get_or-append_right}
use Rattle.std.proofs.Math.Nat.{div-mul-le_self}
use Rattle.std.proofs.lemmas.Bool.Decides.{nat_tests}
use Rattle.plat_base.specs.Machine.{Machine}
use Rattle.plat_base.specs.Roomy.{Roomy}
use Rattle.plat_base.specs.Rooms.{processor_room, daemon_room, journal_rooms}
use Rattle.plat_base.specs.Rules.{has_daemon}
use Rattle.plat_base.specs.declared.items.Item.{Item}
use Rattle.plat_base.specs.declared.policies.PolicyKind.{PolicyKind}
use Rattle.plat_base.specs.declared.policies.PolicyKind.TheVariants as policy
use Rattle.plat_base.specs.declared.words.Op.{Op}
use Rattle.plat_base.specs.declared.words.WordName.{WordName}
use Rattle.plat_base.specs.declared.words.WordName.TheVariants as word
use Rattle.plat_laws.specs.Guests.{IsWithinLimits}
use Rattle.plat_laws.proofs.Limits.{platinum-limits}
use Rattle.plat_words.proofs.PlacesApart.{place_of-below}
use Rattle.plat_events.specs.Places.{is_word, place_of, word_count}
use Rattle.plat_events.specs.Privates.{Place, LiveLooking, TimeLooking, Over, Locking, InSession, Private, actor_count, first_place}
use Rattle.plat_events.specs.Privates.{first_private, period}
use Rattle.plat_events.specs.Events.{at, next_of, pass_begun, placed, thaw_of}
use Rattle.plat_events.specs.Shown.{IsReachedAlone}
use Rattle.plat_local_laws.specs.Words.{NamesWord}
use Rattle.plat_local_laws.proofs.AloneLaws.{alone-after, alone-first}
use Rattle.plat_local_laws.proofs.NameLaws.{names_word}
use Rattle.plat_local_laws.proofs.PrivateLaws.{private_ok}
use Rattle.plat_local_laws.proofs.RoomLaws.{journal_fits}
use Rattle.plat_handler.specs.Stages.{Stage, Locks, Relocks, Runs, Rewaits, Returned, Changed, place_in}
use Rattle.plat_handler.specs.Phases.{answer_of}
use Rattle.plat_handler.specs.Fits.{StageFits, is_fault}
use Rattle.plat_handler.specs.HandlerSeen.{HandlerSeen, ask_of, asked, is_polling}
use Rattle.plat_handler.specs.declared.asks.Ask.{Ask}
use Rattle.plat_handler.specs.declared.asks.Ask.TheVariants as ask
use Rattle.plat_daemon.specs.declared.daemons.Place.{Place as CodePlace}
use Rattle.plat_daemon.specs.declared.daemons.Place.TheVariants as place
use Rattle.plat_daemon.specs.Places.{place_seen, HandlesWell}
use Rattle.plat_daemon.specs.DaemonSeen.{DaemonSeen, state_of}
use Rattle.plat_daemon.specs.Fits.{Fits, IsSweeping, fault_in, next_at, told_to}
use Rattle.plat_daemon.proofs.StageLemmas.{IsAtPage, ask_of-same, named_at, told-followed}

-- the daemon by the fields of its code
abbrev pub seen_at : (now due page : ℕ) → CodePlace → Option HandlerSeen → Roomy Item → DaemonSeen
seen_at now due page standing handler items = record {
  now = now;
  due = due;
  place = place_seen handler standing;
  journal = items.items;
  room = length items.items + items.spare;
  page = page;
  handler = handler;
}

-- ---- the daemon is an actor

pub actor_by : (n : ℕ) (b : Bool) → b ≡ true → n < n + (if b then 1 else 0)
actor_by n true e = omega arith
actor_by n false e = absurd cc

pub is_actor : (m : Machine) → IsTrue (has_daemon m.policy) → m.nodes < actor_count m
is_actor m h = actor_by m.nodes (has_daemon m.policy) h

period_by :
    (m : Machine) (p : PolicyKind) → IsWithinLimits m → m.policy ≡ p → IsTrue (has_daemon p) → (64 ≤ period p) × (period p ≤ 1000000)
period_by m policy.Place h e k = absurd cc
period_by m policy.Replicate h e k = absurd cc
period_by m (policy.Platinum t1 t2) h e k = let limits = platinum-limits m t1 t2 h e in (limits.1, limits.2)

pub period-limits : (m : Machine) → IsWithinLimits m → IsTrue (has_daemon m.policy) → (64 ≤ period m.policy) × (period m.policy ≤ 1000000)
period-limits m h k = period_by m m.policy h refl k

ticks-most : (n b : ℕ) → n ≤ 8 → b ≤ 65536 → n * b ≤ 524288
ticks-most n b h k = grind arith

-- the time of the next pass is a number of 32 bits
pub due-most : (now t : ℕ) → now ≤ 524288 → t ≤ 1000000 → (now / t + 1) * t < 4294967296
due-most now t h k =
    let more : (now / t + 1) * t ≡ now / t * t + t = omega arith in
    omega (arith, more, div-mul-le_self now t)

-- ---- the next operation

next_at-place :
    (m : Machine) (x : DaemonSeen) (place : Place) → x.place ≡ place → next_at m x ≡ option_map (placed m) (named_at m x place)
unfolding next_of
next_at-place m x place e = ap (λ (place : Place). option_map (placed m) (named_at m x place)) e

pub next_at-named :
    (m : Machine) (x : DaemonSeen) (place : Place) (w : WordName × Op) (at : ℕ) → x.place ≡ place → named_at m x place ≡ Some w →
    at ≡ place_of m w.0 → next_at m x ≡ Some (at, w.1)
next_at-named m x place w at e n p =
    next_at-place m x place e ∙ ap (λ (o : Option (WordName × Op)). option_map (placed m) o) n
    ∙ ap (λ (k : ℕ). some_next k w.1) (sym p)
  where
    some_next : ℕ → Op → Option (ℕ × Op)
    some_next k op = Some (k, op)

pub within-by :
    (m : Machine) (o : Option (WordName × Op)) (r : ℕ × Op) → NamesWord m o → option_map (placed m) o ≡ Some r → r.0 < word_count m
within-by m None r h e = absurd cc
within-by m (Some w) r h e =
    subst (λ (o : Option (ℕ × Op)). IfSome o (λ r. r.0 < word_count m)) e (place_of-below m w.0 h)

pub next_at-within : (m : Machine) (x : DaemonSeen) (r : ℕ × Op) → IsWithinLimits m → Fits m x → next_at m x ≡ Some r → r.0 < word_count m
next_at-within m x r h f e =
    within-by m (named_at m x x.place) r (names_word m (answer_of m) m.nodes (state_of m x) h (is_actor m f.there) f.alone)
    (sym (next_at-place m x x.place refl) ∙ e)

-- the operation that is asked, if one is
abbrev operation_in : Ask → Option (ℕ × Op)
operation_in (ask.Word at op) = Some (at, op)
operation_in ask.Poll = None
operation_in (ask.Granted change) = None
operation_in (ask.Thawed change) = None
operation_in ask.NotFrozen = None
operation_in ask.NoFrames = None

next-stage :
    (m : Machine) (x : DaemonSeen) (stage : Stage) → x.place ≡ unwrap_or (place_in stage) LiveLooking → IsSome (place_in stage) →
    is_polling stage ≡ false → next_at m x ≡ operation_in (ask_of m m.nodes x.now stage)
next-stage m x (Locks fault) e h p = next_at-place m x (Locking fault) e
next-stage m x (Relocks fault) e h p = absurd cc
next-stage m x (Runs s) e h p = next_at-place m x (InSession s) e
next-stage m x (Rewaits s) e h p = absurd cc
next-stage m x (Returned s) e h p = absurd cc
next-stage m x (Changed s c) e h p = absurd cc

pub next_at-asked :
    (m : Machine) (x : DaemonSeen) (h : HandlerSeen) (at : ℕ) (op : Op) → IsAtPage m x h → ask.Word at op ≡ asked m h →
    next_at m x ≡ Some (at, op)
next_at-asked m x h at op k e =
    next-stage m x h.stage k.place k.sweeps.stands k.polls
    ∙ ap operation_in (sym (e ∙ ask_of-same m h.actor m.nodes h.now x.now h.stage k.sweeps.actor k.sweeps.now))

-- ---- the page that it has come to

pub at_page :
    (m : Machine) (x : DaemonSeen) (h : HandlerSeen) (o : Option HandlerSeen) (standing : CodePlace) → o ≡ Some h → x.handler ≡ o →
    x.place ≡ place_seen o standing → HandlesWell o standing → Fits m x → (standing ≡ place.Sweeping) × IsAtPage m x h
at_page m x h o place.LiveLooking e k p w f = absurd cc
at_page m x h o place.TimeLooking e k p w f = absurd cc
at_page m x h o place.Sweeping e k p w f = (
  refl,
  record {
    place = p ∙ ap (λ (o : Option HandlerSeen). place_seen o place.Sweeping) e;
    polls = subst (λ (o : Option HandlerSeen). HandlesWell o place.Sweeping) e w;
    sweeps = subst (λ (o : Option HandlerSeen). IfSome o (IsSweeping m x)) (k ∙ e) f.sweeping;
  },
)
at_page m x h o place.Over e k p w f = absurd cc

fault-fits : (m : Machine) (a now : ℕ) (stage : Stage) → StageFits m a now stage → IsTrue (is_fault m a (fault_in stage))
fault-fits m a now (Locks fault) h = h
fault-fits m a now (Relocks fault) h = h
fault-fits m a now (Runs s) h = h.0.fault
fault-fits m a now (Rewaits s) h = h.0.fault
fault-fits m a now (Returned s) h = h.fault
fault-fits m a now (Changed s c) h = h.0.fault

pub page-below : (m : Machine) (x : DaemonSeen) (h : HandlerSeen) → IsAtPage m x h → x.page < m.pages
page-below m x h k =
    let fault = fault-fits m h.actor h.now h.stage k.sweeps.on.fits in let page = k.sweeps.page in grind (arith, nat_tests, fault, page)

pub now-most : (m : Machine) (x : DaemonSeen) → IsWithinLimits m → Fits m x → x.now ≤ m.nodes * m.budget
now-most m x h f = ((private_ok m (answer_of m) m.nodes (state_of m x) h (is_actor m f.there) f.alone).numbers.passes refl).now_most

-- there is room for the item of a thaw
pub thaw-room :
    (m : Machine) (x : DaemonSeen) (n : ℕ) (i : Item) → IsWithinLimits m → Fits m x → (told_to m x n).journal ≡ x.journal ++ i ∷ [] →
    length x.journal < x.room
thaw-room m x n i h f e =
    let alone = alone-after m (answer_of m) m.nodes (state_of m x) n f.alone in
    omega (
      arith,
      journal_fits m (answer_of m) m.nodes (told_to m x n) h (is_actor m f.there) alone,
      ap length e,
      length-append x.journal (i ∷ []),
      f.room,
    )

-- ---- between two passes

pub told-live :
    (m : Machine) (x : DaemonSeen) (n : ℕ) → x.place ≡ LiveLooking → is_word m word.Live n ≡ true →
    told_to m x n ≡ at (state_of m x) (if n == 0 then Over else TimeLooking)
told-live m x n e k = told-followed m x n LiveLooking e k

told-time :
    (m : Machine) (x : DaemonSeen) (n : ℕ) → x.place ≡ TimeLooking → is_word m word.Time n ≡ true →
    told_to m x n ≡ record (pass_begun (state_of m x) n) { journal = x.journal }
told-time m x n e k = told-followed m x n TimeLooking e k

pub told-early :
    (m : Machine) (x : DaemonSeen) (n : ℕ) → x.place ≡ TimeLooking → is_word m word.Time n ≡ true → n < x.due →
    told_to m x n ≡ at (state_of m x) LiveLooking
told-early m x n e k l =
    told-time m x n e k
    ∙ ap (λ (q : Private). record q { journal = x.journal }) (cond-true (nat_lt n x.due) _ _ (grind (arith, nat_tests, l)))

pub told-due :
    (m : Machine) (x : DaemonSeen) (n : ℕ) → x.place ≡ TimeLooking → is_word m word.Time n ≡ true → x.due ≤ n →
    told_to m x n ≡ record (state_of m x) { now = n; place = Locking (thaw_of 0) }
told-due m x n e k l =
    told-time m x n e k
    ∙ ap (λ (q : Private). record q { journal = x.journal }) (cond-false (nat_lt n x.due) _ _ (grind (arith, nat_tests, l)))

-- ---- the start

room_of :
    (nodes budget pages : ℕ) (p : PolicyKind) → IsTrue (has_daemon p) →
    get_or (option_to_list (daemon_room nodes budget pages p)) 0 0 ≡ nodes * budget / period p * pages
room_of nodes budget pages policy.Place h = absurd cc
room_of nodes budget pages policy.Replicate h = absurd cc
room_of nodes budget pages (policy.Platinum t1 t2) h = refl

pub journal-room :
    (m : Machine) → IsTrue (has_daemon m.policy) → slice_index (journal_rooms m) m.nodes ≡ m.nodes * m.budget / period m.policy * m.pages
journal-room m h =
    let rest = option_to_list (daemon_room m.nodes m.budget m.pages m.policy) in
    let none : m.nodes - m.nodes ≡ 0 = omega arith in
    get_or-append_right (replicate m.nodes (processor_room m.budget)) rest m.nodes m.nodes 0
    (length-replicate m.nodes (processor_room m.budget)) (omega arith)
    ∙ ap (λ i. get_or rest i 0) none ∙ room_of m.nodes m.budget m.pages m.policy h

first-state :
    (m : Machine) (due : ℕ) (items : Roomy Item) → due ≡ period m.policy → items.items ≡ [] →
    state_of m (seen_at 0 due 0 place.LiveLooking None items) ≡ first_private m m.nodes
first-state m due items e n =
    let first : first_place m m.nodes ≡ LiveLooking = cond-true (m.nodes == m.nodes) _ _ (grind (arith, nat_tests)) in
    rw (e, n) (ap (λ (place : Place). record (first_private m m.nodes) { place = place }) (sym first))

pub Fits-first :
    (m : Machine) (due : ℕ) (items : Roomy Item) → IsTrue (has_daemon m.policy) → due ≡ period m.policy → items.items ≡ [] →
    m.nodes * m.budget / due * m.pages ≤ items.spare → Fits m (seen_at 0 due 0 place.LiveLooking None items)
Fits-first m due items h e n r =
    let spare : m.nodes * m.budget / period m.policy * m.pages ≤ items.spare =
    subst (λ (t : ℕ). m.nodes * m.budget / t * m.pages ≤ items.spare) e r in
    record {
      there = h;
      room = rw (journal-room m h) (omega (arith, spare));
      alone = subst (IsReachedAlone m (answer_of m) m.nodes) (sym (first-state m due items e n)) (alone-first m (answer_of m) m.nodes);
      sweeping = tt;
    }

-- ---- what is kept

pub Fits-told :
    (m : Machine) (x y : DaemonSeen) (n : ℕ) → Fits m x → state_of m y ≡ told_to m x n → y.room ≡ x.room →
    IfSome y.handler (IsSweeping m y) → Fits m y
Fits-told m x y n f e r s = record {
  there = f.there;
  room = rw r f.room;
  alone = subst (IsReachedAlone m (answer_of m) m.nodes) (sym e) (alone-after m (answer_of m) m.nodes (state_of m x) n f.alone);
  sweeping = s;
}
