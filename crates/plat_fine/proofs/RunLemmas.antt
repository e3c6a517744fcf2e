-- what a run keeps, after an event
use Rattle.std.proofs.Common.{◌≡◌, ℕ, ◌+◌, ◌<◌, List, length, set, sym, ap, ◌∙◌, arith}
use Rattle.std.specs.Prelude.{IsTrue, not, sum_by, Option, Some, slice_get, slice_index_or, slice_set}
use Rattle.std.proofs.lemmas.List.{get_or_default, length-set}
use Rattle.plat_base.specs.Machine.{Machine, is_machine}
use Rattle.plat_base.specs.Roomy.{Roomy}
use Rattle.plat_base.specs.Verdicts.{policy_answer}
use Rattle.plat_base.specs.declared.endings.Ended.{Ended}
use Rattle.plat_base.specs.declared.items.Item.{Item}
use Rattle.plat_events.specs.Places.{word_count}
use Rattle.plat_events.specs.Events.{with_item}
use Rattle.plat_events.specs.Privates.{Private, is_over}
use Rattle.plat_events.specs.Runs.{ended_by, ends_of, event}
use Rattle.plat_ports.specs.Ports.{IsEvent}
use Rattle.plat_proc.specs.ProcSeen.{ProcSeen}
use Rattle.plat_daemon.specs.DaemonSeen.{DaemonSeen, state_of}
use Rattle.plat_daemon.specs.Fits.{Fits}
use Rattle.plat_fine.specs.Crew.{IsCrew, no_proc, privates_of, proc_at, states}
use Rattle.plat_fine.specs.FineSeen.{HasRoomFor, RunsOn, HasEnds, is_live, items_of, items_swept, room_of}
use Rattle.plat_fine.proofs.EventLemmas.{event-journal, event-is, fine_of}
use Rattle.plat_fine.proofs.CrewLemmas.{items-set, ends-set}
use Rattle.plat_fine.proofs.ActorLemmas.{get-processor, get-daemon, live-processor, privates-set, privates-swept}
use Rattle.plat_fine.proofs.RoomLemmas.{items-fit, longer-alike, room-for}

-- ---- one event of processor q

pub record HasStepped (m : Machine) (q : ℕ) (procs now : List ProcSeen) (words found : List ℕ) (made : Option Item) : Type 0 where
  pub there : q < length procs
  pub others : now ≡ set procs q (proc_at now q)
  pub event : IsEvent m q (proc_at procs q).state (proc_at now q).state (Some words) (Some found)
  pub item : made ≡ slice_get (proc_at now q).state.journal (length (proc_at procs q).state.journal)
  pub crew : IsCrew m now
  pub count : length found ≡ word_count m

module _ {m : Machine} {q : ℕ} {procs now : List ProcSeen} {words found : List ℕ} {made : Option Item}
    (s : HasStepped m q procs now words found made) where
  length-now : length now ≡ length procs
  length-now = ap (λ (xs : List ProcSeen). length xs) s.others ∙ length-set procs q (proc_at now q)

  -- the processor that is read again
  pub proc-now : {x : ProcSeen} → x ≡ slice_index_or now q x → x ≡ proc_at now q
  proc-now {x} is = is ∙ get_or_default now q x no_proc (omega (arith, s.there, length-now))

  pub live-now : (daemon : Option DaemonSeen) → is_live (privates_of m now daemon) q ≡ not (is_over (proc_at now q).state.place)
  live-now daemon = live-processor m now daemon q (omega (arith, s.there, length-now))

  -- the history has its items again
  items-now : {daemon : Option DaemonSeen} {history : Roomy Item} → RunsOn m procs daemon words history
      → length (with_item history.items made) ≡ sum_by items_of now + items_swept daemon
  items-now {history = history} r =
      let x = proc_at procs q in
      let y = proc_at now q in
      let grown : y.state.journal ≡ with_item x.state.journal made =
      event-journal m q x.state y.state (Some words) (Some found) s.event ∙ ap (with_item x.state.journal) (sym s.item) in
      omega (
        arith,
        ap (sum_by items_of) s.others,
        items-set procs q y s.there,
        ap (λ (items : List Item). length items) grown,
        longer-alike history.items x.state.journal made,
        r.items,
      )

  pub room-left : {daemon : Option DaemonSeen} {history : Roomy Item} → IsTrue (is_machine m) → RunsOn m procs daemon words history
      → HasRoomFor history made
  room-left {daemon} {history} h r =
      room-for history made
      (omega (arith, items-now r, items-fit m now daemon h s.crew (length-now ∙ r.all) r.swept, r.room))

  pub RunsOn-event : {daemon : Option DaemonSeen} {history grown : Roomy Item} → RunsOn m procs daemon words history
      → grown.items ≡ with_item history.items made → room_of grown ≡ room_of history → RunsOn m now daemon found grown
  RunsOn-event r e l = record {
    crew = s.crew;
    all = length-now ∙ r.all;
    swept = r.swept;
    word_each = s.count;
    items = ap (λ (items : List Item). length items) e ∙ items-now r;
    room = omega (arith, r.room, l);
  }

  pub HasEnds-event : {ends : List Ended} {handed : Roomy Ended} {ended : Ended} → length procs ≡ m.nodes → HasEnds m procs ends handed
      → ended ≡ ended_by (proc_at now q).state → HasEnds m now (slice_set ends q ended) handed
  HasEnds-event {ends} a h e = record {
    so_far =
        ap (λ (x : Ended). slice_set ends q x) e ∙ ends-set m procs ends q (proc_at now q) a h.so_far
        ∙ ap (λ (xs : List ProcSeen). ends_of m (states xs)) (sym s.others);
    empty = h.empty;
    room = h.room;
  }

  pub event-now : (daemon : Option DaemonSeen) (history : List Item) {grown : List Item} → grown ≡ with_item history made →
      fine_of found (privates_of m now daemon) grown
      ≡ event m (policy_answer m.policy) (fine_of words (privates_of m procs daemon) history) q
  event-now daemon history {grown} e =
      let x = proc_at procs q in
      let y = proc_at now q in
      let privates = ap (λ (xs : List ProcSeen). privates_of m xs daemon) s.others ∙ privates-set m procs daemon q y s.there in
      let items = e ∙ ap (with_item history) s.item in
      ap (λ (ps : List Private). fine_of found ps grown) privates
      ∙ ap (λ (is : List Item). fine_of found (slice_set (privates_of m procs daemon) q y.state) is) items
      ∙ event-is m words found (privates_of m procs daemon) history q x.state y.state (get-processor m procs daemon q s.there) s.event

-- ---- one event of the daemon

pub record HasSwept (m : Machine) (x y : DaemonSeen) (words found : List ℕ) (made : Option Item) : Type 0 where
  pub event : IsEvent m m.nodes (state_of m x) (state_of m y) (Some words) (Some found)
  pub item : made ≡ slice_get y.journal (length x.journal)
  pub fits : Fits m y
  pub count : length found ≡ word_count m

-- a pass of the daemon, with the processors as they stand
module _ {m : Machine} {x y : DaemonSeen} {words found : List ℕ} {made : Option Item} (s : HasSwept m x y words found made) where
  items-swept_now : {procs : List ProcSeen} {history : Roomy Item} → RunsOn m procs (Some x) words history
      → length (with_item history.items made) ≡ sum_by items_of procs + length y.journal
  items-swept_now {history = history} r =
      let grown : y.journal ≡ with_item x.journal made =
      event-journal m m.nodes (state_of m x) (state_of m y) (Some words) (Some found) s.event ∙ ap (with_item x.journal) (sym s.item) in
      omega (
        arith,
        ap (λ (items : List Item). length items) grown,
        longer-alike history.items x.journal made,
        r.items,
      )

  pub room-left_swept : {procs : List ProcSeen} {history : Roomy Item} → IsTrue (is_machine m) → RunsOn m procs (Some x) words history
      → HasRoomFor history made
  room-left_swept {procs} {history} h r =
      room-for history made (omega (arith, items-swept_now r, items-fit m procs (Some y) h r.crew r.all s.fits, r.room))

  pub RunsOn-swept : {procs : List ProcSeen} {history grown : Roomy Item} → RunsOn m procs (Some x) words history
      → grown.items ≡ with_item history.items made → room_of grown ≡ room_of history → RunsOn m procs (Some y) found grown
  RunsOn-swept r e l = record {
    crew = r.crew;
    all = r.all;
    swept = s.fits;
    word_each = s.count;
    items = ap (λ (items : List Item). length items) e ∙ items-swept_now r;
    room = omega (arith, r.room, l);
  }

  pub event-swept : (procs : List ProcSeen) (history : List Item) {grown : List Item} → length procs ≡ m.nodes
      → grown ≡ with_item history made → fine_of found (privates_of m procs (Some y)) grown
      ≡ event m (policy_answer m.policy) (fine_of words (privates_of m procs (Some x)) history) m.nodes
  event-swept procs history {grown} all e =
      let items = e ∙ ap (with_item history) s.item in
      ap (λ (ps : List Private). fine_of found ps grown) (privates-swept m procs x y all)
      ∙ ap (λ (is : List Item). fine_of found (slice_set (privates_of m procs (Some x)) m.nodes (state_of m y)) is) items
      ∙ event-is m words found (privates_of m procs (Some x)) history m.nodes (state_of m x) (state_of m y)
      (get-daemon m procs x all) s.event
