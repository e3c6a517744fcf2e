use Rattle.std.proofs.Common.{◌≡◌, ℕ, List, length, ap, sym, ◌∙◌, arith}
use Rattle.plat_base.specs.Seen.{machine}
use Rattle.plat_events.specs.Places.{first_words}
use Rattle.plat_events.specs.Privates.{Private, first_privates}
use Rattle.plat_fine.specs.Crew.{privates_of}
use Rattle.plat_fine.proofs.EventLemmas.{fine_of}
use Rattle.plat_fine.proofs.CrewLemmas.{crew-all, items-none, ends-first}
use Rattle.plat_fine.proofs.ActorLemmas.{first-all, swept-first}
use Rattle.plat_fine.proofs.fines.Fine.new.Goals as goal

pub invariant_of-result : goal.invariant_of-result
invariant_of-result c =
    let m = machine c.args.cfg in
    let procs = c.in_ok-crew.field-0.items in
    let made = c.in_ok-crew.ensures in
    let swept = c.in_ok-daemon.ensures in
    let history = c.in_ok-with_room.ensures in
    let all : length procs ≡ m.nodes = crew-all m procs made.states in (
      record {
        crew = made.crew;
        all = all;
        swept = swept.swept;
        word_each = c.in_ok-new.ensures.count;
        items = omega (
          arith,
          ap length history.empty,
          items-none m procs made.states,
          swept-first m c.in_ok-daemon.field-0 swept.states,
        );
        room = omega (arith, history.room, c.history_room.ensures);
      },
      record {
        so_far = c.in_ok-no_ends.ensures ∙ sym (ends-first m procs made.states);
        empty = c.in_ok-with_room-2.ensures.empty;
        room = c.in_ok-with_room-2.ensures.room;
      },
    )

pub returns-clause-start : goal.returns-clause-start
returns-clause-start c =
    let m = machine c.args.cfg in
    let procs = c.in_ok-crew.field-0.items in
    let daemon = c.in_ok-daemon.field-0 in
    ap (λ (words : List ℕ). fine_of words (privates_of m procs daemon) c.in_ok-with_room.field-0.items) c.in_ok-new.ensures.words
    ∙ ap (λ (ps : List Private). fine_of (first_words m) ps c.in_ok-with_room.field-0.items)
    (first-all m procs daemon c.in_ok-crew.ensures.states c.in_ok-daemon.ensures.states)
    ∙ ap (fine_of (first_words m) (first_privates m)) c.in_ok-with_room.ensures.empty
