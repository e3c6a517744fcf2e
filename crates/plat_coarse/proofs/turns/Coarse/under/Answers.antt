use Rattle.std.proofs.Common.{◌≡◌, ℕ, ◌+◌, ◌<◌, List, [], ◌∷◌, ◌++◌, length, length-append, ap, sym, ◌∙◌, subst, arith}
use Rattle.std.specs.Prelude.{slice_index_or, replicate}
use Rattle.std.proofs.lemmas.List.{length-replicate, replicate-append-replicate}
use Rattle.plat_base.specs.Seen.{machine}
use Rattle.plat_base.specs.Ends.{cut_at}
use Rattle.plat_base.specs.declared.endings.Ended.{Ended}
use Rattle.plat_guest.specs.GuestSeen.{GuestSeen, new_guest}
use Rattle.plat_coarse.specs.Advanced.{no_guest}
use Rattle.plat_coarse.proofs.StartLemmas.{RunsOn-start, start_is, each-pushed}
use Rattle.plat_coarse.proofs.turns.Coarse.under.Goals as goal

pub loop-q-preserved : goal.loop-q-preserved
loop-q-preserved g c =
    let before = c.loop-q.invariant in
    let guests = c.loop-q.guests.items in
    let pushed = c.push_reserved.ensures.items in
    record {
      guests = ap length pushed ∙ omega (arith, length-append guests (c.new.result ∷ []), before.guests);
      guests_room = omega (arith, before.guests_room, c.push_reserved.ensures.capacity);
      ends_room = omega (arith, before.ends_room, c.push_reserved-in-loop-q.ensures.capacity);
      states =
          subst
          (λ (gs : List GuestSeen). (q : ℕ) → q < c.loop-q.q + 1 → slice_index_or gs q no_guest ≡ new_guest (machine c.args.cfg) q)
          (sym pushed)
          (each-pushed guests c.new.result no_guest (new_guest (machine c.args.cfg)) c.loop-q.q before.guests c.new.ensures
          before.states);
      ends =
          c.push_reserved-in-loop-q.ensures.items
          ∙ (ap (λ (es : List Ended). es ++ cut_at 0 ∷ []) before.ends ∙ replicate-append-replicate c.loop-q.q 1 (cut_at 0));
    }

-- src/turns.rt:106:9
pub invariant_of-result : goal.invariant_of-result
invariant_of-result g c =
    let made = c.in_ok-chronicle.ensures in
    let full : c.loop-q.q ≡ c.args.cfg.nodes = omega (arith, c.loop-q-test.false, c.loop-q.auto.q-end) in
    let cut : c.loop-q.ends.items ≡ replicate c.args.cfg.nodes (cut_at 0) = c.loop-q.invariant.ends
    ∙ ap (λ (n : ℕ). replicate n (cut_at 0)) full in (
      RunsOn-start (machine c.args.cfg) c.in_ok-chronicle.chronicle (g.P.Policy.answer c.args.policy) c.loop-q.ends.items
          c.loop-q.guests.items
          c.args.cfg.limits made.machine made.empty (omega (arith, made.room, c.room-room.ensures.value)) cut (c.loop-q.invariant.guests
          ∙ full)
          (subst (λ (n : ℕ). (q : ℕ) → q < n → slice_index_or c.loop-q.guests.items q no_guest ≡ new_guest (machine c.args.cfg) q) full
          c.loop-q.invariant.states),
      (
        c.in_ok-handed.ensures.empty,
        omega (
          arith,
          ap length cut,
          length-replicate c.args.cfg.nodes (cut_at 0),
          c.in_ok-handed.ensures.room,
        ),
      ),
    )

-- src/turns.rt:85:5
pub returns-clause-start : goal.returns-clause-start
returns-clause-start g c =
    let full : c.loop-q.q ≡ c.args.cfg.nodes = omega (arith, c.loop-q-test.false, c.loop-q.auto.q-end) in
    start_is (machine c.args.cfg) c.in_ok-chronicle.chronicle c.loop-q.ends.items c.in_ok-chronicle.ensures.empty
    (c.loop-q.invariant.ends ∙ ap (λ (n : ℕ). replicate n (cut_at 0)) full)
