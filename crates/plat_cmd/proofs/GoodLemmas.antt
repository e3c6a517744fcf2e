-- a good history is one of a coherent run: in it nobody lacks a frame where there are enough
use Rattle.std.proofs.Common.{◌≡◌, ◌≢◌, ℕ, zero, suc, ◌<◌, ◌&&◌, true, List, subst, arith}
use Rattle.std.specs.Prelude.{nat_lt, nat_le}
use Rattle.std.proofs.lemmas.Bool.{and_parts}
use Rattle.std.proofs.lemmas.Bool.Decides.{nat_tests}
use Rattle.plat_base.specs.Done.{values_of}
use Rattle.plat_base.specs.Ends.{ended_of}
use Rattle.plat_base.specs.GuestRun.{guest_run, want_of, GoesOn}
use Rattle.plat_base.specs.Machine.{Machine}
use Rattle.plat_base.specs.Rules.{is_end, stands, has_made, wants_right, Good, HasEnoughFrames}
use Rattle.plat_base.specs.Runs.{IsCoherentRun}
use Rattle.plat_base.specs.Verdicts.{Answer}
use Rattle.plat_base.specs.declared.endings.End.{End}
use Rattle.plat_base.specs.declared.endings.End.TheVariants as end
use Rattle.plat_base.specs.declared.endings.Ended.{Ended}
use Rattle.plat_base.specs.declared.items.Item.{Item}
use Rattle.plat_laws.proofs.FinishLaws.{coherent_run}
use Rattle.plat_laws.proofs.HistoryLaws.{one_history}

-- a processor that lacks a frame has fewer frames than pages
starved_few : (m : Machine) (items : List Item) (q turns : ℕ) → is_end m items q end.NoFrames turns ≡ true → nat_lt m.frames m.pages ≡ true
starved_few m items q zero h = absurd cc
starved_few m items q (suc t) h =
    let r = guest_run m q (values_of q items) t in
    let few = nat_lt m.frames m.pages in
    let all = and_parts (few && stands r t GoesOn && has_made items q r) (wants_right m items q (want_of m q r.state)) h in
    let made = and_parts (few && stands r t GoesOn) (has_made items q r) all.0 in
    (and_parts few (stands r t GoesOn) made.0).0

good_has_frames : (m : Machine) (answer : Answer) (items : List Item) (ends : List Ended) → Good m answer items ends
    → HasEnoughFrames m → (q : ℕ) → q < m.nodes → (ended_of ends q).end ≢ end.NoFrames
good_has_frames m answer items ends good enough q inside starved =
    let turns = (ended_of ends q).turns in
    let both = and_parts (nat_le turns m.budget) (is_end m items q (ended_of ends q).end turns)
    ((one_history m answer items ends good).in_order q inside) in
    let few : nat_lt m.frames m.pages ≡ true =
    starved_few m items q turns (subst (λ (e : End). is_end m items q e turns ≡ true) starved both.1) in
    grind (arith, nat_tests)

pub good_is_coherent : (m : Machine) (answer : Answer) (items : List Item) (ends : List Ended) → Good m answer items ends →
    IsCoherentRun m answer items ends
good_is_coherent m answer items ends good = coherent_run m answer items ends good (good_has_frames m answer items ends good)
