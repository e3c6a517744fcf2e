-- one turn of the engine is one turn of the coarse run
use Rattle.std.proofs.Common.{◌≡◌, ◌≢◌, ℕ, ◌+◌, ◌<◌, ◌≤◌, List, ◌++◌, length, Bool, true, false, refl, sym, ap, ◌∙◌, subst, inl, inr, arith}
use Rattle.std.proofs.Common.{length-append}
use Rattle.std.specs.Prelude.{slice_set, slice_index_or, if◌then◌else◌}
use Rattle.std.proofs.lemmas.Bool.{cases_eq}
use Rattle.std.proofs.lemmas.List.{get_or_default, length-set, get_or-set_same, get_or-set_other}
use Rattle.std.proofs.lemmas.Nat.{mul-le}
use Rattle.plat_base.specs.Machine.{Machine}
use Rattle.plat_base.specs.Alike.{same_end}
use Rattle.plat_base.specs.GuestRun.{GuestRun, want_of, guest_after}
use Rattle.plat_base.specs.Ends.{is_live, ended_of, time_of, end_after}
use Rattle.plat_base.specs.Coarse.{Coarse}
use Rattle.plat_base.specs.Turns.{Made, guest_now, made_by, with_made, turn, daemon}
use Rattle.plat_base.specs.Verdicts.{Answer}
use Rattle.plat_base.specs.declared.guests.Want.{Want}
use Rattle.plat_base.specs.declared.endings.End.{End}
use Rattle.plat_base.specs.declared.endings.End.TheVariants as end
use Rattle.plat_base.specs.declared.endings.Ended.{Ended}
use Rattle.plat_guest.specs.GuestSeen.{GuestSeen, wanted_by, stepped}
use Rattle.plat_laws.specs.Guests.{IsWithinLimits}
use Rattle.plat_coarse_laws.specs.Sound.{Sound}
use Rattle.plat_coarse_laws.specs.Room.{room, IsRoomy}
use Rattle.plat_laws.proofs.Limits.{nodes-most, budget-most}
use Rattle.plat_coarse_laws.proofs.RunLaws.{made_in, turn-time, turn-ends, time_of-less, is_live-set_before, is_live-set_same}
use Rattle.plat_coarse_laws.proofs.TurnLaws.{turn_sound, with_made_sound}
use Rattle.plat_coarse_laws.proofs.RoomLaws.{turn_roomy, turn_room, room-most, daemon-longer}
use Rattle.plat_laws.proofs.EndLaws.{is_live-below}
use Rattle.plat_coarse.specs.declared.acts.Acted.{Acted}
use Rattle.plat_coarse.specs.Acted.{value_found, end_within}
use Rattle.plat_coarse.specs.Advanced.{no_guest, guests_after}
use Rattle.plat_chronicle.specs.Chronicle.{Chronicled, HasAdded, HasRoom}
use Rattle.plat_coarse.specs.CoarseSeen.{RunsOn}
use Rattle.plat_coarse.specs.Running.{state_of}
use Rattle.plat_coarse.proofs.GuestStateLemmas.{guest_now-other, guest_now-own}

end_within-after : (m : Machine) (turns : ℕ) (e : End) → end_within m.budget turns e ≡ end_after m turns e
end_within-after m turns end.Halted = refl
end_within-after m turns end.Trapped = refl
end_within-after m turns end.Spent = refl
end_within-after m turns end.NoFrames = refl
end_within-after m turns end.Cut = refl

-- an end that leaves the processor live is that of a turn that goes on
goes_on : (m : Machine) (turns : ℕ) (e : End) → same_end (end_after m turns e) end.Cut ≡ true → e ≡ end.Cut
goes_on m turns end.Halted h = absurd (cc)
goes_on m turns end.Trapped h = absurd (cc)
goes_on m turns end.Spent h = absurd (cc)
goes_on m turns end.NoFrames h = absurd (cc)
goes_on m turns end.Cut h = refl

-- a turn that is to be made: the run as the engine keeps it, and a processor that is live
pub record Turning : Type 0 where
  pub chronicle : Chronicled
  pub answer : Answer
  pub ends : List Ended
  pub guests : List GuestSeen
  pub time : ℕ
  pub processor : ℕ
  pub runs : RunsOn chronicle answer ends guests time
  pub live : is_live ends processor ≡ true

module _ (turning : Turning) where
  abbrev k : Chronicled
  k = turning.chronicle

  abbrev answer : Answer
  answer = turning.answer

  abbrev ends : List Ended
  ends = turning.ends

  abbrev guests : List GuestSeen
  guests = turning.guests

  abbrev t : ℕ
  t = turning.time

  abbrev q : ℕ
  q = turning.processor

  abbrev runs : RunsOn k answer ends guests t
  runs = turning.runs

  abbrev live : is_live ends q ≡ true
  live = turning.live

  abbrev pub run_now : Coarse
  run_now = state_of k ends

  abbrev pub want_now : Want
  want_now = want_of k.machine q (guest_now k.machine run_now q).state

  abbrev pub made_now : Made
  made_now = made_by k.machine answer run_now q (t + 1) want_now

  made_now-in : made_now ≡ made_in k.machine answer run_now q
  made_now-in = ap (λ (now : ℕ). made_by k.machine answer run_now q (now + 1) want_now) runs.time

  node_below : q < k.machine.nodes
  node_below = omega (arith, is_live-below ends q live, runs.sound.count)

  pub node_within : (slice_index_or guests q no_guest).node < k.machine.nodes
  node_within = omega (arith, runs.nodes q node_below, node_below)

  pub tick_below : t < 524288
  tick_below =
      let below = time_of-less ends k.machine.budget q (λ r inside. runs.sound.turns r (omega (arith, inside, runs.sound.count)))
      (is_live-below ends q live) (runs.sound.left q live) in
      let most = mul-le (length ends) k.machine.budget 8 65536 (omega (arith, runs.sound.count, nodes-most k.machine runs.machine))
      (budget-most k.machine runs.machine) in
      omega (arith, below, most, runs.time)

  pub turns_below : (ended_of ends q).turns < k.machine.budget
  turns_below = runs.sound.left q live

  -- what the guest that was read wants
  guest_wants : (g : GuestSeen) → g ≡ slice_index_or guests q g → wanted_by k.machine g ≡ want_now
  guest_wants g is =
      let inside : q < length guests = omega (arith, node_below, runs.guests) in
      let here : g ≡ slice_index_or guests q no_guest = is ∙ get_or_default guests q g no_guest inside in
      let node = ap (λ (x : GuestSeen). x.node) here ∙ runs.nodes q node_below in
      let state = ap (λ (x : GuestSeen). x.state) here ∙ runs.states q live in
      ap (λ (n : ℕ). want_of k.machine n g.state) node ∙ ap (λ s. want_of k.machine q s) state

  -- ---- room

  abbrev pub turned : Coarse
  turned = turn k.machine answer run_now q

  turned_room : length (turn k.machine answer run_now q).history ≤ room k.machine
  turned_room = turn_room k.machine answer run_now q runs.machine runs.sound runs.roomy live

  made_length : length k.items + length made_now.items ≤ room k.machine
  made_length =
      let longer = daemon-longer k.machine answer (time_of ends + 1)
      (with_made k.machine run_now q (made_in k.machine answer run_now q)) in
      let same = ap (λ (x : Made). length x.items) made_now-in in
      omega (arith, longer, turned_room, same, length-append k.items (made_in k.machine answer run_now q).items)

  made_spare : length made_now.items ≤ k.spare
  made_spare = omega (arith, made_length, runs.room)

  made_few : length k.items + length made_now.items ≤ 2621440
  made_few = omega (arith, made_length, room-most k.machine runs.machine)

  -- ---- the guests after the turn

  guests_length : (acted : Acted) → length (guests_after k.machine guests q acted) ≡ length guests
  guests_length acted = by (same_end acted.end end.Cut) where
    by : (v : Bool) → length (if v then slice_set guests q (stepped k.machine (slice_index_or guests q no_guest) acted.value) else guests)
        ≡ length guests
    by true = length-set guests q _
    by false = refl

  guests_other : (acted : Acted) (r : ℕ) → r ≢ q → slice_index_or (guests_after k.machine guests q acted) r no_guest
      ≡ slice_index_or guests r no_guest
  guests_other acted r other = by (same_end acted.end end.Cut) where
    by : (v : Bool) → slice_index_or (if v then slice_set guests q (stepped k.machine (slice_index_or guests q no_guest) acted.value)
        else guests) r no_guest ≡ slice_index_or guests r no_guest
    by true = get_or-set_other guests q r _ no_guest other
    by false = refl

  guests_own : (acted : Acted) → acted.end ≡ end.Cut
      → slice_index_or (guests_after k.machine guests q acted) q no_guest ≡ stepped k.machine (slice_index_or guests q no_guest) acted.value
  guests_own acted goes =
      rw goes (get_or-set_same guests q (stepped k.machine (slice_index_or guests q no_guest) acted.value) no_guest
      (omega (arith, node_below, runs.guests)))

  own_node : (acted : Acted) → (slice_index_or (guests_after k.machine guests q acted) q no_guest).node ≡ q
  own_node acted = by (same_end acted.end end.Cut) where
    inside : q < length guests
    inside = omega (arith, node_below, runs.guests)

    by : (v : Bool) →
        (slice_index_or (if v then slice_set guests q (stepped k.machine (slice_index_or guests q no_guest) acted.value) else guests) q
        no_guest).node ≡ q
    by true = ap (λ (g : GuestSeen). g.node)
        (get_or-set_same guests q (stepped k.machine (slice_index_or guests q no_guest) acted.value) no_guest inside)
        ∙ runs.nodes q node_below
    by false = runs.nodes q node_below

  nodes_after : (acted : Acted) (r : ℕ) → r < k.machine.nodes → (slice_index_or (guests_after k.machine guests q acted) r no_guest).node ≡ r
  nodes_after acted r inside = elim (cases_eq r q) [
    | inl same ↦ subst (λ (x : ℕ). (slice_index_or (guests_after k.machine guests q acted) x no_guest).node ≡ x) (sym same) (own_node acted)
    | inr differ ↦ ap (λ (g : GuestSeen). g.node) (guests_other acted r differ) ∙ runs.nodes r inside
  ]

  after_is_live : (r : ℕ) → is_live turned.ends r ≡ true → is_live ends r ≡ true
  after_is_live r h =
      let as_set = ap (λ es. is_live es r) (turn-ends k.machine answer run_now q) in
      is_live-set_before ends q r _ live (sym as_set ∙ h)

  own_goes : is_live turned.ends q ≡ true → (made_in k.machine answer run_now q).end ≡ end.Cut
  own_goes h =
      let as_set = ap (λ es. is_live es q) (turn-ends k.machine answer run_now q) in
      let is = is_live-set_same ends q _ (is_live-below ends q live) in
      goes_on k.machine ((ended_of ends q).turns + 1) _ (sym is ∙ (sym as_set ∙ h))

  states_after : (acted : Acted) → acted.end ≡ made_now.end → acted.value ≡ value_found k.machine k.items want_now → (r : ℕ) →
      is_live turned.ends r ≡ true
      → (slice_index_or (guests_after k.machine guests q acted) r no_guest).state ≡ (guest_now k.machine turned r).state
  states_after acted how found r h = elim (cases_eq r q) [
    | inl same ↦
        (let h' = subst (λ (x : ℕ). is_live turned.ends x ≡ true) same h in
        let goes = own_goes h' in
        let cut : acted.end ≡ end.Cut = how ∙ (ap (λ (x : Made). x.end) made_now-in ∙ goes) in
        let own = guest_now-own k.machine answer run_now q (is_live-below ends q live) (runs.sound.guest q live) goes in
        let was = ap (λ (g : GuestSeen). g.state) (guests_own acted cut) in
        let node = runs.nodes q node_below in
        let state = runs.states q live in
        subst (λ (x : ℕ). (slice_index_or (guests_after k.machine guests q acted) x no_guest).state ≡ (guest_now k.machine turned x).state)
        (sym same)
        (was
        ∙ (ap (λ (n : ℕ). guest_after k.machine n (slice_index_or guests q no_guest).state acted.value) node
        ∙ (ap (λ s. guest_after k.machine q s acted.value) state
        ∙ (ap (λ (v : ℕ). guest_after k.machine q (guest_now k.machine run_now q).state v) found ∙ sym own)))))
    | inr differ ↦
        ap (λ (g : GuestSeen). g.state) (guests_other acted r differ)
        ∙ (runs.states r (after_is_live r h)
        ∙ sym (ap (λ (x : GuestRun). x.state) (guest_now-other k.machine answer run_now q r (λ e. differ (sym e)))))
  ]

  -- what the engine keeps after the turn
  RunsOn-turn : (acted : Acted) (last : Chronicled) (ends_now : List Ended) → last.machine ≡ k.machine → acted.end ≡ made_now.end
      → acted.value ≡ value_found k.machine k.items want_now → state_of last ends_now ≡ turn k.machine answer run_now q
      → last.spare + length last.items ≡ k.spare + length k.items →
      RunsOn last answer ends_now (guests_after k.machine guests q acted) (t + 1)
  RunsOn-turn acted last ends_now machine how found state spare =
      let back = sym machine in
      let ends_is : ends_now ≡ turned.ends = ap (λ (s : Coarse). s.ends) state in
      record {
        machine = subst (λ (m : Machine). IsWithinLimits m) back runs.machine;
        sound =
            subst (λ (m : Machine). Sound m answer (state_of last ends_now)) back
            (subst (λ (s : Coarse). Sound k.machine answer s) (sym state)
            (turn_sound k.machine answer run_now q runs.machine runs.sound live));
        roomy =
            subst (λ (m : Machine). IsRoomy m (state_of last ends_now)) back
            (subst (λ (s : Coarse). IsRoomy k.machine s) (sym state) (turn_roomy k.machine answer run_now q runs.machine runs.roomy live));
        time = ap (λ (n : ℕ). n + 1) runs.time
            ∙ sym (ap time_of ends_is ∙ turn-time k.machine answer run_now q (is_live-below ends q live));
        guests = guests_length acted ∙ (runs.guests ∙ ap (λ (m : Machine). m.nodes) back);
        nodes =
            subst (λ (m : Machine). (r : ℕ) → r < m.nodes → (slice_index_or (guests_after k.machine guests q acted) r no_guest).node ≡ r)
            back
            (nodes_after acted);
        states =
            subst
            (λ (m : Machine). (r : ℕ) → is_live ends_now r ≡ true
            → (slice_index_or (guests_after k.machine guests q acted) r no_guest).state ≡ (guest_now m (state_of last ends_now) r).state)
            back
            (λ r h.
            states_after acted how found r (subst (λ (es : List Ended). is_live es r ≡ true) ends_is h)
            ∙ ap (λ (s : Coarse). (guest_now k.machine s r).state) (sym state));
        room = subst (λ (m : Machine). room m ≤ length last.items + last.spare) back (omega (arith, runs.room, spare));
      }

  -- ---- what the calls of a turn say

  pub wants : {m : Machine} {g : GuestSeen} {w : Want} → m ≡ k.machine → g ≡ slice_index_or guests q g → w ≡ wanted_by m g → w ≡ want_now
  wants {g = g} same is reads = reads ∙ (ap (λ (x : Machine). wanted_by x g) same ∙ guest_wants g is)

  abbrev pub made_at : List Ended → Want → Made
  made_at es w = made_by k.machine answer (state_of k es) q (t + 1) w

  made_at-now : (es : List Ended) (w : Want) → es ≡ ends → w ≡ want_now → made_at es w ≡ made_now
  made_at-now es w same is = ap (λ (x : List Ended). made_at x w) same ∙ ap (λ (x : Want). made_at ends x) is

  pub room_at : {es : List Ended} {w : Want} → es ≡ ends → w ≡ want_now → HasRoom k (made_at es w).items
  room_at {es} {w} same is =
      subst (λ (x : Made). HasRoom k x.items) (sym (made_at-now es w same is)) (record { spare = made_spare; few = made_few })

  -- what the turn proper did: its end, the word that it found, and what it added
  pub record HasActed (acted : Acted) (after : Chronicled) : Type 0 where
    pub end : acted.end ≡ made_now.end
    pub value : acted.value ≡ value_found k.machine k.items want_now
    pub added : HasAdded k after made_now.items

  pub HasActed-now : {es : List Ended} {w : Want} {acted : Acted} {after : Chronicled} → es ≡ ends → w ≡ want_now
      → acted.end ≡ (made_at es w).end → acted.value ≡ value_found k.machine k.items w → HasAdded k after (made_at es w).items
      → HasActed acted after
  HasActed-now {es} {w} {acted} {after} same is end value added = record {
    end = end ∙ ap (λ (x : Made). x.end) (made_at-now es w same is);
    value = value ∙ ap (value_found k.machine k.items) is;
    added = subst (λ (x : Made). HasAdded k after x.items) (made_at-now es w same is) added;
  }

  -- the turn is counted, and its end is noted
  pub record HasSettled (acted : Acted) (after : Chronicled) (ends_now : List Ended) : Type 0 where
    pub done : HasActed acted after
    pub ended : ends_now ≡ slice_set ends q (record {
      end = end_within k.machine.budget ((ended_of ends q).turns + 1) acted.end;
      turns = (ended_of ends q).turns + 1;
    })

  pub HasSettled-now : {acted : Acted} {after : Chronicled} {m : Machine} {e : End} {es ends_now : List Ended} → HasActed acted after
      → m ≡ after.machine → e ≡ end_within m.budget ((ended_of ends q).turns + 1) acted.end
      → es ≡ slice_set ends q (record { end = e; turns = (ended_of ends q).turns + 1 }) → ends_now ≡ es
      → HasSettled acted after ends_now
  HasSettled-now {acted} done same is set seen = record {
    done = done;
    ended =
        seen ∙ set
        ∙ ap (λ (x : End). slice_set ends q (record { end = x; turns = (ended_of ends q).turns + 1 }))
        (is ∙ ap (λ (x : Machine). end_within x.budget ((ended_of ends q).turns + 1) acted.end) (same ∙ done.added.machine));
  }

  -- ---- after the turn proper, before the pass

  module _ {acted : Acted} {after : Chronicled} {ends_now : List Ended} (settled : HasSettled acted after ends_now) where
    added : HasAdded k after made_now.items
    added = settled.done.added

    ends_are : ends_now ≡ (with_made k.machine run_now q made_now).ends
    ends_are =
        settled.ended
        ∙ (ap (λ (e : End). slice_set ends q
        (record { end = end_within k.machine.budget ((ended_of ends q).turns + 1) e; turns = (ended_of ends q).turns + 1 }))
        settled.done.end
        ∙ ap (λ (e : End). slice_set ends q (record { end = e; turns = (ended_of ends q).turns + 1 }))
        (end_within-after k.machine ((ended_of ends q).turns + 1) made_now.end))

    pub settled_length : length ends_now ≡ length ends
    settled_length = ap length settled.ended ∙ length-set ends q _

    state_made : state_of after ends_now ≡ with_made k.machine run_now q made_now
    state_made =
        ap (λ is. record { history = is; ends = ends_now }) added.items
        ∙ ap (λ es. record { history = k.items ++ made_now.items; ends = es }) ends_are

    pub made_is_sound : Sound after.machine answer (state_of after ends_now)
    made_is_sound =
        let P : Machine → Type 0 = λ m. Sound m answer (state_of after ends_now) in
        let Q : Coarse → Type 0 = λ s. Sound k.machine answer s in
        subst P (sym added.machine)
        (subst Q (sym state_made) (with_made_sound k.machine answer run_now q (t + 1) runs.machine runs.sound live))

    passed_is : daemon after.machine answer (t + 1) (state_of after ends_now) ≡ turn k.machine answer run_now q
    passed_is =
        ap (λ (m : Machine). daemon m answer (t + 1) (state_of after ends_now)) added.machine
        ∙ (ap (daemon k.machine answer (t + 1)) state_made
        ∙ ap (λ (tick : ℕ). daemon k.machine answer (tick + 1)
        (with_made k.machine run_now q (made_by k.machine answer run_now q (tick + 1) want_now))) runs.time)

    pub passed_length : length (daemon after.machine answer (t + 1) (state_of after ends_now)).history ≤ length after.items + after.spare
    passed_length =
        let same = ap (λ (s : Coarse). length s.history) passed_is in
        omega (arith, same, turned_room, runs.room, ap length added.items, length-append k.items made_now.items, added.spare)

    pub passed_few : length (daemon after.machine answer (t + 1) (state_of after ends_now)).history ≤ 2621440
    passed_few =
        let same = ap (λ (s : Coarse). length s.history) passed_is in
        omega (arith, same, turned_room, room-most k.machine runs.machine)

    -- ---- after the pass, where the ends and the guests are read again

    module _ (last : Chronicled) (ends_last : List Ended) (same : ends_now ≡ ends_last)
        (passed : state_of last ends_now ≡ daemon after.machine answer (t + 1) (state_of after ends_now)) where
      pub state_last : state_of last ends_last ≡ turn k.machine answer run_now q
      state_last = ap (state_of last) (sym same) ∙ (passed ∙ passed_is)

      pub RunsOn-last : {m : Machine} {guests_last : List GuestSeen} → last.machine ≡ after.machine
          → last.spare + length last.items ≡ after.spare + length after.items → m ≡ after.machine
          → guests_last ≡ guests_after m guests q acted → RunsOn last answer ends_last guests_last (t + 1)
      RunsOn-last machine spare read stepped_all =
          subst (λ (gs : List GuestSeen). RunsOn last answer ends_last gs (t + 1))
          (sym (stepped_all ∙ ap (λ (m : Machine). guests_after m guests q acted) (read ∙ added.machine)))
          (RunsOn-turn acted last ends_last (machine ∙ added.machine) settled.done.end settled.done.value state_last
          (omega (arith, spare, ap length added.items, length-append k.items made_now.items, added.spare)))
