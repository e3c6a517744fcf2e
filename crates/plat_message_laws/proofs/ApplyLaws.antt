-- a message that a scan applies keeps the invariant
use Rattle.std.specs.Prelude.{◌≡◌, ◌≢◌, ◌⊎◌, ℕ, ◌+◌, ◌<◌, if◌then◌else◌, [], ◌∷◌, Option, Some, None, IsTrue, slice_get, slice_index}
use Rattle.std.specs.Prelude.{bit_and}
use Rattle.std.proofs.Common.{refl, ap, sym, ◌∙◌, inl, inr, arith, subst}
use Rattle.std.proofs.lemmas.Bool.{cases_eq}
use Rattle.std.proofs.lemmas.Bool.Decides.{nat_tests}
use Rattle.std.proofs.lemmas.List.{get_or-set_other}
use Rattle.plat_base.specs.Verdicts.{Answer}
use Rattle.plat_base.specs.Machine.{Machine}
use Rattle.plat_base.specs.Flat.{flat_value, flat_writes}
use Rattle.plat_base.specs.Rules.{Good, bad_rule}
use Rattle.plat_base.specs.declared.frames.Frame.{Frame}
use Rattle.plat_base.specs.declared.endings.End.{End}
use Rattle.plat_base.specs.declared.items.Applied.{Applied}
use Rattle.plat_base.specs.declared.items.Item.{Item}
use Rattle.plat_base.specs.declared.items.Item.TheVariants as item
use Rattle.plat_base.specs.declared.items.Message.{Message}
use Rattle.plat_base.specs.declared.items.Moment.{Moment}
use Rattle.plat_base.specs.declared.words.Op.TheVariants as op
use Rattle.plat_base.specs.declared.words.WordName.{WordName}
use Rattle.plat_base.specs.declared.words.WordName.TheVariants as word
use Rattle.plat_laws.specs.Guests.{IsWithinLimits}
use Rattle.plat_laws.proofs.ItemLaws.{flat_value-applied, flat_writes-applied}
use Rattle.plat_events.specs.Words.{bits_applied, all_but}
use Rattle.plat_events.specs.Places.{entry_count, place_of, is_name, is_word}
use Rattle.plat_events.specs.Sessions.{Session}
use Rattle.plat_events.specs.Privates.{Onward, Place, Applying, Ticking, Exchanging, Lessening, InSession, Private, actor_count, is_over}
use Rattle.plat_events.specs.Scans.{entry_scanned, scan_from}
use Rattle.plat_events.specs.Events.{at, apply_message, named_next, with_item}
use Rattle.plat_events.specs.Kept.{session_behind, has_left, word_at, private_of}
use Rattle.plat_events.specs.Runs.{Fine, event, ends_of}
use Rattle.plat_events.specs.Shown.{act_of, kind_for, frame_word, IsReachedAlone, Shows}
use Rattle.plat_local_laws.specs.Words.{CountersLeft, LeavesWord}
use Rattle.plat_local_laws.specs.Alone.{PrivateOk}
use Rattle.plat_local_laws.proofs.WordLaws.{reached_leaves}
use Rattle.plat_local_laws.proofs.PrivateLaws.{private_ok}
use Rattle.plat_local_laws.proofs.RuleLaws.{answered}
use Rattle.plat_fine_laws.specs.Changes.{Changes, GoesOn, KeepsFlat, IsBy, ShowsEntries}
use Rattle.plat_fine_laws.proofs.ActorFieldLaws.{each-private}
use Rattle.plat_fine_laws.proofs.MadeLaws.{good-made}
use Rattle.plat_fine_laws.proofs.EndFieldLaws.{turns-still, live-still}
use Rattle.plat_fine_laws.proofs.ReachedLaws.{reached-moved}
use Rattle.plat_fine_laws.proofs.KeepLaws
use Rattle.plat_message_laws.proofs.FoundLaws.{finds}
use Rattle.plat_message_laws.proofs.FoundLaws
use Rattle.plat_message_laws.proofs.BehindLaws.{EntryShown}
use Rattle.plat_message_laws.proofs.BehindLaws
use Rattle.plat_message_laws.proofs.EntryLaws.{own-shown}

module _ (m : Machine) (answer : Answer) (s : Fine) (a i : ℕ) (msg : Message) (moment : Moment) (onward : Onward)
    (limits : IsWithinLimits m) (shows : Shows m answer s) (within : a < actor_count m)
    (stands : (private_of m s a).place ≡ Applying i msg moment onward) where
  abbrev entry : ℕ
  entry = entry_scanned m (private_of m s a) i

  abbrev t : Fine
  t = event m answer s a

  abbrev name : WordName
  name = word.Cmap entry

  abbrev value : ℕ
  value = bit_and (word_at m s name) (all_but (bits_applied msg a))

  abbrev acc : Applied
  acc = record { actor = a; entry = entry; message = msg; moment = moment }

  abbrev made : Item
  made = item.Applied acc

  abbrev place : Place
  place = scan_from m (private_of m s a).turns (private_of m s a).guest.space (i + 1) moment onward

  abbrev next : Private
  next =
      record (at (apply_message (private_of m s a) entry msg) place) { journal = with_item (private_of m s a).journal (Some made) }

  shown : (q e : ℕ) → q < m.nodes → e < entry_count m → EntryShown m answer t q e
  shown q e inside within_entries = by (cases_eq q a) (cases_eq e entry)
    where
      by : (q ≡ a) ⊎ (q ≢ a) → (e ≡ entry) ⊎ (e ≢ entry) → EntryShown m answer t q e
      by (inl own) (inl same) = rw (own, same) (own-shown m answer s a i msg moment onward limits shows within stands)
      by (inl own) (inr apart) =
          rw own (BehindLaws.other-shown m answer s a i msg moment onward limits shows within stands e within_entries apart)
      by (inr other) k =
          BehindLaws.processor-shown m answer s a i msg moment onward limits shows within stands q e other inside within_entries

  entries : ShowsEntries m answer t
  entries = record {
    reference_is_pmap = λ q e inside within_entries. (shown q e inside within_entries).reference;
    views = λ q e inside within_entries. (shown q e inside within_entries).ok;
    invalidates_stay = λ q e inside within_entries. (shown q e inside within_entries).waits;
    held_is_pmap = λ q e inside within_entries. (shown q e inside within_entries).same;
    fault_not_held = λ page e r on fault.
        BehindLaws.held-lacks m answer s a i msg moment onward limits shows within stands (kind_for r.session.fault.cause) r.actor e
        (shows.fault_not_held page e r
        (sym (BehindLaws.keeps-page m answer s a i msg moment onward limits shows within stands page).session ∙ on) fault);
  }

  made-changes : Changes m s t a name value next (Some made)
  made-changes = BehindLaws.changes m answer s a i msg moment onward limits shows within stands

  word-kept : (other : WordName) → IsTrue (is_name m other) → other ≢ name → word_at m t other ≡ word_at m s other
  word-kept = BehindLaws.other-word m answer s a i msg moment onward limits shows within stands

  here-now : slice_get s.privates a ≡ Some (private_of m s a)
  here-now = FoundLaws.here m answer s a i msg moment onward limits shows within stands

  alone-now : PrivateOk m answer a (private_of m s a)
  alone-now = FoundLaws.alone m answer s a i msg moment onward limits shows within stands

  processor : a < m.nodes
  processor = BehindLaws.nodes m answer s a i msg moment onward limits shows within stands

  by-actor : IsBy a (Some made)
  by-actor = BehindLaws.own m answer s a i msg moment onward limits shows within stands

  leads : GoesOn (session_behind onward) place
  leads = BehindLaws.goes m answer s a i msg moment onward limits shows within stands

  same-left : has_left place ≡ has_left (private_of m s a).place
  same-left = BehindLaws.left m answer s a i msg moment onward limits shows within stands

  -- the word behind it is a mask of the machine
  encoded : IsTrue (is_word m name value)
  encoded =
      let n = word_at m s name in
      let counters : CountersLeft m (private_of m s a) n = record {
        tick = λ e. absurd (not_tick (sym stands ∙ e));
        live = λ x e. absurd (not_lessening x (sym stands ∙ e));
        version = λ k e. absurd (not_exchanging k (sym stands ∙ e));
        stamp = λ x c e. absurd (not_session x (sym stands ∙ e));
      } in
      let leaves : LeavesWord m (named_next m answer a (private_of m s a) (Applying i msg moment onward)) n =
      subst (λ (x : Place). LeavesWord m (named_next m answer a (private_of m s a) x) n) stands
      (reached_leaves m answer a (private_of m s a) n limits within (shows.reached_alone a within) counters) in
      leaves (FoundLaws.found m answer s a i msg moment onward limits shows within stands)
    where
      not_tick : Applying i msg moment onward ≡ Ticking → ⊥
      not_tick e = cc

      not_lessening : (x : End) → Applying i msg moment onward ≡ Lessening x → ⊥
      not_lessening x e = cc

      not_exchanging : (k : ℕ) → Applying i msg moment onward ≡ Exchanging k → ⊥
      not_exchanging k e = cc

      not_session : (x : Session) → Applying i msg moment onward ≡ InSession x → ⊥
      not_session x e = cc

  reached : IsReachedAlone m answer a next
  reached =
      subst
      (λ (o : Option Item). IsReachedAlone m answer a (record (at (apply_message (private_of m s a) entry msg) place) {
        journal = with_item (private_of m s a).journal o;
      }))
      (BehindLaws.item-is m answer s a i msg moment onward limits shows within stands)
      (reached-moved m answer a (private_of m s a) (Applying i msg moment onward) (word_at m s name) name
      (op.And (all_but (bits_applied msg a))) (shows.reached_alone a within) stands refl
      (FoundLaws.found m answer s a i msg moment onward limits shows within stands))

  alone_after : PrivateOk m answer a next
  alone_after = private_ok m answer a next limits within reached

  rule : bad_rule m answer s.history made ≡ None
  rule =
      let is =
      answered m answer a (private_of m s a) s.history i msg moment onward alone-now (shows.journals_are_history a within)
      (FoundLaws.scanning m answer s a i msg moment onward limits shows within stands)
      (finds m answer s a i msg moment onward limits shows within stands).may_held in
      rw is refl

  good : Good m answer t.history (ends_of m t.privates)
  good =
      good-made m answer s t a name value next made shows within processor made-changes by-actor refl rule alone_after leads.ended

  acts : (q : ℕ) → q < m.nodes → word_at m t (word.Act q) ≡ act_of (private_of m t q)
  acts q inside =
      each-private m s t a name value next (Some made) made-changes answer shows
      (λ b (x : Private). b < m.nodes → word_at m t (word.Act b) ≡ act_of x) within
      (λ below_nodes. act-word a below_nodes ∙ (shows.act_shows a below_nodes ∙ sym same))
      (λ b apart below_actors below_nodes. act-word b below_nodes ∙ shows.act_shows b below_nodes)
      q (omega arith) inside
    where
      act-word : (b : ℕ) → b < m.nodes → word_at m t (word.Act b) ≡ word_at m s (word.Act b)
      act-word b below_nodes = word-kept (word.Act b) (grind (arith, nat_tests)) (λ e. absurd cc)

      same : act_of next ≡ act_of (private_of m s a)
      same = λ j. if same-left j then 0 else (private_of m s a).guest.space + 1

  flats : (page w : ℕ) → KeepsFlat m s t page w
  flats page w = record {
    value =
        ap (λ h. flat_value m h page w) made-changes.history ∙ flat_value-applied m s.history (made ∷ []) page w refl;
    writes = ap (λ h. flat_writes h page w) made-changes.history ∙ flat_writes-applied s.history (made ∷ []) page w refl;
  }

  frame-kept : (f : Frame) (w : ℕ) → frame_word m t f w ≡ frame_word m s f w
  frame-kept f w =
      ap (λ ws. slice_index ws (place_of m (word.Memory f.module f.number w))) made-changes.words
      ∙ get_or-set_other s.words (place_of m name) (place_of m (word.Memory f.module f.number w)) value 0 apart
    where
      apart : place_of m (word.Memory f.module f.number w) ≢ place_of m name
      apart =
          let inside : entry < entry_count m = BehindLaws.below m answer s a i msg moment onward limits shows within stands in
          omega (arith, inside)

  pub keeps_applied : Shows m answer t
  keeps_applied =
      let time : word_at m t word.Time ≡ word_at m s word.Time = word-kept word.Time refl (λ e. absurd cc) in
      let past = shows.times_past a within in
      let runs = BehindLaws.running m answer s a i msg moment onward limits shows within stands in
      let leaves = BehindLaws.dirs m answer s a i msg moment onward limits shows within stands in
      KeepLaws.shows-kept m answer s t a name value next (Some made) shows within made-changes runs leaves refl by-actor
      (λ enough. leads.framed) (FoundLaws.named m answer s a i msg moment onward limits shows within stands) encoded
      (BehindLaws.table-words m answer s a i msg moment onward limits shows within stands)
      (time ∙ (shows.time_is_turns ∙ sym (turns-still m s t a name value next (Some made) made-changes here-now refl)))
      (omega (arith, time)) (omega (arith, time, past))
      (word-kept word.Live refl (λ e. absurd cc)
      ∙ (shows.live_counts
      ∙ sym (live-still m s t a name value next (Some made) made-changes here-now (λ inside. leads.over ∙ sym (ap is_over stands)))))
      acts
      (KeepLaws.flat-kept m answer s t a name value next (Some made) shows within made-changes runs leaves flats frame-kept)
      entries good reached

pub keeps_apply :
    (m : Machine) (answer : Answer) (s : Fine) (a i : ℕ) (msg : Message) (moment : Moment) (onward : Onward) → IsWithinLimits m →
    Shows m answer s → a < actor_count m → (private_of m s a).place ≡ Applying i msg moment onward →
    Shows m answer (event m answer s a)
keeps_apply m answer s a i msg moment onward limits shows within stands =
    keeps_applied m answer s a i msg moment onward limits shows within stands
