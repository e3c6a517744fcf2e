-- the exchange of a data word keeps the invariant
use Rattle.std.specs.Prelude.{◌≡◌, ◌≢◌, ◌⊎◌, ℕ, ◌+◌, ◌<◌, ◌==◌, ◌&&◌, if◌then◌else◌, Bool, true, false, List, [], ◌∷◌, ◌++◌, slice_get}
use Rattle.std.specs.Prelude.{Some, None, IsTrue}
use Rattle.std.proofs.Common.{refl, ap, sym, ◌∙◌, inl, inr, arith, subst}
use Rattle.std.proofs.lemmas.Bool.{cases_eq, eqb-true, eq-eqb, true≢false}
use Rattle.std.proofs.lemmas.Bool.Decides.{nat_tests}
use Rattle.plat_base.specs.Verdicts.{Answer}
use Rattle.plat_base.specs.Machine.{Machine}
use Rattle.plat_base.specs.GuestRun.{Reach}
use Rattle.plat_base.specs.Flat.{is_write, writes_word, flat_value, flat_writes}
use Rattle.plat_base.specs.Rules.{Good, bad_rule}
use Rattle.plat_base.specs.declared.frames.Frame.{Frame}
use Rattle.plat_base.specs.declared.items.Access.{Access}
use Rattle.plat_base.specs.declared.items.Item.{Item}
use Rattle.plat_base.specs.declared.items.Item.TheVariants as item
use Rattle.plat_base.specs.declared.endings.End.{End}
use Rattle.plat_base.specs.declared.words.Op.TheVariants as op
use Rattle.plat_base.specs.declared.words.WordName.{WordName}
use Rattle.plat_base.specs.declared.words.WordName.TheVariants as word
use Rattle.plat_laws.specs.Guests.{IsWithinLimits}
use Rattle.plat_laws.proofs.ItemLaws.{flat_value-append, flat_writes-append}
use Rattle.plat_laws.proofs.GuestLaws.{space_after, space-guest_after}
use Rattle.plat_events.specs.Words.{data_word, value_read, version_read}
use Rattle.plat_events.specs.Places.{is_name, is_word}
use Rattle.plat_events.specs.Sessions.{Session}
use Rattle.plat_events.specs.Privates.{Place, Ticking, Lessening, Exchanging, InSession, Private, actor_count, is_over}
use Rattle.plat_events.specs.Events.{frame_by, translation_now, reach_now, word_after, named_next, memory_now, access_over, with_item}
use Rattle.plat_events.specs.Kept.{session_of, has_left, activation_at, word_at, private_of}
use Rattle.plat_events.specs.Views.{place_view}
use Rattle.plat_events.specs.Runs.{Fine, event, ends_of}
use Rattle.plat_events.specs.Shown.{act_of, flat_word, IsReachedAlone, Shows}
use Rattle.plat_local_laws.specs.Faults.{AccessOk}
use Rattle.plat_local_laws.specs.Numbers.{is_in_turn}
use Rattle.plat_local_laws.specs.Standing.{ExchangingOk, PlaceOk}
use Rattle.plat_local_laws.specs.Words.{NamesWord, CountersLeft, LeavesWord}
use Rattle.plat_local_laws.specs.Alone.{PrivateOk}
use Rattle.plat_local_laws.proofs.NameLaws.{names_word}
use Rattle.plat_local_laws.proofs.WordLaws.{reached_leaves}
use Rattle.plat_local_laws.proofs.GuestStepLaws.{access_now}
use Rattle.plat_local_laws.proofs.PrivateLaws.{private_ok}
use Rattle.plat_fine_laws.specs.Changes.{Changes, GoesOn, KeepsFlat, Stays, LeavesPages, KeepsPageWords, ShowsFlat, is_page_word}
use Rattle.plat_fine_laws.proofs.WordLaws.{word_at-other}
use Rattle.plat_fine_laws.proofs.PrivateLaws.{private_of-get}
use Rattle.plat_fine_laws.proofs.ActorFieldLaws.{each-private}
use Rattle.plat_fine_laws.proofs.MadeLaws.{stays-made, good-made}
use Rattle.plat_fine_laws.proofs.EndFieldLaws.{turns-still, live-still}
use Rattle.plat_fine_laws.proofs.PlacedLaws.{Scans-still}
use Rattle.plat_fine_laws.proofs.PlaceLaws.{turn_over-goes, IsPlain, plain_view}
use Rattle.plat_fine_laws.proofs.TurnLaws.{turn_over-plain}
use Rattle.plat_fine_laws.proofs.ReachedLaws.{reached-moved}
use Rattle.plat_fine_laws.proofs.AloneLaws.{alone_ok}
use Rattle.plat_fine_laws.proofs.AccessLaws.{access-page_below, access-word_below, access-kept, access-data, access-modified}
use Rattle.plat_fine_laws.proofs.AccessLaws.{access-unremoved, access-rule}
use Rattle.plat_fine_laws.proofs.ExpectLaws.{keeps_failed_exchange}
use Rattle.plat_fine_laws.proofs.LoadLaws.{leaves-access}
use Rattle.plat_fine_laws.proofs.Footprints.{exchange-made}
use Rattle.plat_fine_laws.proofs.StayLaws
use Rattle.plat_access_laws.proofs.WriteCountLaws.{writes-fewer}
use Rattle.plat_access_laws.proofs.WriteFlatLaws.{flat-written}

-- ---- flat memory behind an access that writes

-- the access writes its own word, and no other
writes-own : (x : Access) → is_write x.kind ≡ true → writes_word x.page x.word (item.Access x) ≡ true
writes-own x does =
    let page : (x.page == x.page) ≡ true = eq-eqb x.page x.page refl in
    let word : (x.word == x.word) ≡ true = eq-eqb x.word x.word refl in rw (does, page, word) refl

writes-no_other : (x : Access) (q v : ℕ) → (q ≡ x.page → v ≡ x.word → ⊥) → writes_word q v (item.Access x) ≡ false
writes-no_other x q v apart = by (is_write x.kind) (x.page == q) (x.word == v) refl refl
  where
    by : (b c d : Bool) → (x.page == q) ≡ c → (x.word == v) ≡ d → (b && c && d) ≡ false
    by true true true page word = absurd (apart (sym (eqb-true x.page q page)) (sym (eqb-true x.word v word)))
    by true true false page word = refl
    by true false d page word = refl
    by false c d page word = refl

written-value :
    (m : Machine) (items : List Item) (x : Access) (q v : ℕ) (b : Bool) → writes_word q v (item.Access x) ≡ b →
    flat_value m (items ++ item.Access x ∷ []) q v ≡ (if b then x.new else flat_value m items q v)
written-value m items x q v b is =
    flat_value-append m items (item.Access x ∷ []) q v ∙ ap (λ c. if c then x.new else flat_value m items q v) is

written-writes :
    (items : List Item) (x : Access) (q v : ℕ) (b : Bool) → writes_word q v (item.Access x) ≡ b →
    flat_writes (items ++ item.Access x ∷ []) q v ≡ (if b then flat_writes items q v + 1 else flat_writes items q v)
written-writes items x q v b is =
    flat_writes-append items (item.Access x ∷ []) q v ∙ ap (λ c. if c then flat_writes items q v + 1 else flat_writes items q v) is

-- ---- the exchange that finds the word that was seen

module _ (m : Machine) (answer : Answer) (s : Fine) (a seen : ℕ) (limits : IsWithinLimits m) (shows : Shows m answer s)
    (within : a < actor_count m) (stands : (private_of m s a).place ≡ Exchanging seen)
    (same : word_at m s (memory_now m a (private_of m s a)) ≡ seen) where
  alone : PrivateOk m answer a (private_of m s a)
  alone = alone_ok m answer s a limits shows within

  exchanging : ExchangingOk m a (private_of m s a) seen
  exchanging = subst (PlaceOk m answer a (private_of m s a)) stands alone.standing.place

  access : AccessOk m a (private_of m s a) true
  access = exchanging.access

  here : slice_get s.privates a ≡ Some (private_of m s a)
  here = private_of-get m s a (let inside : a < actor_count m = within in omega (arith, shows.all_privates))

  abbrev t : Fine
  t = event m answer s a

  abbrev r : Reach
  r = reach_now m a (private_of m s a)

  abbrev f : Frame
  f = frame_by (translation_now m a (private_of m s a))

  abbrev name : WordName
  name = memory_now m a (private_of m s a)

  abbrev n : ℕ
  n = word_at m s name

  abbrev acc : Access
  acc = access_now m a (private_of m s a) n

  abbrev made : Item
  made = item.Access acc

  abbrev value : ℕ
  value = word_after r seen

  named : IsTrue (is_name m name)
  named =
      subst (λ (x : Place). NamesWord m (named_next m answer a (private_of m s a) x)) stands
      (names_word m answer a (private_of m s a) limits within (shows.reached_alone a within))

  turn : is_in_turn (private_of m s a).place ≡ true
  turn = ap is_in_turn stands

  free : session_of (private_of m s a).place ≡ None
  free = ap session_of stands

  left : has_left (private_of m s a).place ≡ false
  left = ap has_left stands

  scan : activation_at (private_of m s a).place ≡ None
  scan = ap activation_at stands

  found : IsTrue (is_word m name n)
  found = shows.words_encoded name named

  rule : bad_rule m answer s.history made ≡ None
  rule = access-rule m answer s a true limits shows within access turn free left scan named

  reads : (value_read n ≡ flat_value m s.history r.page r.word) × (version_read n ≡ flat_writes s.history r.page r.word)
  reads = access-data m answer s a true limits shows within access turn free left scan named

  abbrev next : Private
  next = record (access_over m a (private_of m s a) n) { journal = with_item (private_of m s a).journal (Some made) }

  changes : Changes m s t a name value next (Some made)
  changes = exchange-made m answer s a (private_of m s a) here seen stands same found

  -- the word behind it is one of the machine
  encoded : IsTrue (is_word m name value)
  encoded =
      let fewer = writes-fewer m answer s limits shows a r.page r.word access.processor turn in
      let version : version_read n ≡ version_read seen = ap version_read same in
      let counted = reads.1 in
      let counters : CountersLeft m (private_of m s a) n = record {
        tick = λ e. absurd (not_tick (sym stands ∙ e));
        live = λ x e. absurd (not_lessening x (sym stands ∙ e));
        version = λ k e. let seen_is : version_read seen ≡ version_read k = ap version_read (seen_same k (sym stands ∙ e)) in
            omega (arith, fewer, version, counted, seen_is);
        stamp = λ x c e. absurd (not_session x (sym stands ∙ e));
      } in
      let leaves : LeavesWord m (named_next m answer a (private_of m s a) (Exchanging seen)) n =
      subst (λ (x : Place). LeavesWord m (named_next m answer a (private_of m s a) x) n) stands
      (reached_leaves m answer a (private_of m s a) n limits within (shows.reached_alone a within) counters) in
      let equal : (n == seen) ≡ true = eq-eqb n seen same in
      ap (λ b. is_word m name (if b then value else n)) (sym equal) ∙ leaves found
    where
      not_tick : Exchanging seen ≡ Ticking → ⊥
      not_tick e = cc

      not_lessening : (x : End) → Exchanging seen ≡ Lessening x → ⊥
      not_lessening x e = cc

      not_session : (x : Session) → Exchanging seen ≡ InSession x → ⊥
      not_session x e = cc

      seen_same : (k : ℕ) → Exchanging seen ≡ Exchanging k → seen ≡ k
      seen_same k e = cc

  other-word : (other : WordName) → IsTrue (is_name m other) → other ≢ name → word_at m t other ≡ word_at m s other
  other-word other there apart = word_at-other m s t a name value next (Some made) changes other named there apart

  words : KeepsPageWords m s t
  words other page there = other-word other there (λ e. true≢false (sym page ∙ ap is_page_word e))

  goes : GoesOn None next.place
  goes = turn_over-goes m (private_of m s a).turns

  moved-space : next.guest.space ≡ (private_of m s a).guest.space
  moved-space =
      space-guest_after m a (private_of m s a).guest (value_read n) ∙ ap (space_after (private_of m s a).guest.space) access.wants

  stays : Stays m a (private_of m s a) next (Some made)
  stays = stays-made m a (private_of m s a) next made refl free goes refl refl refl

  leaves : LeavesPages m s.history t.history
  leaves = subst (LeavesPages m s.history) (sym changes.history) (leaves-access m s.history acc)

  -- flat memory: its own word is the new one, and each other word is as it was
  new : value ≡ flat_word m t.history r.page r.word
  new =
      let does : writes_word r.page r.word made ≡ true = writes-own acc access.kind in
      let val : flat_value m t.history r.page r.word ≡ acc.new =
      ap (λ h. flat_value m h r.page r.word) changes.history ∙ written-value m s.history acc r.page r.word true does in
      let count : flat_writes t.history r.page r.word ≡ flat_writes s.history r.page r.word + 1 =
      ap (λ h. flat_writes h r.page r.word) changes.history ∙ written-writes s.history acc r.page r.word true does in
      ap (word_after r) (sym same)
      ∙ ((λ i. data_word acc.new (reads.1 i + 1)) ∙ (λ i. data_word (sym val i) (sym count i)))

  flats : (q v : ℕ) → (q ≡ r.page → v ≡ r.word → ⊥) → KeepsFlat m s t q v
  flats q v apart =
      let none : writes_word q v made ≡ false = writes-no_other acc q v apart in record {
        value = ap (λ h. flat_value m h q v) changes.history ∙ written-value m s.history acc q v false none;
        writes = ap (λ h. flat_writes h q v) changes.history ∙ written-writes s.history acc q v false none;
      }

  flat : ShowsFlat m answer t
  flat =
      flat-written m answer s t a r.page r.word value f next (Some made) limits shows changes
      (StayLaws.keeps-page m answer s t a name value next (Some made) shows within changes stays leaves)
      (access-page_below m answer s a true limits shows within access turn free left scan named)
      (access-word_below m answer s a true limits shows within access turn free left scan named)
      (access-kept m answer s a true limits shows within access turn free left scan named)
      (access-modified m answer s a true limits shows within access turn free left scan named access.kind)
      (access-unremoved m answer s a true limits shows within access turn free left scan named access.kind)
      new flats

  reached : IsReachedAlone m answer a next
  reached =
      let equal : (n == seen) ≡ true = eq-eqb n seen same in
      rw equal at
      (reached-moved m answer a (private_of m s a) (Exchanging seen) n name (op.Exchange seen value) (shows.reached_alone a within) stands
      refl found)

  alone_after : PrivateOk m answer a next
  alone_after = private_ok m answer a next limits within reached

  good : Good m answer t.history (ends_of m t.privates)
  good =
      good-made m answer s t a name value next made shows within access.processor changes stays.own refl rule alone_after
      goes.ended

  acts : (q : ℕ) → q < m.nodes → word_at m t (word.Act q) ≡ act_of (private_of m t q)
  acts q nodes =
      each-private m s t a name value next (Some made) changes answer shows
      (λ b (x : Private). b < m.nodes → word_at m t (word.Act b) ≡ act_of x) within
      (λ below. act-word a below ∙ (shows.act_shows a below ∙ sym shown))
      (λ b apart below inside. act-word b inside ∙ shows.act_shows b inside)
      q (omega arith) nodes
    where
      act-word : (b : ℕ) → b < m.nodes → word_at m t (word.Act b) ≡ word_at m s (word.Act b)
      act-word b inside = other-word (word.Act b) (grind (arith, nat_tests)) (λ e. absurd cc)

      shown : act_of next ≡ act_of (private_of m s a)
      shown = λ i. if (goes.left ∙ sym left) i then 0 else moved-space i + 1

  pub keeps_made_exchange : Shows m answer (event m answer s a)
  keeps_made_exchange =
      let time : word_at m t word.Time ≡ word_at m s word.Time = other-word word.Time refl (λ e. absurd cc) in
      let past = shows.times_past a within in
      StayLaws.shows-stayed m answer s t a name value next (Some made) shows within changes stays leaves named encoded words
      (time ∙ (shows.time_is_turns ∙ sym (turns-still m s t a name value next (Some made) changes here refl)))
      (omega (arith, time)) (omega (arith, time, past))
      (other-word word.Live refl (λ e. absurd cc)
      ∙ (shows.live_counts
      ∙ sym (live-still m s t a name value next (Some made) changes here (λ inside. goes.over ∙ sym (ap is_over stands)))))
      acts flat
      (StayLaws.scanned-entries m answer s t a name value next (Some made) shows within changes stays leaves words
      (λ k. Scans-still (word_at m s (word.Cmap k)) a (place_view m (private_of m s a) k) (place_view m next k)
      (plain_view m (private_of m s a) next k moved-space (goes.left ∙ sym left)
      (subst (IsPlain m (private_of m s a)) (sym stands) (record { scan = refl; message = refl }))
      (turn_over-plain m next (private_of m s a).turns))))
      good reached

-- ---- any exchange

pub keeps_exchange :
    (m : Machine) (answer : Answer) (s : Fine) (a seen : ℕ) → IsWithinLimits m → Shows m answer s → a < actor_count m →
    (private_of m s a).place ≡ Exchanging seen → Shows m answer (event m answer s a)
keeps_exchange m answer s a seen limits shows within stands = by (cases_eq (word_at m s (memory_now m a (private_of m s a))) seen)
  where
    by : (word_at m s (memory_now m a (private_of m s a)) ≡ seen) ⊎ (word_at m s (memory_now m a (private_of m s a)) ≢ seen) →
        Shows m answer (event m answer s a)
    by (inl same) = keeps_made_exchange m answer s a seen limits shows within stands same
    by (inr other) = keeps_failed_exchange m answer s a limits shows within seen stands other
