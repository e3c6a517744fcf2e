-- an operation of a session that goes on to another phase, and makes no item: the invariant holds on, where it holds of the frames
-- and of each processor and entry of the page
use Rattle.std.specs.Prelude.{◌≡◌, ◌≢◌, ◌⊎◌, ℕ, ◌+◌, ◌<◌, ◌≤◌, not, if◌then◌else◌, false, List, length, Option, Some, None, is_some, IsTrue}
use Rattle.std.specs.Prelude.{slice_get, ◌&&◌}
use Rattle.std.proofs.Common.{refl, ap, sym, ◌∙◌, inl, inr, arith, subst}
use Rattle.std.specs.Option.{option_map, option_map_or}
use Rattle.std.proofs.lemmas.Bool.{cases_eq, eq-eqb}
use Rattle.plat_base.specs.Verdicts.{Answer}
use Rattle.plat_base.specs.Machine.{Machine}
use Rattle.plat_base.specs.Copies.{copy_on, same_frame}
use Rattle.plat_base.specs.Decide.{is_dir, is_empty}
use Rattle.plat_base.specs.Messages.{removes_some}
use Rattle.plat_base.specs.Pages.{page_of, entries_of_page}
use Rattle.plat_base.specs.Directories.{dir_of, seq_of, last_of}
use Rattle.plat_base.specs.Flat.{flat_value, flat_writes}
use Rattle.plat_base.specs.Held.{held, has_right, later, removes_all, removes_writes}
use Rattle.plat_base.specs.declared.items.Kind.TheVariants.{Store}
use Rattle.plat_base.specs.declared.items.Translation.{Translation}
use Rattle.plat_base.specs.declared.frames.Dir.{Dir}
use Rattle.plat_base.specs.declared.frames.Frame.{Frame}
use Rattle.plat_base.specs.declared.items.Item.{Item}
use Rattle.plat_base.specs.declared.endings.End.TheVariants as end
use Rattle.plat_base.specs.declared.words.WordName.{WordName}
use Rattle.plat_base.specs.declared.words.WordName.TheVariants as word
use Rattle.plat_events.specs.Words.{dir_read, is_locked, stamp_word, has_reference}
use Rattle.plat_events.specs.Places.{entry_count, is_name, is_word}
use Rattle.plat_events.specs.Sessions.{Stamp, Phase, Session, with_phase}
use Rattle.plat_events.specs.Privates.{Place, InSession, Private, actor_count, is_over, translation_at}
use Rattle.plat_events.specs.Standings.{course_of, is_stamped, stamp_of, is_quiet, words_filled, word_copied, hand_of, posts_of, removes_by}
use Rattle.plat_events.specs.Standings.{saw_no_frame, has_given}
use Rattle.plat_events.specs.Kept.{Running, running_of, session_on, session_of, has_left, word_at, private_of, gave_back, is_copy_of}
use Rattle.plat_events.specs.Kept.{is_kept}
use Rattle.plat_events.specs.Views.{EntryOk, HeldOk, InvalidateStays, view, view_of, session_view, session_viewed, held_view, agrees}
use Rattle.plat_events.specs.Views.{place_view, page_view, translation_of}
use Rattle.plat_events.specs.Runs.{Fine, end_at, ended_by, ends_of}
use Rattle.plat_events.specs.Shown.{act_of, goes_to, stamp_after, stamp_by, kind_for, flat_word, frame_word, IsReachedAlone, Shows, is_hand}
use Rattle.plat_fine_laws.specs.Changes.{Changes, KeepsPage, KeepsFlat, KeepsEntry}
use Rattle.plat_fine_laws.proofs.PrivateLaws.{private_of-get, private_of-new, private_of-other}
use Rattle.plat_fine_laws.proofs.PlaceLaws.{IsPlain, plain_view}
use Rattle.plat_fine_laws.proofs.ActorFieldLaws.{words_encoded-kept, all_words-kept, all_privates-kept, each-private, journals-kept}
use Rattle.plat_fine_laws.proofs.ActorFieldLaws.{reached-kept}
use Rattle.plat_fine_laws.proofs.PageFieldLaws.{dir_read_is-kept, stamp_read_is-kept, lock_is_session-kept, dir_is_history-kept}
use Rattle.plat_fine_laws.proofs.PageFieldLaws.{stamp_is_history-kept, hand_apart-kept, enough_finds-kept, posts_made-kept}
use Rattle.plat_fine_laws.proofs.PageFieldLaws.{fault_not_held-kept}
use Rattle.plat_fine_laws.proofs.FrameFieldLaws.{hand_flat-kept, read_flat-kept, is_kept-same}
use Rattle.plat_fine_laws.proofs.ViewFieldLaws.{views-kept, invalidates_stay-kept, held_is_pmap-kept, reference_is_pmap-kept}
use Rattle.plat_frame_laws.specs.Phased.{running, PhaseFollows, FramesGo}
use Rattle.plat_frame_laws.proofs.OwnSessionLaws.{session_on-own, session_on-other}
use Rattle.plat_frame_laws.proofs.StillLaws.{map-take_still}
use Rattle.std.proofs.lemmas.Option.{same_Some}
use Rattle.plat_frame_laws.specs.SessionMoved.{SessionLeaves, SessionWords, PairOk}
use Rattle.plat_fine_laws.proofs.EndFieldLaws.{turns-still, live-still}

unstamped-by :
    (m : Machine) (answer : Answer) (items : List Item) (page : ℕ) (r : Running) → is_stamped r.session.phase ≡ false →
    stamp_by m answer items page (Some r) ≡ stamp_word (last_of items page) (seq_of items page)
unstamped-by m answer items page r h =
    ap
    (λ b. if b then option_map_or (stamp_after m answer items page r) (course_of r.session.phase) 0
    else stamp_word (last_of items page) (seq_of items page))
    h

module _ (m : Machine) (answer : Answer) (s t : Fine) (a : ℕ) (name : WordName) (number : ℕ) (after : Private) (x : Session) (next : Phase)
    (shows : Shows m answer s) (within : a < actor_count m) (stands : (private_of m s a).place ≡ InSession x)
    (changes : Changes m s t a name number after None)
    (leaves : SessionLeaves m x.fault.page (private_of m s a) after (with_phase x next)) where
  abbrev before : Private
  before = private_of m s a

  abbrev page : ℕ
  page = x.fault.page

  abbrev goes_on : Running
  goes_on = running a before.now (with_phase x next)

  here : slice_get s.privates a ≡ Some before
  here = private_of-get m s a (omega (arith, shows.all_privates))

  history-same : t.history ≡ s.history
  history-same = changes.history

  -- ---- the sessions

  pub ran : session_on s.privates page ≡ Some (running a before.now x)
  ran = shows.one_session a x within (ap session_of stands)

  runs-before : running_of (a, before) ≡ Some (running a before.now x)
  runs-before =
      ap (λ (y : Place). option_map (λ (z : Session). record { actor = a; now = before.now; session = z }) (session_of y)) stands

  runs-after : running_of (a, after) ≡ Some goes_on
  runs-after = λ i.
      option_map (λ (z : Session). record { actor = a; now = leaves.now i; session = z }) (leaves.goes.session i)

  pub runs : session_on t.privates page ≡ Some goes_on
  runs =
      ap (λ ps. session_on ps page) changes.privates
      ∙ session_on-own page a s.privates before after (running a before.now x) goes_on here refl ran runs-after (eq-eqb page page refl)

  pub others : (q : ℕ) → q ≢ page → session_on t.privates q ≡ session_on s.privates q
  others q apart =
      ap (λ ps. session_on ps q) changes.privates
      ∙ session_on-other q a s.privates before after (running a before.now x) goes_on here runs-before runs-after (λ e. apart (sym e))
      (λ e. apart (sym e))

  pub keeps : (q : ℕ) → q ≢ page → KeepsPage s t q
  keeps q apart = record {
    session = others q apart;
    dir = ap (λ h. dir_of h q) history-same;
    seq = ap (λ h. seq_of h q) history-same;
    last = ap (λ h. last_of h q) history-same;
    removals = λ test seq. ap (λ h. later test h q seq) history-same;
  }

  flat : (q w : ℕ) → KeepsFlat m s t q w
  flat q w = record { value = ap (λ h. flat_value m h q w) history-same; writes = ap (λ h. flat_writes h q w) history-same }

  flat-same : (q w : ℕ) → flat_word m t.history q w ≡ flat_word m s.history q w
  flat-same q w = ap (λ h. flat_word m h q w) history-same

  by_page : (Q : ℕ → Type 0) → Q page → ((q : ℕ) → q ≢ page → Q q) → (q : ℕ) → Q q
  by_page Q own other q = by (cases_eq q page)
    where
      by : (q ≡ page) ⊎ (q ≢ page) → Q q
      by (inl e) = subst Q (sym e) own
      by (inr n) = other q n

  -- the session on a page is the one that goes on, or another page's
  by_session :
      (P : ℕ → Running → Type 0) → P page goes_on → ((q : ℕ) → q ≢ page → (r : Running) → session_on t.privates q ≡ Some r → P q r) →
      (q : ℕ) (r : Running) → session_on t.privates q ≡ Some r → P q r
  by_session P own other q =
      by_page (λ (k : ℕ). (r : Running) → session_on t.privates k ≡ Some r → P k r)
      (λ r on. let same : goes_on ≡ r = some_same goes_on r (sym runs ∙ on) in subst (P page) same own) other q
    where
      some_same : (y z : Running) → Some y ≡ Some z → y ≡ z
      some_same y z e = cc

  -- ---- actors

  ends-same : ends_of m t.privates ≡ ends_of m s.privates
  ends-same =
      ap (ends_of m) changes.privates
      ∙ map-take_still ended_by m.nodes a s.privates before after here
      (λ i. record { end = (leaves.goes.ended ∙ sym (ap end_at stands)) i; turns = leaves.turns i })

  acts : SessionWords m x.fault.page s t → (q : ℕ) → q < m.nodes → word_at m t (word.Act q) ≡ act_of (private_of m t q)
  acts words q inside =
      each-private m s t a name number after None changes answer shows
      (λ b (y : Private). b < m.nodes → word_at m t (word.Act b) ≡ act_of y) within
      (λ below. words.acts a below ∙ (shows.act_shows a below ∙ same-space))
      (λ b apart below nodes. words.acts b nodes ∙ shows.act_shows b nodes)
      q (omega arith) inside
    where
      same-space : act_of before ≡ act_of after
      same-space = λ i.
          if (ap has_left stands ∙ sym leaves.goes.left) i then 0 else (sym leaves.guest i).space + 1

  one-session :
      (b : ℕ) (y : Session) → b < actor_count m → session_of (private_of m t b).place ≡ Some y →
      session_on t.privates y.fault.page ≡ Some (record { actor = b; now = (private_of m t b).now; session = y })
  one-session b y inside is =
      each-private m s t a name number after None changes answer shows
      (λ (c : ℕ) (p : Private). (z : Session) → session_of p.place ≡ Some z →
      session_on t.privates z.fault.page ≡ Some (record { actor = c; now = p.now; session = z }))
      within own other b inside y is
    where
      own : (z : Session) → session_of after.place ≡ Some z → session_on t.privates z.fault.page ≡ Some (running a after.now z)
      own z is =
          let there : Some (with_phase x next) ≡ Some z = sym leaves.goes.session ∙ is in
          let same : with_phase x next ≡ z = same_Some (with_phase x next) z there in
          rw leaves.now (subst (λ (y : Session). session_on t.privates y.fault.page ≡ Some (running a before.now y)) same runs)

      other :
          (c : ℕ) → c ≢ a → c < actor_count m → (z : Session) → session_of (private_of m s c).place ≡ Some z →
          session_on t.privates z.fault.page ≡ Some (record { actor = c; now = (private_of m s c).now; session = z })
      other c apart below z is =
          let on = shows.one_session c z below is in
          others z.fault.page
          (λ e. let twice : Some (running c (private_of m s c).now z) ≡ Some (running a before.now x) =
          sym on ∙ (ap (session_on s.privates) e ∙ ran) in
          apart (some_actor (running c (private_of m s c).now z) (running a before.now x) twice))
          ∙ on
        where
          some_actor : (u v : Running) → Some u ≡ Some v → u.actor ≡ v.actor
          some_actor u v e = ap (λ (o : Option Running). option_map_or (λ (w : Running). w.actor) o 0) e

  -- ---- entries

  pub translation-same :
      (q e : ℕ) → translation_at after e ≡ translation_at (private_of m s a) e → translation_of m t q e ≡ translation_of m s q e
  translation-same q e kept = by (cases_eq q a)
    where
      by : (q ≡ a) ⊎ (q ≢ a) → translation_of m t q e ≡ translation_of m s q e
      by (inl same) =
          let count : a < length s.privates = omega (arith, shows.all_privates) in
          rw same (ap (λ (y : Private). translation_at y e) (private_of-new m s t a name number after None changes count) ∙ kept)
      by (inr apart) = ap (λ (y : Private). translation_at y e) (private_of-other m s t a name number after None changes q apart)

  pub place-same : (q e : ℕ) → place_view m (private_of m t q) e ≡ place_view m (private_of m s q) e
  place-same q e = by (cases_eq q a)
    where
      plain : IsPlain m before before.place
      plain = subst (IsPlain m before) (sym stands) (record { scan = refl; message = refl })

      by : (q ≡ a) ⊎ (q ≢ a) → place_view m (private_of m t q) e ≡ place_view m (private_of m s q) e
      by (inl same) =
          let count : a < length s.privates = omega (arith, shows.all_privates) in
          rw same
          (ap (λ (y : Private). place_view m y e) (private_of-new m s t a name number after None changes count)
          ∙ plain_view m before after e (λ i. (leaves.guest i).space) (leaves.goes.left ∙ sym (ap has_left stands)) plain
          (record { scan = leaves.scan; message = leaves.message }))
      by (inr apart) = ap (λ (y : Private). place_view m y e) (private_of-other m s t a name number after None changes q apart)

  entry : SessionWords m x.fault.page s t → (q e : ℕ) → e < entry_count m → page_of m e ≢ page → KeepsEntry m s t q e
  entry words q e below other = record {
    mask = words.masks e below other;
    translation = translation-same q e (leaves.pmap e other);
    place = place-same q e;
    held = ap (λ h. held m h q e) history-same;
  }

  by_entry :
      (Q : (q e : ℕ) → Type 0) → ((q e : ℕ) → e < entry_count m → page_of m e ≡ page → q < m.nodes → Q q e) →
      ((q e : ℕ) → e < entry_count m → page_of m e ≢ page → q < m.nodes → Q q e) →
      (q e : ℕ) → q < m.nodes → e < entry_count m → Q q e
  by_entry Q own other q e inside below = by (cases_eq (page_of m e) page)
    where
      by : (page_of m e ≡ page) ⊎ (page_of m e ≢ page) → Q q e
      by (inl is) = own q e below is inside
      by (inr n) = other q e below n inside

  -- ---- what a processor and an entry of the page see

  module _ (q e : ℕ) where
    pub seen-before :
        page_of m e ≡ x.fault.page →
        view m answer s q e
        ≡ view_of q (translation_of m s q e) (word_at m s (word.Cmap e))
        (session_viewed m answer q e (translation_of m s q e) (running a (private_of m s a).now x))
        (place_view m (private_of m s q) e) (page_view m s (page_of m e) (translation_of m s q e))
    seen-before of_page =
        ap
        (λ r. view_of q (translation_of m s q e) (word_at m s (word.Cmap e)) (session_view m answer q e (translation_of m s q e) r)
        (place_view m (private_of m s q) e) (page_view m s (page_of m e) (translation_of m s q e)))
        (ap (session_on s.privates) of_page ∙ ran)

    -- with this translation and this mask behind the operation
    module _ (o : Option Translation) (mask : ℕ) (translation : translation_of m t q e ≡ o) where
      pub seen-after :
          page_of m e ≡ x.fault.page → word_at m t (word.Cmap e) ≡ mask →
          view m answer t q e
          ≡ view_of q o mask (session_viewed m answer q e o (running a (private_of m s a).now (with_phase x next)))
          (place_view m (private_of m s q) e) (page_view m s (page_of m e) o)
      seen-after of_page masked = λ i.
          view_of q (translation i) (masked i) (session_view m answer q e (translation i) (on i)) (place-same q e i)
          (page_view-still (translation i) i)
        where
          on : session_on t.privates (page_of m e) ≡ Some goes_on
          on = ap (session_on t.privates) of_page ∙ runs

          page_view-still : (r : Option Translation) → page_view m t (page_of m e) r ≡ page_view m s (page_of m e) r
          page_view-still r = λ i. record {
            dir = dir_of (history-same i) (page_of m e);
            all_after = option_map_or (λ (y : Translation). later removes_all (history-same i) (page_of m e) y.seq) r false;
            writes_after = option_map_or (λ (y : Translation). later removes_writes (history-same i) (page_of m e) y.seq) r false;
          }

      pub held-after :
          held_view m t q e ≡ record {
            held = is_some (held m s.history q e);
            held_writes = has_right Store (held m s.history q e);
            same = agrees o (held m s.history q e);
          }
      held-after = λ i. record {
        held = is_some (held m (history-same i) q e);
        held_writes = has_right Store (held m (history-same i) q e);
        same = agrees (translation i) (held m (history-same i) q e);
      }

  -- ---- the frames, where the session has none of them more or less

  pub kept-still :
      ((f : Frame) → has_given m answer a (private_of m s a).now (with_phase x next) f ≡ has_given m answer a (private_of m s a).now x f) →
      (q : ℕ) (f : Frame) → is_kept m answer t q f ≡ is_kept m answer s q f
  kept-still given q f = by (cases_eq q page)
    where
      back : gave_back m answer (session_on t.privates page) f ≡ gave_back m answer (session_on s.privates page) f
      back = ap (λ o. gave_back m answer o f) runs ∙ (given f ∙ sym (ap (λ o. gave_back m answer o f) ran))

      own : is_kept m answer t page f ≡ is_kept m answer s page f
      own = λ i. is_copy_of (dir_of (history-same i) page).copies f && not (back i)

      by : (q ≡ page) ⊎ (q ≢ page) → is_kept m answer t q f ≡ is_kept m answer s q f
      by (inl e) = rw e own
      by (inr n) = is_kept-same m answer s t q f (keeps q n)

  pub hand-still :
      hand_of (with_phase x next) ≡ hand_of x → (q : ℕ) (f : Frame) →
      is_hand (session_on t.privates q) f ≡ is_hand (session_on s.privates q) f
  hand-still hand q f = by (cases_eq q page)
    where
      own : is_hand (session_on t.privates page) f ≡ is_hand (session_on s.privates page) f
      own =
          ap (λ o. is_hand o f) runs
          ∙ (ap (λ (o : Option Frame). option_map_or (same_frame f) o false) hand ∙ sym (ap (λ o. is_hand o f) ran))

      by : (q ≡ page) ⊎ (q ≢ page) → is_hand (session_on t.privates q) f ≡ is_hand (session_on s.privates q) f
      by (inl e) = rw e own
      by (inr n) = ap (λ o. is_hand o f) (others q n)

  -- ---- the invariant

  pub shows-moved :
      SessionWords m x.fault.page s t → PhaseFollows m answer a (private_of m s a).now x next → FramesGo m answer s t x next →
      ((q e : ℕ) → q < m.nodes → e < entry_count m → page_of m e ≡ x.fault.page → PairOk m answer t q e) → x.fault.page < m.pages →
      IsTrue (is_name m name) → IsTrue (is_word m name number) → IsReachedAlone m answer a after → Shows m answer t
  shows-moved words follows go pairs page_within named encoded reached = record {
    all_words = all_words-kept m s t a name number after None changes answer shows;
    all_privates = all_privates-kept m s t a name number after None changes answer shows;
    words_encoded = words_encoded-kept m s t a name number after None changes answer shows named encoded;
    time_is_turns = words.time ∙ (shows.time_is_turns ∙ sym (turns-still m s t a name number after None changes here leaves.turns));
    times_past =
        each-private m s t a name number after None changes answer shows (λ b (y : Private). y.now ≤ word_at m t word.Time) within
        (rw (words.time, leaves.now) (shows.times_past a within))
        (λ b apart inside. rw words.time (shows.times_past b inside));
    live_counts =
        words.live
        ∙ (shows.live_counts
        ∙ sym (live-still m s t a name number after None changes here (λ below. leaves.goes.over ∙ sym (ap is_over stands))));
    act_shows = acts words;
    lock_is_session = λ q inside. by_page
        (λ k. k < m.pages → is_locked (word_at m t (word.Dir k)) ≡ is_some (session_on t.privates k))
        (λ below. ap is_locked (words.dirs page below) ∙ (shows.lock_is_session page below ∙ (ap is_some ran ∙ sym (ap is_some runs))))
        (λ k n below. lock_is_session-kept m answer s t shows k (keeps k n) below (words.dirs k below)) q inside;
    one_session = one-session;
    dir_read_is =
        by_session (λ k r. r.session.dir ≡ dir_of t.history k) (dir-own ∙ ap (λ h. dir_of h page) (sym history-same))
        (λ k n. dir_read_is-kept m answer s t shows k (keeps k n));
    stamp_read_is = λ q r st on. by_session
        (λ k y. (u : Stamp) → stamp_of y.session.phase ≡ Some u → (u.last ≡ last_of t.history k) × (u.seq ≡ seq_of t.history k))
        (λ u read. let was = shows.stamp_read_is page (running a before.now x) u ran (follows.stamp u read) in
        (was.0 ∙ ap (λ h. last_of h page) (sym history-same), was.1 ∙ ap (λ h. seq_of h page) (sym history-same)))
        (λ k n y there u. stamp_read_is-kept m answer s t shows k (keeps k n) y u there) q r on st;
    dir_is_history = λ q inside. by_page
        (λ k. k < m.pages → dir_read (word_at m t (word.Dir k)) ≡ dir_of t.history k)
        (λ below. ap dir_read (words.dirs page below) ∙ (shows.dir_is_history page below ∙ ap (λ h. dir_of h page) (sym history-same)))
        (λ k n below. dir_is_history-kept m answer s t shows k (keeps k n) below (words.dirs k below)) q inside;
    stamp_is_history = λ q inside. by_page
        (λ k. k < m.pages → word_at m t (word.Stamp k) ≡ stamp_by m answer t.history k (session_on t.privates k))
        stamp-own
        (λ k n below. stamp_is_history-kept m answer s t shows k (keeps k n) below (words.stamps k below)) q inside;
    copies_fit = λ q inside. ap (λ h. is_dir m (dir_of h q)) history-same ∙ shows.copies_fit q inside;
    frames_once = go.once;
    hand_apart = λ q r f on. by_session
        (λ k y. (g : Frame) → hand_of y.session ≡ Some g → copy_on g.module (dir_of t.history k).copies ≡ None)
        (λ g hand. ap (λ h. copy_on g.module (dir_of h page).copies) history-same
        ∙ (ap (λ (d : Dir). copy_on g.module d.copies) (sym dir-own) ∙ follows.apart g hand))
        (λ k n y there g. hand_apart-kept m answer s t shows k (keeps k n) y g there) q r on f;
    enough_finds = λ enough. by_session
        (λ k y. IsTrue (is_empty y.session.dir.state) → saw_no_frame m y.actor y.session.phase ≡ false) (follows.finds enough)
        (λ k n. enough_finds-kept m answer s t shows k (keeps k n) enough);
    enough_stays = λ enough.
        each-private m s t a name number after None changes answer shows (λ b (y : Private). goes_to y.place ≢ Some end.NoFrames) within
        leaves.goes.framed (λ b apart inside. shows.enough_stays enough b inside);
    kept_flat = λ q w f inside winside kept.
        let was = go.kept q w f inside winside kept in was.1 ∙ (shows.kept_flat q w f inside winside was.0 ∙ sym (flat-same q w));
    hand_flat = λ q w r f on. by_session
        (λ k y. hand_of y.session ≡ Some f → w < words_filled m y.session.phase → frame_word m t f w ≡ flat_word m t.history k w)
        (λ hand filled. go.filled w f hand filled ∙ sym (flat-same page w))
        (λ k n y there hand filled. hand_flat-kept m answer s t shows k (keeps k n) w y f (flat k w)
        (go.hands k w y f n (sym (others k n) ∙ there) hand filled) there hand filled) q r on;
    read_flat = λ q r y on. by_session
        (λ k z. word_copied z.session.phase ≡ Some y → y.1 ≡ flat_word m t.history k y.0)
        (λ copied. go.copied y copied ∙ sym (flat-same page y.0))
        (λ k n z there. read_flat-kept m answer s t shows k (keeps k n) z y (flat k y.0) there) q r on;
    reference_is_pmap = by_entry (λ q e. has_reference (word_at m t (word.Cmap e)) q ≡ is_some (translation_of m t q e))
        (λ q e below is inside. (pairs q e inside below is).reference)
        (λ q e below n inside. reference_is_pmap-kept m s t q e (words.masks e below n) (translation-same q e (leaves.pmap e n))
        (shows.reference_is_pmap q e inside below));
    views = by_entry (λ q e. EntryOk (view m answer t q e))
        (λ q e below is inside. (pairs q e inside below is).view_ok)
        (λ q e below n inside. views-kept m answer s t q e (keeps (page_of m e) n) (entry words q e below n)
        (shows.views q e inside below));
    invalidates_stay = by_entry (λ q e. InvalidateStays (view m answer t q e))
        (λ q e below is inside. (pairs q e inside below is).stays)
        (λ q e below n inside. invalidates_stay-kept m answer s t q e (keeps (page_of m e) n) (entry words q e below n)
        (shows.invalidates_stay q e inside below));
    held_is_pmap = by_entry (λ q e. HeldOk (view m answer t q e) (held_view m t q e))
        (λ q e below is inside. (pairs q e inside below is).held)
        (λ q e below n inside. held_is_pmap-kept m answer s t q e (keeps (page_of m e) n) (entry words q e below n)
        (shows.held_is_pmap q e inside below));
    fault_not_held = λ q e r on. by_session
        (λ k y. y.session.fault.entry ≡ Some e → has_right (kind_for y.session.fault.cause) (held m t.history y.actor e) ≡ false)
        (λ is. ap (λ h. has_right (kind_for x.fault.cause) (held m h a e)) history-same
        ∙ shows.fault_not_held page e (running a before.now x) ran is)
        (λ k n y there is. fault_not_held-kept m answer s t shows k (keeps k n) e y there is (ap (λ h. held m h y.actor e) history-same))
        q r on;
    posts_made =
        by_session
        (λ k y. IsTrue (is_quiet y.session.phase) → IsTrue (removes_some (removes_by m answer y.actor y.now y.session)) →
        length (posts_of y.session) ≡ length (entries_of_page m k))
        follows.posts (λ k n. posts_made-kept m answer s t shows k (keeps k n));
    history_good = rw (history-same, ends-same) shows.history_good;
    journals_are_history = journals-kept m s t a name number after None changes answer shows within leaves.journal (λ i e. absurd cc);
    reached_alone = reached-kept m s t a name number after None changes answer shows within reached;
  }
    where
      dir-own : x.dir ≡ dir_of s.history page
      dir-own = shows.dir_read_is page (running a before.now x) ran

      stamp-own : page < m.pages → word_at m t (word.Stamp page) ≡ stamp_by m answer t.history page (session_on t.privates page)
      stamp-own below =
          let plain : stamp_by m answer s.history page (Some (running a before.now x)) ≡ stamp_by m answer s.history page (Some goes_on) =
          unstamped-by m answer s.history page (running a before.now x) follows.unstored
          ∙ sym (unstamped-by m answer s.history page goes_on follows.unstamped) in
          words.stamps page below
          ∙ (shows.stamp_is_history page below
          ∙ (ap (stamp_by m answer s.history page) ran
          ∙ (plain
          ∙ (ap (stamp_by m answer s.history page) (sym runs)
          ∙ ap (λ h. stamp_by m answer h page (session_on t.privates page)) (sym history-same)))))
