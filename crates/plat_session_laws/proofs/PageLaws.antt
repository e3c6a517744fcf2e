-- an operation on one page by the actor of its session: the invariant holds on where it holds of the page and of its entries
use Rattle.std.specs.Prelude.{◌≡◌, ◌≢◌, ◌⊎◌, ℕ, ◌+◌, ◌<◌, ◌≤◌, not, nat_lt, if◌then◌else◌, true, false, length, Option, Some, None, is_some}
use Rattle.std.specs.Prelude.{IsTrue, slice_get}
use Rattle.std.proofs.Common.{refl, ap, sym, ◌∙◌, inl, inr, arith, subst}
use Rattle.std.specs.List.{sum_by}
use Rattle.std.specs.Option.{option_map}
use Rattle.std.proofs.lemmas.Bool.{cases_eq, ne_eqb, true≢false, and_parts}
use Rattle.std.proofs.lemmas.Bool.Decides.{nat_tests}
use Rattle.std.proofs.lemmas.Option.{slice_get_within, get_or_from_slice_get}
use Rattle.plat_base.specs.Verdicts.{Answer}
use Rattle.plat_base.specs.Machine.{Machine}
use Rattle.plat_base.specs.Copies.{copy_on}
use Rattle.plat_base.specs.Decide.{is_dir, is_empty, is_frame}
use Rattle.plat_base.specs.Messages.{removes_some}
use Rattle.plat_base.specs.Pages.{numbers, page_of, entries_of_page}
use Rattle.plat_base.specs.Directories.{dir_of, seq_of, last_of}
use Rattle.plat_base.specs.Held.{held, has_right}
use Rattle.plat_base.specs.Rules.{Good}
use Rattle.plat_base.specs.declared.frames.Frame.{Frame}
use Rattle.plat_base.specs.declared.items.Item.{Item}
use Rattle.plat_base.specs.declared.endings.End.TheVariants as end
use Rattle.plat_base.specs.declared.words.WordName.{WordName}
use Rattle.plat_base.specs.declared.words.WordName.TheVariants as word
use Rattle.plat_events.specs.Words.{has_bit, has_reference, dir_read, is_locked}
use Rattle.plat_events.specs.Places.{entry_count, is_name, is_word}
use Rattle.plat_events.specs.Sessions.{Stamp, Session}
use Rattle.plat_events.specs.Privates.{Private, actor_count, first_private}
use Rattle.plat_events.specs.Standings.{stamp_of, is_quiet, words_filled, word_copied, hand_of, posts_of, removes_by, saw_no_frame}
use Rattle.plat_events.specs.Kept.{Running, running_of, session_on, session_of, is_copy_of, is_kept, gave_back, word_at, private_of}
use Rattle.plat_events.specs.Views.{EntryOk, HeldOk, InvalidateStays, view, held_view, place_view, translation_of}
use Rattle.plat_events.specs.Runs.{Fine, ends_of}
use Rattle.plat_events.specs.Shown.{act_of, bit_of, goes_to, kind_for, stamp_by, flat_word, frame_word, uses_of, is_hand, IsReachedAlone}
use Rattle.plat_events.specs.Shown.{Shows}
use Rattle.plat_laws.specs.Guests.{IsWithinLimits}
use Rattle.plat_fine_laws.specs.Changes.{Changes, KeepsEntry}
use Rattle.plat_fine_laws.proofs.WordLaws.{word_at-other}
use Rattle.plat_fine_laws.proofs.PrivateLaws.{private_of-get, private_of-new, private_of-other}
use Rattle.plat_fine_laws.proofs.SessionOnLaws.{session_on-set}
use Rattle.plat_fine_laws.proofs.EndFieldLaws.{turns-still, live-still}
use Rattle.plat_fine_laws.proofs.ActorFieldLaws.{words_encoded-kept, all_words-kept, all_privates-kept, each-private, journals-kept}
use Rattle.plat_fine_laws.proofs.ActorFieldLaws.{reached-kept}
use Rattle.plat_fine_laws.proofs.PageFieldLaws.{dir_read_is-kept, stamp_read_is-kept, lock_is_session-kept, dir_is_history-kept}
use Rattle.plat_fine_laws.proofs.PageFieldLaws.{stamp_is_history-kept, copies_fit-kept, hand_apart-kept, enough_finds-kept, posts_made-kept}
use Rattle.plat_fine_laws.proofs.PageFieldLaws.{fault_not_held-kept}
use Rattle.plat_fine_laws.proofs.FrameFieldLaws.{is_kept-same, kept_flat-kept, hand_flat-kept, read_flat-kept}
use Rattle.plat_fine_laws.proofs.ViewFieldLaws.{views-kept, invalidates_stay-kept, held_is_pmap-kept, reference_is_pmap-kept}
use Rattle.plat_frame_laws.proofs.SumLaws.{sum-same}
use Rattle.plat_frame_laws.proofs.HandLaws.{hand-machine, kept-frame}
use Rattle.plat_frame_laws.proofs.FrameUseLaws.{page_uses}
use Rattle.plat_session_laws.specs.OnePage.{is_of_page, ShowsPage, ShowsEntry, LeavesOthers, ActorGoes}
use Rattle.plat_session_laws.proofs.SoleLaws.{NoneBut, session_on-sole, found_in-on, found_in-off}

module _ (m : Machine) (answer : Answer) (s t : Fine) (a : ℕ) (name : WordName) (number : ℕ) (after : Private) (made : Option Item)
    (page : ℕ)
    (limits : IsWithinLimits m) (shows : Shows m answer s) (within : a < actor_count m) (changes : Changes m s t a name number after made)
    (named : IsTrue (is_name m name)) (of_page : is_of_page m page name ≡ true)
    (goes : ActorGoes m a (private_of m s a) after made page)
    (sole : (r : Running) → session_on s.privates page ≡ Some r → r.actor ≡ a) where
  abbrev before : Private
  before = private_of m s a

  pub here : slice_get s.privates a ≡ Some (private_of m s a)
  here = private_of-get m s a (omega (arith, shows.all_privates))

  pub new : private_of m t a ≡ after
  new = private_of-new m s t a name number after made changes (omega (arith, shows.all_privates))

  -- words of other kinds and of other pages
  pub other-word : (other : WordName) → IsTrue (is_name m other) → is_of_page m page other ≡ false → word_at m t other ≡ word_at m s other
  other-word other there apart =
      word_at-other m s t a name number after made changes other named there
      (λ e. true≢false (sym of_page ∙ (ap (is_of_page m page) (sym e) ∙ apart)))

  dir-word : (k : ℕ) → k < m.pages → k ≢ page → word_at m t (word.Dir k) ≡ word_at m s (word.Dir k)
  dir-word k below apart = other-word (word.Dir k) (grind (arith, nat_tests)) (ne_eqb k page apart)

  stamp-same : (k : ℕ) → k < m.pages → k ≢ page → word_at m t (word.Stamp k) ≡ word_at m s (word.Stamp k)
  stamp-same k below apart = other-word (word.Stamp k) (grind (arith, nat_tests)) (ne_eqb k page apart)

  mask : (e : ℕ) → e < entry_count m → page_of m e ≢ page → word_at m t (word.Cmap e) ≡ word_at m s (word.Cmap e)
  mask e below apart = other-word (word.Cmap e) (grind (arith, nat_tests)) (ne_eqb (page_of m e) page apart)

  pub frame-word : (f : Frame) (w : ℕ) → is_frame m f ≡ true → w < m.words → frame_word m t f w ≡ frame_word m s f w
  frame-word f w machine inside =
      let parts = and_parts (nat_lt f.module m.nodes) (nat_lt f.number m.frames) machine in
      other-word (word.Memory f.module f.number w) (frame-named parts.0 parts.1) refl
    where
      frame-named : nat_lt f.module m.nodes ≡ true → nat_lt f.number m.frames ≡ true → is_name m (word.Memory f.module f.number w) ≡ true
      frame-named x y = grind (arith, nat_tests)

  -- ---- the sessions

  none-but : NoneBut page 0 a s.privates
  none-but b p there apart = found_in-off page (0 + b) p off
    where
      off : (x : Session) → session_of p.place ≡ Some x → x.fault.page ≢ page
      off x is on =
          let inside : b < length s.privates = slice_get_within s.privates b p there in
          let same : private_of m s b ≡ p = get_or_from_slice_get s.privates b p (first_private m b) there in
          let runs = shows.one_session b x (omega (arith, shows.all_privates)) (ap (λ (y : Private). session_of y.place) same ∙ is) in
          let actor : b ≡ a =
          sole (record { actor = b; now = (private_of m s b).now; session = x }) (ap (session_on s.privates) (sym on) ∙ runs) in
          apart (omega arith)

  -- the session on the page is that of the actor, if it has one
  pub runs : session_on t.privates page ≡ running_of (a, after)
  runs =
      ap (λ ps. session_on ps page) changes.privates
      ∙ (session_on-sole page a s.privates before after here none-but ∙ found_in-on page a after goes.is_on)

  pub others : (k : ℕ) → k ≢ page → session_on t.privates k ≡ session_on s.privates k
  others k apart =
      ap (λ ps. session_on ps k) changes.privates
      ∙ session_on-set k a s.privates before after here
      (found_in-off k a after (λ x is e. apart (sym e ∙ goes.is_on x is))
      ∙ sym (found_in-off k a before (λ x is e. apart (sym e ∙ goes.was_on x is))))

  pub by_page : (Q : ℕ → Type 0) → Q page → ((q : ℕ) → q ≢ page → Q q) → (q : ℕ) → Q q
  by_page Q own other q = by (cases_eq q page)
    where
      by : (q ≡ page) ⊎ (q ≢ page) → Q q
      by (inl e) = subst Q (sym e) own
      by (inr n) = other q n

  one-session :
      (b : ℕ) (y : Session) → b < actor_count m → session_of (private_of m t b).place ≡ Some y →
      session_on t.privates y.fault.page ≡ Some (record { actor = b; now = (private_of m t b).now; session = y })
  one-session b y inside is =
      each-private m s t a name number after made changes answer shows
      (λ (c : ℕ) (p : Private). (z : Session) → session_of p.place ≡ Some z →
      session_on t.privates z.fault.page ≡ Some (record { actor = c; now = p.now; session = z }))
      within own other b inside y is
    where
      own : (z : Session) → session_of after.place ≡ Some z →
          session_on t.privates z.fault.page ≡ Some (record { actor = a; now = after.now; session = z })
      own z is =
          ap (session_on t.privates) (goes.is_on z is)
          ∙ (runs ∙ ap (option_map (λ (x : Session). record { actor = a; now = after.now; session = x })) is)

      other :
          (c : ℕ) → c ≢ a → c < actor_count m → (z : Session) → session_of (private_of m s c).place ≡ Some z →
          session_on t.privates z.fault.page ≡ Some (record { actor = c; now = (private_of m s c).now; session = z })
      other c apart below z is =
          let on = shows.one_session c z below is in
          others z.fault.page
          (λ e. apart
          (sole (record { actor = c; now = (private_of m s c).now; session = z }) (ap (session_on s.privates) (sym e) ∙ on)))
          ∙ on

  -- ---- actors

  acts : (q : ℕ) → q < m.nodes → word_at m t (word.Act q) ≡ act_of (private_of m t q)
  acts q inside =
      each-private m s t a name number after made changes answer shows
      (λ b (y : Private). b < m.nodes → word_at m t (word.Act b) ≡ act_of y) within
      (λ below. same-act a below ∙ (shows.act_shows a below ∙ sym (own below)))
      (λ b apart below nodes. same-act b nodes ∙ shows.act_shows b nodes)
      q (omega arith) inside
    where
      same-act : (b : ℕ) → b < m.nodes → word_at m t (word.Act b) ≡ word_at m s (word.Act b)
      same-act b below = other-word (word.Act b) (grind (arith, nat_tests)) refl

      own : a < m.nodes → act_of after ≡ act_of before
      own below = λ i. if goes.left below i then 0 else goes.space i + 1

  pub place-same : (q e : ℕ) → place_view m (private_of m t q) e ≡ place_view m (private_of m s q) e
  place-same q e = by (cases_eq q a)
    where
      by : (q ≡ a) ⊎ (q ≢ a) → place_view m (private_of m t q) e ≡ place_view m (private_of m s q) e
      by (inl same) = rw same (ap (λ (y : Private). place_view m y e) new ∙ goes.places e)
      by (inr apart) = ap (λ (y : Private). place_view m y e) (private_of-other m s t a name number after made changes q apart)

  -- ---- entries of other pages

  entry : LeavesOthers m s t page → (q e : ℕ) → e < entry_count m → page_of m e ≢ page → KeepsEntry m s t q e
  entry leaves q e below apart = record {
    mask = mask e below apart;
    translation = leaves.translations q e apart;
    place = place-same q e;
    held = leaves.holds q e below apart;
  }

  by_entry :
      (Q : (q e : ℕ) → Type 0) → ((q e : ℕ) → q < m.nodes → e < entry_count m → page_of m e ≡ page → Q q e) →
      ((q e : ℕ) → e < entry_count m → page_of m e ≢ page → q < m.nodes → Q q e) →
      (q e : ℕ) → q < m.nodes → e < entry_count m → Q q e
  by_entry Q own other q e inside below = by (cases_eq (page_of m e) page)
    where
      by : (page_of m e ≡ page) ⊎ (page_of m e ≢ page) → Q q e
      by (inl is) = own q e inside below is
      by (inr n) = other q e below n inside

  -- ---- frames

  -- each frame is used as it was where the page uses it as it did
  pub once-kept :
      LeavesOthers m s t page → ((f : Frame) → is_frame m f ≡ true → page_uses m answer t f page ≡ page_uses m answer s f page) →
      (f : Frame) → IsTrue (is_frame m f) → uses_of m answer t f ≡ 1
  once-kept leaves same f machine =
      let parts = and_parts (nat_lt f.module m.nodes) (nat_lt f.number m.frames) machine in
      let pool : word_at m t (word.Pool f.module) ≡ word_at m s (word.Pool f.module) = other-word (word.Pool f.module) parts.0 refl in
      let pages : sum_by (page_uses m answer t f) (numbers m.pages) ≡ sum_by (page_uses m answer s f) (numbers m.pages) =
      sum-same (page_uses m answer t f) (page_uses m answer s f) m.pages
      (λ q below. by_page (λ k. page_uses m answer t f k ≡ page_uses m answer s f k) (same f machine) other q) in
      (λ i. bit_of (has_bit (pool i) f.number) + pages i) ∙ shows.frames_once f machine
    where
      other : (k : ℕ) → k ≢ page → page_uses m answer t f k ≡ page_uses m answer s f k
      other k apart = λ i.
          bit_of (is_kept-same m answer s t k f (leaves.pages k apart) i) + bit_of (is_hand (others k apart i) f)

  -- ---- the invariant

  pub shows-page :
      page < m.pages → LeavesOthers m s t page → ShowsPage m answer t page →
      ((q e : ℕ) → q < m.nodes → e < entry_count m → page_of m e ≡ page → ShowsEntry m answer t q e) →
      ((f : Frame) → IsTrue (is_frame m f) → uses_of m answer t f ≡ 1) → Good m answer t.history (ends_of m t.privates) →
      IsTrue (is_word m name number) → IsReachedAlone m answer a after → Shows m answer t
  shows-page page_within leaves own entries once good encoded reached = record {
    all_words = all_words-kept m s t a name number after made changes answer shows;
    all_privates = all_privates-kept m s t a name number after made changes answer shows;
    words_encoded = words_encoded-kept m s t a name number after made changes answer shows named encoded;
    time_is_turns =
        time-same ∙ (shows.time_is_turns ∙ sym (turns-still m s t a name number after made changes here goes.turns));
    times_past =
        each-private m s t a name number after made changes answer shows (λ b (y : Private). y.now ≤ word_at m t word.Time) within
        (rw (time-same, goes.now) (shows.times_past a within)) (λ b apart inside. rw time-same (shows.times_past b inside));
    live_counts =
        other-word word.Live refl refl ∙ (shows.live_counts ∙ sym (live-still m s t a name number after made changes here goes.over));
    act_shows = acts;
    lock_is_session = λ q inside. by_page
        (λ k. k < m.pages → is_locked (word_at m t (word.Dir k)) ≡ is_some (session_on t.privates k)) (λ below. own.lock)
        (λ k n below. lock_is_session-kept m answer s t shows k (leaves.pages k n) below (dir-word k below n)) q inside;
    one_session = one-session;
    dir_read_is =
        by_page (λ k. (r : Running) → session_on t.privates k ≡ Some r → r.session.dir ≡ dir_of t.history k) own.dir_read_is
        (λ k n. dir_read_is-kept m answer s t shows k (leaves.pages k n));
    stamp_read_is =
        by_page
        (λ k. (r : Running) (st : Stamp) → session_on t.privates k ≡ Some r → stamp_of r.session.phase ≡ Some st →
        (st.last ≡ last_of t.history k) × (st.seq ≡ seq_of t.history k)) own.stamp_read_is
        (λ k n. stamp_read_is-kept m answer s t shows k (leaves.pages k n));
    dir_is_history = λ q inside. by_page
        (λ k. k < m.pages → dir_read (word_at m t (word.Dir k)) ≡ dir_of t.history k) (λ below. own.dir_is)
        (λ k n below. dir_is_history-kept m answer s t shows k (leaves.pages k n) below (dir-word k below n)) q inside;
    stamp_is_history = λ q inside. by_page
        (λ k. k < m.pages → word_at m t (word.Stamp k) ≡ stamp_by m answer t.history k (session_on t.privates k)) (λ below. own.stamp_is)
        (λ k n below. stamp_is_history-kept m answer s t shows k (leaves.pages k n) below (stamp-same k below n)) q inside;
    copies_fit =
        by_page (λ k. k < m.pages → IsTrue (is_dir m (dir_of t.history k))) (λ below. own.copies_fit)
        (λ k n. copies_fit-kept m answer s t shows k (leaves.pages k n));
    frames_once = once;
    hand_apart =
        by_page
        (λ k. (r : Running) (f : Frame) → session_on t.privates k ≡ Some r → hand_of r.session ≡ Some f →
        copy_on f.module (dir_of t.history k).copies ≡ None) own.hand_apart
        (λ k n. hand_apart-kept m answer s t shows k (leaves.pages k n));
    enough_finds = λ enough. by_page
        (λ k. (r : Running) → session_on t.privates k ≡ Some r → IsTrue (is_empty r.session.dir.state) →
        saw_no_frame m r.actor r.session.phase ≡ false) (own.enough_finds enough)
        (λ k n. enough_finds-kept m answer s t shows k (leaves.pages k n) enough);
    enough_stays = λ enough.
        each-private m s t a name number after made changes answer shows (λ b (y : Private). goes_to y.place ≢ Some end.NoFrames) within
        (goes.framed enough) (λ b apart inside. shows.enough_stays enough b inside);
    kept_flat = λ q w f inside winside. by_page
        (λ k. k < m.pages → IsTrue (is_kept m answer t k f) → frame_word m t f w ≡ flat_word m t.history k w)
        (λ below kept. own.kept_flat w f winside kept)
        (λ k n below kept. kept_flat-kept m answer s t shows k (leaves.pages k n) w f (leaves.flat k w n)
        (frame-word f w (kept-frame m answer s k f shows below (kept-copy k f n kept)) winside) below winside kept) q inside;
    hand_flat = λ q w. by_page
        (λ k. (r : Running) (f : Frame) → session_on t.privates k ≡ Some r → hand_of r.session ≡ Some f →
        w < words_filled m r.session.phase → frame_word m t f w ≡ flat_word m t.history k w) (own.hand_flat w)
        (λ k n r f on hand filled.
        let ok = hand-machine m answer s limits shows k w r f (sym (others k n) ∙ on) hand filled in
        hand_flat-kept m answer s t shows k (leaves.pages k n) w r f (leaves.flat k w n) (frame-word f w ok.frame ok.word) on hand filled)
        q;
    read_flat =
        by_page
        (λ k. (r : Running) (x : ℕ × ℕ) → session_on t.privates k ≡ Some r → word_copied r.session.phase ≡ Some x →
        x.1 ≡ flat_word m t.history k x.0) own.read_flat
        (λ k n r x. read_flat-kept m answer s t shows k (leaves.pages k n) r x (leaves.flat k x.0 n));
    reference_is_pmap =
        by_entry (λ q e. has_reference (word_at m t (word.Cmap e)) q ≡ is_some (translation_of m t q e))
        (λ q e inside below is. (entries q e inside below is).reference)
        (λ q e below n inside. reference_is_pmap-kept m s t q e (mask e below n) (leaves.translations q e n)
        (shows.reference_is_pmap q e inside below));
    views =
        by_entry (λ q e. EntryOk (view m answer t q e)) (λ q e inside below is. (entries q e inside below is).view_ok)
        (λ q e below n inside. views-kept m answer s t q e (leaves.pages (page_of m e) n) (entry leaves q e below n)
        (shows.views q e inside below));
    invalidates_stay =
        by_entry (λ q e. InvalidateStays (view m answer t q e)) (λ q e inside below is. (entries q e inside below is).invalidate_stays)
        (λ q e below n inside. invalidates_stay-kept m answer s t q e (leaves.pages (page_of m e) n) (entry leaves q e below n)
        (shows.invalidates_stay q e inside below));
    held_is_pmap =
        by_entry (λ q e. HeldOk (view m answer t q e) (held_view m t q e)) (λ q e inside below is. (entries q e inside below is).held_ok)
        (λ q e below n inside. held_is_pmap-kept m answer s t q e (leaves.pages (page_of m e) n) (entry leaves q e below n)
        (shows.held_is_pmap q e inside below));
    fault_not_held =
        by_page
        (λ k. (e : ℕ) (r : Running) → session_on t.privates k ≡ Some r → r.session.fault.entry ≡ Some e →
        has_right (kind_for r.session.fault.cause) (held m t.history r.actor e) ≡ false) own.fault_not_held
        (λ k n e r on is. fault_not_held-kept m answer s t shows k (leaves.pages k n) e r on is
        (leaves.faults k e r n (sym (others k n) ∙ on) is));
    posts_made =
        by_page
        (λ k. (r : Running) → session_on t.privates k ≡ Some r → IsTrue (is_quiet r.session.phase) →
        IsTrue (removes_some (removes_by m answer r.actor r.now r.session)) → length (posts_of r.session) ≡ length (entries_of_page m k))
        own.posts_made (λ k n. posts_made-kept m answer s t shows k (leaves.pages k n));
    history_good = good;
    journals_are_history = journals-kept m s t a name number after made changes answer shows within goes.journal goes.own;
    reached_alone = reached-kept m s t a name number after made changes answer shows within reached;
  }
    where
      time-same : word_at m t word.Time ≡ word_at m s word.Time
      time-same = other-word word.Time refl refl

      kept-copy : (k : ℕ) (f : Frame) → k ≢ page → is_kept m answer t k f ≡ true → is_copy_of (dir_of s.history k).copies f ≡ true
      kept-copy k f n kept =
          (and_parts (is_copy_of (dir_of s.history k).copies f) (not (gave_back m answer (session_on s.privates k) f))
          (sym (is_kept-same m answer s t k f (leaves.pages k n)) ∙ kept)).0
