-- an operation that keeps the session of its actor and what the history says of pages: what it leaves of entries is shown by
-- argument
use Rattle.std.specs.Prelude.{◌≡◌, ◌≢◌, ℕ, ◌<◌, ◌≤◌, not, take, Option, Some, IsTrue, slice_get, nat_lt}
use Rattle.std.proofs.Common.{refl, ap, sym, ◌∙◌, arith}
use Rattle.std.specs.List.{sum_by, count_by}
use Rattle.std.specs.Option.{option_map}
use Rattle.std.proofs.lemmas.Bool.{and_parts}
use Rattle.std.proofs.lemmas.Bool.Decides.{nat_tests}
use Rattle.plat_base.specs.Verdicts.{Answer}
use Rattle.plat_base.specs.Machine.{Machine}
use Rattle.plat_base.specs.Rules.{Good, HasEnoughFrames}
use Rattle.plat_base.specs.declared.frames.Frame.{Frame}
use Rattle.plat_base.specs.declared.endings.End.TheVariants as end
use Rattle.plat_base.specs.declared.items.Item.{Item}
use Rattle.plat_base.specs.declared.words.WordName.{WordName}
use Rattle.plat_base.specs.declared.words.WordName.TheVariants as word
use Rattle.plat_events.specs.Places.{is_name, is_word}
use Rattle.plat_events.specs.Sessions.{Session}
use Rattle.plat_events.specs.Privates.{Private, actor_count, is_over}
use Rattle.plat_events.specs.Events.{with_item}
use Rattle.plat_events.specs.Kept.{running_of, session_on, session_of, word_at, private_of}
use Rattle.plat_events.specs.Runs.{Fine, ends_of}
use Rattle.plat_events.specs.Shown.{act_of, goes_to, frame_word, IsReachedAlone, Shows}
use Rattle.plat_fine_laws.specs.Changes.{Changes, KeepsPage, KeepsFlat, ShowsFlat, LeavesDirs, ShowsEntries, KeepsTableWords, IsBy}
use Rattle.plat_fine_laws.proofs.PrivateLaws.{private_of-get, private_of-new}
use Rattle.plat_fine_laws.proofs.SessionOnLaws.{found_in, session_on-set}
use Rattle.plat_fine_laws.proofs.ActorFieldLaws.{running-on, words_encoded-kept, all_words-kept, all_privates-kept, each-private}
use Rattle.plat_fine_laws.proofs.ActorFieldLaws.{journals-kept, reached-kept}
use Rattle.plat_fine_laws.proofs.PageFieldLaws.{dir_read_is-kept, stamp_read_is-kept, lock_is_session-kept, dir_is_history-kept}
use Rattle.plat_fine_laws.proofs.PageFieldLaws.{stamp_is_history-kept, copies_fit-kept, hand_apart-kept, enough_finds-kept, posts_made-kept}
use Rattle.plat_fine_laws.proofs.FrameFieldLaws.{frames_once-kept, kept_flat-kept, hand_flat-kept, read_flat-kept}

module _ (m : Machine) (answer : Answer) (s t : Fine) (a : ℕ) (name : WordName) (number : ℕ) (p : Private) (made : Option Item)
    (shows : Shows m answer s) (within : a < actor_count m) (changes : Changes m s t a name number p made)
    (running : running_of (a, p) ≡ running_of (a, private_of m s a)) (dirs : LeavesDirs s.history t.history) where
  pub here : slice_get s.privates a ≡ Some (private_of m s a)
  here = private_of-get m s a (omega (arith, shows.all_privates))

  pub new : private_of m t a ≡ p
  new = private_of-new m s t a name number p made changes (omega (arith, shows.all_privates))

  pub sessions-same : (page : ℕ) → session_on t.privates page ≡ session_on s.privates page
  sessions-same page =
      ap (λ ps. session_on ps page) changes.privates
      ∙ session_on-set page a s.privates (private_of m s a) p here (ap (found_in page) running)

  pub keeps-page : (page : ℕ) → KeepsPage s t page
  keeps-page page = record {
    session = sessions-same page;
    dir = dirs.dir page;
    seq = dirs.seq page;
    last = dirs.last page;
    removals = λ test seq. dirs.removals test page seq;
  }

  one-session :
      (b : ℕ) (x : Session) → b < actor_count m → session_of (private_of m t b).place ≡ Some x →
      session_on t.privates x.fault.page ≡ Some (record { actor = b; now = (private_of m t b).now; session = x })
  one-session b x inside at =
      each-private m s t a name number p made changes answer shows
      (λ (c : ℕ) (q : Private). (y : Session) → session_of q.place ≡ Some y →
      session_on t.privates y.fault.page ≡ Some (record { actor = c; now = q.now; session = y }))
      within
      (λ y is. sessions-same y.fault.page
      ∙ running-on m answer s a (record { actor = a; now = p.now; session = y }) shows within
      (sym running ∙ ap (option_map (λ (z : Session). record { actor = a; now = p.now; session = z })) is))
      (λ c apart below y is. sessions-same y.fault.page ∙ shows.one_session c y below is)
      b inside x at

  -- the words of frames are flat memory's where neither they nor it changed
  pub flat-kept :
      ((page w : ℕ) → KeepsFlat m s t page w) →
      ((f : Frame) (w : ℕ) → frame_word m t f w ≡ frame_word m s f w) → ShowsFlat m answer t
  flat-kept flat same = record {
    kept_flat = λ page w f. kept_flat-kept m answer s t shows page (keeps-page page) w f (flat page w) (same f w);
    hand_flat = λ page w r f. hand_flat-kept m answer s t shows page (keeps-page page) w r f (flat page w) (same f w);
    read_flat = λ page r x. read_flat-kept m answer s t shows page (keeps-page page) r x (flat page x.0);
  }

  pub shows-kept :
      p.journal ≡ with_item (private_of m s a).journal made → IsBy a made → (HasEnoughFrames m → goes_to p.place ≢ Some end.NoFrames) →
      IsTrue (is_name m name) → IsTrue (is_word m name number) → KeepsTableWords m s t →
      word_at m t word.Time ≡ sum_by (λ (x : Private). x.turns) t.privates → word_at m s word.Time ≤ word_at m t word.Time →
      p.now ≤ word_at m t word.Time →
      word_at m t word.Live ≡ count_by (λ (x : Private). not (is_over x.place)) (take m.nodes t.privates) →
      ((q : ℕ) → q < m.nodes → word_at m t (word.Act q) ≡ act_of (private_of m t q)) → ShowsFlat m answer t →
      ShowsEntries m answer t → Good m answer t.history (ends_of m t.privates) → IsReachedAlone m answer a p → Shows m answer t
  shows-kept journal own framed named encoded words turns later_time past live acts flat entries good reached = record {
    all_words = all_words-kept m s t a name number p made changes answer shows;
    all_privates = all_privates-kept m s t a name number p made changes answer shows;
    words_encoded = words_encoded-kept m s t a name number p made changes answer shows named encoded;
    time_is_turns = turns;
    times_past =
        each-private m s t a name number p made changes answer shows (λ b (q : Private). q.now ≤ word_at m t word.Time) within past
        (λ b apart inside. let before = shows.times_past b inside in omega (arith, before, later_time));
    live_counts = live;
    act_shows = acts;
    lock_is_session = λ page inside.
        lock_is_session-kept m answer s t shows page (keeps-page page) inside (words (word.Dir page) refl (grind (arith, nat_tests)));
    one_session = one-session;
    dir_read_is = λ page. dir_read_is-kept m answer s t shows page (keeps-page page);
    stamp_read_is = λ page. stamp_read_is-kept m answer s t shows page (keeps-page page);
    dir_is_history = λ page inside.
        dir_is_history-kept m answer s t shows page (keeps-page page) inside (words (word.Dir page) refl (grind (arith, nat_tests)));
    stamp_is_history = λ page inside.
        stamp_is_history-kept m answer s t shows page (keeps-page page) inside (words (word.Stamp page) refl (grind (arith, nat_tests)));
    copies_fit = λ page. copies_fit-kept m answer s t shows page (keeps-page page);
    frames_once = λ f frame.
        frames_once-kept m answer s t shows f keeps-page
        (words (word.Pool f.module) refl (and_parts (nat_lt f.module m.nodes) (nat_lt f.number m.frames) frame).0) frame;
    hand_apart = λ page. hand_apart-kept m answer s t shows page (keeps-page page);
    enough_finds = λ enough page. enough_finds-kept m answer s t shows page (keeps-page page) enough;
    enough_stays = λ enough.
        each-private m s t a name number p made changes answer shows (λ b (q : Private). goes_to q.place ≢ Some end.NoFrames) within
        (framed enough) (λ b apart inside. shows.enough_stays enough b inside);
    kept_flat = flat.kept_flat;
    hand_flat = flat.hand_flat;
    read_flat = flat.read_flat;
    reference_is_pmap = entries.reference_is_pmap;
    views = entries.views;
    invalidates_stay = entries.invalidates_stay;
    held_is_pmap = entries.held_is_pmap;
    fault_not_held = entries.fault_not_held;
    posts_made = λ page. posts_made-kept m answer s t shows page (keeps-page page);
    history_good = good;
    journals_are_history = journals-kept m s t a name number p made changes answer shows within journal own;
    reached_alone = reached-kept m s t a name number p made changes answer shows within reached;
  }
