-- a session whose frames are filled and given back goes on to its grant and to its unlock
use Rattle.std.specs.Prelude.{◌≡◌, ℕ, ◌+◌, ◌<◌, ◌≤◌, ◌==◌, ◌&&◌, is_some, if◌then◌else◌, true, false, List, [], length, take, Option, Some}
use Rattle.std.specs.Prelude.{None, IsTrue}
use Rattle.std.proofs.Common.{refl, ap, sym, ◌∙◌, arith, subst}
use Rattle.std.specs.List.{list_any}
use Rattle.std.specs.Option.{option_map_or}
use Rattle.std.proofs.lemmas.Bool.{true≢false}
use Rattle.plat_base.specs.Verdicts.{Answer}
use Rattle.plat_base.specs.Machine.{Machine}
use Rattle.plat_base.specs.Pages.{entries_of_page}
use Rattle.plat_base.specs.Copies.{same_frame}
use Rattle.plat_base.specs.Held.{held, has_right}
use Rattle.plat_base.specs.Decide.{is_empty}
use Rattle.plat_base.specs.Messages.{removes_some}
use Rattle.plat_base.specs.Directories.{dir_of, seq_of, last_of}
use Rattle.plat_base.specs.declared.frames.Frame.{Frame}
use Rattle.plat_base.specs.declared.items.Item.{Item}
use Rattle.plat_base.specs.declared.items.Removed.TheVariants.{Nothing}
use Rattle.plat_base.specs.declared.items.Translation.{Translation}
use Rattle.plat_base.specs.declared.words.WordName.TheVariants as word
use Rattle.plat_events.specs.Words.{dir_read, is_locked, stamp_word}
use Rattle.plat_events.specs.Shootdowns.{Target, targets}
use Rattle.plat_events.specs.Sessions.{Course, Phase, Storing, Granting, Unlocking, Session, decision_of, going, last_stored, with_phase}
use Rattle.plat_events.specs.Standings.{course_of, stamp_of, hand_of, has_given, is_quiet, is_stamped, posts_of, removes_by, saw_no_frame}
use Rattle.plat_events.specs.Standings.{word_copied, words_filled}
use Rattle.plat_events.specs.Kept.{Running, session_on, word_at}
use Rattle.plat_events.specs.Views.{session_viewed, is_granted_by}
use Rattle.plat_events.specs.Runs.{Fine}
use Rattle.plat_events.specs.Shown.{kind_for, stamp_after, stamp_by, Shows}
use Rattle.plat_frame_laws.specs.Phased.{Continues, running}
use Rattle.plat_session_laws.specs.OnePage.{SessionGoes}
use Rattle.plat_session_laws.specs.LastPhases.{LastPhase}

pub last-storing : (m : Machine) (a : ℕ) (c : Course) → LastPhase m a c (Storing c)
last-storing m a c = search arith

pub last-granting : (m : Machine) (a : ℕ) (c : Course) → LastPhase m a c (Granting c)
last-granting m a c = search arith

pub last-unlocking : (m : Machine) (a : ℕ) (c : Course) → LastPhase m a c (Unlocking c)
last-unlocking m a c = search arith

-- the stamp of a page whose session has stored its own
pub stamped-by :
    (m : Machine) (answer : Answer) (items : List Item) (page a now : ℕ) (x : Session) (c : Course) → is_stamped x.phase ≡ true →
    course_of x.phase ≡ Some c →
    stamp_by m answer items page (Some (running a now x))
    ≡ stamp_word (last_stored (decision_of m answer a now x c) now (last_of items page)) (seq_of items page + 1)
stamped-by m answer items page a now x c stored course =
    ap
    (λ b. if b then option_map_or (stamp_after m answer items page (running a now x)) (course_of x.phase) 0
    else stamp_word (last_of items page) (seq_of items page))
    stored
    ∙ ap (λ o. option_map_or (stamp_after m answer items page (running a now x)) o 0) course

module _ (m : Machine) (answer : Answer) (a now : ℕ) (x : Session) (c : Course) (next : Phase) (from : LastPhase m a c x.phase)
    (to : LastPhase m a c next) where
  same-course : course_of next ≡ course_of x.phase
  same-course = to.course ∙ sym from.course

  pub hand-last : hand_of (with_phase x next) ≡ hand_of x
  hand-last = ap (λ o. option_map_or (λ (d : Course). d.got) o None) same-course

  pub given-last : (f : Frame) → has_given m answer a now (with_phase x next) f ≡ has_given m answer a now x f
  given-last f =
      (λ i. option_map_or
      (λ d. list_any (same_frame f) (to.given (going x.dir (decision_of m answer a now x d)) i)) (same-course i) false)
      ∙ sym (λ i. option_map_or
      (λ d. list_any (same_frame f) (from.given (going x.dir (decision_of m answer a now x d)) i)) (course_of x.phase) false)

  given-same :
      (t : Option Translation) →
      option_map_or (λ (y : Translation). has_given m answer a now (with_phase x next) y.grant.frame) t false
      ≡ option_map_or (λ (y : Translation). has_given m answer a now x y.grant.frame) t false
  given-same None = refl
  given-same (Some y) = given-last y.grant.frame

  -- a processor and an entry that neither phase grants to see the session go on
  pub last-continues :
      (q e : ℕ) (t : Option Translation) → (session_viewed m answer q e t (running a now x)).granted ≡ false →
      (session_viewed m answer q e t (running a now (with_phase x next))).granted ≡ false →
      Continues (session_viewed m answer q e t (running a now x)) (session_viewed m answer q e t (running a now (with_phase x next)))
  last-continues q e t before after = record {
    whose = refl;
    posted = λ i.
        removes_some (option_map_or (λ d. (decision_of m answer a now x d).removed) (same-course i) Nothing)
        && list_any (λ y. y == e) (take (length (option_map_or (λ (d : Course). d.posts) (same-course i) []))
        (entries_of_page m x.fault.page));
    owed =
        ap (list_any (λ (y : Target). y.entry == e && y.processor == q)) (to.left (targets m a x.fault.page (posts_of (with_phase x next))))
        ∙ sym (ap (list_any (λ (y : Target). y.entry == e && y.processor == q)) (from.left (targets m a x.fault.page (posts_of x))));
    granted = after ∙ sym before;
    mine = ap (λ b. b && is_granted_by m answer (running a now (with_phase x next)) e t) after
        ∙ sym (ap (λ b. b && is_granted_by m answer (running a now x) e t) before);
    removes = λ posted. λ i. option_map_or (λ d. (decision_of m answer a now x d).removed) (same-course i) Nothing;
    gives = λ given not_before. absurd (true≢false (sym given ∙ (given-same t ∙ not_before)));
  }

  -- what is owed of the session that goes on
  module _ (s t : Fine) (shows : Shows m answer s) (ran : session_on s.privates x.fault.page ≡ Some (running a now x)) where
    abbrev page : ℕ
    page = x.fault.page

    abbrev goes_on : Running
    goes_on = running a now (with_phase x next)

    only : (P : Running → Type 0) → P goes_on → (r : Running) → Some goes_on ≡ Some r → P r
    only P own r e = let same : goes_on ≡ r = some_same goes_on r e in subst P same own
      where
        some_same : (y z : Running) → Some y ≡ Some z → y ≡ z
        some_same y z e = cc

    pub last-goes :
        x.fault.page < m.pages → word_at m t (word.Dir x.fault.page) ≡ word_at m s (word.Dir x.fault.page) →
        word_at m t (word.Stamp x.fault.page) ≡ stamp_by m answer s.history x.fault.page (Some (running a now (with_phase x next))) →
        SessionGoes m answer s t x.fault.page (Some (running a now x)) (Some (running a now (with_phase x next)))
    last-goes below dir stamp = record {
      lock = ap is_locked dir ∙ (shows.lock_is_session page below ∙ ap is_some ran);
      dir = ap dir_read dir;
      stamp = stamp;
      dir_read_is = only (λ r. r.session.dir ≡ dir_of s.history page) (shows.dir_read_is page (running a now x) ran);
      stamp_read_is = λ r st e. only
          (λ y. stamp_of y.session.phase ≡ Some st → (st.last ≡ last_of s.history page) × (st.seq ≡ seq_of s.history page))
          (λ read. shows.stamp_read_is page (running a now x) st ran (from.stamp ∙ (sym to.stamp ∙ read))) r e;
      finds = λ enough. only (λ r. IsTrue (is_empty r.session.dir.state) → saw_no_frame m r.actor r.session.phase ≡ false)
          (λ empty. to.saw ∙ (sym from.saw ∙ shows.enough_finds enough page (running a now x) ran empty));
      hand = λ r f e. only
          (λ y. hand_of y.session ≡ Some f → (z : Running) × (Some (running a now x) ≡ Some z) × (hand_of z.session ≡ Some f)
          × (words_filled m y.session.phase ≤ words_filled m z.session.phase))
          (λ hand. (
            running a now x,
            refl,
            sym hand-last ∙ hand,
            let more = from.filled in let less = to.filled in
                omega (arith, more, less),
          )) r e;
      copied = only (λ r. word_copied r.session.phase ≡ None) to.copied;
      back = given-last;
      in_hand = λ f. ap (λ (o : Option Frame). option_map_or (same_frame f) o false) hand-last;
      not_held = λ e r is. only
          (λ y. y.session.fault.entry ≡ Some e → has_right (kind_for y.session.fault.cause) (held m s.history y.actor e) ≡ false)
          (shows.fault_not_held page e (running a now x) ran) r is;
      posts = only
          (λ y. IsTrue (is_quiet y.session.phase) → IsTrue (removes_some (removes_by m answer y.actor y.now y.session)) →
          length (posts_of y.session) ≡ length (entries_of_page m page))
          (λ quiet removes.
          (λ i. length (option_map_or (λ (d : Course). d.posts) (same-course i) []))
          ∙ shows.posts_made page (running a now x) ran from.quiet
          (sym (λ i. removes_some (option_map_or (λ d. (decision_of m answer a now x d).removed) (same-course i) Nothing)) ∙ removes));
    }
