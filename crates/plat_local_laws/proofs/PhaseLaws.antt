-- sessions: where each phase leads, while the translations stay
use Rattle.std.proofs.Common.{◌≡◌, ℕ, ◌+◌, ◌*◌, ◌^◌, ◌<◌, ◌≤◌, Bool, true, false, List, [], length, Some, None, refl, arith, ap, sym, ◌∙◌}
use Rattle.std.proofs.Common.{inl, inr}
use Rattle.std.specs.Prelude.{◌==◌, nat_lt, if◌then◌else◌, IsTrue, Option}
use Rattle.std.specs.List.{list_all}
use Rattle.std.proofs.lemmas.Bool.{cond_both, ltb-true, eqb-false, lt-ltb, and_from, true≢false}
use Rattle.std.proofs.lemmas.Bool.Decides.{nat_tests}
use Rattle.plat_base.specs.Verdicts.{Answer}
use Rattle.plat_base.specs.Machine.{Machine}
use Rattle.plat_base.specs.Pages.{entries_of_page}
use Rattle.plat_base.specs.Messages.{removes_some}
use Rattle.plat_base.specs.Decide.{is_dir, is_empty, is_frame, may_decide}
use Rattle.plat_base.specs.declared.frames.Frame.{Frame}
use Rattle.plat_base.specs.declared.items.Action.{Action}
use Rattle.plat_base.specs.declared.items.Action.TheVariants as action
use Rattle.plat_laws.specs.Guests.{IsWithinLimits}
use Rattle.plat_laws.proofs.Limits.{frames-most}
use Rattle.plat_laws.proofs.TableLaws.{may_thaw}
use Rattle.plat_words.proofs.Pools.{lowest_free-below}
use Rattle.plat_events.specs.Words.{bits_from, last_numbered, last_read, seq_read, lowest_free}
use Rattle.plat_events.specs.Places.{most_changes, is_mask_word, is_stamp_word}
use Rattle.plat_events.specs.Shootdowns.{Shoot, Makes, Polls, Done, shoot_from}
use Rattle.plat_events.specs.Sessions.{Stamp, Course, Phase, Seeking, Taking, Returning, Filling, Reading, Giving, Storing, Session}
use Rattle.plat_events.specs.Sessions.{decision_of, tried, module_tried, going, give_from, fill_from, copy_from, shot_over, with_posts}
use Rattle.plat_events.specs.Sessions.{with_shoot, start_course, with_frame_got, seek_from, pool_found, frame_taken, with_phase}
use Rattle.plat_events.specs.Privates.{Private}
use Rattle.plat_local_laws.specs.Faults.{LacksRight, FaultOk}
use Rattle.plat_local_laws.specs.Phases.{StampOk, CourseOk, fills_words, copies_words, SeekingOk, TakingOk, QuietOk, FillingOk, PhaseOk}
use Rattle.plat_local_laws.proofs.ShotLaws.{ShootOk, shoot_from-ok}
use Rattle.plat_local_laws.proofs.CourseLaws.{IsActor, tried-thaw, module_tried-below, may_none, may_some, cause-fault, cause-thaw}
use Rattle.plat_local_laws.proofs.CourseLaws.{going-gives}

-- ---- the same in another phase

CourseOk-phase :
    (m : Machine) (answer : Answer) (a : ℕ) (p : Private) (s : Session) (x : Phase) (c : Course)
    → CourseOk m answer a p s c → CourseOk m answer a p (with_phase s x) c
CourseOk-phase m answer a p s x c h = record { may = h.may; stamp = h.stamp; masks = h.masks }

pub QuietOk-phase :
    (m : Machine) (answer : Answer) (a : ℕ) (p : Private) (s : Session) (x : Phase) (c : Course)
    → QuietOk m answer a p s c → QuietOk m answer a p (with_phase s x) c
QuietOk-phase m answer a p s x c h =
    record { course = CourseOk-phase m answer a p s x c h.course; posted = h.posted; silent = h.silent }

-- ---- what a session has, whatever its phase

pub record RunsOk (m : Machine) (a : ℕ) (p : Private) (s : Session) : Type 0 where
  pub limits : IsWithinLimits m
  pub actor : IsActor m a
  pub fault : FaultOk m a p s.fault
  pub dir : IsTrue (is_dir m s.dir)
  pub lacks : LacksRight m a p

-- ---- behind the shootdown

pub give_from-ok :
    (m : Machine) (answer : Answer) (a : ℕ) (p : Private) (s : Session) (x : Phase) (c : Course) (k : ℕ)
    → RunsOk m a p s → QuietOk m answer a p s c → PhaseOk m answer a p (with_phase s x) (give_from m answer a p.now s c k)
give_from-ok m answer a p s x c k r q =
    cond_both (nat_lt k (length (going s.dir (decision_of m answer a p.now s c)))) (Giving c k) (Storing c)
    (PhaseOk m answer a p (with_phase s x))
    (λ l. let left = ltb-true k (length (going s.dir (decision_of m answer a p.now s c))) l in
    record {
      lacks = r.lacks;
      quiet = QuietOk-phase m answer a p s x c q;
      action = going-gives m answer a p s c k r.actor r.fault q.course left;
      left = left;
    })
    (λ _. record { lacks = r.lacks; quiet = QuietOk-phase m answer a p s x c q })

pub FillingOk-from :
    (m : Machine) (answer : Answer) (a : ℕ) (p : Private) (s : Session) (x : Phase) (c : Course) (does : Action → Bool) (w : ℕ)
    → RunsOk m a p s → QuietOk m answer a p s c → does (decision_of m answer a p.now s c).action ≡ true → w < m.words
    → FillingOk m answer a p (with_phase s x) c does w
FillingOk-from m answer a p s x c does w r q d l =
    record { lacks = r.lacks; quiet = QuietOk-phase m answer a p s x c q; action = d; left = l }

pub fill_from-ok :
    (m : Machine) (answer : Answer) (a : ℕ) (p : Private) (s : Session) (x : Phase) (c : Course) (w : ℕ)
    → RunsOk m a p s → QuietOk m answer a p s c → fills_words (decision_of m answer a p.now s c).action ≡ true
    → PhaseOk m answer a p (with_phase s x) (fill_from m answer a p.now s c w)
fill_from-ok m answer a p s x c w r q d =
    cond_both (nat_lt w m.words) (Filling c w) (give_from m answer a p.now s c 0) (PhaseOk m answer a p (with_phase s x))
    (λ l. FillingOk-from m answer a p s x c fills_words w r q d (ltb-true w m.words l))
    (λ _. give_from-ok m answer a p s x c 0 r q)

pub copy_from-ok :
    (m : Machine) (answer : Answer) (a : ℕ) (p : Private) (s : Session) (x : Phase) (c : Course) (w : ℕ)
    → RunsOk m a p s → QuietOk m answer a p s c → copies_words (decision_of m answer a p.now s c).action ≡ true
    → PhaseOk m answer a p (with_phase s x) (copy_from m answer a p.now s c w)
copy_from-ok m answer a p s x c w r q d =
    cond_both (nat_lt w m.words) (Reading c w) (give_from m answer a p.now s c 0) (PhaseOk m answer a p (with_phase s x))
    (λ l. FillingOk-from m answer a p s x c copies_words w r q d (ltb-true w m.words l))
    (λ _. give_from-ok m answer a p s x c 0 r q)

pub shot_over-ok :
    (m : Machine) (answer : Answer) (a : ℕ) (p : Private) (s : Session) (x : Phase) (c : Course) (act : Action)
    → (decision_of m answer a p.now s c).action ≡ act → RunsOk m a p s → QuietOk m answer a p s c
    → PhaseOk m answer a p (with_phase s x) (shot_over m answer a p.now s c act)
shot_over-ok m answer a p s x c action.Fill e r q = fill_from-ok m answer a p s x c 0 r q (ap fills_words e)
shot_over-ok m answer a p s x c action.MapLocal e r q = give_from-ok m answer a p s x c 0 r q
shot_over-ok m answer a p s x c action.MapRemote e r q = give_from-ok m answer a p s x c 0 r q
shot_over-ok m answer a p s x c action.Replicate e r q = copy_from-ok m answer a p s x c 0 r q (ap copies_words e)
shot_over-ok m answer a p s x c action.Migrate e r q = copy_from-ok m answer a p s x c 0 r q (ap copies_words e)
shot_over-ok m answer a p s x c action.Collapse e r q = give_from-ok m answer a p s x c 0 r q
shot_over-ok m answer a p s x c action.Thaw e r q = give_from-ok m answer a p s x c 0 r q

-- ---- in the shootdown

CourseOk-posts :
    (m : Machine) (answer : Answer) (a : ℕ) (p : Private) (s : Session) (x : Phase) (c : Course) (posts : List ℕ)
    → CourseOk m answer a p s c → IsTrue (list_all (is_mask_word m) posts) → CourseOk m answer a p (with_phase s x) (with_posts c posts)
CourseOk-posts m answer a p s x c posts h k = record { may = h.may; stamp = h.stamp; masks = k }

QuietOk-done :
    (m : Machine) (answer : Answer) (a : ℕ) (p : Private) (s : Session) (c : Course) (posts : List ℕ)
    → CourseOk m answer a p s c → removes_some (decision_of m answer a p.now s c).removed ≡ true
    → IsTrue (list_all (is_mask_word m) posts) → length posts ≡ length (entries_of_page m s.fault.page)
    → QuietOk m answer a p s (with_posts c posts)
QuietOk-done m answer a p s c posts h e k l = record {
  course = record { may = h.may; stamp = h.stamp; masks = k };
  posted = λ _. l;
  silent = λ f. absurd (true≢false (sym e ∙ f));
}

pub with_shoot-ok :
    (m : Machine) (answer : Answer) (a : ℕ) (p : Private) (s : Session) (x : Phase) (c : Course) (sh : Shoot)
    → RunsOk m a p s → CourseOk m answer a p s c → removes_some (decision_of m answer a p.now s c).removed ≡ true
    → ShootOk m a s.fault.page sh → PhaseOk m answer a p (with_phase s x) (with_shoot m answer a p.now s c sh)
with_shoot-ok m answer a p s x c (Makes posts shot) r h e k =
    record { lacks = r.lacks; course = CourseOk-posts m answer a p s x c posts h k.0; removes = e; stands = k.1 }
with_shoot-ok m answer a p s x c (Polls posts n) r h e k =
    record { lacks = r.lacks; course = CourseOk-posts m answer a p s x c posts h k.0; removes = e; stands = k.1 }
with_shoot-ok m answer a p s x c (Done posts) r h e k =
    shot_over-ok m answer a p s x (with_posts c posts) (decision_of m answer a p.now s c).action refl r
    (QuietOk-done m answer a p s c posts h e k.0 k.1)

-- ---- the row is fixed

QuietOk-silent :
    (m : Machine) (answer : Answer) (a : ℕ) (p : Private) (s : Session) (c : Course)
    → CourseOk m answer a p s c → removes_some (decision_of m answer a p.now s c).removed ≡ false → c.posts ≡ []
    → QuietOk m answer a p s c
QuietOk-silent m answer a p s c h e k =
    record { course = h; posted = λ f. absurd (true≢false (sym f ∙ e)); silent = λ _. k }

start_course-ok :
    (m : Machine) (answer : Answer) (a : ℕ) (p : Private) (s : Session) (x : Phase) (c : Course)
    → RunsOk m a p s → CourseOk m answer a p s c → c.posts ≡ []
    → PhaseOk m answer a p (with_phase s x) (start_course m answer a p.now s c)
start_course-ok m answer a p s x c r h e =
    cond_both (removes_some (decision_of m answer a p.now s c).removed)
    (with_shoot m answer a p.now s c (shoot_from m a s.fault.page []))
    (shot_over m answer a p.now s c (decision_of m answer a p.now s c).action)
    (PhaseOk m answer a p (with_phase s x))
    (λ k. with_shoot-ok m answer a p s x c (shoot_from m a s.fault.page []) r h k (shoot_from-ok m a s.fault.page [] refl (omega arith)))
    (λ k. shot_over-ok m answer a p s x c (decision_of m answer a p.now s c).action refl r (QuietOk-silent m answer a p s c h k e))

pub with_frame_got-ok :
    (m : Machine) (answer : Answer) (a : ℕ) (p : Private) (s : Session) (x : Phase) (st : Stamp) (got : Option Frame)
    → RunsOk m a p s → StampOk m st → may_decide m answer s.dir st.last p.now a s.fault.cause got ≡ true
    → PhaseOk m answer a p (with_phase s x) (with_frame_got m answer a p.now s st got)
with_frame_got-ok m answer a p s x st got r h e =
    start_course-ok m answer a p s x (record { stamp = st; got = got; posts = [] }) r
    (record { may = e; stamp = h; masks = refl }) refl

-- ---- a frame is sought

-- no frame is got: a page that is thawed is frozen, and another is not empty
may_go_without :
    (m : Machine) (answer : Answer) (a : ℕ) (p : Private) (s : Session) (st : Stamp) → RunsOk m a p s → (a ≡ m.nodes → s.dir.frozen ≡ true)
    → IsActor m a → is_empty s.dir.state ≡ false → may_decide m answer s.dir st.last p.now a s.fault.cause None ≡ true
may_go_without m answer a p s st r f (inl l) e =
    may_none m answer s.dir st.last p.now a s.fault.cause r.dir e (cause-fault m a p s r.fault l)
may_go_without m answer a p s st r f (inr q) e =
    rw (cause-thaw m a p s r.fault q) (may_thaw m answer s.dir st.last p.now a r.dir (f q))

seeks_more :
    (m : Machine) (answer : Answer) (a : ℕ) (p : Private) (s : Session) (st : Stamp) (i : ℕ) → RunsOk m a p s
    → (a ≡ m.nodes → is_empty s.dir.state ≡ false) → IsActor m a → i < length (tried m answer a p.now s st) → a < m.nodes
seeks_more m answer a p s st i r f (inl l) k = l
seeks_more m answer a p s st i r f (inr q) k =
    absurd (omega (arith, ap length (tried-thaw m answer a p.now s st (cause-thaw m a p s r.fault q) (f q))))

frozen_filled : (m : Machine) (answer : Answer) (s : Session) → IsTrue (is_dir m s.dir) → s.dir.frozen ≡ true → is_empty s.dir.state ≡ false
frozen_filled m answer s h f = grind (arith, nat_tests)

pub seek_from-ok :
    (m : Machine) (answer : Answer) (a : ℕ) (p : Private) (s : Session) (x : Phase) (st : Stamp) (i : ℕ)
    → RunsOk m a p s → StampOk m st → (a ≡ m.nodes → s.dir.frozen ≡ true)
    → PhaseOk m answer a p (with_phase s x) (seek_from m answer a p.now s st i)
seek_from-ok m answer a p s x st i r h f =
    let filled : a ≡ m.nodes → is_empty s.dir.state ≡ false = λ q. frozen_filled m answer s r.dir (f q) in
    cond_both (nat_lt i (length (tried m answer a p.now s st))) (Seeking st i)
    (if is_empty s.dir.state then Returning else with_frame_got m answer a p.now s st None)
    (PhaseOk m answer a p (with_phase s x))
    (λ l. let left = ltb-true i (length (tried m answer a p.now s st)) l in
    record { processor = seeks_more m answer a p s st i r filled r.actor left; lacks = r.lacks; stamp = h; left = left })
    (λ _. cond_both (is_empty s.dir.state) Returning (with_frame_got m answer a p.now s st None) (PhaseOk m answer a p (with_phase s x))
    (λ e. record { lacks = r.lacks; empty = λ _. e; thawed = λ q. absurd (true≢false (sym e ∙ filled q)) })
    (λ e. with_frame_got-ok m answer a p s x st None r h (may_go_without m answer a p s st r f r.actor e)))

pub not_daemon : (m : Machine) (a : ℕ) {P : Type 0} → a < m.nodes → a ≡ m.nodes → P
not_daemon m a l e = absurd (omega arith)

pub pool_found-ok :
    (m : Machine) (answer : Answer) (a : ℕ) (p : Private) (s : Session) (x : Phase) (st : Stamp) (i n : ℕ)
    → RunsOk m a p s → SeekingOk m answer a p s st i → n < 2 ^ m.frames
    → PhaseOk m answer a p (with_phase s x) (pool_found m answer a p.now s st i n)
pool_found-ok m answer a p s x st i n r h l =
    cond_both (n == 0) (seek_from m answer a p.now s st (i + 1)) (Taking st i n) (PhaseOk m answer a p (with_phase s x))
    (λ _. seek_from-ok m answer a p s x st (i + 1) r h.stamp (λ e. not_daemon m a h.processor e))
    (λ e. record {
      seeks = record { processor = h.processor; lacks = h.lacks; stamp = h.stamp; left = h.left };
      some = eqb-false n 0 e;
      pool = l;
    })

frame_taken-is :
    (m : Machine) (answer : Answer) (a : ℕ) (p : Private) (s : Session) (st : Stamp) (i seen : ℕ) → IsWithinLimits m
    → TakingOk m answer a p s st i seen → is_frame m (frame_taken m answer a p.now s st i seen) ≡ true
frame_taken-is m answer a p s st i seen w h =
    let some : 0 < seen = omega (arith, h.some) in
    and_from (nat_lt (module_tried m answer a p.now s st i) m.nodes) (nat_lt (lowest_free seen) m.frames)
    (lt-ltb (module_tried m answer a p.now s st i) m.nodes
    (module_tried-below m answer a p.now s st i h.seeks.processor h.seeks.left))
    (lt-ltb (lowest_free seen) m.frames (lowest_free-below seen m.frames some h.pool (frames-most m w)))

pub take-ok :
    (m : Machine) (answer : Answer) (a : ℕ) (p : Private) (s : Session) (x : Phase) (st : Stamp) (i seen n : ℕ)
    → RunsOk m a p s → TakingOk m answer a p s st i seen → n < 2 ^ m.frames
    → PhaseOk m answer a p (with_phase s x)
    (if n == seen
    then with_frame_got m answer a p.now s st (Some (frame_taken m answer a p.now s st i seen))
    else pool_found m answer a p.now s st i n)
take-ok m answer a p s x st i seen n r h l =
    let f = frame_taken m answer a p.now s st i seen in
    cond_both (n == seen) (with_frame_got m answer a p.now s st (Some f)) (pool_found m answer a p.now s st i n)
    (PhaseOk m answer a p (with_phase s x))
    (λ _. with_frame_got-ok m answer a p s x st (Some f) r h.seeks.stamp
    (may_some m answer a p.now s st i f r.dir (cause-fault m a p s r.fault h.seeks.processor) h.seeks.left
    (frame_taken-is m answer a p s st i seen r.limits h) refl))
    (λ _. pool_found-ok m answer a p s x st i n r h.seeks l)

-- ---- the stamp

last_numbered-most : (n most t : ℕ) → n ≤ most + 1 → last_numbered n ≡ Some t → t ≤ most
last_numbered-most n most t l e = grind (arith, nat_tests)

pub stamp_read-ok : (m : Machine) (n : ℕ) → is_stamp_word m n ≡ true → StampOk m (record { last = last_read n; seq = seq_read n })
stamp_read-ok m n h =
    let parts : (bits_from n 0 32 ≤ m.nodes * m.budget + 1) × (seq_read n ≤ most_changes) = grind (arith, nat_tests) in
    record { last = λ t e. last_numbered-most (bits_from n 0 32) (m.nodes * m.budget) t parts.0 e; seq = parts.1 }
