-- a session behind its shootdown goes on: what it owes the invariant of its next phase
use Rattle.std.specs.Prelude.{◌≡◌, ℕ, ◌<◌, ◌≤◌, ◌==◌, ◌&&◌, Bool, true, false, List, [], length, take}
use Rattle.std.specs.Prelude.{Option, Some, None}
use Rattle.std.proofs.Common.{refl, ap, sym, ◌∙◌, arith}
use Rattle.std.specs.Option.{option_map_or}
use Rattle.std.specs.List.{list_any}
use Rattle.std.proofs.lemmas.Bool.{eq-eqb}
use Rattle.std.proofs.lemmas.List.{take_all}
use Rattle.plat_base.specs.Verdicts.{Answer}
use Rattle.plat_base.specs.Machine.{Machine}
use Rattle.plat_base.specs.Pages.{page_of, entries_of_page}
use Rattle.plat_base.specs.Copies.{same_frame, copy_on}
use Rattle.plat_base.specs.Decide.{is_dir, may_decide}
use Rattle.plat_base.specs.Directories.{dir_of}
use Rattle.plat_base.specs.Messages.{removes_some}
use Rattle.plat_base.specs.declared.frames.Frame.{Frame}
use Rattle.plat_base.specs.declared.frames.Dir.{Dir}
use Rattle.plat_base.specs.declared.items.Removed.TheVariants.{Nothing, All}
use Rattle.plat_base.specs.declared.items.Translation.{Translation}
use Rattle.plat_events.specs.Places.{entry_count}
use Rattle.plat_events.specs.Shootdowns.{Target, targets}
use Rattle.plat_events.specs.Sessions.{Course, Phase, Session, decision_of, going, translation_made, with_phase}
use Rattle.plat_events.specs.Standings.{course_of, unlocking_of, frames_given, hand_of, posts_of, removes_by, has_posted, has_given}
use Rattle.plat_events.specs.Kept.{session_on}
use Rattle.plat_events.specs.Views.{session_viewed, same_translation}
use Rattle.plat_events.specs.Runs.{Fine}
use Rattle.plat_events.specs.Shown.{Shows}
use Rattle.plat_fine_laws.proofs.TableFacts.{decided-given}
use Rattle.plat_fine_laws.proofs.ViewFactLaws.{among-range}
use Rattle.plat_frame_laws.specs.Phased.{running, Continues, PhaseGoes}
use Rattle.plat_frame_laws.specs.QuietPhases.{QuietPhase}

-- ---- the entries of a page

pub entry_of_page :
    (m : Machine) (page e : ℕ) → e < entry_count m → page_of m e ≡ page → list_any (λ x. x == e) (entries_of_page m page) ≡ true
entry_of_page m page e below is =
    among-range (λ k. page_of m k == page) 0 (entry_count m) e (omega arith) (omega arith) (eq-eqb (page_of m e) page is)

-- ---- the frames that are given back

module _ (m : Machine) (answer : Answer) (a now : ℕ) (x : Session) (c : Course) (ph : Phase) (filled : ℕ) (copied : Option (ℕ × ℕ))
    (given : List Frame) (is : QuietPhase m answer a now x c ph filled copied given) where
  pub given-quiet : (f : Frame) → has_given m answer a now (with_phase x ph) f ≡ list_any (same_frame f) given
  given-quiet f =
      ap
      (λ o. option_map_or (λ (d : Course). list_any (same_frame f) (frames_given (going x.dir (decision_of m answer a now x d)) ph)) o
      false)
      is.course
      ∙ ap (list_any (same_frame f)) is.given

  pub hand-quiet : hand_of (with_phase x ph) ≡ c.got
  hand-quiet = ap (λ o. option_map_or (λ (d : Course). d.got) o None) is.course

  pub removes-quiet : removes_by m answer a now (with_phase x ph) ≡ (decision_of m answer a now x c).removed
  removes-quiet = ap (λ o. option_map_or (λ d. (decision_of m answer a now x d).removed) o Nothing) is.course

  pub posts-quiet : posts_of (with_phase x ph) ≡ c.posts
  posts-quiet = ap (λ o. option_map_or (λ (d : Course). d.posts) o []) is.course

-- a translation of a frame that is given back
given-some :
    (t : Option Translation) (test : Frame → Bool) → option_map_or (λ (y : Translation). test y.grant.frame) t false ≡ true →
    (f : Frame) × (test f ≡ true)
given-some None test h = absurd cc
given-some (Some y) test h = (y.grant.frame, h)

-- ---- the session goes on

module _ (m : Machine) (answer : Answer) (s : Fine) (a now : ℕ) (x : Session) (c : Course) (next : Phase) (filled filled' : ℕ)
    (copied copied' : Option (ℕ × ℕ)) (given given' : List Frame) (shows : Shows m answer s)
    (ran : session_on s.privates x.fault.page ≡ Some (running a now x))
    (from : QuietPhase m answer a now x c x.phase filled copied given) (to : QuietPhase m answer a now x c next filled' copied' given')
    (may : may_decide m answer x.dir c.stamp.last now a x.fault.cause c.got ≡ true) (fits : is_dir m x.dir ≡ true)
    (goes : (f : Frame) → list_any (same_frame f) given' ≡ true → list_any (same_frame f) (going x.dir (decision_of m answer a now x c))
    ≡ true)
  where
    abbrev page : ℕ
    page = x.fault.page

    same-course : course_of next ≡ course_of x.phase
    same-course = to.course ∙ sym from.course

    same-unlocking : unlocking_of next ≡ unlocking_of x.phase
    same-unlocking = to.unlocking ∙ sym from.unlocking

    dir-own : x.dir ≡ dir_of s.history page
    dir-own = shows.dir_read_is page (running a now x) ran

    -- the posts of a session that removes something
    posts-made : removes_some (decision_of m answer a now x c).removed ≡ true → length c.posts ≡ length (entries_of_page m page)
    posts-made removes =
        ap length (sym (posts-quiet m answer a now x c x.phase filled copied given from))
        ∙ shows.posts_made page (running a now x) ran from.quiet
        (ap removes_some (removes-quiet m answer a now x c x.phase filled copied given from) ∙ removes)

    posted-all :
        (e : ℕ) → e < entry_count m → page_of m e ≡ page → (decision_of m answer a now x c).removed ≡ All →
        has_posted m answer a now x e ≡ true
    posted-all e below of_page all =
        let removes : removes_some (decision_of m answer a now x c).removed ≡ true = ap removes_some all in
        let count : length (entries_of_page m page) ≤ length c.posts = let made = posts-made removes in omega (arith, made) in
        let here : has_posted m answer a now x e ≡ (removes_some (decision_of m answer a now x c).removed
        && list_any (λ y. y == e) (take (length c.posts) (entries_of_page m page))) =
        (λ i. removes_some (removes-quiet m answer a now x c x.phase filled copied given from i)
        && list_any (λ y. y == e) (take (length (posts-quiet m answer a now x c x.phase filled copied given from i)) (entries_of_page m
        page))) in
        here
        ∙ (ap (λ b. b && list_any (λ y. y == e) (take (length c.posts) (entries_of_page m page))) removes
        ∙ (ap (list_any (λ y. y == e)) (take_all (length c.posts) (entries_of_page m page) count) ∙ entry_of_page m page e below of_page))

    continues :
        (q e : ℕ) (t : Option Translation) → e < entry_count m → page_of m e ≡ page →
        Continues (session_viewed m answer q e t (running a now x)) (session_viewed m answer q e t (running a now (with_phase x next)))
    continues q e t below of_page = record {
      whose = refl;
      posted = λ i.
          removes_some (option_map_or (λ d. (decision_of m answer a now x d).removed) (same-course i) Nothing)
          && list_any (λ y. y == e) (take (length (option_map_or (λ (d : Course). d.posts) (same-course i) [])) (entries_of_page m page));
      owed =
          ap (list_any (λ (y : Target). y.entry == e && y.processor == q)) (to.left (targets m a page (posts_of (with_phase x next))))
          ∙ sym (ap (list_any (λ (y : Target). y.entry == e && y.processor == q)) (from.left (targets m a page (posts_of x))));
      granted = λ i.
          a == q && option_map_or (λ (d : Course). option_map_or (λ y. y == e) x.fault.entry false) (same-unlocking i) false;
      mine = λ i.
          (a == q && option_map_or (λ (d : Course). option_map_or (λ y. y == e) x.fault.entry false) (same-unlocking i) false)
          && option_map_or
          (λ y. option_map_or (λ d. same_translation y (translation_made m answer a now x d e)) (same-unlocking i) false) t false;
      removes = λ posted. λ i. option_map_or (λ d. (decision_of m answer a now x d).removed) (same-course i) Nothing;
      gives = λ given_now not_before.
          let there = given-some t (λ f. has_given m answer a now (with_phase x next) f) given_now in
          let gone = goes there.0 (sym (given-quiet m answer a now x c next filled' copied' given' to there.0) ∙ there.1) in
          let all : (decision_of m answer a now x c).removed ≡ All =
          decided-given m answer x.dir c.stamp.last now a x.fault.cause c.got there.0 may fits gone in
          (posted-all e below of_page all, removes-quiet m answer a now x c x.phase filled copied given from ∙ all);
    }

    pub quiet-goes : PhaseGoes m answer a now x next
    quiet-goes = record {
      follows = record {
        stamp = λ st read. from.stamp ∙ (sym to.stamp ∙ read);
        unstored = from.stamped;
        unstamped = to.stamped;
        apart = λ f hand.
            let before : hand_of x ≡ Some f =
            hand-quiet m answer a now x c x.phase filled copied given from
            ∙ (sym (hand-quiet m answer a now x c next filled' copied' given' to) ∙ hand) in
            ap (λ (d : Dir). copy_on f.module d.copies) dir-own ∙ shows.hand_apart page (running a now x) f ran before;
        finds = λ enough empty. to.saw ∙ (sym from.saw ∙ shows.enough_finds enough page (running a now x) ran empty);
        posts = λ quiet removes.
            ap length (posts-quiet m answer a now x c next filled' copied' given' to)
            ∙ posts-made (sym (ap removes_some (removes-quiet m answer a now x c next filled' copied' given' to)) ∙ removes);
      };
      continues = continues;
    }
