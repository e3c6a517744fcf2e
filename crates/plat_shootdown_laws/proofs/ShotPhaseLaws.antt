-- the phases of a shootdown, and those just behind it
use Rattle.std.specs.Prelude.{◌≡◌, ℕ, zero, suc, ◌≤◌, nat_lt, if◌then◌else◌, Bool, true, false, List, [], ◌∷◌, length, drop, Some, None}
use Rattle.std.proofs.Common.{refl, ap, sym, ◌∙◌, inl, inr, arith}
use Rattle.std.proofs.lemmas.Bool.{ltb-false}
use Rattle.plat_base.specs.Verdicts.{Answer}
use Rattle.plat_base.specs.Machine.{Machine}
use Rattle.plat_base.specs.Pages.{entries_of_page}
use Rattle.plat_base.specs.Rules.{names_got}
use Rattle.plat_base.specs.declared.frames.Frame.{Frame}
use Rattle.plat_base.specs.declared.items.Action.{Action}
use Rattle.plat_base.specs.declared.items.Action.TheVariants as action
use Rattle.plat_events.specs.Shootdowns.{Shot, Posting, Asking, Makes, Done, Target, targets, ask_from, shoot_from}
use Rattle.plat_events.specs.Sessions.{Course, Phase, Shooting, Session, decision_of, with_posts, with_shoot, shot_over}
use Rattle.plat_events.specs.Privates.{Private}
use Rattle.plat_events.specs.Standings.{shot_passed}
use Rattle.plat_local_laws.specs.Phases.{CourseOk}
use Rattle.plat_local_laws.specs.Faults.{FaultOk}
use Rattle.plat_local_laws.proofs.CourseLaws.{IsActor, fault_decides, thaw_decides}
use Rattle.plat_frame_laws.specs.QuietPhases.{QuietPhase}
use Rattle.plat_frame_laws.proofs.QuietPhaseLaws.{quiet-give_from, quiet-fill_from, quiet-copy_from}
use Rattle.plat_shootdown_laws.specs.Shots.{ShotPhase}

drop_all : (ts : List Target) (k : ℕ) → length ts ≤ k → drop k ts ≡ []
drop_all [] zero most = refl
drop_all [] (suc k) most = refl
drop_all (t ∷ ts) zero most = absurd (omega arith)
drop_all (t ∷ ts) (suc k) most = drop_all ts k (omega arith)

-- a frame in hand is one that the action names
pub got-names :
    (m : Machine) (answer : Answer) (a : ℕ) (p : Private) (x : Session) (c : Course) (f : Frame) → IsActor m a → FaultOk m a p x.fault →
    CourseOk m answer a p x c → c.got ≡ Some f → names_got (decision_of m answer a p.now x c).action ≡ true
got-names m answer a p x c f (inl processor) fault ok got =
    let facts = fault_decides m answer a p x c fault ok processor in
    by (names_got (decision_of m answer a p.now x c).action) (decision_of m answer a p.now x c).frame (facts.got_back ∙ got)
  where
    by : (b : Bool) (g : Frame) → (if b then Some g else None) ≡ Some f → b ≡ true
    by true g h = refl
    by false g h = absurd cc
got-names m answer a p x c f (inr daemon) fault ok got =
    let none : c.got ≡ None = (thaw_decides m answer a p x c fault ok daemon).1 in absurd cc

module _ (m : Machine) (answer : Answer) (a now : ℕ) (x : Session) (c : Course) where
  abbrev page : ℕ
  page = x.fault.page

  -- a shootdown of these posts
  pub phase-shooting : (posts : List ℕ) (shot : Shot) →
      ShotPhase m answer a now x (with_posts c posts) (shot_passed shot) (Shooting (with_posts c posts) shot)
  phase-shooting posts shot = search arith

  module _ (posts : List ℕ) (names : (f : Frame) → c.got ≡ Some f → names_got (decision_of m answer a now x c).action ≡ true) where
    abbrev done : Course
    done = with_posts c posts

    quiet-phase :
        (k w : ℕ) (ph : Phase) → QuietPhase m answer a now x done ph w None [] → ((f : Frame) → c.got ≡ Some f → w ≡ 0) →
        length (targets m a x.fault.page posts) ≤ k → length posts ≡ length (entries_of_page m x.fault.page) →
        ShotPhase m answer a now x (with_posts c posts) k ph
    quiet-phase k w ph is none most all = record {
      course = is.course;
      stamp = is.stamp;
      unlocking = is.unlocking;
      stamped = is.stamped;
      copied = is.copied;
      given = is.given;
      filled = λ f h. is.filled ∙ none f h;
      saw = is.saw;
      left = is.left (targets m a page posts) ∙ sym (drop_all (targets m a page posts) k most);
      posted = λ h. all;
    }

    -- behind the shootdown
    pub phase-over :
        (k : ℕ) (act : Action) → (decision_of m answer a now x c).action ≡ act → length (targets m a x.fault.page posts) ≤ k →
        length posts ≡ length (entries_of_page m x.fault.page) →
        ShotPhase m answer a now x (with_posts c posts) k (shot_over m answer a now x (with_posts c posts) act)
    phase-over k action.Fill is most all =
        quiet-phase k 0 (shot_over m answer a now x done action.Fill) (quiet-fill_from m answer a now x done 0 (omega arith)) (λ f h. refl)
        most all
    phase-over k action.MapLocal is most all =
        quiet-phase k m.words (shot_over m answer a now x done action.MapLocal) (quiet-give_from m answer a now x done 0 (omega arith))
        (λ f h. let no : false ≡ true = sym (ap names_got is) ∙ names f h in absurd cc) most all
    phase-over k action.MapRemote is most all =
        quiet-phase k m.words (shot_over m answer a now x done action.MapRemote) (quiet-give_from m answer a now x done 0 (omega arith))
        (λ f h. let no : false ≡ true = sym (ap names_got is) ∙ names f h in absurd cc) most all
    phase-over k action.Replicate is most all =
        quiet-phase k 0 (shot_over m answer a now x done action.Replicate) (quiet-copy_from m answer a now x done 0 (omega arith))
        (λ f h. refl) most all
    phase-over k action.Migrate is most all =
        quiet-phase k 0 (shot_over m answer a now x done action.Migrate) (quiet-copy_from m answer a now x done 0 (omega arith))
        (λ f h. refl) most all
    phase-over k action.Collapse is most all =
        quiet-phase k m.words (shot_over m answer a now x done action.Collapse) (quiet-give_from m answer a now x done 0 (omega arith))
        (λ f h. let no : false ≡ true = sym (ap names_got is) ∙ names f h in absurd cc) most all
    phase-over k action.Thaw is most all =
        quiet-phase k m.words (shot_over m answer a now x done action.Thaw) (quiet-give_from m answer a now x done 0 (omega arith))
        (λ f h. let no : false ≡ true = sym (ap names_got is) ∙ names f h in absurd cc) most all

    -- the next target, or the end of the shootdown
    pub phase-ask_from :
        (k : ℕ) → length posts ≡ length (entries_of_page m x.fault.page) →
        ShotPhase m answer a now x (with_posts c posts) k (with_shoot m answer a now x c (ask_from m a x.fault.page posts k))
    phase-ask_from k all = by (nat_lt k (length (targets m a page posts))) refl
      where
        by : (b : Bool) → nat_lt k (length (targets m a page posts)) ≡ b →
            ShotPhase m answer a now x (with_posts c posts) k (with_shoot m answer a now x c (if b then Makes posts (Asking k) else Done
            posts))
        by true is = phase-shooting posts (Asking k)
        by false is =
            phase-over k (decision_of m answer a now x c).action refl (ltb-false k (length (targets m a page posts)) is) all

    -- the next post, or the first target
    pub phase-shoot_from :
        length posts ≤ length (entries_of_page m x.fault.page) →
        ShotPhase m answer a now x (with_posts c posts) 0 (with_shoot m answer a now x c (shoot_from m a x.fault.page posts))
    phase-shoot_from most = by (nat_lt (length posts) (length (entries_of_page m page))) refl
      where
        by : (b : Bool) → nat_lt (length posts) (length (entries_of_page m page)) ≡ b →
            ShotPhase m answer a now x (with_posts c posts) 0 (with_shoot m answer a now x c (if b then Makes posts Posting else ask_from
            m a
            page posts 0))
        by true is = phase-shooting posts Posting
        by false is = let least = ltb-false (length posts) (length (entries_of_page m page)) is in phase-ask_from 0 (omega arith)
