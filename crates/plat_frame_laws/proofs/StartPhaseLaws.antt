-- the phases where a frame is sought, and where the row is fixed
use Rattle.std.specs.Prelude.{◌≡◌, ◌≢◌, ℕ, ◌+◌, ◌==◌, nat_lt, if◌then◌else◌, Bool, true, false, List, [], ◌∷◌, length, Option, Some, None}
use Rattle.std.proofs.Common.{refl, ap, sym, ◌∙◌, arith}
use Rattle.std.proofs.lemmas.Bool.{ne_eqb, true≢false}
use Rattle.std.proofs.lemmas.Bool.Decides.{nat_tests}
use Rattle.std.specs.List.{flat_map, zip}
use Rattle.plat_base.specs.Verdicts.{Answer}
use Rattle.plat_base.specs.Machine.{Machine}
use Rattle.plat_base.specs.Pages.{entries_of_page}
use Rattle.plat_base.specs.Decide.{is_empty}
use Rattle.plat_base.specs.Messages.{removes_some}
use Rattle.plat_base.specs.Rules.{names_got}
use Rattle.plat_base.specs.declared.frames.Frame.{Frame}
use Rattle.plat_base.specs.declared.items.Action.{Action}
use Rattle.plat_base.specs.declared.items.Action.TheVariants as action
use Rattle.plat_events.specs.Shootdowns.{Posting, Asking, Makes, Done, targets_of, targets, ask_from, shoot_from}
use Rattle.plat_events.specs.Sessions.{Stamp, Course, Phase, Stamping, Seeking, Taking, Returning, Shooting, Session, decision_of, tried}
use Rattle.plat_events.specs.Sessions.{with_shoot, shot_over, with_frame_got, seek_from, pool_found}
use Rattle.plat_events.specs.Standings.{took_farther, saw_no_frame}
use Rattle.plat_frame_laws.specs.QuietPhases.{QuietPhase}
use Rattle.plat_frame_laws.specs.StartPhases.{StartPhase}
use Rattle.plat_frame_laws.proofs.QuietPhaseLaws.{quiet-give_from, quiet-fill_from, quiet-copy_from}
use Rattle.plat_frame_laws.proofs.QuietGoesLaws.{given-quiet, hand-quiet, posts-quiet, removes-quiet}

-- no post has a target
pub targets-none : (m : Machine) (a : ℕ) (es : List ℕ) → flat_map (λ (x : ℕ × ℕ). targets_of m a x.0 x.1) (zip es []) ≡ []
targets-none m a [] = refl
targets-none m a (e ∷ es) = refl

some_stamp : (st u : Stamp) → Some st ≡ Some u → u ≡ st
some_stamp st u e = cc

module _ (m : Machine) (answer : Answer) (a now : ℕ) (x : Session) (st : Stamp) where
  pub start-stamping : StartPhase m answer a now x st None Stamping
  start-stamping = search arith

  pub start-seeking : (i : ℕ) → StartPhase m answer a now x st None (Seeking st i)
  start-seeking i = search arith

  pub start-taking : (i seen : ℕ) → StartPhase m answer a now x st None (Taking st i seen)
  start-taking i seen = search arith

  pub start-returning : StartPhase m answer a now x st None Returning
  start-returning = search arith

  -- ---- the row is fixed

  module _ (got : Option Frame) where
    abbrev course : Course
    course = record { stamp = st; got = got; posts = [] }

    start-shooting : StartPhase m answer a now x st got (Shooting course Posting)
    start-shooting = search arith

    start-quiet :
        (ph : Phase) (w : ℕ) → QuietPhase m answer a now x course ph w None [] → ((f : Frame) → got ≡ Some f → w ≡ 0) →
        (removes_some (decision_of m answer a now x course).removed ≡ true → 0 ≡ length (entries_of_page m x.fault.page)) →
        StartPhase m answer a now x st got ph
    start-quiet ph w is none posts = record {
      stamp = λ u h. some_stamp st u (sym is.stamp ∙ h);
      hand = hand-quiet m answer a now x course ph w None [] is;
      posts = posts-quiet m answer a now x course ph w None [] is;
      left = λ ts e. is.left ts;
      unlocking = is.unlocking;
      stamped = is.stamped;
      copied = is.copied;
      given = λ f. given-quiet m answer a now x course ph w None [] is f;
      filled = λ f h. is.filled ∙ none f h;
      quiet = λ h removes. posts (sym (ap removes_some (removes-quiet m answer a now x course ph w None [] is)) ∙ removes);
    }

    -- the first phase behind the shootdown, and how many words are filled there
    record Over (act : Action) (ph : Phase) : Type 0 where
      filled : ℕ
      is : QuietPhase m answer a now x course ph filled None []
      none : names_got act ≡ true → filled ≡ 0

    over : (act : Action) → Over act (shot_over m answer a now x course act)
    over action.Fill = record { filled = 0; is = quiet-fill_from m answer a now x course 0 (omega arith); none = λ h. refl }
    over action.MapLocal = record { filled = m.words; is = quiet-give_from m answer a now x course 0 (omega arith); none = λ h. absurd cc }
    over action.MapRemote = record { filled = m.words; is = quiet-give_from m answer a now x course 0 (omega arith); none = λ h. absurd cc }
    over action.Replicate = record { filled = 0; is = quiet-copy_from m answer a now x course 0 (omega arith); none = λ h. refl }
    over action.Migrate = record { filled = 0; is = quiet-copy_from m answer a now x course 0 (omega arith); none = λ h. refl }
    over action.Collapse = record { filled = m.words; is = quiet-give_from m answer a now x course 0 (omega arith); none = λ h. absurd cc }
    over action.Thaw = record { filled = m.words; is = quiet-give_from m answer a now x course 0 (omega arith); none = λ h. absurd cc }

    -- a phase where the row is fixed
    pub record Fixed (ph : Phase) : Type 0 where
      pub start : StartPhase m answer a now x st got ph
      pub saw : saw_no_frame m a ph ≡ took_farther m a (record { stamp = st; got = got; posts = [] })

    module _ (names : (f : Frame) → got ≡ Some f → names_got (decision_of m answer a now x (record {
      stamp = st;
      got = got;
      posts = [];
    })).action ≡ true) where
      fixed-over :
          (removes_some (decision_of m answer a now x course).removed ≡ true → 0 ≡ length (entries_of_page m x.fault.page)) →
          Fixed (shot_over m answer a now x course (decision_of m answer a now x course).action)
      fixed-over posts =
          let o = over (decision_of m answer a now x course).action in
          record {
            start = start-quiet (shot_over m answer a now x course (decision_of m answer a now x course).action) o.filled o.is
                (λ f h. o.none (names f h)) posts;
            saw = o.is.saw;
          }

      fixed-shooting : Fixed (with_shoot m answer a now x course (shoot_from m a x.fault.page []))
      fixed-shooting = by (nat_lt 0 (length (entries_of_page m x.fault.page))) refl
        where
          none : (b : Bool) → nat_lt 0 (length (targets m a x.fault.page [])) ≡ b → 0 ≡ length (entries_of_page m x.fault.page) →
              Fixed (with_shoot m answer a now x course (if b then Makes [] (Asking 0) else Done []))
          none true some empty =
              let nobody : nat_lt 0 (length (targets m a x.fault.page [])) ≡ false =
              ap (λ ts. nat_lt 0 (length ts)) (targets-none m a (entries_of_page m x.fault.page)) in
              absurd (true≢false (sym some ∙ nobody))
          none false some empty = fixed-over (λ removes. empty)

          by : (b : Bool) → nat_lt 0 (length (entries_of_page m x.fault.page)) ≡ b →
              Fixed (with_shoot m answer a now x course (if b then Makes [] Posting else ask_from m a x.fault.page [] 0))
          by true some = record { start = start-shooting; saw = refl }
          by false some =
              none (nat_lt 0 (length (targets m a x.fault.page []))) refl (empty (length (entries_of_page m x.fault.page)) some)
            where
              empty : (n : ℕ) → nat_lt 0 n ≡ false → 0 ≡ n
              empty n h = grind (arith, nat_tests)

      -- the row is fixed: the shootdown begins, or what follows it
      pub fixed-start : Fixed (with_frame_got m answer a now x st got)
      fixed-start = by (removes_some (decision_of m answer a now x course).removed) refl
        where
          by : (b : Bool) → removes_some (decision_of m answer a now x course).removed ≡ b →
              Fixed (if b then with_shoot m answer a now x course (shoot_from m a x.fault.page [])
              else shot_over m answer a now x course (decision_of m answer a now x course).action)
          by true removes = fixed-shooting
          by false removes = fixed-over (λ h. absurd (true≢false (sym h ∙ removes)))

  -- ---- the next module, or none

  pub start-seek_from : (i : ℕ) → StartPhase m answer a now x st None (seek_from m answer a now x st i)
  start-seek_from i = by (nat_lt i (length (tried m answer a now x st))) (is_empty x.dir.state)
    where
      by : (b e : Bool) → StartPhase m answer a now x st None (if b then Seeking st i else if e then Returning else with_frame_got m
          answer a now x st None)
      by true e = start-seeking i
      by false true = start-returning
      by false false = (fixed-start None (λ f h. absurd cc)).start

  pub start-pool_found : (i n : ℕ) → StartPhase m answer a now x st None (pool_found m answer a now x st i n)
  start-pool_found i n = by (n == 0)
    where
      by : (b : Bool) → StartPhase m answer a now x st None (if b then seek_from m answer a now x st (i + 1) else Taking st i n)
      by true = start-seek_from (i + 1)
      by false = start-taking i n

  pub pool_found-saw : (i n : ℕ) → n ≢ 0 → saw_no_frame m a (pool_found m answer a now x st i n) ≡ nat_lt 0 i
  pool_found-saw i n some =
      ap (λ b. saw_no_frame m a (if b then seek_from m answer a now x st (i + 1) else Taking st i n)) (ne_eqb n 0 some)
