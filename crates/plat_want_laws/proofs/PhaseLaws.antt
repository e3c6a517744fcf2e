-- along the phases of a session: the modules that were tried are those whose pools were found to be 0
use Rattle.std.specs.Prelude.{◌≡◌, ℕ, ◌+◌, ◌<◌, ◌≤◌, ◌&&◌, not, nat_lt, if◌then◌else◌, Bool, true, false, List, [], ◌∷◌, ◌++◌, length}
use Rattle.std.specs.Prelude.{Option, None, slice_index}
use Rattle.std.specs.List.{Contains}
use Rattle.std.proofs.Common.{ap, sym, ◌∙◌, ◌⊎◌, inl, inr, arith, subst}
use Rattle.std.proofs.lemmas.Bool.{cond_both, cases_eq, ltb-false}
use Rattle.std.proofs.lemmas.List.{get_or_default}
use Rattle.std.proofs.lemmas.List.Elements.{Contains-push, Contains-append_left}
use Rattle.plat_base.specs.Verdicts.{Answer}
use Rattle.plat_base.specs.Machine.{Machine}
use Rattle.plat_base.specs.Alike.{same_verdict}
use Rattle.plat_base.specs.Decide.{asks, is_empty}
use Rattle.plat_base.specs.Messages.{removes_some}
use Rattle.plat_base.specs.declared.frames.Frame.{Frame}
use Rattle.plat_base.specs.declared.items.Action.{Action}
use Rattle.plat_base.specs.declared.items.Action.TheVariants as action
use Rattle.plat_base.specs.declared.policies.Verdict.TheVariants as verdict
use Rattle.plat_events.specs.Shootdowns.{Shoot, Makes, Polls, Done, shoot_from}
use Rattle.plat_events.specs.Sessions.{Stamp, Course, Phase, Stamping, Seeking, Taking, Returning, Shooting, Filling, Reading, Copying}
use Rattle.plat_events.specs.Sessions.{Giving, Storing, Granting, Unlocking, Session, decision_of, going, by_distance, tried, module_tried}
use Rattle.plat_events.specs.Sessions.{give_from, fill_from, copy_from, shot_over, with_shoot, start_course, with_frame_got, seek_from}
use Rattle.plat_want_laws.specs.Emptied.{HasEachModule}
use Rattle.plat_want_laws.proofs.NearLaws.{by_distance-each}

-- the first i modules that are tried are in the list
abbrev pub HasTried : Machine → Answer → (a now : ℕ) → Session → Stamp → (i : ℕ) → List ℕ → Type 0
HasTried m answer a now s st i modules = (k : ℕ) → k < i → Contains modules (module_tried m answer a now s st k)

-- what the list has at a phase
abbrev pub PhaseHas : Machine → Answer → (a now : ℕ) → List ℕ → Session → Phase → Type 0
PhaseHas m answer a now modules s Stamping = Unit {0}
PhaseHas m answer a now modules s (Seeking st i) = HasTried m answer a now s st i modules
PhaseHas m answer a now modules s (Taking st i seen) = HasTried m answer a now s st i modules
PhaseHas m answer a now modules s Returning = HasEachModule m modules
PhaseHas m answer a now modules s (Shooting c shot) = Unit {0}
PhaseHas m answer a now modules s (Filling c w) = Unit {0}
PhaseHas m answer a now modules s (Reading c w) = Unit {0}
PhaseHas m answer a now modules s (Copying c w seen) = Unit {0}
PhaseHas m answer a now modules s (Giving c k) = Unit {0}
PhaseHas m answer a now modules s (Storing c) = Unit {0}
PhaseHas m answer a now modules s (Granting c) = Unit {0}
PhaseHas m answer a now modules s (Unlocking c) = Unit {0}

module _ (m : Machine) (answer : Answer) (a now : ℕ) (modules : List ℕ) (s : Session) where
  -- ---- behind a course that is fixed nothing is asked of the list

  pub give_from-has : (c : Course) (k : ℕ) → PhaseHas m answer a now modules s (give_from m answer a now s c k)
  give_from-has c k =
      cond_both (nat_lt k (length (going s.dir (decision_of m answer a now s c)))) (Giving c k) (Storing c)
      (PhaseHas m answer a now modules s) (λ h. tt) (λ h. tt)

  pub fill_from-has : (c : Course) (w : ℕ) → PhaseHas m answer a now modules s (fill_from m answer a now s c w)
  fill_from-has c w =
      cond_both (nat_lt w m.words) (Filling c w) (give_from m answer a now s c 0) (PhaseHas m answer a now modules s) (λ h. tt)
      (λ h. give_from-has c 0)

  pub copy_from-has : (c : Course) (w : ℕ) → PhaseHas m answer a now modules s (copy_from m answer a now s c w)
  copy_from-has c w =
      cond_both (nat_lt w m.words) (Reading c w) (give_from m answer a now s c 0) (PhaseHas m answer a now modules s) (λ h. tt)
      (λ h. give_from-has c 0)

  shot_over-has : (c : Course) (does : Action) → PhaseHas m answer a now modules s (shot_over m answer a now s c does)
  shot_over-has c action.Fill = fill_from-has c 0
  shot_over-has c action.MapLocal = give_from-has c 0
  shot_over-has c action.MapRemote = give_from-has c 0
  shot_over-has c action.Replicate = copy_from-has c 0
  shot_over-has c action.Migrate = copy_from-has c 0
  shot_over-has c action.Collapse = give_from-has c 0
  shot_over-has c action.Thaw = give_from-has c 0

  pub with_shoot-has : (c : Course) (shoot : Shoot) → PhaseHas m answer a now modules s (with_shoot m answer a now s c shoot)
  with_shoot-has c (Makes posts shot) = tt
  with_shoot-has c (Polls posts k) = tt
  with_shoot-has c (Done posts) = shot_over-has _ (decision_of m answer a now s c).action

  start_course-has : (c : Course) → PhaseHas m answer a now modules s (start_course m answer a now s c)
  start_course-has c =
      cond_both (removes_some (decision_of m answer a now s c).removed)
      (with_shoot m answer a now s c (shoot_from m a s.fault.page []))
      (shot_over m answer a now s c (decision_of m answer a now s c).action) (PhaseHas m answer a now modules s)
      (λ h. with_shoot-has c (shoot_from m a s.fault.page [])) (λ h. shot_over-has c (decision_of m answer a now s c).action)

  pub with_frame_got-has : (st : Stamp) (got : Option Frame) → PhaseHas m answer a now modules s (with_frame_got m answer a now s st got)
  with_frame_got-has st got = start_course-has (record { stamp = st; got = got; posts = [] })

  -- ---- a frame is sought

  -- where all were tried for an empty page, the list has every module
  all-tried :
      (st : Stamp) (i : ℕ) → is_empty s.dir.state ≡ true → length (tried m answer a now s st) ≤ i → HasTried m answer a now s st i modules →
      HasEachModule m modules
  all-tried st i empty past has mo inside =
      let near = by_distance-each m a mo inside in
      let within : near.0 < length (tried m answer a now s st) = subst (λ xs. near.0 < length xs) (sym all) near.1 in
      let is : module_tried m answer a now s st near.0 ≡ mo =
      ap (λ xs. slice_index xs near.0) all ∙ (get_or_default (by_distance m a) near.0 0 mo near.1 ∙ near.2) in
      subst (Contains modules) is (has near.0 (omega (arith, within, past)))
    where
      all : tried m answer a now s st ≡ by_distance m a
      all =
          ap
          (λ b. if b then by_distance m a
          else if asks s.fault.cause s.dir a && same_verdict (answer s.dir st.last now) verdict.Move then a ∷ [] else [])
          empty

  pub seek_from-has :
      (st : Stamp) (i : ℕ) → HasTried m answer a now s st i modules →
      PhaseHas m answer a now modules s (seek_from m answer a now s st i)
  seek_from-has st i has =
      cond_both (nat_lt i (length (tried m answer a now s st))) (Seeking st i)
      (if is_empty s.dir.state then Returning else with_frame_got m answer a now s st None)
      (PhaseHas m answer a now modules s) (λ left. has)
      (λ none. cond_both (is_empty s.dir.state) Returning (with_frame_got m answer a now s st None)
      (PhaseHas m answer a now modules s)
      (λ empty. all-tried st i empty (ltb-false i (length (tried m answer a now s st)) none) has)
      (λ filled. with_frame_got-has st None))

-- ---- a pool was found

module _ (m : Machine) (answer : Answer) (a now : ℕ) (modules : List ℕ) (s : Session) (st : Stamp) (i : ℕ) where
  abbrev mo : ℕ
  mo = module_tried m answer a now s st i

  -- one more module
  tried-more :
      HasTried m answer a now s st i modules → HasTried m answer a now s st (i + 1) (modules ++ module_tried m answer a now s st i ∷ [])
  tried-more has k below = by (cases_eq k i)
    where
      by : (k ≡ i) ⊎ (k ≡ i → ⊥) → Contains (modules ++ module_tried m answer a now s st i ∷ []) (module_tried m answer a now s st k)
      by (inl same) =
          subst (λ j. Contains (modules ++ module_tried m answer a now s st i ∷ []) (module_tried m answer a now s st j)) (sym same)
          (Contains-push modules mo)
      by (inr apart) =
          Contains-append_left modules (mo ∷ []) (module_tried m answer a now s st k) (has k (omega (arith, below, apart)))

  pub pool-seen :
      (n : ℕ) (b : Bool) → HasTried m answer a now s st i modules →
      PhaseHas m answer a now (if b && true then modules ++ module_tried m answer a now s st i ∷ [] else modules) s
      (if b then seek_from m answer a now s st (i + 1) else Taking st i n)
  pool-seen n true has = seek_from-has m answer a now (modules ++ mo ∷ []) s st (i + 1) (tried-more has)
  pool-seen n false has = has

  pub pool-missed :
      (n : ℕ) (got : Option Frame) (b c : Bool) → HasTried m answer a now s st i modules →
      PhaseHas m answer a now (if b && not c then modules ++ module_tried m answer a now s st i ∷ [] else modules) s
      (if c then with_frame_got m answer a now s st got
      else if b then seek_from m answer a now s st (i + 1) else Taking st i n)
  pool-missed n got true true has = with_frame_got-has m answer a now modules s st got
  pool-missed n got false true has = with_frame_got-has m answer a now modules s st got
  pool-missed n got true false has = pool-seen n true has
  pool-missed n got false false has = has

-- ---- a longer list

pub has-more :
    (m : Machine) (answer : Answer) (a now : ℕ) (modules more : List ℕ) (s : Session) (phase : Phase) →
    PhaseHas m answer a now modules s phase → PhaseHas m answer a now (modules ++ more) s phase
has-more m answer a now modules more s Stamping has = tt
has-more m answer a now modules more s (Seeking st i) has =
    λ k below. Contains-append_left modules more (module_tried m answer a now s st k) (has k below)
has-more m answer a now modules more s (Taking st i seen) has =
    λ k below. Contains-append_left modules more (module_tried m answer a now s st k) (has k below)
has-more m answer a now modules more s Returning has = λ mo inside. Contains-append_left modules more mo (has mo inside)
has-more m answer a now modules more s (Shooting c shot) has = tt
has-more m answer a now modules more s (Filling c w) has = tt
has-more m answer a now modules more s (Reading c w) has = tt
has-more m answer a now modules more s (Copying c w seen) has = tt
has-more m answer a now modules more s (Giving c k) has = tt
has-more m answer a now modules more s (Storing c) has = tt
has-more m answer a now modules more s (Granting c) has = tt
has-more m answer a now modules more s (Unlocking c) has = tt
