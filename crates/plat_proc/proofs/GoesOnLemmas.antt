-- where the phases of a session lead: what it removes stays the same, and only a grant leads to the unlock
use Rattle.std.proofs.Common.{◌≡◌, ℕ, false, [], length, Some, None, refl, sym, ◌∙◌}
use Rattle.std.specs.Prelude.{◌+◌, ◌==◌, nat_lt, if◌then◌else◌, is_some, Option}
use Rattle.std.proofs.lemmas.Bool.{cond_both, true≢false}
use Rattle.plat_base.specs.Verdicts.{Answer}
use Rattle.plat_base.specs.Machine.{Machine}
use Rattle.plat_base.specs.Decide.{is_empty}
use Rattle.plat_base.specs.Messages.{removes_some}
use Rattle.plat_base.specs.declared.frames.Frame.{Frame}
use Rattle.plat_base.specs.declared.items.Action.{Action}
use Rattle.plat_base.specs.declared.items.Action.TheVariants as action
use Rattle.plat_base.specs.declared.items.Removed.{Removed}
use Rattle.plat_events.specs.Shootdowns.{Shoot, Makes, Polls, Done, shoot_from}
use Rattle.plat_events.specs.Sessions.{Stamp, Course, Phase, Seeking, Taking, Returning, Filling, Reading, Giving, Storing, Granting}
use Rattle.plat_events.specs.Sessions.{Unlocking, Session, decision_of, tried, going, give_from, fill_from, copy_from, shot_over}
use Rattle.plat_events.specs.Sessions.{with_posts, with_shoot, start_course, with_frame_got, seek_from, pool_found, frame_taken, with_phase}
use Rattle.plat_events.specs.Standings.{removes_by, unlocking_of}

-- the unlock is not next
abbrev pub IsBefore : Phase → Type 0
IsBefore y = is_some (unlocking_of y) ≡ false

-- and the session removes what its row says
pub record GoesOn (m : Machine) (answer : Answer) (a now : ℕ) (s : Session) (rem : Removed) (y : Phase) : Type 0 where
  pub before : IsBefore y
  pub removes : removes_by m answer a now (with_phase s y) ≡ rem

-- ---- behind the row

abbrev pub removed_by : Machine → Answer → (a now : ℕ) → Session → Course → Removed
removed_by m answer a now s c = (decision_of m answer a now s c).removed

pub give_from-goes :
    (m : Machine) (answer : Answer) (a now : ℕ) (s : Session) (c : Course) (k : ℕ)
    → GoesOn m answer a now s (removed_by m answer a now s c) (give_from m answer a now s c k)
give_from-goes m answer a now s c k =
    cond_both (nat_lt k (length (going s.dir (decision_of m answer a now s c)))) (Giving c k) (Storing c)
    (GoesOn m answer a now s (removed_by m answer a now s c))
    (λ _. record { before = refl; removes = refl }) (λ _. record { before = refl; removes = refl })

pub fill_from-goes :
    (m : Machine) (answer : Answer) (a now : ℕ) (s : Session) (c : Course) (w : ℕ)
    → GoesOn m answer a now s (removed_by m answer a now s c) (fill_from m answer a now s c w)
fill_from-goes m answer a now s c w =
    cond_both (nat_lt w m.words) (Filling c w) (give_from m answer a now s c 0)
    (GoesOn m answer a now s (removed_by m answer a now s c))
    (λ _. record { before = refl; removes = refl }) (λ _. give_from-goes m answer a now s c 0)

pub copy_from-goes :
    (m : Machine) (answer : Answer) (a now : ℕ) (s : Session) (c : Course) (w : ℕ)
    → GoesOn m answer a now s (removed_by m answer a now s c) (copy_from m answer a now s c w)
copy_from-goes m answer a now s c w =
    cond_both (nat_lt w m.words) (Reading c w) (give_from m answer a now s c 0)
    (GoesOn m answer a now s (removed_by m answer a now s c))
    (λ _. record { before = refl; removes = refl }) (λ _. give_from-goes m answer a now s c 0)

pub shot_over-goes :
    (m : Machine) (answer : Answer) (a now : ℕ) (s : Session) (c : Course) (act : Action)
    → GoesOn m answer a now s (removed_by m answer a now s c) (shot_over m answer a now s c act)
shot_over-goes m answer a now s c action.Fill = fill_from-goes m answer a now s c 0
shot_over-goes m answer a now s c action.MapLocal = give_from-goes m answer a now s c 0
shot_over-goes m answer a now s c action.MapRemote = give_from-goes m answer a now s c 0
shot_over-goes m answer a now s c action.Replicate = copy_from-goes m answer a now s c 0
shot_over-goes m answer a now s c action.Migrate = copy_from-goes m answer a now s c 0
shot_over-goes m answer a now s c action.Collapse = give_from-goes m answer a now s c 0
shot_over-goes m answer a now s c action.Thaw = give_from-goes m answer a now s c 0

pub with_shoot-goes :
    (m : Machine) (answer : Answer) (a now : ℕ) (s : Session) (c : Course) (sh : Shoot)
    → GoesOn m answer a now s (removed_by m answer a now s c) (with_shoot m answer a now s c sh)
with_shoot-goes m answer a now s c (Makes posts shot) = record { before = refl; removes = refl }
with_shoot-goes m answer a now s c (Polls posts k) = record { before = refl; removes = refl }
with_shoot-goes m answer a now s c (Done posts) =
    shot_over-goes m answer a now s (with_posts c posts) (decision_of m answer a now s c).action

-- ---- before the row is fixed

start_course-before :
    (m : Machine) (answer : Answer) (a now : ℕ) (s : Session) (c : Course) → IsBefore (start_course m answer a now s c)
start_course-before m answer a now s c =
    cond_both (removes_some (removed_by m answer a now s c)) (with_shoot m answer a now s c (shoot_from m a s.fault.page []))
    (shot_over m answer a now s c (decision_of m answer a now s c).action) IsBefore
    (λ _. (with_shoot-goes m answer a now s c (shoot_from m a s.fault.page [])).before)
    (λ _. (shot_over-goes m answer a now s c (decision_of m answer a now s c).action).before)

pub with_frame_got-before :
    (m : Machine) (answer : Answer) (a now : ℕ) (s : Session) (st : Stamp) (got : Option Frame)
    → IsBefore (with_frame_got m answer a now s st got)
with_frame_got-before m answer a now s st got = start_course-before m answer a now s (record { stamp = st; got = got; posts = [] })

pub seek_from-before :
    (m : Machine) (answer : Answer) (a now : ℕ) (s : Session) (st : Stamp) (i : ℕ) → IsBefore (seek_from m answer a now s st i)
seek_from-before m answer a now s st i =
    cond_both (nat_lt i (length (tried m answer a now s st))) (Seeking st i)
    (if is_empty s.dir.state then Returning else with_frame_got m answer a now s st None) IsBefore (λ _. refl)
    (λ _. cond_both (is_empty s.dir.state) Returning (with_frame_got m answer a now s st None) IsBefore (λ _. refl)
    (λ _. with_frame_got-before m answer a now s st None))

pub pool_found-before :
    (m : Machine) (answer : Answer) (a now : ℕ) (s : Session) (st : Stamp) (i n : ℕ) → IsBefore (pool_found m answer a now s st i n)
pool_found-before m answer a now s st i n =
    cond_both (n == 0) (seek_from m answer a now s st (i + 1)) (Taking st i n) IsBefore
    (λ _. seek_from-before m answer a now s st (i + 1)) (λ _. refl)

pub take-before :
    (m : Machine) (answer : Answer) (a now : ℕ) (s : Session) (st : Stamp) (i seen n : ℕ)
    → IsBefore
    (if n == seen
    then with_frame_got m answer a now s st (Some (frame_taken m answer a now s st i seen))
    else pool_found m answer a now s st i n)
take-before m answer a now s st i seen n =
    cond_both (n == seen) (with_frame_got m answer a now s st (Some (frame_taken m answer a now s st i seen)))
    (pool_found m answer a now s st i n) IsBefore
    (λ _. with_frame_got-before m answer a now s st (Some (frame_taken m answer a now s st i seen)))
    (λ _. pool_found-before m answer a now s st i n)

-- ---- the stamp is stored: a processor grants

pub storing-goes :
    (m : Machine) (answer : Answer) (a now : ℕ) (s : Session) (c : Course) → (a == m.nodes) ≡ false
    → GoesOn m answer a now s (removed_by m answer a now s c) (if a == m.nodes then Unlocking c else Granting c)
storing-goes m answer a now s c e =
    cond_both (a == m.nodes) (Unlocking c) (Granting c) (GoesOn m answer a now s (removed_by m answer a now s c))
    (λ q. absurd (true≢false (sym q ∙ e))) (λ _. record { before = refl; removes = refl })
