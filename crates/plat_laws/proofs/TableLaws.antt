-- the table of protocol actions: what is known of each decision, so that nothing above looks into a row
use Rattle.std.proofs.Common.{◌≡◌, ◌≢◌, ℕ, ◌+◌, ◌<◌, ◌≤◌, nat_lt, if◌then◌else◌, ◌&&◌, not, Bool, true, false, List, [], ◌∷◌, length}
use Rattle.std.proofs.Common.{Option, Some, None, refl, sym, ap, ◌∙◌, ◌⊎◌, inl, inr, arith}
use Rattle.std.specs.Prelude.{◌==◌, is_some, is_none, unwrap_or}
use Rattle.std.specs.List.{list_all, fold}
use Rattle.std.proofs.lemmas.Bool.{eqb-true, eq-eqb, and_parts, and_from}
use Rattle.std.proofs.lemmas.Bool.Decides.{nat_tests}
use Rattle.plat_base.specs.Verdicts.{Answer}
use Rattle.plat_base.specs.Machine.{Machine}
use Rattle.plat_base.specs.Pages.{distance}
use Rattle.plat_base.specs.Alike.{same_verdict, state_number, same_state, right_number, same_right, cause_number, same_cause, action_number}
use Rattle.plat_base.specs.Alike.{same_action, removed_number, same_removed, same_bool, same_dir}
use Rattle.plat_base.specs.Copies.{copy_on, with_frame, same_frames}
use Rattle.plat_base.specs.Directories.{sets_last}
use Rattle.plat_base.specs.Decide.{is_frame, is_dir, is_empty, modules_rise, has_copies, nearer, nearest, no_frame, decide, may_decide}
use Rattle.plat_base.specs.Decide.{fits_cause, frozen_after, asks, decision, after_with, row_does, row_of, moves_page, thawed_state}
use Rattle.plat_base.specs.Decide.{is_some_frame, is_frame_on}
use Rattle.plat_base.specs.Rules.{names_got, is_decided}
use Rattle.plat_base.specs.Turns.{change_by}
use Rattle.plat_base.proofs.CopiesLemmas.{copy_on-module, length-with_frame, same_frames-itself}
use Rattle.plat_base.specs.declared.frames.Frame.{Frame}
use Rattle.plat_base.specs.declared.frames.Dir.{Dir}
use Rattle.plat_base.specs.declared.frames.State.{State}
use Rattle.plat_base.specs.declared.frames.State.TheVariants as state
use Rattle.plat_base.specs.Accesses.{cause_of}
use Rattle.plat_base.specs.declared.items.Kind.{Kind}
use Rattle.plat_base.specs.declared.items.Kind.TheVariants as kind
use Rattle.plat_base.specs.declared.items.Cause.{Cause}
use Rattle.plat_base.specs.declared.items.Cause.TheVariants as cause
use Rattle.plat_base.specs.declared.items.Action.{Action}
use Rattle.plat_base.specs.declared.items.Action.TheVariants as action
use Rattle.plat_base.specs.declared.items.Removed.{Removed}
use Rattle.plat_base.specs.declared.items.Removed.TheVariants as removed
use Rattle.plat_base.specs.declared.items.Right.{Right}
use Rattle.plat_base.specs.declared.items.Grant.{Grant}
use Rattle.plat_base.specs.declared.items.Item.{Item}
use Rattle.plat_base.specs.declared.policies.Verdict.{Verdict}
use Rattle.plat_base.specs.declared.policies.Verdict.TheVariants as verdict
use Rattle.plat_base.specs.declared.policies.Decision.{Decision}

-- ---- causes

-- an access is no cause of a thaw
pub cause_of-fault : (k : Kind) → cause_of k ≢ cause.Thaw
cause_of-fault kind.Load e = cc
cause_of-fault kind.Store e = cc
cause_of-fault kind.Add e = cc

-- ---- the copy on a module

-- what holds of each frame holds of the copy on a module
pub list_all_copy_on : (test : Frame → Bool) (mo : ℕ) (f : Frame) (fs : List Frame) → copy_on mo fs ≡ Some f → list_all test fs ≡ true →
    test f ≡ true
list_all_copy_on test mo f [] h k = absurd cc
list_all_copy_on test mo f (g ∷ gs) h k = grind (arith, nat_tests, list_all_copy_on test mo f gs)

-- ---- a copy more

pub copy_on-with_frame : (mo : ℕ) (f : Frame) (fs : List Frame) → copy_on mo (with_frame f fs) ≡ if f.module == mo then Some f
    else copy_on mo fs
copy_on-with_frame mo f [] = refl
copy_on-with_frame mo f (g ∷ gs) = grind (arith, nat_tests, copy_on-with_frame mo f gs)

pub list_all-with_frame : (test : Frame → Bool) (f : Frame) (fs : List Frame) → test f ≡ true → list_all test fs ≡ true →
    list_all test (with_frame f fs) ≡ true
list_all-with_frame test f [] h k = grind arith
list_all-with_frame test f (g ∷ gs) h k = grind (arith, nat_tests, list_all-with_frame test f gs)

pub modules_rise-with_frame : (low : ℕ) (f : Frame) (fs : List Frame) → low ≤ f.module → modules_rise low fs ≡ true →
    modules_rise low (with_frame f fs) ≡ true
modules_rise-with_frame low f [] h k = grind (arith, nat_tests)
modules_rise-with_frame low f (g ∷ gs) h k = grind (arith, nat_tests, modules_rise-with_frame (g.module + 1) f gs)

-- ---- the nearest copy

-- a frame is the best so far, or one of others of module low or more
Is_among : Frame → ℕ → List Frame → Frame → Type 0
Is_among best low fs n = (n ≡ best) ⊎ ((copy_on n.module fs ≡ Some n) × (low ≤ n.module))

either : (test : Bool) (f g : Frame) → ((if test then f else g) ≡ f) ⊎ ((if test then f else g) ≡ g)
either true f g = inl refl
either false f g = inr refl

is_among-more : (best g b : Frame) (low : ℕ) (gs : List Frame) (n : Frame) → (b ≡ g) ⊎ (b ≡ best) → low ≤ g.module →
    Is_among b (g.module + 1) gs n → Is_among best low (g ∷ gs) n
unfolding Is_among
is_among-more best g b low gs n c l h = grind (arith, nat_tests)

nearest_among : (m : Machine) (node low : ℕ) (best : Frame) (fs : List Frame) → modules_rise low fs ≡ true →
    Is_among best low fs (fold (nearer m node) best fs)
unfolding Is_among
nearest_among m node low best [] h = inl refl
nearest_among m node low best (g ∷ gs) h =
    let r : (low ≤ g.module) × (modules_rise (g.module + 1) gs ≡ true) = grind (arith, nat_tests) in
    is_among-more best g (nearer m node best g) low gs (fold (nearer m node) best (g ∷ gs))
    (either (nat_lt (distance m node g.module) (distance m node best.module)) g best)
    r.0
    (nearest_among m node (g.module + 1) (nearer m node best g) gs r.1)

copy_on-among : (f : Frame) (low : ℕ) (fs : List Frame) (n : Frame) → f.module < low → Is_among f low fs n →
    copy_on n.module (f ∷ fs) ≡ Some n
unfolding Is_among
copy_on-among f low fs n l h = grind (arith, nat_tests)

-- the nearest copy is a copy
pub copy_on-nearest : (m : Machine) (node : ℕ) (fs : List Frame) → 0 < length fs → modules_rise 0 fs ≡ true →
    copy_on (nearest m node fs).module fs ≡ Some (nearest m node fs)
copy_on-nearest m node [] n h = absurd (omega arith)
copy_on-nearest m node (f ∷ fs) n h =
    copy_on-among f (f.module + 1) fs (nearest m node (f ∷ fs)) (omega arith)
    (nearest_among m node (f.module + 1) f fs (grind (arith, nat_tests)))

-- ---- what is known of a fault's decision

-- what holds of the decision d of a fault of this cause, where b is the directory before it and got the frame that it took
pub record DecideFacts (m : Machine) (b : Dir) (got : Option Frame) (c : Cause) (d : Decision) : Type 0 where
  -- the directory after is one that the machine can have, and is not empty
  pub dir : is_dir m d.after ≡ true
  pub filled : is_empty d.after.state ≡ false
  -- the change tells the frame that was taken
  pub got_back : (if names_got d.action then Some d.frame else None) ≡ got
  -- writes are removed from modified pages only, and leave several copies
  pub writes_before : d.removed ≡ removed.Writes → b.state ≡ state.Modified
  pub writes_after : d.removed ≡ removed.Writes → d.after.state ≡ state.PresentPlus
  -- without an invalidation present+ stays, and what was a copy is one
  pub plus_stays : b.state ≡ state.PresentPlus → d.removed ≢ removed.All → d.after.state ≡ state.PresentPlus
  pub copies_stay : (mo : ℕ) (f : Frame) → d.removed ≢ removed.All → copy_on mo b.copies ≡ Some f → copy_on mo d.after.copies ≡ Some f
  -- a copy was one before, or was got
  pub copies_from : (mo : ℕ) (f : Frame) → copy_on mo d.after.copies ≡ Some f → (copy_on mo b.copies ≡ Some f) ⊎ (got ≡ Some f)
  -- the granted frame is a copy, and a frame of the machine
  pub granted : copy_on d.frame.module d.after.copies ≡ Some d.frame
  pub frame : is_frame m d.frame ≡ true
  pub modified_stays : b.state ≡ state.Modified → d.removed ≡ removed.Nothing → d.after.state ≡ state.Modified
  -- a fill is of an empty page, and a page that is copied has a copy
  pub fills : d.action ≡ action.Fill → is_empty b.state ≡ true
  pub copied : d.action ≢ action.Fill → names_got d.action ≡ true → is_empty b.state ≡ false
  pub write_state : c ≡ cause.Write → d.after.state ≡ state.Modified
  pub write_removed : c ≡ cause.Write → d.removed ≢ removed.Writes
  pub read_removed : c ≡ cause.Read → d.removed ≢ removed.All
  pub sets : d.sets_last ≡ sets_last d.action
  pub no_thaw : d.action ≢ action.Thaw

-- ---- the parts of a directory

pub dir_parts : (m : Machine) (b : Dir) → is_dir m b ≡ true
    → (list_all (is_frame m) b.copies ≡ true) × (modules_rise 0 b.copies ≡ true) × (has_copies b.state (length b.copies) ≡ true)
dir_parts m b h = grind (arith, nat_tests)

some_copies : (s : State) (n : ℕ) → is_empty s ≡ false → has_copies s n ≡ true → 0 < n
some_copies state.Empty n e h = absurd cc
some_copies state.Present1 n e h = grind (arith, nat_tests)
some_copies state.PresentPlus n e h = grind (arith, nat_tests)
some_copies state.Modified n e h = grind (arith, nat_tests)

pub has_some : (m : Machine) (b : Dir) → is_dir m b ≡ true → is_empty b.state ≡ false → 0 < length b.copies
has_some m b h e = some_copies b.state (length b.copies) e (dir_parts m b h).2

dir_from : (m : Machine) (s : State) (frozen : Bool) (fs : List Frame) → is_empty s ≡ false → list_all (is_frame m) fs ≡ true
    → modules_rise 0 fs ≡ true → has_copies s (length fs) ≡ true → is_dir m (after_with s frozen fs) ≡ true
dir_from m s frozen fs e h r n = grind (arith, nat_tests)

-- ---- rows that leave the copies as they are

-- a state after that goes with the copies before
record Stays (b : Dir) (c : Cause) (s : State) : Type 0 where
  filled : is_empty s ≡ false
  copies : has_copies s (length b.copies) ≡ true
  plus : b.state ≡ state.PresentPlus → s ≡ state.PresentPlus
  modified : b.state ≡ state.Modified → s ≡ state.Modified
  write : c ≡ cause.Write → s ≡ state.Modified

stays_read : (m : Machine) (b : Dir) → is_dir m b ≡ true → is_empty b.state ≡ false → Stays b cause.Read b.state
stays_read m b h n =
    record { filled = n; copies = (dir_parts m b h).2; plus = λ x. x; modified = λ x. x; write = λ x. absurd cc }

stays_modified : (m : Machine) (b : Dir) (c : Cause) → is_dir m b ≡ true → b.state ≡ state.Modified → Stays b c state.Modified
stays_modified m b c h e =
    record { filled = refl; copies = rw e at (dir_parts m b h).2; plus = λ x. absurd cc; modified = λ _. refl; write = λ _. refl }

stays_written : (m : Machine) (b : Dir) (c : Cause) → is_dir m b ≡ true → b.state ≡ state.Present1 → Stays b c state.Modified
stays_written m b c h e =
    record { filled = refl; copies = rw e at (dir_parts m b h).2; plus = λ x. absurd cc; modified = λ _. refl; write = λ _. refl }

kept_facts : (m : Machine) (b : Dir) (c : Cause) (s : State) (frozen : Bool) (a : Action) (f : Frame) → is_dir m b ≡ true → Stays b c s
    → names_got a ≡ false → sets_last a ≡ false → a ≢ action.Thaw → copy_on f.module b.copies ≡ Some f
    → DecideFacts m b None c (decision a removed.Nothing (after_with s frozen b.copies) false f)
kept_facts m b c s frozen a f h st ng sl nt here =
    let parts = dir_parts m b h in
    record {
      dir = dir_from m s frozen b.copies st.filled parts.0 parts.1 st.copies;
      filled = st.filled;
      got_back = cc;
      writes_before = λ x. absurd cc;
      writes_after = λ x. absurd cc;
      plus_stays = λ x _. st.plus x;
      copies_stay = λ mo g _ x. x;
      copies_from = λ mo g x. inl x;
      granted = here;
      frame = list_all_copy_on (is_frame m) f.module f b.copies here parts.0;
      modified_stays = λ x _. st.modified x;
      fills = λ x. let taken : names_got a ≡ true = ap names_got x in absurd cc;
      copied = λ _ x. absurd cc;
      write_state = st.write;
      write_removed = λ x y. absurd cc;
      read_removed = λ x y. absurd cc;
      sets = sym sl;
      no_thaw = nt;
    }

-- the node's own copy
own : (node : ℕ) (g : Frame) (fs : List Frame) → copy_on node fs ≡ Some g
    → copy_on (unwrap_or (copy_on node fs) no_frame).module fs ≡ Some (unwrap_or (copy_on node fs) no_frame)
own node g fs h =
    rw h (ap (λ (mo : ℕ). copy_on mo fs) (copy_on-module node g fs h) ∙ h)

-- the nearest copy of a page that has one
near : (m : Machine) (b : Dir) (node : ℕ) → is_dir m b ≡ true → is_empty b.state ≡ false
    → copy_on (nearest m node b.copies).module b.copies ≡ Some (nearest m node b.copies)
near m b node h e = copy_on-nearest m node b.copies (has_some m b h e) (dir_parts m b h).1

local_facts : (m : Machine) (b : Dir) (c : Cause) (s : State) (frozen : Bool) (node : ℕ) (g : Frame) → is_dir m b ≡ true → Stays b c s
    → copy_on node b.copies ≡ Some g
    → DecideFacts m b None c (decision action.MapLocal removed.Nothing (after_with s frozen b.copies) false
    (unwrap_or (copy_on node b.copies) no_frame))
local_facts m b c s frozen node g h st k =
    kept_facts m b c s frozen action.MapLocal (unwrap_or (copy_on node b.copies) no_frame) h st refl refl (λ x. absurd cc)
    (own node g b.copies k)

remote_facts : (m : Machine) (b : Dir) (c : Cause) (s : State) (frozen : Bool) (node : ℕ) → is_dir m b ≡ true → Stays b c s
    → is_empty b.state ≡ false
    → DecideFacts m b None c (decision action.MapRemote removed.Nothing (after_with s frozen b.copies) false (nearest m node b.copies))
remote_facts m b c s frozen node h st n =
    kept_facts m b c s frozen action.MapRemote (nearest m node b.copies) h st refl refl (λ x. absurd cc) (near m b node h n)

-- ---- rows that leave one copy

copy_on-one : (mo : ℕ) (f g : Frame) → copy_on mo (f ∷ []) ≡ Some g → (f ≡ g) × (f.module ≡ mo)
copy_on-one mo f g h = grind (arith, nat_tests)

copy_on-no_copies : (mo : ℕ) (fs : List Frame) → length fs ≡ 0 → copy_on mo fs ≡ None
copy_on-no_copies mo [] n = refl
copy_on-no_copies mo (f ∷ fs) n = absurd (omega arith)

no_copies : (s : State) (n : ℕ) → is_empty s ≡ true → has_copies s n ≡ true → n ≡ 0
no_copies state.Empty n e h = eqb-true n 0 h
no_copies state.Present1 n e h = absurd cc
no_copies state.PresentPlus n e h = absurd cc
no_copies state.Modified n e h = absurd cc

pub copy_on-empty : (m : Machine) (b : Dir) (mo : ℕ) → is_dir m b ≡ true → is_empty b.state ≡ true → copy_on mo b.copies ≡ None
copy_on-empty m b mo h e = copy_on-no_copies mo b.copies (no_copies b.state (length b.copies) e (dir_parts m b h).2)

copy_on-itself : (f : Frame) → copy_on f.module (f ∷ []) ≡ Some f
copy_on-itself f = grind (arith, nat_tests)

one_is_dir : (m : Machine) (s : State) (frozen : Bool) (f : Frame) → is_frame m f ≡ true → is_empty s ≡ false → has_copies s 1 ≡ true
    → is_dir m (after_with s frozen (f ∷ [])) ≡ true
one_is_dir m s frozen f h e n = dir_from m s frozen (f ∷ []) e (grind (arith, nat_tests)) (grind (arith, nat_tests)) n

fill_facts : (m : Machine) (b : Dir) (c : Cause) (s : State) (frozen : Bool) (f : Frame) → b.state ≡ state.Empty → is_dir m b ≡ true →
    is_frame m f ≡ true
    → is_empty s ≡ false → has_copies s 1 ≡ true → (c ≡ cause.Write → s ≡ state.Modified)
    → DecideFacts m b (Some f) c (decision action.Fill removed.Nothing (after_with s frozen (f ∷ [])) false f)
fill_facts m b c s frozen f was h k e n wr = record {
  dir = one_is_dir m s frozen f k e n;
  filled = e;
  got_back = refl;
  writes_before = λ x. absurd cc;
  writes_after = λ x. absurd cc;
  plus_stays = λ x _. absurd cc;
  copies_stay = λ mo g _ x. let none : copy_on mo b.copies ≡ None = copy_on-empty m b mo h (ap is_empty was) in absurd cc;
  copies_from = λ mo g x. inr (ap Some (copy_on-one mo f g x).0);
  granted = copy_on-itself f;
  frame = k;
  modified_stays = λ x _. absurd cc;
  fills = λ x. ap is_empty was;
  copied = λ x _. absurd (x refl);
  write_state = wr;
  write_removed = λ x y. absurd cc;
  read_removed = λ x y. absurd cc;
  sets = refl;
  no_thaw = λ x. absurd cc;
}

-- the copy was there, or was got
one_from : (mo : ℕ) (f g : Frame) (got : Option Frame) (fs : List Frame) → (copy_on f.module fs ≡ Some f) ⊎ (got ≡ Some f) →
    copy_on mo (f ∷ []) ≡ Some g
    → (copy_on mo fs ≡ Some g) ⊎ (got ≡ Some g)
one_from mo f g got fs c h = grind (arith, nat_tests)

moved_facts : (m : Machine) (b : Dir) (got : Option Frame) (frozen : Bool) (a : Action) (f : Frame) → is_frame m f ≡ true
    → (if names_got a then Some f else None) ≡ got → sets_last a ≡ true → a ≢ action.Thaw → is_empty b.state ≡ false
    → (copy_on f.module b.copies ≡ Some f) ⊎ (got ≡ Some f)
    → DecideFacts m b got cause.Write (decision a removed.All (after_with state.Modified frozen (f ∷ [])) true f)
moved_facts m b got frozen a f k back sl nt e from = record {
  dir = one_is_dir m state.Modified frozen f k refl refl;
  filled = refl;
  got_back = back;
  writes_before = λ x. absurd cc;
  writes_after = λ x. absurd cc;
  plus_stays = λ x y. absurd (y refl);
  copies_stay = λ mo g y x. absurd (y refl);
  copies_from = λ mo g x. one_from mo f g got b.copies from x;
  granted = copy_on-itself f;
  frame = k;
  modified_stays = λ x y. absurd cc;
  fills = λ x. let never : sets_last a ≡ false = ap sets_last x in absurd cc;
  copied = λ _ _. e;
  write_state = λ x. refl;
  write_removed = λ x y. absurd cc;
  read_removed = λ x y. absurd cc;
  sets = sym sl;
  no_thaw = nt;
}

migrate_facts : (m : Machine) (b : Dir) (frozen : Bool) (f : Frame) → is_frame m f ≡ true → is_empty b.state ≡ false
    → DecideFacts m b (Some f) cause.Write (decision action.Migrate removed.All (after_with state.Modified frozen (f ∷ [])) true f)
migrate_facts m b frozen f k e = moved_facts m b (Some f) frozen action.Migrate f k refl refl (λ x. absurd cc) e (inr refl)

collapse_facts : (m : Machine) (b : Dir) (frozen : Bool) (f : Frame) → is_dir m b ≡ true → is_empty b.state ≡ false
    → copy_on f.module b.copies ≡ Some f
    → DecideFacts m b None cause.Write (decision action.Collapse removed.All (after_with state.Modified frozen (f ∷ [])) true f)
collapse_facts m b frozen f h e k =
    moved_facts m b None frozen action.Collapse f (list_all_copy_on (is_frame m) f.module f b.copies k (dir_parts m b h).0) refl refl
    (λ x. absurd cc) e (inl k)

-- ---- rows that add a copy

more_kept : (mo : ℕ) (f g : Frame) (fs : List Frame) → copy_on f.module fs ≡ None → copy_on mo fs ≡ Some g →
    copy_on mo (with_frame f fs) ≡ Some g
more_kept mo f g fs none h = grind (arith, nat_tests, copy_on-with_frame mo f fs)

more_from : (mo : ℕ) (f g : Frame) (fs : List Frame) → copy_on mo (with_frame f fs) ≡ Some g → (copy_on mo fs ≡ Some g) ⊎ (Some f ≡ Some g)
more_from mo f g fs h = grind (arith, nat_tests, copy_on-with_frame mo f fs)

more_itself : (f : Frame) (fs : List Frame) → copy_on f.module (with_frame f fs) ≡ Some f
more_itself f fs = grind (arith, nat_tests, copy_on-with_frame f.module f fs)

replicate_facts : (m : Machine) (b : Dir) (rem : Removed) (frozen : Bool) (f : Frame) → is_dir m b ≡ true → is_frame m f ≡ true
    → copy_on f.module b.copies ≡ None → is_empty b.state ≡ false → rem ≢ removed.All
    → (b.state ≡ state.Modified → rem ≡ removed.Writes) → (rem ≡ removed.Writes → b.state ≡ state.Modified)
    → DecideFacts m b (Some f) cause.Read
    (decision action.Replicate rem (after_with state.PresentPlus frozen (with_frame f b.copies)) false f)
replicate_facts m b rem frozen f h k none e na wr back =
    let parts = dir_parts m b h in
    record {
      dir = dir_from m state.PresentPlus frozen (with_frame f b.copies) refl (list_all-with_frame (is_frame m) f b.copies k parts.0)
          (modules_rise-with_frame 0 f b.copies (omega arith) parts.1)
          (grind (arith, nat_tests, length-with_frame f b.copies none, has_some m b h e));
      filled = refl;
      got_back = refl;
      writes_before = back;
      writes_after = λ x. refl;
      plus_stays = λ x y. refl;
      copies_stay = λ mo g y x. more_kept mo f g b.copies none x;
      copies_from = λ mo g x. more_from mo f g b.copies x;
      granted = more_itself f b.copies;
      frame = k;
      modified_stays = λ x y. let z : rem ≡ removed.Writes = wr x in absurd cc;
      fills = λ x. absurd cc;
      copied = λ _ _. e;
      write_state = λ x. absurd cc;
      write_removed = λ x y. absurd cc;
      read_removed = λ x y. na y;
      sets = refl;
      no_thaw = λ x. absurd cc;
    }

none_on : (node : ℕ) (f : Frame) (fs : List Frame) → f.module ≡ node → copy_on node fs ≡ None → copy_on f.module fs ≡ None
none_on node f fs e h = ap (λ (mo : ℕ). copy_on mo fs) e ∙ h

-- ---- the rows of a fault

-- what was got for a page with copies: nothing where the node has one or the page stays, else a frame on the node
Got : Machine → ℕ → (here : Option Frame) (moves : Bool) (got : Option Frame) → Type 0
Got m node (Some g) moves None = Unit {0}
Got m node (Some g) moves (Some f) = ⊥
Got m node None true None = ⊥
Got m node None true (Some f) = (is_frame m f ≡ true) × (f.module ≡ node)
Got m node None false None = Unit {0}
Got m node None false (Some f) = ⊥

on_node : (m : Machine) (node : ℕ) (f : Frame) → is_frame_on m node (Some f) ≡ true → (is_frame m f ≡ true) × (f.module ≡ node)
on_node m node f h = grind (arith, nat_tests)

got_of : (m : Machine) (node : ℕ) (here : Option Frame) (v : Verdict) (got : Option Frame)
    → (if is_none here && same_verdict v verdict.Move then is_frame_on m node got else is_none got) ≡ true
    → Got m node here (moves_page v got) got
unfolding Got
got_of m node (Some g) v None k = tt
got_of m node (Some g) v (Some f) k = absurd cc
got_of m node None verdict.Move None k = tt
got_of m node None verdict.Move (Some f) k = on_node m node f k
got_of m node None verdict.Stay None k = tt
got_of m node None verdict.Stay (Some f) k = absurd cc
got_of m node None verdict.Freeze None k = tt
got_of m node None verdict.Freeze (Some f) k = absurd cc

read_facts : (m : Machine) (b : Dir) (frozen : Bool) (node : ℕ) (s : State) (here : Option Frame) (moves : Bool) (got : Option Frame)
    → is_dir m b ≡ true → b.state ≡ s → is_empty b.state ≡ false → copy_on node b.copies ≡ here → Got m node here moves got
    → DecideFacts m b got cause.Read (row_does m (row_of cause.Read s (is_some here) moves) b frozen node got)
unfolding Got
read_facts m b frozen node state.Empty here moves got h e n c k = let empty : is_empty b.state ≡ true = ap is_empty e in absurd cc
read_facts m b frozen node state.Present1 (Some g) moves None h e n c k =
    local_facts m b cause.Read b.state frozen node g h (stays_read m b h n) c
read_facts m b frozen node state.Present1 (Some g) moves (Some f) h e n c k = absurd k
read_facts m b frozen node state.Present1 None true None h e n c k = absurd k
read_facts m b frozen node state.Present1 None true (Some f) h e n c k =
    replicate_facts m b removed.Nothing frozen f h k.0 (none_on node f b.copies k.1 c) n (λ x. absurd cc) (λ x. absurd cc) (λ x. absurd cc)
read_facts m b frozen node state.Present1 None false None h e n c k =
    remote_facts m b cause.Read b.state frozen node h (stays_read m b h n) n
read_facts m b frozen node state.Present1 None false (Some f) h e n c k = absurd k
read_facts m b frozen node state.PresentPlus (Some g) moves None h e n c k =
    local_facts m b cause.Read b.state frozen node g h (stays_read m b h n) c
read_facts m b frozen node state.PresentPlus (Some g) moves (Some f) h e n c k = absurd k
read_facts m b frozen node state.PresentPlus None true None h e n c k = absurd k
read_facts m b frozen node state.PresentPlus None true (Some f) h e n c k =
    replicate_facts m b removed.Nothing frozen f h k.0 (none_on node f b.copies k.1 c) n (λ x. absurd cc) (λ x. absurd cc) (λ x. absurd cc)
read_facts m b frozen node state.PresentPlus None false None h e n c k =
    remote_facts m b cause.Read b.state frozen node h (stays_read m b h n) n
read_facts m b frozen node state.PresentPlus None false (Some f) h e n c k = absurd k
read_facts m b frozen node state.Modified (Some g) moves None h e n c k =
    local_facts m b cause.Read b.state frozen node g h (stays_read m b h n) c
read_facts m b frozen node state.Modified (Some g) moves (Some f) h e n c k = absurd k
read_facts m b frozen node state.Modified None true None h e n c k = absurd k
read_facts m b frozen node state.Modified None true (Some f) h e n c k =
    replicate_facts m b removed.Writes frozen f h k.0 (none_on node f b.copies k.1 c) n (λ x. absurd cc) (λ x. refl) (λ x. e)
read_facts m b frozen node state.Modified None false None h e n c k =
    remote_facts m b cause.Read state.Modified frozen node h (stays_modified m b cause.Read h e) n
read_facts m b frozen node state.Modified None false (Some f) h e n c k = absurd k

write_facts : (m : Machine) (b : Dir) (frozen : Bool) (node : ℕ) (s : State) (here : Option Frame) (moves : Bool) (got : Option Frame)
    → is_dir m b ≡ true → b.state ≡ s → is_empty b.state ≡ false → copy_on node b.copies ≡ here → Got m node here moves got
    → DecideFacts m b got cause.Write (row_does m (row_of cause.Write s (is_some here) moves) b frozen node got)
unfolding Got
write_facts m b frozen node state.Empty here moves got h e n c k = let empty : is_empty b.state ≡ true = ap is_empty e in absurd cc
write_facts m b frozen node state.Present1 (Some g) moves None h e n c k =
    local_facts m b cause.Write state.Modified frozen node g h (stays_written m b cause.Write h e) c
write_facts m b frozen node state.Present1 (Some g) moves (Some f) h e n c k = absurd k
write_facts m b frozen node state.Present1 None true None h e n c k = absurd k
write_facts m b frozen node state.Present1 None true (Some f) h e n c k =
    migrate_facts m b frozen f k.0 n
write_facts m b frozen node state.Present1 None false None h e n c k =
    remote_facts m b cause.Write state.Modified frozen node h (stays_written m b cause.Write h e) n
write_facts m b frozen node state.Present1 None false (Some f) h e n c k = absurd k
write_facts m b frozen node state.PresentPlus (Some g) moves None h e n c k =
    collapse_facts m b frozen (unwrap_or (copy_on node b.copies) no_frame) h n (own node g b.copies c)
write_facts m b frozen node state.PresentPlus (Some g) moves (Some f) h e n c k = absurd k
write_facts m b frozen node state.PresentPlus None true None h e n c k = absurd k
write_facts m b frozen node state.PresentPlus None true (Some f) h e n c k =
    migrate_facts m b frozen f k.0 n
write_facts m b frozen node state.PresentPlus None false None h e n c k =
    collapse_facts m b frozen (nearest m node b.copies) h n (near m b node h n)
write_facts m b frozen node state.PresentPlus None false (Some f) h e n c k = absurd k
write_facts m b frozen node state.Modified (Some g) moves None h e n c k =
    local_facts m b cause.Write state.Modified frozen node g h (stays_modified m b cause.Write h e) c
write_facts m b frozen node state.Modified (Some g) moves (Some f) h e n c k = absurd k
write_facts m b frozen node state.Modified None true None h e n c k = absurd k
write_facts m b frozen node state.Modified None true (Some f) h e n c k =
    migrate_facts m b frozen f k.0 n
write_facts m b frozen node state.Modified None false None h e n c k =
    remote_facts m b cause.Write state.Modified frozen node h (stays_modified m b cause.Write h e) n
write_facts m b frozen node state.Modified None false (Some f) h e n c k = absurd k

-- the frame got, as `fits_fault` has it
Fits : Machine → ℕ → State → (here : Option Frame) → Verdict → (got : Option Frame) → Type 0
Fits m node s here v got =
    (if is_empty s then is_some_frame m got
    else if (not (is_empty s) && is_none here) && same_verdict v verdict.Move then is_frame_on m node got else is_none got)
    ≡ true

read_decides : (m : Machine) (b : Dir) (frozen : Bool) (node : ℕ) (s : State) (here : Option Frame) (v : Verdict) (got : Option Frame)
    → is_dir m b ≡ true → b.state ≡ s → copy_on node b.copies ≡ here → Fits m node s here v got
    → DecideFacts m b got cause.Read (row_does m (row_of cause.Read s (is_some here) (moves_page v got)) b frozen node got)
unfolding Fits
read_decides m b frozen node state.Empty here v None h e c k = absurd cc
read_decides m b frozen node state.Empty here v (Some f) h e c k =
    fill_facts m b cause.Read state.Present1 frozen f e h k refl refl (λ x. absurd cc)
read_decides m b frozen node state.Present1 here v got h e c k =
    read_facts m b frozen node state.Present1 here (moves_page v got) got h e (ap is_empty e) c (got_of m node here v got k)
read_decides m b frozen node state.PresentPlus here v got h e c k =
    read_facts m b frozen node state.PresentPlus here (moves_page v got) got h e (ap is_empty e) c (got_of m node here v got k)
read_decides m b frozen node state.Modified here v got h e c k =
    read_facts m b frozen node state.Modified here (moves_page v got) got h e (ap is_empty e) c (got_of m node here v got k)

write_decides : (m : Machine) (b : Dir) (frozen : Bool) (node : ℕ) (s : State) (here : Option Frame) (v : Verdict) (got : Option Frame)
    → is_dir m b ≡ true → b.state ≡ s → copy_on node b.copies ≡ here → Fits m node s here v got
    → DecideFacts m b got cause.Write (row_does m (row_of cause.Write s (is_some here) (moves_page v got)) b frozen node got)
unfolding Fits
write_decides m b frozen node state.Empty here v None h e c k = absurd cc
write_decides m b frozen node state.Empty here v (Some f) h e c k =
    fill_facts m b cause.Write state.Modified frozen f e h k refl refl (λ x. refl)
write_decides m b frozen node state.Present1 here v got h e c k =
    write_facts m b frozen node state.Present1 here (moves_page v got) got h e (ap is_empty e) c (got_of m node here v got k)
write_decides m b frozen node state.PresentPlus here v got h e c k =
    write_facts m b frozen node state.PresentPlus here (moves_page v got) got h e (ap is_empty e) c (got_of m node here v got k)
write_decides m b frozen node state.Modified here v got h e c k =
    write_facts m b frozen node state.Modified here (moves_page v got) got h e (ap is_empty e) c (got_of m node here v got k)

pub decide_facts : (m : Machine) (answer : Answer) (b : Dir) (last : Option ℕ) (now n : ℕ) (c : Cause) (got : Option Frame)
    → c ≢ cause.Thaw → may_decide m answer b last now n c got ≡ true → DecideFacts m b got c (decide m answer b last now n c got)
unfolding Fits
decide_facts m answer b last now n cause.Read got t k =
    let h = and_parts (is_dir m b) (fits_cause m answer b last now n cause.Read got) k in
    read_decides m b (frozen_after (asks cause.Read b n) (answer b last now) b.frozen) n b.state (copy_on n b.copies) (answer b last now)
    got h.0 refl refl h.1
decide_facts m answer b last now n cause.Write got t k =
    let h = and_parts (is_dir m b) (fits_cause m answer b last now n cause.Write got) k in
    write_decides m b (frozen_after (asks cause.Write b n) (answer b last now) b.frozen) n b.state (copy_on n b.copies) (answer b last now)
    got h.0 refl refl h.1
decide_facts m answer b last now n cause.Thaw got t k = absurd (t refl)

-- ---- a thaw

-- what holds of the decision d of a thaw, where b is the directory before it
pub record ThawFacts (m : Machine) (b : Dir) (d : Decision) : Type 0 where
  pub action : d.action ≡ action.Thaw
  pub removed : d.removed ≡ removed.All
  pub dir : is_dir m d.after ≡ true
  pub filled : is_empty d.after.state ≡ false
  pub copies : d.after.copies ≡ b.copies
  pub thawed : d.after.frozen ≡ false
  pub sets : d.sets_last ≡ false
  pub modified : b.state ≡ state.Modified → d.after.state ≡ state.Present1
  pub same : b.state ≢ state.Modified → d.after.state ≡ b.state

frozen_filled : (m : Machine) (b : Dir) → is_dir m b ≡ true → b.frozen ≡ true → is_empty b.state ≡ false
frozen_filled m b h f = grind (arith, nat_tests)

thawed_filled : (s : State) → is_empty s ≡ false → is_empty (thawed_state s) ≡ false
thawed_filled state.Empty e = e
thawed_filled state.Present1 e = e
thawed_filled state.PresentPlus e = e
thawed_filled state.Modified e = refl

thawed_copies : (s : State) (n : ℕ) → has_copies s n ≡ true → has_copies (thawed_state s) n ≡ true
thawed_copies state.Empty n h = h
thawed_copies state.Present1 n h = h
thawed_copies state.PresentPlus n h = h
thawed_copies state.Modified n h = h

thawed_same : (s : State) → s ≢ state.Modified → thawed_state s ≡ s
thawed_same state.Empty n = refl
thawed_same state.Present1 n = refl
thawed_same state.PresentPlus n = refl
thawed_same state.Modified n = absurd (n refl)

pub thaw_facts : (m : Machine) (answer : Answer) (b : Dir) (last : Option ℕ) (now n : ℕ) → is_dir m b ≡ true → b.frozen ≡ true
    → ThawFacts m b (decide m answer b last now n cause.Thaw None)
thaw_facts m answer b last now n h f =
    let parts = dir_parts m b h in
    let e : is_empty (thawed_state b.state) ≡ false = thawed_filled b.state (frozen_filled m b h f) in
    record {
      action = refl;
      removed = refl;
      dir = dir_from m (thawed_state b.state) false b.copies e parts.0 parts.1 (thawed_copies b.state (length b.copies) parts.2);
      filled = e;
      copies = refl;
      thawed = refl;
      sets = refl;
      modified = λ x. ap thawed_state x;
      same = λ x. thawed_same b.state x;
    }

pub may_thaw : (m : Machine) (answer : Answer) (b : Dir) (last : Option ℕ) (now n : ℕ) → is_dir m b ≡ true → b.frozen ≡ true
    → may_decide m answer b last now n cause.Thaw None ≡ true
may_thaw m answer b last now n h f = rw (h, f)

-- ---- faults and thaws

-- what holds of both, as the page's clauses of the invariant want it
pub record PageFacts (m : Machine) (b : Dir) (d : Decision) : Type 0 where
  pub dir : is_dir m d.after ≡ true
  pub filled : is_empty d.after.state ≡ false
  pub writes_before : d.removed ≡ removed.Writes → b.state ≡ state.Modified
  pub writes_after : d.removed ≡ removed.Writes → d.after.state ≡ state.PresentPlus
  pub plus_stays : b.state ≡ state.PresentPlus → d.removed ≢ removed.All → d.after.state ≡ state.PresentPlus

pub fault_page : (m : Machine) (b : Dir) (got : Option Frame) (c : Cause) (d : Decision) → DecideFacts m b got c d → PageFacts m b d
fault_page m b got c d h = record {
  dir = h.dir;
  filled = h.filled;
  writes_before = h.writes_before;
  writes_after = h.writes_after;
  plus_stays = h.plus_stays;
}

pub thaw_page : (m : Machine) (b : Dir) (d : Decision) → ThawFacts m b d → PageFacts m b d
thaw_page m b d h = record {
  dir = h.dir;
  filled = h.filled;
  writes_before = λ x. absurd (cc h.removed);
  writes_after = λ x. absurd (cc h.removed);
  plus_stays = λ x y. absurd (y h.removed);
}

-- ---- the tests of equality at one value

pub same_state-itself : (s : State) → same_state s s ≡ true
same_state-itself s = eq-eqb (state_number s) (state_number s) refl

pub same_right-itself : (r : Right) → same_right r r ≡ true
same_right-itself r = eq-eqb (right_number r) (right_number r) refl

pub same_cause-itself : (c : Cause) → same_cause c c ≡ true
same_cause-itself c = eq-eqb (cause_number c) (cause_number c) refl

pub same_action-itself : (a : Action) → same_action a a ≡ true
same_action-itself a = eq-eqb (action_number a) (action_number a) refl

pub same_removed-itself : (r : Removed) → same_removed r r ≡ true
same_removed-itself r = eq-eqb (removed_number r) (removed_number r) refl

pub same_bool-itself : (b : Bool) → same_bool b b ≡ true
same_bool-itself true = refl
same_bool-itself false = refl

pub all_three : (a b c : Bool) → a ≡ true → b ≡ true → c ≡ true → (a && b && c) ≡ true
all_three a b c x y z = and_from (a && b) c (and_from a b x y) z

pub same_dir-itself : (d : Dir) → same_dir d d ≡ true
same_dir-itself d =
    all_three (same_state d.state d.state) (same_bool d.frozen d.frozen) (same_frames d.copies d.copies) (same_state-itself d.state)
    (same_bool-itself d.frozen) (same_frames-itself d.copies)

-- a change by a decision is that decision
pub is_decided-change_by : (items : List Item) (q p now : ℕ) (c : Cause) (d : Decision) (granted : Option Grant)
    → is_decided d (change_by items q p now c d granted) ≡ true
is_decided-change_by items q p now c d granted =
    all_three (same_action d.action d.action) (same_removed d.removed d.removed) (same_dir d.after d.after) (same_action-itself d.action)
    (same_removed-itself d.removed) (same_dir-itself d.after)
