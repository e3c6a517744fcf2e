-- a session on a modified page that has a frame in hand, or has read a word for a copy, removes something
use Rattle.std.specs.Prelude.{◌≡◌, ◌≢◌, ℕ, ◌<◌, ◌&&◌, not, if◌then◌else◌, Bool, true, false, Option, Some, None, is_some, is_none}
use Rattle.std.proofs.Common.{refl, ap, sym, ◌∙◌, arith}
use Rattle.std.specs.Option.{option_map_or}
use Rattle.std.proofs.lemmas.Bool.{and_parts}
use Rattle.plat_base.specs.Verdicts.{Answer}
use Rattle.plat_base.specs.Machine.{Machine}
use Rattle.plat_base.specs.Alike.{same_verdict}
use Rattle.plat_base.specs.Copies.{copy_on}
use Rattle.plat_base.specs.Decide.{row_of, row_does, decide, asks, moves_page, frozen_after, is_empty, is_dir, is_frame_on, is_some_frame}
use Rattle.plat_base.specs.Decide.{fits_cause, may_decide}
use Rattle.plat_base.specs.declared.frames.Frame.{Frame}
use Rattle.plat_base.specs.declared.frames.Dir.{Dir}
use Rattle.plat_base.specs.declared.frames.State.{State}
use Rattle.plat_base.specs.declared.frames.State.TheVariants as state
use Rattle.plat_base.specs.declared.items.Cause.{Cause}
use Rattle.plat_base.specs.declared.items.Cause.TheVariants as cause
use Rattle.plat_base.specs.declared.items.Removed.{Removed}
use Rattle.plat_base.specs.declared.items.Removed.TheVariants as removed
use Rattle.plat_base.specs.declared.policies.Verdict.TheVariants as verdict
use Rattle.plat_events.specs.Sessions.{Course, Phase, Stamping, Seeking, Taking, Returning, Shooting, Filling, Reading, Copying, Giving}
use Rattle.plat_events.specs.Sessions.{Storing, Granting, Unlocking, Session, decision_of}
use Rattle.plat_events.specs.Privates.{Private}
use Rattle.plat_events.specs.Standings.{course_of, is_quiet, words_filled, word_copied}
use Rattle.plat_local_laws.specs.Phases.{CourseOk, PhaseOk, copies_words}

-- ---- the rows of a modified page

row-moves :
    (m : Machine) (dir : Dir) (frozen : Bool) (node : ℕ) (got : Option Frame) (c : Cause) (st : State) (here moves : Bool) →
    st ≡ state.Modified → here ≡ false → moves ≡ true →
    (row_does m (row_of c st here moves) dir frozen node got).removed ≢ removed.Nothing
row-moves m dir frozen node got cause.Read state.Modified false true is none goes = λ e. absurd cc
row-moves m dir frozen node got cause.Read state.Modified false false is none goes = absurd cc
row-moves m dir frozen node got cause.Read state.Modified true moves is none goes = absurd cc
row-moves m dir frozen node got cause.Read state.Empty here moves is none goes = absurd cc
row-moves m dir frozen node got cause.Read state.Present1 here moves is none goes = absurd cc
row-moves m dir frozen node got cause.Read state.PresentPlus here moves is none goes = absurd cc
row-moves m dir frozen node got cause.Write state.Modified false true is none goes = λ e. absurd cc
row-moves m dir frozen node got cause.Write state.Modified false false is none goes = absurd cc
row-moves m dir frozen node got cause.Write state.Modified true moves is none goes = absurd cc
row-moves m dir frozen node got cause.Write state.Empty here moves is none goes = absurd cc
row-moves m dir frozen node got cause.Write state.Present1 here moves is none goes = absurd cc
row-moves m dir frozen node got cause.Write state.PresentPlus here moves is none goes = absurd cc
row-moves m dir frozen node got cause.Thaw st here moves is none goes = λ e. absurd cc

row-copies :
    (m : Machine) (dir : Dir) (frozen : Bool) (node : ℕ) (got : Option Frame) (c : Cause) (st : State) (here moves : Bool) →
    st ≡ state.Modified → copies_words (row_does m (row_of c st here moves) dir frozen node got).action ≡ true →
    (row_does m (row_of c st here moves) dir frozen node got).removed ≢ removed.Nothing
row-copies m dir frozen node got cause.Read state.Modified false true is copies = λ e. absurd cc
row-copies m dir frozen node got cause.Read state.Modified false false is copies = absurd cc
row-copies m dir frozen node got cause.Read state.Modified true moves is copies = absurd cc
row-copies m dir frozen node got cause.Read state.Empty here moves is copies = absurd cc
row-copies m dir frozen node got cause.Read state.Present1 here moves is copies = absurd cc
row-copies m dir frozen node got cause.Read state.PresentPlus here moves is copies = absurd cc
row-copies m dir frozen node got cause.Write state.Modified false true is copies = λ e. absurd cc
row-copies m dir frozen node got cause.Write state.Modified false false is copies = absurd cc
row-copies m dir frozen node got cause.Write state.Modified true moves is copies = absurd cc
row-copies m dir frozen node got cause.Write state.Empty here moves is copies = absurd cc
row-copies m dir frozen node got cause.Write state.Present1 here moves is copies = absurd cc
row-copies m dir frozen node got cause.Write state.PresentPlus here moves is copies = absurd cc
row-copies m dir frozen node got cause.Thaw st here moves is copies = λ e. absurd cc

-- ---- decisions on a modified page

-- a frame is got for a page with copies only where it moves
fits-moves :
    (m : Machine) (empty on : Bool) (node : ℕ) (f : Frame) → empty ≡ false →
    (if empty then is_some_frame m (Some f) else if on then is_frame_on m node (Some f) else is_none (Some f)) ≡ true → on ≡ true
fits-moves m true on node f some fits = absurd cc
fits-moves m false true node f some fits = refl
fits-moves m false false node f some fits = absurd cc

none-not_some : {A : Type 0} (o : Option A) → is_none o ≡ true → is_some o ≡ false
none-not_some None h = refl
none-not_some (Some x) h = absurd cc

module _ (m : Machine) (answer : Answer) (dir : Dir) (last : Option ℕ) (now node : ℕ) (f : Frame)
    (modified : dir.state ≡ state.Modified) where
  -- the page has no copy on the node
  abbrev away : Bool
  away = is_none (copy_on node dir.copies)

  -- and the verdict is to move it
  abbrev goes : Bool
  goes = same_verdict (answer dir last now) verdict.Move

  moved :
      (c : Cause) → (not (is_empty dir.state) && away && goes) ≡ true →
      (decide m answer dir last now node c (Some f)).removed ≢ removed.Nothing
  moved c on =
      let parts = three (not (is_empty dir.state)) away goes on in
      row-moves m dir (frozen_after (asks c dir node) (answer dir last now) dir.frozen) node (Some f) c dir.state
      (is_some (copy_on node dir.copies)) (moves_page (answer dir last now) (Some f)) modified
      (none-not_some (copy_on node dir.copies) parts.0) (ap (λ b. b && true) parts.1)
    where
      three : (b c d : Bool) → (b && c && d) ≡ true → (c ≡ true) × (d ≡ true)
      three true true d h = (refl, h)
      three true false d h = absurd cc
      three false c d h = absurd cc

  filled : is_empty dir.state ≡ false
  filled = ap is_empty modified

  asked : (a b c : Bool) → ((a && b) && c) ≡ true → (a && b && c) ≡ true
  asked true b c h = h
  asked false b c h = absurd cc

  -- with a frame in hand something is removed
  decided-got :
      (c : Cause) → may_decide m answer dir last now node c (Some f) ≡ true →
      (decide m answer dir last now node c (Some f)).removed ≢ removed.Nothing
  decided-got cause.Read may =
      let fits = (and_parts (is_dir m dir) (fits_cause m answer dir last now node cause.Read (Some f)) may).1 in
      moved cause.Read
      (asked (not (is_empty dir.state)) away goes
      (fits-moves m (is_empty dir.state) (asks cause.Read dir node && goes) node f filled fits))
  decided-got cause.Write may =
      let fits = (and_parts (is_dir m dir) (fits_cause m answer dir last now node cause.Write (Some f)) may).1 in
      moved cause.Write
      (asked (not (is_empty dir.state)) away goes
      (fits-moves m (is_empty dir.state) (asks cause.Write dir node && goes) node f filled fits))
  decided-got cause.Thaw may = λ e. absurd cc

decided-copies :
    (m : Machine) (answer : Answer) (dir : Dir) (last : Option ℕ) (now node : ℕ) (c : Cause) (got : Option Frame) →
    dir.state ≡ state.Modified → copies_words (decide m answer dir last now node c got).action ≡ true →
    (decide m answer dir last now node c got).removed ≢ removed.Nothing
decided-copies m answer dir last now node c got modified copies =
    row-copies m dir (frozen_after (asks c dir node) (answer dir last now) dir.frozen) node got c dir.state
    (is_some (copy_on node dir.copies)) (moves_page (answer dir last now) got) modified copies

-- ---- by phases

pub filled-quiet : (m : Machine) (w : ℕ) (ph : Phase) → w < words_filled m ph → is_quiet ph ≡ true
filled-quiet m w Stamping below = absurd (omega arith)
filled-quiet m w (Seeking st i) below = absurd (omega arith)
filled-quiet m w (Taking st i seen) below = absurd (omega arith)
filled-quiet m w Returning below = absurd (omega arith)
filled-quiet m w (Shooting c shot) below = absurd (omega arith)
filled-quiet m w (Filling c k) below = refl
filled-quiet m w (Reading c k) below = refl
filled-quiet m w (Copying c k seen) below = refl
filled-quiet m w (Giving c k) below = refl
filled-quiet m w (Storing c) below = refl
filled-quiet m w (Granting c) below = refl
filled-quiet m w (Unlocking c) below = refl

pub copied-quiet : (y : ℕ × ℕ) (ph : Phase) → word_copied ph ≡ Some y → is_quiet ph ≡ true
copied-quiet y Stamping read = absurd cc
copied-quiet y (Seeking st i) read = absurd cc
copied-quiet y (Taking st i seen) read = absurd cc
copied-quiet y Returning read = absurd cc
copied-quiet y (Shooting c shot) read = absurd cc
copied-quiet y (Filling c k) read = absurd cc
copied-quiet y (Reading c k) read = absurd cc
copied-quiet y (Copying c k seen) read = refl
copied-quiet y (Giving c k) read = absurd cc
copied-quiet y (Storing c) read = absurd cc
copied-quiet y (Granting c) read = absurd cc
copied-quiet y (Unlocking c) read = absurd cc

module _ (m : Machine) (answer : Answer) (a : ℕ) (p : Private) (x : Session) (modified : x.dir.state ≡ state.Modified) where
  abbrev removes : Phase → Removed
  removes ph = option_map_or (λ c. (decision_of m answer a p.now x c).removed) (course_of ph) removed.Nothing

  by-course : (f : Frame) (c : Course) → CourseOk m answer a p x c → c.got ≡ Some f →
      (decision_of m answer a p.now x c).removed ≢ removed.Nothing
  by-course f c ok got =
      let may : may_decide m answer x.dir c.stamp.last p.now a x.fault.cause c.got ≡ true = ok.may in
      let with_it : may_decide m answer x.dir c.stamp.last p.now a x.fault.cause (Some f) ≡ true =
      ap (λ o. may_decide m answer x.dir c.stamp.last p.now a x.fault.cause o) (sym got) ∙ may in
      λ none. decided-got m answer x.dir c.stamp.last p.now a f modified x.fault.cause with_it
      (ap (λ o. (decide m answer x.dir c.stamp.last p.now a x.fault.cause o).removed) (sym got) ∙ none)

  pub hand-removes :
      (f : Frame) (ph : Phase) → PhaseOk m answer a p x ph → option_map_or (λ (c : Course). c.got) (course_of ph) None ≡ Some f →
      is_quiet ph ≡ true → removes ph ≢ removed.Nothing
  hand-removes f Stamping ok got quiet = absurd cc
  hand-removes f (Seeking st i) ok got quiet = absurd cc
  hand-removes f (Taking st i seen) ok got quiet = absurd cc
  hand-removes f Returning ok got quiet = absurd cc
  hand-removes f (Shooting c shot) ok got quiet = absurd cc
  hand-removes f (Filling c k) ok got quiet = by-course f c ok.quiet.course got
  hand-removes f (Reading c k) ok got quiet = by-course f c ok.quiet.course got
  hand-removes f (Copying c k seen) ok got quiet = by-course f c ok.fills.quiet.course got
  hand-removes f (Giving c k) ok got quiet = by-course f c ok.quiet.course got
  hand-removes f (Storing c) ok got quiet = by-course f c ok.quiet.course got
  hand-removes f (Granting c) ok got quiet = by-course f c ok.stores.quiet.course got
  hand-removes f (Unlocking c) ok got quiet = by-course f c ok.quiet.course got

  pub copied-removes :
      (y : ℕ × ℕ) (ph : Phase) → PhaseOk m answer a p x ph → word_copied ph ≡ Some y → removes ph ≢ removed.Nothing
  copied-removes y Stamping ok read = absurd cc
  copied-removes y (Seeking st i) ok read = absurd cc
  copied-removes y (Taking st i seen) ok read = absurd cc
  copied-removes y Returning ok read = absurd cc
  copied-removes y (Shooting c shot) ok read = absurd cc
  copied-removes y (Filling c k) ok read = absurd cc
  copied-removes y (Reading c k) ok read = absurd cc
  copied-removes y (Copying c k seen) ok read =
      decided-copies m answer x.dir c.stamp.last p.now a x.fault.cause c.got modified ok.fills.action
  copied-removes y (Giving c k) ok read = absurd cc
  copied-removes y (Storing c) ok read = absurd cc
  copied-removes y (Granting c) ok read = absurd cc
  copied-removes y (Unlocking c) ok read = absurd cc
