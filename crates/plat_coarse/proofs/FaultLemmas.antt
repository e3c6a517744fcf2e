-- what a fault asks for and makes
use Rattle.std.proofs.Common.{◌≡◌, ◌≢◌, ℕ, ◌<◌, List, [], Bool, true, false, ◌&&◌, refl, ap, arith}
use Rattle.std.specs.Prelude.{None, Some, is_none, if◌then◌else◌}
use Rattle.std.proofs.lemmas.Bool.Decides.{nat_tests}
use Rattle.plat_base.specs.Verdicts.{Answer}
use Rattle.plat_base.specs.Machine.{Machine}
use Rattle.plat_base.specs.Directories.{dir_of, last_of}
use Rattle.plat_base.specs.Decide.{is_dir, is_empty, fits_cause}
use Rattle.plat_base.specs.Accesses.{access_by, cause_of}
use Rattle.plat_base.specs.Frames.{got_frame, is_starved}
use Rattle.plat_base.specs.Coarse.{Coarse}
use Rattle.plat_base.specs.Turns.{decided, made, fault_items, fault_made}
use Rattle.plat_base.specs.GuestRun.{Reach}
use Rattle.plat_base.specs.Flat.{flat_value, flat_writes}
use Rattle.plat_base.specs.Rules.{is_legal}
use Rattle.plat_base.specs.declared.frames.Frame.{Frame}
use Rattle.plat_base.specs.declared.items.Cause.{Cause}
use Rattle.plat_base.specs.declared.items.Cause.TheVariants as cause
use Rattle.plat_base.specs.declared.items.Access.{Access}
use Rattle.plat_base.specs.declared.items.Item.{Item}
use Rattle.plat_base.specs.declared.items.Item.TheVariants as item
use Rattle.plat_base.specs.declared.endings.End.TheVariants as end
use Rattle.plat_base.specs.declared.policies.Decision.{Decision}
use Rattle.plat_coarse_laws.proofs.FrameLaws.{got_fits}
use Rattle.plat_laws.proofs.Limits.{and-right}
use Rattle.plat_coarse.specs.Reached.{decided_if_fed}

-- a fault that got no frame for an empty page is starved
pub starved-got : (m : Machine) (answer : Answer) (items : List Item) (q p now : ℕ) (c : Cause)
    → (is_empty (dir_of items p).state && is_none (got_frame m answer items q p now c)) ≡ is_starved m items q p
starved-got m answer items q p now c = by (is_empty (dir_of items p).state) refl where
  by : (v : Bool) → is_empty (dir_of items p).state ≡ v
      → (is_empty (dir_of items p).state && is_none (got_frame m answer items q p now c)) ≡ is_starved m items q p
  by true e = rw e refl
  by false e = rw e refl

pub fits-fed : (m : Machine) (answer : Answer) (items : List Item) (q p now : ℕ) (c : Cause)
    → is_dir m (dir_of items p) ≡ true → q < m.nodes → is_starved m items q p ≡ false → c ≢ cause.Thaw
    → fits_cause m answer (dir_of items p) (last_of items p) now q c (got_frame m answer items q p now c) ≡ true
fits-fed m answer items q p now c dir node fed fault =
    and-right (is_dir m (dir_of items p)) _ (got_fits m answer items q p now c dir node fed fault)

pub decided-fed : (m : Machine) (answer : Answer) (items : List Item) (q p now : ℕ) (c : Cause)
    → is_starved m items q p ≡ false → decided_if_fed m answer items q p now c ≡ Some (decided m answer items q p now c)
decided-fed m answer items q p now c fed = rw fed refl

-- what a fault makes that has its decision
pub fault_made-decided : (m : Machine) (answer : Answer) (s : Coarse) (q now entry : ℕ) (r : Reach) (d : Decision)
    → decided_if_fed m answer s.history q r.page now (cause_of r.kind) ≡ Some d
    → fault_items m s q now entry r d ≡ (fault_made m answer s q now entry r).items
fault_made-decided m answer s q now entry r d = by (is_starved m s.history q r.page) where
  got : Decision
  got = decided m answer s.history q r.page now (cause_of r.kind)

  by : (v : Bool) → (if v then None else Some got) ≡ Some d
      → fault_items m s q now entry r d ≡ (if v then made [] end.NoFrames else made (fault_items m s q now entry r got) end.Cut).items
  by true is = absurd cc
  by false is = let same : d ≡ got = cc in ap (fault_items m s q now entry r) same

-- ---- the access behind a fault is one of flat memory

-- an access of flat memory as it was is one as it is, where the words have the same values and numbers of writes
pub legal-still : (m : Machine) (items more : List Item) (q : ℕ) (r : Reach) (frame : Frame) (grant : ℕ) (a : Access)
    → item.Access a ≡ access_by m items q r frame grant → r.page < m.pages → r.word < m.words
    → flat_value m more r.page r.word ≡ flat_value m items r.page r.word → flat_writes more r.page r.word ≡ flat_writes items r.page r.word
    → is_legal m more a ≡ true
legal-still m items more q r frame grant a is page word value writes = grind (arith, nat_tests)
