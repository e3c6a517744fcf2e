-- the phases behind a shootdown, and those that follow them
use Rattle.std.specs.Prelude.{◌≡◌, ℕ, ◌≤◌, nat_lt, if◌then◌else◌, Bool, true, false, List, [], length, take, Some, None}
use Rattle.std.proofs.Common.{refl, sym, arith, subst}
use Rattle.std.proofs.lemmas.List.{take_all}
use Rattle.std.proofs.lemmas.Bool.{ltb-false}
use Rattle.plat_base.specs.Verdicts.{Answer}
use Rattle.plat_base.specs.Machine.{Machine}
use Rattle.plat_base.specs.declared.frames.Frame.{Frame}
use Rattle.plat_events.specs.Sessions.{Course, Filling, Reading, Copying, Giving, Storing, Session, decision_of, going, give_from}
use Rattle.plat_events.specs.Sessions.{fill_from, copy_from}
use Rattle.plat_frame_laws.specs.QuietPhases.{QuietPhase}

module _ (m : Machine) (answer : Answer) (a now : ℕ) (x : Session) (c : Course) where
  abbrev goes : List Frame
  goes = going x.dir (decision_of m answer a now x c)

  pub quiet-filling : (w : ℕ) → QuietPhase m answer a now x c (Filling c w) w None []
  quiet-filling w = search arith

  pub quiet-reading : (w : ℕ) → QuietPhase m answer a now x c (Reading c w) w None []
  quiet-reading w = search arith

  pub quiet-copying : (w seen : ℕ) → QuietPhase m answer a now x c (Copying c w seen) w (Some (w, seen)) []
  quiet-copying w seen = search arith

  pub quiet-giving : (k : ℕ) → QuietPhase m answer a now x c (Giving c k) m.words None (take k (going x.dir (decision_of m answer a now x
      c)))
  quiet-giving k = search arith

  quiet-storing : QuietPhase m answer a now x c (Storing c) m.words None (going x.dir (decision_of m answer a now x c))
  quiet-storing = search arith

  -- so many frames are given back, and the next one is, or the stamp is stored
  pub quiet-give_from :
      (k : ℕ) → k ≤ length (going x.dir (decision_of m answer a now x c)) →
      QuietPhase m answer a now x c (give_from m answer a now x c k) m.words None (take k (going x.dir (decision_of m answer a now x c)))
  quiet-give_from k most = by (nat_lt k (length goes)) refl
    where
      by : (b : Bool) → nat_lt k (length goes) ≡ b → QuietPhase m answer a now x c (if b then Giving c k else Storing c) m.words None
          (take k goes)
      by true left = quiet-giving k
      by false left =
          let all : length goes ≤ k = ltb-false k (length goes) left in
          subst (QuietPhase m answer a now x c (Storing c) m.words None) (sym (take_all k goes all)) quiet-storing

  -- so many words are filled, and the next one is, or the frames are given back
  pub quiet-fill_from :
      (w : ℕ) → w ≤ m.words → QuietPhase m answer a now x c (fill_from m answer a now x c w) w None []
  quiet-fill_from w most = by (nat_lt w m.words) refl
    where
      by : (b : Bool) → nat_lt w m.words ≡ b → QuietPhase m answer a now x c (if b then Filling c w else give_from m answer a now x c 0)
          w None []
      by true left = quiet-filling w
      by false left =
          let all : m.words ≡ w = let least = ltb-false w m.words left in omega arith in
          subst (λ n. QuietPhase m answer a now x c (give_from m answer a now x c 0) n None []) all (quiet-give_from 0 (omega arith))

  pub quiet-copy_from :
      (w : ℕ) → w ≤ m.words → QuietPhase m answer a now x c (copy_from m answer a now x c w) w None []
  quiet-copy_from w most = by (nat_lt w m.words) refl
    where
      by : (b : Bool) → nat_lt w m.words ≡ b → QuietPhase m answer a now x c (if b then Reading c w else give_from m answer a now x c 0)
          w None []
      by true left = quiet-reading w
      by false left =
          let all : m.words ≡ w = let least = ltb-false w m.words left in omega arith in
          subst (λ n. QuietPhase m answer a now x c (give_from m answer a now x c 0) n None []) all (quiet-give_from 0 (omega arith))
