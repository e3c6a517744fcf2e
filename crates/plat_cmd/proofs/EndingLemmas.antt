-- how commands end: the status of what was written, of a run, and of a command that stopped
use Rattle.std.proofs.Common.{◌≡◌, ◌≢◌, ◌⊎◌, inl, inr, ℕ, suc, ◌<◌, ◌≤◌, leb, ◌&&◌, true, false, Bool, List, [], ◌∷◌, length, arith, refl}
use Rattle.std.proofs.Common.{sym, ap, ◌∙◌, ⊎_elim, if◌then◌else◌}
use Rattle.std.specs.Prelude.{Result, Ok, Err, IfSome, slice_index_or}
use Rattle.std.proofs.lemmas.Bool.{cases_Bool, leb-true, leb-false, true≢false}
use Rattle.std.specs.List.{list_any}
use Rattle.plat_base.specs.Alike.{same_end}
use Rattle.plat_base.specs.Ends.{cut_at, ended_of}
use Rattle.plat_base.specs.Machine.{Machine}
use Rattle.plat_base.specs.Runs.{IsCoherentRun, GuestsEnd}
use Rattle.plat_base.specs.Verdicts.{Answer, policy_answer}
use Rattle.plat_base.specs.Statuses.{status_of, ends_as, is_silent, refusal_of}
use Rattle.plat_base.specs.declared.endings.End.{End}
use Rattle.plat_base.specs.declared.endings.End.TheVariants as end
use Rattle.plat_base.specs.declared.endings.Ended.{Ended}
use Rattle.plat_base.specs.declared.faults.Refused.{Refused}
use Rattle.plat_base.specs.declared.items.Item.{Item}
use Rattle.plat_base.specs.declared.statuses.Status.{Status}
use Rattle.plat_base.specs.declared.statuses.Status.TheVariants as status
use Rattle.plat_io.specs.Adds.{Adds}
use Rattle.plat_io.specs.declared.faults.WriteFault.{WriteFault}
use Rattle.plat_io.specs.declared.sinks.Sink.{Ghosts}
use Rattle.plat_base.specs.declared.statuses.Bad.{Bad}
use Rattle.plat_cmd.specs.Works.{ends_of, is_limited, IsWritten, IsOrWriteFault, bad_of, IsDoneWithMemory, LacksFrames, ReachesLimit}
use Rattle.plat_cmd.specs.Steps.{status_after}
use Rattle.plat_cmd.specs.declared.words.Grain.{Grain}
use Rattle.plat_cmd.specs.declared.words.Grain.TheVariants as grain

-- ---- writing

-- what a writing adds, told by the status that it leaves
pub written_by :
    {K : Type 0} (sink : Ghosts K) (old new : K) (writing : Result (Unit {0}) WriteFault) (bytes : List ℕ) (complete now : Status)
    → complete ≢ status.WriteFault → now ≡ status_after complete writing → Adds sink old new writing bytes →
    IsWritten sink old new now bytes
written_by sink old new (Ok u) bytes complete now other is adds = record {
  whole = λ differs. adds.whole;
  part = λ fault. absurd (other (sym is ∙ fault));
  risen = λ fault. absurd (other (sym is ∙ fault));
  count = adds.count;
  size = adds.size;
}
written_by sink old new (Err e) bytes complete now other is adds = record {
  whole = λ differs. absurd (differs is);
  part = λ fault. adds.part;
  risen = λ fault. adds.risen;
  count = adds.count;
  size = adds.size;
}

pub ended_by : (writing : Result (Unit {0}) WriteFault) (complete now : Status) → now ≡ status_after complete writing →
    IsOrWriteFault complete now
ended_by (Ok u) complete now is = inl is
ended_by (Err e) complete now is = inr is

-- ---- the status of a run

-- the statuses of runs: done, spent, no frames, and the limit of events
abbrev pub is_run_status : Status → Bool
is_run_status status.Done = true
is_run_status (status.HistoryBad bad) = false
is_run_status (status.Refused refused) = false
is_run_status status.NoFrames = true
is_run_status status.Spent = true
is_run_status status.EventLimit = true
is_run_status status.ReadFault = false
is_run_status status.WriteFault = false
is_run_status status.OutOfMemory = false
is_run_status status.BadWords = false

pub run_status : (ends : List Ended) (limit : Bool) → is_run_status (status_of ends limit) ≡ true
run_status ends limit = by (limit && ends_as end.Cut ends) (ends_as end.NoFrames ends) (ends_as end.Spent ends)
  where
    by : (cut starved spent : Bool)
        → is_run_status (if cut then status.EventLimit else if starved then status.NoFrames else if spent then status.Spent
        else status.Done) ≡ true
    by true starved spent = refl
    by false true spent = refl
    by false false true = refl
    by false false false = refl

pub no_write_fault : (ends : List Ended) (limit : Bool) → status_of ends limit ≢ status.WriteFault
no_write_fault ends limit is = true≢false (sym (run_status ends limit) ∙ ap is_run_status is)

-- a run that is not limited does not end at a limit
pub unlimited_status : (ends : List Ended) → status_of ends false ≢ status.EventLimit
unlimited_status ends = by (ends_as end.NoFrames ends) (ends_as end.Spent ends)
  where
    by : (starved spent : Bool) → (if starved then status.NoFrames else if spent then status.Spent else status.Done) ≢ status.EventLimit
    by true spent is = cc
    by false true is = cc
    by false false is = cc

pub silent_run : (s : Status) → is_run_status s ≡ true → is_silent s ≡ false
silent_run status.Done h = refl
silent_run (status.HistoryBad bad) h = absurd cc
silent_run (status.Refused refused) h = absurd cc
silent_run status.NoFrames h = refl
silent_run status.Spent h = refl
silent_run status.EventLimit h = refl
silent_run status.ReadFault h = absurd cc
silent_run status.WriteFault h = refl
silent_run status.OutOfMemory h = absurd cc
silent_run status.BadWords h = absurd cc

-- no refusal is told where something may be written
pub told_no_refusal : (s : Status) (P : Refused → Type 0) → is_silent s ≡ false → IfSome (refusal_of s) P
told_no_refusal status.Done P h = tt
told_no_refusal (status.HistoryBad bad) P h = tt
told_no_refusal (status.Refused refused) P h = absurd cc
told_no_refusal status.NoFrames P h = tt
told_no_refusal status.Spent P h = tt
told_no_refusal status.EventLimit P h = tt
told_no_refusal status.ReadFault P h = tt
told_no_refusal status.WriteFault P h = tt
told_no_refusal status.OutOfMemory P h = tt
told_no_refusal status.BadWords P h = tt

-- nothing is told to be bad where something may be written
pub told_no_bad : (s : Status) (P : Bad → Type 0) → is_silent s ≡ false → IfSome (bad_of s) P
told_no_bad status.Done P h = tt
told_no_bad (status.HistoryBad bad) P h = absurd cc
told_no_bad (status.Refused refused) P h = tt
told_no_bad status.NoFrames P h = tt
told_no_bad status.Spent P h = tt
told_no_bad status.EventLimit P h = tt
told_no_bad status.ReadFault P h = tt
told_no_bad status.WriteFault P h = tt
told_no_bad status.OutOfMemory P h = tt
told_no_bad status.BadWords P h = tt

-- ---- a run whose guests end is done, or lacks frames

none_of : {X : Type 0} (p : X → Bool) (d : X) (xs : List X) → ((i : ℕ) → i < length xs → p (slice_index_or xs i d) ≡ false) →
    list_any p xs ≡ false
none_of p d [] h = refl
none_of p d (x ∷ xs) h = rw (h 0 (omega arith)) (none_of p d xs (λ i l. h (suc i) (omega arith)))

not_spent : (e : End) → e ≢ end.Spent → same_end e end.Spent ≡ false
not_spent end.Halted h = refl
not_spent end.Trapped h = refl
not_spent end.Spent h = absurd (h refl)
not_spent end.NoFrames h = refl
not_spent end.Cut h = refl

not_starved : (e : End) → e ≢ end.NoFrames → same_end e end.NoFrames ≡ false
not_starved end.Halted h = refl
not_starved end.Trapped h = refl
not_starved end.Spent h = refl
not_starved end.NoFrames h = absurd (h refl)
not_starved end.Cut h = refl

pub done_status : (starved spent : Bool) → starved ≡ false → spent ≡ false →
    (if starved then status.NoFrames else if spent then status.Spent else status.Done) ≡ status.Done
done_status true spent h k = absurd cc
done_status false true h k = absurd cc
done_status false false h k = refl

starved_status : (starved spent : Bool) → spent ≡ false
    → ((if starved then status.NoFrames else if spent then status.Spent else status.Done) ≡ status.Done)
    ⊎ ((if starved then status.NoFrames else if spent then status.Spent else status.Done) ≡ status.NoFrames)
starved_status true spent k = inr refl
starved_status false true k = absurd cc
starved_status false false k = inl refl

module _ (m : Machine) (answer : Answer) (items : List Item) (ends : List Ended) (run : IsCoherentRun m answer items ends)
    (guests : GuestsEnd m items) where
  none_spent : ends_as end.Spent ends ≡ false
  none_spent = none_of (λ (x : Ended). same_end x.end end.Spent) (cut_at 0) ends by
    where
      by : (q : ℕ) → q < length ends → same_end (ended_of ends q).end end.Spent ≡ false
      by q l = let inside : q < m.nodes = omega (arith, run.one.all_end, l) in
          not_spent (ended_of ends q).end (run.unspent q inside (guests q inside))

  none_starved : m.pages ≤ m.frames → ends_as end.NoFrames ends ≡ false
  none_starved enough = none_of (λ (x : Ended). same_end x.end end.NoFrames) (cut_at 0) ends by
    where
      by : (q : ℕ) → q < length ends → same_end (ended_of ends q).end end.NoFrames ≡ false
      by q l = let inside : q < m.nodes = omega (arith, run.one.all_end, l) in
          not_starved (ended_of ends q).end (run.framed enough q inside)

  pub uncut_status : (now : Status) → now ≡ status_of ends false → IsDoneWithMemory now ⊎ LacksFrames m now
  uncut_status now is =
      ⊎_elim (λ enough.
      inl (inl (is ∙ done_status (ends_as end.NoFrames ends) (ends_as end.Spent ends) (none_starved (leb-true m.pages m.frames enough))
      none_spent)))
      (λ few. ⊎_elim (λ done. inl (inl (is ∙ done))) (λ starved. inr (leb-false m.pages m.frames few, is ∙ starved))
      (starved_status (ends_as end.NoFrames ends) (ends_as end.Spent ends) none_spent)) (cases_Bool (leb m.pages m.frames))

  -- so is one that is limited, but where some end is cut
  limited_status : (now : Status) → now ≡ status_of ends true
      → IsDoneWithMemory now ⊎ LacksFrames m now ⊎ ((ends_as end.Cut ends ≡ true) × (now ≡ status.EventLimit))
  limited_status now = by (ends_as end.Cut ends) refl
    where
      by : (cut : Bool) → ends_as end.Cut ends ≡ cut → now ≡ (if cut then status.EventLimit else status_of ends false)
          → IsDoneWithMemory now ⊎ LacksFrames m now ⊎ ((ends_as end.Cut ends ≡ true) × (now ≡ status.EventLimit))
      by true cut is = inr (inr (cut, is))
      by false whole is = ⊎_elim (λ done. inl done) (λ few. inr (inl few)) (uncut_status now is)

pub finished_status : (g : Grain) (m : Machine) (items : List Item) → IsCoherentRun m (policy_answer m.policy) items (ends_of g m) →
    GuestsEnd m items → (now : Status)
    → now ≡ status_of (ends_of g m) (is_limited g) → IsDoneWithMemory now ⊎ LacksFrames m now ⊎ ReachesLimit g m now
finished_status grain.Coarse m items run guests now is =
    ⊎_elim (λ done. inl done) (λ few. inr (inl few))
    (uncut_status m (policy_answer m.policy) items (ends_of grain.Coarse m) run guests now is)
finished_status grain.Fine m items run guests now is =
    limited_status m (policy_answer m.policy) items (ends_of grain.Fine m) run guests now is
