-- a machine under two policies, computed: what both runs mean, that they differ in what they cost, and that with too few frames they
-- do not mean the same
use Rattle.std.specs.Prelude.{◌≡◌, ℕ, true, [], ◌∷◌, length, None, refl}
use Rattle.plat_base.specs.Machine.{Machine, robin, is_machine}
use Rattle.plat_base.specs.Schedule.{coarse_run}
use Rattle.plat_base.specs.Verdicts.{policy_answer}
use Rattle.plat_base.specs.declared.configs.Entry.{Entry}
use Rattle.plat_base.specs.declared.configs.Init.{Init}
use Rattle.plat_base.specs.declared.endings.End.{End}
use Rattle.plat_base.specs.declared.endings.End.TheVariants as end
use Rattle.plat_base.specs.declared.endings.Ended.{Ended}
use Rattle.plat_base.specs.declared.guests.Instr.TheVariants as instr
use Rattle.plat_base.specs.declared.items.Kind.TheVariants as kind
use Rattle.plat_base.specs.declared.policies.PolicyKind.TheVariants as policy
use Rattle.plat_policy_laws.specs.Meaning.{Accessed, Meaning, meaning}
use Rattle.plat_policy_laws.specs.FlatRun.{flat_run, flat_meaning}

abbrev entry : ℕ → ℕ → ℕ → Entry
entry space vpage page = record { space = space; vpage = vpage; page = page }

abbrev init : ℕ → ℕ → ℕ → Init
init page word value = record { page = page; word = word; value = value }

abbrev ended : End → ℕ → Ended
ended end turns = record { end = end; turns = turns }

-- both processors read a word, one adds to it, and the other reads another page before and the word again afterwards
abbrev readers : ℕ → Machine
readers frames = record {
  nodes = 2;
  frames = frames;
  words = 4;
  pages = 2;
  policy = policy.Place;
  budget = 10;
  schedule = robin;
  distances = [];
  entries = entry 0 0 0 ∷ entry 0 1 1 ∷ [];
  inits = init 0 0 5 ∷ init 1 0 7 ∷ [];
  guests =
      record {
        space = 0;
        code = instr.Load 1 0 None ∷ instr.Set 2 3 ∷ instr.Fadd 3 2 0 None ∷ instr.Halt ∷ [];
        labels = [];
      }
      ∷ record {
        space = 0;
        code = instr.Load 1 0 None ∷ instr.Load 2 4 None ∷ instr.Print 2 ∷ instr.Load 4 0 None ∷ instr.Halt ∷ [];
        labels = [];
      }
      ∷ [];
}

readers-is_machine : is_machine (readers 2) ≡ true
readers-is_machine = refl

-- ---- with a frame for each page

abbrev readers_meaning : Meaning
readers_meaning = record {
  items =
      Accessed 0 kind.Load 0 0 0 0 5 5 0
      ∷ Accessed 1 kind.Load 0 0 0 0 5 5 0
      ∷ Accessed 1 kind.Load 0 4 1 0 7 7 0
      ∷ Accessed 0 kind.Add 0 0 0 0 5 8 1
      ∷ Accessed 1 kind.Load 0 0 0 0 8 8 1
      ∷ [];
  guests =
      record {
        registers = 0 ∷ 5 ∷ 3 ∷ 5 ∷ 0 ∷ 0 ∷ 0 ∷ 0 ∷ 0 ∷ 0 ∷ 0 ∷ 0 ∷ 0 ∷ 0 ∷ 0 ∷ 0 ∷ [];
        at = 3;
        space = 0;
      }
      ∷ record {
        registers = 0 ∷ 5 ∷ 7 ∷ 0 ∷ 8 ∷ 0 ∷ 0 ∷ 0 ∷ 0 ∷ 0 ∷ 0 ∷ 0 ∷ 0 ∷ 0 ∷ 0 ∷ 0 ∷ [];
        at = 4;
        space = 0;
      }
      ∷ [];
  prints = [] ∷ (7 ∷ []) ∷ [];
  memory = (8 ∷ 0 ∷ 0 ∷ 0 ∷ []) ∷ (7 ∷ 0 ∷ 0 ∷ 0 ∷ []) ∷ [];
  ends = ended end.Halted 4 ∷ ended end.Halted 5 ∷ [];
}

place-meaning : meaning (readers 2) (coarse_run (readers 2) (policy_answer policy.Place)) ≡ readers_meaning
unfolding coarse_run
place-meaning = refl

replicate-meaning : meaning (readers 2) (coarse_run (readers 2) (policy_answer policy.Replicate)) ≡ readers_meaning
unfolding coarse_run
replicate-meaning = refl

flat-meaning : flat_meaning (readers 2) (flat_run (readers 2)) ≡ readers_meaning
unfolding flat_run
flat-meaning = refl

-- replicate changes pages five times where place does four times, and interrupts once
place-items : length (coarse_run (readers 2) (policy_answer policy.Place)).history ≡ 9
unfolding coarse_run
place-items = refl

replicate-items : length (coarse_run (readers 2) (policy_answer policy.Replicate)).history ≡ 11
unfolding coarse_run
replicate-items = refl

-- ---- with one frame on each module: under replicate the copy of the first page takes the frame that the other page needs

few-place : (coarse_run (readers 1) (policy_answer policy.Place)).ends ≡ ended end.Halted 4 ∷ ended end.Halted 5 ∷ []
unfolding coarse_run
few-place = refl

few-replicate : (coarse_run (readers 1) (policy_answer policy.Replicate)).ends ≡ ended end.Halted 4 ∷ ended end.NoFrames 2 ∷ []
unfolding coarse_run
few-replicate = refl
