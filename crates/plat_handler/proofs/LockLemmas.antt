-- the directory that a lock finds
use Rattle.std.proofs.Common.{◌≡◌, ℕ, ◌^◌, true, false, if◌then◌else◌, refl, arith}
use Rattle.std.specs.Prelude.{IsTrue, ◌==◌, ◌&&◌, not}
use Rattle.std.proofs.lemmas.Bool.Decides.{nat_tests}
use Rattle.plat_base.specs.Machine.{Machine}
use Rattle.plat_base.specs.Decide.{is_dir}
use Rattle.plat_events.specs.Words.{dir_read, dir_word, is_locked, lock_place, copies_read}
use Rattle.plat_events.specs.Places.{is_dir_word}
use Rattle.plat_events.specs.Sessions.{Fault, Returning, Stamping}
use Rattle.plat_words.specs.Encodings.{dir_encoded}
use Rattle.plat_words.proofs.Found.{dir_word_found, dir_encoded-found}
use Rattle.plat_handler.specs.Locks.{IsTaken, found_in}
use Rattle.plat_handler.specs.Phases.{answer_of}
use Rattle.plat_handler.specs.Stages.{Stage, Locks, Relocks, Runs, stage_after, stage_locked}
use Rattle.plat_handler.specs.declared.phases.Found.{Found}
use Rattle.plat_handler.specs.declared.phases.Found.TheVariants.{Nothing, Taken, Free}
use Rattle.plat_handler.proofs.FaultLemmas.{and_left, and_right}

-- the number of a directory is what it is written as
pub dir_encoded-lock : (m : Machine) (n : ℕ) → is_dir_word m n ≡ true → dir_encoded (dir_word_found n) ≡ n
dir_encoded-lock m n h =
    let same = and_left (dir_word (dir_read n) (is_locked n) == n) (is_dir m (dir_read n)) h in
    let e : dir_word (dir_read n) (is_locked n) ≡ n = grind (arith, nat_tests) in dir_encoded-found n e

pub is_dir-lock : (m : Machine) (n : ℕ) → is_dir_word m n ≡ true → IsTrue (is_dir m (dir_read n))
is_dir-lock m n h = and_right (dir_word (dir_read n) (is_locked n) == n) (is_dir m (dir_read n)) h

-- the word of a locked page that is empty
pub is_taken-first : (m : Machine) → IsTaken m (2 ^ lock_place)
unfolding dir_word copies_read
is_taken-first m = record { word = refl; locked = refl }

-- where a handler stands behind what its lock found
abbrev pub stage_found : Machine → (a : ℕ) → Fault → Found → Stage
stage_found m a fault Nothing = Locks fault
stage_found m a fault Taken = if a == m.nodes then Locks fault else Relocks fault
stage_found m a fault (Free dir) =
    Runs (record { fault = fault; dir = dir; phase = if a == m.nodes && not dir.frozen then Returning else Stamping })

pub stage-found :
    (m : Machine) (a now n : ℕ) (fault : Fault) (f : Found) → f ≡ found_in m n →
    stage_found m a fault f ≡ stage_after m (answer_of m) a now n (Locks fault)
stage-found m a now n fault f e = rw e (
    elim (is_dir_word m n) as (λ v. stage_found m a fault (if v then (if is_locked n then Taken else Free (dir_read n)) else Nothing)
    ≡ (if v then stage_locked m a fault n else Locks fault)) [
      | true ↦ (
          elim (is_locked n) as (λ v. stage_found m a fault (if v then Taken else Free (dir_read n))
          ≡ (if v then (if a == m.nodes then Locks fault else Relocks fault)
          else Runs (record { fault = fault; dir = dir_read n; phase = if a == m.nodes && not (dir_read n).frozen then Returning else Stamping }))) [
            | true ↦ refl
            | false ↦ refl
          ])
      | false ↦ refl
    ])
