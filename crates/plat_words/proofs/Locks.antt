-- words of directories: the lock is set, and a directory of the machine has a word of the machine
use Rattle.std.proofs.Common.{◌≡◌, ℕ, zero, suc, ◌+◌, ◌*◌, ◌^◌, ◌<◌, ◌≤◌, Bool, true, false, List, [], ◌∷◌, refl, ap, subst, sym, ◌∙◌}
use Rattle.std.proofs.Common.{arith}
use Rattle.std.specs.Prelude.{IsTrue, bit_or, ◌==◌, ◌&&◌}
use Rattle.std.specs.List.{list_all}
use Rattle.std.specs.Int.Bits.{or_zero_r}
use Rattle.std.proofs.lemmas.Nat.{or_block}
use Rattle.std.proofs.lemmas.Bool.Decides.{nat_tests}
use Rattle.plat_base.specs.Machine.{Machine}
use Rattle.plat_base.specs.Copies.{are_copies_from, AreCopies}
use Rattle.plat_base.specs.Decide.{is_dir, is_frame, modules_rise}
use Rattle.plat_base.specs.Alike.{state_number}
use Rattle.plat_base.specs.declared.frames.Frame.{Frame}
use Rattle.plat_base.specs.declared.frames.Dir.{Dir}
use Rattle.plat_base.specs.declared.frames.State.{State}
use Rattle.plat_base.specs.declared.frames.State.TheVariants.{Empty, Present1, PresentPlus, Modified}
use Rattle.plat_events.specs.Words.{packed, bit_if, copy_fields, dir_word, dir_read, is_locked}
use Rattle.plat_events.specs.Places.{is_dir_word}
use Rattle.plat_words.proofs.Directories.{dir_read-word, is_locked-word}

-- the copies of a directory of the machine
copies_fit :
    (m : Machine) (low : ℕ) (fs : List Frame) → m.nodes ≤ 8 → m.frames ≤ 64 → IsTrue (list_all (is_frame m) fs) →
    IsTrue (modules_rise low fs) → IsTrue (are_copies_from low fs)
copies_fit m low [] n f h k = refl
copies_fit m low (x ∷ xs) n f h k = grind (arith, nat_tests, copies_fit m (x.module + 1) xs)

pub AreCopies-dir : (m : Machine) (d : Dir) → m.nodes ≤ 8 → m.frames ≤ 64 → IsTrue (is_dir m d) → AreCopies d.copies
AreCopies-dir m d n f h = copies_fit m 0 d.copies n f (grind (arith, nat_tests)) (grind (arith, nat_tests))

-- ---- the lock is set

or_bit : (b : ℕ) → b < 2 → bit_or b 1 ≡ 1
or_bit zero h = refl
or_bit (suc zero) h = refl
or_bit (suc (suc b)) h = absurd (omega arith)

or_one : (n b : ℕ) → b < 2 → bit_or (n * 2 ^ 1 + b) 1 ≡ n * 2 ^ 1 + 1
or_one n b h =
    or_block 1 n 0 b 1 h (omega arith) ∙ ap (λ x. x * 2 ^ 1 + bit_or b 1) (or_zero_r n) ∙ ap (λ x. n * 2 ^ 1 + x) (or_bit b h)

bit_if-lt : (b : Bool) → bit_if b < 2
bit_if-lt true = omega arith
bit_if-lt false = omega arith

state_number-lt : (s : State) → state_number s < 4
state_number-lt Empty = omega arith
state_number-lt Present1 = omega arith
state_number-lt PresentPlus = omega arith
state_number-lt Modified = omega arith

-- bit 3 of a number with so small a rest below it
or_eight : (high b low : ℕ) → b < 2 → low < 8 → bit_or (low + 8 * (b + 2 * high)) 8 ≡ low + 8 * (1 + 2 * high)
or_eight high b low h k =
    let turned : low + 8 * (b + 2 * high) ≡ (high * 2 ^ 1 + b) * 2 ^ 3 + low = omega arith in
    let blocks : bit_or ((high * 2 ^ 1 + b) * 2 ^ 3 + low) 8 ≡ bit_or (high * 2 ^ 1 + b) 1 * 2 ^ 3 + bit_or low 0 =
    or_block 3 (high * 2 ^ 1 + b) 1 low 0 k (omega arith) in
    let one : bit_or (high * 2 ^ 1 + b) 1 ≡ high * 2 ^ 1 + 1 = or_one high b h in
    let none : bit_or low 0 ≡ low = or_zero_r low in
    ap (λ x. bit_or x 8) turned ∙ blocks ∙ omega (arith, one, none)

pub dir_word-locked : (d : Dir) (locked : Bool) → bit_or (dir_word d locked) 8 ≡ dir_word d true
unfolding dir_word
dir_word-locked d locked =
    let copies : ℕ = packed (copy_fields d.copies) in let low : ℕ = state_number d.state + 4 * bit_if d.frozen in
    let before : dir_word d locked ≡ low + 8 * (bit_if locked + 2 * (16 * copies)) = omega arith in
    let after : low + 8 * (1 + 2 * (16 * copies)) ≡ dir_word d true = omega arith in
    let small : low < 8 = omega (arith, state_number-lt d.state, bit_if-lt d.frozen) in
    ap (λ x. bit_or x 8) before ∙ or_eight (16 * copies) (bit_if locked) low (bit_if-lt locked) small ∙ after

-- ---- words of the machine

-- what is read of the word of a directory of the machine
pub record IsRead (m : Machine) (n : ℕ) : Type 0 where
  pub dir : IsTrue (is_dir m (dir_read n))
  pub back : dir_word (dir_read n) (is_locked n) ≡ n

pub dir_word_read : (m : Machine) (n : ℕ) → IsTrue (is_dir_word m n) → IsRead m n
dir_word_read m n h = record { dir = grind (arith, nat_tests); back = grind (arith, nat_tests) }

same_and : (n : ℕ) (b : Bool) → IsTrue b → IsTrue (n == n && b)
same_and n b h = grind (arith, nat_tests)

pub is_dir_word-dir :
    (m : Machine) (d : Dir) (locked : Bool) → m.nodes ≤ 8 → m.frames ≤ 64 → IsTrue (is_dir m d) →
    IsTrue (is_dir_word m (dir_word d locked))
is_dir_word-dir m d locked n f h =
    let copies = AreCopies-dir m d n f h in
    let dir : dir_read (dir_word d locked) ≡ d = dir_read-word d locked copies in
    let lock : is_locked (dir_word d locked) ≡ locked = is_locked-word d locked copies in
    subst (λ x. IsTrue (dir_word x (is_locked (dir_word d locked)) == dir_word d locked && is_dir m x)) (sym dir)
    (subst (λ y. IsTrue (dir_word d y == dir_word d locked && is_dir m d)) (sym lock) (same_and (dir_word d locked) (is_dir m d) h))

-- the lock is set, and the directory stays
pub locked_word :
    (m : Machine) (n : ℕ) → m.nodes ≤ 8 → m.frames ≤ 64 → IsTrue (is_dir_word m n) →
    (dir_read (bit_or n 8) ≡ dir_read n) × (is_locked (bit_or n 8) ≡ true) × IsTrue (is_dir_word m (bit_or n 8))
locked_word m n g f h =
    let r = dir_word_read m n h in
    let copies = AreCopies-dir m (dir_read n) g f r.dir in
    let set : bit_or n 8 ≡ dir_word (dir_read n) true = ap (λ x. bit_or x 8) (sym r.back) ∙ dir_word-locked (dir_read n) (is_locked n) in (
      ap dir_read set ∙ dir_read-word (dir_read n) true copies,
      ap is_locked set ∙ is_locked-word (dir_read n) true copies,
      subst (λ x. IsTrue (is_dir_word m x)) (sym set) (is_dir_word-dir m (dir_read n) true g f r.dir),
    )
