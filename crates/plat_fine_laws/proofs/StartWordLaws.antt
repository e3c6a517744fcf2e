-- the words at the start, each by its name
use Rattle.std.specs.Prelude.{◌≡◌, ℕ, zero, suc, ◌+◌, ◌-◌, ◌*◌, ◌^◌, ◌<◌, true, List, [], ◌∷◌, ◌++◌, map, replicate, length, slice_index}
use Rattle.std.specs.Prelude.{IsTrue}
use Rattle.std.proofs.Common.{refl, ap, sym, ◌∙◌, arith}
use Rattle.std.proofs.lemmas.Bool.Decides.{nat_tests}
use Rattle.std.proofs.lemmas.Nat.{pow_pos}
use Rattle.std.proofs.Math.Nat.{pow-suc}
use Rattle.std.proofs.lemmas.List.{append_assoc, append-nil, length-append, length-replicate, get_or-append-add, get_or_append_left}
use Rattle.std.proofs.lemmas.List.{get_or-replicate}
use Rattle.std.proofs.lemmas.List.FromFn.{length-map-range_with_len, get_or-map-range_with_len}
use Rattle.plat_base.specs.Machine.{Machine}
use Rattle.plat_base.specs.Pages.{numbers, program_of}
use Rattle.plat_base.specs.Directories.{empty_dir}
use Rattle.plat_base.specs.declared.limits.TheConstants.{SPACES}
use Rattle.plat_base.specs.declared.words.WordName.{WordName}
use Rattle.plat_base.specs.declared.words.WordName.TheVariants.{Time, Live, Act, Intr, Dir, Stamp, Cmap, Pool, Memory}
use Rattle.plat_base.proofs.LimitLemmas.{at_program}
use Rattle.plat_events.specs.Words.{has_bit, packed, dir_word, dir_read, copies_read}
use Rattle.plat_events.specs.Places.{entry_count, word_count, place_of, is_name, first_words, is_word, is_dir_word}
use Rattle.plat_events.specs.Kept.{word_at}
use Rattle.plat_events.specs.Runs.{fine_start}
use Rattle.plat_laws.specs.Guests.{IsWithinLimits}
use Rattle.plat_words.proofs.SingleBits.{bits_between, has_bit-within}
use Rattle.plat_words.proofs.PlacesApart.{place_of-below}

-- ---- lists in blocks

behind : (xs ys : List ℕ) (k i : ℕ) → k ≡ length xs + i → slice_index (xs ++ ys) k ≡ slice_index ys i
behind xs ys k i same = ap (slice_index (xs ++ ys)) same ∙ get_or-append-add xs ys i 0

inside : (n v : ℕ) (ys : List ℕ) (i : ℕ) → i < n → slice_index (replicate n v ++ ys) i ≡ v
inside n v ys i below =
    get_or_append_left (replicate n v) ys 0 i (omega (arith, length-replicate n v)) ∙ get_or-replicate n i v 0 below

-- ---- the blocks of the words

abbrev first_two : Machine → List ℕ
first_two m = 0 ∷ m.nodes ∷ []

abbrev first_acts : Machine → List ℕ
first_acts m = map (λ q. (program_of m q).space + 1) (numbers m.nodes)

abbrev memories : Machine → List ℕ
memories m = replicate (m.nodes * m.frames * m.words) 0

abbrev from_pools : Machine → List ℕ
from_pools m = replicate m.nodes (2 ^ m.frames - 1) ++ memories m

abbrev from_masks : Machine → List ℕ
from_masks m = replicate (entry_count m) 0 ++ from_pools m

abbrev from_stamps : Machine → List ℕ
from_stamps m = replicate m.pages 0 ++ from_masks m

abbrev from_dirs : Machine → List ℕ
from_dirs m = replicate m.pages 0 ++ from_stamps m

abbrev from_interrupts : Machine → List ℕ
from_interrupts m = replicate m.nodes 0 ++ from_dirs m

abbrev from_acts : Machine → List ℕ
from_acts m = first_acts m ++ from_interrupts m

length-acts : (m : Machine) → length (first_acts m) ≡ m.nodes
length-acts m = length-map-range_with_len (λ q. (program_of m q).space + 1) 0 m.nodes

regrouped :
    (a b c d e f g : List ℕ) → (((((a ++ b) ++ c) ++ d) ++ e) ++ f) ++ g ≡ a ++ (b ++ (c ++ (d ++ (e ++ (f ++ g)))))
regrouped a b c d e f g = simp append_assoc

in_blocks : (m : Machine) → first_words m ≡ first_two m ++ from_acts m
in_blocks m =
    ap (λ l. 0 ∷ m.nodes ∷ l)
    (regrouped (first_acts m) (replicate m.nodes 0) (replicate m.pages 0) (replicate m.pages 0) (replicate (entry_count m) 0)
    (replicate m.nodes (2 ^ m.frames - 1)) (memories m))

at_acts : (m : Machine) (k i : ℕ) → k ≡ 2 + i → slice_index (first_words m) k ≡ slice_index (from_acts m) i
at_acts m k i same = ap (λ ws. slice_index ws k) (in_blocks m) ∙ behind (first_two m) (from_acts m) k i same

at_interrupts : (m : Machine) (k i : ℕ) → k ≡ 2 + m.nodes + i → slice_index (first_words m) k ≡ slice_index (from_interrupts m) i
at_interrupts m k i same =
    at_acts m k (m.nodes + i) (omega arith)
    ∙ behind (first_acts m) (from_interrupts m) (m.nodes + i) i (omega (arith, length-acts m))

at_dirs : (m : Machine) (k i : ℕ) → k ≡ 2 + 2 * m.nodes + i → slice_index (first_words m) k ≡ slice_index (from_dirs m) i
at_dirs m k i same =
    at_interrupts m k (m.nodes + i) (omega arith)
    ∙ behind (replicate m.nodes 0) (from_dirs m) (m.nodes + i) i (omega (arith, length-replicate {A = ℕ} m.nodes 0))

at_stamps : (m : Machine) (k i : ℕ) → k ≡ 2 + 2 * m.nodes + m.pages + i → slice_index (first_words m) k ≡ slice_index (from_stamps m) i
at_stamps m k i same =
    at_dirs m k (m.pages + i) (omega arith)
    ∙ behind (replicate m.pages 0) (from_stamps m) (m.pages + i) i (omega (arith, length-replicate {A = ℕ} m.pages 0))

at_masks : (m : Machine) (k i : ℕ) → k ≡ 2 + 2 * m.nodes + 2 * m.pages + i → slice_index (first_words m) k ≡ slice_index (from_masks m) i
at_masks m k i same =
    at_stamps m k (m.pages + i) (omega arith)
    ∙ behind (replicate m.pages 0) (from_masks m) (m.pages + i) i (omega (arith, length-replicate {A = ℕ} m.pages 0))

at_pools :
    (m : Machine) (k i : ℕ) → k ≡ 2 + 2 * m.nodes + 2 * m.pages + entry_count m + i →
    slice_index (first_words m) k ≡ slice_index (from_pools m) i
at_pools m k i same =
    at_masks m k (entry_count m + i) (omega arith)
    ∙ behind (replicate (entry_count m) 0) (from_pools m) (entry_count m + i) i (omega (arith, length-replicate {A = ℕ} (entry_count m) 0))

at_memories :
    (m : Machine) (k i : ℕ) → k ≡ 2 + 3 * m.nodes + 2 * m.pages + entry_count m + i →
    slice_index (first_words m) k ≡ slice_index (memories m) i
at_memories m k i same =
    at_pools m k (m.nodes + i) (omega arith)
    ∙ behind (replicate m.nodes (2 ^ m.frames - 1)) (memories m) (m.nodes + i) i (omega (
      arith,
      length-replicate {A = ℕ} m.nodes
          (2 ^ m.frames - 1),
    ))

pub first_words-length : (m : Machine) → length (first_words m) ≡ word_count m
first_words-length m =
    let rest : length (from_acts m) ≡ length (first_acts m) + length (from_interrupts m) = length-append (first_acts m)
    (from_interrupts m) in
    let a = length-append (replicate m.nodes 0) (from_dirs m) in
    let b = length-append (replicate m.pages 0) (from_stamps m) in
    let c = length-append (replicate m.pages 0) (from_masks m) in
    let d = length-append (replicate (entry_count m) 0) (from_pools m) in
    let e = length-append (replicate m.nodes (2 ^ m.frames - 1)) (memories m) in
    omega (
      arith,
      ap length (in_blocks m),
      rest,
      a,
      b,
      c,
      d,
      e,
      length-acts m,
      length-replicate {A = ℕ} m.nodes 0,
      length-replicate {A = ℕ} m.pages 0,
      length-replicate {A = ℕ} (entry_count m) 0,
      length-replicate {A = ℕ} m.nodes (2 ^ m.frames - 1),
      length-replicate {A = ℕ} (m.nodes * m.frames * m.words) 0,
    )

-- ---- the words

module _ (m : Machine) where
  pub time-start : word_at m (fine_start m) Time ≡ 0
  time-start = refl

  pub live-start : word_at m (fine_start m) Live ≡ m.nodes
  live-start = refl

  pub act-start : (q : ℕ) → q < m.nodes → word_at m (fine_start m) (Act q) ≡ (program_of m q).space + 1
  act-start q below =
      at_acts m (2 + q) q refl
      ∙ (get_or_append_left (first_acts m) (from_interrupts m) 0 q (omega (arith, length-acts m))
      ∙ get_or-map-range_with_len (λ r. (program_of m r).space + 1) 0 m.nodes q q 0 below (omega arith))

  pub intr-start : (q : ℕ) → q < m.nodes → word_at m (fine_start m) (Intr q) ≡ 0
  intr-start q below = at_interrupts m (2 + m.nodes + q) q refl ∙ inside m.nodes 0 (from_dirs m) q below

  pub dir-start : (page : ℕ) → page < m.pages → word_at m (fine_start m) (Dir page) ≡ 0
  dir-start page below = at_dirs m (2 + 2 * m.nodes + page) page refl ∙ inside m.pages 0 (from_stamps m) page below

  pub stamp-start : (page : ℕ) → page < m.pages → word_at m (fine_start m) (Stamp page) ≡ 0
  stamp-start page below = at_stamps m (2 + 2 * m.nodes + m.pages + page) page refl ∙ inside m.pages 0 (from_masks m) page below

  pub cmap-start : (e : ℕ) → e < entry_count m → word_at m (fine_start m) (Cmap e) ≡ 0
  cmap-start e below = at_masks m (2 + 2 * m.nodes + 2 * m.pages + e) e refl ∙ inside (entry_count m) 0 (from_pools m) e below

  pub pool-start : (mo : ℕ) → mo < m.nodes → word_at m (fine_start m) (Pool mo) ≡ 2 ^ m.frames - 1
  pool-start mo below =
      at_pools m (2 + 2 * m.nodes + 2 * m.pages + entry_count m + mo) mo refl ∙ inside m.nodes (2 ^ m.frames - 1) (memories m) mo below

  pub memory-start : (mo f w : ℕ) → IsTrue (is_name m (Memory mo f w)) → word_at m (fine_start m) (Memory mo f w) ≡ 0
  memory-start mo f w named =
      at_memories m (place_of m (Memory mo f w)) ((mo * m.frames + f) * m.words + w) (omega arith)
      ∙ get_or-replicate (m.nodes * m.frames * m.words) ((mo * m.frames + f) * m.words + w) 0 0
      (omega (arith, place_of-below m (Memory mo f w) named))

-- ---- each is a word that the machine may have

zero-dir : (m : Machine) → is_dir_word m 0 ≡ true
unfolding dir_word copies_read
zero-dir m = refl

pub dir_read-zero : dir_read 0 ≡ empty_dir
unfolding copies_read
dir_read-zero = refl

-- a full pool
full_pool : (k : ℕ) (a : ℕ) → packed (bits_between (λ _. true) a k) ≡ 2 ^ k - 1
full_pool zero a = refl
full_pool (suc k) a = omega (arith, pow-suc 2 k, pow_pos k, full_pool k (a + 1))

pub has_bit-full : (k i : ℕ) → i < k → has_bit (2 ^ k - 1) i ≡ true
has_bit-full k i below =
    ap (λ n. has_bit n i) (sym (full_pool k 0) ∙ ap packed (sym (append-nil (bits_between (λ _. true) 0 k))))
    ∙ has_bit-within (λ _. true) k i [] below

program-space : (m : Machine) (q : ℕ) → IsWithinLimits m → (program_of m q).space < SPACES
program-space m q limits = let program = at_program m q limits in grind (arith, nat_tests)

pub encoded-start :
    (m : Machine) → IsWithinLimits m → (name : WordName) → IsTrue (is_name m name) → IsTrue (is_word m name (word_at m (fine_start m) name))
encoded-start m limits Time named = grind (arith, nat_tests)
encoded-start m limits Live named = grind (arith, nat_tests)
encoded-start m limits (Act q) named =
    rw (act-start m q (grind (arith, nat_tests))) (let space = program-space m q limits in grind (arith, nat_tests))
encoded-start m limits (Intr q) named = rw (intr-start m q (grind (arith, nat_tests))) refl
encoded-start m limits (Dir page) named = rw (dir-start m page (grind (arith, nat_tests))) (zero-dir m)
encoded-start m limits (Stamp page) named = rw (stamp-start m page (grind (arith, nat_tests))) (grind (arith, nat_tests))
encoded-start m limits (Cmap e) named =
    rw (cmap-start m e (grind (arith, nat_tests))) (let some = pow_pos m.nodes in grind (arith, nat_tests))
encoded-start m limits (Pool mo) named =
    rw (pool-start m mo (grind (arith, nat_tests))) (let some = pow_pos m.frames in grind (arith, nat_tests))
encoded-start m limits (Memory mo f w) named = rw (memory-start m mo f w named) (grind (arith, nat_tests))
