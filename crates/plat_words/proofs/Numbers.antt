-- words of frames, stamps and counters: what is written is read back, and stays within the machine
use Rattle.std.proofs.Common.{◌≡◌, ℕ, ◌+◌, ◌-◌, ◌*◌, ◌%◌, ◌^◌, ◌<◌, ◌≤◌, Option, Some, None, refl, ap, ◌∙◌, arith}
use Rattle.std.specs.Prelude.{IsTrue}
use Rattle.std.proofs.lemmas.Bool.Decides.{nat_tests}
use Rattle.plat_base.specs.Machine.{Machine}
use Rattle.plat_events.specs.Words.{bits_from, data_word, value_read, version_read, stamp_word, last_number, last_numbered, last_read}
use Rattle.plat_events.specs.Words.{seq_read}
use Rattle.plat_events.specs.Places.{is_data_word, is_stamp_word}

-- ---- words of frames

pub value_read-word : (value version : ℕ) → value < 2 ^ 32 → value_read (data_word value version) ≡ value
value_read-word value version h = omega arith

pub version_read-word : (value version : ℕ) → value < 2 ^ 32 → version < 2 ^ 32 → version_read (data_word value version) ≡ version
version_read-word value version h k = omega arith

pub data_word-read : (n : ℕ) → n < 2 ^ 64 → data_word (value_read n) (version_read n) ≡ n
data_word-read n h = omega arith

pub is_data_word-word :
    (m : Machine) (value version : ℕ) → value < 2 ^ 32 → version < 2 ^ 32 → version ≤ m.nodes * m.budget →
    IsTrue (is_data_word m (data_word value version))
is_data_word-word m value version h k l =
    let below : data_word value version < 2 ^ 64 = omega arith in let read = version_read-word value version h k in grind (arith, nat_tests)

-- ---- stamps

pub last_back : (last : Option ℕ) → last_numbered (last_number last) ≡ last
last_back None = refl
last_back (Some k) = grind (arith, nat_tests)

pub last_read-word : (last : Option ℕ) (seq : ℕ) → last_number last < 2 ^ 32 → last_read (stamp_word last seq) ≡ last
last_read-word last seq h =
    let low : bits_from (stamp_word last seq) 0 32 ≡ last_number last = omega arith in ap last_numbered low ∙ last_back last

pub seq_read-word : (last : Option ℕ) (seq : ℕ) → last_number last < 2 ^ 32 → seq < 2 ^ 32 → seq_read (stamp_word last seq) ≡ seq
seq_read-word last seq h k = omega arith

pub is_stamp_word-word :
    (m : Machine) (last : Option ℕ) (seq : ℕ) → last_number last ≤ m.nodes * m.budget + 1 → last_number last < 2 ^ 32 → seq ≤ 2621440 →
    IsTrue (is_stamp_word m (stamp_word last seq))
is_stamp_word-word m last seq h k l =
    let below : stamp_word last seq < 2 ^ 64 = omega arith in
    let low : bits_from (stamp_word last seq) 0 32 ≡ last_number last = omega arith in
    let read = seq_read-word last seq k (omega arith) in grind (arith, nat_tests)

-- ---- counters, which do not wrap

pub one_more : (n : ℕ) → n + 1 < 2 ^ 64 → (n + 1) % 2 ^ 64 ≡ n + 1
one_more n h = omega arith

pub one_less : (n : ℕ) → 0 < n → n < 2 ^ 64 → (n + (2 ^ 64 - 1)) % 2 ^ 64 ≡ n - 1
one_less n h k = omega arith
