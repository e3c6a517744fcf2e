-- distinct words have distinct places, and each has a place among the words
use Rattle.std.proofs.Common.{◌≡◌, ℕ, ◌+◌, ◌*◌, ◌<◌, ◌≤◌, length, arith}
use Rattle.std.specs.Prelude.{IsTrue, ◌≢◌, slice_index, slice_set, List}
use Rattle.std.proofs.lemmas.Bool.Decides.{nat_tests}
use Rattle.std.proofs.lemmas.Nat.{same_from_place, mul-add-lt, mul-le}
use Rattle.std.proofs.lemmas.List.{get_or-set_same, get_or-set_other}
use Rattle.plat_base.specs.Machine.{Machine}
use Rattle.plat_base.specs.declared.words.WordName.{WordName}
use Rattle.plat_base.specs.declared.words.WordName.TheVariants.{Time, Live, Act, Intr, Dir, Stamp, Cmap, Pool, Memory}
use Rattle.plat_events.specs.Places.{place_of, is_name, word_count}

-- the place of a word of a frame within its module's and the others' frames
memory_same :
    (frames words mo f w mo' f' w' : ℕ) → f < frames → f' < frames → w < words → w' < words →
    (mo * frames + f) * words + w ≡ (mo' * frames + f') * words + w' → (mo ≡ mo') × (f ≡ f') × (w ≡ w')
memory_same frames words mo f w mo' f' w' h h' k k' e =
    let outer = same_from_place (mo * frames + f) w (mo' * frames + f') w' words k k' e in
    let inner = same_from_place mo f mo' f' frames h h' outer.0 in
    (inner.0, inner.1, outer.1)

pub memory_apart :
    (m : Machine) (mo f w : ℕ) (other : WordName) → IsTrue (is_name m (Memory mo f w)) → IsTrue (is_name m other) →
    place_of m other ≡ place_of m (Memory mo f w) → other ≡ Memory mo f w
memory_apart m mo f w Time h k e = absurd (grind (arith, nat_tests))
memory_apart m mo f w Live h k e = absurd (grind (arith, nat_tests))
memory_apart m mo f w (Act q) h k e = absurd (grind (arith, nat_tests))
memory_apart m mo f w (Intr q) h k e = absurd (grind (arith, nat_tests))
memory_apart m mo f w (Dir p) h k e = absurd (grind (arith, nat_tests))
memory_apart m mo f w (Stamp p) h k e = absurd (grind (arith, nat_tests))
memory_apart m mo f w (Cmap x) h k e = absurd (grind (arith, nat_tests))
memory_apart m mo f w (Pool x) h k e = absurd (grind (arith, nat_tests))
memory_apart m mo f w (Memory mo' f' w') h k e =
    let here : f < m.frames = grind (arith, nat_tests) in let word : w < m.words = grind (arith, nat_tests) in
    let there : f' < m.frames = grind (arith, nat_tests) in let other : w' < m.words = grind (arith, nat_tests) in
    let same = memory_same m.frames m.words mo' f' w' mo f w there here other word (omega arith) in cc

-- the words of frames are at most 64 of each of 64 frames of eight modules
pub memory_most :
    (m : Machine) (mo f w : ℕ) → m.nodes ≤ 8 → m.frames ≤ 64 → m.words ≤ 64 → IsTrue (is_name m (Memory mo f w)) →
    (mo * m.frames + f) * m.words + w < 32768
memory_most m mo f w n g k h =
    let frame : mo * m.frames + f < m.frames * m.nodes =
    mul-add-lt mo m.frames f m.nodes (grind (arith, nat_tests)) (grind (arith, nat_tests)) in
    let word : (mo * m.frames + f) * m.words + w < m.words * (m.frames * m.nodes) =
    mul-add-lt (mo * m.frames + f) m.words w (m.frames * m.nodes) frame (grind (arith, nat_tests)) in
    omega (arith, word, mul-le m.words (m.frames * m.nodes) 64 512 k (mul-le m.frames m.nodes 64 8 g n))

-- ---- any two words

time_apart :
    (m : Machine) (other : WordName) → IsTrue (is_name m Time) → IsTrue (is_name m other) → place_of m other ≡ place_of m Time →
    other ≡ Time
time_apart m other h k e = grind (arith, nat_tests)

live_apart :
    (m : Machine) (other : WordName) → IsTrue (is_name m Live) → IsTrue (is_name m other) → place_of m other ≡ place_of m Live →
    other ≡ Live
live_apart m other h k e = grind (arith, nat_tests)

act_apart :
    (m : Machine) (q : ℕ) (other : WordName) → IsTrue (is_name m (Act q)) → IsTrue (is_name m other) →
    place_of m other ≡ place_of m (Act q) → other ≡ Act q
act_apart m q other h k e = grind (arith, nat_tests)

intr_apart :
    (m : Machine) (q : ℕ) (other : WordName) → IsTrue (is_name m (Intr q)) → IsTrue (is_name m other) →
    place_of m other ≡ place_of m (Intr q) → other ≡ Intr q
intr_apart m q other h k e = grind (arith, nat_tests)

dir_apart :
    (m : Machine) (p : ℕ) (other : WordName) → IsTrue (is_name m (Dir p)) → IsTrue (is_name m other) →
    place_of m other ≡ place_of m (Dir p) → other ≡ Dir p
dir_apart m p other h k e = grind (arith, nat_tests)

stamp_apart :
    (m : Machine) (p : ℕ) (other : WordName) → IsTrue (is_name m (Stamp p)) → IsTrue (is_name m other) →
    place_of m other ≡ place_of m (Stamp p) → other ≡ Stamp p
stamp_apart m p other h k e = grind (arith, nat_tests)

cmap_apart :
    (m : Machine) (x : ℕ) (other : WordName) → IsTrue (is_name m (Cmap x)) → IsTrue (is_name m other) →
    place_of m other ≡ place_of m (Cmap x) → other ≡ Cmap x
cmap_apart m x other h k e = grind (arith, nat_tests)

pool_apart :
    (m : Machine) (mo : ℕ) (other : WordName) → IsTrue (is_name m (Pool mo)) → IsTrue (is_name m other) →
    place_of m other ≡ place_of m (Pool mo) → other ≡ Pool mo
pool_apart m mo other h k e = grind (arith, nat_tests)

pub place_of-apart : (m : Machine) (a b : WordName) → IsTrue (is_name m a) → IsTrue (is_name m b) → place_of m b ≡ place_of m a → b ≡ a
place_of-apart m Time b h k e = time_apart m b h k e
place_of-apart m Live b h k e = live_apart m b h k e
place_of-apart m (Act q) b h k e = act_apart m q b h k e
place_of-apart m (Intr q) b h k e = intr_apart m q b h k e
place_of-apart m (Dir p) b h k e = dir_apart m p b h k e
place_of-apart m (Stamp p) b h k e = stamp_apart m p b h k e
place_of-apart m (Cmap x) b h k e = cmap_apart m x b h k e
place_of-apart m (Pool mo) b h k e = pool_apart m mo b h k e
place_of-apart m (Memory mo f w) b h k e = memory_apart m mo f w b h k e

memory_below :
    (m : Machine) (mo f w : ℕ) → IsTrue (is_name m (Memory mo f w)) → (mo * m.frames + f) * m.words + w < m.nodes * m.frames * m.words
memory_below m mo f w h =
    let frame : mo * m.frames + f < m.frames * m.nodes =
    mul-add-lt mo m.frames f m.nodes (grind (arith, nat_tests)) (grind (arith, nat_tests)) in
    let word : (mo * m.frames + f) * m.words + w < m.words * (m.frames * m.nodes) =
    mul-add-lt (mo * m.frames + f) m.words w (m.frames * m.nodes) frame (grind (arith, nat_tests)) in
    omega (arith, word)

-- a word of the machine has a place among its words
pub place_of-below : (m : Machine) (a : WordName) → IsTrue (is_name m a) → place_of m a < word_count m
place_of-below m Time h = omega arith
place_of-below m Live h = omega arith
place_of-below m (Act q) h = grind (arith, nat_tests)
place_of-below m (Intr q) h = grind (arith, nat_tests)
place_of-below m (Dir p) h = grind (arith, nat_tests)
place_of-below m (Stamp p) h = grind (arith, nat_tests)
place_of-below m (Cmap x) h = grind (arith, nat_tests)
place_of-below m (Pool x) h = grind (arith, nat_tests)
place_of-below m (Memory mo f w) h = omega (arith, memory_below m mo f w h)

-- ---- one word is written

pub word_written :
    (m : Machine) (words : List ℕ) (a : WordName) (v : ℕ) → length words ≡ word_count m → IsTrue (is_name m a) →
    slice_index (slice_set words (place_of m a) v) (place_of m a) ≡ v
word_written m words a v e h = get_or-set_same words (place_of m a) v 0 (omega (arith, place_of-below m a h))

pub word_kept :
    (m : Machine) (words : List ℕ) (a b : WordName) (v : ℕ) → IsTrue (is_name m a) → IsTrue (is_name m b) → b ≢ a →
    slice_index (slice_set words (place_of m a) v) (place_of m b) ≡ slice_index words (place_of m b)
word_kept m words a b v h k apart = get_or-set_other words (place_of m a) (place_of m b) v 0 (λ e. apart (place_of-apart m a b h k e))
