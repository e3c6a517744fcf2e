-- the words of the state after an operation: one has its new number, and each other word is as it was
use Rattle.std.specs.Prelude.{◌≡◌, ◌≢◌, ℕ, ◌+◌, ◌*◌, ◌<◌, ◌≤◌, Bool, true, false, IsTrue, Option, length, slice_index}
use Rattle.std.proofs.Common.{refl, ap, ◌∙◌, arith}
use Rattle.std.proofs.lemmas.Bool.Decides.{nat_tests}
use Rattle.std.proofs.lemmas.List.{length-set, set-get_or, get_or-set_other}
use Rattle.plat_base.specs.Machine.{Machine}
use Rattle.plat_base.specs.declared.items.Item.{Item}
use Rattle.plat_base.specs.declared.words.WordName.{WordName}
use Rattle.plat_base.specs.declared.words.WordName.TheVariants.{Time, Live, Act, Intr, Dir, Stamp, Cmap, Pool, Memory}
use Rattle.plat_events.specs.Places.{place_of, is_name, word_count}
use Rattle.plat_events.specs.Privates.{Private}
use Rattle.plat_events.specs.Kept.{word_at}
use Rattle.plat_events.specs.Runs.{Fine}
use Rattle.plat_words.proofs.PlacesApart.{word_written, word_kept}
use Rattle.plat_fine_laws.specs.Changes.{Changes, is_read, KeepsWords, is_page_word, KeepsPageWords}

module _ (m : Machine) (s t : Fine) (a : ℕ) (name : WordName) (word : ℕ) (p : Private) (item : Option Item)
    (changes : Changes m s t a name word p item) where
  pub word_at-new : length s.words ≡ word_count m → IsTrue (is_name m name) → word_at m t name ≡ word
  word_at-new all named = rw changes.words (word_written m s.words name word all named)

  pub word_at-other :
      (other : WordName) → IsTrue (is_name m name) → IsTrue (is_name m other) → other ≢ name → word_at m t other ≡ word_at m s other
  word_at-other other named there apart = rw changes.words (word_kept m s.words name other word named there apart)

  pub words-length : length t.words ≡ length s.words
  words-length = ap length changes.words ∙ length-set s.words (place_of m name) word

-- a load leaves each word
pub words-loaded :
    (m : Machine) (s t : Fine) (a : ℕ) (name : WordName) (p : Private) (item : Option Item) →
    Changes m s t a name (word_at m s name) p item → t.words ≡ s.words
words-loaded m s t a name p item changes = changes.words ∙ set-get_or s.words (place_of m name) 0

pub KeepsWords-loaded :
    (m : Machine) (s t : Fine) (a : ℕ) (name : WordName) (p : Private) (item : Option Item) →
    Changes m s t a name (word_at m s name) p item → KeepsWords m s t
KeepsWords-loaded m s t a name p item changes other read =
    ap (λ ws. slice_index ws (place_of m other)) (words-loaded m s t a name p item changes)

-- the invariant reads no interrupt
interrupt_apart : (m : Machine) (q : ℕ) (other : WordName) → q < m.nodes → IsTrue (is_read m other) → place_of m other ≢ place_of m (Intr q)
interrupt_apart m q Time inside read = omega arith
interrupt_apart m q Live inside read = omega arith
interrupt_apart m q (Act r) inside read = grind (arith, nat_tests)
interrupt_apart m q (Intr r) inside read = absurd cc
interrupt_apart m q (Dir page) inside read = omega arith
interrupt_apart m q (Stamp page) inside read = omega arith
interrupt_apart m q (Cmap e) inside read = omega arith
interrupt_apart m q (Pool mo) inside read = omega arith
interrupt_apart m q (Memory mo f w) inside read = omega arith

pub KeepsWords-interrupt :
    (m : Machine) (s t : Fine) (a q number : ℕ) (p : Private) (item : Option Item) → q < m.nodes →
    Changes m s t a (Intr q) number p item → KeepsWords m s t
KeepsWords-interrupt m s t a q number p item inside changes other read =
    ap (λ ws. slice_index ws (place_of m other)) changes.words
    ∙ get_or-set_other s.words (place_of m (Intr q)) (place_of m other) number 0 (interrupt_apart m q other inside read)

-- ---- the words in front: the time, the live processors, their spaces and their interrupts

abbrev pub is_behind : WordName → Bool
is_behind Time = false
is_behind Live = false
is_behind (Act q) = false
is_behind (Intr q) = false
is_behind (Dir page) = true
is_behind (Stamp page) = true
is_behind (Cmap e) = true
is_behind (Pool mo) = true
is_behind (Memory mo f w) = true

behind_front : (m : Machine) (other : WordName) → IsTrue (is_behind other) → 2 + 2 * m.nodes ≤ place_of m other
behind_front m Time read = absurd cc
behind_front m Live read = absurd cc
behind_front m (Act r) read = absurd cc
behind_front m (Intr r) read = absurd cc
behind_front m (Dir page) read = omega arith
behind_front m (Stamp page) read = omega arith
behind_front m (Cmap e) read = omega arith
behind_front m (Pool mo) read = omega arith
behind_front m (Memory mo f w) read = omega arith

page_word-behind : (name : WordName) → IsTrue (is_page_word name) → IsTrue (is_behind name)
page_word-behind Time page = absurd cc
page_word-behind Live page = absurd cc
page_word-behind (Act q) page = absurd cc
page_word-behind (Intr q) page = absurd cc
page_word-behind (Dir p) page = refl
page_word-behind (Stamp p) page = refl
page_word-behind (Cmap e) page = refl
page_word-behind (Pool mo) page = refl
page_word-behind (Memory mo f w) page = absurd cc

module _ (m : Machine) (s t : Fine) (a : ℕ) (name : WordName) (number : ℕ) (p : Private) (item : Option Item)
    (changes : Changes m s t a name number p item) where
  word-apart : (other : WordName) → place_of m other ≢ place_of m name → word_at m t other ≡ word_at m s other
  word-apart other apart =
      ap (λ ws. slice_index ws (place_of m other)) changes.words
      ∙ get_or-set_other s.words (place_of m name) (place_of m other) number 0 apart

  -- a write in front leaves each word behind
  pub behind-kept : place_of m name < 2 + 2 * m.nodes → (other : WordName) → IsTrue (is_behind other) →
      word_at m t other ≡ word_at m s other
  behind-kept front other read = let above = behind_front m other read in word-apart other (omega arith)

  pub page_words-kept : place_of m name < 2 + 2 * m.nodes → KeepsPageWords m s t
  page_words-kept front other page named = behind-kept front other (page_word-behind other page)

  -- and each other word in front that is the machine's
  pub named-kept : (other : WordName) → IsTrue (is_name m name) → IsTrue (is_name m other) → other ≢ name →
      word_at m t other ≡ word_at m s other
  named-kept = word_at-other m s t a name number p item changes
