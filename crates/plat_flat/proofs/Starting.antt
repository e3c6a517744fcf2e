-- the starting values, written from the last to the first, and what the limits of a machine say of them
use Rattle.std.proofs.Common.{◌≡◌, ℕ, ◌*◌, ◌<◌, ◌≤◌, true, List, [], ◌∷◌, ◌++◌, length, get_or, set, replicate, refl, ap}
use Rattle.std.proofs.Common.{sym, ⊎_elim, ◌∙◌, arith}
use Rattle.std.specs.Prelude.{◌==◌, ◌&&◌, if◌then◌else◌, IsTrue, find, unwrap_or}
use Rattle.std.specs.List.{list_all}
use Rattle.std.specs.Option.{option_map}
use Rattle.std.proofs.lemmas.Bool.{and_parts, cases_Bool}
use Rattle.std.proofs.lemmas.Bool.Decides.{nat_tests}
use Rattle.std.proofs.lemmas.List.{append_assoc, append-nil, get_or-replicate, length-replicate, length-set}
use Rattle.std.proofs.lemmas.List.Folds.{list_all-append}
use Rattle.std.proofs.Math.Nat.{mul-le-mul_left}
use Rattle.plat_base.specs.Machine.{Machine, limits, is_machine, is_init}
use Rattle.plat_base.specs.declared.configs.Init.{Init}
use Rattle.plat_flat.specs.FlatSeen.{IsFlatOf, place}
use Rattle.plat_flat.proofs.Accesses.{place-within, written_word}
use Rattle.plat_base.proofs.LimitLemmas.{limits_of}

-- ---- limits

is_init-within : (pages words : ℕ) (i : Init) → is_init pages words i ≡ true → (i.page < pages) × (i.word < words)
is_init-within pages words i h = grind (arith, nat_tests)

pub few_words : (m : Machine) → IsTrue (is_machine m) → m.words ≤ 64
few_words m h = (limits_of m h).words_most

pub few_pages : (m : Machine) → IsTrue (is_machine m) → m.pages ≤ 64
few_pages m h = (limits_of m h).pages_most

-- the starting value that stands before some others is one of a word of a page
init_within :
    (m : Machine) (before written : List Init) (i : Init) → IsTrue (is_machine m) → m.inits ≡ before ++ i ∷ written
    → (i.page < m.pages) × (i.word < m.words)
init_within m before written i h e =
    let all : list_all (is_init m.pages m.words) (before ++ i ∷ written) ≡ true = rw e at (limits_of m h).inits
    in let rest = (and_parts _ _ (rw (list_all-append (is_init m.pages m.words) before (i ∷ written)) at all)).1
    in is_init-within m.pages m.words i (and_parts _ _ rest).0

-- ---- places

-- the place of a word, among those of at most 64 pages of at most 64 words
pub place-below : (pages words page word : ℕ) → pages ≤ 64 → words ≤ 64 → page < pages → word < words → place words page word < 4096
place-below pages words page word lp lw p w =
    let column : page * words ≤ page * 64 = mul-le-mul_left page lw in omega arith

-- ---- values

-- the value that a word has from these starting values
abbrev pub starting : List Init → (page word : ℕ) → ℕ
starting inits page word = unwrap_or (option_map (λ (i : Init). i.value) (find (λ i. i.page == page && i.word == word) inits)) 0

-- the values of all words, from these starting values
pub record IsStarted (pages words : ℕ) (inits : List Init) (vs : List ℕ) : Type 0 where
  pub size : length vs ≡ pages * words
  pub value : (page word : ℕ) → page < pages → word < words → get_or vs (place words page word) 0 ≡ starting inits page word

pub started-none : (pages words n : ℕ) → n ≡ pages * words → IsStarted pages words [] (replicate n 0)
started-none pages words n e = record {
  size = length-replicate n 0 ∙ e;
  value = λ page word p w.
      let within : place words page word < n = place-within pages words page word n e p w
      in get_or-replicate n (place words page word) 0 0 within;
}

starting-more :
    (i : Init) (inits : List Init) (page word : ℕ)
    → (if i.page == page && i.word == word then i.value else starting inits page word) ≡ starting (i ∷ inits) page word
starting-more i inits page word = ⊎_elim (λ t. rw t refl) (λ t. rw t refl) (cases_Bool (i.page == page && i.word == word))

-- one more starting value before the others takes the place of theirs
pub started-more :
    (pages words : ℕ) (i : Init) (inits : List Init) (vs : List ℕ)
    → IsStarted pages words inits vs → i.page < pages → i.word < words
    → IsStarted pages words (i ∷ inits) (set vs (place words i.page i.word) i.value)
started-more pages words i inits vs h lp lw = record {
  size = length-set vs (place words i.page i.word) i.value ∙ h.size;
  value = λ page word p w.
      written_word vs pages words i.page i.word page word i.value h.size lp lw w
      ∙ ap (λ v. if i.page == page && i.word == word then i.value else v) (h.value page word p w)
      ∙ starting-more i inits page word;
}

-- ---- from the last starting value to the first

-- the starting values but for those at the front, which are to come
pub record IsStartedPast (m : Machine) (to_come : List Init) (vs : List ℕ) : Type 0 where
  pub written : List Init
  pub split : m.inits ≡ to_come ++ written
  pub started : IsStarted m.pages m.words written vs

pub past-none :
    (m : Machine) (to_come : List Init) (vs : List ℕ) → to_come ≡ m.inits → vs ≡ replicate (m.pages * m.words) 0
    → IsStartedPast m to_come vs
past-none m to_come vs e zeros = record {
  written = [];
  split = sym e ∙ sym (append-nil to_come);
  started = rw zeros (started-none m.pages m.words (m.pages * m.words) refl);
}

split-more : (m : Machine) (to_come before written : List Init) (i : Init) → m.inits ≡ to_come ++ written → to_come ≡ before ++ i ∷ [] →
    m.inits ≡ before ++ i ∷ written
split-more m to_come before written i split last = split ∙ ap (λ inits. inits ++ written) last ∙ append_assoc before (i ∷ []) written

-- the last one to come is of a word of a page
pub past-within :
    (m : Machine) (to_come before : List Init) (vs : List ℕ) (i : Init)
    → IsTrue (is_machine m) → IsStartedPast m to_come vs → to_come ≡ before ++ i ∷ [] → (i.page < m.pages) × (i.word < m.words)
past-within m to_come before vs i limits h last =
    init_within m before h.written i limits (split-more m to_come before h.written i h.split last)

-- it is written next
pub past-more :
    (m : Machine) (to_come before : List Init) (vs : List ℕ) (i : Init)
    → IsTrue (is_machine m) → IsStartedPast m to_come vs → to_come ≡ before ++ i ∷ []
    → IsStartedPast m before (set vs (place m.words i.page i.word) i.value)
past-more m to_come before vs i limits h last =
    let within = past-within m to_come before vs i limits h last
    in record {
      written = i ∷ h.written;
      split = split-more m to_come before h.written i h.split last;
      started = started-more m.pages m.words i h.written vs h.started within.0 within.1;
    }

length-zero : {A : Type 0} (xs : List A) → length xs ≡ 0 → xs ≡ []
length-zero [] h = refl
length-zero (x ∷ xs) h = absurd (omega arith)

-- when none is to come, each word has its starting value
pub past-all :
    (m : Machine) (to_come : List Init) (vs ws : List ℕ) → IsStartedPast m to_come vs → length to_come ≡ 0
    → (n : ℕ) → ws ≡ replicate n 0 → n ≡ m.pages * m.words
    → IsFlatOf m [] (record { pages = m.pages; words = m.words; values = vs; versions = ws })
past-all m to_come vs ws h none n zeros e = record {
  pages = refl;
  words = refl;
  value = λ page word p w.
      h.started.value page word p w ∙ ap (λ inits. starting inits page word)
      (sym (h.split ∙ ap (λ inits. inits ++ h.written) (length-zero to_come none)));
  version = λ page word p w.
      let within : place m.words page word < n = place-within m.pages m.words page word n e p w
      in rw zeros (get_or-replicate n (place m.words page word) 0 0 within);
}
