-- a word that has to be the spelling of one number
use Rattle.std.proofs.Common.{◌≡◌, ℕ, ◌^◌, ◌<◌, List, Result, Ok, Err, bytes_eq, refl, ap, sym, ◌∙◌, ⊎_elim}
use Rattle.std.specs.Fmt.{decimal}
use Rattle.std.proofs.lemmas.Bool.{cases_Bool}
use Rattle.std.proofs.lemmas.Slice.Eq.{bytes_eq-Decides}
use Rattle.plat_grammar.specs.Lines.{number_of}
use Rattle.plat_grammar.specs.Forms.{exactly}
use Rattle.plat_base.specs.declared.faults.Why.{Why}
use Rattle.plat_base.specs.declared.faults.Why.TheVariants.{Expected}
use Rattle.plat_text.proofs.NumberLemmas.{number_of-takes, number_of-again}
use Rattle.plat_text.proofs.Results.{ok_is}

-- the word spells that number
pub exactly-same : (word : List ℕ) (n : ℕ) → Ok n ≡ number_of word → exactly (decimal n) word ≡ Ok (tt {0})
exactly-same word n e = rw ((bytes_eq-Decides word (decimal n)).1 (number_of-takes word n (sym e)).0) refl

-- another word does not
not_same : (word : List ℕ) (n : ℕ) → (word ≡ decimal n → ⊥) → exactly (decimal n) word ≡ Err Expected
not_same word n apart = ⊎_elim (λ t. absurd (apart ((bytes_eq-Decides word (decimal n)).0 t))) (λ t. rw t refl)
    (cases_Bool (bytes_eq word (decimal n)))

pub exactly-other : (word : List ℕ) (k n : ℕ) → n < 2 ^ 32 → Ok k ≡ number_of word → (k ≡ n → ⊥) → exactly (decimal n) word ≡ Err Expected
exactly-other word k n small e apart = not_same word n (λ same. apart (ok_is k n (e ∙ ap number_of same ∙ number_of-again n small)))

pub exactly-none : (word : List ℕ) (n : ℕ) (why : Why) → n < 2 ^ 32 → Err why ≡ number_of word → exactly (decimal n) word ≡ Err Expected
exactly-none word n why small e = not_same word n (λ same. wrong (e ∙ ap number_of same ∙ number_of-again n small)) where
  wrong : ◌≡◌ {A = Result ℕ Why} (Err why) (Ok n) → ⊥
  wrong e = cc

pub ruleset exactly_number = (exactly-same, exactly-other, exactly-none)
