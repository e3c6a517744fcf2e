-- the word of the live actors, as it is made bit by bit
use Rattle.std.proofs.Common.{◌≡◌, ◌≢◌, ℕ, ◌+◌, ◌*◌, ◌%◌, ◌<◌, ◌≤◌, Bool, true, false, arith, below_more, ◌∙◌}
use Rattle.std.specs.Prelude.{◌^◌, bit_or}
use Rattle.plat_sched.specs.Actors.{is_set}
use Rattle.plat_sched.proofs.ActorsLemmas.{is_set-with_same, is_set-with_other}

-- the bits below n are what a test answers of them, and the others are clear
abbrev pub ShowsBelow : (test : ℕ → Bool) (n word : ℕ) → Type 0
ShowsBelow test n word = record {
  set : (a : ℕ) → a < n → is_set word a ≡ test a;
  clear : (a : ℕ) → n ≤ a → a < 32 → is_set word a ≡ false;
}

module _ (test : ℕ → Bool) (n word : ℕ) (shows : ShowsBelow test n word) (low : n < 32) where
  pub ShowsBelow-set : true ≡ test n → ShowsBelow test (n + 1) (bit_or word (1 * 2 ^ n % 2 ^ 32))
  ShowsBelow-set is = record {
    set =
        below_more _ _
        (λ a l.
        let ne : a ≢ n = omega arith in
        is_set-with_other word n a low ne ∙ shows.set a l) (is_set-with_same word n low ∙ is);
    clear = λ a l m.
        let ne : a ≢ n = omega arith in
        is_set-with_other word n a low ne ∙ shows.clear a (omega arith) m;
  }

  pub ShowsBelow-clear : false ≡ test n → ShowsBelow test (n + 1) word
  ShowsBelow-clear is = record {
    set = below_more _ _ shows.set (shows.clear n (omega arith) low ∙ is);
    clear = λ a l m. shows.clear a (omega arith) m;
  }
