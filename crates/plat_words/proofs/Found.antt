-- a number that is read as a directory and written back the same is the word of one
use Rattle.std.proofs.Common.{◌≡◌, ℕ, refl, arith}
use Rattle.plat_base.specs.Copies.{AreCopies}
use Rattle.plat_events.specs.Words.{dir_read, dir_word, is_locked, has_bit, bits_from, state_numbered, copies_read}
use Rattle.plat_words.specs.declared.dir_words.DirWord.{DirWord}
use Rattle.plat_words.specs.Encodings.{dir_encoded}
use Rattle.plat_words.proofs.CopyFields.{are_read}

copies_rise : (n : ℕ) → AreCopies (copies_read n)
unfolding copies_read
copies_rise n = are_read n (copies_read n) 8 (omega arith) refl

-- what is read of a number
pub dir_word_found : ℕ → DirWord
dir_word_found n = record {
  state = state_numbered (bits_from n 0 2);
  frozen = has_bit n 2;
  locked = is_locked n;
  copies = copies_read n;
  rising = copies_rise n;
}

pub dir_encoded-found : (n : ℕ) → dir_word (dir_read n) (is_locked n) ≡ n → dir_encoded (dir_word_found n) ≡ n
unfolding dir_word_found
dir_encoded-found n e = e
