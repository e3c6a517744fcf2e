use Rattle.std.proofs.Common.{inl, inr, refl}
use Rattle.std.proofs.lemmas.Bool.{cases_Bool}
use Rattle.plat_base.specs.Seen.{machine}
use Rattle.plat_events.specs.Places.{is_dir_word}
use Rattle.plat_words.proofs.Found.{dir_word_found}
use Rattle.plat_handler.proofs.LockLemmas.{dir_encoded-lock}
use Rattle.plat_handler.proofs.sessions.found_in.Goals as goal

pub returns-in_default-clause-found : goal.returns-in_default-clause-found
returns-in_default-clause-found c =
    let m = machine c.args.cfg.now in let n = c.args.word in
    elim (cases_Bool (is_dir_word m n)) [
      | inl is ↦ absurd (c.in_default.not-Some (dir_word_found n) (c.decode.ensures.exact (dir_word_found n) (dir_encoded-lock m n is)))
      | inr other ↦ (rw other refl)
    ]
