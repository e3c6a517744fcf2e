-- a number that no directory is written as
use Rattle.std.proofs.Common.{◌≡◌, Bool, true, false, refl, arith}
use Rattle.std.specs.Prelude.{◌==◌, ◌&&◌}
use Rattle.std.proofs.lemmas.Bool.Decides.{nat_tests}
use Rattle.plat_base.specs.Decide.{is_dir}
use Rattle.plat_base.specs.Seen.{machine}
use Rattle.plat_events.specs.Words.{dir_read, dir_word, is_locked}
use Rattle.plat_words.proofs.Found.{dir_word_found, dir_encoded-found}
use Rattle.plat_words.proofs.ranges.is_dir_word.Goals as goal

not_and : (a b : Bool) → (a ≡ true → ⊥) → false ≡ (a && b)
not_and true b h = absurd (h refl)
not_and false b h = refl

pub returns-in-None : goal.returns-in-None
returns-in-None c =
    let n = c.args.word in
    not_and (dir_word (dir_read n) (is_locked n) == n) (is_dir (machine c.args.cfg.now) (dir_read n))
    (λ same.
    let e : dir_word (dir_read n) (is_locked n) ≡ n = grind (arith, nat_tests) in
    absurd (cc (c.in-None.ensures.exact (dir_word_found n) (dir_encoded-found n e))))
