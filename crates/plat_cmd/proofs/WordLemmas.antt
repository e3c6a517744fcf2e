-- words of the command line are compared by their bytes
use Rattle.std.proofs.Common.{◌≡◌, ℕ, List, [], ◌∷◌, nat_eq, refl, ap, ◌&&◌}
use Rattle.std.specs.Borrow.{Bor}
use lib.Pointwise.{pointwise}
use Rattle.plat_cmd.specs.Arguments.{texts_of}
use Rattle.plat_cmd.specs.Commands.{same_words}

pub same_words-texts_of : (vs ws : List (Bor (List ℕ)))
    → same_words (texts_of vs) (texts_of ws) ≡ pointwise (λ (v w : Bor (List ℕ)). pointwise nat_eq v.now w.now) vs ws
same_words-texts_of [] [] = refl
same_words-texts_of [] (w ∷ ws) = refl
same_words-texts_of (v ∷ vs) [] = refl
same_words-texts_of (v ∷ vs) (w ∷ ws) = ap (λ b. pointwise nat_eq v.now w.now && b) (same_words-texts_of vs ws)
