-- a label's name has 1 to 32 bytes
use Rattle.std.proofs.Common.{ℕ, ◌≤◌, List, [], ◌∷◌, length, arith}
use Rattle.std.specs.Prelude.{IsTrue}
use Rattle.std.proofs.lemmas.Bool.Decides.{nat_tests}
use Rattle.plat_base.specs.Labels.{is_label_name}

pub label_length : (bs : List ℕ) → IsTrue (is_label_name bs) → length bs ≤ 32
label_length [] h = grind arith
label_length (b ∷ bs) h = grind (arith, nat_tests)
