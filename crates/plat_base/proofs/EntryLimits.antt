-- at most 512 entries differ in space and virtual page: one for each of 64 virtual pages of eight spaces
use Rattle.std.proofs.Common.{◌≡◌, ℕ, ◌+◌, ◌*◌, ◌<◌, ◌≤◌, eqb, true, false, List, [], ◌∷◌, map, length, refl, arith}
use Rattle.std.specs.Prelude.{IsTrue}
use Rattle.std.specs.List.{list_any, list_all, IsDistinct, AllByRecursion}
use Rattle.std.proofs.lemmas.List.{length-map}
use Rattle.std.proofs.lemmas.Bool.Decides.{nat_tests}
use Rattle.std.proofs.lemmas.Map.Steps.{length-le_from_distinct_below}
use Rattle.plat_base.specs.Machine.{Machine, is_machine, is_entry, same_place, all_differ}
use Rattle.plat_base.specs.Seen.{machine}
use Rattle.plat_base.specs.declared.configs.Config.{Config}
use Rattle.plat_base.specs.declared.configs.Entry.{Entry}
use Rattle.plat_base.proofs.LimitLemmas.{Limits, limits_of}

-- the number of a virtual page of a space
abbrev key_of : Entry → ℕ
key_of e = e.space * 64 + e.vpage

other_key :
    (pages : ℕ) (e : Entry) (es : List Entry) → IsTrue (is_entry pages e) → IsTrue (list_all (is_entry pages) es) →
    list_any (same_place e) es ≡ false → list_any (eqb (key_of e)) (map key_of es) ≡ false
other_key pages e [] h k l = refl
other_key pages e (x ∷ es) h k l = grind (arith, nat_tests, other_key pages e es)

all_apart : (k : ℕ) (xs : List ℕ) → list_any (eqb k) xs ≡ false → AllByRecursion (λ y. eqb k y ≡ false) xs
all_apart k [] h = tt
all_apart k (x ∷ xs) h = (grind arith, all_apart k xs (grind arith))

keys_differ :
    (pages : ℕ) (es : List Entry) → IsTrue (list_all (is_entry pages) es) → IsTrue (all_differ same_place es) →
    IsDistinct eqb (map key_of es)
unfolding IsDistinct
keys_differ pages [] h k = tt
keys_differ pages (e ∷ es) h k =
    let entry : IsTrue (is_entry pages e) = grind arith in let entries : IsTrue (list_all (is_entry pages) es) = grind arith in
    let other : list_any (same_place e) es ≡ false = grind arith in let rest : IsTrue (all_differ same_place es) = grind arith in
    (all_apart (key_of e) (map key_of es) (other_key pages e es entry entries other), keys_differ pages es entries rest)

key_below :
    (pages : ℕ) (es : List Entry) (q : ℕ) → IsTrue (list_all (is_entry pages) es) → list_any (eqb q) (map key_of es) ≡ true → q < 512
key_below pages [] q h k = absurd cc
key_below pages (e ∷ es) q h k = grind (arith, nat_tests, key_below pages es q)

pub entries-few : (pages : ℕ) (es : List Entry) → IsTrue (list_all (is_entry pages) es) → IsTrue (all_differ same_place es) →
    length es ≤ 512
entries-few pages es h k =
    simp (length-map) at (length-le_from_distinct_below (map key_of es) 512 (keys_differ pages es h k) (λ q l. key_below pages es q h l))

pub entries_most : (m : Machine) → IsTrue (is_machine m) → length m.entries ≤ 512
entries_most m h = let l : Limits m = limits_of m h in entries-few m.pages m.entries l.entries l.entries_differ

pub entries_most_of : (cfg : Config) → length cfg.entries.items ≤ 512
entries_most_of cfg = entries_most (machine cfg) cfg.limits
