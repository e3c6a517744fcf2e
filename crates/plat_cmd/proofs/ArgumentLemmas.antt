-- what the command of one positional argument makes of plain words
use Rattle.std.proofs.Common.{◌≡◌, ℕ, Bool, true, false, List, [], ◌∷◌, Option, Some, None, refl, ap, arith, codes, subst, sym}
use Rattle.std.specs.Prelude.{IsTrue, not, ◌==◌, ◌&&◌, IsSomeAnd}
use Rattle.std.proofs.lemmas.Bool.{and_parts}
use Rattle.clap.specs.Words.{App, Rule, Text, is_simple, new_app, new_rule, takes, with_rule}
use Rattle.clap.specs.Walk.{all_of}
use Rattle.clap.specs.Simple.{matches_of}
use Rattle.std.proofs.lemmas.Bool.Decides.{nat_tests}
use Rattle.clap.specs.declared.builder.range.ValueRange.{ValueRange}
use Rattle.clap.proofs.OnLiterals.{clap_on_literals}
use Rattle.plat_cmd.specs.Arguments.{is_plain, are_plain}

abbrev pub values : Rule
values = record (new_rule (codes "words")) { range = Some (record { start_inclusive = 1; end_inclusive = 3 }) }

abbrev pub without_name : App → App
without_name a = record a { top = record a.top { no_binary_name = true } }

abbrev pub without_help : App → App
without_help a = record a { top = record a.top { disable_help_flag = true } }

abbrev pub command : App
command = with_rule (without_help (without_name (new_app (codes "platinum")))) values

pub command-simple : is_simple command ≡ true
command-simple = refl

-- a plain word begins with a byte that is no hyphen
record IsPlain (w : Text) : Type 0 where
  first : ℕ
  rest : Text
  word : w ≡ first ∷ rest
  plain : (first == 45) ≡ false

is_plain-parts : (w : Text) → is_plain w ≡ true → IsPlain w
is_plain-parts [] h = absurd cc
is_plain-parts (b ∷ bs) h = record { first = b; rest = bs; word = refl; plain = by (b == 45) refl h }
  where
    by : (t : Bool) → (b == 45) ≡ t → not t ≡ true → (b == 45) ≡ false
    by true e h = absurd cc
    by false e h = e

-- the command takes these words, and what it reads of them
pub record AreRead (words : List Text) : Type 0 where
  pub taken : takes command words ≡ true
  pub read : all_of (codes "words") (matches_of command words) ≡ Some words

one : (b : ℕ) (bs : Text) → (b == 45) ≡ false → AreRead ((b ∷ bs) ∷ [])
unfolding clap_on_literals
one b bs e = record { taken = simp e; read = simp e }

two : (b c : ℕ) (bs cs : Text) → (b == 45) ≡ false → (c == 45) ≡ false → AreRead ((b ∷ bs) ∷ (c ∷ cs) ∷ [])
unfolding clap_on_literals
two b c bs cs e f = record { taken = simp (e, f); read = simp (e, f) }

three :
    (b c d : ℕ) (bs cs ds : Text) → (b == 45) ≡ false → (c == 45) ≡ false → (d == 45) ≡ false
    → AreRead ((b ∷ bs) ∷ (c ∷ cs) ∷ (d ∷ ds) ∷ [])
unfolding clap_on_literals
three b c d bs cs ds e f g = record { taken = simp (e, f, g); read = simp (e, f, g) }

-- one to three plain words are read whole
pub plain_read : (words : List Text) → IsTrue (are_plain words) → AreRead words
plain_read [] h = absurd cc
plain_read (v ∷ []) h = by (is_plain-parts v (and_parts (is_plain v) true h).0)
  where
    by : IsPlain v → AreRead (v ∷ [])
    by p = subst (λ a. AreRead (a ∷ [])) (sym p.word) (one p.first p.rest p.plain)
plain_read (v ∷ w ∷ []) h =
    let a = and_parts (is_plain v) (is_plain w && true) h in
    let b = and_parts (is_plain w) true a.1
    in by (is_plain-parts v a.0) (is_plain-parts w b.0)
  where
    by : IsPlain v → IsPlain w → AreRead (v ∷ w ∷ [])
    by p q =
        subst (λ a. AreRead (a ∷ w ∷ [])) (sym p.word)
        (subst (λ b. AreRead ((p.first ∷ p.rest) ∷ b ∷ [])) (sym q.word) (two p.first q.first p.rest q.rest p.plain q.plain))
plain_read (v ∷ w ∷ x ∷ []) h =
    let a = and_parts (is_plain v) (is_plain w && (is_plain x && true)) h in
    let b = and_parts (is_plain w) (is_plain x && true) a.1 in
    let c = and_parts (is_plain x) true b.1
    in by (is_plain-parts v a.0) (is_plain-parts w b.0) (is_plain-parts x c.0)
  where
    by : IsPlain v → IsPlain w → IsPlain x → AreRead (v ∷ w ∷ x ∷ [])
    by p q r =
        subst (λ a. AreRead (a ∷ w ∷ x ∷ [])) (sym p.word)
        (subst (λ b. AreRead ((p.first ∷ p.rest) ∷ b ∷ x ∷ [])) (sym q.word)
        (subst (λ c. AreRead ((p.first ∷ p.rest) ∷ (q.first ∷ q.rest) ∷ c ∷ [])) (sym r.word)
        (three p.first q.first r.first p.rest q.rest r.rest p.plain q.plain r.plain)))
plain_read (v ∷ w ∷ x ∷ y ∷ more) h = absurd (grind (arith, nat_tests))

-- the range of an argument
pub range-is : (o : Option ValueRange) (r : ValueRange) → IsSomeAnd o (λ x. x ≡ r) → o ≡ Some r
range-is None r h = absurd h
range-is (Some x) r h = ap Some h
