-- words that are not plain name no command
use Rattle.std.proofs.Common.{◌≡◌, ℕ, Bool, true, false, List, [], ◌∷◌, Result, Ok, Err, codes, refl, sym, ap, ◌∙◌, if◌then◌else◌, arith}
use Rattle.std.specs.Prelude.{IfOk, IfErr, ◌==◌, not, nat_lt, ◌^◌}
use Rattle.std.specs.Str.{bytes_eq}
use Rattle.std.specs.Char.{is_ascii_digit}
use Rattle.std.proofs.lemmas.Bool.{and_parts, true≢false}
use Rattle.std.proofs.lemmas.Bool.Decides.{nat_tests}
use Rattle.std.proofs.lemmas.Slice.Eq.{bytes_eq-Decides}
use Rattle.plat_grammar.specs.Lines.{is_spelling, number_of}
use Rattle.plat_base.specs.declared.faults.Why.{Why}
use Rattle.plat_cmd.specs.Arguments.{is_plain, are_plain}
use Rattle.plat_cmd.specs.Commands.{same_words, with_number, numbered_of, read_of}
use Rattle.std.specs.Str.Parse.{digits_value}
use Rattle.plat_base.specs.declared.faults.Why.TheVariants.{TooLarge, NotNumber}
use Rattle.plat_cmd.specs.declared.words.Command.{Command}
use Rattle.plat_cmd.specs.declared.words.Command.TheVariants.{Check, Sim, Run, Replay, Race, Cost, Gen, Big}
use Rattle.plat_cmd.specs.declared.words.Grain.TheVariants.{Coarse, Fine}
use Rattle.plat_cmd.specs.declared.words.Output.TheVariants.{Report, Trace}
use Rattle.plat_cmd.specs.declared.words.WordsFault.{WordsFault}
use Rattle.plat_cmd.specs.declared.words.WordsFault.TheVariants.{BadWords}

same_words-equal : (vs ws : List (List ℕ)) → same_words vs ws ≡ true → vs ≡ ws
same_words-equal [] [] h = refl
same_words-equal [] (w ∷ ws) h = absurd cc
same_words-equal (v ∷ vs) [] h = absurd cc
same_words-equal (v ∷ vs) (w ∷ ws) h =
    let p = and_parts (bytes_eq v w) (same_words vs ws) h in
    let e : v ≡ w = (bytes_eq-Decides v w).0 p.0 in
    let f = same_words-equal vs ws p.1
    in cc

spelling-plain : (w : List ℕ) → is_spelling w ≡ true → is_plain w ≡ true
spelling-plain [] h = absurd cc
spelling-plain (b ∷ bs) h = by b (digit h)
  where
    digit : is_spelling (b ∷ bs) ≡ true → is_ascii_digit b ≡ true
    digit k = grind (arith, nat_tests)

    by : (b : ℕ) → is_ascii_digit b ≡ true → not (b == 45) ≡ true
    by b k = grind (arith, nat_tests)

number-plain : (w : List ℕ) (n : ℕ) → number_of w ≡ Ok n → is_plain w ≡ true
unfolding number_of
number-plain w n h = by (is_spelling w) refl h
  where
    by :
        (b : Bool) → is_spelling w ≡ b
        → (if b then (if nat_lt (digits_value 10 w) (2 ^ 32) then Ok (digits_value 10 w) else Err TooLarge) else Err NotNumber) ≡ Ok n
        → is_plain w ≡ true
    by true e k = spelling-plain w e
    by false e k = absurd cc

-- a name in the table is plain
name-plain : (name : List ℕ) (n : ℕ) (c : Command) → with_number name (Ok n) ≡ Ok c → is_plain name ≡ true
name-plain name n c h = by (bytes_eq name (codes "gen")) refl (bytes_eq name (codes "big")) refl h
  where
    by :
        (a : Bool) → bytes_eq name (codes "gen") ≡ a → (b : Bool) → bytes_eq name (codes "big") ≡ b
        → (if a then Ok (Gen n) else if b then Ok (Big n) else Err BadWords) ≡ Ok c → is_plain name ≡ true
    by true e b f k = ap is_plain ((bytes_eq-Decides name (codes "gen")).0 e)
    by false e true f k = ap is_plain ((bytes_eq-Decides name (codes "big")).0 f)
    by false e false f k = absurd cc

pair-plain : (name number : List ℕ) (r : Result ℕ Why) (c : Command) → number_of number ≡ r → with_number name r ≡ Ok c →
    are_plain (name ∷ number ∷ []) ≡ true
pair-plain name number (Err why) c e h = absurd cc
pair-plain name number (Ok n) c e h = rw (name-plain name n c h, number-plain number n e) refl

numbered-plain : (words : List (List ℕ)) (c : Command) → numbered_of words ≡ Ok c → are_plain words ≡ true
numbered-plain [] c h = absurd cc
numbered-plain (name ∷ []) c h = absurd cc
numbered-plain (name ∷ number ∷ []) c h = pair-plain name number (number_of number) c refl h
numbered-plain (name ∷ number ∷ word ∷ words) c h = absurd cc

-- the words of a command are plain, and so are those that are read as another
or_words :
    (words names : List (List ℕ)) (d c : Command) (other : Result Command WordsFault) → are_plain names ≡ true
    → (other ≡ Ok c → are_plain words ≡ true) → (if same_words words names then Ok d else other) ≡ Ok c → are_plain words ≡ true
or_words words names d c other plain rest h = by (same_words words names) refl h
  where
    by : (same : Bool) → same_words words names ≡ same → (if same then Ok d else other) ≡ Ok c → are_plain words ≡ true
    by true is k = ap are_plain (same_words-equal words names is) ∙ plain
    by false is k = rest k

command-plain : (words : List (List ℕ)) (c : Command) → read_of words ≡ Ok c → are_plain words ≡ true
command-plain words c h =
    or_words words (codes "check" ∷ []) Check c _ refl
    (or_words words (codes "sim" ∷ codes "coarse" ∷ []) (Sim Coarse Report) c _ refl
    (or_words words (codes "sim" ∷ codes "coarse" ∷ codes "trace" ∷ []) (Sim Coarse Trace) c _ refl
    (or_words words (codes "sim" ∷ codes "fine" ∷ []) (Sim Fine Report) c _ refl
    (or_words words (codes "sim" ∷ codes "fine" ∷ codes "trace" ∷ []) (Sim Fine Trace) c _ refl
    (or_words words (codes "run" ∷ []) (Run Report) c _ refl
    (or_words words (codes "run" ∷ codes "trace" ∷ []) (Run Trace) c _ refl
    (or_words words (codes "replay" ∷ []) Replay c _ refl
    (or_words words (codes "race" ∷ []) Race c _ refl
    (or_words words (codes "cost" ∷ []) Cost c _ refl (numbered-plain words c)))))))))) h

-- words that are not plain name no command
pub unplain : (words : List (List ℕ)) (P : Command → Type 0) → are_plain words ≡ false → IfOk (read_of words) P
unplain words P h = by (read_of words) refl
  where
    by : (r : Result Command WordsFault) → read_of words ≡ r → IfOk r P
    by (Ok c) e = absurd (true≢false (sym (command-plain words c e) ∙ h))
    by (Err f) e = tt

-- what follows for each command, or for each fault
pub named-as : (r : Result Command WordsFault) (P Q : Command → Type 0) → ((d : Command) → P d → Q d) → IfOk r P → IfOk r Q
named-as (Ok d) P Q h holds = h d holds
named-as (Err f) P Q h holds = tt

pub unnamed-as : (r : Result Command WordsFault) (P Q : WordsFault → Type 0) → ((f : WordsFault) → P f → Q f) → IfErr r P → IfErr r Q
unnamed-as (Ok d) P Q h holds = tt
unnamed-as (Err f) P Q h holds = h f holds
