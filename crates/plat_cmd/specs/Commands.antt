-- the words of the command line
use Rattle.std.specs.Prelude.{ℕ, Bool, List, [], ◌∷◌, Result, Ok, Err, codes, nat_eq, if◌then◌else◌}
use Rattle.std.specs.Str.{bytes_eq}
use lib.Pointwise.{pointwise}
use Rattle.plat_grammar.specs.Lines.{number_of}
use Rattle.plat_base.specs.declared.faults.Why.{Why}
use Rattle.plat_cmd.specs.declared.words.Command.{Command}
use Rattle.plat_cmd.specs.declared.words.Command.TheVariants.{Check, Sim, Run, Replay, Race, Cost, Gen, Big}
use Rattle.plat_cmd.specs.declared.words.Grain.TheVariants.{Coarse, Fine}
use Rattle.plat_cmd.specs.declared.words.Output.TheVariants.{Report, Trace}
use Rattle.plat_cmd.specs.declared.words.WordsFault.{WordsFault}
use Rattle.plat_cmd.specs.declared.words.WordsFault.TheVariants.{BadWords}

abbrev pub same_words : List (List ℕ) → List (List ℕ) → Bool
same_words vs ws = pointwise (λ v w. pointwise nat_eq v w) vs ws

-- the command of this name with a number
abbrev pub with_number : List ℕ → Result ℕ Why → Result Command WordsFault
with_number name (Err why) = Err BadWords
with_number name (Ok n) =
    if bytes_eq name (codes "gen") then Ok (Gen n) else if bytes_eq name (codes "big") then Ok (Big n) else Err BadWords

-- a name and a number
abbrev pub numbered_of : List (List ℕ) → Result Command WordsFault
numbered_of [] = Err BadWords
numbered_of (name ∷ []) = Err BadWords
numbered_of (name ∷ number ∷ []) = with_number name (number_of number)
numbered_of (name ∷ number ∷ word ∷ words) = Err BadWords

-- the command that words name, or BadWords for all other words
abbrev pub read_of : List (List ℕ) → Result Command WordsFault
read_of words =
    if same_words words (codes "check" ∷ []) then Ok Check
    else if same_words words (codes "sim" ∷ codes "coarse" ∷ []) then Ok (Sim Coarse Report)
    else if same_words words (codes "sim" ∷ codes "coarse" ∷ codes "trace" ∷ []) then Ok (Sim Coarse Trace)
    else if same_words words (codes "sim" ∷ codes "fine" ∷ []) then Ok (Sim Fine Report)
    else if same_words words (codes "sim" ∷ codes "fine" ∷ codes "trace" ∷ []) then Ok (Sim Fine Trace)
    else if same_words words (codes "run" ∷ []) then Ok (Run Report)
    else if same_words words (codes "run" ∷ codes "trace" ∷ []) then Ok (Run Trace)
    else if same_words words (codes "replay" ∷ []) then Ok Replay
    else if same_words words (codes "race" ∷ []) then Ok Race
    else if same_words words (codes "cost" ∷ []) then Ok Cost
    else numbered_of words
