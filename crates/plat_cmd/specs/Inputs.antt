-- what commands read
use Rattle.std.specs.Prelude.{◌≡◌, ℕ, ◌+◌, ◌≤◌, ◌↔◌, Bool, true, false, List, Option, IfSome, IsTrue, Ok, Err}
use Rattle.plat_base.specs.Machine.{Machine}
use Rattle.plat_base.specs.Canon.{is_short, most_bytes}
use Rattle.plat_grammar.specs.Grammar.{IsMachine, IsTextOf}
use Rattle.plat_grammar.specs.FirstFault.{text_at}
use Rattle.plat_grammar.specs.Forms.{refused}
use Rattle.plat_grammar.specs.HistoryCanon.{History, most_history_bytes}
use Rattle.plat_grammar.specs.HistoryGrammar.{IsHistory, IsHistoryTextOf}
use Rattle.plat_grammar.specs.HistoryFaults.{history_at}
use Rattle.plat_base.specs.declared.faults.Refused.{Refused}
use Rattle.plat_base.specs.declared.faults.Why.TheVariants as why
use Rattle.plat_io.specs.Streams.{IsAtEnd}
use Rattle.plat_io.specs.Takes.{TakesCount}
use Rattle.plat_io.specs.declared.sources.Source.{Ghosts}
use Rattle.plat_cmd.specs.declared.words.Command.{Command}
use Rattle.plat_cmd.specs.declared.words.Command.TheVariants as command

pub data Input : Type 0 where
  machine_text : Input
  history_text : Input
  nothing : Input

-- what a command reads
abbrev pub input_of : Command → Input
input_of command.Check = machine_text
input_of (command.Sim grain output) = machine_text
input_of (command.Run output) = machine_text
input_of command.Replay = history_text
input_of command.Race = history_text
input_of command.Cost = history_text
input_of (command.Gen n) = nothing
input_of (command.Big n) = nothing

abbrev pub reads_some : Input → Bool
reads_some machine_text = true
reads_some history_text = true
reads_some nothing = false

-- ---- how much is taken of a source

-- the most bytes of a text
abbrev pub limit_of : Input → ℕ
limit_of machine_text = most_bytes
limit_of history_text = most_history_bytes
limit_of nothing = 0

-- the refusal of a text that is too long: it has no place
abbrev pub too_long : Refused
too_long = refused 0 0 why.TooLong

-- at most one byte above the limit was taken, from the front of what the source told, and the text is too long exactly where that
-- byte was
abbrev pub TakesText : Input → (told left : Option (List ℕ)) → (IsTooLong : Type 0) → Type 0
TakesText i told left IsTooLong = (n : ℕ) × TakesCount n told left × (n ≤ limit_of i + 1) × (IsTooLong ↔ (n ≡ limit_of i + 1))

-- ---- what each kind of input tells

abbrev pub Told : Input → Type 0
Told machine_text = Machine
Told history_text = History
Told nothing = Unit {0}

-- a source was read to its end, and what it told, if it told it, is a text of m that is read as m; m is within all limits
-- of a machine that is read, so its canonical text is one too
pub record IsToldAs (told left : Option (List ℕ)) (m : Machine) : Type 0 where
  pub machine : IsMachine m
  pub short : IsTrue (is_short m)
  pub text : IfSome told (λ bytes. IsTextOf bytes m)
  pub read : IfSome told (λ bytes. text_at bytes ≡ Ok m)
  pub all : IsAtEnd left

-- a source was read to its end, and what it told, if it told it, is a text of h that is read as h
pub record IsToldHistory (told left : Option (List ℕ)) (h : History) : Type 0 where
  pub ranges : IsHistory h
  pub text : IfSome told (λ bytes. IsHistoryTextOf bytes h)
  pub read : IfSome told (λ bytes. history_at bytes ≡ Ok h)
  pub all : IsAtEnd left

-- this was read of the source
abbrev pub IsRead : {S : Type 0} (i : Input) → Ghosts S → (before after : S) → Told i → Type 0
IsRead machine_text source before after m = IsToldAs (source.left before) (source.left after) m
IsRead history_text source before after h = IsToldHistory (source.left before) (source.left after) h
IsRead nothing source before after it = after ≡ before

-- whatever is told by the bytes that a source told, if they are a text, this holds of it
abbrev pub IfTold : (i : Input) → Option (List ℕ) → (Told i → Type 0) → Type 0
IfTold machine_text told P = IfSome told (λ bytes. (m : Machine) → IsMachine m → IsTextOf bytes m → P m)
IfTold history_text told P = IfSome told (λ bytes. (h : History) → IsHistory h → IsHistoryTextOf bytes h → P h)
IfTold nothing told P = P (tt {0})

-- bytes are no text, and this is their first fault
abbrev pub IsFault : Input → List ℕ → Refused → Type 0
IsFault machine_text bytes refused = text_at bytes ≡ Err refused
IsFault history_text bytes refused = history_at bytes ≡ Err refused
IsFault nothing bytes refused = ⊥

-- something was read, and this holds of it
abbrev pub HasRead : {S : Type 0} (i : Input) → Ghosts S → (before after : S) → (Told i → Type 0) → Type 0
HasRead i source before after Done = (it : Told i) × IsRead i source before after it × Done it
