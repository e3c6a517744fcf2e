-- lines of words that are written to a sink
use Rattle.std.specs.Prelude.{ℕ, List, ◌∷◌, Result}
use Rattle.std.specs.Fmt.{decimal}
use Rattle.plat_base.specs.Text.{text_bytes}
use Rattle.plat_io.specs.Adds.{Adds}
use Rattle.plat_io.specs.declared.sinks.Sink.{Ghosts}
use Rattle.plat_io.specs.declared.lines.Word.{Word}
use Rattle.plat_io.specs.declared.lines.Word.TheVariants.{Text, Number, Lettered}

-- the bytes of a word
abbrev pub spelling : Word → List ℕ
spelling (Text bytes) = bytes.now
spelling (Number n) = decimal n
spelling (Lettered letter n) = letter ∷ decimal n

-- the bytes of lines of words, shut, so that a text is put together line by line
unfoldable pub text : List (List (List ℕ)) → List ℕ
text lines = text_bytes lines

-- a writing of lines of words
abbrev pub AddsLines : {K E : Type 0} → Ghosts K → K → K → Result (Unit {0}) E → List (List (List ℕ)) → Type 0
AddsLines sink old new result lines = Adds sink old new result (text lines)
