-- what contracts see of lines, tokens and rows: the lines, words and rows of `plat_base`
use Rattle.std.specs.Prelude.{◌+◌, [], ◌∷◌, length}
use Rattle.plat_grammar.specs.Lines.{LineText, Word, words_of}
use Rattle.plat_grammar.specs.Forms.{Row, Rest, finished, broken}
use Rattle.plat_text.specs.declared.feeds.Line.{Line}
use Rattle.plat_text.specs.declared.tokens.Token.{Token}
use Rattle.plat_text.specs.declared.ahead.Ahead.{Ahead}
use Rattle.plat_text.specs.declared.ahead.Ahead.TheVariants as ahead

abbrev pub line_text : Line → LineText
line_text l = record { number = l.number; bytes = l.bytes.now; ended = l.ended }

abbrev pub word : Token → Word
word t = record { column = t.column; bytes = t.bytes.now }

-- the row of a line that has words
abbrev pub row_for : Line → Row
row_for l = record { line = l.number; end = length l.bytes.now + 1; words = words_of l.bytes.now }

-- what is still to read, where the next row was looked for already and the other rows are these
abbrev pub with_ahead : Ahead → Rest → Rest
with_ahead (ahead.Next l) rest = record { rows = row_for l ∷ rest.rows; stop = rest.stop }
with_ahead (ahead.Finished line) rest = record { rows = []; stop = finished line }
with_ahead (ahead.Broken fault) rest = record { rows = []; stop = broken fault }
