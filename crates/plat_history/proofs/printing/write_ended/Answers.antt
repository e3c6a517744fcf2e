use Rattle.plat_history.proofs.AddsLemmas.{adds_then, adds_begun}
use Rattle.plat_history.proofs.LineLemmas.{ended_line}
use Rattle.plat_history.proofs.printing.write_ended.Goals as goal

pub returns-in_err-write_word : goal.returns-in_err-write_word
returns-in_err-write_word g c = rw ended_line (adds_begun g.K.Sink _ _ _ _ _ _ c.from_residual.ensures.0 c.in_err-write_word.ensures)

pub returns-in_err-write_next_size : goal.returns-in_err-write_next_size
returns-in_err-write_next_size g c =
    rw ended_line
    (adds_then g.K.Sink _ _ _ _ _ _ _ c.in_ok-write_word.ensures
    (adds_begun g.K.Sink _ _ _ _ _ _ c.from_residual-in_err-write_next_size.ensures.0 c.in_err-write_next_size.ensures))

pub returns-in_err-write_next_words : goal.returns-in_err-write_next_words
returns-in_err-write_next_words g c =
    rw ended_line
    (adds_then g.K.Sink _ _ _ _ _ _ _ c.in_ok-write_word.ensures
    (adds_then g.K.Sink _ _ _ _ _ _ _ c.in_ok-write_next_size.ensures
    (adds_begun g.K.Sink _ _ _ _ _ _ c.from_residual-in_err-write_next_words.ensures.0
    (rw c.end_word.ensures at c.in_err-write_next_words.ensures))))

pub returns : goal.returns
returns g c =
    rw ended_line
    (adds_then g.K.Sink _ _ _ _ _ _ _ c.in_ok-write_word.ensures
    (adds_then g.K.Sink _ _ _ _ _ _ _ c.in_ok-write_next_size.ensures
    (adds_then g.K.Sink _ _ _ _ _ _ _ (rw c.end_word.ensures at c.in_ok-write_next_words.ensures) c.end_line.ensures)))
