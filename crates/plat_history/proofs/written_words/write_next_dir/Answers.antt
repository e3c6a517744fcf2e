use Rattle.plat_history.proofs.AddsLemmas.{adds_then}
use Rattle.plat_history.proofs.written_words.write_next_dir.Goals as goal

pub returns : goal.returns
returns g c =
    adds_then g.K.Sink _ _ _ _ _ _ _ c.in_ok-write_all.ensures
    (adds_then g.K.Sink _ _ _ _ _ _ _ (rw c.head_word.ensures at c.in_ok-write_all-2.ensures) c.write_copies.ensures)
