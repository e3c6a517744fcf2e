use Rattle.std.proofs.Common.{◌≡◌, ℕ, ◌<◌, [], length}
use Rattle.std.specs.Prelude.{slice_index_or, None, replicate}
use Rattle.plat_chronicle.proofs.translations.Translations.new.Given as goal

abbrev pub invariant-loop-q : goal.invariant-loop-q
invariant-loop-q l =
    (length l.pmaps.items ≡ l._q)
    × ((q : ℕ) → q < l._q → slice_index_or l.pmaps.items q [] ≡ replicate (length l.cfg.entries.items) None)
