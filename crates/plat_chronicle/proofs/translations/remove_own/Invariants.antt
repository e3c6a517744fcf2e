use Rattle.std.proofs.Common.{◌≡◌, ℕ, ◌<◌, length, take, None}
use Rattle.std.specs.Prelude.{slice_index_or, if◌then◌else◌, ◌==◌}
use Rattle.std.specs.List.{list_any}
use Rattle.plat_base.specs.Seen.{machine}
use Rattle.plat_base.specs.Pages.{entries_of_page}
use Rattle.plat_base.specs.Held.{kept_of}
use Rattle.plat_chronicle.proofs.translations.remove_own.Given as goal

-- the page's entries before the next one are done, the others are as they were
abbrev pub invariant-loop-entry : goal.invariant-loop-entry
invariant-loop-entry l =
    (length l.pmap ≡ length l.fn.pmap)
    × ((other : ℕ) → other < length l.pmap
    → slice_index_or l.pmap other None
    ≡ (if list_any (λ k. k == other) (take l.entry-index (entries_of_page (machine l.cfg) l.page))
    then kept_of l.removed (slice_index_or l.fn.pmap other None)
    else slice_index_or l.fn.pmap other None))
