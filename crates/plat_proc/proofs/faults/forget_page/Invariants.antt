use Rattle.std.proofs.Common.{◌≡◌, map, drop}
use Rattle.plat_base.specs.Pages.{entries_of_page}
use Rattle.plat_base.specs.Seen.{machine}
use Rattle.plat_proc.proofs.ForgetLemmas.{without_these}
use Rattle.plat_proc.proofs.faults.forget_page.Given as goal

-- without the entries that are left, it is what it was without all entries of the page
abbrev pub invariant-loop-entry : goal.invariant-loop-entry
invariant-loop-entry l =
    map (without_these (drop l.entry-index (entries_of_page (machine l.cfg) l.page))) l.atc
    ≡ map (without_these (entries_of_page (machine l.cfg) l.page)) l.initial.atc
