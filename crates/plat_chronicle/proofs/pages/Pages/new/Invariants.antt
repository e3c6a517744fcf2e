use Rattle.std.proofs.Common.{[]}
use Rattle.plat_chronicle.specs.Pages.{ShowsPages}
use Rattle.plat_chronicle.proofs.pages.Pages.new.Given as goal

abbrev pub invariant-loop-page : goal.invariant-loop-page
invariant-loop-page l = ShowsPages l._page [] l.states.items
