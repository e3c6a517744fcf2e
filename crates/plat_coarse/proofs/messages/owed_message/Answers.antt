use Rattle.std.proofs.Common.{◌≡◌, Some, ap, sym, ◌∙◌}
use Rattle.plat_base.specs.Machine.{Machine}
use Rattle.plat_base.specs.Pages.{page_of}
use Rattle.plat_base.specs.Held.{held}
use Rattle.plat_coarse.proofs.messages.owed_message.Goals as goal

-- the translation that is held is of the entry's page
pub returns : goal.returns
returns c =
    let m = c.args.chronicle.now.machine in
    let page : c.page_of-page.result ≡ page_of m c.args.entry = c.page_of-page.ensures.page
    ∙ ap (λ (m : Machine). page_of m c.args.entry) c.config.ensures in
    let holds : held m c.args.chronicle.now.items c.args.q c.args.entry ≡ Some c.in_ok-translation.translation = sym c.held.ensures
    ∙ c.in_ok-translation.was in
    rw (holds, ← page) c.owed_for.ensures
