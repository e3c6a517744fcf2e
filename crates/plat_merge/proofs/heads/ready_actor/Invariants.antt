use Rattle.std.proofs.Common.{◌≡◌, ◌<◌, ℕ, false}
use Rattle.plat_merge.specs.Counts.{stands_by}
use Rattle.plat_merge.specs.Heads.{head_passes}
use Rattle.plat_merge.proofs.heads.ready_actor.Given as goal

abbrev pub invariant-loop-actor : goal.invariant-loop-actor
invariant-loop-actor l =
    (k : ℕ) → k < l.actor → head_passes (stands_by l.counts.page_words l.counts.words.items l.counts.pages.items) l.journals.lists l.next k
    ≡ false
