use Rattle.std.proofs.Common.{◌≡◌, ℕ, ◌<◌, List, true}
use Rattle.plat_base.specs.Seen.{machine}
use Rattle.plat_base.specs.Rules.{is_in_order}
use Rattle.plat_base.specs.declared.items.Item.{Item}
use Rattle.plat_chronicle.specs.Present.{Shows}
use Rattle.plat_follow.specs.Followed.{AllFollow}
use Rattle.plat_judge.proofs.ends.are_ends.Given as goal

-- the ends of the processors before the next one are those of their guests
abbrev pub invariant-loop-q : goal.invariant-loop-q
invariant-loop-q l =
    (items : List Item) → Shows (machine l.cfg) items l.present → AllFollow (machine l.cfg) items l.followers
    → (k : ℕ) → k < l.q → is_in_order (machine l.cfg) items l.ends k ≡ true
