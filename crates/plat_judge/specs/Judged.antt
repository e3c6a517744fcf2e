-- a judge as contracts see it, and the items that it has taken in
use Rattle.std.specs.Prelude.{◌<◌, List, [], length}
use Rattle.plat_base.specs.Machine.{Machine}
use Rattle.plat_base.specs.declared.items.Item.{Item}
use Rattle.plat_chronicle.specs.Chronicle.{most_items}
use Rattle.plat_chronicle.specs.Present.{PresentSeen, Shows}
use Rattle.plat_follow.specs.Followed.{FollowerSeen, AllStand, AllFollow}

-- the present of the items, and where each guest stands after them
pub record JudgeSeen : Type 0 where
  pub present : PresentSeen
  pub followers : List FollowerSeen

abbrev pub judge_of : PresentSeen → List FollowerSeen → JudgeSeen
judge_of present followers = record { present = present; followers = followers }

-- these are the items that it has taken in
pub record HasTaken (m : Machine) (items : List Item) (judge : JudgeSeen) : Type 0 where
  pub shows : Shows m items judge.present
  pub stand : AllStand m judge.followers
  pub follow : AllFollow m items judge.followers

-- it has taken in some items, and fewer than a history can have
abbrev pub HasTakenSome : Machine → JudgeSeen → Type 0
HasTakenSome m judge = (items : List Item) × HasTaken m items judge

abbrev pub HasRoom : Machine → JudgeSeen → Type 0
HasRoom m judge = (items : List Item) × HasTaken m items judge × (length items < most_items)

-- it was made for the machine, and has taken in nothing
abbrev pub IsJudgeOf : Machine → JudgeSeen → Type 0
IsJudgeOf m judge = HasTaken m [] judge
