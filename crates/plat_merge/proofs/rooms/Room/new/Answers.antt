use Rattle.std.proofs.Common.{◌≡◌, refl, arith}
use Rattle.plat_base.specs.Seen.{machine}
use Rattle.plat_base.proofs.RoomLemmas.{journal_rooms-most}
use Rattle.plat_base.specs.declared.limits.TheConstants.{MOST_ITEMS}
use Rattle.plat_merge.proofs.rooms.Room.new.Goals as goal

most_is : MOST_ITEMS ≡ 2621440
most_is = refl

pub new-requires-2-clause-most : goal.new-requires-2-clause-most
new-requires-2-clause-most c = omega (
  arith,
  c.most_items-most.ensures,
  journal_rooms-most (machine c.args.cfg.now) c.args.cfg.now.limits,
  most_is,
)
