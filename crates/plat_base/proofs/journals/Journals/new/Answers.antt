use Rattle.std.proofs.Common.{◌≡◌, ℕ, ◌*◌, List, ◌++◌, replicate, Option, ap, ◌∙◌, arith}
use mir.Val.{bool_byte}
use Rattle.std.specs.Option.{option_to_list}
use Rattle.plat_base.specs.Rooms.{lists_seen}
use Rattle.plat_base.proofs.RoomLemmas.{empties, fit_rooms-empties, empties-rooms}
use Rattle.plat_base.proofs.journals.Journals.new.Goals as goal

abbrev rooms : goal.After-loop → Option ℕ → List ℕ
rooms c daemon = replicate c.args.cfg.now.nodes (4 * c.args.cfg.now.budget) ++ option_to_list daemon

-- each actor's journal is empty
all_empty : (c : goal.After-loop) → lists_seen c.loop.lists.items ≡ empties (rooms c c.daemon_room-daemon_room.result)
all_empty c =
    c.loop.invariant.empty ∙ empties-rooms _ _ _ c.loop.counter (omega (arith, c.from.ensures ∙ ap bool_byte c.is_some.ensures))

pub invariant_of-result : goal.invariant_of-result
invariant_of-result c = rw (all_empty c) (fit_rooms-empties (rooms c c.daemon_room-daemon_room.result))

pub returns-clause-empty : goal.returns-clause-empty
returns-clause-empty c = all_empty c ∙ ap (λ (daemon : Option ℕ). empties (rooms c daemon)) c.daemon_room-daemon_room.ensures
