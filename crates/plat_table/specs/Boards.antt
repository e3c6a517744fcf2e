-- what a board keeps
use Rattle.std.specs.Prelude.{◌≡◌, ℕ, ◌≤◌, List, [], length}
use Rattle.plat_base.specs.Seen.{machine}
use Rattle.plat_base.specs.Roomy.{Roomy}
use Rattle.plat_base.specs.Rooms.{JournalsSeen, journal_rooms}
use Rattle.plat_base.specs.declared.configs.Config.{Config}
use Rattle.plat_base.specs.declared.endings.Ended.{Ended}
use Rattle.plat_events.specs.Places.{word_count}
use Rattle.plat_events.specs.Privates.{actor_count}
use Rattle.atomic_table.specs.Seated.{TableId}

-- the table is of the machine, and there is room for what the run leaves
pub record IsReady (cfg key : Config) (table : TableId) (words : List ℕ) (journals : JournalsSeen) (ends : Roomy Ended) : Type 0 where
  pub key_is : key ≡ cfg
  pub table_words : table.words ≡ word_count (machine cfg)
  pub no_slot : table.slots ≡ 0
  pub words_room : length words ≡ word_count (machine cfg)
  pub rooms : journals.rooms ≡ journal_rooms (machine cfg)
  pub lists : length journals.lists ≡ actor_count (machine cfg)
  pub no_end : ends.items ≡ []
  pub ends_room : cfg.nodes ≤ ends.spare
