-- what a report counts of each processor, and its counts after one more item
use Rattle.std.specs.Prelude.{◌≡◌, ℕ, ◌<◌, List, length, slice_index_or}
use Rattle.plat_base.specs.Machine.{Machine}
use Rattle.plat_base.specs.Cache.{cache_start, cache_of, cache_after}
use Rattle.plat_base.specs.declared.items.Item.{Item}
use Rattle.plat_base.specs.declared.items.Item.TheVariants as item
use Rattle.plat_base.specs.declared.limits.TheConstants.{MODULES}
use Rattle.plat_report.specs.Counts.{most, access_counts, with_access, AccessRoom}
use Rattle.plat_report.specs.declared.actors.ActorCounts.{ActorCounts}

abbrev pub actor_of : Item → ℕ
actor_of (item.Access a) = a.actor
actor_of (item.Change c) = c.actor
actor_of (item.Applied x) = x.actor
actor_of (item.Switch s) = s.actor

-- the counts of processor q
abbrev pub actor_counts : Machine → List Item → ℕ → ActorCounts
actor_counts m items q = record { accesses = access_counts q items; cache = cache_of m items q }

-- those of no items, of whatever processor
abbrev pub no_counts : ActorCounts
no_counts = record {
  accesses = record { loads = 0; stores = 0; adds = 0; local = 0; remote = 0 };
  cache = cache_start;
}

abbrev pub with_item : Machine → ℕ → ActorCounts → Item → ActorCounts
with_item m q counts i = record { accesses = with_access q counts.accesses i; cache = cache_after m q counts.cache i }

pub record CountRoom (counts : ActorCounts) : Type 0 where
  pub accesses : AccessRoom counts.accesses
  pub hits : counts.cache.hits < most
  pub misses : counts.cache.misses < most

-- these are the counts of each processor
pub record ShowsCounts (m : Machine) (items : List Item) (counts : List ActorCounts) : Type 0 where
  pub size : length counts ≡ MODULES
  pub at : (q : ℕ) → q < MODULES → slice_index_or counts q no_counts ≡ actor_counts m items q
