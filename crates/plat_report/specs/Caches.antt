-- the cache of a processor after one of its own accesses
use Rattle.std.specs.Prelude.{◌/◌}
use Rattle.plat_base.specs.Machine.{Machine}
use Rattle.plat_base.specs.Pages.{entry_at}
use Rattle.plat_base.specs.Flat.{is_write}
use Rattle.plat_base.specs.Cache.{Cache, accessed_through}
use Rattle.plat_base.specs.declared.items.Access.{Access}

abbrev pub with_access : Machine → Access → Cache → Cache
with_access m a c = accessed_through (entry_at m a.space (a.addr / m.words)) (a.addr / m.words) (is_write a.kind) c
