-- the lines of counts, by the counts
use Rattle.std.specs.Prelude.{ℕ, List, [], ◌∷◌, codes, slice_index_or}
use Rattle.std.specs.Fmt.{decimal}
use Rattle.plat_base.specs.Cache.{Cache}
use Rattle.plat_base.specs.Canon.{Words}
use Rattle.plat_report.specs.Actors.{no_counts}
use Rattle.plat_report.specs.declared.actors.ActorCounts.{ActorCounts}
use Rattle.plat_report.specs.declared.counts.AccessCounts.{AccessCounts}
use Rattle.plat_report.specs.declared.counts.ChangeCounts.{ChangeCounts}
use Rattle.plat_report.specs.declared.counts.AppliedCounts.{AppliedCounts}
use Rattle.plat_report.specs.declared.totals.Totals.{Totals}

abbrev pub access_words : ℕ → AccessCounts → Words
access_words q counts =
    codes "access" ∷ decimal q
    ∷ codes "loads" ∷ decimal counts.loads
    ∷ codes "stores" ∷ decimal counts.stores
    ∷ codes "adds" ∷ decimal counts.adds
    ∷ codes "local" ∷ decimal counts.local
    ∷ codes "remote" ∷ decimal counts.remote
    ∷ []

abbrev pub cache_words : ℕ → Cache → Words
cache_words q cache = codes "atc" ∷ decimal q ∷ codes "hits" ∷ decimal cache.hits ∷ codes "misses" ∷ decimal cache.misses ∷ []

abbrev pub count_words : ℕ → ActorCounts → List Words
count_words q counts = access_words q counts.accesses ∷ cache_words q counts.cache ∷ []

-- the lines of processor q, of the counts of all
abbrev pub counts_words : List ActorCounts → ℕ → List Words
counts_words counts q = count_words q (slice_index_or counts q no_counts)

abbrev pub changes_words : ChangeCounts → Words
changes_words counts =
    codes "changes"
    ∷ codes "fill" ∷ decimal counts.fills
    ∷ codes "maplocal" ∷ decimal counts.local_maps
    ∷ codes "mapremote" ∷ decimal counts.remote_maps
    ∷ codes "replicate" ∷ decimal counts.replications
    ∷ codes "migrate" ∷ decimal counts.migrations
    ∷ codes "collapse" ∷ decimal counts.collapses
    ∷ codes "thaw" ∷ decimal counts.thaws
    ∷ codes "freezes" ∷ decimal counts.freezes
    ∷ []

abbrev pub applied_words : AppliedCounts → Words
applied_words counts =
    codes "applied" ∷ codes "interrupt" ∷ decimal counts.at_interrupt ∷ codes "activation" ∷ decimal counts.at_activation ∷ []

abbrev pub total_words : Totals → ℕ → List Words
total_words totals items = changes_words totals.changes ∷ applied_words totals.applied ∷ (codes "items" ∷ decimal items ∷ []) ∷ []
