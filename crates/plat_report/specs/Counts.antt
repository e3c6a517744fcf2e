-- the counts of a report, and each of them after one more item
use Rattle.std.specs.Prelude.{ℕ, ◌+◌, ◌<◌, not, if◌then◌else◌, Bool, List}
use Rattle.plat_base.specs.Items.{is_access_that, is_change_that, is_applied_that}
use Rattle.plat_base.specs.Report.{accesses_that, changes_that, applied_that, is_kind_by}
use Rattle.plat_base.specs.Report.{is_local_by, is_remote_by, is_action, is_freeze, is_at_interrupt}
use Rattle.plat_base.specs.declared.items.Kind.TheVariants as kind
use Rattle.plat_base.specs.declared.items.Action.TheVariants as action
use Rattle.plat_base.specs.declared.items.Item.{Item}
use Rattle.plat_report.specs.declared.counts.AccessCounts.{AccessCounts}
use Rattle.plat_report.specs.declared.counts.ChangeCounts.{ChangeCounts}
use Rattle.plat_report.specs.declared.counts.AppliedCounts.{AppliedCounts}
use Rattle.plat_report.specs.declared.totals.Totals.{Totals}

-- the largest u32, below which a count can rise
abbrev pub most : ℕ
most = 4294967295

abbrev pub one_more : Bool → ℕ → ℕ
one_more counts n = if counts then n + 1 else n

-- ---- the accesses of processor q

abbrev pub access_counts : ℕ → List Item → AccessCounts
access_counts q items = record {
  loads = accesses_that (is_kind_by q kind.Load) items;
  stores = accesses_that (is_kind_by q kind.Store) items;
  adds = accesses_that (is_kind_by q kind.Add) items;
  local = accesses_that (is_local_by q) items;
  remote = accesses_that (is_remote_by q) items;
}

abbrev pub with_access : ℕ → AccessCounts → Item → AccessCounts
with_access q counts i = record {
  loads = one_more (is_access_that (is_kind_by q kind.Load) i) counts.loads;
  stores = one_more (is_access_that (is_kind_by q kind.Store) i) counts.stores;
  adds = one_more (is_access_that (is_kind_by q kind.Add) i) counts.adds;
  local = one_more (is_access_that (is_local_by q) i) counts.local;
  remote = one_more (is_access_that (is_remote_by q) i) counts.remote;
}

pub record AccessRoom (counts : AccessCounts) : Type 0 where
  pub loads : counts.loads < most
  pub stores : counts.stores < most
  pub adds : counts.adds < most
  pub local : counts.local < most
  pub remote : counts.remote < most

-- ---- the changes of pages

abbrev pub change_counts : List Item → ChangeCounts
change_counts items = record {
  fills = changes_that (is_action action.Fill) items;
  local_maps = changes_that (is_action action.MapLocal) items;
  remote_maps = changes_that (is_action action.MapRemote) items;
  replications = changes_that (is_action action.Replicate) items;
  migrations = changes_that (is_action action.Migrate) items;
  collapses = changes_that (is_action action.Collapse) items;
  thaws = changes_that (is_action action.Thaw) items;
  freezes = changes_that is_freeze items;
}

abbrev pub with_change : ChangeCounts → Item → ChangeCounts
with_change counts i = record {
  fills = one_more (is_change_that (is_action action.Fill) i) counts.fills;
  local_maps = one_more (is_change_that (is_action action.MapLocal) i) counts.local_maps;
  remote_maps = one_more (is_change_that (is_action action.MapRemote) i) counts.remote_maps;
  replications = one_more (is_change_that (is_action action.Replicate) i) counts.replications;
  migrations = one_more (is_change_that (is_action action.Migrate) i) counts.migrations;
  collapses = one_more (is_change_that (is_action action.Collapse) i) counts.collapses;
  thaws = one_more (is_change_that (is_action action.Thaw) i) counts.thaws;
  freezes = one_more (is_change_that is_freeze i) counts.freezes;
}

pub record ChangeRoom (counts : ChangeCounts) : Type 0 where
  pub fills : counts.fills < most
  pub local_maps : counts.local_maps < most
  pub remote_maps : counts.remote_maps < most
  pub replications : counts.replications < most
  pub migrations : counts.migrations < most
  pub collapses : counts.collapses < most
  pub thaws : counts.thaws < most
  pub freezes : counts.freezes < most

-- ---- the applied messages

abbrev pub applied_counts : List Item → AppliedCounts
applied_counts items = record {
  at_interrupt = applied_that is_at_interrupt items;
  at_activation = applied_that (λ x. not (is_at_interrupt x)) items;
}

abbrev pub with_applied : AppliedCounts → Item → AppliedCounts
with_applied counts i = record {
  at_interrupt = one_more (is_applied_that is_at_interrupt i) counts.at_interrupt;
  at_activation = one_more (is_applied_that (λ x. not (is_at_interrupt x)) i) counts.at_activation;
}

pub record AppliedRoom (counts : AppliedCounts) : Type 0 where
  pub at_interrupt : counts.at_interrupt < most
  pub at_activation : counts.at_activation < most

-- ---- the whole history

abbrev pub totals_of : List Item → Totals
totals_of items = record { changes = change_counts items; applied = applied_counts items }

abbrev pub with_total : Totals → Item → Totals
with_total totals i = record { changes = with_change totals.changes i; applied = with_applied totals.applied i }

pub record TotalRoom (totals : Totals) : Type 0 where
  pub changes : ChangeRoom totals.changes
  pub applied : AppliedRoom totals.applied
