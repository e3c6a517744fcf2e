-- the guest of a history is the guest of its actor's part of it
use Rattle.std.proofs.Common.{◌≡◌, ℕ, List, None, sym, subst, length}
use Rattle.std.specs.Prelude.{◌==◌}
use Rattle.plat_base.specs.Machine.{Machine}
use Rattle.plat_base.specs.Pages.{program_of}
use Rattle.plat_base.specs.GuestRun.{guest_run, GoesOn}
use Rattle.plat_base.specs.Done.{value_of, values_of, done_of, operations_of}
use Rattle.plat_base.specs.Held.{held, held_after, active, active_after}
use Rattle.plat_base.specs.declared.items.Item.{Item}
use Rattle.plat_base.specs.declared.items.Item.TheVariants as item
use Rattle.plat_laws.specs.Guests.{IsGuest}
use Rattle.plat_laws.proofs.ItemLaws.{fold-filter}
use Rattle.plat_events.specs.Shown.{actor_of, items_by}
use Rattle.plat_base.proofs.ListLemmas.{filter_map-filter}
use Rattle.plat_events.proofs.ActorLemmas.{value_of-other, done_of-other, active_after-other, held_after-other}

pub values_of-items_by : (q : ℕ) (items : List Item) → values_of q (items_by q items) ≡ values_of q items
values_of-items_by q items = filter_map-filter (value_of q) (λ i. actor_of i == q) (value_of-other q) items

pub operations_of-items_by : (q : ℕ) (items : List Item) → operations_of q (items_by q items) ≡ operations_of q items
operations_of-items_by q items = filter_map-filter (done_of q) (λ i. actor_of i == q) (done_of-other q) items

pub active-items_by : (m : Machine) (q : ℕ) (items : List Item) → active m (items_by q items) q ≡ active m items q
active-items_by m q items =
    fold-filter (active_after q) (λ i. actor_of i == q) (active_after-other q) (program_of m q).space items

pub held-items_by : (m : Machine) (q e : ℕ) (items : List Item) → held m (items_by q items) q e ≡ held m items q e
held-items_by m q e items =
    fold-filter (held_after m q e) (λ i. actor_of i == q) (held_after-other m q e) None items

-- where the journal is the actor's part of the history, its guest is that of the history
pub IsGuest-items_by : (m : Machine) (items : List Item) (t q : ℕ) → IsGuest m (items_by q items) t q → IsGuest m items t q
IsGuest-items_by m items t q g =
    let vs = values_of-items_by q items in
    record {
      made = subst (λ v. (guest_run m q v t).turns ≡ t) vs g.made;
      goes = subst (λ v. (guest_run m q v t).outcome ≡ GoesOn) vs g.goes;
      used = subst (λ v. (guest_run m q v t).used ≡ length v) vs g.used;
      done = rw (sym vs, sym (operations_of-items_by q items)) g.done;
      space = rw (sym vs, sym (active-items_by m q items)) g.space;
    }
