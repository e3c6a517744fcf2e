-- what the rule of an item reads of the items before it: its actor's own items, the writes of its word, the changes of its
-- page, and whether a later change took its translation away
use Rattle.std.specs.Prelude.{◌≡◌, ℕ, zero, suc, ◌/◌, ◌==◌, nat_lt, nat_le, ◌&&◌, ◌||◌, not, if◌then◌else◌, Bool, List, Option, Some, None}
use Rattle.std.specs.Prelude.{is_none}
use Rattle.std.proofs.Common.{refl, ap, ◌∙◌}
use Rattle.plat_base.specs.Verdicts.{Answer}
use Rattle.plat_base.specs.Machine.{Machine}
use Rattle.plat_base.specs.Pages.{entry_at}
use Rattle.plat_base.specs.GuestRun.{guest_run, want_of, Operation, Reaches, Switches, GoesOn}
use Rattle.plat_base.specs.Done.{Done, values_of, operations_of, are_done}
use Rattle.plat_base.specs.Flat.{is_write, flat_value, flat_writes}
use Rattle.plat_base.specs.Directories.{dir_of, seq_of, last_of}
use Rattle.plat_base.specs.Decide.{decide, may_decide, is_frame}
use Rattle.plat_base.specs.Held.{held, held_through, active, has_right, later, removes_all, removes_writes}
use Rattle.plat_base.specs.Alike.{same_cause, same_dir}
use Rattle.plat_base.specs.Ends.{ended_of}
use Rattle.plat_base.specs.Rules.{next_operation, is_access_next, is_switch_next, has_daemon, is_decided, is_ordered_access}
use Rattle.plat_base.specs.Rules.{entry_of_access, is_grant_of, is_granted, is_legal, is_fault_of, is_fault_decision, is_fault_change}
use Rattle.plat_base.specs.Rules.{is_thaw_change, is_chained, stands, wants_operation, wants_right, is_end, is_in_order, unless, bad_rule}
use Rattle.plat_base.specs.declared.endings.End.{End}
use Rattle.plat_base.specs.declared.endings.End.TheVariants as end
use Rattle.plat_base.specs.declared.endings.Ended.{Ended}
use Rattle.plat_base.specs.declared.guests.Want.{Want}
use Rattle.plat_base.specs.declared.guests.Want.TheVariants as want
use Rattle.plat_base.specs.declared.items.Cause.TheVariants as cause
use Rattle.plat_base.specs.declared.items.Grant.{Grant}
use Rattle.plat_base.specs.declared.items.Translation.{Translation}
use Rattle.plat_base.specs.declared.items.Access.{Access}
use Rattle.plat_base.specs.declared.items.Applied.{Applied}
use Rattle.plat_base.specs.declared.items.Change.{Change}
use Rattle.plat_base.specs.declared.items.Switch.{Switch}
use Rattle.plat_base.specs.declared.items.Item.{Item}
use Rattle.plat_base.specs.declared.items.Item.TheVariants as item
use Rattle.plat_base.specs.declared.statuses.Rule.TheVariants as rule

-- the same of what an actor's own items say
pub record SameOwn (m : Machine) (xs ys : List Item) (q : ℕ) : Type 0 where
  pub values : values_of q xs ≡ values_of q ys
  pub operations : operations_of q xs ≡ operations_of q ys
  pub holds : (e : ℕ) → held m xs q e ≡ held m ys q e
  pub is_in : active m xs q ≡ active m ys q

-- of what the writes of a word say
pub record SameWord (m : Machine) (xs ys : List Item) (page word : ℕ) : Type 0 where
  pub value : flat_value m xs page word ≡ flat_value m ys page word
  pub writes : flat_writes xs page word ≡ flat_writes ys page word

-- of what the changes of a page say
pub record SamePage (xs ys : List Item) (page : ℕ) : Type 0 where
  pub dir : dir_of xs page ≡ dir_of ys page
  pub seq : seq_of xs page ≡ seq_of ys page
  pub last : last_of xs page ≡ last_of ys page

-- nothing took the translation of the access away in the ones that did not in the others
pub record SameRemovals (xs ys : List Item) (a : Access) : Type 0 where
  pub all : later removes_all xs a.page a.grant ≡ later removes_all ys a.page a.grant
  pub writes : (is_write a.kind && later removes_writes xs a.page a.grant) ≡ (is_write a.kind && later removes_writes ys a.page a.grant)

-- ---- own items

-- how a processor that was cut stands, of the values and the operations that it reads
abbrev is_cut_by : Machine → (q : ℕ) → List ℕ → List Done → ℕ → Bool
is_cut_by m q vs done t =
    let r = guest_run m q vs t
    in stands r t GoesOn
    && (are_done (guest_run m q vs (suc t)).operations done || (wants_operation (want_of m q r.state) && are_done r.operations done))

module _ (m : Machine) (xs ys : List Item) (q : ℕ) (same : SameOwn m xs ys q) where
  next_operation-same : next_operation m xs q ≡ next_operation m ys q
  next_operation-same = rw (same.values, same.operations) refl

  held_through-same : (e : Option ℕ) → held_through m xs q e ≡ held_through m ys q e
  held_through-same None = refl
  held_through-same (Some e) = same.holds e

  wants_right-same : (w : Want) → wants_right m xs q w ≡ wants_right m ys q w
  wants_right-same want.Local = refl
  wants_right-same (want.Access kind space addr operand) =
      ap (λ t. not (has_right kind t)) (held_through-same (entry_at m space (addr / m.words)))
  wants_right-same (want.Switch space) = refl
  wants_right-same (want.Print value) = refl
  wants_right-same want.Halted = refl
  wants_right-same want.Trap = refl

  is_end-same : (e : End) (turns : ℕ) → is_end m xs q e turns ≡ is_end m ys q e turns
  is_end-same end.Halted turns = rw (same.values, same.operations) refl
  is_end-same end.Trapped turns = rw (same.values, same.operations) refl
  is_end-same end.Spent turns = rw (same.values, same.operations) refl
  is_end-same end.NoFrames zero = refl
  is_end-same end.NoFrames (suc t) = rw (same.values, same.operations, wants_right-same) refl
  is_end-same end.Cut zero = rw same.operations refl
  is_end-same end.Cut (suc t) =
      ap (λ vs. is_cut_by m q vs (operations_of q xs) t) same.values ∙ ap (λ done. is_cut_by m q (values_of q ys) done t) same.operations

  pub is_in_order-same : (ends : List Ended) → is_in_order m xs ends q ≡ is_in_order m ys ends q
  is_in_order-same ends = ap (λ b. nat_le (ended_of ends q).turns m.budget && b) (is_end-same (ended_of ends q).end (ended_of ends q).turns)

-- ---- the rules of an access

is_ordered_access-same : (m : Machine) (xs ys : List Item) (a : Access) → SameOwn m xs ys a.actor →
    is_ordered_access m xs a ≡ is_ordered_access m ys a
is_ordered_access-same m xs ys a own =
    ap (λ o. nat_lt a.actor m.nodes && is_frame m a.frame && is_access_next o a) (next_operation-same m xs ys a.actor own)

granted_by : Access → Option Translation → Bool → Bool → Bool
granted_by a t all writes = is_grant_of a t && has_right a.kind t && not all && not writes

is_granted-same :
    (m : Machine) (xs ys : List Item) (a : Access) → SameOwn m xs ys a.actor → SameRemovals xs ys a → is_granted m xs a ≡ is_granted m ys a
unfolding granted_by
is_granted-same m xs ys a own removals =
    ap (λ t. granted_by a t (later removes_all xs a.page a.grant) (is_write a.kind && later removes_writes xs a.page a.grant))
    (held_through-same m xs ys a.actor own (entry_of_access m a))
    ∙ (ap (λ b. granted_by a (held_through m ys a.actor (entry_of_access m a)) b
    (is_write a.kind && later removes_writes xs a.page a.grant)) removals.all
    ∙ ap (λ b. granted_by a (held_through m ys a.actor (entry_of_access m a)) (later removes_all ys a.page a.grant) b) removals.writes)

is_legal-same : (m : Machine) (xs ys : List Item) (a : Access) → SameWord m xs ys a.page a.word → is_legal m xs a ≡ is_legal m ys a
is_legal-same m xs ys a same = rw (same.value, same.writes) refl

pub bad_rule-access :
    (m : Machine) (answer : Answer) (xs ys : List Item) (a : Access) → SameOwn m xs ys a.actor → SameRemovals xs ys a →
    SameWord m xs ys a.page a.word
    → bad_rule m answer xs (item.Access a) ≡ bad_rule m answer ys (item.Access a)
bad_rule-access m answer xs ys a own removals same =
    rw (is_ordered_access-same m xs ys a own, is_granted-same m xs ys a own removals, is_legal-same m xs ys a same) refl

-- ---- the rules of a change

is_fault_of-same :
    (m : Machine) (xs ys : List Item) (c : Change) (g : Grant) (o : Option Operation) → SameOwn m xs ys c.actor
    → is_fault_of m xs c g o ≡ is_fault_of m ys c g o
is_fault_of-same m xs ys c g None own = refl
is_fault_of-same m xs ys c g (Some (Switches space)) own = refl
is_fault_of-same m xs ys c g (Some (Reaches r)) own = rw (own.holds g.entry) refl

is_fault_change-same :
    (m : Machine) (answer : Answer) (xs ys : List Item) (c : Change) (g : Option Grant) → SameOwn m xs ys c.actor → SamePage xs ys c.page
    → is_fault_change m answer xs c g ≡ is_fault_change m answer ys c g
is_fault_change-same m answer xs ys c None own page = refl
is_fault_change-same m answer xs ys c (Some g) own page =
    ap (λ o. is_fault_of m xs c g o && is_fault_decision m answer xs c g) (next_operation-same m xs ys c.actor own)
    ∙ (ap (λ b. b && is_fault_decision m answer xs c g) (is_fault_of-same m xs ys c g (next_operation m ys c.actor) own)
    ∙ ap (λ b. is_fault_of m ys c g (next_operation m ys c.actor) && b) decision)
  where
    decision : is_fault_decision m answer xs c g ≡ is_fault_decision m answer ys c g
    decision = rw page.last refl

is_thaw_change-same :
    (m : Machine) (answer : Answer) (xs ys : List Item) (c : Change) → SamePage xs ys c.page
    → is_thaw_change m answer xs c ≡ is_thaw_change m answer ys c
is_thaw_change-same m answer xs ys c page =
    ap (λ last. has_daemon m.policy && same_cause c.cause cause.Thaw && is_none c.granted
    && may_decide m answer c.before last c.time c.actor cause.Thaw None
    && is_decided (decide m answer c.before last c.time c.actor cause.Thaw None) c) page.last

chained_by : Machine → Change → ℕ → Bool → Bool → Bool → Bool
chained_by m c seq dir fault thaw =
    nat_lt c.page m.pages && c.seq == seq && dir && (if nat_lt c.actor m.nodes then fault else c.actor == m.nodes && thaw)

pub bad_rule-change :
    (m : Machine) (answer : Answer) (xs ys : List Item) (c : Change) → SameOwn m xs ys c.actor → SamePage xs ys c.page
    → bad_rule m answer xs (item.Change c) ≡ bad_rule m answer ys (item.Change c)
unfolding chained_by
bad_rule-change m answer xs ys c own page = ap (λ b. unless b rule.Chain) chained
  where
    chained : is_chained m answer xs c ≡ is_chained m answer ys c
    chained =
        ap (λ n. chained_by m c n (same_dir c.before (dir_of xs c.page)) (is_fault_change m answer xs c c.granted)
        (is_thaw_change m answer xs c)) page.seq
        ∙ (ap (λ d. chained_by m c (seq_of ys c.page) (same_dir c.before d) (is_fault_change m answer xs c c.granted)
        (is_thaw_change m answer xs c)) page.dir
        ∙ (ap (λ b. chained_by m c (seq_of ys c.page) (same_dir c.before (dir_of ys c.page)) b (is_thaw_change m answer xs c))
        (is_fault_change-same m answer xs ys c c.granted own page)
        ∙ ap (λ b. chained_by m c (seq_of ys c.page) (same_dir c.before (dir_of ys c.page)) (is_fault_change m answer ys c c.granted) b)
        (is_thaw_change-same m answer xs ys c page)))

-- ---- the rules of a message and of a switch

pub bad_rule-applied :
    (m : Machine) (answer : Answer) (xs ys : List Item) (x : Applied) → SameOwn m xs ys x.actor
    → bad_rule m answer xs (item.Applied x) ≡ bad_rule m answer ys (item.Applied x)
bad_rule-applied m answer xs ys x own = rw (own.is_in, own.holds x.entry) refl

pub bad_rule-switch :
    (m : Machine) (answer : Answer) (xs ys : List Item) (s : Switch) → SameOwn m xs ys s.actor
    → bad_rule m answer xs (item.Switch s) ≡ bad_rule m answer ys (item.Switch s)
bad_rule-switch m answer xs ys s own =
    ap (λ o. unless (nat_lt s.actor m.nodes && is_switch_next o s.space) rule.Order) (next_operation-same m xs ys s.actor own)
