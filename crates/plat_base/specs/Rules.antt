-- the rules of a history, item by item: the first bad item, and good
use Rattle.std.specs.Prelude.{◌≡◌, ◌≤◌, ℕ, zero, suc, ◌+◌, ◌/◌, ◌==◌, nat_lt, nat_le, ◌&&◌, ◌||◌, not, if◌then◌else◌, Bool, true, false}
use Rattle.std.specs.Prelude.{List, [], ◌∷◌, ◌++◌, length, Option, Some, None, is_none, slice_get, find}
use Rattle.plat_base.specs.Verdicts.{Answer}
use Rattle.plat_base.specs.Machine.{Machine}
use Rattle.plat_base.specs.Pages.{numbers, entry_at, entry_reached, space_of}
use Rattle.plat_base.specs.GuestRun.{GuestRun, guest_run, want_of, Operation, Reaches, Switches, Outcome, GoesOn, HasHalted, HasTrapped}
use Rattle.plat_base.specs.Done.{values_of, operations_of, is_done_access, are_done}
use Rattle.plat_base.specs.Flat.{flat_value, flat_writes, is_write}
use Rattle.plat_base.specs.Directories.{dir_of, seq_of, last_of}
use Rattle.plat_base.specs.Held.{held, held_through, active, has_right, later, removes_all, removes_writes}
use Rattle.plat_base.specs.Decide.{decide, may_decide, is_frame}
use Rattle.plat_base.specs.Accesses.{writes_made, cause_of, right_of}
use Rattle.plat_base.specs.Ends.{ended_of}
use Rattle.plat_base.specs.Alike.{same_cause, same_action, same_removed, same_dir, same_right}
use Rattle.plat_base.specs.Copies.{same_frame}
use Rattle.plat_base.specs.declared.frames.Frame.{Frame}
use Rattle.plat_base.specs.declared.items.Action.{Action}
use Rattle.plat_base.specs.declared.items.Action.TheVariants as action
use Rattle.plat_base.specs.declared.items.Cause.TheVariants as cause
use Rattle.plat_base.specs.declared.items.Message.{Message}
use Rattle.plat_base.specs.declared.items.Message.TheVariants as message
use Rattle.plat_base.specs.declared.items.Grant.{Grant}
use Rattle.plat_base.specs.declared.items.Translation.{Translation}
use Rattle.plat_base.specs.declared.items.Access.{Access}
use Rattle.plat_base.specs.declared.items.Change.{Change}
use Rattle.plat_base.specs.declared.items.Applied.{Applied}
use Rattle.plat_base.specs.declared.items.Switch.{Switch}
use Rattle.plat_base.specs.declared.items.Item.{Item}
use Rattle.plat_base.specs.declared.items.Item.TheVariants as item
use Rattle.plat_base.specs.declared.endings.End.{End}
use Rattle.plat_base.specs.declared.endings.End.TheVariants as end
use Rattle.plat_base.specs.declared.endings.Ended.{Ended}
use Rattle.plat_base.specs.declared.guests.Want.{Want}
use Rattle.plat_base.specs.declared.guests.Want.TheVariants as want
use Rattle.plat_base.specs.declared.policies.Decision.{Decision}
use Rattle.plat_base.specs.declared.policies.PolicyKind.{PolicyKind}
use Rattle.plat_base.specs.declared.policies.PolicyKind.TheVariants as policy
use Rattle.plat_base.specs.declared.statuses.Rule.{Rule}
use Rattle.plat_base.specs.declared.statuses.Rule.TheVariants as rule
use Rattle.plat_base.specs.declared.statuses.Bad.{Bad}

-- ---- order: the next access or switch of the actor's guest

-- the operation of guest q that follows these items, if its budget reaches so far
abbrev pub next_operation : Machine → List Item → ℕ → Option Operation
next_operation m items q =
    slice_get (guest_run m q (values_of q items ++ 0 ∷ []) m.budget).operations (length (operations_of q items))

abbrev pub is_access_next : Option Operation → Access → Bool
is_access_next None a = false
is_access_next (Some (Reaches r)) a = is_done_access r a
is_access_next (Some (Switches space)) a = false

abbrev pub is_switch_next : Option Operation → ℕ → Bool
is_switch_next None space = false
is_switch_next (Some (Reaches r)) space = false
is_switch_next (Some (Switches s)) space = s == space

-- the access is the next operation of its actor's guest
abbrev pub is_ordered_access : Machine → List Item → Access → Bool
is_ordered_access m items a =
    nat_lt a.actor m.nodes && is_frame m a.frame && is_access_next (next_operation m items a.actor) a

-- the switch is the next operation of its actor's guest
abbrev pub is_ordered_switch : Machine → List Item → Switch → Bool
is_ordered_switch m items s = nat_lt s.actor m.nodes && is_switch_next (next_operation m items s.actor) s.space

-- ---- grant: the actor holds the translation, and nothing has removed it since

abbrev pub entry_of_access : Machine → Access → Option ℕ
entry_of_access m a = entry_at m a.space (a.addr / m.words)

abbrev pub is_grant_of : Access → Option Translation → Bool
is_grant_of a None = false
is_grant_of a (Some t) = same_frame t.grant.frame a.frame && t.seq == a.grant

-- the actor holds the access's translation with enough right, and no later change of the page took it or that right away
abbrev pub is_granted : Machine → List Item → Access → Bool
is_granted m items a =
    let t = held_through m items a.actor (entry_of_access m a)
    in is_grant_of a t && has_right a.kind t && not (later removes_all items a.page a.grant)
    && not (is_write a.kind && later removes_writes items a.page a.grant)

-- ---- legal: the access of flat memory

-- the access finds the value of flat memory, and its version counts the writes to its word
abbrev pub is_legal : Machine → List Item → Access → Bool
is_legal m items a =
    nat_lt a.page m.pages && nat_lt a.word m.words && a.old == flat_value m items a.page a.word
    && a.version == flat_writes items a.page a.word + writes_made a.kind

-- ---- chain: a change follows the page's last one, and is the decision of a fault or of a thaw

abbrev pub names_got : Action → Bool
names_got action.Fill = true
names_got action.MapLocal = false
names_got action.MapRemote = false
names_got action.Replicate = true
names_got action.Migrate = true
names_got action.Collapse = false
names_got action.Thaw = false

-- the frame that a fault took, as its change names it
abbrev pub got_named : Action → Grant → Option Frame
got_named a g = if names_got a then Some g.frame else None

abbrev pub is_decided : Decision → Change → Bool
is_decided d c = same_action d.action c.action && same_removed d.removed c.removed && same_dir d.after c.after

-- the operation is an access of that cause through the granted entry
abbrev pub is_fault_of : Machine → List Item → Change → Grant → Option Operation → Bool
is_fault_of m items c g None = false
is_fault_of m items c g (Some (Switches space)) = false
is_fault_of m items c g (Some (Reaches r)) =
    nat_lt g.entry (length m.entries) && g.entry == entry_reached m r.space r.addr
    && r.page == c.page && same_cause (cause_of r.kind) c.cause && not (has_right r.kind (held m items c.actor g.entry))

abbrev pub is_fault_decision : Machine → Answer → List Item → Change → Grant → Bool
is_fault_decision m answer items c g =
    let last = last_of items c.page in let got = got_named c.action g in
    let d = decide m answer c.before last c.time c.actor c.cause got
    in may_decide m answer c.before last c.time c.actor c.cause got && is_decided d c && same_frame d.frame g.frame
    && same_right g.right (right_of c.cause)

abbrev pub is_fault_change : Machine → Answer → List Item → Change → Option Grant → Bool
is_fault_change m answer items c None = false
is_fault_change m answer items c (Some g) =
    is_fault_of m items c g (next_operation m items c.actor) && is_fault_decision m answer items c g

abbrev pub has_daemon : PolicyKind → Bool
has_daemon policy.Place = false
has_daemon policy.Replicate = false
has_daemon (policy.Platinum t1 t2) = true

abbrev pub is_thaw_change : Machine → Answer → List Item → Change → Bool
is_thaw_change m answer items c =
    let last = last_of items c.page
    in has_daemon m.policy && same_cause c.cause cause.Thaw && is_none c.granted
    && may_decide m answer c.before last c.time c.actor cause.Thaw None
    && is_decided (decide m answer c.before last c.time c.actor cause.Thaw None) c

-- the change has the page's next number and directory, and is what a fault or a thaw decides
abbrev pub is_chained : Machine → Answer → List Item → Change → Bool
is_chained m answer items c =
    nat_lt c.page m.pages && c.seq == seq_of items c.page && same_dir c.before (dir_of items c.page)
    && (if nat_lt c.actor m.nodes then is_fault_change m answer items c c.granted
    else c.actor == m.nodes && is_thaw_change m answer items c)

-- ---- held: a message finds the translation that it was for

abbrev pub may_apply : Message → Option Translation → Bool
may_apply msg None = false
may_apply message.Invalidate (Some t) = true
may_apply message.Restrict (Some t) = not t.restricted

-- the message finds a translation that it can be applied to, in the space that its actor is active in
abbrev pub is_answered : Machine → List Item → Applied → Bool
is_answered m items x =
    nat_lt x.actor m.nodes && nat_lt x.entry (length m.entries) && active m items x.actor == space_of m x.entry
    && may_apply x.message (held m items x.actor x.entry)

-- ---- ends: the turns and end of each processor are its guest's

-- the guest of q goes on and now wants an access for which it has not enough right
abbrev pub wants_right : Machine → List Item → ℕ → Want → Bool
wants_right m items q want.Local = false
wants_right m items q (want.Access kind space addr operand) =
    not (has_right kind (held_through m items q (entry_at m space (addr / m.words))))
wants_right m items q (want.Switch space) = false
wants_right m items q (want.Print value) = false
wants_right m items q want.Halted = false
wants_right m items q want.Trap = false

abbrev pub wants_operation : Want → Bool
wants_operation want.Local = false
wants_operation (want.Access kind space addr operand) = true
wants_operation (want.Switch space) = true
wants_operation (want.Print value) = false
wants_operation want.Halted = false
wants_operation want.Trap = false

abbrev pub outcome_number : Outcome → ℕ
outcome_number GoesOn = 0
outcome_number HasHalted = 1
outcome_number HasTrapped = 2

abbrev pub same_outcome : Outcome → Outcome → Bool
same_outcome a b = outcome_number a == outcome_number b

-- the run made these turns and stands so
abbrev pub stands : GuestRun → ℕ → Outcome → Bool
stands r turns outcome = r.turns == turns && same_outcome r.outcome outcome

-- q's accesses and switches are the operations of this run
abbrev pub has_made : List Item → ℕ → GuestRun → Bool
has_made items q r = are_done r.operations (operations_of q items)

-- the ends of a processor that made turn t + 1 last: its run before that turn, and with it
abbrev pub is_cut_at : Machine → List Item → ℕ → (before whole : GuestRun) → ℕ → Bool
is_cut_at m items q before whole t =
    stands before t GoesOn
    && (has_made items q whole || (wants_operation (want_of m q before.state) && has_made items q before))

abbrev pub is_starved_at : Machine → List Item → ℕ → GuestRun → ℕ → Bool
is_starved_at m items q before t =
    nat_lt m.frames m.pages && stands before t GoesOn && has_made items q before && wants_right m items q (want_of m q before.state)

abbrev pub is_end : Machine → List Item → ℕ → End → ℕ → Bool
is_end m items q end.Halted turns =
    let r = guest_run m q (values_of q items) turns in stands r turns HasHalted && has_made items q r
is_end m items q end.Trapped turns =
    let r = guest_run m q (values_of q items) turns in stands r turns HasTrapped && has_made items q r
is_end m items q end.Spent turns =
    let r = guest_run m q (values_of q items) turns in turns == m.budget && stands r turns GoesOn && has_made items q r
is_end m items q end.NoFrames zero = false
is_end m items q end.NoFrames (suc t) = is_starved_at m items q (guest_run m q (values_of q items) t) t
is_end m items q end.Cut zero = has_made items q (guest_run m q (values_of q items) 0)
is_end m items q end.Cut (suc t) =
    is_cut_at m items q (guest_run m q (values_of q items) t) (guest_run m q (values_of q items) (suc t)) t

-- the accesses and switches of q, its turns and its end are its guest's, on the values that it got
abbrev pub is_in_order : Machine → List Item → List Ended → ℕ → Bool
is_in_order m items ends q =
    nat_le (ended_of ends q).turns m.budget && is_end m items q (ended_of ends q).end (ended_of ends q).turns

-- ---- the first bad item

abbrev pub unless : Bool → Rule → Option Rule
unless ok r = if ok then None else Some r

abbrev pub first_rule : Option Rule → Option Rule → Option Rule
first_rule None other = other
first_rule (Some r) other = Some r

-- the rule that an item breaks after these items
abbrev pub bad_rule : Machine → Answer → List Item → Item → Option Rule
bad_rule m answer items (item.Access a) =
    first_rule (unless (is_ordered_access m items a) rule.Order)
    (first_rule (unless (is_granted m items a) rule.Grant) (unless (is_legal m items a) rule.Legal))
bad_rule m answer items (item.Change c) = unless (is_chained m answer items c) rule.Chain
bad_rule m answer items (item.Applied x) = unless (is_answered m items x) rule.Held
bad_rule m answer items (item.Switch s) = unless (is_ordered_switch m items s) rule.Order

abbrev pub bad_at : ℕ → Option Rule → Option Bad → Option Bad
bad_at n None later_bad = later_bad
bad_at n (Some r) later_bad = Some (record { item = n; rule = r })

-- the first bad one of these items, which stand behind those before; the first of them has number n
abbrev pub bad_after : Machine → Answer → List Item → ℕ → List Item → Option Bad
bad_after m answer before n [] = None
bad_after m answer before n (i ∷ is) =
    bad_at n (bad_rule m answer before i) (bad_after m answer (before ++ i ∷ []) (n + 1) is)

-- the ends are one for each node, and each processor's is its guest's
abbrev pub are_ends : Machine → List Item → List Ended → Bool
are_ends m items ends = length ends == m.nodes && is_none (find (λ q. not (is_in_order m items ends q)) (numbers m.nodes))

abbrev pub bad_ends : Machine → List Item → List Ended → Option Bad
bad_ends m items ends = if are_ends m items ends then None else Some (record { item = length items; rule = rule.Ends })

abbrev pub bad_or : Option Bad → Option Bad → Option Bad
bad_or None other = other
bad_or (Some b) other = Some b

unfoldable pub first_bad : Machine → Answer → List Item → List Ended → Option Bad
first_bad m answer items ends = bad_or (bad_after m answer [] 0 items) (bad_ends m items ends)

-- no item and no end breaks a rule
abbrev pub Good : Machine → Answer → List Item → List Ended → Type 0
Good m answer items ends = first_bad m answer items ends ≡ None

-- there is a frame for each page on each module
abbrev pub HasEnoughFrames : Machine → Type 0
HasEnoughFrames m = m.pages ≤ m.frames
