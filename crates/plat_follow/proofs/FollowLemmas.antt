-- a guest that is followed: its start, turns without an operation, one more operation, and items of others
use Rattle.std.proofs.Common.{◌≡◌, ◌∙◌, ℕ, suc, ◌+◌, ◌≤◌, Bool, true, false, List, [], ◌∷◌, ◌++◌, refl, arith, ap, sym, add-one, subst}
use Rattle.std.proofs.Common.{if◌then◌else◌, below_more}
use Rattle.std.specs.Prelude.{◌==◌}
use Rattle.std.proofs.lemmas.List.Sums.{fold-append}
use Rattle.std.proofs.lemmas.Bool.Decides.{nat_tests}
use Rattle.std.proofs.lemmas.Bool.{eq-eqb}
use Rattle.plat_base.specs.Machine.{Machine}
use Rattle.plat_base.specs.Alike.{same_kind}
use Rattle.plat_base.specs.GuestRun.{GuestRun, want_of, guest_after, guest_does, guest_run, Reach, reach_of}
use Rattle.plat_base.specs.Done.{Accessed, Switched, values_of, operations_of, is_done_access, reads_word}
use Rattle.plat_base.specs.Held.{active}
use Rattle.plat_base.specs.Rules.{is_access_next, is_switch_next, wants_operation}
use Rattle.plat_base.specs.declared.guests.Want.{Want}
use Rattle.plat_base.specs.declared.guests.Want.TheVariants as want
use Rattle.plat_base.specs.declared.items.Kind.{Kind}
use Rattle.plat_base.specs.declared.items.Kind.TheVariants as kind
use Rattle.plat_base.specs.declared.items.Access.{Access}
use Rattle.plat_base.specs.declared.items.Switch.{Switch}
use Rattle.plat_base.specs.declared.items.Item.{Item}
use Rattle.plat_base.specs.declared.items.Item.TheVariants as item
use Rattle.plat_laws.specs.Guests.{IsGuest}
use Rattle.plat_laws.proofs.GuestLaws.{more_values, guest_run-next, guest_run-next_same, values_found, values_of-none}
use Rattle.plat_laws.proofs.GuestLaws.{IsGuest-start, IsGuest-local, IsGuest-print, IsGuest-access, IsGuest-switch}
use Rattle.plat_laws.proofs.EndLaws.{values_of-no_operations, IsGuest-no_operations}
use Rattle.plat_guest.specs.GuestSeen.{GuestSeen, new_guest, stepped, wanted_by}
use Rattle.plat_follow.specs.Wanted.{is_quiet}
use Rattle.plat_follow.specs.Followed.{FollowerSeen, IsStop, IsAt, Follows, IsMade}
use Rattle.plat_follow.specs.declared.wanted.Wanted.TheVariants as wanted
use Rattle.plat_follow.specs.declared.stops.Stop.{Stop}
use Rattle.plat_follow.specs.declared.stops.Stop.TheVariants as stop
use Rattle.plat_follow.proofs.RunLemmas.{guest_after-unread, guest_after-same, state-found}
use Rattle.plat_follow.proofs.NextLemmas.{awaited, awaited-next, stop-at, IsAt-want}
use Rattle.plat_laws.proofs.ItemLaws.{values_of-append}

-- ---- the start

pub IsAt-start : (m : Machine) (q : ℕ) → IsAt m [] q (new_guest m q) 0 0
IsAt-start m q = record {
  node = refl;
  made = IsGuest-start m q;
  state = refl;
  latest = λ t h. absurd (omega arith);
  quiet = λ t l u. absurd (omega arith);
}

-- ---- a turn that makes no operation

quiet-wants : (w : Want) → is_quiet w ≡ true → wants_operation w ≡ false
quiet-wants want.Local h = refl
quiet-wants (want.Access k sp a o) h = absurd cc
quiet-wants (want.Switch space) h = absurd cc
quiet-wants (want.Print v) h = refl
quiet-wants want.Halted h = absurd cc
quiet-wants want.Trap h = absurd cc

-- one more turn of a guest without an operation: it goes on, and is in the state after its next instruction
quiet-turn :
    (m : Machine) (items : List Item) (q t : ℕ) (w : Want) → IsGuest m items t q
    → want_of m q (guest_run m q (values_of q items) t).state ≡ w → is_quiet w ≡ true
    → IsGuest m items (t + 1) q
    × ((guest_run m q (values_of q items) (suc t)).state ≡ guest_after m q (guest_run m q (values_of q items) t).state 0)
quiet-turn m items q t want.Local g e h =
    let now = guest_run-next_same m q (values_of q items) t want.Local g.goes e
    in (IsGuest-local m items t q g e, ap (λ (r : GuestRun). r.state) now)
quiet-turn m items q t (want.Access k sp a o) g e h = absurd cc
quiet-turn m items q t (want.Switch space) g e h = absurd cc
quiet-turn m items q t (want.Print v) g e h =
    let now = guest_run-next_same m q (values_of q items) t (want.Print v) g.goes e
    in (IsGuest-print m items t q v g e, ap (λ (r : GuestRun). r.state) now)
quiet-turn m items q t want.Halted g e h = absurd cc
quiet-turn m items q t want.Trap g e h = absurd cc

pub IsAt-quiet :
    (m : Machine) (items : List Item) (q : ℕ) (guest : GuestSeen) (last turns : ℕ) → IsAt m items q guest last turns
    → is_quiet (wanted_by m guest) ≡ true → IsAt m items q (stepped m guest 0) last (turns + 1)
IsAt-quiet m items q guest last turns a h =
    let r = guest_run m q (values_of q items) turns in
    let w : is_quiet (want_of m q r.state) ≡ true = rw (← IsAt-want m items q guest last turns a) h in
    let n = quiet-turn m items q turns (want_of m q r.state) a.made refl w in
    let none : ℕ → Type 0 = λ t. last ≤ t → wants_operation (want_of m q (guest_run m q (values_of q items) t).state) ≡ false in
    let more = below_more none turns (λ t u l. a.quiet t l u) (λ l. quiet-wants (want_of m q r.state) w)
    in record {
      node = a.node;
      made = n.0;
      state = rw (a.node, a.state, add-one turns, n.1);
      latest = a.latest;
      quiet = λ t l u. more t u l;
    }

-- ---- items of others

pub IsAt-others :
    (m : Machine) (items more : List Item) (q : ℕ) (guest : GuestSeen) (last turns : ℕ) → IsAt m items q guest last turns
    → operations_of q more ≡ [] → IsAt m (items ++ more) q guest last turns
IsAt-others m items more q guest last turns a h =
    let same : values_of q (items ++ more) ≡ values_of q items = values_of-none q items more (values_of-no_operations q more h)
    in record {
      node = a.node;
      made = IsGuest-no_operations m items more turns q a.made h;
      state = rw same a.state;
      latest = rw same a.latest;
      quiet = rw same a.quiet;
    }

-- items that are no accesses and no switches of the processor leave what is followed as it is
pub Follows-others :
    (m : Machine) (items more : List Item) (q : ℕ) (f : FollowerSeen) → Follows m items q f → operations_of q more ≡ []
    → Follows m (items ++ more) q f
Follows-others m items more q f h e =
    record { stands = h.stands; at = IsAt-others m items more q f.guest f.last f.turns h.at e }

-- ---- one more operation

-- a guest that wanted an operation in its turn, which was made
IsAt-operation :
    (m : Machine) (items more : List Item) (q : ℕ) (guest : GuestSeen) (last turns : ℕ) (w : Want) (old : ℕ)
    → IsAt m items q guest last turns → want_of m q (guest_run m q (values_of q items) turns).state ≡ w → wants_operation w ≡ true
    → IsGuest m (items ++ more) (turns + 1) q
    → (guest_does m q (values_of q items ++ values_of q more) (guest_run m q (values_of q items) turns) w).state
    ≡ guest_after m q (guest_run m q (values_of q items) turns).state old
    → IsAt m (items ++ more) q (stepped m guest old) (turns + 1) (turns + 1)
IsAt-operation m items more q guest last turns w old a e wants made found =
    let r = guest_run m q (values_of q items) turns in
    let now = guest_run-next m q (values_of q items) (values_of q more) turns w a.made.made a.made.goes e in
    let same = more_values m q (values_of q items) (values_of q more) turns a.made.made in
    let wanted_then : wants_operation (want_of m q (guest_run m q (values_of q (items ++ more)) turns).state) ≡ true =
    rw (values_of-append, same, e) wants
    in record {
      node = a.node;
      made = made;
      state = rw (a.node, a.state, values_of-append, add-one turns, now) (sym found);
      latest = λ t h. let s : t ≡ turns = omega arith in rw s wanted_then;
      quiet = λ t l u. absurd (omega arith);
    }

kind-same : (j k : Kind) → same_kind j k ≡ true → j ≡ k
kind-same kind.Load kind.Load h = refl
kind-same kind.Load kind.Store h = absurd cc
kind-same kind.Load kind.Add h = absurd cc
kind-same kind.Store kind.Load h = absurd cc
kind-same kind.Store kind.Store h = refl
kind-same kind.Store kind.Add h = absurd cc
kind-same kind.Add kind.Load h = absurd cc
kind-same kind.Add kind.Store h = absurd cc
kind-same kind.Add kind.Add h = refl

done-kind : (m : Machine) (k : Kind) (sp a o : ℕ) (acc : Access) → is_done_access (reach_of m k sp a o) acc ≡ true → k ≡ acc.kind
done-kind m k sp a o acc h = kind-same k acc.kind (grind (arith, nat_tests))

values-mine :
    (q : ℕ) (acc : Access) (b : Bool) → (acc.actor == q) ≡ true → reads_word acc.kind ≡ b
    → values_of q (item.Access acc ∷ []) ≡ (if b then acc.old ∷ [] else [])
values-mine q acc true e h = rw (e, h)
values-mine q acc false e h = rw (e, h)

active-access : (m : Machine) (items : List Item) (q : ℕ) (acc : Access) → active m (items ++ item.Access acc ∷ []) q ≡ active m items q
active-access m items q acc = rw fold-append

active-switch :
    (m : Machine) (items : List Item) (q : ℕ) (s : Switch) → (s.actor == q) ≡ true
    → active m (items ++ item.Switch s ∷ []) q ≡ s.space
active-switch m items q s e = rw (fold-append, e)

equal-number : (a b : ℕ) → (a == b) ≡ true → a ≡ b
equal-number a b e = grind (arith, nat_tests)

made-access :
    (m : Machine) (items : List Item) (q : ℕ) (guest : GuestSeen) (last turns old : ℕ) (acc : Access) (s : Stop)
    → IsAt m items q guest last turns → IsStop m turns (want_of m q (guest_run m q (values_of q items) turns).state) s
    → acc.actor ≡ q → (reads_word acc.kind ≡ true → acc.old ≡ old) → is_access_next (awaited s) acc ≡ true
    → IsAt m (items ++ item.Access acc ∷ []) q (stepped m guest old) (turns + 1) (turns + 1)
made-access m items q guest last turns old acc (stop.Wants (wanted.Access a)) at h mine read next =
    let more = item.Access acc ∷ [] in
    let vs = values_of q items in
    let r = guest_run m q vs turns in
    let e = eq-eqb acc.actor q mine in
    let w = h.1.0 in
    let this : Reach → Type 0 = λ reach. is_done_access reach acc ≡ true in
    let done = subst this h.1.1 next in
    let k = done-kind m a.kind a.space a.addr a.operand acc done in
    let values : values_of q more ≡ values_found a.kind acc.old = rw k (values-mine q acc (reads_word acc.kind) e refl) in
    let ops : operations_of q more ≡ Accessed acc ∷ [] = rw e in
    let active_then = active-access m items q acc in
    let made = IsGuest-access m items more turns q a.kind a.space a.addr a.operand acc at.made w values ops done active_then in
    let found = state-found m q vs r a.kind a.space a.addr a.operand acc.old at.made.used w in
    let same = guest_after-same m q r.state a.kind a.space a.addr a.operand acc.old old w (rw k read)
    in IsAt-operation m items more q guest last turns (want.Access a.kind a.space a.addr a.operand) old at w refl made
    (rw values (found ∙ same))
made-access m items q guest last turns old acc (stop.Wants (wanted.Switch space)) at h mine read next = absurd cc
made-access m items q guest last turns old acc stop.Halts at h mine read next = absurd cc
made-access m items q guest last turns old acc stop.Traps at h mine read next = absurd cc
made-access m items q guest last turns old acc stop.Spent at h mine read next = absurd cc

made-switch :
    (m : Machine) (items : List Item) (q : ℕ) (guest : GuestSeen) (last turns old : ℕ) (sw : Switch) (s : Stop)
    → IsAt m items q guest last turns → IsStop m turns (want_of m q (guest_run m q (values_of q items) turns).state) s
    → sw.actor ≡ q → is_switch_next (awaited s) sw.space ≡ true
    → IsAt m (items ++ item.Switch sw ∷ []) q (stepped m guest old) (turns + 1) (turns + 1)
made-switch m items q guest last turns old sw (stop.Wants (wanted.Access a)) at h mine next = absurd cc
made-switch m items q guest last turns old sw (stop.Wants (wanted.Switch space)) at h mine next =
    let more = item.Switch sw ∷ [] in
    let e = eq-eqb sw.actor q mine in
    let w = h.1 in
    let to = equal-number space sw.space next in
    let ops : operations_of q more ≡ Switched space ∷ [] = rw (e, to) in
    let active_then : active m (items ++ more) q ≡ space = rw to (active-switch m items q sw e) in
    let made = IsGuest-switch m items more turns q space at.made w refl ops active_then in
    let s = (guest_run m q (values_of q items) turns).state in
    let unread = guest_after-unread m q s 0 old (rw w)
    in IsAt-operation m items more q guest last turns (want.Switch space) old at w refl made unread
made-switch m items q guest last turns old sw stop.Halts at h mine next = absurd cc
made-switch m items q guest last turns old sw stop.Traps at h mine next = absurd cc
made-switch m items q guest last turns old sw stop.Spent at h mine next = absurd cc

-- the operation that the guest waits for was made
pub IsAt-made :
    (m : Machine) (items : List Item) (q old : ℕ) (f : FollowerSeen) (i : Item) → Follows m items q f → IsMade m items q old i
    → IsAt m (items ++ i ∷ []) q (stepped m f.guest old) (f.turns + 1) (f.turns + 1)
IsAt-made m items q old f (item.Access acc) h made =
    let next : is_access_next (awaited f.stop) acc ≡ true = rw (awaited-next m items q f h) made.2
    in made-access m items q f.guest f.last f.turns old acc f.stop h.at (stop-at m items q f h) made.0 made.1 next
IsAt-made m items q old f (item.Change c) h made = absurd made
IsAt-made m items q old f (item.Applied x) h made = absurd made
IsAt-made m items q old f (item.Switch s) h made =
    let next : is_switch_next (awaited f.stop) s.space ≡ true = rw (awaited-next m items q f h) made.1
    in made-switch m items q f.guest f.last f.turns old s f.stop h.at (stop-at m items q f h) made.0 next
