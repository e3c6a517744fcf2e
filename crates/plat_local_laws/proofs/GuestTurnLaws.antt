-- the guest of a private state, where nothing of it is done and where a turn of it is done
use Rattle.std.proofs.Common.{◌≡◌, ℕ, ◌+◌, ◌-◌, ◌<◌, ◌≤◌, Bool, true, false, List, [], ◌∷◌, ◌++◌, length, Some, None, refl, arith, add-one}
use Rattle.std.proofs.Common.{ap, sym, ◌∙◌, ◌⊎◌, inl, inr}
use Rattle.std.specs.Prelude.{◌==◌, if◌then◌else◌, Option, slice_get}
use Rattle.std.proofs.lemmas.Bool.{eq-eqb}
use Rattle.std.proofs.lemmas.List.{append-nil}
use Rattle.std.proofs.lemmas.List.Elements.{filter-append}
use Rattle.plat_base.specs.Machine.{Machine, Program}
use Rattle.plat_base.specs.Pages.{program_of}
use Rattle.plat_base.specs.Alike.{kind_number}
use Rattle.plat_base.specs.GuestRun.{GuestState, GuestRun, Reach, guest_run, guest_does, want_of, wanted, wanted_next, guest_after}
use Rattle.plat_base.specs.GuestRun.{executed, executed_next, reach_of, value_for, address, register}
use Rattle.plat_base.specs.Done.{values_of, operations_of, Switched, reads_word, new_value, is_done_access}
use Rattle.plat_base.specs.declared.guests.Instr.{Instr}
use Rattle.plat_base.specs.declared.guests.Instr.TheVariants as instr
use Rattle.plat_base.specs.declared.guests.Want.{Want}
use Rattle.plat_base.specs.declared.guests.Want.TheVariants as want
use Rattle.plat_base.specs.declared.items.Kind.{Kind}
use Rattle.plat_base.specs.declared.items.Kind.TheVariants as kind
use Rattle.plat_base.specs.declared.items.Access.{Access}
use Rattle.plat_base.specs.declared.items.Switch.{Switch}
use Rattle.plat_base.specs.declared.items.Item.{Item}
use Rattle.plat_base.specs.declared.items.Item.TheVariants as item
use Rattle.plat_laws.specs.Guests.{IsGuest}
use Rattle.plat_laws.proofs.GuestLaws.{slice_get-append_at, guest_run-next, guest_run-next_same, values_of-none}
use Rattle.plat_laws.proofs.GuestLaws.{IsGuest-local, IsGuest-print, IsGuest-access, IsGuest-switch}
use Rattle.plat_laws.proofs.EndLaws.{IsGuest-no_operations, values_of-no_operations}
use Rattle.plat_laws.proofs.ItemLaws.{active-switch_own, active-access, values_of-append, values_of-access, operations_of-access}
use Rattle.plat_events.specs.Privates.{Private}
use Rattle.plat_events.specs.Shown.{actor_of, items_by}
use Rattle.plat_local_laws.specs.Numbers.{is_in_turn, is_before_tick, turns_done, GuestOk}

-- ---- own items

items_by-append : (a : ℕ) (xs ys : List Item) → items_by a (xs ++ ys) ≡ items_by a xs ++ items_by a ys
items_by-append a xs ys = filter-append (λ i. actor_of i == a) xs ys

pub items_by-one : (a : ℕ) (i : Item) → actor_of i ≡ a → items_by a (i ∷ []) ≡ i ∷ []
items_by-one a i e = rw (eq-eqb (actor_of i) a e)

own-more : (a : ℕ) (xs ys : List Item) → items_by a xs ≡ xs → items_by a ys ≡ ys → items_by a (xs ++ ys) ≡ xs ++ ys
own-more a xs ys h k = rw (items_by-append, h, k)

pub own-one : (a : ℕ) (xs : List Item) (i : Item) → items_by a xs ≡ xs → actor_of i ≡ a → items_by a (xs ++ i ∷ []) ≡ xs ++ i ∷ []
own-one a xs i h e = own-more a xs (i ∷ []) h (items_by-one a i e)

-- ---- nothing is done of the guest

turns_done-by : (p q : Private) → q.turns ≡ p.turns → is_in_turn q.place ≡ is_in_turn p.place → turns_done q ≡ turns_done p
turns_done-by p q t e = rw (t, e)

-- more items that are no operations of the guest
guest-more_done :
    (m : Machine) (a : ℕ) (p q : Private) (more : List Item) → GuestOk m a p → q.turns ≡ p.turns → q.guest ≡ p.guest
    → q.journal ≡ p.journal ++ more → turns_done q ≡ turns_done p
    → (a < m.nodes → is_before_tick q.place ≡ false → is_before_tick p.place ≡ false) → operations_of a more ≡ []
    → items_by a more ≡ more → GuestOk m a q
guest-more_done m a p q more g t gs j done b ops own =
    let vs : values_of a (p.journal ++ more) ≡ values_of a p.journal =
    values_of-none a p.journal more (values_of-no_operations a more ops) in
    record {
      run = rw (j, done) (IsGuest-no_operations m p.journal more (turns_done p) a g.run ops);
      guest = rw (gs, j, done, vs) g.guest;
      turns_some = λ l k. rw t (g.turns_some l (b l k));
      turns_none = λ d. t ∙ g.turns_none d;
      own = rw j (own-more a p.journal more g.own own);
    }

-- one more item that is no operation of the guest
pub guest-item :
    (m : Machine) (a : ℕ) (p q : Private) (i : Item) → GuestOk m a p → q.turns ≡ p.turns → q.guest ≡ p.guest
    → q.journal ≡ p.journal ++ i ∷ [] → is_in_turn q.place ≡ is_in_turn p.place
    → (is_before_tick q.place ≡ false → is_before_tick p.place ≡ false) → operations_of a (i ∷ []) ≡ []
    → actor_of i ≡ a → GuestOk m a q
guest-item m a p q i g t gs j e b ops own =
    guest-more_done m a p q (i ∷ []) g t gs j (turns_done-by p q t e) (λ _. b) ops (items_by-one a i own)

pub guest-still :
    (m : Machine) (a : ℕ) (p q : Private) → GuestOk m a p → q.turns ≡ p.turns → q.guest ≡ p.guest → q.journal ≡ p.journal
    → is_in_turn q.place ≡ is_in_turn p.place → (is_before_tick q.place ≡ false → is_before_tick p.place ≡ false) → GuestOk m a q
guest-still m a p q g t gs j e b =
    guest-more_done m a p q [] g t gs (j ∙ sym (append-nil p.journal)) (turns_done-by p q t e) (λ _. b) refl refl

-- the daemon makes no turn
turns_done-none : (p : Private) → p.turns ≡ 0 → turns_done p ≡ 0
turns_done-none p e = rw e (by (is_in_turn p.place))
  where
    by : (b : Bool) → (if b then 0 - 1 else 0) ≡ 0
    by true = refl
    by false = refl

pub guest-daemon :
    (m : Machine) (a : ℕ) (p q : Private) (more : List Item) → GuestOk m a p → a ≡ m.nodes → q.turns ≡ p.turns → q.guest ≡ p.guest
    → q.journal ≡ p.journal ++ more → operations_of a more ≡ [] → items_by a more ≡ more → GuestOk m a q
guest-daemon m a p q more g d t gs j ops own =
    let none = g.turns_none d in
    guest-more_done m a p q more g t gs j (turns_done-none q (t ∙ none) ∙ sym (turns_done-none p none)) (λ l. absurd (omega arith)) ops own

pub guest-daemon_still :
    (m : Machine) (a : ℕ) (p q : Private) → GuestOk m a p → a ≡ m.nodes → q.turns ≡ p.turns → q.guest ≡ p.guest
    → q.journal ≡ p.journal → GuestOk m a q
guest-daemon_still m a p q g d t gs j = guest-daemon m a p q [] g d t gs (j ∙ sym (append-nil p.journal)) refl refl

-- ---- a turn is ticked, and the guest has not done it

pub guest-ticked :
    (m : Machine) (a : ℕ) (p q : Private) → GuestOk m a p → a < m.nodes → q.turns ≡ p.turns + 1 → q.guest ≡ p.guest
    → q.journal ≡ p.journal → is_in_turn p.place ≡ false → is_in_turn q.place ≡ true → GuestOk m a q
guest-ticked m a p q g l t gs j e k =
    let before : turns_done p ≡ p.turns = rw e in
    let less : p.turns + 1 - 1 ≡ p.turns = omega arith in
    let done : turns_done q ≡ turns_done p = rw (k, t, before) less in
    record {
      run = rw (j, done) g.run;
      guest = rw (gs, j, done) g.guest;
      turns_some = λ _ _. omega (arith, t);
      turns_none = λ d. absurd (omega arith);
      own = rw j g.own;
    }

-- ---- the guest does its turn

-- a local or print instruction, at its tick
pub guest-local :
    (m : Machine) (a : ℕ) (p q : Private) (w : Want) → GuestOk m a p → a < m.nodes → want_of m a p.guest ≡ w
    → (w ≡ want.Local) ⊎ ((v : ℕ) × (w ≡ want.Print v)) → q.turns ≡ p.turns + 1 → q.guest ≡ guest_after m a p.guest 0
    → q.journal ≡ p.journal → is_in_turn p.place ≡ false → is_in_turn q.place ≡ false → GuestOk m a q
guest-local m a p q w g l wants kind t gs j e k =
    let before : turns_done p ≡ p.turns = rw e in
    let done : turns_done q ≡ turns_done p + 1 = rw (k, t, before) refl in
    let vs = values_of a p.journal in
    let r = guest_run m a vs (turns_done p) in
    let here : want_of m a r.state ≡ w = ap (want_of m a) (sym g.guest) ∙ wants in
    let next : (guest_run m a vs (turns_done p + 1)).state ≡ guest_after m a r.state 0 =
    rw add-one (ap (λ (x : GuestRun). x.state) (guest_run-next_same m a vs (turns_done p) w g.run.goes here) ∙ moved kind vs r) in
    record {
      run = rw (j, done) (runs kind here);
      guest = rw (gs, j, done, next) (ap (λ s. guest_after m a s 0) g.guest);
      turns_some = λ _ _. omega (arith, t);
      turns_none = λ d. absurd (omega arith);
      own = rw j g.own;
    }
  where
    moved : (w ≡ want.Local) ⊎ ((v : ℕ) × (w ≡ want.Print v)) → (vs : List ℕ) (r : GuestRun) →
        (guest_does m a vs r w).state ≡ guest_after m a r.state 0
    moved (inl h) vs r = rw h
    moved (inr h) vs r = rw h.1

    runs :
        (w ≡ want.Local) ⊎ ((v : ℕ) × (w ≡ want.Print v)) → want_of m a (guest_run m a (values_of a p.journal) (turns_done p)).state ≡ w
        → IsGuest m p.journal (turns_done p + 1) a
    runs (inl h) here = IsGuest-local m p.journal (turns_done p) a g.run (here ∙ h)
    runs (inr h) here = IsGuest-print m p.journal (turns_done p) a h.0 g.run (here ∙ h.1)

-- a turn that was ticked
pub done-in_turn : (p : Private) → is_in_turn p.place ≡ true → 1 ≤ p.turns → turns_done p + 1 ≡ p.turns
done-in_turn p e l = rw e (omega arith)

-- a switch
pub guest-switch :
    (m : Machine) (a : ℕ) (p q : Private) (space : ℕ) → GuestOk m a p → a < m.nodes → want_of m a p.guest ≡ want.Switch space
    → q.turns ≡ p.turns → q.guest ≡ guest_after m a p.guest 0
    → q.journal ≡ p.journal ++ item.Switch (record { actor = a; space = space }) ∷ [] → is_in_turn p.place ≡ true
    → is_before_tick p.place ≡ false → is_in_turn q.place ≡ false → GuestOk m a q
guest-switch m a p q space g l wants t gs j e b k =
    let x : Switch = record { actor = a; space = space } in
    let some = g.turns_some l b in
    let done : turns_done q ≡ turns_done p + 1 = rw (k, t) (sym (done-in_turn p e some)) in
    let vs = values_of a p.journal in
    let r = guest_run m a vs (turns_done p) in
    let here : want_of m a r.state ≡ want.Switch space = ap (want_of m a) (sym g.guest) ∙ wants in
    let same : values_of a (p.journal ++ item.Switch x ∷ []) ≡ vs = values_of-none a p.journal (item.Switch x ∷ []) refl in
    let next : (guest_run m a vs (turns_done p + 1)).state ≡ guest_after m a r.state 0 =
    rw add-one (ap (λ (y : GuestRun). y.state) (guest_run-next_same m a vs (turns_done p) (want.Switch space) g.run.goes here)) in
    record {
      run = rw (j, done)
          (IsGuest-switch m p.journal (item.Switch x ∷ []) (turns_done p) a space g.run here refl (switched a space)
          (active-switch_own m p.journal x));
      guest = rw (gs, j, done, same, next) (ap (λ s. guest_after m a s 0) g.guest);
      turns_some = λ _ _. rw t some;
      turns_none = λ d. absurd (omega arith);
      own = rw j (own-one a p.journal (item.Switch x) g.own refl);
    }
  where
    switched : (a space : ℕ) → operations_of a (item.Switch (record { actor = a; space = space }) ∷ []) ≡ Switched space ∷ []
    switched a space = rw (eq-eqb a a refl)

-- ---- an access

value_for-found :
    (k : Kind) (vs ws : List ℕ) (used old : ℕ) → used ≡ length vs → ws ≡ (if reads_word k then old ∷ [] else [])
    → value_for k (vs ++ ws) used ≡ Some (if reads_word k then old else 0)
value_for-found kind.Load vs ws used old e h = rw h (slice_get-append_at vs old [] used e)
value_for-found kind.Store vs ws used old e h = refl
value_for-found kind.Add vs ws used old e h = rw h (slice_get-append_at vs old [] used e)

access-state :
    (m : Machine) (q : ℕ) (vs ws : List ℕ) (r : GuestRun) (k : Kind) (sp ad o v : ℕ) → value_for k (vs ++ ws) r.used ≡ Some v
    → (guest_does m q (vs ++ ws) r (want.Access k sp ad o)).state ≡ guest_after m q r.state v
access-state m q vs ws r k sp ad o v e = rw e

-- a store uses no value
trap-kind : (b : Bool) (k1 k2 : Kind) (sp1 ad1 o1 sp ad o : ℕ) → (if b then want.Access k1 sp1 ad1 o1 else want.Trap)
    ≡ want.Access k2 sp ad o → k1 ≡ k2
trap-kind true k1 k2 sp1 ad1 o1 sp ad o h = cc
trap-kind false k1 k2 sp1 ad1 o1 sp ad o h = absurd cc

store-executed :
    (m : Machine) (c : Program) (i : Instr) (s : GuestState) (v w sp ad o : ℕ) → wanted m s i ≡ want.Access kind.Store sp ad o
    → executed c i s v ≡ executed c i s w
store-executed m c (instr.Set d n) s v w sp ad o h = refl
store-executed m c (instr.Move d b) s v w sp ad o h = refl
store-executed m c (instr.Add d b e) s v w sp ad o h = refl
store-executed m c (instr.Sub d b e) s v w sp ad o h = refl
store-executed m c (instr.Mul d b e) s v w sp ad o h = refl
store-executed m c (instr.And d b e) s v w sp ad o h = refl
store-executed m c (instr.Shr d b e) s v w sp ad o h = refl
store-executed m c (instr.Load d k i) s v w sp ad o h =
    let e : kind.Load ≡ kind.Store = trap-kind _ kind.Load kind.Store s.space (address s k i) 0 sp ad o h in absurd cc
store-executed m c (instr.Store r k i) s v w sp ad o h = refl
store-executed m c (instr.Fadd d r k i) s v w sp ad o h =
    let e : kind.Add ≡ kind.Store = trap-kind _ kind.Add kind.Store s.space (address s k i) (register s r) sp ad o h in absurd cc
store-executed m c (instr.Switch space) s v w sp ad o h = refl
store-executed m c (instr.Print r) s v w sp ad o h = refl
store-executed m c (instr.Jump l) s v w sp ad o h = refl
store-executed m c (instr.Zero b l) s v w sp ad o h = refl
store-executed m c (instr.Less b e l) s v w sp ad o h = refl
store-executed m c instr.Halt s v w sp ad o h = refl

store-next :
    (m : Machine) (c : Program) (s : GuestState) (v w sp ad o : ℕ) (i : Option Instr) → wanted_next m s i ≡ want.Access kind.Store sp ad o
    → executed_next c s v i ≡ executed_next c s w i
store-next m c s v w sp ad o None h = refl
store-next m c s v w sp ad o (Some i) h = store-executed m c i s v w sp ad o h

value-found :
    (m : Machine) (a : ℕ) (s : GuestState) (k : Kind) (sp ad o old : ℕ) → want_of m a s ≡ want.Access k sp ad o
    → guest_after m a s old ≡ guest_after m a s (if reads_word k then old else 0)
value-found m a s kind.Load sp ad o old h = refl
value-found m a s kind.Store sp ad o old h =
    store-next m (program_of m a) s old 0 sp ad o (slice_get (program_of m a).code s.at) h
value-found m a s kind.Add sp ad o old h = refl

-- the access that this reach makes
pub is_done-made :
    (r : Reach) (x : Access) → x.kind ≡ r.kind → x.space ≡ r.space → x.addr ≡ r.addr → x.page ≡ r.page → x.word ≡ r.word
    → x.new ≡ new_value r.kind x.old r.operand → is_done_access r x ≡ true
is_done-made r x k sp ad pg w n =
    rw (
      eq-eqb (kind_number r.kind) (kind_number x.kind) (ap kind_number (sym k)),
      eq-eqb r.space x.space (sym sp),
      eq-eqb r.addr x.addr (sym ad),
      eq-eqb r.page x.page (sym pg),
      eq-eqb r.word x.word (sym w),
    ) (eq-eqb x.new (new_value r.kind x.old r.operand) n)

pub guest-access :
    (m : Machine) (a : ℕ) (p q : Private) (k : Kind) (sp ad o : ℕ) (x : Access) → GuestOk m a p → a < m.nodes
    → want_of m a p.guest ≡ want.Access k sp ad o → x.actor ≡ a → x.kind ≡ k → is_done_access (reach_of m k sp ad o) x ≡ true
    → q.turns ≡ p.turns → q.guest ≡ guest_after m a p.guest x.old → q.journal ≡ p.journal ++ item.Access x ∷ []
    → is_in_turn p.place ≡ true → is_before_tick p.place ≡ false → is_in_turn q.place ≡ false → GuestOk m a q
guest-access m a p q k sp ad o x g l wants mine kinds does t gs j e b out =
    let some = g.turns_some l b in
    let done : turns_done q ≡ turns_done p + 1 = rw (out, t) (sym (done-in_turn p e some)) in
    let vs = values_of a p.journal in
    let ws = values_of a (item.Access x ∷ []) in
    let r = guest_run m a vs (turns_done p) in
    let here : want_of m a r.state ≡ want.Access k sp ad o = ap (want_of m a) (sym g.guest) ∙ wants in
    let found : ws ≡ (if reads_word k then x.old ∷ [] else []) =
    values_of-access a x mine ∙ ap (λ y. if reads_word y then x.old ∷ [] else []) kinds in
    let value = value_for-found k vs ws r.used x.old g.run.used found in
    let all : values_of a (p.journal ++ item.Access x ∷ []) ≡ vs ++ ws = values_of-append a p.journal (item.Access x ∷ []) in
    let next : (guest_run m a (vs ++ ws) (turns_done p + 1)).state ≡ guest_after m a r.state (if reads_word k then x.old else 0) =
    rw add-one
    (ap (λ (y : GuestRun). y.state)
    (guest_run-next m a vs ws (turns_done p) (want.Access k sp ad o) g.run.made g.run.goes here)
    ∙ access-state m a vs ws r k sp ad o (if reads_word k then x.old else 0) value) in
    record {
      run = rw (j, done)
          (IsGuest-access m p.journal (item.Access x ∷ []) (turns_done p) a k sp ad o x g.run here found (operations_of-access a x mine)
          does
          (active-access m p.journal x a));
      guest = rw (gs, j, done, all, next)
          (ap (λ s. guest_after m a s x.old) g.guest ∙ value-found m a r.state k sp ad o x.old here);
      turns_some = λ _ _. rw t some;
      turns_none = λ d. absurd (omega arith);
      own = rw j (own-one a p.journal (item.Access x) g.own mine);
    }
