-- what a chained change, an answered message and a fault say of their numbers, and how the tests of each add up
use Rattle.std.proofs.Common.{◌≡◌, ◌≢◌, ℕ, ◌/◌, ◌<◌, ◌≤◌, List, length, Option, Some, None, Bool, true, false, not, refl, ap, sym, subst}
use Rattle.std.proofs.Common.{◌∙◌, arith}
use Rattle.std.specs.Prelude.{nat_lt, ◌==◌, ◌&&◌, is_none, is_some, IfSome, unwrap_or, if◌then◌else◌}
use Rattle.std.proofs.lemmas.Bool.{ne_eqb, and_left, and_right, ltb-true, lt-ltb, eq-eqb}
use Rattle.std.proofs.lemmas.Bool.Decides.{nat_tests}
use Rattle.plat_laws.proofs.Limits.{and-left, and-right}
use Rattle.plat_base.specs.Verdicts.{Answer}
use Rattle.plat_base.specs.Machine.{Machine}
use Rattle.plat_base.specs.Pages.{entry_at, space_of}
use Rattle.plat_base.specs.GuestRun.{Operation, Reaches, Switches}
use Rattle.plat_base.specs.Directories.{last_of}
use Rattle.plat_base.specs.Held.{held, active, has_right}
use Rattle.plat_base.specs.Copies.{same_frame}
use Rattle.plat_base.specs.Alike.{same_cause, same_right}
use Rattle.plat_base.specs.Decide.{decide, may_decide}
use Rattle.plat_base.specs.Accesses.{cause_of, right_of}
use Rattle.plat_base.specs.Rules.{next_operation, got_named, has_daemon, is_decided, is_fault_of, is_fault_change, is_fault_decision}
use Rattle.plat_base.specs.Rules.{is_thaw_change, is_chained, may_apply, is_answered}
use Rattle.plat_base.specs.declared.frames.Dir.{Dir}
use Rattle.plat_base.specs.declared.frames.Frame.{Frame}
use Rattle.plat_base.specs.declared.items.Applied.{Applied}
use Rattle.plat_base.specs.declared.items.Cause.{Cause}
use Rattle.plat_base.specs.declared.items.Cause.TheVariants as causes
use Rattle.plat_base.specs.declared.items.Change.{Change}
use Rattle.plat_base.specs.declared.items.Grant.{Grant}
use Rattle.plat_base.specs.declared.items.Item.{Item}
use Rattle.plat_base.specs.declared.items.Translation.{Translation}
use Rattle.plat_base.specs.declared.policies.Decision.{Decision}
use Rattle.plat_follow.specs.Wanted.{reach_seen}
use Rattle.plat_follow.specs.declared.wanted.WantedAccess.{WantedAccess}
use Rattle.plat_judge.specs.Decided.{decided_if_may}
use Rattle.plat_judge.proofs.RuleLemmas.{and-both, and-one}

true_same : (a n : ℕ) → (a == n) ≡ true → a ≤ n
true_same a n h = grind (arith, nat_tests)

module _ (m : Machine) (answer : Answer) (items : List Item) (c : Change) where
  -- a granted entry is one of the machine's
  abbrev pub GrantsWithin : Option Grant → Type 0
  GrantsWithin granted = IfSome granted (λ grant. grant.entry < length m.entries)

  fault_within : (g : Grant) (o : Option Operation) → is_fault_of m items c g o ≡ true → g.entry < length m.entries
  fault_within g None h = absurd cc
  fault_within g (Some (Switches space)) h = absurd cc
  fault_within g (Some (Reaches r)) h = grind (arith, nat_tests)

  fault_change_within : (granted : Option Grant) → is_fault_change m answer items c granted ≡ true → GrantsWithin granted
  fault_change_within None h = absurd cc
  fault_change_within (Some g) h = fault_within g _ (and-left _ _ h)

  none_within : (granted : Option Grant) → is_none granted ≡ true → GrantsWithin granted
  none_within None h = tt
  none_within (Some g) h = absurd cc

  thaw_within : is_thaw_change m answer items c ≡ true → GrantsWithin c.granted
  thaw_within h = none_within c.granted (and-right _ _ (and-left _ _ (and-left _ _ h)))

  by_actor : (b : Bool) → nat_lt c.actor m.nodes ≡ b
      → (if b then is_fault_change m answer items c c.granted else (c.actor == m.nodes && is_thaw_change m answer items c)) ≡ true
      → (c.actor ≤ m.nodes) × GrantsWithin c.granted
  by_actor true e h = (omega (arith, ltb-true c.actor m.nodes e), fault_change_within c.granted h)
  by_actor false e h = (true_same c.actor m.nodes (and-left _ _ h), thaw_within (and-right _ _ h))

  chained-parts : is_chained m answer items c ≡ true → (c.actor ≤ m.nodes) × GrantsWithin c.granted
  chained-parts h = by_actor (nat_lt c.actor m.nodes) refl (and-right _ _ h)

  -- a chained change has a page, an actor and an entry of the machine
  pub chained-page : is_chained m answer items c ≡ true → c.page < m.pages
  chained-page h = ltb-true c.page m.pages (and-left _ _ (and-left _ _ (and-left _ _ h)))

  pub chained-actor : is_chained m answer items c ≡ true → c.actor ≤ m.nodes
  chained-actor h = (chained-parts h).0

  pub chained-grant : is_chained m answer items c ≡ true → GrantsWithin c.granted
  chained-grant h = (chained-parts h).1

-- an answered message has an actor and an entry of the machine
pub answered-actor : (m : Machine) (items : List Item) (x : Applied) → is_answered m items x ≡ true → x.actor < m.nodes
answered-actor m items x h = ltb-true x.actor m.nodes (and-left _ _ (and-left _ _ (and-left _ _ h)))

pub answered-entry : (m : Machine) (items : List Item) (x : Applied) → is_answered m items x ≡ true → x.entry < length m.entries
answered-entry m items x h = ltb-true x.entry (length m.entries) (and-right _ _ (and-left _ _ (and-left _ _ h)))

-- ---- tests that were made one after another

and-three : (x y z v : Bool) → x ≡ true → y ≡ true → z ≡ true → v ≡ (x && y && z && v)
and-three x y z v h k j = rw (h, k, j) refl

and-four : (w x y z v : Bool) → w ≡ true → x ≡ true → y ≡ true → z ≡ true → v ≡ (w && x && y && z && v)
and-four w x y z v h k j i = rw (h, k, j, i) refl

-- a message whose actor and entry are the machine's, in the space of its entry
pub answered-by :
    (m : Machine) (items : List Item) (x : Applied) (t : Option Translation) (may : Bool) → x.actor < m.nodes → x.entry < length m.entries
    → active m items x.actor ≡ space_of m x.entry → t ≡ held m items x.actor x.entry → may ≡ may_apply x.message t
    → may ≡ is_answered m items x
answered-by m items x t may actor entry space holds applies =
    (applies ∙ ap (may_apply x.message) holds)
    ∙ and-three (nat_lt x.actor m.nodes) (nat_lt x.entry (length m.entries)) (active m items x.actor == space_of m x.entry)
    (may_apply x.message (held m items x.actor x.entry)) (lt-ltb x.actor m.nodes actor) (lt-ltb x.entry (length m.entries) entry)
    (eq-eqb (active m items x.actor) (space_of m x.entry) space)

pub unanswered-actor : (m : Machine) (items : List Item) (x : Applied) → m.nodes ≤ x.actor → false ≡ is_answered m items x
unanswered-actor m items x h = let no : nat_lt x.actor m.nodes ≡ false = grind (arith, nat_tests) in rw no refl

pub unanswered-space :
    (m : Machine) (items : List Item) (x : Applied) → active m items x.actor ≢ space_of m x.entry → false ≡ is_answered m items x
unanswered-space m items x h =
    sym (and_left (nat_lt x.actor m.nodes && nat_lt x.entry (length m.entries) && active m items x.actor == space_of m x.entry)
    (may_apply x.message (held m items x.actor x.entry))
    (and_right (nat_lt x.actor m.nodes && nat_lt x.entry (length m.entries)) (active m items x.actor == space_of m x.entry)
    (ne_eqb (active m items x.actor) (space_of m x.entry) h)))

-- a fault through the entry that the change grants, of its page and cause
pub fault-by :
    (m : Machine) (items : List Item) (c : Change) (g : Grant) (a : WantedAccess) (t : Option Translation) (has : Bool)
    → entry_at m a.space (a.addr / m.words) ≡ Some a.entry → a.entry < length m.entries → g.entry ≡ a.entry → a.page ≡ c.page
    → same_cause (cause_of a.kind) c.cause ≡ true → t ≡ held m items c.actor g.entry → has ≡ has_right a.kind t
    → not has ≡ is_fault_of m items c g (Some (Reaches (reach_seen a)))
fault-by m items c g a t has found below entry page cause holds right =
    ap not (right ∙ ap (has_right a.kind) holds)
    ∙ and-four (nat_lt g.entry (length m.entries)) (g.entry == unwrap_or (entry_at m a.space (a.addr / m.words)) (length m.entries))
    (a.page == c.page) (same_cause (cause_of a.kind) c.cause) (not (has_right a.kind (held m items c.actor g.entry)))
    (lt-ltb g.entry (length m.entries) (omega arith))
    (eq-eqb g.entry (unwrap_or (entry_at m a.space (a.addr / m.words)) (length m.entries))
    (entry ∙ sym (ap (λ (e : Option ℕ). unwrap_or e (length m.entries)) found)))
    (eq-eqb a.page c.page page) cause

-- ---- decisions

module _ (m : Machine) (answer : Answer) (dir : Dir) (last : Option ℕ) (now node : ℕ) (cause : Cause) (got : Option Frame) where
  may : (b : Bool) (d e : Decision) → (if b then Some d else None) ≡ Some e → (b ≡ true) × (d ≡ e)
  may true d e h = (refl, cc)
  may false d e h = absurd cc

  may_not : (b : Bool) (d : Decision) → (if b then Some d else None) ≡ None → b ≡ false
  may_not true d h = absurd cc
  may_not false d h = refl

  pub decided-some : (e : Decision) → decided_if_may m answer dir last now node cause got ≡ Some e
      → (may_decide m answer dir last now node cause got ≡ true) × (decide m answer dir last now node cause got ≡ e)
  decided-some e h = may (may_decide m answer dir last now node cause got) (decide m answer dir last now node cause got) e h

  pub decided-none : decided_if_may m answer dir last now node cause got ≡ None → may_decide m answer dir last now node cause got ≡ false
  decided-none h = may_not (may_decide m answer dir last now node cause got) (decide m answer dir last now node cause got) h

-- a change that does and grants what was decided
abbrev pub does : Decision → Change → Grant → Bool
does d c g = is_decided d c && same_frame d.frame g.frame && same_right g.right (right_of c.cause)

and-before : (w x y z : Bool) → w ≡ true → (x && y && z) ≡ (w && x && y && z)
and-before w x y z h = rw h refl

none-before : (w x y z : Bool) → w ≡ false → false ≡ (w && x && y && z)
none-before w x y z h = rw h refl

pub fault-decided :
    (m : Machine) (answer : Answer) (items : List Item) (c : Change) (g : Grant) (last : Option ℕ) (e : Decision)
    → last ≡ last_of items c.page → decided_if_may m answer c.before last c.time c.actor c.cause (got_named c.action g) ≡ Some e
    → does e c g ≡ is_fault_decision m answer items c g
fault-decided m answer items c g last e same h =
    let here = subst (λ (l : Option ℕ). decided_if_may m answer c.before l c.time c.actor c.cause (got_named c.action g) ≡ Some e) same h in
    let both = decided-some m answer c.before (last_of items c.page) c.time c.actor c.cause (got_named c.action g) e here in
    let d = decide m answer c.before (last_of items c.page) c.time c.actor c.cause (got_named c.action g) in
    ap (λ (d : Decision). does d c g) (sym both.1)
    ∙ and-before (may_decide m answer c.before (last_of items c.page) c.time c.actor c.cause (got_named c.action g)) (is_decided d c)
    (same_frame d.frame g.frame) (same_right g.right (right_of c.cause)) both.0

pub fault-undecided :
    (m : Machine) (answer : Answer) (items : List Item) (c : Change) (g : Grant) (last : Option ℕ)
    → last ≡ last_of items c.page → decided_if_may m answer c.before last c.time c.actor c.cause (got_named c.action g) ≡ None
    → false ≡ is_fault_decision m answer items c g
fault-undecided m answer items c g last same h =
    let here = subst (λ (l : Option ℕ). decided_if_may m answer c.before l c.time c.actor c.cause (got_named c.action g) ≡ None) same h in
    let no = decided-none m answer c.before (last_of items c.page) c.time c.actor c.cause (got_named c.action g) here in
    let d = decide m answer c.before (last_of items c.page) c.time c.actor c.cause (got_named c.action g) in
    none-before (may_decide m answer c.before (last_of items c.page) c.time c.actor c.cause (got_named c.action g)) (is_decided d c)
    (same_frame d.frame g.frame) (same_right g.right (right_of c.cause)) no

-- the tests of a thaw
abbrev pub may_thaw : Machine → Change → Bool
may_thaw m c = has_daemon m.policy && same_cause c.cause causes.Thaw && is_none c.granted

thaw-none : (x w v : Bool) → w ≡ false → false ≡ (x && w && v)
thaw-none x w v h = sym (and_left (x && w) v (and_right x w h))

pub thaw-decided :
    (m : Machine) (answer : Answer) (items : List Item) (c : Change) (last : Option ℕ) (e : Decision) → may_thaw m c ≡ true
    → last ≡ last_of items c.page → decided_if_may m answer c.before last c.time c.actor causes.Thaw None ≡ Some e
    → is_decided e c ≡ is_thaw_change m answer items c
thaw-decided m answer items c last e thaws same h =
    let here = subst (λ (l : Option ℕ). decided_if_may m answer c.before l c.time c.actor causes.Thaw None ≡ Some e) same h in
    let both = decided-some m answer c.before (last_of items c.page) c.time c.actor causes.Thaw None e here in
    ap (λ (d : Decision). is_decided d c) (sym both.1)
    ∙ and-both (may_thaw m c) (may_decide m answer c.before (last_of items c.page) c.time c.actor causes.Thaw None)
    (is_decided (decide m answer c.before (last_of items c.page) c.time c.actor causes.Thaw None) c) thaws both.0

pub thaw-undecided :
    (m : Machine) (answer : Answer) (items : List Item) (c : Change) (last : Option ℕ)
    → last ≡ last_of items c.page → decided_if_may m answer c.before last c.time c.actor causes.Thaw None ≡ None
    → false ≡ is_thaw_change m answer items c
thaw-undecided m answer items c last same h =
    let here = subst (λ (l : Option ℕ). decided_if_may m answer c.before l c.time c.actor causes.Thaw None ≡ None) same h in
    thaw-none (may_thaw m c) (may_decide m answer c.before (last_of items c.page) c.time c.actor causes.Thaw None)
    (is_decided (decide m answer c.before (last_of items c.page) c.time c.actor causes.Thaw None) c)
    (decided-none m answer c.before (last_of items c.page) c.time c.actor causes.Thaw None here)

not_some : {A : Type 0} (o : Option A) → is_some o ≡ false → is_none o ≡ true
not_some None h = refl
not_some (Some x) h = absurd cc

pub thaws : (m : Machine) (c : Change) → has_daemon m.policy ≡ true → same_cause c.cause causes.Thaw ≡ true → is_some c.granted ≡ false →
    may_thaw m c ≡ true
thaws m c daemon cause granted = rw (daemon, cause, not_some c.granted granted) refl

-- ---- a change by a processor

module _ (m : Machine) (answer : Answer) (items : List Item) (c : Change) (g : Grant) (o : Option Operation)
    (next : o ≡ next_operation m items c.actor) where
  now : (fault : Bool) → fault ≡ is_fault_of m items c g o → is_fault_of m items c g (next_operation m items c.actor) ≡ fault
  now fault h = sym (h ∙ ap (is_fault_of m items c g) next)

  pub fault-change : (fault decided : Bool) → fault ≡ is_fault_of m items c g o → fault ≡ true →
      decided ≡ is_fault_decision m answer items c g
      → decided ≡ is_fault_change m answer items c (Some g)
  fault-change fault decided of is by =
      by ∙ and-one (is_fault_of m items c g (next_operation m items c.actor)) (is_fault_decision m answer items c g) (now fault of ∙ is)

  pub no_fault-change : (fault : Bool) → fault ≡ is_fault_of m items c g o → fault ≡ false →
      false ≡ is_fault_change m answer items c (Some g)
  no_fault-change fault of is =
      sym (and_left (is_fault_of m items c g (next_operation m items c.actor)) (is_fault_decision m answer items c g) (now fault of ∙ is))
