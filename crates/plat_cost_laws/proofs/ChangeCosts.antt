-- a change of a good history that makes a copy is by a processor, and finds a copy there
use Rattle.std.specs.Prelude.{◌≡◌, ◌≢◌, ℕ, ◌<◌, ◌==◌, nat_lt, ◌&&◌, ◌||◌, not, if◌then◌else◌, Bool, true, false, List, length, Option, Some}
use Rattle.std.specs.Prelude.{None, is_none, is_some}
use Rattle.std.proofs.Common.{refl, sym, ap, ◌∙◌, subst, arith}
use Rattle.std.proofs.lemmas.Bool.{and_parts, true≢false}
use Rattle.std.proofs.lemmas.Bool.Decides.{nat_tests}
use Rattle.plat_base.specs.Verdicts.{Answer}
use Rattle.plat_base.specs.Machine.{Machine}
use Rattle.plat_base.specs.Alike.{same_cause, same_action, same_removed, same_dir, same_right}
use Rattle.plat_base.specs.Copies.{same_frame}
use Rattle.plat_base.specs.Accesses.{cause_of, right_of}
use Rattle.plat_base.specs.GuestRun.{Operation, Reaches, Switches}
use Rattle.plat_base.specs.Held.{held, has_right}
use Rattle.plat_base.specs.Pages.{entry_reached}
use Rattle.plat_base.specs.Directories.{dir_of, seq_of, last_of}
use Rattle.plat_base.specs.Decide.{decide, may_decide, is_dir, is_empty, fits_cause}
use Rattle.plat_base.specs.Rules.{is_chained, is_fault_of, is_fault_change, is_fault_decision, is_thaw_change, is_decided, got_named}
use Rattle.plat_base.specs.Rules.{next_operation, has_daemon, names_got}
use Rattle.plat_base.specs.declared.frames.Frame.{Frame}
use Rattle.plat_base.specs.declared.items.Action.{Action}
use Rattle.plat_base.specs.declared.items.Action.TheVariants as action
use Rattle.plat_base.specs.declared.items.Cause.{Cause}
use Rattle.plat_base.specs.declared.items.Cause.TheVariants as cause
use Rattle.plat_base.specs.declared.items.Change.{Change}
use Rattle.plat_base.specs.declared.items.Grant.{Grant}
use Rattle.plat_base.specs.declared.items.Item.{Item}
use Rattle.plat_base.specs.declared.policies.Decision.{Decision}
use Rattle.plat_laws.proofs.SameLaws.{same_action-true, same_cause-true}
use Rattle.plat_laws.proofs.TableLaws.{cause_of-fault, decide_facts, has_some}
use Rattle.plat_cost.specs.Costs.{makes_copy}

-- ---- actions

copies_got : (x : Action) → makes_copy x ≡ true → (x ≢ action.Fill) × (names_got x ≡ true)
copies_got action.Fill h = absurd cc
copies_got action.MapLocal h = absurd cc
copies_got action.MapRemote h = absurd cc
copies_got action.Replicate h = (λ e. absurd cc, refl)
copies_got action.Migrate h = (λ e. absurd cc, refl)
copies_got action.Collapse h = absurd cc
copies_got action.Thaw h = absurd cc

decided_action : (d : Decision) (c : Change) → is_decided d c ≡ true → d.action ≡ c.action
decided_action d c h =
    let two = and_parts (same_action d.action c.action && same_removed d.removed c.removed) (same_dir d.after c.after) h
    in same_action-true d.action c.action (and_parts (same_action d.action c.action) (same_removed d.removed c.removed) two.0).0

module _ (m : Machine) (answer : Answer) (items : List Item) (c : Change) where
  abbrev last : Option ℕ
  last = last_of items c.page

  -- ---- the daemon makes no copy

  thaw_action : is_thaw_change m answer items c ≡ true → c.action ≡ action.Thaw
  thaw_action h =
      let d = decide m answer c.before last c.time c.actor cause.Thaw None in
      let all = and_parts (has_daemon m.policy && same_cause c.cause cause.Thaw && is_none c.granted
      && may_decide m answer c.before last c.time c.actor cause.Thaw None) (is_decided d c) h
      in sym (decided_action d c all.1)

  -- ---- a fault makes a copy only of a page that has one

  decided_copy :
      (why : Cause) (got : Option Frame) → why ≢ cause.Thaw → may_decide m answer c.before last c.time c.actor why got ≡ true
      → is_decided (decide m answer c.before last c.time c.actor why got) c ≡ true → makes_copy c.action ≡ true
      → 0 < length c.before.copies
  decided_copy why got fault may decided copies =
      let d = decide m answer c.before last c.time c.actor why got in
      let same = decided_action d c decided in
      let facts = decide_facts m answer c.before last c.time c.actor why got fault may in
      let is = copies_got d.action (ap makes_copy same ∙ copies) in
      has_some m c.before (and_parts (is_dir m c.before) (fits_cause m answer c.before last c.time c.actor why got) may).0
      (facts.copied is.0 is.1)

  fault_cause : (g : Grant) (o : Option Operation) → is_fault_of m items c g o ≡ true → c.cause ≢ cause.Thaw
  fault_cause g None h = absurd cc
  fault_cause g (Some (Switches space)) h = absurd cc
  fault_cause g (Some (Reaches r)) h =
      let front = nat_lt g.entry (length m.entries) && g.entry == entry_reached m r.space r.addr && r.page == c.page in
      let all = and_parts (front && same_cause (cause_of r.kind) c.cause) (not (has_right r.kind (held m items c.actor g.entry))) h in
      let is = same_cause-true (cause_of r.kind) c.cause (and_parts front (same_cause (cause_of r.kind) c.cause) all.0).1
      in λ thaw. cause_of-fault r.kind (is ∙ thaw)

  fault_copy : (granted : Option Grant) → is_fault_change m answer items c granted ≡ true → makes_copy c.action ≡ true →
      0 < length c.before.copies
  fault_copy None h copies = absurd cc
  fault_copy (Some g) h copies =
      let got = got_named c.action g in
      let d = decide m answer c.before last c.time c.actor c.cause got in
      let may = may_decide m answer c.before last c.time c.actor c.cause got in
      let both = and_parts (is_fault_of m items c g (next_operation m items c.actor)) (is_fault_decision m answer items c g) h in
      let three = and_parts (may && is_decided d c && same_frame d.frame g.frame) (same_right g.right (right_of c.cause)) both.1 in
      let two = and_parts (may && is_decided d c) (same_frame d.frame g.frame) three.0 in
      let one = and_parts may (is_decided d c) two.0
      in decided_copy c.cause got (fault_cause g (next_operation m items c.actor) both.0) one.0 one.1 copies

  -- a change that is chained and makes a copy
  pub copy_can_cost : is_chained m answer items c ≡ true → makes_copy c.action ≡ true → (nat_lt c.actor m.nodes ≡ true)
      × (0 < length c.before.copies)
  copy_can_cost h copies =
      by (nat_lt c.actor m.nodes)
      (and_parts (nat_lt c.page m.pages && c.seq == seq_of items c.page && same_dir c.before (dir_of items c.page)) _ h).1
    where
      by : (b : Bool)
          → (if b then is_fault_change m answer items c c.granted else c.actor == m.nodes && is_thaw_change m answer items c) ≡ true
          → (b ≡ true) × (0 < length c.before.copies)
      by true k = (refl, fault_copy c.granted k copies)
      by false k =
          let thaw = thaw_action (and_parts (c.actor == m.nodes) (is_thaw_change m answer items c) k).1
          in absurd (true≢false (sym copies ∙ ap makes_copy thaw))
