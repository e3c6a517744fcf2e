-- what is known of a change that breaks no rule: the facts of the table, said of the change and the items before it
use Rattle.std.specs.Prelude.{◌≡◌, ◌≢◌, ◌⊎◌, ℕ, ◌<◌, ◌==◌, nat_lt, ◌&&◌, not, is_none, if◌then◌else◌, unwrap_or, Bool, true, false, List}
use Rattle.std.specs.Prelude.{[], ◌∷◌, ◌++◌, length, Option, Some, None}
use Rattle.std.proofs.Common.{refl, ap, sym, ◌∙◌, subst, inl, inr}
use Rattle.std.proofs.lemmas.Bool.{and_parts, eqb-true, ltb-true}
use Rattle.plat_base.specs.Verdicts.{Answer}
use Rattle.plat_base.specs.Machine.{Machine}
use Rattle.plat_base.specs.Pages.{page_of, entry_reached}
use Rattle.plat_base.specs.GuestRun.{Operation, Reaches, Switches}
use Rattle.plat_base.specs.Done.{values_of, operations_of}
use Rattle.plat_base.specs.Directories.{dir_of, seq_of, last_of}
use Rattle.plat_base.specs.Held.{held, has_right}
use Rattle.plat_base.specs.Copies.{copy_on, same_frame}
use Rattle.plat_base.specs.Alike.{same_action, same_removed, same_dir, same_cause, same_right}
use Rattle.plat_base.specs.Decide.{is_dir, is_empty, decide, may_decide}
use Rattle.plat_base.specs.Accesses.{cause_of, right_of}
use Rattle.plat_base.specs.Rules.{next_operation, names_got, got_named, is_decided, is_fault_of, is_fault_decision, is_fault_change}
use Rattle.plat_base.specs.Rules.{has_daemon, is_thaw_change, is_chained}
use Rattle.plat_base.specs.declared.frames.Frame.{Frame}
use Rattle.plat_base.specs.declared.frames.Dir.{Dir}
use Rattle.plat_base.specs.declared.frames.State.TheVariants as state
use Rattle.plat_base.specs.declared.items.Cause.{Cause}
use Rattle.plat_base.specs.declared.items.Cause.TheVariants as cause
use Rattle.plat_base.specs.declared.items.Right.TheVariants as right
use Rattle.plat_base.specs.declared.items.Action.TheVariants as action
use Rattle.plat_base.specs.declared.items.Removed.TheVariants as removed
use Rattle.plat_base.specs.declared.items.Grant.{Grant}
use Rattle.plat_base.specs.declared.items.Change.{Change}
use Rattle.plat_base.specs.declared.items.Item.{Item}
use Rattle.plat_base.specs.declared.policies.Decision.{Decision}
use Rattle.plat_laws.proofs.TableLaws.{DecideFacts, decide_facts, ThawFacts, thaw_facts}
use Rattle.plat_laws.proofs.SameLaws.{same_action-true, same_removed-true, same_dir-true, same_cause-true, same_right-true, same_frame-true}
use Rattle.plat_laws.proofs.TableLaws.{cause_of-fault}
use Rattle.plat_laws.proofs.ReachLaws.{HasEntry, guest_run-entry}

-- the frame of the grant is one that the change took
pub record Took (c : Change) (f : Frame) : Type 0 where
  pub grant : Grant
  pub is : c.granted ≡ Some grant
  pub named : names_got c.action ≡ true
  pub frame : grant.frame ≡ f

-- what holds of a grant of a change
pub record IsNewGrant (m : Machine) (c : Change) (g : Grant) : Type 0 where
  pub of_page : page_of m g.entry ≡ c.page
  pub copy : copy_on g.frame.module c.after.copies ≡ Some g.frame
  pub write : g.right ≡ right.Write → c.after.state ≡ state.Modified

-- what holds of a change, b being the page's directory before it
pub record ChangeFacts (m : Machine) (b : Dir) (c : Change) : Type 0 where
  pub dir : is_dir m c.after ≡ true
  pub filled : is_empty c.after.state ≡ false
  -- where not all is removed, what was a copy is one; and where nothing is, a modified page stays so
  pub stays : (mo : ℕ) (f : Frame) → c.removed ≢ removed.All → copy_on mo b.copies ≡ Some f → copy_on mo c.after.copies ≡ Some f
  pub modified : b.state ≡ state.Modified → c.removed ≡ removed.Nothing → c.after.state ≡ state.Modified
  -- a copy was one before, or was taken
  pub from : (mo : ℕ) (f : Frame) → copy_on mo c.after.copies ≡ Some f → (copy_on mo b.copies ≡ Some f) ⊎ Took c f
  pub fills : c.action ≡ action.Fill → is_empty b.state ≡ true
  pub copied : c.action ≢ action.Fill → names_got c.action ≡ true → is_empty b.state ≡ false
  pub granted : (g : Grant) → c.granted ≡ Some g → IsNewGrant m c g

-- ---- the change is the decision

record IsOf (d : Decision) (c : Change) : Type 0 where
  action : d.action ≡ c.action
  removed : d.removed ≡ c.removed
  after : d.after ≡ c.after

is_of : (d : Decision) (c : Change) → is_decided d c ≡ true → IsOf d c
is_of d c h =
    let all = and_parts (same_action d.action c.action && same_removed d.removed c.removed) (same_dir d.after c.after) h
    in let two = and_parts (same_action d.action c.action) (same_removed d.removed c.removed) all.0
    in record {
      action = same_action-true d.action c.action two.0;
      removed = same_removed-true d.removed c.removed two.1;
      after = same_dir-true d.after c.after all.1;
    }

-- ---- a fault

-- a grant that a write makes has the right to write, and no other
right_of-write : (c : Cause) → right_of c ≡ right.Write → c ≡ cause.Write
right_of-write cause.Read h = absurd cc
right_of-write cause.Write h = refl
right_of-write cause.Thaw h = absurd cc

-- a frame that was got is one that the change took
took : (c : Change) (g : Grant) (f : Frame) (b : Bool) → c.granted ≡ Some g → names_got c.action ≡ b → (if b then Some g.frame else None)
    ≡ Some f → Took c f
took c g f true granted named h = record { grant = g; is = granted; named = named; frame = cc }
took c g f false granted named h = absurd cc

fault_of-facts : (m : Machine) (c : Change) (g : Grant) (d : Decision) → page_of m g.entry ≡ c.page → c.granted ≡ Some g → IsOf d c
    → d.frame ≡ g.frame → g.right ≡ right_of c.cause → DecideFacts m c.before (got_named c.action g) c.cause d → ChangeFacts m c.before c
fault_of-facts m c g d page granted same frame right facts = record {
  dir = rw same.after at facts.dir;
  filled = rw same.after at facts.filled;
  stays = λ mo f r h.
      ap (λ (x : Dir). copy_on mo x.copies) (sym same.after) ∙ facts.copies_stay mo f (λ all. r (sym same.removed ∙ all)) h;
  modified = λ h n. ap (λ (x : Dir). x.state) (sym same.after) ∙ facts.modified_stays h (same.removed ∙ n);
  from = from;
  fills = λ h. facts.fills (same.action ∙ h);
  copied = λ n h. facts.copied (λ fill. n (sym same.action ∙ fill)) (ap names_got same.action ∙ h);
  granted = λ x h. let is : g ≡ x = cc in subst (IsNewGrant m c) is new;
}
  where
    from : (mo : ℕ) (f : Frame) → copy_on mo c.after.copies ≡ Some f → (copy_on mo c.before.copies ≡ Some f) ⊎ Took c f
    from mo f h = by (facts.copies_from mo f (ap (λ (x : Dir). copy_on mo x.copies) same.after ∙ h))
      where
        by : (copy_on mo c.before.copies ≡ Some f) ⊎ (got_named c.action g ≡ Some f) → (copy_on mo c.before.copies ≡ Some f) ⊎ Took c f
        by (inl before) = inl before
        by (inr got) = inr (took c g f (names_got c.action) granted refl got)

    new : IsNewGrant m c g
    new = record {
      of_page = page;
      copy =
          ap (λ (x : Dir). copy_on g.frame.module x.copies) (sym same.after)
          ∙ (ap (λ (f : Frame). copy_on f.module d.after.copies) (sym frame) ∙ (facts.granted ∙ ap Some frame));
      write = λ h. ap (λ (x : Dir). x.state) (sym same.after) ∙ facts.write_state (right_of-write c.cause (sym right ∙ h));
    }

-- the operation of a fault has the page of the granted entry and the cause of the change
fault_of-parts : (m : Machine) (items : List Item) (c : Change) (g : Grant) (o : Option Operation) →
    ((x : Operation) → o ≡ Some x → HasEntry m x)
    → is_fault_of m items c g o ≡ true → (page_of m g.entry ≡ c.page) × (c.cause ≢ cause.Thaw)
fault_of-parts m items c g None all h = absurd cc
fault_of-parts m items c g (Some (Switches space)) all h = absurd cc
fault_of-parts m items c g (Some (Reaches r)) all h =
    let four = and_parts (nat_lt g.entry (length m.entries) && g.entry == entry_reached m r.space r.addr && r.page == c.page
    && same_cause (cause_of r.kind) c.cause) (not (has_right r.kind (held m items c.actor g.entry))) h in
    let three = and_parts (nat_lt g.entry (length m.entries) && g.entry == entry_reached m r.space r.addr && r.page == c.page)
    (same_cause (cause_of r.kind) c.cause) four.0 in
    let two = and_parts (nat_lt g.entry (length m.entries) && g.entry == entry_reached m r.space r.addr) (r.page == c.page) three.0 in
    let one = and_parts (nat_lt g.entry (length m.entries)) (g.entry == entry_reached m r.space r.addr) two.0 in
    let reached = all (Reaches r) refl in
    let entry : g.entry ≡ reached.0 = eqb-true g.entry (entry_reached m r.space r.addr) one.1
    ∙ ap (λ o. unwrap_or o (length m.entries)) reached.1.found in
    let cause = same_cause-true (cause_of r.kind) c.cause three.1
    in (ap (page_of m) entry ∙ (reached.1.of_page ∙ eqb-true r.page c.page two.1), λ thaw. cause_of-fault r.kind (cause ∙ thaw))

pub next_operation-entry : (m : Machine) (items : List Item) (q : ℕ) (x : Operation) → next_operation m items q ≡ Some x → HasEntry m x
next_operation-entry m items q x h = guest_run-entry m q (values_of q items ++ 0 ∷ []) m.budget (length (operations_of q items)) x h

fault_change-facts : (m : Machine) (answer : Answer) (items : List Item) (c : Change) (o : Option Grant) → c.granted ≡ o
    → is_fault_change m answer items c o ≡ true → ChangeFacts m c.before c
fault_change-facts m answer items c None granted h = absurd cc
fault_change-facts m answer items c (Some g) granted h =
    let last = last_of items c.page in
    let got = got_named c.action g in
    let d = decide m answer c.before last c.time c.actor c.cause got in
    let both = and_parts (is_fault_of m items c g (next_operation m items c.actor)) (is_fault_decision m answer items c g) h in
    let fault = fault_of-parts m items c g (next_operation m items c.actor) (next_operation-entry m items c.actor) both.0 in
    let three = and_parts (may_decide m answer c.before last c.time c.actor c.cause got && is_decided d c && same_frame d.frame g.frame)
    (same_right g.right (right_of c.cause)) both.1 in
    let two = and_parts (may_decide m answer c.before last c.time c.actor c.cause got && is_decided d c) (same_frame d.frame g.frame)
    three.0 in
    let one = and_parts (may_decide m answer c.before last c.time c.actor c.cause got) (is_decided d c) two.0
    in fault_of-facts m c g d fault.0 granted (is_of d c one.1) (same_frame-true d.frame g.frame two.1)
    (same_right-true g.right (right_of c.cause) three.1) (decide_facts m answer c.before last c.time c.actor c.cause got fault.1 one.0)

-- ---- a thaw

none_of : (o : Option Grant) → is_none o ≡ true → o ≡ None
none_of None h = refl
none_of (Some g) h = absurd cc

thaw_of-facts : (m : Machine) (c : Change) (d : Decision) → c.granted ≡ None → IsOf d c → ThawFacts m c.before d → ChangeFacts m c.before c
thaw_of-facts m c d none same facts = record {
  dir = rw same.after at facts.dir;
  filled = rw same.after at facts.filled;
  stays = λ mo f r h. absurd (r (sym same.removed ∙ facts.removed));
  modified = λ h n. let all : c.removed ≡ removed.All = sym same.removed ∙ facts.removed in absurd cc;
  from = λ mo f h. inl (ap (copy_on mo) (sym facts.copies) ∙ (ap (λ (x : Dir). copy_on mo x.copies) same.after ∙ h));
  fills = λ h. let thaw : c.action ≡ action.Thaw = sym same.action ∙ facts.action in absurd cc;
  copied = λ n h. let thaw : names_got c.action ≡ false = ap names_got (sym same.action ∙ facts.action) in absurd cc;
  granted = λ g h. absurd cc;
}

thaw_change-facts : (m : Machine) (answer : Answer) (items : List Item) (c : Change) → is_thaw_change m answer items c ≡ true →
    ChangeFacts m c.before c
thaw_change-facts m answer items c h =
    let last = last_of items c.page in
    let d = decide m answer c.before last c.time c.actor cause.Thaw None in
    let may = may_decide m answer c.before last c.time c.actor cause.Thaw None in
    let four = and_parts (has_daemon m.policy && same_cause c.cause cause.Thaw && is_none c.granted && may) (is_decided d c) h in
    let three = and_parts (has_daemon m.policy && same_cause c.cause cause.Thaw && is_none c.granted) may four.0 in
    let two = and_parts (has_daemon m.policy && same_cause c.cause cause.Thaw) (is_none c.granted) three.0 in
    let none : Option Frame = None in
    let fits = and_parts (is_dir m c.before) (c.before.frozen && is_none none) three.1 in
    let frozen = and_parts c.before.frozen (is_none none) fits.1
    in thaw_of-facts m c d (none_of c.granted two.1) (is_of d c four.1) (thaw_facts m answer c.before last c.time c.actor fits.0 frozen.0)

-- ---- a change that breaks no rule

either_facts : (m : Machine) (answer : Answer) (items : List Item) (c : Change) (b : Bool)
    → (if b then is_fault_change m answer items c c.granted else c.actor == m.nodes && is_thaw_change m answer items c) ≡ true
    → ChangeFacts m c.before c
either_facts m answer items c true h = fault_change-facts m answer items c c.granted refl h
either_facts m answer items c false h =
    thaw_change-facts m answer items c (and_parts (c.actor == m.nodes) (is_thaw_change m answer items c) h).1

-- a change that follows these items
pub record IsGoodChange (m : Machine) (items : List Item) (c : Change) : Type 0 where
  pub page : c.page < m.pages
  pub seq : c.seq ≡ seq_of items c.page
  pub before : c.before ≡ dir_of items c.page
  pub facts : ChangeFacts m (dir_of items c.page) c

pub good_change : (m : Machine) (answer : Answer) (items : List Item) (c : Change) → is_chained m answer items c ≡ true →
    IsGoodChange m items c
good_change m answer items c h =
    let cause = if nat_lt c.actor m.nodes then is_fault_change m answer items c c.granted else c.actor == m.nodes
    && is_thaw_change m answer items c in
    let three = and_parts (nat_lt c.page m.pages && c.seq == seq_of items c.page && same_dir c.before (dir_of items c.page)) cause h in
    let two = and_parts (nat_lt c.page m.pages && c.seq == seq_of items c.page) (same_dir c.before (dir_of items c.page)) three.0 in
    let one = and_parts (nat_lt c.page m.pages) (c.seq == seq_of items c.page) two.0 in
    let before = same_dir-true c.before (dir_of items c.page) two.1
    in record {
      page = ltb-true c.page m.pages one.0;
      seq = eqb-true c.seq (seq_of items c.page) one.1;
      before = before;
      facts = subst (λ (b : Dir). ChangeFacts m b c) before (either_facts m answer items c (nat_lt c.actor m.nodes) three.1);
    }
