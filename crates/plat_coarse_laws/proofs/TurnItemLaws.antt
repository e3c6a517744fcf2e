-- the items of a turn break no rule: an access with enough right, a fault, a thaw and a switch; and what they are to each guest
use Rattle.std.specs.Prelude.{◌≡◌, ◌≢◌, ◌≤◌, ◌<◌, ℕ, ◌+◌, ◌==◌, nat_lt, ◌&&◌, not, if◌then◌else◌, Bool, true, false, List, [], ◌∷◌, ◌++◌}
use Rattle.std.specs.Prelude.{length, Option, Some, None}
use Rattle.std.proofs.Common.{refl, ap, sym, subst, ◌∙◌, arith}
use Rattle.std.specs.List.{list_any}
use Rattle.std.proofs.lemmas.Bool.{eq-eqb, ne_eqb, lt-ltb, le-ltb, and_from, cond-true, cond-false}
use Rattle.std.proofs.lemmas.List.{append_assoc}
use Rattle.std.proofs.lemmas.List.Folds.{list_any-append}
use Rattle.plat_base.specs.Verdicts.{Answer}
use Rattle.plat_base.specs.Machine.{Machine}
use Rattle.plat_base.specs.Pages.{page_of, entry_reached}
use Rattle.plat_base.specs.GuestRun.{guest_run, want_of, Operation, Reaches, Switches, Reach, reach_of}
use Rattle.plat_base.specs.Done.{values_of, Accessed, Switched, operations_of, is_done_access, new_value, reads_word}
use Rattle.plat_base.specs.Flat.{flat_value, flat_writes, is_write}
use Rattle.plat_base.specs.Directories.{dir_of, seq_of, last_of}
use Rattle.plat_base.specs.Held.{held, active, serves, has_right, later, removes_all, removes_writes, held_through}
use Rattle.plat_base.specs.Decide.{decide, may_decide, is_dir, is_frame}
use Rattle.plat_base.specs.Alike.{kind_number, same_dir}
use Rattle.plat_base.specs.Copies.{same_frame}
use Rattle.plat_base.specs.Accesses.{writes_made, access_by, cause_of}
use Rattle.plat_base.specs.Ends.{is_live}
use Rattle.plat_base.specs.Coarse.{Coarse}
use Rattle.plat_base.specs.Frames.{is_starved}
use Rattle.plat_base.specs.Messages.{message_of, switch_items}
use Rattle.plat_base.specs.Turns.{decided, change_by, grant_of, fault_items, thaw_items, is_pass}
use Rattle.plat_base.specs.Rules.{is_access_next, is_switch_next, next_operation, is_ordered_access, entry_of_access, is_grant_of}
use Rattle.plat_base.specs.Rules.{is_granted, is_legal, is_fault_of, is_fault_decision, is_fault_change, is_decided, has_daemon}
use Rattle.plat_base.specs.Rules.{is_thaw_change, is_chained, may_apply, unless, first_rule, bad_rule, bad_after}
use Rattle.plat_base.proofs.CopiesLemmas.{same_frame-itself}
use Rattle.plat_base.specs.declared.frames.Frame.{Frame}
use Rattle.plat_base.specs.declared.items.Kind.{Kind}
use Rattle.plat_base.specs.declared.items.Kind.TheVariants as kind
use Rattle.plat_base.specs.declared.items.Cause.{Cause}
use Rattle.plat_base.specs.declared.items.Cause.TheVariants as cause
use Rattle.plat_base.specs.declared.items.Right.{Right}
use Rattle.plat_base.specs.declared.items.Right.TheVariants as right
use Rattle.plat_base.specs.declared.items.Grant.{Grant}
use Rattle.plat_base.specs.declared.items.Translation.{Translation}
use Rattle.plat_base.specs.declared.items.Access.{Access}
use Rattle.plat_base.specs.declared.items.Change.{Change}
use Rattle.plat_base.specs.declared.items.Item.{Item}
use Rattle.plat_base.specs.declared.items.Item.TheVariants as item
use Rattle.plat_base.specs.declared.guests.Want.TheVariants as want
use Rattle.plat_base.specs.declared.policies.Decision.{Decision}
use Rattle.plat_base.specs.declared.policies.PolicyKind.{PolicyKind}
use Rattle.plat_base.specs.declared.policies.PolicyKind.TheVariants as policy
use Rattle.plat_base.specs.declared.statuses.Rule.TheVariants as rule
use Rattle.plat_laws.specs.Guests.{IsWithinLimits, IsGuest}
use Rattle.plat_coarse_laws.specs.Sound.{IsNextChange}
use Rattle.plat_laws.proofs.ItemLaws.{same_number, all_applied, is_by, dir_of-applied, seq_of-applied, last_of-applied, values_of-applied}
use Rattle.plat_laws.proofs.ItemLaws.{operations_of-applied, held-not_mine, active-access, operations_of-append}
use Rattle.plat_laws.proofs.GuestLaws.{next_operation-access, next_operation-switch, IsGuest-access}
use Rattle.plat_laws.proofs.GuestLaws.{IsGuest-switch, IsReach, IsReach-wanted, reach_of-page, reach_of-word}
use Rattle.plat_laws.proofs.EndLaws.{bad_after-more, bad_after-one, values_of-not_by, operations_of-not_by}
use Rattle.plat_coarse_laws.proofs.MessageLaws.{hit, interrupts-none_by_initiator, interrupts-none_by_ended, bad_after-interrupts, sent}
use Rattle.plat_coarse_laws.proofs.MessageLaws.{posted, sent-applied, active-posted, flat_value-posted, flat_writes-posted}
use Rattle.plat_coarse_laws.proofs.MessageLaws.{values_of-posted, operations_of-posted, posted-none_by, fault_items-parts, switch_of}
use Rattle.plat_coarse_laws.proofs.MessageLaws.{activations, activations-applied, bad_after-switch_items, switch_items-none_by}
use Rattle.plat_coarse_laws.proofs.MessageLaws.{active-switch_items}
use Rattle.plat_laws.proofs.TableLaws.{PageFacts, fault_page, thaw_page, thaw_facts, may_thaw, is_decided-change_by, all_three}
use Rattle.plat_laws.proofs.TableLaws.{same_cause-itself, same_dir-itself}
use Rattle.plat_laws.proofs.TableLaws.{cause_of-fault}
use Rattle.plat_coarse_laws.proofs.FrameLaws.{fault_facts, fault_decided}
use Rattle.plat_laws.proofs.Limits.{not_both}
use Rattle.plat_laws.proofs.ItemLaws.{values_of-append}
use Rattle.plat_laws.proofs.ItemLaws.{values_of-access}
use Rattle.plat_laws.proofs.ItemLaws.{operations_of-access}

-- ---- the access that a reach makes

-- the access of flat memory that `access_by` puts into an item
abbrev pub access_of : Machine → List Item → ℕ → Reach → Frame → ℕ → Access
access_of m items q r frame grant =
    let old = flat_value m items r.page r.word
    in record {
      actor = q;
      kind = r.kind;
      space = r.space;
      addr = r.addr;
      page = r.page;
      word = r.word;
      old = old;
      new = new_value r.kind old r.operand;
      version = flat_writes items r.page r.word + writes_made r.kind;
      frame = frame;
      grant = grant;
    }

-- it is the access of that reach
pub is_done-access_of :
    (m : Machine) (items : List Item) (q : ℕ) (r : Reach) (frame : Frame) (grant : ℕ)
    → is_done_access r (access_of m items q r frame grant) ≡ true
is_done-access_of m items q r frame grant =
    let new = new_value r.kind (flat_value m items r.page r.word) r.operand
    in rw (
      eq-eqb (kind_number r.kind) (kind_number r.kind) refl,
      eq-eqb r.space r.space refl,
      eq-eqb r.addr r.addr refl,
      eq-eqb r.page r.page refl,
      eq-eqb r.word r.word refl,
    ) (eq-eqb new new refl)

-- ---- the rules of an access

access_ordered :
    (m : Machine) (before : List Item) (acc : Access) (r : Reach) → acc.actor < m.nodes → is_frame m acc.frame ≡ true
    → next_operation m before acc.actor ≡ Some (Reaches r) → is_done_access r acc ≡ true → is_ordered_access m before acc ≡ true
access_ordered m before acc r l f n d =
    all_three (nat_lt acc.actor m.nodes) (is_frame m acc.frame) (is_access_next (next_operation m before acc.actor) acc)
    (lt-ltb acc.actor m.nodes l) f
    (ap (λ op. is_access_next op acc) n ∙ d)

-- `is_granted` of the translation and of the two tests that it reads
granted_by : Access → Option Translation → (all writes : Bool) → Bool
granted_by acc t all writes = is_grant_of acc t && has_right acc.kind t && not all && not (is_write acc.kind && writes)

granted_by-parts :
    (acc : Access) (t : Translation) (all writes : Bool) → t.grant.frame ≡ acc.frame → t.seq ≡ acc.grant
    → has_right acc.kind (Some t) ≡ true → all ≡ false → (is_write acc.kind ≡ true → writes ≡ false)
    → granted_by acc (Some t) all writes ≡ true
unfolding granted_by
granted_by-parts acc t all writes f s r a w =
    let frame : same_frame t.grant.frame acc.frame ≡ true = rw f (same_frame-itself acc.frame)
    in and_from (is_grant_of acc (Some t) && has_right acc.kind (Some t) && not all) (not (is_write acc.kind && writes))
    (all_three (is_grant_of acc (Some t)) (has_right acc.kind (Some t)) (not all)
    (and_from (same_frame t.grant.frame acc.frame) (t.seq == acc.grant) frame (eq-eqb t.seq acc.grant s)) r (ap not a))
    (not_both (is_write acc.kind) writes w)

access_granted :
    (m : Machine) (before : List Item) (acc : Access) (t : Translation)
    → held_through m before acc.actor (entry_of_access m acc) ≡ Some t → t.grant.frame ≡ acc.frame → t.seq ≡ acc.grant
    → has_right acc.kind (Some t) ≡ true → later removes_all before acc.page acc.grant ≡ false
    → (is_write acc.kind ≡ true → later removes_writes before acc.page acc.grant ≡ false) → is_granted m before acc ≡ true
unfolding granted_by
access_granted m before acc t h f s r a w =
    let all = later removes_all before acc.page acc.grant
    in let writes = later removes_writes before acc.page acc.grant
    in ap (λ o. granted_by acc o all writes) h ∙ granted_by-parts acc t all writes f s r a w

access_legal :
    (m : Machine) (before items : List Item) (q : ℕ) (r : Reach) (frame : Frame) (grant : ℕ) → r.page < m.pages
    → r.word < m.words → flat_value m before r.page r.word ≡ flat_value m items r.page r.word
    → flat_writes before r.page r.word ≡ flat_writes items r.page r.word
    → is_legal m before (access_of m items q r frame grant) ≡ true
access_legal m before items q r frame grant p w v c =
    let old = flat_value m items r.page r.word
    in let version = flat_writes items r.page r.word + writes_made r.kind
    in and_from (nat_lt r.page m.pages && nat_lt r.word m.words && old == flat_value m before r.page r.word)
    (version == flat_writes before r.page r.word + writes_made r.kind)
    (all_three (nat_lt r.page m.pages) (nat_lt r.word m.words) (old == flat_value m before r.page r.word)
    (lt-ltb r.page m.pages p) (lt-ltb r.word m.words w) (eq-eqb old (flat_value m before r.page r.word) (sym v)))
    (eq-eqb version (flat_writes before r.page r.word + writes_made r.kind) (ap (λ n. n + writes_made r.kind) (sym c)))

bad_rule-access :
    (m : Machine) (answer : Answer) (before : List Item) (acc : Access)
    → is_ordered_access m before acc ≡ true → is_granted m before acc ≡ true → is_legal m before acc ≡ true
    → bad_rule m answer before (item.Access acc) ≡ None
bad_rule-access m answer before acc = by (is_ordered_access m before acc) (is_granted m before acc) (is_legal m before acc)
  where
    by :
        (a b c : Bool) → a ≡ true → b ≡ true → c ≡ true
        → first_rule (unless a rule.Order) (first_rule (unless b rule.Grant) (unless c rule.Legal)) ≡ None
    by a b c x y z = rw (x, y, z) refl

-- ---- a turn whose guest wants an access

-- guest q goes on after t turns, has one more, and wants this access
pub record WantsAccess (m : Machine) (items : List Item) (t q : ℕ) (k : Kind) (sp a o : ℕ) : Type 0 where
  pub machine : IsWithinLimits m
  pub guest : IsGuest m items t q
  pub left : t < m.budget
  pub node : q < m.nodes
  pub wants : want_of m q (guest_run m q (values_of q items) t).state ≡ want.Access k sp a o

module _ (m : Machine) (items : List Item) (t q : ℕ) (k : Kind) (sp a o : ℕ) where
  wants-reach :
      WantsAccess m items t q k sp a o → IsReach m (guest_run m q (values_of q items) t).state k sp a o (entry_reached m sp a)
  wants-reach w = IsReach-wanted m q (guest_run m q (values_of q items) t).state k sp a o w.wants

  wants-page : WantsAccess m items t q k sp a o → (reach_of m k sp a o).page < m.pages
  wants-page w =
      reach_of-page m (guest_run m q (values_of q items) t).state k sp a o (entry_reached m sp a) w.machine (wants-reach w)

  wants-next : WantsAccess m items t q k sp a o → next_operation m items q ≡ Some (Reaches (reach_of m k sp a o))
  wants-next w = next_operation-access m items t q k sp a o w.guest w.left w.wants

-- the access that the guest wants is good behind items that leave its next operation and flat memory alone, if it holds the
-- translation there
access_good :
    (m : Machine) (answer : Answer) (before items : List Item) (t q : ℕ) (k : Kind) (sp a o : ℕ)
    (tr : Translation)
    → WantsAccess m items t q k sp a o
    → next_operation m before q ≡ next_operation m items q
    → ((page word : ℕ) → flat_value m before page word ≡ flat_value m items page word)
    → ((page word : ℕ) → flat_writes before page word ≡ flat_writes items page word)
    → held m before q (entry_reached m sp a) ≡ Some tr → has_right k (Some tr) ≡ true → is_frame m tr.grant.frame ≡ true
    → later removes_all before (page_of m (entry_reached m sp a)) tr.seq ≡ false
    → (is_write k ≡ true → later removes_writes before (page_of m (entry_reached m sp a)) tr.seq ≡ false)
    → bad_rule m answer before (access_by m items q (reach_of m k sp a o) tr.grant.frame tr.seq) ≡ None
access_good m answer before items t q k sp a o tr w n v c h r f all writes =
    let reach = reach_of m k sp a o
    in let acc = access_of m items q reach tr.grant.frame tr.seq
    in bad_rule-access m answer before acc
    (access_ordered m before acc reach w.node f (n ∙ wants-next m items t q k sp a o w)
    (is_done-access_of m items q reach tr.grant.frame tr.seq))
    (access_granted m before acc tr (ap (held_through m before q) (wants-reach m items t q k sp a o w).found ∙ h) refl refl r all writes)
    (access_legal m before items q reach tr.grant.frame tr.seq (wants-page m items t q k sp a o w)
    (reach_of-word m k sp a o w.machine) (v reach.page reach.word) (c reach.page reach.word))

-- a write needs the right to write
write_right : (k : Kind) (t : Translation) → has_right k (Some t) ≡ true → is_write k ≡ true → t.grant.right ≡ right.Write
write_right k t h w = by k t.grant.right h w
  where
    by : (k : Kind) (r : Right) → serves k r ≡ true → is_write k ≡ true → r ≡ right.Write
    by kind.Load r h w = absurd cc
    by kind.Store right.Read h w = absurd cc
    by kind.Store right.Write h w = refl
    by kind.Add right.Read h w = absurd cc
    by kind.Add right.Write h w = refl

-- ---- an access with enough right

pub bad_after-hit :
    (m : Machine) (answer : Answer) (items : List Item) (n t q : ℕ) (k : Kind) (sp a o : ℕ)
    (tr : Translation)
    → WantsAccess m items t q k sp a o
    → held m items q (entry_reached m sp a) ≡ Some tr → has_right k (Some tr) ≡ true → is_frame m tr.grant.frame ≡ true
    → later removes_all items (page_of m (entry_reached m sp a)) tr.seq ≡ false
    → (tr.grant.right ≡ right.Write → later removes_writes items (page_of m (entry_reached m sp a)) tr.seq ≡ false)
    → bad_after m answer items n (access_by m items q (reach_of m k sp a o) tr.grant.frame tr.seq ∷ []) ≡ None
bad_after-hit m answer items n t q k sp a o tr w h r f all writes =
    bad_after-one m answer items n (access_by m items q (reach_of m k sp a o) tr.grant.frame tr.seq)
    (access_good m answer items items t q k sp a o tr w refl (λ page word. refl) (λ page word. refl) h r f all
    (λ wr. writes (write_right k tr r wr)))

-- ---- a change behind messages of others

-- each message of the change finds its translation in the state before the turn
abbrev pub MayAllApply : Machine → Coarse → Change → Type 0
MayAllApply m s c =
    (r e : ℕ) → r < m.nodes → e < length m.entries → hit m s c.actor c.page c.removed r e ≡ true
    → may_apply (message_of c.removed) (held m s.history r e) ≡ true

next_operation-like :
    (m : Machine) (xs ys : List Item) (q : ℕ) → values_of q ys ≡ values_of q xs → operations_of q ys ≡ operations_of q xs
    → next_operation m ys q ≡ next_operation m xs q
next_operation-like m xs ys q v o = rw (v, o) refl

is_fault_of-like :
    (m : Machine) (xs ys : List Item) (c : Change) (g : Grant) (op : Option Operation)
    → held m ys c.actor g.entry ≡ held m xs c.actor g.entry → is_fault_of m ys c g op ≡ is_fault_of m xs c g op
is_fault_of-like m xs ys c g None h = refl
is_fault_of-like m xs ys c g (Some (Switches space)) h = refl
is_fault_of-like m xs ys c g (Some (Reaches r)) h = rw h refl

is_fault_change-like :
    (m : Machine) (answer : Answer) (xs ys : List Item) (c : Change) (granted : Option Grant)
    → next_operation m ys c.actor ≡ next_operation m xs c.actor → last_of ys c.page ≡ last_of xs c.page
    → ((e : ℕ) → held m ys c.actor e ≡ held m xs c.actor e)
    → is_fault_change m answer ys c granted ≡ is_fault_change m answer xs c granted
is_fault_change-like m answer xs ys c None n l h = refl
is_fault_change-like m answer xs ys c (Some g) n l h =
    ap (λ b. b && is_fault_decision m answer ys c g)
    (ap (is_fault_of m ys c g) n ∙ is_fault_of-like m xs ys c g (next_operation m xs c.actor) (h g.entry))
    ∙ ap (λ b. is_fault_of m xs c g (next_operation m xs c.actor) && b) decision
  where
    decision : is_fault_decision m answer ys c g ≡ is_fault_decision m answer xs c g
    decision = rw l refl

is_chained-applied :
    (m : Machine) (answer : Answer) (xs ys : List Item) (c : Change) → all_applied ys ≡ true
    → list_any (is_by c.actor) ys ≡ false → is_chained m answer (xs ++ ys) c ≡ is_chained m answer xs c
is_chained-applied m answer xs ys c h n =
    let next =
    next_operation-like m xs (xs ++ ys) c.actor (values_of-applied c.actor xs ys h) (operations_of-applied c.actor xs ys h)
    in let fault =
    is_fault_change-like m answer xs (xs ++ ys) c c.granted next (last_of-applied xs ys c.page h)
    (λ e. held-not_mine m xs ys c.actor e n)
    in rw (seq_of-applied xs ys c.page h, dir_of-applied xs ys c.page h, fault) refl

-- the messages and their change
bad_after-posted :
    (m : Machine) (answer : Answer) (s : Coarse) (n : ℕ) (c : Change)
    → is_chained m answer s.history c ≡ true → MayAllApply m s c
    → bad_after m answer s.history n (sent m s c ++ item.Change c ∷ []) ≡ None
bad_after-posted m answer s n c h may =
    bad_after-more m answer s.history n (sent m s c) (item.Change c ∷ [])
    (bad_after-interrupts m answer s c.actor c.page c.removed n may)
    (bad_after-one m answer (s.history ++ sent m s c) (n + length (sent m s c)) (item.Change c)
    (ap (λ b. unless b rule.Chain) (still ∙ h)))
  where
    still : is_chained m answer (s.history ++ sent m s c) c ≡ is_chained m answer s.history c
    still =
        is_chained-applied m answer s.history (sent m s c) c (sent-applied m s c)
        (interrupts-none_by_initiator m s c.actor c.page c.removed)

-- a change by a decision may follow the history
next_change-by :
    (m : Machine) (items : List Item) (q p now : ℕ) (c : Cause) (d : Decision) (granted : Option Grant) → p < m.pages
    → q ≤ m.nodes → PageFacts m (dir_of items p) d
    → ((g : Grant) → granted ≡ Some g → (g.entry < length m.entries) × (page_of m g.entry ≡ p) × (is_frame m g.frame ≡ true))
    → IsNextChange m items (change_by items q p now c d granted)
next_change-by m items q p now c d granted l n f g = record {
  page = l;
  actor = n;
  seq = refl;
  after = f.dir;
  writes_before = f.writes_before;
  writes_after = f.writes_after;
  stays = f.plus_stays;
  granted_entry = λ x h. (g x h).0;
  granted_page = λ x h. (g x h).1;
  granted_frame = λ x h. (g x h).2;
}

-- it is chained where it is the decision of a fault, or of a thaw
chained-by :
    (m : Machine) (answer : Answer) (items : List Item) (q p now : ℕ) (c : Cause) (d : Decision)
    (granted : Option Grant) → p < m.pages
    → (let change = change_by items q p now c d granted
    in if nat_lt q m.nodes then is_fault_change m answer items change granted
    else q == m.nodes && is_thaw_change m answer items change)
    ≡ true
    → is_chained m answer items (change_by items q p now c d granted) ≡ true
chained-by m answer items q p now c d granted l h =
    let change = change_by items q p now c d granted
    in let n = seq_of items p
    in let dir = dir_of items p
    in let decided =
    if nat_lt q m.nodes then is_fault_change m answer items change granted
    else q == m.nodes && is_thaw_change m answer items change
    in and_from (nat_lt p m.pages && n == n && same_dir dir dir) decided
    (all_three (nat_lt p m.pages) (n == n) (same_dir dir dir) (lt-ltb p m.pages l) (eq-eqb n n refl) (same_dir-itself dir)) h

-- ---- a fault

-- the decision of a fault of q, and the change that it makes at this entry

abbrev pub fault_decision : Machine → Answer → List Item → (q now : ℕ) → Reach → Decision
fault_decision m answer items q now r = decided m answer items q r.page now (cause_of r.kind)

abbrev pub fault_change : List Item → (q now entry : ℕ) → Reach → Decision → Change
fault_change items q now entry r d =
    change_by items q r.page now (cause_of r.kind) d (Some (grant_of entry (cause_of r.kind) d))

-- what holds of a grant holds of the one that is it
granted_as : (P : Grant → Type 0) (g x : Grant) → P g → Some g ≡ Some x → P x
granted_as P g x h e = let same : g ≡ x = cc in subst P same h

module _ (m : Machine) (answer : Answer) (items : List Item) (t q now : ℕ) (k : Kind) (sp a o : ℕ) where
  pub next_change-fault :
      WantsAccess m items t q k sp a o → ((p : ℕ) → p < m.pages → is_dir m (dir_of items p) ≡ true)
      → is_starved m items q (reach_of m k sp a o).page ≡ false
      → (let r = reach_of m k sp a o
      in IsNextChange m items (fault_change items q now (entry_reached m sp a) r (fault_decision m answer items q now r)))
  next_change-fault w dirs starved =
      let e = entry_reached m sp a
      in let p = page_of m e
      in let c = cause_of k
      in let d = decided m answer items q p now c
      in let g = grant_of e c d
      in let reach = wants-reach m items t q k sp a o w
      in let page : p < m.pages = wants-page m items t q k sp a o w
      in let facts = fault_facts m answer items q p now c (dirs p page) w.node starved (cause_of-fault k)
      in next_change-by m items q p now c d (Some g) page (omega (arith, w.node)) (fault_page m (dir_of items p) _ c d facts)
      (λ x h.
      granted_as (λ y. (y.entry < length m.entries) × (page_of m y.entry ≡ p) × (is_frame m y.frame ≡ true)) g x
      (reach.below, refl, facts.frame) h)

  -- the operation is an access of that cause through the granted entry
  fault_of :
      WantsAccess m items t q k sp a o → has_right k (held m items q (entry_reached m sp a)) ≡ false → (c : Change) (g : Grant)
      → c.actor ≡ q → c.page ≡ page_of m (entry_reached m sp a) → c.cause ≡ cause_of k → g.entry ≡ entry_reached m sp a
      → is_fault_of m items c g (Some (Reaches (reach_of m k sp a o))) ≡ true
  fault_of w lacks c g actor page cause entry =
      let e = entry_reached m sp a
      in let reach = wants-reach m items t q k sp a o w
      in rw (
        entry,
        page,
        cause,
        actor,
        lacks,
        lt-ltb e (length m.entries) reach.below,
        eq-eqb e e refl,
        eq-eqb (page_of m e) (page_of m e) refl,
        same_cause-itself (cause_of k),
      ) refl

  -- the change of a fault is chained to the history before the turn
  fault_chained :
      WantsAccess m items t q k sp a o → ((p : ℕ) → p < m.pages → is_dir m (dir_of items p) ≡ true)
      → is_starved m items q (reach_of m k sp a o).page ≡ false → has_right k (held m items q (entry_reached m sp a)) ≡ false
      → (let r = reach_of m k sp a o
      in is_chained m answer items (fault_change items q now (entry_reached m sp a) r (fault_decision m answer items q now r)))
      ≡ true
  fault_chained w dirs starved lacks =
      let e = entry_reached m sp a
      in let p = page_of m e
      in let c = cause_of k
      in let d = decided m answer items q p now c
      in let g = grant_of e c d
      in let change = change_by items q p now c d (Some g)
      in let page : p < m.pages = wants-page m items t q k sp a o w
      in let next =
      ap (is_fault_of m items change g) (wants-next m items t q k sp a o w) ∙ fault_of w lacks change g refl refl refl refl
      in let fault =
      and_from (is_fault_of m items change g (next_operation m items q)) (is_fault_decision m answer items change g) next
      (fault_decided m answer items q p now e c (dirs p page) w.node starved (cause_of-fault k))
      in let node =
      cond-true (nat_lt q m.nodes) (is_fault_change m answer items change (Some g))
      (q == m.nodes && is_thaw_change m answer items change) (lt-ltb q m.nodes w.node)
      in chained-by m answer items q p now c d (Some g) page (node ∙ fault)

-- the fresh grant has the right that its access needs
granted_right :
    (k : Kind) (e seq : ℕ) (d : Decision)
    → has_right k (Some (record { grant = grant_of e (cause_of k) d; seq = seq; restricted = false })) ≡ true
granted_right kind.Load e seq d = refl
granted_right kind.Store e seq d = refl
granted_right kind.Add e seq d = refl

-- where each message may be applied, and the fresh grant is held and nothing has removed it since
pub bad_after-fault :
    (m : Machine) (answer : Answer) (s : Coarse) (n t q now : ℕ) (k : Kind) (sp a o : ℕ)
    → WantsAccess m s.history t q k sp a o
    → ((p : ℕ) → p < m.pages → is_dir m (dir_of s.history p) ≡ true)
    → is_starved m s.history q (reach_of m k sp a o).page ≡ false
    → has_right k (held m s.history q (entry_reached m sp a)) ≡ false
    → (let e = entry_reached m sp a
    in let r = reach_of m k sp a o
    in let d = fault_decision m answer s.history q now r
    in let c = fault_change s.history q now e r d
    in MayAllApply m s c
    → held m (posted m s c) q e ≡ Some (record { grant = grant_of e (cause_of k) d; seq = c.seq; restricted = false })
    → later removes_all (posted m s c) c.page c.seq ≡ false
    → later removes_writes (posted m s c) c.page c.seq ≡ false
    → bad_after m answer s.history n (fault_items m s q now e r d) ≡ None)
bad_after-fault m answer s n t q now k sp a o w dirs starved lacks may fresh all writes =
    let e = entry_reached m sp a
    in let r = reach_of m k sp a o
    in let p = page_of m e
    in let d = fault_decision m answer s.history q now r
    in let c = fault_change s.history q now e r d
    in let tr : Translation = record { grant = grant_of e (cause_of k) d; seq = c.seq; restricted = false }
    in let access = access_by m s.history q r d.frame c.seq
    in let facts =
    fault_facts m answer s.history q p now (cause_of k) (dirs p (wants-page m s.history t q k sp a o w)) w.node starved
    (cause_of-fault k)
    in let change =
    bad_after-posted m answer s n c (fault_chained m answer s.history t q now k sp a o w dirs starved lacks) may
    in let next = next_operation-like m s.history (posted m s c) q (values_of-posted m s c q) (operations_of-posted m s c q)
    in let good =
    access_good m answer (posted m s c) s.history t q k sp a o tr w next (flat_value-posted m s c) (flat_writes-posted m s c)
    fresh (granted_right k e c.seq d) facts.frame all (λ x. writes)
    in ap (bad_after m answer s.history n) (sym (append_assoc (sent m s c) (item.Change c ∷ []) (access ∷ [])))
    ∙ bad_after-more m answer s.history n (sent m s c ++ item.Change c ∷ []) (access ∷ []) change
    (bad_after-one m answer (posted m s c) (n + length (sent m s c ++ item.Change c ∷ [])) access good)

-- ---- a thaw

-- the decision of the daemon's thaw of a page, and the change that it makes

abbrev pub thaw_decision : Machine → Answer → List Item → (now page : ℕ) → Decision
thaw_decision m answer items now page =
    decide m answer (dir_of items page) (last_of items page) now m.nodes cause.Thaw None

abbrev pub thaw_change : Machine → Answer → List Item → (now page : ℕ) → Change
thaw_change m answer items now page =
    change_by items m.nodes page now cause.Thaw (thaw_decision m answer items now page) None

-- where there are passes there is a daemon
pub has_daemon-is_pass : (p : PolicyKind) (now : ℕ) → is_pass p now ≡ true → has_daemon p ≡ true
has_daemon-is_pass policy.Place now h = absurd cc
has_daemon-is_pass policy.Replicate now h = absurd cc
has_daemon-is_pass (policy.Platinum t1 t2) now h = refl

module _ (m : Machine) (answer : Answer) where
  pub next_change-thaw :
      (items : List Item) (now p : ℕ) → p < m.pages → is_dir m (dir_of items p) ≡ true → (dir_of items p).frozen ≡ true
      → IsNextChange m items (thaw_change m answer items now p)
  next_change-thaw items now p l h f =
      let d = thaw_decision m answer items now p
      in let facts = thaw_facts m answer (dir_of items p) (last_of items p) now m.nodes h f
      in next_change-by m items m.nodes p now cause.Thaw d None l (omega arith) (thaw_page m (dir_of items p) d facts)
      (λ g x. absurd cc)

  -- the change of a thaw is the daemon's
  thaw_decided :
      (items : List Item) (now p : ℕ) → is_dir m (dir_of items p) ≡ true → (dir_of items p).frozen ≡ true
      → has_daemon m.policy ≡ true → is_thaw_change m answer items (thaw_change m answer items now p) ≡ true
  thaw_decided items now p h f daemon =
      let d = thaw_decision m answer items now p
      in let may = may_decide m answer (dir_of items p) (last_of items p) now m.nodes cause.Thaw None
      in parts (has_daemon m.policy) may (is_decided d (thaw_change m answer items now p)) daemon
      (may_thaw m answer (dir_of items p) (last_of items p) now m.nodes h f)
      (is_decided-change_by items m.nodes p now cause.Thaw d None)
    where
      parts :
          (daemon may decides : Bool) → daemon ≡ true → may ≡ true → decides ≡ true
          → (daemon && true && true && may && decides) ≡ true
      parts daemon may decides x y z = rw (x, y, z) refl

  -- it is chained to the history before the pass
  thaw_chained :
      (items : List Item) (now p : ℕ) → p < m.pages → is_dir m (dir_of items p) ≡ true → (dir_of items p).frozen ≡ true
      → has_daemon m.policy ≡ true → is_chained m answer items (thaw_change m answer items now p) ≡ true
  thaw_chained items now p l h f daemon =
      let change = thaw_change m answer items now p
      in let thaws = is_thaw_change m answer items change
      in let node =
      cond-false (nat_lt m.nodes m.nodes) (is_fault_change m answer items change None) (m.nodes == m.nodes && thaws)
      (le-ltb m.nodes m.nodes (omega arith))
      in let daemons =
      and_from (m.nodes == m.nodes) thaws (eq-eqb m.nodes m.nodes refl) (thaw_decided items now p h f daemon)
      in chained-by m answer items m.nodes p now cause.Thaw (thaw_decision m answer items now p) None l (node ∙ daemons)

  pub bad_after-thaw :
      (s : Coarse) (n now p : ℕ) → p < m.pages → is_dir m (dir_of s.history p) ≡ true → (dir_of s.history p).frozen ≡ true
      → has_daemon m.policy ≡ true → MayAllApply m s (thaw_change m answer s.history now p)
      → bad_after m answer s.history n (thaw_items m answer s now p) ≡ None
  bad_after-thaw s n now p l h f daemon may =
      bad_after-posted m answer s n (thaw_change m answer s.history now p) (thaw_chained s.history now p l h f daemon) may

-- ---- a switch

-- guest q goes on after t turns, has one more, and wants this space
pub record WantsSwitch (m : Machine) (items : List Item) (t q space : ℕ) : Type 0 where
  pub guest : IsGuest m items t q
  pub left : t < m.budget
  pub node : q < m.nodes
  pub wants : want_of m q (guest_run m q (values_of q items) t).state ≡ want.Switch space

pub bad_after-switch :
    (m : Machine) (answer : Answer) (items : List Item) (n t q space : ℕ) → WantsSwitch m items t q space
    → bad_after m answer items n (switch_items m items q space) ≡ None
bad_after-switch m answer items n t q space w =
    let next = next_operation-switch m items t q space w.guest w.left w.wants
    in bad_after-switch_items m answer items q space n
    (and_from (nat_lt q m.nodes) (is_switch_next (next_operation m items q) space) (lt-ltb q m.nodes w.node)
    (ap (λ op. is_switch_next op space) next ∙ eq-eqb space space refl))

-- ---- what the items are to each guest

no_operations-applied : (q : ℕ) (xs : List Item) → all_applied xs ≡ true → operations_of q xs ≡ []
no_operations-applied q xs h = operations_of-applied q [] xs h

-- of an access

module _ (m : Machine) (items : List Item) (q : ℕ) (r : Reach) (frame : Frame) (grant : ℕ) where
  pub access_by-values :
      values_of q (access_by m items q r frame grant ∷ [])
      ≡ (if reads_word r.kind then (access_of m items q r frame grant).old ∷ [] else [])
  access_by-values = values_of-access q (access_of m items q r frame grant) refl

  pub access_by-operations :
      operations_of q (access_by m items q r frame grant ∷ []) ≡ Accessed (access_of m items q r frame grant) ∷ []
  access_by-operations = operations_of-access q (access_of m items q r frame grant) refl

  pub access_by-operations_other : (p : ℕ) → q ≢ p → operations_of p (access_by m items q r frame grant ∷ []) ≡ []
  access_by-operations_other p h = rw (ne_eqb q p h) refl

  pub access_by-active : (xs : List Item) (p : ℕ) → active m (xs ++ access_by m items q r frame grant ∷ []) p ≡ active m xs p
  access_by-active xs p = active-access m xs (access_of m items q r frame grant) p

  pub access_by-none_by : (p : ℕ) → q ≢ p → list_any (is_by p) (access_by m items q r frame grant ∷ []) ≡ false
  access_by-none_by p h = rw (ne_eqb q p h) refl

-- of a fault

-- the access behind a fault's change
abbrev pub fault_access : Machine → List Item → ℕ → Reach → Decision → Access
fault_access m items q r d = access_of m items q r d.frame (seq_of items r.page)

module _ (m : Machine) (s : Coarse) (q now entry : ℕ) (r : Reach) (d : Decision) where
  pub fault_items-values :
      values_of q (fault_items m s q now entry r d)
      ≡ (if reads_word r.kind then (fault_access m s.history q r d).old ∷ [] else [])
  fault_items-values =
      let c = fault_change s.history q now entry r d
      in let access = fault_access m s.history q r d
      in values_of-append q (sent m s c) (item.Change c ∷ item.Access access ∷ [])
      ∙ ap (λ vs. vs ++ values_of q (item.Access access ∷ []))
      (values_of-not_by q (sent m s c) (interrupts-none_by_initiator m s q r.page d.removed))
      ∙ values_of-access q access refl

  -- each processor's operations are those of the access
  fault_items-operations_any :
      (p : ℕ)
      → operations_of p (fault_items m s q now entry r d) ≡ operations_of p (item.Access (fault_access m s.history q r d) ∷ [])
  fault_items-operations_any p =
      let c = fault_change s.history q now entry r d
      in let access = fault_access m s.history q r d
      in operations_of-append p (sent m s c) (item.Change c ∷ item.Access access ∷ [])
      ∙ ap (λ os. os ++ operations_of p (item.Access access ∷ [])) (no_operations-applied p (sent m s c) (sent-applied m s c))

  pub fault_items-operations : operations_of q (fault_items m s q now entry r d) ≡ Accessed (fault_access m s.history q r d) ∷ []
  fault_items-operations = fault_items-operations_any q ∙ operations_of-access q (fault_access m s.history q r d) refl

  pub fault_items-operations_other : (p : ℕ) → q ≢ p → operations_of p (fault_items m s q now entry r d) ≡ []
  fault_items-operations_other p h =
      fault_items-operations_any p ∙ access_by-operations_other m s.history q r d.frame (seq_of s.history r.page) p h

  pub fault_items-active : (p : ℕ) → active m (s.history ++ fault_items m s q now entry r d) p ≡ active m s.history p
  fault_items-active p =
      let c = fault_change s.history q now entry r d
      in ap (λ xs. active m xs p) (fault_items-parts m s q now entry r d)
      ∙ active-access m (posted m s c) (fault_access m s.history q r d) p
      ∙ active-posted m s c p

  -- no item is of another processor that has ended
  pub fault_items-none_by_ended :
      (p : ℕ) → q ≢ p → is_live s.ends p ≡ false → list_any (is_by p) (fault_items m s q now entry r d) ≡ false
  fault_items-none_by_ended p h k =
      let c = fault_change s.history q now entry r d
      in let access = fault_access m s.history q r d
      in list_any-append (is_by p) (sent m s c) (item.Change c ∷ item.Access access ∷ [])
      ∙ rw (interrupts-none_by_ended m s q r.page d.removed p k, ne_eqb q p h) refl

-- of a thaw

module _ (m : Machine) (answer : Answer) (s : Coarse) (now page : ℕ) where
  pub thaw_items-operations : (p : ℕ) → operations_of p (thaw_items m answer s now page) ≡ []
  thaw_items-operations p =
      let c = thaw_change m answer s.history now page
      in operations_of-append p (sent m s c) (item.Change c ∷ [])
      ∙ ap (λ os. os ++ operations_of p (item.Change c ∷ [])) (no_operations-applied p (sent m s c) (sent-applied m s c))

  -- no item is of a processor that has ended
  pub thaw_items-none_by_ended :
      (p : ℕ) → p < m.nodes → is_live s.ends p ≡ false → list_any (is_by p) (thaw_items m answer s now page) ≡ false
  thaw_items-none_by_ended p l k =
      posted-none_by m s (thaw_change m answer s.history now page) p (λ same. absurd (omega arith)) k

-- of a switch

module _ (m : Machine) (items : List Item) (q space : ℕ) where
  pub switch_items-values : values_of q (switch_items m items q space) ≡ []
  switch_items-values =
      values_of-applied q (item.Switch (switch_of q space) ∷ []) (activations m items q space)
      (activations-applied m items q space)

  pub switch_items-operations : operations_of q (switch_items m items q space) ≡ Switched space ∷ []
  switch_items-operations =
      operations_of-applied q (item.Switch (switch_of q space) ∷ []) (activations m items q space)
      (activations-applied m items q space)
      ∙ rw (eq-eqb q q refl) refl

  pub switch_items-operations_other : (p : ℕ) → q ≢ p → operations_of p (switch_items m items q space) ≡ []
  switch_items-operations_other p h =
      operations_of-not_by p (switch_items m items q space) (switch_items-none_by m items q space p h)

  pub switch_items-active : active m (items ++ switch_items m items q space) q ≡ space
  switch_items-active = active-switch_items m items q space q ∙ same_number q space (active m items q)

-- ---- the guest after its turn

pub IsGuest-hit :
    (m : Machine) (items : List Item) (t q : ℕ) (k : Kind) (sp a o : ℕ) (frame : Frame) (grant : ℕ)
    → WantsAccess m items t q k sp a o
    → IsGuest m (items ++ access_by m items q (reach_of m k sp a o) frame grant ∷ []) (t + 1) q
IsGuest-hit m items t q k sp a o frame grant w =
    let r = reach_of m k sp a o
    in IsGuest-access m items (access_by m items q r frame grant ∷ []) t q k sp a o (access_of m items q r frame grant)
    w.guest w.wants (access_by-values m items q r frame grant) (access_by-operations m items q r frame grant)
    (is_done-access_of m items q r frame grant) (access_by-active m items q r frame grant items q)

pub IsGuest-fault :
    (m : Machine) (s : Coarse) (t q now entry : ℕ) (k : Kind) (sp a o : ℕ) (d : Decision) → WantsAccess m s.history t q k sp a o
    → IsGuest m (s.history ++ fault_items m s q now entry (reach_of m k sp a o) d) (t + 1) q
IsGuest-fault m s t q now entry k sp a o d w =
    let r = reach_of m k sp a o
    in IsGuest-access m s.history (fault_items m s q now entry r d) t q k sp a o (fault_access m s.history q r d) w.guest w.wants
    (fault_items-values m s q now entry r d) (fault_items-operations m s q now entry r d)
    (is_done-access_of m s.history q r d.frame (seq_of s.history r.page)) (fault_items-active m s q now entry r d q)

pub IsGuest-switched :
    (m : Machine) (items : List Item) (t q space : ℕ) → WantsSwitch m items t q space
    → IsGuest m (items ++ switch_items m items q space) (t + 1) q
IsGuest-switched m items t q space w =
    IsGuest-switch m items (switch_items m items q space) t q space w.guest w.wants (switch_items-values m items q space)
    (switch_items-operations m items q space) (switch_items-active m items q space)
