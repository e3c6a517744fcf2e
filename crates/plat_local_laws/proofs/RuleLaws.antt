-- the items that an actor makes, and the rules that they pass where the history says what the actor has read
use Rattle.std.proofs.Common.{◌≡◌, ℕ, ◌<◌, Bool, true, false, List, length, Some, None, refl, arith, ap, sym, subst, ◌∙◌, inl, inr}
use Rattle.std.specs.Prelude.{◌==◌, nat_lt, ◌&&◌, not, if◌then◌else◌, Option, is_none, unwrap_or}
use Rattle.std.specs.Option.{option_map}
use Rattle.std.proofs.lemmas.Bool.{and_from, lt-ltb, le-ltb, eq-eqb, not_from_false, cond-true, cond-false}
use Rattle.plat_base.specs.Verdicts.{Answer}
use Rattle.plat_base.specs.Machine.{Machine}
use Rattle.plat_base.specs.Pages.{entry_reached, space_of}
use Rattle.plat_base.specs.GuestRun.{GuestState, want_of}
use Rattle.plat_base.specs.Held.{held, active, serves, has_right}
use Rattle.plat_base.specs.Directories.{dir_of, seq_of, last_of}
use Rattle.plat_base.specs.Decide.{decide, may_decide, is_frame}
use Rattle.plat_base.specs.Alike.{same_cause, same_action, same_removed, same_dir, same_right}
use Rattle.plat_base.specs.Copies.{same_frame}
use Rattle.plat_base.specs.Turns.{grant_of}
use Rattle.plat_base.specs.Accesses.{cause_of, right_of}
use Rattle.plat_base.specs.Rules.{next_operation, is_access_next, is_switch_next, is_ordered_access, is_ordered_switch, got_named}
use Rattle.plat_base.specs.Rules.{is_decided, is_fault_of, is_fault_decision, is_fault_change, has_daemon, is_thaw_change, is_chained}
use Rattle.plat_base.specs.Rules.{may_apply, is_answered}
use Rattle.plat_base.proofs.CopiesLemmas.{same_frame-itself}
use Rattle.plat_base.specs.declared.frames.Dir.{Dir}
use Rattle.plat_base.specs.declared.frames.Frame.{Frame}
use Rattle.plat_base.specs.declared.items.Cause.TheVariants as cause
use Rattle.plat_base.specs.declared.items.Change.{Change}
use Rattle.plat_base.specs.declared.items.Grant.{Grant}
use Rattle.plat_base.specs.declared.items.Item.{Item}
use Rattle.plat_base.specs.declared.items.Kind.{Kind}
use Rattle.plat_base.specs.declared.items.Kind.TheVariants as kind
use Rattle.plat_base.specs.declared.items.Message.{Message}
use Rattle.plat_base.specs.declared.items.Moment.{Moment}
use Rattle.plat_base.specs.declared.items.Right.{Right}
use Rattle.plat_base.specs.declared.items.Right.TheVariants as right
use Rattle.plat_base.specs.declared.items.Translation.{Translation}
use Rattle.plat_base.specs.declared.guests.Want.TheVariants as want
use Rattle.plat_laws.proofs.TableLaws.{same_cause-itself, same_action-itself, same_removed-itself, same_right-itself, same_dir-itself}
use Rattle.plat_laws.proofs.TableLaws.{all_three}
use Rattle.plat_events.specs.Sessions.{Fault, Course, Unlocking, Session, decision_of, entry_faulted, change_made}
use Rattle.plat_events.specs.Privates.{Onward, Private, InSession, actor_count}
use Rattle.plat_events.specs.Scans.{entry_scanned}
use Rattle.plat_events.specs.Events.{reach_now, entry_of, frame_by, translation_now}
use Rattle.plat_events.specs.Shown.{kind_for, items_by}
use Rattle.plat_local_laws.specs.Faults.{AccessOk, IsFaultNow, FaultOk}
use Rattle.plat_local_laws.specs.Phases.{CourseOk, SessionOk}
use Rattle.plat_local_laws.specs.Standing.{ScanningOk, PlaceOk}
use Rattle.plat_local_laws.specs.Numbers.{is_in_turn}
use Rattle.plat_local_laws.specs.Alone.{PrivateOk}
use Rattle.plat_local_laws.proofs.CourseLaws.{IsActor, fault_decides, thaw_decides}
use Rattle.plat_local_laws.proofs.SessionLaws.{session_at, entry_now-below}
use Rattle.plat_local_laws.proofs.StandingLaws.{actor-is}
use Rattle.plat_local_laws.proofs.GuestTurnLaws.{is_done-made}
use Rattle.plat_local_laws.proofs.GuestStepLaws.{access_now}
use Rattle.plat_local_laws.proofs.JournalLaws.{active-items_by}
use Rattle.plat_local_laws.proofs.NameLaws.{access-frame, entry_scanned-is}
use Rattle.plat_local_laws.proofs.OrderLaws.{next_access, next_switch}
use Rattle.plat_local_laws.proofs.PassLaws.{daemon_has}

-- ---- accesses and switches

-- an access is the next operation of its guest
pub ordered_access :
    (m : Machine) (answer : Answer) (a : ℕ) (p : Private) (items : List Item) (n : ℕ) (writes : Bool) → PrivateOk m answer a p
    → p.journal ≡ items_by a items → is_in_turn p.place ≡ true → AccessOk m a p writes
    → is_ordered_access m items (access_now m a p n) ≡ true
ordered_access m answer a p items n writes h j e k =
    let x = access_now m a p n in
    let r = reach_now m a p in
    let next : is_access_next (next_operation m items a) x ≡ true =
    rw (next_access m answer a p items h k.processor j e k.wants) (is_done-made r x refl refl refl refl refl refl) in
    all_three (nat_lt a m.nodes) (is_frame m (frame_by (translation_now m a p))) (is_access_next (next_operation m items a) x)
    (lt-ltb a m.nodes k.processor) (access-frame m answer a p writes h.standing k) next

pub ordered_switch :
    (m : Machine) (answer : Answer) (a : ℕ) (p : Private) (items : List Item) (space : ℕ) → PrivateOk m answer a p → a < m.nodes
    → p.journal ≡ items_by a items → is_in_turn p.place ≡ true → want_of m a p.guest ≡ want.Switch space
    → is_ordered_switch m items (record { actor = a; space = space }) ≡ true
ordered_switch m answer a p items space h l j e w =
    let next : is_switch_next (next_operation m items a) space ≡ true =
    rw (next_switch m answer a p items space h l j e w) (eq-eqb space space refl) in
    and_from (nat_lt a m.nodes) (is_switch_next (next_operation m items a) space) (lt-ltb a m.nodes l) next

-- ---- messages

-- the space that an actor is active in, by the history
pub active_in :
    (m : Machine) (answer : Answer) (a : ℕ) (p : Private) (items : List Item) → PrivateOk m answer a p → p.journal ≡ items_by a items
    → active m items a ≡ p.guest.space
active_in m answer a p items h j =
    sym (active-items_by m a items) ∙ ap (λ x. active m x a) (sym j) ∙ sym h.guest.run.space
    ∙ ap (λ (s : GuestState). s.space) (sym h.guest.guest)

pub answered :
    (m : Machine) (answer : Answer) (a : ℕ) (p : Private) (items : List Item) (i : ℕ) (msg : Message) (moment : Moment) (onward : Onward)
    → PrivateOk m answer a p → p.journal ≡ items_by a items → ScanningOk m answer a p i moment onward
    → may_apply msg (held m items a (entry_scanned m p i)) ≡ true
    → is_answered m items (record { actor = a; entry = entry_scanned m p i; message = msg; moment = moment }) ≡ true
answered m answer a p items i msg moment onward h j k may =
    let e = entry_scanned m p i in
    let is = entry_scanned-is m p i k.left in
    let space : (active m items a == space_of m e) ≡ true =
    eq-eqb (active m items a) (space_of m e) (active_in m answer a p items h j ∙ sym is.1) in
    and_from (nat_lt a m.nodes && nat_lt e (length m.entries) && active m items a == space_of m e) (may_apply msg (held m items a e))
    (all_three (nat_lt a m.nodes) (nat_lt e (length m.entries)) (active m items a == space_of m e) (lt-ltb a m.nodes k.processor)
    (lt-ltb e (length m.entries) is.0) space) may

-- ---- changes

-- a decision with the last invalidation and the frame that are named
abbrev decides_so : Machine → Answer → Change → Grant → Option ℕ → Option Frame → Bool
decides_so m answer x g last got =
    let d = decide m answer x.before last x.time x.actor x.cause got
    in may_decide m answer x.before last x.time x.actor x.cause got && is_decided d x && same_frame d.frame g.frame
    && same_right g.right (right_of x.cause)

is_decided-itself : (m : Machine) (answer : Answer) (a now : ℕ) (s : Session) (c : Course) →
    is_decided (decision_of m answer a now s c) (change_made m answer a now s c) ≡ true
is_decided-itself m answer a now s c =
    let d = decision_of m answer a now s c in
    all_three (same_action d.action d.action) (same_removed d.removed d.removed) (same_dir d.after d.after) (same_action-itself d.action)
    (same_removed-itself d.removed) (same_dir-itself d.after)

fault_decision :
    (m : Machine) (answer : Answer) (a : ℕ) (p : Private) (s : Session) (c : Course) (items : List Item) (e : ℕ) → a < m.nodes
    → FaultOk m a p s.fault → CourseOk m answer a p s c → c.stamp.last ≡ last_of items s.fault.page
    → is_fault_decision m answer items (change_made m answer a p.now s c) (grant_of e s.fault.cause (decision_of m answer a p.now s c))
    ≡ true
fault_decision m answer a p s c items e l f k last =
    let d = decision_of m answer a p.now s c in
    let x = change_made m answer a p.now s c in
    let g = grant_of e s.fault.cause d in
    let got : got_named d.action g ≡ c.got = (fault_decides m answer a p s c f k l).got_back in
    let base : decides_so m answer x g c.stamp.last c.got ≡ true =
    and_from (may_decide m answer s.dir c.stamp.last p.now a s.fault.cause c.got && is_decided d x && same_frame d.frame d.frame)
    (same_right (right_of s.fault.cause) (right_of s.fault.cause))
    (all_three (may_decide m answer s.dir c.stamp.last p.now a s.fault.cause c.got) (is_decided d x) (same_frame d.frame d.frame) k.may
    (is_decided-itself m answer a p.now s c) (same_frame-itself d.frame))
    (same_right-itself (right_of s.fault.cause)) in
    subst (λ t. decides_so m answer x g t (got_named d.action g) ≡ true) last
    (subst (λ t. decides_so m answer x g c.stamp.last t ≡ true) (sym got) base)

pub kind_for-right : (k : Kind) (t : Option Translation) → has_right (kind_for (cause_of k)) t ≡ has_right k t
kind_for-right kind.Load t = refl
kind_for-right kind.Store t = refl
kind_for-right kind.Add None = refl
kind_for-right kind.Add (Some t) = by t.grant.right
  where
    by : (r : Right) → serves kind.Store r ≡ serves kind.Add r
    by right.Read = refl
    by right.Write = refl

fault_next :
    (m : Machine) (answer : Answer) (a : ℕ) (p : Private) (s : Session) (c : Course) (items : List Item) → PrivateOk m answer a p
    → a < m.nodes → p.journal ≡ items_by a items → is_in_turn p.place ≡ true → IsFaultNow m a p s.fault
    → has_right (kind_for s.fault.cause) (held m items a (entry_of m (reach_now m a p))) ≡ false
    → is_fault_of m items (change_made m answer a p.now s c)
    (grant_of (entry_of m (reach_now m a p)) s.fault.cause (decision_of m answer a p.now s c)) (next_operation m items a)
    ≡ true
fault_next m answer a p s c items h l j e f lacks =
    let r = reach_now m a p in
    let i = entry_of m r in
    let below : i < length m.entries = entry_below m a p f in
    let none : has_right r.kind (held m items a i) ≡ false =
    sym (kind_for-right r.kind (held m items a i)) ∙ ap (λ x. has_right (kind_for x) (held m items a i)) (sym f.cause) ∙ lacks in
    rw (next_access m answer a p items h l j e f.wants)
    (and_from
    (nat_lt i (length m.entries) && i == entry_reached m r.space r.addr && r.page == s.fault.page
    && same_cause (cause_of r.kind) s.fault.cause)
    (not (has_right r.kind (held m items a i)))
    (and_from (nat_lt i (length m.entries) && i == entry_reached m r.space r.addr && r.page == s.fault.page)
    (same_cause (cause_of r.kind) s.fault.cause)
    (all_three (nat_lt i (length m.entries)) (i == entry_reached m r.space r.addr) (r.page == s.fault.page)
    (lt-ltb i (length m.entries) below)
    (eq-eqb i (entry_reached m r.space r.addr) refl) (eq-eqb r.page s.fault.page (sym f.page)))
    (subst (λ x. same_cause (cause_of r.kind) x ≡ true) (sym f.cause) (same_cause-itself (cause_of r.kind))))
    (not_from_false (has_right r.kind (held m items a i)) none))
  where
    entry_below : (m : Machine) (a : ℕ) (p : Private) → IsFaultNow m a p s.fault → entry_of m (reach_now m a p) < length m.entries
    entry_below m a p f =
        subst (λ i. i < length m.entries) (ap (λ x. unwrap_or x (length m.entries)) f.entry) (entry_now-below m a p s.fault f)

-- what the history has to say of a session for its change to be chained
pub record IsReadOf (m : Machine) (items : List Item) (a : ℕ) (s : Session) (c : Course) : Type 0 where
  pub dir : s.dir ≡ dir_of items s.fault.page
  pub last : c.stamp.last ≡ last_of items s.fault.page
  pub seq : c.stamp.seq ≡ seq_of items s.fault.page
  pub lacks : a < m.nodes → has_right (kind_for s.fault.cause) (held m items a (entry_faulted m s.fault)) ≡ false

fault_chained :
    (m : Machine) (answer : Answer) (a : ℕ) (p : Private) (s : Session) (c : Course) (items : List Item) → PrivateOk m answer a p
    → a < m.nodes → p.journal ≡ items_by a items → is_in_turn p.place ≡ true → FaultOk m a p s.fault → CourseOk m answer a p s c
    → IsReadOf m items a s c
    → is_fault_change m answer items (change_made m answer a p.now s c) (change_made m answer a p.now s c).granted ≡ true
fault_chained m answer a p s c items h l j e fault k read =
    let f = fault.access l in
    let d = decision_of m answer a p.now s c in
    let x = change_made m answer a p.now s c in
    let i = entry_of m (reach_now m a p) in
    let at : entry_faulted m s.fault ≡ i = ap (λ y. unwrap_or y (length m.entries)) f.entry in
    let lacks = subst (λ y. has_right (kind_for s.fault.cause) (held m items a y) ≡ false) at (read.lacks l) in
    subst (λ y. is_fault_change m answer items x (option_map (λ y. grant_of y s.fault.cause d) y) ≡ true) (sym f.entry)
    (and_from (is_fault_of m items x (grant_of i s.fault.cause d) (next_operation m items a))
    (is_fault_decision m answer items x (grant_of i s.fault.cause d))
    (fault_next m answer a p s c items h l j e f lacks) (fault_decision m answer a p s c items i l fault k read.last))

thaw_chained :
    (m : Machine) (answer : Answer) (a : ℕ) (p : Private) (s : Session) (c : Course) (items : List Item) → a < actor_count m
    → a ≡ m.nodes → FaultOk m a p s.fault → CourseOk m answer a p s c → IsReadOf m items a s c
    → is_thaw_change m answer items (change_made m answer a p.now s c) ≡ true
thaw_chained m answer a p s c items l q f k read =
    let x = change_made m answer a p.now s c in
    let d = decision_of m answer a p.now s c in
    let last = last_of items s.fault.page in
    let got = (thaw_decides m answer a p s c f k q).1 in
    let thaws : s.fault.cause ≡ cause.Thaw = ap (λ (y : Fault). y.cause) (f.thaw q) in
    let entry : s.fault.entry ≡ None = ap (λ (y : Fault). y.entry) (f.thaw q) in
    let may : may_decide m answer s.dir last p.now a cause.Thaw None ≡ true =
    subst (λ t. may_decide m answer s.dir t p.now a cause.Thaw None ≡ true) read.last
    (subst (λ g. may_decide m answer s.dir c.stamp.last p.now a cause.Thaw g ≡ true) got
    (subst (λ y. may_decide m answer s.dir c.stamp.last p.now a y c.got ≡ true) thaws k.may)) in
    let same : decide m answer s.dir last p.now a cause.Thaw None ≡ d =
    ap (λ t. decide m answer s.dir t p.now a cause.Thaw None) (sym read.last)
    ∙ ap (λ g. decide m answer s.dir c.stamp.last p.now a cause.Thaw g) (sym got)
    ∙ ap (λ y. decide m answer s.dir c.stamp.last p.now a y c.got) (sym thaws) in
    let decided : is_decided (decide m answer s.dir last p.now a cause.Thaw None) x ≡ true =
    subst (λ y. is_decided y x ≡ true) (sym same) (is_decided-itself m answer a p.now s c) in
    let none : is_none x.granted ≡ true = ap (λ y. is_none (option_map (λ z. grant_of z s.fault.cause d) y)) entry in
    let daemon = daemon_has m.nodes a (has_daemon m.policy) l q in
    and_from
    (has_daemon m.policy && same_cause s.fault.cause cause.Thaw && is_none x.granted && may_decide m answer s.dir last p.now a cause.Thaw
    None)
    (is_decided (decide m answer s.dir last p.now a cause.Thaw None) x)
    (and_from (has_daemon m.policy && same_cause s.fault.cause cause.Thaw && is_none x.granted)
    (may_decide m answer s.dir last p.now a cause.Thaw None)
    (all_three (has_daemon m.policy) (same_cause s.fault.cause cause.Thaw) (is_none x.granted) daemon
    (subst (λ y. same_cause y cause.Thaw ≡ true) (sym thaws) refl) none)
    may)
    decided

-- the change of a session that unlocks follows the page's last one, and is what a fault or a thaw decides
pub chained_change :
    (m : Machine) (answer : Answer) (a : ℕ) (p : Private) (f : Fault) (d : Dir) (c : Course) (items : List Item) → a < actor_count m
    → PrivateOk m answer a p → p.journal ≡ items_by a items → p.place ≡ InSession (session_at f d (Unlocking c))
    → IsReadOf m items a (session_at f d (Unlocking c)) c
    → is_chained m answer items (change_made m answer a p.now (session_at f d (Unlocking c)) c) ≡ true
chained_change m answer a p f d c items l h j e read =
    let s = session_at f d (Unlocking c) in
    let x = change_made m answer a p.now s c in
    let session : SessionOk m answer a p s = subst (PlaceOk m answer a p) e h.standing.place in
    let rest : Bool =
    if nat_lt a m.nodes then is_fault_change m answer items x x.granted else a == m.nodes && is_thaw_change m answer items x in
    let dirs : same_dir d (dir_of items f.page) ≡ true = subst (λ y. same_dir d y ≡ true) read.dir (same_dir-itself d) in
    and_from (nat_lt f.page m.pages && c.stamp.seq == seq_of items f.page && same_dir d (dir_of items f.page)) rest
    (all_three (nat_lt f.page m.pages) (c.stamp.seq == seq_of items f.page) (same_dir d (dir_of items f.page))
    (lt-ltb f.page m.pages session.fault.page) (eq-eqb c.stamp.seq (seq_of items f.page) read.seq) dirs)
    (by session (actor-is m a l))
  where
    by :
        SessionOk m answer a p (session_at f d (Unlocking c)) → IsActor m a
        → (if nat_lt a m.nodes
        then is_fault_change m answer items (change_made m answer a p.now (session_at f d (Unlocking c)) c)
        (change_made m answer a p.now (session_at f d (Unlocking c)) c).granted
        else a == m.nodes && is_thaw_change m answer items (change_made m answer a p.now (session_at f d (Unlocking c)) c))
        ≡ true
    by session (inl q) =
        cond-true (nat_lt a m.nodes) _ _ (lt-ltb a m.nodes q)
        ∙ fault_chained m answer a p (session_at f d (Unlocking c)) c items h q j (ap is_in_turn e) session.fault session.phase.quiet.course
        read
    by session (inr q) =
        cond-false (nat_lt a m.nodes) _ _ (le-ltb a m.nodes (omega arith))
        ∙ and_from (a == m.nodes) (is_thaw_change m answer items (change_made m answer a p.now (session_at f d (Unlocking c)) c))
        (eq-eqb a m.nodes q)
        (thaw_chained m answer a p (session_at f d (Unlocking c)) c items l q session.fault session.phase.quiet.course read)
