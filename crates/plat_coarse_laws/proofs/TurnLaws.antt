-- one turn keeps the invariant: whatever the guest wants, and through the daemon's pass
use Rattle.std.specs.Prelude.{◌≡◌, ◌≢◌, ◌≤◌, ◌<◌, ℕ, zero, suc, ◌+◌, ◌*◌, ◌==◌, nat_lt, nat_le, ◌&&◌, if◌then◌else◌, Bool, true, false}
use Rattle.std.specs.Prelude.{List, [], ◌∷◌, ◌++◌, length, Option, Some, None}
use Rattle.std.proofs.Common.{refl, ap, sym, subst, ◌∙◌, arith, ⊎_elim}
use Rattle.std.specs.List.{fold, list_any, range_with_len}
use Rattle.std.proofs.lemmas.Bool.{true≢false, false_from_ne_true, and_parts, lt-ltb, ltb-true, eqb-true, eqb-false, cases_eq}
use Rattle.std.proofs.lemmas.List.{append-nil, length-replicate, get_or-replicate}
use Rattle.plat_base.specs.Verdicts.{Answer}
use Rattle.plat_base.specs.Machine.{Machine}
use Rattle.plat_base.specs.Pages.{numbers, page_of, space_of, entry_reached}
use Rattle.plat_base.specs.GuestRun.{guest_run, GoesOn, want_of, Reach, reach_of}
use Rattle.plat_base.specs.Done.{values_of, operations_of}
use Rattle.plat_base.specs.Directories.{dir_of, seq_of}
use Rattle.plat_base.specs.Held.{held, active, has_right, later, removes_all, removes_writes, held_through}
use Rattle.plat_base.specs.Decide.{is_dir}
use Rattle.plat_base.specs.Alike.{same_end}
use Rattle.plat_base.specs.Accesses.{cause_of, access_by}
use Rattle.plat_base.specs.Ends.{cut_at, ended_of, is_live, time_of, end_after}
use Rattle.plat_base.specs.Coarse.{Coarse, coarse_start}
use Rattle.plat_base.specs.Frames.{is_starved}
use Rattle.plat_base.specs.Messages.{switch_items}
use Rattle.plat_base.specs.Turns.{Made, made, decided, fault_items, fault_made, grant_of, access_made, made_by, with_made, guest_now}
use Rattle.plat_base.specs.Turns.{thaw_items, thaw, is_pass, daemon, turn, turns, made_reached}
use Rattle.plat_base.specs.Schedule.{scheduled, coarse_run}
use Rattle.plat_base.specs.Rules.{has_daemon, stands, has_made, wants_right, is_end, is_in_order, bad_after, Good, HasEnoughFrames}
use Rattle.plat_base.specs.declared.endings.End.{End}
use Rattle.plat_base.specs.declared.endings.End.TheVariants as end
use Rattle.plat_base.specs.declared.endings.Ended.{Ended}
use Rattle.plat_base.specs.declared.guests.Want.{Want}
use Rattle.plat_base.specs.declared.guests.Want.TheVariants as want
use Rattle.plat_base.specs.declared.items.Item.{Item}
use Rattle.plat_base.specs.declared.items.Kind.{Kind}
use Rattle.plat_base.specs.declared.items.Right.TheVariants as right
use Rattle.plat_base.specs.declared.items.Change.{Change}
use Rattle.plat_base.specs.declared.items.Translation.{Translation}
use Rattle.plat_base.specs.declared.policies.Decision.{Decision}
use Rattle.plat_laws.specs.Guests.{IsWithinLimits, IsGuest}
use Rattle.plat_coarse_laws.specs.Sound.{IsSettled, IsNextChange, Sound}
use Rattle.plat_coarse_laws.specs.Live.{AreLive}
use Rattle.plat_laws.proofs.Limits.{budget-some}
use Rattle.plat_laws.proofs.ItemLaws.{is_by, is_in_order-not_mine}
use Rattle.plat_laws.proofs.EndLaws.{is_end-halted, is_end-trapped, is_end-spent, is_end-cut, is_end-no_frames, is_in_order-from}
use Rattle.plat_laws.proofs.EndLaws.{is_live-below, is_live-cut, is_in_order-live, IsGuest-no_operations, bad_after-more, first_bad-none}
use Rattle.plat_coarse_laws.proofs.SettledLaws.{settled-access, settled-ends, settled-start, settled-hit, settled-granted}
use Rattle.plat_coarse_laws.proofs.SettledLaws.{settled-may_apply, settled-posted}
use Rattle.plat_coarse_laws.proofs.SettledSwitchLaws.{settled-switch}
use Rattle.plat_coarse_laws.proofs.FrameLaws.{starving}
use Rattle.plat_laws.proofs.GuestLaws.{IsGuest-start, IsGuest-local, IsGuest-print, IsReach, IsReach-wanted, reach_of-page}
use Rattle.plat_coarse_laws.proofs.MessageLaws.{posted, switch_items-none_by, fault_items-parts}
use Rattle.plat_coarse_laws.proofs.TurnItemLaws.{access_of, WantsAccess, WantsSwitch, bad_after-hit, bad_after-fault, bad_after-thaw}
use Rattle.plat_coarse_laws.proofs.TurnItemLaws.{bad_after-switch, has_daemon-is_pass, fault_change, next_change-fault, next_change-thaw}
use Rattle.plat_coarse_laws.proofs.TurnItemLaws.{thaw_change, access_by-none_by, access_by-operations_other, fault_items-operations_other}
use Rattle.plat_coarse_laws.proofs.TurnItemLaws.{fault_items-none_by_ended, thaw_items-operations, thaw_items-none_by_ended}
use Rattle.plat_coarse_laws.proofs.TurnItemLaws.{switch_items-operations_other, IsGuest-hit, IsGuest-fault, IsGuest-switched}
use Rattle.plat_coarse_laws.proofs.RunLaws.{ended_of-set_same, ended_of-set_other, length-ends_set, is_live-set_other, is_live-set_before}
use Rattle.plat_coarse_laws.proofs.RunLaws.{after_turn, scheduled_holds, live_processors-none, scheduled-time, time_of-less}

-- ---- how a turn leaves its processor

-- the guest of q ends so after these turns, or goes on with turns left
record IsLeft (m : Machine) (items : List Item) (q turns : ℕ) (e : End) : Type 0 where
  ends : is_end m items q e turns ≡ true
  left : e ≡ end.Cut → turns < m.budget
  guest : e ≡ end.Cut → IsGuest m items turns q

left-cut : (m : Machine) (items : List Item) (q turns : ℕ) → IsGuest m items turns q → turns ≤ m.budget →
    IsLeft m items q turns (end_after m turns end.Cut)
left-cut m items q turns g l = by (turns == m.budget) refl
  where
    by : (b : Bool) → (turns == m.budget) ≡ b → IsLeft m items q turns (if b then end.Spent else end.Cut)
    by true h = record {
      ends = is_end-spent m items turns q g (eqb-true turns m.budget h);
      left = λ e. absurd cc;
      guest = λ e. absurd cc;
    }
    by false h =
        let other : turns ≢ m.budget = eqb-false turns m.budget h
        in record { ends = is_end-cut m items turns q g; left = λ e. omega arith; guest = λ e. g }

left-ended : (m : Machine) (items : List Item) (q turns : ℕ) (e : End) → is_end m items q e turns ≡ true → e ≢ end.Cut →
    IsLeft m items q turns e
left-ended m items q turns e h d = record { ends = h; left = λ same. absurd (d same); guest = λ same. absurd (d same) }

-- what a turn of q adds, and how it leaves q
record IsTurn (m : Machine) (answer : Answer) (s : Coarse) (q : ℕ) (x : Made) : Type 0 where
  good : bad_after m answer s.history (length s.history) x.items ≡ None
  settled : IsSettled m (record { history = s.history ++ x.items; ends = s.ends })
  others : (r : ℕ) → r ≢ q → operations_of r x.items ≡ []
  ended : (r : ℕ) → r ≢ q → is_live s.ends r ≡ false → list_any (is_by r) x.items ≡ false
  leaves : IsLeft m (s.history ++ x.items) q ((ended_of s.ends q).turns + 1) (end_after m ((ended_of s.ends q).turns + 1) x.end)

-- the turn keeps the invariant, before the daemon's pass

module _ (m : Machine) (answer : Answer) (s : Coarse) (q : ℕ) (x : Made) (h : Sound m answer s) (v : is_live s.ends q ≡ true)
    (k : IsTurn m answer s q x) where
  abbrev after : Ended
  after = after_turn s.ends q (end_after m ((ended_of s.ends q).turns + 1) x.end)

  abbrev next : Coarse
  next = with_made m s q x

  below : q < length s.ends
  below = is_live-below s.ends q v

  -- the end and the turns of q itself
  own : ended_of next.ends q ≡ after
  own = ended_of-set_same s.ends q after below

  own_turns : (ended_of next.ends q).turns ≡ (ended_of s.ends q).turns + 1
  own_turns = ap (λ (e : Ended). e.turns) own

  own_end : is_live next.ends q ≡ true → after.end ≡ end.Cut
  own_end w = sym (ap (λ (e : Ended). e.end) own) ∙ is_live-cut next.ends q w

  -- those of another
  other : (r : ℕ) → r ≢ q → ended_of next.ends r ≡ ended_of s.ends r
  other r d = ended_of-set_other s.ends q r after d

  other_turns : (r : ℕ) → r ≢ q → (ended_of next.ends r).turns ≡ (ended_of s.ends r).turns
  other_turns r d = ap (λ (e : Ended). e.turns) (other r d)

  other_live : (r : ℕ) → r ≢ q → is_live next.ends r ≡ is_live s.ends r
  other_live r d = is_live-set_other s.ends q r after d

  next_turns : (r : ℕ) → r < m.nodes → (ended_of next.ends r).turns ≤ m.budget
  next_turns r l = ⊎_elim (λ same. omega (arith, ap (λ r. (ended_of next.ends r).turns) same, own_turns, h.left q v))
      (λ d. omega (arith, other_turns r d, h.turns r l)) (cases_eq r q)

  next_left : (r : ℕ) → is_live next.ends r ≡ true → (ended_of next.ends r).turns < m.budget
  next_left r w = ⊎_elim at (λ d. omega (arith, other_turns r d, h.left r (sym (other_live r d) ∙ w))) (cases_eq r q)
    where
      at : r ≡ q → (ended_of next.ends r).turns < m.budget
      at same = omega (
        arith,
        ap (λ r. (ended_of next.ends r).turns) same,
        own_turns,
        k.leaves.left (own_end (sym (ap (is_live next.ends) same) ∙ w)),
      )

  next_guest : (r : ℕ) → is_live next.ends r ≡ true → IsGuest m next.history (ended_of next.ends r).turns r
  next_guest r w = ⊎_elim at away (cases_eq r q)
    where
      at : r ≡ q → IsGuest m next.history (ended_of next.ends r).turns r
      at same =
          subst (λ (r : ℕ). IsGuest m next.history (ended_of next.ends r).turns r) (sym same)
          (rw own_turns (k.leaves.guest (own_end (sym (ap (is_live next.ends) same) ∙ w))))

      away : r ≢ q → IsGuest m next.history (ended_of next.ends r).turns r
      away d = rw (other_turns r d) (IsGuest-no_operations m s.history x.items (ended_of s.ends r).turns r
          (h.guest r (sym (other_live r d) ∙ w)) (k.others r d))

  next_ended : (r : ℕ) → r < m.nodes → is_live next.ends r ≡ false → is_in_order m next.history next.ends r ≡ true
  next_ended r l w = ⊎_elim at away (cases_eq r q)
    where
      at : r ≡ q → is_in_order m next.history next.ends r ≡ true
      at same =
          subst (λ (r : ℕ). is_in_order m next.history next.ends r ≡ true) (sym same)
          (is_in_order-from m next.history next.ends q (omega (arith, own_turns, h.left q v)) (rw own k.leaves.ends))

      away : r ≢ q → is_in_order m next.history next.ends r ≡ true
      away d =
          is_in_order-not_mine m s.history x.items s.ends next.ends r (k.ended r d (sym (other_live r d) ∙ w)) (other r d)
          ∙ h.ended r l (sym (other_live r d) ∙ w)

  made_sound : Sound m answer next
  made_sound = record {
    items = bad_after-more m answer [] 0 s.history x.items h.items (ap (λ n. bad_after m answer s.history n x.items) (omega arith)
        ∙ k.good);
    count = length-ends_set s.ends q after ∙ h.count;
    turns = next_turns;
    left = next_left;
    guest = next_guest;
    ended = next_ended;
    settled = settled-ends m (record { history = s.history ++ x.items; ends = s.ends }) next.ends
        (λ r w. is_live-set_before s.ends q r after v w) k.settled;
  }

-- ---- what a turn adds, by what its guest wants

module _ (m : Machine) (answer : Answer) (s : Coarse) (q : ℕ) (machine : IsWithinLimits m) (h : Sound m answer s)
    (v : is_live s.ends q ≡ true) where
  abbrev before : ℕ
  before = (ended_of s.ends q).turns

  node : q < m.nodes
  node = omega (arith, is_live-below s.ends q v, h.count)

  fewer : before + 1 ≤ m.budget
  fewer = omega (arith, h.left q v)

  dirs : (p : ℕ) → p < m.pages → is_dir m (dir_of s.history p) ≡ true
  dirs p l = (h.settled.page p l).dir

  -- nothing

  nothing_turn : (e : End) → IsLeft m s.history q (before + 1) (end_after m (before + 1) e) → IsTurn m answer s q (made [] e)
  nothing_turn e l = record {
    good = refl;
    settled = rw append-nil h.settled;
    others = λ r d. refl;
    ended = λ r d w. refl;
    leaves = rw append-nil l;
  }

  -- a switch

  switch_turn : (space : ℕ) → want_of m q (guest_now m s q).state ≡ want.Switch space →
      IsTurn m answer s q (made (switch_items m s.history q space) end.Cut)
  switch_turn space w = record {
    good = bad_after-switch m answer s.history (length s.history) before q space wants;
    settled = settled-switch m s q space h.settled node;
    others = λ r d. switch_items-operations_other m s.history q space r (λ same. d (sym same));
    ended = λ r d e. switch_items-none_by m s.history q space r (λ same. d (sym same));
    leaves = left-cut m (s.history ++ switch_items m s.history q space) q (before + 1) (IsGuest-switched m s.history before q space wants)
        fewer;
  }
    where
      wants : WantsSwitch m s.history before q space
      wants = record { guest = h.guest q v; left = h.left q v; node = node; wants = w }

  -- an access

  module _ (k : Kind) (sp a o : ℕ) (w : want_of m q (guest_now m s q).state ≡ want.Access k sp a o) where
    abbrev entry : ℕ
    entry = entry_reached m sp a

    wants : WantsAccess m s.history before q k sp a o
    wants = record { machine = machine; guest = h.guest q v; left = h.left q v; node = node; wants = w }

    reached : IsReach m (guest_now m s q).state k sp a o entry
    reached = IsReach-wanted m q (guest_now m s q).state k sp a o w

    here : active m s.history q ≡ space_of m entry
    here = sym (h.guest q v).space ∙ sym reached.space ∙ sym reached.in_space

    hit_turn : (t : Translation) → held m s.history q entry ≡ Some t → has_right k (Some t) ≡ true →
        IsTurn m answer s q (made (access_by m s.history q (reach_of m k sp a o) t.grant.frame t.seq ∷ []) end.Cut)
    hit_turn t e r = record {
      good =
          bad_after-hit m answer s.history (length s.history) before q k sp a o t wants e r
          (h.settled.kept q entry t node reached.below e).frame fresh.0 fresh.1;
      settled = settled-access m s (access_of m s.history q (reach_of m k sp a o) t.grant.frame t.seq) h.settled;
      others = λ r d. access_by-operations_other m s.history q (reach_of m k sp a o) t.grant.frame t.seq r (λ same. d (sym same));
      ended = λ r d e. access_by-none_by m s.history q (reach_of m k sp a o) t.grant.frame t.seq r (λ same. d (sym same));
      leaves = left-cut m _ q (before + 1) (IsGuest-hit m s.history before q k sp a o t.grant.frame t.seq wants) fewer;
    }
      where
        fresh : (later removes_all s.history (page_of m entry) t.seq ≡ false)
            × (t.grant.right ≡ right.Write → later removes_writes s.history (page_of m entry) t.seq ≡ false)
        fresh = settled-hit m s q entry t h.settled v node reached.below here e

    module _ (now : ℕ) (r : has_right k (held m s.history q entry) ≡ false) where
      starved_turn : is_starved m s.history q (reach_of m k sp a o).page ≡ true → IsTurn m answer s q (made [] end.NoFrames)
      starved_turn few =
          let page = reach_of-page m (guest_now m s q).state k sp a o entry machine reached
          in let less = starving m s.history q (reach_of m k sp a o).page few page node (dirs (reach_of m k sp a o).page page)
          in nothing_turn end.NoFrames
          (left-ended m s.history q (before + 1) end.NoFrames
          (is_end-no_frames m s.history before q k sp a o (h.guest q v) w
          (ap (λ e. has_right k (held_through m s.history q e)) reached.found ∙ r) less) (λ e. cc))

      abbrev reach : Reach
      reach = reach_of m k sp a o

      abbrev chosen : Decision
      chosen = decided m answer s.history q reach.page now (cause_of k)

      abbrev change : Change
      change = fault_change s.history q now entry reach chosen

      granted : IsNextChange m s.history change →
          (held m (posted m s change) q entry
          ≡ Some (record { grant = grant_of entry (cause_of k) chosen; seq = change.seq; restricted = false }))
          × (later removes_all (posted m s change) change.page change.seq ≡ false)
          × (later removes_writes (posted m s change) change.page change.seq ≡ false)
      granted n = settled-granted m s change h.settled n (grant_of entry (cause_of k) chosen) refl

      fault_settled : IsNextChange m s.history change →
          IsSettled m (record { history = s.history ++ fault_items m s q now entry reach chosen; ends = s.ends })
      fault_settled n =
          rw (fault_items-parts m s q now entry reach chosen)
          (settled-access m (record { history = posted m s change; ends = s.ends })
          (access_of m s.history q reach chosen.frame (seq_of s.history reach.page))
          (settled-posted m s change h.settled n))

      fault_turn : is_starved m s.history q reach.page ≡ false →
          IsTurn m answer s q (made (fault_items m s q now entry reach chosen) end.Cut)
      fault_turn enough =
          let n = next_change-fault m answer s.history before q now k sp a o wants dirs enough
          in let g = granted n
          in record {
            good = bad_after-fault m answer s (length s.history) before q now k sp a o wants dirs enough r
                (settled-may_apply m s change h.settled n) g.0 g.1 g.2;
            settled = fault_settled n;
            others = λ p d. fault_items-operations_other m s q now entry reach chosen p (λ same. d (sym same));
            ended = λ p d e. fault_items-none_by_ended m s q now entry reach chosen p (λ same. d (sym same)) e;
            leaves = left-cut m _ q (before + 1) (IsGuest-fault m s before q now entry k sp a o chosen wants) fewer;
          }

      no_right_turn : IsTurn m answer s q (fault_made m answer s q now entry reach)
      no_right_turn = by (is_starved m s.history q reach.page) refl
        where
          by : (b : Bool) → is_starved m s.history q reach.page ≡ b →
              IsTurn m answer s q (if b then made [] end.NoFrames else made (fault_items m s q now entry reach chosen) end.Cut)
          by true few = starved_turn few
          by false enough = fault_turn enough

    access_turn : (now : ℕ) → IsTurn m answer s q (access_made m answer s q now entry (reach_of m k sp a o) (held m s.history q entry))
    access_turn now = by (held m s.history q entry) refl
      where
        at : (t : Translation) → held m s.history q entry ≡ Some t → (b : Bool) → has_right k (Some t) ≡ b →
            IsTurn m answer s q (if b then made (access_by m s.history q (reach_of m k sp a o) t.grant.frame t.seq ∷ []) end.Cut
            else fault_made m answer s q now entry (reach_of m k sp a o))
        at t e true r = hit_turn t e r
        at t e false r = no_right_turn now (ap (has_right k) e ∙ r)

        by : (t : Option Translation) → held m s.history q entry ≡ t →
            IsTurn m answer s q (access_made m answer s q now entry (reach_of m k sp a o) t)
        by None e = no_right_turn now (ap (has_right k) e)
        by (Some t) e = at t e (has_right k (Some t)) refl

  made_turn : (now : ℕ) (w : Want) → want_of m q (guest_now m s q).state ≡ w → IsTurn m answer s q (made_by m answer s q now w)
  made_turn now want.Local w = nothing_turn end.Cut
      (left-cut m s.history q (before + 1) (IsGuest-local m s.history before q (h.guest q v) w) fewer)
  made_turn now (want.Access k sp a o) w =
      subst (λ e. IsTurn m answer s q (made_reached m answer s q now (reach_of m k sp a o) e)) (sym (reached k sp a o w).found)
      (access_turn k sp a o w now)
  made_turn now (want.Switch space) w = switch_turn space w
  made_turn now (want.Print value) w =
      nothing_turn end.Cut (left-cut m s.history q (before + 1) (IsGuest-print m s.history before q value (h.guest q v) w) fewer)
  made_turn now want.Halted w = nothing_turn end.Halted
      (left-ended m s.history q (before + 1) end.Halted (is_end-halted m s.history before q (h.guest q v) w) (λ e. cc))
  made_turn now want.Trap w = nothing_turn end.Trapped
      (left-ended m s.history q (before + 1) end.Trapped (is_end-trapped m s.history before q (h.guest q v) w) (λ e. cc))

-- ---- the daemon's pass

pub thaw_sound : (m : Machine) (answer : Answer) (s : Coarse) (now p : ℕ) → Sound m answer s → has_daemon m.policy ≡ true → p < m.pages →
    Sound m answer (thaw m answer now s p)
thaw_sound m answer s now p h daemon l = by (dir_of s.history p).frozen refl
  where
    frozen : (dir_of s.history p).frozen ≡ true →
        Sound m answer (record { history = s.history ++ thaw_items m answer s now p; ends = s.ends })
    frozen f =
        let dir = (h.settled.page p l).dir
        in let n = next_change-thaw m answer s.history now p l dir f
        in let may = settled-may_apply m s (thaw_change m answer s.history now p) h.settled n
        in record {
          items = bad_after-more m answer [] 0 s.history (thaw_items m answer s now p) h.items
              (bad_after-thaw m answer s (0 + length s.history) now p l dir f daemon may);
          count = h.count;
          turns = h.turns;
          left = h.left;
          guest = λ q v. IsGuest-no_operations m s.history (thaw_items m answer s now p) (ended_of s.ends q).turns q (h.guest q v)
              (thaw_items-operations m answer s now p q);
          ended = λ q u v.
              is_in_order-not_mine m s.history (thaw_items m answer s now p) s.ends s.ends q
              (thaw_items-none_by_ended m answer s now p q u v) refl
              ∙ h.ended q u v;
          settled = settled-posted m s (thaw_change m answer s.history now p) h.settled n;
        }

    by : (b : Bool) → (dir_of s.history p).frozen ≡ b →
        Sound m answer (if b then record { history = s.history ++ thaw_items m answer s now p; ends = s.ends } else s)
    by true f = frozen f
    by false f = h

-- thaws of the pages from a on
pub thaws_sound : (m : Machine) (answer : Answer) (s : Coarse) (now a n : ℕ) → Sound m answer s → has_daemon m.policy ≡ true →
    a + n ≤ m.pages → Sound m answer (fold (thaw m answer now) s (range_with_len a n))
thaws_sound m answer s now a zero h daemon l = h
thaws_sound m answer s now a (suc n) h daemon l =
    thaws_sound m answer (thaw m answer now s a) now (a + 1) n (thaw_sound m answer s now a h daemon (omega arith)) daemon (omega arith)

pub daemon_sound : (m : Machine) (answer : Answer) (s : Coarse) (now : ℕ) → Sound m answer s → Sound m answer (daemon m answer now s)
daemon_sound m answer s now h = by (is_pass m.policy now) refl
  where
    by : (b : Bool) → is_pass m.policy now ≡ b → Sound m answer (if b then fold (thaw m answer now) s (numbers m.pages) else s)
    by true pass = thaws_sound m answer s now 0 m.pages h (has_daemon-is_pass m.policy now pass) (omega arith)
    by false none = h

-- ---- a turn

-- what the guest of a live processor wants keeps the invariant, at whatever tick
pub with_made_sound : (m : Machine) (answer : Answer) (s : Coarse) (q now : ℕ) → IsWithinLimits m → Sound m answer s →
    is_live s.ends q ≡ true → Sound m answer (with_made m s q (made_by m answer s q now (want_of m q (guest_now m s q).state)))
with_made_sound m answer s q now machine h v =
    let w = want_of m q (guest_now m s q).state
    in made_sound m answer s q (made_by m answer s q now w) h v (made_turn m answer s q machine h v now w refl)

pub turn_sound : (m : Machine) (answer : Answer) (s : Coarse) (q : ℕ) → IsWithinLimits m → Sound m answer s → is_live s.ends q ≡ true →
    Sound m answer (turn m answer s q)
turn_sound m answer s q machine h v =
    let now = time_of s.ends + 1
    in let x = made_by m answer s q now (want_of m q (guest_now m s q).state)
    in daemon_sound m answer (with_made m s q x) now (with_made_sound m answer s q now machine h v)

-- ---- a run

start-live : (m : Machine) (q : ℕ) → q < m.nodes → is_live (coarse_start m).ends q ≡ true
start-live m q l =
    rw (length-replicate m.nodes (cut_at 0), lt-ltb q m.nodes l, get_or-replicate m.nodes q (cut_at 0) (cut_at 0) l) refl

pub sound_start : (m : Machine) (answer : Answer) → IsWithinLimits m → Sound m answer (coarse_start m)
sound_start m answer machine = record {
  items = refl;
  count = length-replicate m.nodes (cut_at 0);
  turns = λ q l. rw (get_or-replicate m.nodes q (cut_at 0) (cut_at 0) l) (omega arith);
  left = λ q v.
      let l : q < m.nodes = omega (arith, is_live-below (coarse_start m).ends q v, length-replicate m.nodes (cut_at 0))
      in rw (get_or-replicate m.nodes q (cut_at 0) (cut_at 0) l) (omega (arith, budget-some m machine));
  guest = λ q v.
      let l : q < m.nodes = omega (arith, is_live-below (coarse_start m).ends q v, length-replicate m.nodes (cut_at 0))
      in rw (get_or-replicate m.nodes q (cut_at 0) (cut_at 0) l) (IsGuest-start m q);
  ended = λ q l v. absurd (true≢false (sym (start-live m q l) ∙ v));
  settled = settled-start m (coarse_start m).ends;
}

-- the turns of a list of processors each of which is live when its turn comes
pub turns_sound : (m : Machine) (answer : Answer) (s : Coarse) (qs : List ℕ) → IsWithinLimits m → Sound m answer s → AreLive m answer s qs →
    Sound m answer (turns m answer s qs)
turns_sound m answer s [] machine h v = h
turns_sound m answer s (q ∷ qs) machine h v =
    turns_sound m answer (turn m answer s q) qs machine (turn_sound m answer s q machine h v.0) v.1

pub run_sound : (m : Machine) (answer : Answer) (k : ℕ) → IsWithinLimits m → Sound m answer (scheduled m answer k).coarse
run_sound m answer k machine =
    scheduled_holds m answer (Sound m answer) (sound_start m answer machine) (λ s q h v. turn_sound m answer s q machine h v) k

pub coarse_run_sound : (m : Machine) (answer : Answer) → IsWithinLimits m → Sound m answer (coarse_run m answer)
unfolding coarse_run
coarse_run_sound m answer machine = run_sound m answer (m.nodes * m.budget) machine

-- ---- good

-- no item and no end breaks a rule, whether the run is over or not
pub good_of_sound : (m : Machine) (answer : Answer) (s : Coarse) → Sound m answer s → Good m answer s.history s.ends
good_of_sound m answer s h = first_bad-none m answer s.history s.ends h.items h.count (λ q l. by q l (is_live s.ends q) refl)
  where
    by : (q : ℕ) → q < m.nodes → (b : Bool) → is_live s.ends q ≡ b → is_in_order m s.history s.ends q ≡ true
    by q l true v = is_in_order-live m s.history s.ends q v (h.turns q l) (h.guest q v)
    by q l false v = h.ended q l v

pub run_good : (m : Machine) (answer : Answer) → IsWithinLimits m → Good m answer (coarse_run m answer).history (coarse_run m answer).ends
run_good m answer machine = good_of_sound m answer (coarse_run m answer) (coarse_run_sound m answer machine)

-- ---- the end of a run

starved_few : (m : Machine) (items : List Item) (q t : ℕ) → is_end m items q end.NoFrames (suc t) ≡ true → m.frames < m.pages
starved_few m items q t h =
    let r = guest_run m q (values_of q items) t
    in let all = and_parts (nat_lt m.frames m.pages && stands r t GoesOn && has_made items q r)
    (wants_right m items q (want_of m q r.state)) h
    in let two = and_parts (nat_lt m.frames m.pages && stands r t GoesOn) (has_made items q r) all.0
    in ltb-true m.frames m.pages (and_parts (nat_lt m.frames m.pages) (stands r t GoesOn) two.0).0

-- where there is a frame for each page on each module, no processor ends for want of frames
pub sound-no_frames : (m : Machine) (answer : Answer) (s : Coarse) (q : ℕ) → HasEnoughFrames m → Sound m answer s → q < m.nodes →
    (ended_of s.ends q).end ≢ end.NoFrames
sound-no_frames m answer s q enough h l e = by (is_live s.ends q) refl
  where
    starved : (t : ℕ) → is_end m s.history q end.NoFrames t ≡ true → ⊥
    starved zero x = cc
    starved (suc t) x =
        let few : m.frames < m.pages = starved_few m s.history q t x in omega arith

    by : (b : Bool) → is_live s.ends q ≡ b → ⊥
    by true v = cc (is_live-cut s.ends q v)
    by false v = starved (ended_of s.ends q).turns (sym (ap (λ x. is_end m s.history q x (ended_of s.ends q).turns) e)
        ∙ (and_parts (nat_le (ended_of s.ends q).turns m.budget) _ (h.ended q l v)).1)

-- once the turns of all budgets are made nobody is live
pub sound-over : (m : Machine) (answer : Answer) (s : Coarse) (q : ℕ) → Sound m answer s → time_of s.ends ≡ m.nodes * m.budget →
    is_live s.ends q ≡ false
sound-over m answer s q h t =
    false_from_ne_true (is_live s.ends q) (λ v.
    let less = time_of-less s.ends m.budget q (λ r l. h.turns r (rw h.count at l)) (is_live-below s.ends q v) (h.left q v)
    in let all : length s.ends * m.budget ≡ m.nodes * m.budget = ap (λ n. n * m.budget) h.count
    in absurd (omega arith))

-- after as many turns as all budgets together nobody is live
pub run_over : (m : Machine) (answer : Answer) (q : ℕ) → IsWithinLimits m → q < m.nodes → is_live (coarse_run m answer).ends q ≡ false
unfolding coarse_run
run_over m answer q machine l =
    let k = m.nodes * m.budget
    in let s = (scheduled m answer k).coarse
    in ⊎_elim (λ none. live_processors-none m s q none l) (sound-over m answer s q (run_sound m answer k machine))
    (scheduled-time m answer k)

-- so each guest has halted, trapped or made its budget, or found no frame
pub run_not_cut : (m : Machine) (answer : Answer) (q : ℕ) → IsWithinLimits m → q < m.nodes →
    (ended_of (coarse_run m answer).ends q).end ≢ end.Cut
run_not_cut m answer q machine l e =
    let s = coarse_run m answer
    in let below : q < length s.ends = omega (arith, (coarse_run_sound m answer machine).count)
    in let live : is_live s.ends q ≡ true = rw (lt-ltb q (length s.ends) below) (ap (λ x. same_end x end.Cut) e)
    in true≢false (sym live ∙ run_over m answer q machine l)

pub run_no_frames : (m : Machine) (answer : Answer) (q : ℕ) → IsWithinLimits m → HasEnoughFrames m → q < m.nodes →
    (ended_of (coarse_run m answer).ends q).end ≢ end.NoFrames
run_no_frames m answer q machine enough l = sound-no_frames m answer (coarse_run m answer) q enough (coarse_run_sound m answer machine) l
