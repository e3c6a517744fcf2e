-- the state of a guest after its turn
use Rattle.std.proofs.Common.{◌≡◌, ◌≢◌, ℕ, ◌+◌, ◌/◌, ◌<◌, List, [], ◌∷◌, ◌++◌, length, Bool, true, false, refl, sym, ap, ◌∙◌}
use Rattle.std.proofs.lemmas.List.{append-nil}
use Rattle.plat_base.specs.Verdicts.{Answer}
use Rattle.plat_base.specs.Directories.{dir_of}
use Rattle.std.proofs.Common.{add-one}
use Rattle.plat_base.specs.Pages.{entry_at}
use Rattle.plat_base.specs.declared.endings.Ended.{Ended}
use Rattle.plat_laws.specs.Guests.{IsGuest}
use Rattle.plat_coarse_laws.proofs.RunLaws.{made_in, turn-ends, ended_of-set_other, ended_of-set_same}
use Rattle.std.specs.Prelude.{Option, Some, None, if◌then◌else◌}
use Rattle.std.specs.List.{fold}
use Rattle.plat_base.specs.Machine.{Machine}
use Rattle.plat_base.specs.Pages.{numbers}
use Rattle.plat_base.specs.GuestRun.{GuestRun, Reach, guest_run, guest_after, guest_does, want_of, reach_of}
use Rattle.plat_base.specs.Done.{values_of, reads_word}
use Rattle.plat_base.specs.Flat.{flat_value}
use Rattle.plat_base.specs.Held.{held, has_right}
use Rattle.plat_base.specs.Accesses.{cause_of, access_by}
use Rattle.plat_base.specs.Ends.{time_of, ended_of}
use Rattle.plat_base.specs.Coarse.{Coarse}
use Rattle.plat_base.specs.Frames.{is_starved}
use Rattle.plat_base.specs.Messages.{switch_items}
use Rattle.plat_base.specs.Turns.{fault_made, access_made, made_by, guest_now, decided, thaw, thaw_items, fault_items, daemon, is_pass}
use Rattle.plat_base.specs.Turns.{turn, with_made, made_reached}
use Rattle.plat_base.specs.declared.guests.Want.{Want}
use Rattle.plat_base.specs.declared.guests.Want.TheVariants as want
use Rattle.plat_base.specs.declared.items.Kind.TheVariants as kind
use Rattle.plat_base.specs.declared.items.Item.{Item}
use Rattle.plat_base.specs.declared.items.Translation.{Translation}
use Rattle.plat_base.specs.declared.endings.End.TheVariants as end
use Rattle.plat_coarse_laws.proofs.TurnItemLaws as turn_items
use Rattle.plat_laws.proofs.GuestLaws.{guest_run-next, found-load, found-add}
use Rattle.plat_laws.proofs.EndLaws.{values_of-no_operations}
use Rattle.plat_coarse.specs.Acted.{value_found, wants_more}
use Rattle.plat_laws.proofs.ItemLaws.{values_of-append}

-- ---- the values that a turn gives its guest

abbrev pub values_wanted : Machine → List Item → Want → List ℕ
values_wanted m items want.Local = []
values_wanted m items (want.Access k space addr operand) =
    if reads_word k then flat_value m items (reach_of m k space addr operand).page (reach_of m k space addr operand).word ∷ [] else []
values_wanted m items (want.Switch space) = []
values_wanted m items (want.Print value) = []
values_wanted m items want.Halted = []
values_wanted m items want.Trap = []

module _ (m : Machine) (answer : Answer) (s : Coarse) (q now : ℕ) where
  fault_values : (entry : ℕ) (r : Reach) (v : Bool) → is_starved m s.history q r.page ≡ v
      → (fault_made m answer s q now entry r).end ≡ end.Cut
      → values_of q (fault_made m answer s q now entry r).items
      ≡ (if reads_word r.kind then flat_value m s.history r.page r.word ∷ [] else [])
  fault_values entry r true e h = absurd (let bad = rw e at h in cc)
  fault_values entry r false e h =
      rw e (turn_items.fault_items-values m s q now entry r (decided m answer s.history q r.page now (cause_of r.kind)))

  through_values : (entry : ℕ) (r : Reach) (t : Option Translation) → (access_made m answer s q now entry r t).end ≡ end.Cut
      → values_of q (access_made m answer s q now entry r t).items
      ≡ (if reads_word r.kind then flat_value m s.history r.page r.word ∷ [] else [])
  through_values entry r None h = fault_values entry r (is_starved m s.history q r.page) refl h
  through_values entry r (Some t) h = by (has_right r.kind (Some t)) refl h where
    by : (v : Bool) → has_right r.kind (Some t) ≡ v → (access_made m answer s q now entry r (Some t)).end ≡ end.Cut
        → values_of q (access_made m answer s q now entry r (Some t)).items
        ≡ (if reads_word r.kind then flat_value m s.history r.page r.word ∷ [] else [])
    by true e h = rw e (turn_items.access_by-values m s.history q r t.grant.frame t.seq)
    by false e h = rw e (fault_values entry r (is_starved m s.history q r.page) refl (rw e at h))

  reached_values : (r : Reach) (e : Option ℕ) → (made_reached m answer s q now r e).end ≡ end.Cut
      → values_of q (made_reached m answer s q now r e).items
      ≡ (if reads_word r.kind then flat_value m s.history r.page r.word ∷ [] else [])
  reached_values r None h = absurd (cc)
  reached_values r (Some entry) h = through_values entry r (held m s.history q entry) h

  pub values-made : (w : Want) → (made_by m answer s q now w).end ≡ end.Cut
      → values_of q (made_by m answer s q now w).items ≡ values_wanted m s.history w
  values-made want.Local h = refl
  values-made (want.Access k space addr operand) h = reached_values (reach_of m k space addr operand) (entry_at m space (addr / m.words)) h
  values-made (want.Switch space) h = turn_items.switch_items-values m s.history q space
  values-made (want.Print value) h = refl
  values-made want.Halted h = absurd (cc)
  values-made want.Trap h = absurd (cc)

-- ---- the state after one more turn on those values

pub state-does : (m : Machine) (q : ℕ) (items : List Item) (vs : List ℕ) (r : GuestRun) (w : Want) → r.used ≡ length vs →
    wants_more w ≡ true
    → (guest_does m q (vs ++ values_wanted m items w) r w).state ≡ guest_after m q r.state (value_found m items w)
state-does m q items vs r want.Local used more = refl
state-does m q items vs r (want.Access kind.Load sp a o) used more =
    found-load m q vs r sp a o (flat_value m items (reach_of m kind.Load sp a o).page (reach_of m kind.Load sp a o).word) used
state-does m q items vs r (want.Access kind.Store sp a o) used more = refl
state-does m q items vs r (want.Access kind.Add sp a o) used more =
    found-add m q vs r sp a o (flat_value m items (reach_of m kind.Add sp a o).page (reach_of m kind.Add sp a o).word) used
state-does m q items vs r (want.Switch space) used more = refl
state-does m q items vs r (want.Print value) used more = refl
state-does m q items vs r want.Halted used more = absurd (cc)
state-does m q items vs r want.Trap used more = absurd (cc)

pub made-more : (m : Machine) (answer : Answer) (s : Coarse) (q now : ℕ) (w : Want)
    → (made_by m answer s q now w).end ≡ end.Cut → wants_more w ≡ true
made-more m answer s q now want.Local h = refl
made-more m answer s q now (want.Access k sp a o) h = refl
made-more m answer s q now (want.Switch space) h = refl
made-more m answer s q now (want.Print value) h = refl
made-more m answer s q now want.Halted h = absurd (cc)
made-more m answer s q now want.Trap h = absurd (cc)

-- ---- a turn's values

values_of-thaw : (m : Machine) (answer : Answer) (now : ℕ) (s : Coarse) (page r : ℕ)
    → values_of r (thaw m answer now s page).history ≡ values_of r s.history
values_of-thaw m answer now s page r = by (dir_of s.history page).frozen where
  none : values_of r (s.history ++ thaw_items m answer s now page) ≡ values_of r s.history
  none = values_of-append r s.history (thaw_items m answer s now page)
      ∙ (ap (λ vs. values_of r s.history ++ vs)
      (values_of-no_operations r (thaw_items m answer s now page) (turn_items.thaw_items-operations m answer s now page r))
      ∙ append-nil (values_of r s.history))

  by : (v : Bool) → values_of r (if v then record { history = s.history ++ thaw_items m answer s now page; ends = s.ends } else s).history
      ≡ values_of r s.history
  by true = none
  by false = refl

values_of-thaws : (m : Machine) (answer : Answer) (now : ℕ) (s : Coarse) (pages : List ℕ) (r : ℕ)
    → values_of r (fold (thaw m answer now) s pages).history ≡ values_of r s.history
values_of-thaws m answer now s [] r = refl
values_of-thaws m answer now s (p ∷ ps) r = values_of-thaws m answer now (thaw m answer now s p) ps r ∙ values_of-thaw m answer now s p r

values_of-daemon : (m : Machine) (answer : Answer) (now : ℕ) (s : Coarse) (r : ℕ)
    → values_of r (daemon m answer now s).history ≡ values_of r s.history
values_of-daemon m answer now s r = by (is_pass m.policy now) where
  by : (v : Bool) → values_of r (if v then fold (thaw m answer now) s (numbers m.pages) else s).history ≡ values_of r s.history
  by true = values_of-thaws m answer now s (numbers m.pages) r
  by false = refl

pub values_of-turn : (m : Machine) (answer : Answer) (s : Coarse) (q r : ℕ)
    → values_of r (turn m answer s q).history ≡ values_of r s.history ++ values_of r (made_in m answer s q).items
values_of-turn m answer s q r =
    values_of-daemon m answer (time_of s.ends + 1) (with_made m s q (made_in m answer s q)) r
    ∙ values_of-append r s.history (made_in m answer s q).items

-- the turn of q gives another processor's guest no value
others_fault : (m : Machine) (answer : Answer) (s : Coarse) (q now entry r : ℕ) (reach : Reach) → q ≢ r
    → values_of r (fault_made m answer s q now entry reach).items ≡ []
others_fault m answer s q now entry r reach other = by (is_starved m s.history q reach.page) refl where
  by : (v : Bool) → is_starved m s.history q reach.page ≡ v → values_of r (fault_made m answer s q now entry reach).items ≡ []
  by true e = rw e refl
  by false e = rw e
      (values_of-no_operations r (fault_items m s q now entry reach (decided m answer s.history q reach.page now (cause_of reach.kind)))
      (turn_items.fault_items-operations_other m s q now entry reach (decided m answer s.history q reach.page now (cause_of reach.kind)) r
      other))

others_through : (m : Machine) (answer : Answer) (s : Coarse) (q now entry r : ℕ) (reach : Reach) (t : Option Translation) → q ≢ r
    → values_of r (access_made m answer s q now entry reach t).items ≡ []
others_through m answer s q now entry r reach None other = others_fault m answer s q now entry r reach other
others_through m answer s q now entry r reach (Some t) other = by (has_right reach.kind (Some t)) refl where
  by : (v : Bool) → has_right reach.kind (Some t) ≡ v → values_of r (access_made m answer s q now entry reach (Some t)).items ≡ []
  by true e = rw e
      (values_of-no_operations r (access_by m s.history q reach t.grant.frame t.seq ∷ [])
      (turn_items.access_by-operations_other m s.history q reach t.grant.frame t.seq r other))
  by false e = rw e (others_fault m answer s q now entry r reach other)

others_reached : (m : Machine) (answer : Answer) (s : Coarse) (q now r : ℕ) (reach : Reach) (e : Option ℕ) → q ≢ r
    → values_of r (made_reached m answer s q now reach e).items ≡ []
others_reached m answer s q now r reach None other = refl
others_reached m answer s q now r reach (Some entry) other =
    others_through m answer s q now entry r reach (held m s.history q entry) other

pub values-others : (m : Machine) (answer : Answer) (s : Coarse) (q now r : ℕ) (w : Want) → q ≢ r
    → values_of r (made_by m answer s q now w).items ≡ []
values-others m answer s q now r want.Local other = refl
values-others m answer s q now r (want.Access kind space addr operand) other =
    others_reached m answer s q now r (reach_of m kind space addr operand) (entry_at m space (addr / m.words)) other
values-others m answer s q now r (want.Switch space) other =
    values_of-no_operations r (switch_items m s.history q space) (turn_items.switch_items-operations_other m s.history q space r other)
values-others m answer s q now r (want.Print value) other = refl
values-others m answer s q now r want.Halted other = refl
values-others m answer s q now r want.Trap other = refl

-- ---- the guests after a turn

-- a processor other than the one whose turn it is keeps its guest as it was
pub guest_now-other : (m : Machine) (answer : Answer) (s : Coarse) (q r : ℕ) → q ≢ r
    → guest_now m (turn m answer s q) r ≡ guest_now m s r
guest_now-other m answer s q r other =
    let values = values_of-turn m answer s q r
    ∙ (ap (λ vs. values_of r s.history ++ vs)
    (values-others m answer s q (time_of s.ends + 1) r (want_of m q (guest_now m s q).state) other)
    ∙ append-nil (values_of r s.history)) in
    let turns = ap (λ (es : List Ended). (ended_of es r).turns) (turn-ends m answer s q)
    ∙ ap (λ (e : Ended). e.turns) (ended_of-set_other s.ends q r _ (λ e. other (sym e))) in
    ap (λ (vs : List ℕ). guest_run m r vs (ended_of (turn m answer s q).ends r).turns) values
    ∙ ap (λ (t : ℕ). guest_run m r (values_of r s.history) t) turns

-- the guest whose turn it was has executed its instruction on the word that it found
pub guest_now-own : (m : Machine) (answer : Answer) (s : Coarse) (q : ℕ) → q < length s.ends
    → IsGuest m s.history (ended_of s.ends q).turns q → (made_in m answer s q).end ≡ end.Cut
    → (guest_now m (turn m answer s q) q).state
    ≡ guest_after m q (guest_now m s q).state (value_found m s.history (want_of m q (guest_now m s q).state))
guest_now-own m answer s q inside guest goes =
    let w = want_of m q (guest_now m s q).state in
    let now = time_of s.ends + 1 in
    let values = values_of-turn m answer s q q
    ∙ ap (λ vs. values_of q s.history ++ vs) (values-made m answer s q now w goes) in
    let turns = ap (λ (es : List Ended). (ended_of es q).turns) (turn-ends m answer s q)
    ∙ ap (λ (e : Ended). e.turns) (ended_of-set_same s.ends q _ inside) in
    ap (λ (vs : List ℕ). (guest_run m q vs (ended_of (turn m answer s q).ends q).turns).state) values
    ∙ (ap (λ (t : ℕ). (guest_run m q (values_of q s.history ++ values_wanted m s.history w) t).state) turns
    ∙ (rw add-one
    (ap (λ (r : GuestRun). r.state)
    (guest_run-next m q (values_of q s.history) (values_wanted m s.history w) (ended_of s.ends q).turns w guest.made guest.goes refl)
    ∙ state-does m q s.history (values_of q s.history) (guest_now m s q) w guest.used (made-more m answer s q now w goes))))
