-- an access that breaks no rule goes by a translation that its actor holds, and that nothing removed since
use Rattle.std.specs.Prelude.{◌≡◌, ℕ, ◌<◌, ◌+◌, ◌==◌, nat_lt, ◌&&◌, not, Bool, true, false, List, Option, Some, None}
use Rattle.std.proofs.Common.{refl, ap, sym, ◌∙◌}
use Rattle.std.proofs.lemmas.Bool.{ltb-true, and_parts, eqb-true, not-true}
use Rattle.plat_base.specs.Verdicts.{Answer}
use Rattle.plat_base.specs.Machine.{Machine}
use Rattle.plat_base.specs.GuestRun.{Operation, Reaches, Switches}
use Rattle.plat_base.specs.Done.{new_value}
use Rattle.plat_base.specs.Alike.{same_kind}
use Rattle.plat_base.specs.Flat.{is_write, flat_value, flat_writes}
use Rattle.plat_base.specs.Accesses.{writes_made}
use Rattle.plat_base.specs.Copies.{same_frame}
use Rattle.plat_base.specs.Held.{held, held_through, has_right, later, removes_all, removes_writes}
use Rattle.plat_base.specs.Decide.{is_frame}
use Rattle.plat_base.specs.Rules.{entry_of_access, is_grant_of, is_granted, is_legal, is_access_next, is_ordered_access, next_operation}
use Rattle.plat_base.specs.Rules.{unless, first_rule, bad_rule}
use Rattle.plat_base.specs.Histories.{IsByGrant}
use Rattle.plat_base.specs.declared.items.Access.{Access}
use Rattle.plat_base.specs.declared.items.Item.{Item}
use Rattle.plat_base.specs.declared.items.Item.TheVariants as item
use Rattle.plat_base.specs.declared.items.Translation.{Translation}
use Rattle.plat_base.specs.declared.statuses.Rule.TheVariants as rule
use Rattle.plat_laws.proofs.SameLaws.{same_frame-true}
use Rattle.plat_laws.proofs.ReachLaws.{HasEntry, IsOfEntry}
use Rattle.plat_laws.proofs.ChangeLaws.{next_operation-entry}
use Rattle.plat_base.proofs.RuleLemmas.{unless-none, first_rule-none}

-- the parts of a legal access
pub legal-parts : (m : Machine) (before : List Item) (a : Access) → is_legal m before a ≡ true →
    (a.page < m.pages) × (a.old ≡ flat_value m before a.page a.word)
legal-parts m before a h =
    let three = and_parts (nat_lt a.page m.pages && nat_lt a.word m.words && a.old == flat_value m before a.page a.word)
    (a.version == flat_writes before a.page a.word + writes_made a.kind) h in
    let two = and_parts (nat_lt a.page m.pages && nat_lt a.word m.words) (a.old == flat_value m before a.page a.word) three.0
    in (
      ltb-true a.page m.pages (and_parts (nat_lt a.page m.pages) (nat_lt a.word m.words) two.0).0,
      eqb-true a.old (flat_value m before a.page a.word) two.1,
    )

of_entry : {m : Machine} {e s d p space addr page : ℕ} → s ≡ space → d ≡ addr → p ≡ page → IsOfEntry m s d p e →
    IsOfEntry m space addr page e
of_entry {m = m} i j k h = record {
  found = rw (← i, ← j) h.found;
  of_page = h.of_page ∙ k;
}

-- ---- an access that breaks no rule

module _ (m : Machine) (answer : Answer) (before : List Item) (a : Access) (kept : bad_rule m answer before (item.Access a) ≡ None) where
  pub access_parts : (is_ordered_access m before a ≡ true) × (is_granted m before a ≡ true) × (is_legal m before a ≡ true)
  access_parts =
      let all = first_rule-none (unless (is_ordered_access m before a) rule.Order)
      (first_rule (unless (is_granted m before a) rule.Grant) (unless (is_legal m before a) rule.Legal)) kept
      in let two = first_rule-none (unless (is_granted m before a) rule.Grant) (unless (is_legal m before a) rule.Legal) all.1
      in (
        unless-none (is_ordered_access m before a) rule.Order all.0,
        unless-none (is_granted m before a) rule.Grant two.0,
        unless-none (is_legal m before a) rule.Legal two.1,
      )

  -- nothing took its translation away
  pub not_removed : (later removes_all before a.page a.grant ≡ false)
      × (is_write a.kind ≡ true → later removes_writes before a.page a.grant ≡ false)
  not_removed =
      let t = held_through m before a.actor (entry_of_access m a)
      in let one = and_parts (is_grant_of a t && has_right a.kind t && not (later removes_all before a.page a.grant))
      (not (is_write a.kind && later removes_writes before a.page a.grant)) access_parts.1
      in let two = and_parts (is_grant_of a t && has_right a.kind t) (not (later removes_all before a.page a.grant)) one.0
      in (
        not-true (later removes_all before a.page a.grant) two.1,
        λ writes. both_false (is_write a.kind) (later removes_writes before a.page a.grant) writes
            (not-true (is_write a.kind && later removes_writes before a.page a.grant) one.1),
      )
    where
      both_false : (x y : Bool) → x ≡ true → (x && y) ≡ false → y ≡ false
      both_false true y h k = k
      both_false false y h k = absurd cc

  -- its address has an entry, which is of its page
  entry_of : (e : ℕ) × IsOfEntry m a.space a.addr a.page e
  entry_of = by (next_operation m before a.actor) (next_operation-entry m before a.actor) next
    where
      next : is_access_next (next_operation m before a.actor) a ≡ true
      next = (and_parts (nat_lt a.actor m.nodes && is_frame m a.frame) (is_access_next (next_operation m before a.actor) a)
          access_parts.0).1

      by : (o : Option Operation) → ((x : Operation) → o ≡ Some x → HasEntry m x) → is_access_next o a ≡ true →
          (e : ℕ) × IsOfEntry m a.space a.addr a.page e
      by None all h = absurd cc
      by (Some (Switches space)) all h = absurd cc
      by (Some (Reaches r)) all h =
          let kinds = same_kind r.kind a.kind in
          let five = and_parts (kinds && r.space == a.space && r.addr == a.addr && r.page == a.page && r.word == a.word)
          (a.new == new_value r.kind a.old r.operand) h in
          let four = and_parts (kinds && r.space == a.space && r.addr == a.addr && r.page == a.page) (r.word == a.word) five.0 in
          let three = and_parts (kinds && r.space == a.space && r.addr == a.addr) (r.page == a.page) four.0 in
          let two = and_parts (kinds && r.space == a.space) (r.addr == a.addr) three.0 in
          let one = and_parts kinds (r.space == a.space) two.0 in
          let reached = all (Reaches r) refl
          in (
            reached.0,
            of_entry (eqb-true r.space a.space one.1) (eqb-true r.addr a.addr two.1) (eqb-true r.page a.page three.1)
                reached.1,
          )

  abbrev holds : Option Translation
  holds = held_through m before a.actor (entry_of_access m a)

  -- its actor holds the translation
  pub by_grant : IsByGrant m before a
  by_grant = by (held m before a.actor entry_of.0) refl (sym (ap (is_grant_of a) here) ∙ two.0) (sym (ap (has_right a.kind) here) ∙ two.1)
    where
      here : holds ≡ held m before a.actor entry_of.0
      here = ap (held_through m before a.actor) entry_of.1.found

      two : (is_grant_of a holds ≡ true) × (has_right a.kind holds ≡ true)
      two =
          let one = and_parts (is_grant_of a holds && has_right a.kind holds && not (later removes_all before a.page a.grant))
          (not (is_write a.kind && later removes_writes before a.page a.grant)) access_parts.1
          in and_parts (is_grant_of a holds) (has_right a.kind holds)
          (and_parts (is_grant_of a holds && has_right a.kind holds) (not (later removes_all before a.page a.grant)) one.0).0

      by : (o : Option Translation) → held m before a.actor entry_of.0 ≡ o → is_grant_of a o ≡ true → has_right a.kind o ≡ true →
          IsByGrant m before a
      by None is h r = absurd cc
      by (Some t) is h r =
          let both = and_parts (same_frame t.grant.frame a.frame) (t.seq == a.grant) h
          in record {
            entry = entry_of.0;
            translation = t;
            found = entry_of.1.found;
            of_page = entry_of.1.of_page;
            holds = is;
            leads = same_frame-true t.grant.frame a.frame both.0;
            numbered = eqb-true t.seq a.grant both.1;
            right = r;
          }
