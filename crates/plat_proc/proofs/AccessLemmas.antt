-- the access that a guest wants: where its address leads, and what its look-up finds
use Rattle.std.proofs.Common.{◌≡◌, ℕ, ◌/◌, ◌<◌, Bool, true, false, List, length, refl, sym, ap, ◌∙◌, subst, arith}
use Rattle.std.specs.Prelude.{IsTrue, Option, Some, None, IsSome, unwrap_or, if◌then◌else◌, slice_index_or}
use Rattle.std.proofs.lemmas.Bool.Decides.{nat_tests}
use Rattle.plat_base.specs.Machine.{Machine, is_machine, is_entry}
use Rattle.plat_base.specs.Pages.{entry_at, entry_reached, no_entry, page_of}
use Rattle.plat_base.specs.Flat.{is_write}
use Rattle.plat_base.specs.Held.{has_right}
use Rattle.plat_base.specs.Cache.{Cache}
use Rattle.plat_base.specs.Cache.{accessed as cache_accessed}
use Rattle.plat_base.specs.Accesses.{cause_of}
use Rattle.plat_base.specs.GuestRun.{Reach, reach_of}
use Rattle.plat_base.specs.declared.items.Kind.{Kind}
use Rattle.plat_base.specs.declared.items.Kind.TheVariants as kind
use Rattle.plat_base.specs.declared.items.Cause.{Cause}
use Rattle.plat_base.specs.declared.items.Translation.{Translation}
use Rattle.plat_base.specs.declared.words.Op.{Op}
use Rattle.plat_base.specs.declared.words.WordName.{WordName}
use Rattle.plat_base.proofs.LimitLemmas.{limits_of, holds_at, page_below}
use Rattle.plat_laws.proofs.GuestLaws.{entry_at-found}
use Rattle.plat_events.specs.Privates.{Expecting, Loading, Ticking, Private, translation_at}
use Rattle.plat_events.specs.Events.{entry_of, frame_by, reach_now, vpage_of, look_up, memory_now, places_filled, translation_now}
use Rattle.plat_events.specs.Sessions.{memory_at}
use Rattle.plat_handler.specs.Fits.{is_fault}
use Rattle.plat_local_laws.specs.Faults.{WantsAccess}
use Rattle.plat_pmap.specs.Slots.{Agrees, counted, places}
use Rattle.plat_pmap.specs.Translations.{translation_of, usable}
use Rattle.plat_pmap.specs.declared.atcs.Slot.{Slot}
use Rattle.plat_proc.specs.declared.accesses.Reached.{Reached}
use Rattle.plat_proc.specs.Fits.{Fits}
use Rattle.plat_proc.specs.Followed.{next_named}
use Rattle.plat_proc.specs.ProcSeen.{ProcSeen}
use Rattle.plat_proc.specs.Reached.{GoesBy, IsReach, reach_seen}
use Rattle.plat_proc.proofs.CacheLemmas.{agrees-ticked}

-- ---- where an address leads

entry-narrow : (m : Machine) (e : ℕ) → IsTrue (is_machine m) → e < length m.entries → (slice_index_or m.entries e no_entry).vpage < 64
entry-narrow m e h l =
    let here = holds_at (is_entry m.pages) m.entries e no_entry (limits_of m h).entries l in grind (arith, nat_tests, here)

leads-to :
    (m : Machine) (r : Reached) (space addr e : ℕ) → IsTrue (is_machine m) → entry_at m space (addr / m.words) ≡ Some e → r.space ≡ space
    → r.addr ≡ addr → r.entry ≡ e → r.vpage ≡ addr / m.words → r.page ≡ page_of m (entry_reached m space addr) → IsReach m r
leads-to m r space addr e h found es ea ee ev ep =
    let at = entry_at-found m space (addr / m.words) e found in
    let is : entry_reached m space addr ≡ e = ap (λ (o : Option ℕ). unwrap_or o (length m.entries)) found in
    let below = at.below in
    let narrow = entry-narrow m e h at.below in
    let there = at.at_page in
    record {
      entry = rw (es, ea, ee, is) refl;
      within = rw ee below;
      vpage = rw (ea, ev) refl;
      narrow = rw ev (subst (λ (n : ℕ). n < 64) there narrow);
      page = rw (ee, ep, is) refl;
    }

pub IsReach-reached :
    (m : Machine) (r : Reached) (k : Kind) (space addr operand e : ℕ) → IsTrue (is_machine m) → entry_at m space (addr / m.words) ≡ Some e
    → reach_seen r ≡ reach_of m k space addr operand → r.entry ≡ e → r.vpage ≡ addr / m.words → IsReach m r
IsReach-reached m r k space addr operand e h found is ee ev =
    leads-to m r space addr e h found (ap (λ (x : Reach). x.space) is) (ap (λ (x : Reach). x.addr) is) ee ev (ap (λ (x : Reach). x.page) is)

-- ---- the word of the access

memory-reached :
    (m : Machine) (x : ProcSeen) (r : Reached) (t : Translation) → GoesBy m x r t
    → memory_at t.grant.frame r.word ≡ memory_now m x.actor x.state
memory-reached m x r t k =
    let entry : r.entry ≡ entry_of m (reach_now m x.actor x.state) = k.leads.entry ∙ ap (entry_of m) k.reach in
    let there : translation_now m x.actor x.state ≡ Some t = ap (translation_at x.state) (sym entry) ∙ k.translation in
    ap (λ (o : Option Translation). memory_at (frame_by o) r.word) (sym there)
    ∙ ap (λ (y : Reach). memory_at (frame_by (translation_now m x.actor x.state)) y.word) k.reach

pub next-reached :
    (m : Machine) (x : ProcSeen) (r : Reached) (t : Translation) (name : WordName) (op : Op) → GoesBy m x r t
    → name ≡ memory_at t.grant.frame r.word → next_named m x ≡ Some (memory_now m x.actor x.state, op)
    → next_named m x ≡ Some (name, op)
next-reached m x r t name op k e n = rw (e ∙ memory-reached m x r t k) n

-- ---- the fault

caused : (m : Machine) (a page e : ℕ) (k : Kind) → a < m.nodes → e < length m.entries → page_of m e ≡ page → page < m.pages
    → IsTrue (is_fault m a (record { page = page; entry = Some e; cause = cause_of k }))
caused m a page e kind.Load l b p q = grind (arith, nat_tests)
caused m a page e kind.Store l b p q = grind (arith, nat_tests)
caused m a page e kind.Add l b p q = grind (arith, nat_tests)

pub is_fault-reached :
    (m : Machine) (a : ℕ) (r : Reached) (cause : Cause) → IsTrue (is_machine m) → a < m.nodes → IsReach m r → cause ≡ cause_of r.kind
    → IsTrue (is_fault m a (record { page = r.page; entry = Some r.entry; cause = cause }))
is_fault-reached m a r cause h l leads e =
    let page = subst (λ (n : ℕ). n < m.pages) leads.page (page_below m r.entry no_entry h leads.within) in
    rw e (caused m a r.page r.entry r.kind l leads.within leads.page page)

-- ---- the look-up

has_right-usable : (k : Kind) (t : Option Translation) → IsSome (usable k t) → has_right k t ≡ true
has_right-usable k t h = some-of (has_right k t) refl h
  where
    some-of : (b : Bool) → has_right k t ≡ b → IsSome (if b then t else None) → has_right k t ≡ true
    some-of true e s = e
    some-of false e s = absurd cc

-- an access that was found fills its place of the cache, and is next
pub look_up-found :
    (m : Machine) (r : Reached) (p q : Private) (slots new : List (Option Slot)) (hit : Bool) → IsReach m r → p.atc ≡ places slots
    → IsSome (usable r.kind (translation_of p.pmap r.entry))
    → ((c : Cache) → c.places ≡ places slots → cache_accessed r.entry r.vpage (is_write r.kind) c ≡ counted hit (places new) c)
    → q ≡ record p { atc = places new; place = if is_write r.kind then Expecting else Loading } → q ≡ look_up m (reach_seen r) p
look_up-found m r p q slots new hit leads atc found told is =
    let cache : Cache = record { places = p.atc; hits = 0; misses = 0 } in
    let right : has_right r.kind (translation_of p.pmap r.entry) ≡ true = has_right-usable r.kind (translation_of p.pmap r.entry) found in
    let there : (cache_accessed r.entry r.vpage (is_write r.kind) cache).places ≡ places new =
    ap (λ (c : Cache). c.places) (told cache atc) in
    let filled : places_filled m p.atc (reach_seen r) ≡ places new =
    subst (λ (v : ℕ). (cache_accessed (entry_of m (reach_seen r)) v (is_write r.kind) cache).places ≡ places new) leads.vpage
    (subst (λ (e : ℕ). (cache_accessed e r.vpage (is_write r.kind) cache).places ≡ places new) leads.entry there) in
    is ∙ sym (rw (← leads.entry, right, filled) refl)

-- a turn's access is served by the translation of its entry
pub agrees-reached :
    (m : Machine) (x : ProcSeen) (r : Reached) → Fits m x → x.state.place ≡ Ticking → WantsAccess m x.actor x.state
    → reach_seen r ≡ reach_now m x.actor x.state → IsReach m r → Agrees x.slots x.state.pmap r.entry r.vpage (is_write r.kind)
agrees-reached m x r f e w is leads =
    let n = reach_now m x.actor x.state in
    let agrees = agrees-ticked m x n.kind n.space n.addr n.operand f e w in
    let seen =
    subst (λ (y : Reach). Agrees x.slots x.state.pmap (entry_of m y) (vpage_of m y) (is_write y.kind)) (sym is) agrees in
    subst (λ (v : ℕ). Agrees x.slots x.state.pmap r.entry v (is_write r.kind)) (sym leads.vpage)
    (subst (λ (k : ℕ). Agrees x.slots x.state.pmap k (vpage_of m (reach_seen r)) (is_write r.kind)) (sym leads.entry) seen)
