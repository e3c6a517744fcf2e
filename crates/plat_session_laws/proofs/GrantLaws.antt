-- the grant of a processor's reference keeps the invariant
use Rattle.std.specs.Prelude.{◌≡◌, ◌≢◌, ℕ, ◌<◌, ◌==◌, ◌&&◌, ◌||◌, ◌^◌, if◌then◌else◌, Bool, true, false, [], length, bit_or, Option, Some}
use Rattle.std.specs.Prelude.{None, is_some, IsTrue, take}
use Rattle.std.proofs.Common.{refl, ap, sym, ◌∙◌, ◌⊎◌, inl, inr, arith, subst}
use Rattle.std.specs.Option.{option_map_or}
use Rattle.std.specs.Prelude.{unwrap_or}
use Rattle.std.proofs.lemmas.Bool.{cases_eq, eq-eqb, ne_eqb}
use Rattle.std.proofs.lemmas.Bool.Decides.{nat_tests}
use Rattle.std.proofs.lemmas.List.{get_or-set_same, get_or-set_other}
use Rattle.plat_base.specs.Verdicts.{Answer}
use Rattle.plat_base.specs.Machine.{Machine}
use Rattle.plat_base.specs.GuestRun.{Reach}
use Rattle.plat_base.specs.Pages.{page_of, space_of, entries_of_page}
use Rattle.plat_base.specs.Directories.{dir_of, seq_of}
use Rattle.plat_base.specs.Messages.{removes_some}
use Rattle.std.specs.List.{list_any}
use Rattle.std.proofs.Math.Bool.{and-false, or-true}
use Rattle.plat_laws.proofs.ItemLaws.{or-false}
use Rattle.plat_base.specs.declared.items.Kind.TheVariants.{Store}
use Rattle.plat_base.specs.declared.items.Removed.{Removed}
use Rattle.plat_base.specs.declared.items.Removed.TheVariants.{Nothing}
use Rattle.plat_events.specs.Shootdowns.{Target, targets}
use Rattle.plat_views.specs.Facts.{ViewFacts}
use Rattle.plat_base.specs.Held.{held, has_right, later, removes_all, removes_writes}
use Rattle.plat_base.specs.declared.items.Translation.{Translation}
use Rattle.plat_base.specs.declared.words.Op.TheVariants as op
use Rattle.plat_base.specs.declared.words.WordName.TheVariants as word
use Rattle.plat_laws.specs.Guests.{IsWithinLimits}
use Rattle.plat_laws.proofs.Limits.{nodes-most}
use Rattle.plat_laws.proofs.GuestLaws.{IsReach, IsReach-wanted}
use Rattle.plat_words.proofs.Masks.{has_reference-granted, has_invalidate-granted, has_restrict-granted, mask_of, is_mask-of, granted-mask}
use Rattle.plat_events.specs.Words.{has_reference, has_invalidate, has_restrict, reference_place}
use Rattle.plat_events.specs.Places.{entry_count, is_name, is_word}
use Rattle.plat_events.specs.Sessions.{Course, Phase, Session, Granting, Unlocking, decision_of, entry_faulted, phase_after}
use Rattle.plat_events.specs.Sessions.{translation_made, with_phase}
use Rattle.plat_events.specs.Privates.{InSession, Private, actor_count, translation_at}
use Rattle.plat_events.specs.Events.{at, grant_own, entry_of, reach_now, reach_wanted}
use Rattle.plat_events.specs.Standings.{course_of, is_stamped, posts_of, unlocking_of}
use Rattle.plat_events.specs.Kept.{Running, session_on, session_of, has_left, word_at, private_of}
use Rattle.plat_events.specs.Views.{Own, Another, EntryOk, HeldOk, InvalidateStays, SessionView, PlaceView, PageView, session_view}
use Rattle.plat_events.specs.Views.{session_viewed, place_view, page_view, translation_of, same_translation, view_of, agrees, held_view}
use Rattle.plat_events.specs.Views.{view}
use Rattle.plat_events.specs.Runs.{Fine, event, ends_of}
use Rattle.plat_events.specs.Shown.{stamp_by, IsReachedAlone, Shows}
use Rattle.plat_local_laws.specs.Faults.{IsFaultNow}
use Rattle.plat_local_laws.specs.Phases.{PhaseOk, GrantingOk, SessionOk}
use Rattle.plat_local_laws.proofs.UseLaws.{entry_now-space}
use Rattle.plat_fine_laws.specs.Changes.{Changes}
use Rattle.plat_fine_laws.proofs.WordLaws.{word_at-new, word_at-other}
use Rattle.plat_fine_laws.proofs.PrivateLaws.{private_of-new, private_of-other}
use Rattle.plat_fine_laws.proofs.ViewFactLaws.{view_facts}
use Rattle.plat_fine_laws.proofs.SessionFootprints.{granting-changes}
use Rattle.plat_frame_laws.specs.Phased.{Continues, running}
use Rattle.plat_frame_laws.proofs.ContinueLaws.{continue_ok, continue_waits, continue_held}
use Rattle.plat_frame_laws.proofs.HandLaws.{alone}
use Rattle.plat_frame_laws.proofs.SessionHereLaws.{here, session, reached-session}
use Rattle.plat_session_laws.specs.OnePage.{ActorGoes, SessionGoes, ShowsEntry, ViewOk}
use Rattle.plat_session_laws.specs.LastPhases.{LastPhase}
use Rattle.plat_session_laws.proofs.PageLaws.{place-same}
use Rattle.plat_session_laws.proofs.SessionGoesLaws.{shows-there, comes_on, page_view-still}
use Rattle.plat_session_laws.proofs.SteadyLaws.{steady-goes, steady-session}
use Rattle.plat_session_laws.proofs.LastLaws.{last-granting, last-unlocking, last-continues, last-goes, stamped-by}
use Rattle.plat_session_laws.proofs.FreshLaws.{later-fresh}
use Rattle.plat_session_laws.proofs.GrantViewLaws.{same_translation-itself, granted-view, with_grant, with_none}
use Rattle.plat_laws.proofs.HistoryLaws.{good-items}
use Rattle.plat_fine_laws.proofs.ViewFieldLaws.{view_of-bits}

module _ (m : Machine) (answer : Answer) (s : Fine) (a : ℕ) (x : Session) (c : Course) (limits : IsWithinLimits m)
    (shows : Shows m answer s)
    (within : a < actor_count m) (stands : (private_of m s a).place ≡ InSession x) (is : x.phase ≡ Granting c) where
  abbrev p : Private
  p = private_of m s a

  abbrev page : ℕ
  page = x.fault.page

  abbrev entry : ℕ
  entry = entry_faulted m x.fault

  abbrev n : ℕ
  n = word_at m s (word.Cmap (entry_faulted m x.fault))

  abbrev number : ℕ
  number = bit_or (word_at m s (word.Cmap (entry_faulted m x.fault))) (2 ^ reference_place a)

  abbrev next : Phase
  next = phase_after m answer a (private_of m s a).now x (word_at m s (word.Cmap (entry_faulted m x.fault))) x.phase

  abbrev t : Fine
  t = event m answer s a

  abbrev made : Translation
  made = translation_made m answer a (private_of m s a).now x c (entry_faulted m x.fault)

  abbrev after : Private
  after =
      at (grant_own m answer a (private_of m s a) x c)
      (InSession (with_phase x (phase_after m answer a (private_of m s a).now x (word_at m s (word.Cmap (entry_faulted m x.fault)))
      x.phase)))

  ok : SessionOk m answer a p x
  ok = session m answer s a x limits shows within stands

  granting : GrantingOk m answer a p x c
  granting = subst (PhaseOk m answer a p x) is ok.phase

  node : a < m.nodes
  node = granting.processor

  fault : IsFaultNow m a p x.fault
  fault = ok.fault.access node

  inside : x.fault.page < m.pages
  inside = ok.fault.page

  reach : IsReach m p.guest (reach_now m a p).kind (reach_now m a p).space (reach_now m a p).addr (reach_now m a p).operand
      (entry_of m (reach_now m a p))
  reach =
      IsReach-wanted m a p.guest (reach_now m a p).kind (reach_now m a p).space (reach_now m a p).addr (reach_now m a p).operand fault.wants

  faulted : entry_faulted m x.fault ≡ entry_of m (reach_now m a p)
  faulted = ap (λ o. unwrap_or o (length m.entries)) fault.entry

  below : entry_faulted m x.fault < entry_count m
  below = subst (λ e. e < entry_count m) (sym faulted) reach.below

  of_page : page_of m (entry_faulted m x.fault) ≡ page
  of_page =
      ap (page_of m) faulted ∙ sym (fault.page ∙ (ap (λ (r : Reach). r.page) (ap (reach_wanted m) fault.wants) ∙ reach.page))

  on : session_on s.privates page ≡ Some (running a p.now x)
  on = shows.one_session a x within (ap session_of stands)

  from : LastPhase m a c x.phase
  from = subst (LastPhase m a c) (sym is) (last-granting m a c)

  leads : next ≡ Unlocking c
  leads = ap (phase_after m answer a p.now x n) is

  to : LastPhase m a c next
  to = subst (LastPhase m a c) (sym leads) (last-unlocking m a c)

  named : IsTrue (is_name m (word.Cmap entry))
  named = let inner = below in grind (arith, nat_tests)

  found : IsTrue (is_word m (word.Cmap entry) n)
  found = shows.words_encoded (word.Cmap entry) named

  dir-named : IsTrue (is_name m (word.Dir page))
  dir-named = let inner = inside in grind (arith, nat_tests)

  stamp-named : IsTrue (is_name m (word.Stamp page))
  stamp-named = let inner = inside in grind (arith, nat_tests)

  changes : Changes m s t a (word.Cmap entry) number after None
  changes = granting-changes m answer s a p x (here m answer s a x limits shows within stands) stands c is found

  reached : IsReachedAlone m answer a after
  reached =
      reached-session m answer s a x limits shows within stands (Granting c) (word.Cmap entry) (op.Or (2 ^ reference_place a)) n is refl
      found

  owes : SessionGoes m answer s t page (Some (running a p.now x)) (Some (running a p.now (with_phase x next)))
  owes =
      last-goes m answer a p.now x c next from to s t shows on inside
      (word_at-other m s t a (word.Cmap entry) number after None changes (word.Dir page) named dir-named (λ e. absurd cc))
      (word_at-other m s t a (word.Cmap entry) number after None changes (word.Stamp page) named stamp-named (λ e. absurd cc)
      ∙ (shows.stamp_is_history page inside
      ∙ (ap (stamp_by m answer s.history page) on
      ∙ (stamped-by m answer s.history page a p.now x c (ap is_stamped is) from.course
      ∙ sym (stamped-by m answer s.history page a p.now (with_phase x next) c (ap is_stamped leads) to.course)))))

  -- ---- the translations

  new : private_of m t a ≡ after
  new = private_of-new m s t a (word.Cmap entry) number after None changes (omega (arith, shows.all_privates))

  translation-other : (q e : ℕ) → (q ≢ a) ⊎ (e ≢ entry) → translation_of m t q e ≡ translation_of m s q e
  translation-other q e apart = by (cases_eq q a) apart
    where
      by : (q ≡ a) ⊎ (q ≢ a) → (q ≢ a) ⊎ (e ≢ entry) → translation_of m t q e ≡ translation_of m s q e
      by (inr other) h = ap (λ (y : Private). translation_at y e)
          (private_of-other m s t a (word.Cmap entry) number after None changes q other)
      by (inl same) (inl other) = absurd (other same)
      by (inl same) (inr other) = rw same (ap (λ (y : Private). translation_at y e) new
          ∙ get_or-set_other p.pmap entry e (Some made) None other)

  translation-own : translation_of m t a entry ≡ Some made
  translation-own =
      let count : entry_faulted m x.fault < length p.pmap =
      let all = (alone m answer s limits shows a within).standing.all_entries in let inner = below in omega (arith, all, inner) in
      ap (λ (y : Private). translation_at y entry) new ∙ get_or-set_same p.pmap entry (Some made) None count

  translated : (q e : ℕ) → page_of m e ≢ page → translation_of m t q e ≡ translation_of m s q e
  translated q e apart = translation-other q e (inr (λ same. apart (ap (page_of m) same ∙ of_page)))

  goes : ActorGoes m a p after None page
  goes =
      steady-goes m a p after None page (steady-session m p x stands) (steady-session m after (with_phase x next) refl) refl refl refl refl
      (λ i e. absurd cc) (λ enough e. absurd cc) (λ y e. is-on x y refl (sym (ap session_of stands) ∙ e))
      (λ y e. is-on (with_phase x next) y refl e)
    where
      is-on : (z y : Session) → z.fault.page ≡ page → Some z ≡ Some y → y.fault.page ≡ page
      is-on z y own e = ap (λ o. option_map_or (λ (w : Session). w.fault.page) o page) (sym e) ∙ own

  sole : (y : Running) → session_on s.privates page ≡ Some y → y.actor ≡ a
  sole y there = by y (sym on ∙ there)
    where
      by : (y : Running) → Some (running a p.now x) ≡ Some y → y.actor ≡ a
      by y e = ap (λ o. option_map_or (λ (z : Running). z.actor) o a) (sym e)

  marked : ((page_of m entry) == page) ≡ true
  marked = eq-eqb (page_of m entry) page of_page

  -- ---- the masks

  record SameBits (q e : ℕ) : Type 0 where
    reference : has_reference (word_at m t (word.Cmap e)) q ≡ has_reference (word_at m s (word.Cmap e)) q
    invalidate : has_invalidate (word_at m t (word.Cmap e)) q ≡ has_invalidate (word_at m s (word.Cmap e)) q
    restrict : has_restrict (word_at m t (word.Cmap e)) q ≡ has_restrict (word_at m s (word.Cmap e)) q

  new-mask : word_at m t (word.Cmap entry) ≡ number
  new-mask = word_at-new m s t a (word.Cmap entry) number after None changes shows.all_words named

  few : a < 8
  few = let inner = node in let most = nodes-most m limits in omega (arith, inner, most)

  bits-other : (q e : ℕ) → e < entry_count m → (q ≢ a) ⊎ (e ≢ entry) → SameBits q e
  bits-other q e low apart = by (cases_eq e entry) apart
    where
      by : (e ≡ entry) ⊎ (e ≢ entry) → (q ≢ a) ⊎ (e ≢ entry) → SameBits q e
      by (inr other) h =
          let same : word_at m t (word.Cmap e) ≡ word_at m s (word.Cmap e) =
          word_at-other m s t a (word.Cmap entry) number after None changes (word.Cmap e) named (grind (arith, nat_tests))
          (λ w. other (cmap-entry e entry w)) in
          record {
            reference = ap (λ k. has_reference k q) same;
            invalidate = ap (λ k. has_invalidate k q) same;
            restrict = ap (λ k. has_restrict k q) same;
          }
        where
          cmap-entry : (i k : ℕ) → word.Cmap i ≡ word.Cmap k → i ≡ k
          cmap-entry i k w = cc
      by (inl same) (inr other) = absurd (other same)
      by (inl same) (inl other) =
          rw same
          (record {
            reference =
                ap (λ k. has_reference k q) new-mask
                ∙ (has_reference-granted n a q ∙ (ap (λ b. has_reference n q || b) (ne_eqb q a other) ∙ or-false (has_reference n q)));
            invalidate = ap (λ k. has_invalidate k q) new-mask ∙ has_invalidate-granted n a q few;
            restrict = ap (λ k. has_restrict k q) new-mask ∙ has_restrict-granted n a q few;
          })

  -- ---- entries

  place-still : (q e : ℕ) → place_view m (private_of m t q) e ≡ place_view m (private_of m s q) e
  place-still = place-same m answer s t a (word.Cmap entry) number after None page limits shows within changes named marked goes sole

  now-there : session_on t.privates page ≡ Some (running a p.now (with_phase x next))
  now-there =
      comes_on m answer s t a (word.Cmap entry) number after page limits shows within changes named marked goes sole translated
      (Some (running a p.now x)) (Some (running a p.now (with_phase x next))) on refl owes

  page-still : (k : ℕ) (o : Option Translation) → page_view m t k o ≡ page_view m s k o
  page-still =
      page_view-still m answer s t a (word.Cmap entry) number after page limits shows within changes named marked goes sole translated
      (Some (running a p.now x)) (Some (running a p.now (with_phase x next))) on refl owes

  module _ (q e : ℕ) where
    abbrev o : Option Translation
    o = translation_of m s q e

    abbrev mask : ℕ
    mask = word_at m s (word.Cmap e)

    abbrev seen_by : Option Translation → Phase → SessionView
    seen_by y ph = session_viewed m answer q e y (running a (private_of m s a).now (with_phase x ph))

    abbrev pv : PlaceView
    pv = place_view m (private_of m s q) e

    abbrev gv : PageView
    gv = page_view m s (page_of m e) (translation_of m s q e)

    seen-before : page_of m e ≡ page → view m answer s q e ≡ view_of q o mask (seen_by o x.phase) pv gv
    seen-before there = ap (λ r. view_of q o mask (session_view m answer q e o r) pv gv) (ap (session_on s.privates) there ∙ on)

    ungranted-before : (y : Option Translation) → (seen_by y x.phase).granted ≡ false
    ungranted-before y =
        ap (λ (ph : Phase). a == q && option_map_or (λ (d : Course). option_map_or (λ k. k == e) x.fault.entry false) (unlocking_of ph)
        false) is
        ∙ and-false (a == q)

    -- the session has granted this entry to the processor only if they are the fault's
    granted-after : (y : Option Translation) → (seen_by y next).granted ≡ (a == q && entry == e)
    granted-after y =
        ap (λ (ph : Phase). a == q && option_map_or (λ (d : Course). option_map_or (λ k. k == e) x.fault.entry false) (unlocking_of ph)
        false) leads
        ∙ (ap (λ (f : Option ℕ). a == q && option_map_or (λ k. k == e) f false) fault.entry ∙ ap (λ k. a == q && k == e) (sym faulted))

    -- another processor, or another entry
    entry-other : e < entry_count m → page_of m e ≡ page → q < m.nodes → (q ≢ a) ⊎ (e ≢ entry) → ShowsEntry m answer t q e
    entry-other low there inner apart = record {
      reference = bits.reference ∙ (shows.reference_is_pmap q e inner low ∙ sym (ap is_some same));
      view_ok = rw seen-after
          (continue_ok q o mask (seen_by o x.phase) (seen_by o next) pv gv continues
          (subst EntryOk (seen-before there) (shows.views q e inner low)));
      invalidate_stays = rw seen-after
          (continue_waits q o mask (seen_by o x.phase) (seen_by o next) pv gv continues
          (subst InvalidateStays (seen-before there) (shows.invalidates_stay q e inner low)));
      held_ok = rw (seen-after, held-still)
          (continue_held q o mask (seen_by o x.phase) (seen_by o next) pv gv continues (held_view m s q e)
          (subst (λ v. HeldOk v (held_view m s q e)) (seen-before there) (shows.held_is_pmap q e inner low)));
    }
      where
        same : translation_of m t q e ≡ translation_of m s q e
        same = translation-other q e apart

        bits : SameBits q e
        bits = bits-other q e low apart

        none : (a == q && entry == e) ≡ false
        none = by apart
          where
            by : (q ≢ a) ⊎ (e ≢ entry) → (a == q && entry == e) ≡ false
            by (inl other) = ap (λ b. b && entry == e) (ne_eqb a q (λ h. other (sym h)))
            by (inr other) = ap (λ b. a == q && b) (ne_eqb entry e (λ h. other (sym h))) ∙ and-false (a == q)

        continues : Continues (seen_by o x.phase) (seen_by o next)
        continues = last-continues m answer a p.now x c next from to q e o (ungranted-before o) (granted-after o ∙ none)

        seen-after : view m answer t q e ≡ view_of q o mask (seen_by o next) pv gv
        seen-after =
            (λ i. view_of q (same i) (word_at m t (word.Cmap e)) (session_view m answer q e (same i) (now-on i)) (place-still q e i)
            (page-still (page_of m e) (same i) i))
            ∙ view_of-bits q o (word_at m t (word.Cmap e)) mask (seen_by o next) pv gv bits.invalidate bits.restrict
          where
            now-on : session_on t.privates (page_of m e) ≡ Some (running a p.now (with_phase x next))
            now-on = ap (session_on t.privates) there ∙ now-there

        held-still : held_view m t q e ≡ held_view m s q e
        held-still = λ i. record {
          held = is_some (held m (changes.history i) q e);
          held_writes = has_right Store (held m (changes.history i) q e);
          same = agrees (same i) (held m (changes.history i) q e);
        }

  -- the entry of the fault, for the processor itself
  entry-own : ShowsEntry m answer t a entry
  entry-own = record {
    reference =
        ap (λ k. has_reference k a) new-mask
        ∙ (has_reference-granted n a a
        ∙ (ap (λ b. has_reference n a || b) (eq-eqb a a refl) ∙ (or-true (has_reference n a) ∙ sym (ap is_some translation-own))));
    view_ok = rw seen-after granted.ok;
    invalidate_stays = rw seen-after granted.waits;
    held_ok = rw seen-after granted.held;
  }
    where
      own-whose : (seen_by a entry (o a entry) x.phase).whose ≡ Own
      own-whose = ap (λ b. if b then Own else Another) (eq-eqb a a refl)

      active : (pv a entry).active ≡ true
      active =
          let space : (space_of m entry == p.guest.space) ≡ true =
          eq-eqb (space_of m entry) p.guest.space (ap (space_of m) faulted ∙ entry_now-space m a p fault.wants) in
          rw (space, ap has_left stands) refl

      granted-now : (seen_by a entry (Some made) next).granted ≡ true
      granted-now = granted-after a entry (Some made) ∙ rw (eq-eqb a a refl, eq-eqb entry entry refl) refl

      mine-now : (seen_by a entry (Some made) next).mine ≡ true
      mine-now =
          ap (λ b. b && option_map_or (λ d. same_translation made (translation_made m answer a p.now x d entry)) (unlocking_of next) false)
          granted-now
          ∙ (ap (λ (ph : Phase). option_map_or (λ d. same_translation made (translation_made m answer a p.now x d entry)) (unlocking_of ph)
          false) leads
          ∙ same_translation-itself made)

      grants : seen_by a entry (Some made) next ≡ with_grant (seen_by a entry (o a entry) x.phase) (seen_by a entry (Some made) next).given
      grants = λ i. record {
        whose = (seen_by a entry (o a entry) x.phase).whose;
        removes = same_removes i;
        posted = same_posted i;
        owed = same_owed i;
        quiet = (to.quiet ∙ sym from.quiet) i;
        granted = granted-now i;
        given = (seen_by a entry (Some made) next).given;
        mine = mine-now i;
      }
        where
          same_course : course_of next ≡ course_of x.phase
          same_course = to.course ∙ sym from.course

          same_removes : (seen_by a entry (Some made) next).removes ≡ (seen_by a entry (o a entry) x.phase).removes
          same_removes = λ i. option_map_or (λ d. (decision_of m answer a p.now x d).removed) (same_course i) Nothing

          same_posted : (seen_by a entry (Some made) next).posted ≡ (seen_by a entry (o a entry) x.phase).posted
          same_posted = λ i.
              removes_some (option_map_or (λ d. (decision_of m answer a p.now x d).removed) (same_course i) Nothing)
              && list_any (λ y. y == entry)
              (take (length (option_map_or (λ (d : Course). d.posts) (same_course i) [])) (entries_of_page m x.fault.page))

          same_owed : (seen_by a entry (Some made) next).owed ≡ (seen_by a entry (o a entry) x.phase).owed
          same_owed =
              ap (list_any (λ (y : Target). y.entry == entry && y.processor == a))
              (to.left (targets m a x.fault.page (posts_of (with_phase x next))))
              ∙ sym (ap (list_any (λ (y : Target). y.entry == entry && y.processor == a))
              (from.left (targets m a x.fault.page (posts_of x))))

      fresh : (test : Removed → Bool) → later test s.history (page_of m entry) c.stamp.seq ≡ false
      fresh test =
          let read = shows.stamp_read_is page (running a p.now x) c.stamp on from.stamp in
          let seq : c.stamp.seq ≡ seq_of s.history (page_of m entry) = read.1 ∙ ap (seq_of s.history) (sym of_page) in
          later-fresh m answer s.history (good-items m answer s.history (ends_of m s.privates) shows.history_good) test (page_of m entry)
          c.stamp.seq (omega (arith, seq))

      unremoved : page_view m s (page_of m entry) (Some made) ≡ with_none (gv a entry)
      unremoved = λ i. record {
        dir = dir_of s.history (page_of m entry);
        all_after = fresh removes_all i;
        writes_after = fresh removes_writes i;
      }

      seen-after :
          view m answer t a entry
          ≡ view_of a (Some made) (mask a entry) (seen_by a entry (Some made) next) (pv a entry)
          (page_view m s (page_of m entry) (Some made))
      seen-after =
          (λ i. view_of a (translation-own i) (new-mask i) (session_view m answer a entry (translation-own i) (now-on i))
          (place-still a entry i)
          (page-still (page_of m entry) (translation-own i) i))
          ∙ view_of-bits a (Some made) number (mask a entry) (seen_by a entry (Some made) next) (pv a entry)
          (page_view m s (page_of m entry) (Some made))
          (has_invalidate-granted n a a few) (has_restrict-granted n a a few)
        where
          now-on : session_on t.privates (page_of m entry) ≡ Some (running a p.now (with_phase x next))
          now-on = ap (session_on t.privates) of_page ∙ now-there

      granted :
          ViewOk
          (view_of a (Some made) (mask a entry) (seen_by a entry (Some made) next) (pv a entry)
          (page_view m s (page_of m entry) (Some made)))
          (held_view m t a entry)
      granted =
          granted-view a (o a entry) made (mask a entry) (seen_by a entry (o a entry) x.phase) (seen_by a entry (Some made) next)
          (pv a entry)
          (gv a entry) (page_view m s (page_of m entry) (Some made)) (held_view m s a entry) (held_view m t a entry) refl
          (subst ViewFacts (seen-before a entry of_page)
          (view_facts m answer s limits shows (alone m answer s limits shows) a entry node below))
          (subst (λ v. ViewOk v (held_view m s a entry)) (seen-before a entry of_page)
          (record {
            ok = shows.views a entry node below;
            waits = shows.invalidates_stay a entry node below;
            held = shows.held_is_pmap a entry node below;
          }))
          own-whose active grants unremoved

  entries : (q e : ℕ) → q < m.nodes → e < entry_count m → page_of m e ≡ page → ShowsEntry m answer t q e
  entries q e inner low there = by (cases_eq q a) (cases_eq e entry)
    where
      by : (q ≡ a) ⊎ (q ≢ a) → (e ≡ entry) ⊎ (e ≢ entry) → ShowsEntry m answer t q e
      by (inl same) (inl is) = rw (same, is) entry-own
      by (inl same) (inr other) = entry-other q e low there inner (inr other)
      by (inr other) h = entry-other q e low there inner (inl other)

  pub keeps_grant : Shows m answer (event m answer s a)
  keeps_grant =
      shows-there m answer s t a (word.Cmap entry) number after page limits shows within changes named marked goes sole translated
      (Some (running a p.now x)) (Some (running a p.now (with_phase x next))) on refl owes inside entries
      (is_mask-of m number (granted-mask m n a node (nodes-most m limits) (mask_of m n found))) reached
