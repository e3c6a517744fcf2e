-- in every state with the invariant: copies that translations lead to are current, frames are apart, and shootdowns remove
use Rattle.std.specs.Prelude.{◌≡◌, ◌≢◌, ℕ, ◌<◌, ◌==◌, ◌&&◌, ◌||◌, not, if◌then◌else◌, Bool, true, false, List, Option, Some, None, is_some}
use Rattle.std.proofs.Common.{refl, ap, sym, ◌∙◌, ◌⊎◌, inl, inr, arith, subst}
use Rattle.std.proofs.lemmas.Bool.{and_parts, cases_eq, eqb-true, eq-eqb, or_from}
use Rattle.plat_base.specs.Verdicts.{Answer}
use Rattle.plat_base.specs.Machine.{Machine}
use Rattle.plat_base.specs.Pages.{page_of}
use Rattle.plat_base.specs.Directories.{dir_of}
use Rattle.plat_base.specs.Held.{serves, has_right}
use Rattle.plat_base.specs.declared.frames.Frame.{Frame}
use Rattle.plat_base.specs.declared.items.Kind.TheVariants.{Store}
use Rattle.plat_base.specs.declared.items.Removed.{Removed}
use Rattle.plat_base.specs.declared.items.Removed.TheVariants as removed
use Rattle.plat_base.specs.declared.items.Right.{Right}
use Rattle.plat_base.specs.declared.items.Right.TheVariants as right
use Rattle.plat_base.specs.declared.items.Translation.{Translation}
use Rattle.plat_base.specs.declared.words.WordName.TheVariants.{Cmap}
use Rattle.plat_laws.specs.Guests.{IsWithinLimits}
use Rattle.plat_laws.proofs.Limits.{page_of-below}
use Rattle.plat_events.specs.Words.{has_invalidate, has_restrict, has_message}
use Rattle.plat_events.specs.Places.{entry_count}
use Rattle.plat_events.specs.Sessions.{Session}
use Rattle.plat_events.specs.Standings.{removes_by, has_granted}
use Rattle.plat_events.specs.Kept.{Running, session_on, session_of, gave_back, is_copy_of, is_kept, is_active, is_usable, word_at}
use Rattle.plat_events.specs.Kept.{private_of}
use Rattle.plat_events.specs.Views.{Own, Another, View, EntryOk, session_view, translation_of, view}
use Rattle.plat_events.specs.Runs.{Fine, fine_start, run, AllLive}
use Rattle.plat_events.specs.Shown.{is_free, uses_of, Shows}
use Rattle.plat_views.specs.Facts.{ViewFacts}
use Rattle.plat_views.proofs.UseLaws.{own_clear, passed_all, passed_writes}
use Rattle.plat_fine_laws.proofs.AccessLaws.{view-kept}
use Rattle.plat_fine_laws.proofs.SessionLaws.{runs_on-actor}
use Rattle.plat_fine_laws.proofs.ViewFactLaws.{view_facts}
use Rattle.plat_frame_laws.specs.Phased.{running}
use Rattle.plat_frame_laws.proofs.FrameUseLaws.{page_uses, kept-uses, used-not_free, used-apart}
use Rattle.plat_frame_laws.proofs.HandLaws.{alone, kept-frame}
use Rattle.plat_event_laws.proofs.RunLaws.{run-shows}
use Rattle.plat_copy_laws.specs.Coherence.{left_of, MayReach, LeadsToCurrent, ReachesCurrent, AreApart, IsPassed, ShootdownsRemove}
use Rattle.plat_copy_laws.specs.Coherence.{OwesNothing}
use Rattle.plat_copy_laws.proofs.ReachLaws.{effective-stays, reached_kept}
use Rattle.plat_copy_laws.proofs.GrantedLaws.{granted-current}
use Rattle.plat_copy_laws.proofs.PassedLaws.{counted-passed, quiet-passed}

-- ---- small readings

none-from : {A : Type 0} (o : Option A) → is_some o ≡ false → o ≡ None
none-from None h = refl
none-from (Some x) h = absurd cc

read-right : (r : Right) → serves Store r ≡ false → r ≡ right.Read
read-right right.Read h = refl
read-right right.Write h = absurd cc

both-false : (b c : Bool) → (b ≡ true → c ≡ false) → (b && c) ≡ false
both-false true c h = h refl
both-false false c h = refl

module _ (m : Machine) (answer : Answer) (s : Fine) (limits : IsWithinLimits m) (shows : Shows m answer s) where
  -- ---- a processor and an entry

  module _ (q e : ℕ) (inside : q < m.nodes) (below : e < entry_count m) where
    abbrev v : View
    v = view m answer s q e

    facts : ViewFacts (view m answer s q e)
    facts = view_facts m answer s limits shows (alone m answer s limits shows) q e inside below

    ok : EntryOk (view m answer s q e)
    ok = shows.views q e inside below

    reaches :
        (t : Translation) → MayReach m s q e t →
        ((view m answer s q e).invalidate ≡ false) ⊎ ((view m answer s q e).usable ≡ true)
    reaches t may = by may.reaches
      where
        by : (is_some (left_of m s q e) ≡ true) ⊎ (is_usable m (private_of m s q) e ≡ true) →
            ((view m answer s q e).invalidate ≡ false) ⊎ ((view m answer s q e).usable ≡ true)
        by (inl stays) =
            inl
            (effective-stays (has_invalidate (word_at m s (Cmap e)) q) (has_restrict (word_at m s (Cmap e)) q) (translation_of m s q e)
            stays)
        by (inr usable) = inr usable

    -- the session of the processor itself that has granted the entry
    own-granted :
        (o : Option Running) → session_on s.privates (page_of m e) ≡ o →
        (session_view m answer q e (translation_of m s q e) o).granted ≡ true →
        (x : Session) × (session_of (private_of m s q).place ≡ Some x) × (x.fault.page ≡ page_of m e) × (has_granted x e ≡ true)
    own-granted None on h = absurd cc
    own-granted (Some r) on h =
        let parts = and_parts (r.actor == q) (has_granted r.session e) h in
        let runs = runs_on-actor m answer s (page_of m e) r shows on in (
          r.session,
          subst (λ a. session_of (private_of m s a).place ≡ Some r.session) (eqb-true r.actor q parts.0) runs.session,
          runs.on,
          parts.1,
        )

    pub reach-current : (t : Translation) → MayReach m s q e t → LeadsToCurrent m answer s q e t.grant.frame
    reach-current t may = by (view m answer s q e).granted refl
      where
        page : page_of m e < m.pages
        page = page_of-below m e limits below

        by : (b : Bool) → (view m answer s q e).granted ≡ b → LeadsToCurrent m answer s q e t.grant.frame
        by true is =
            let own = own-granted (session_on s.privates (page_of m e)) refl is in
            granted-current m answer s q e own.0 limits shows inside own.1 own.2 own.3 t may.has page
        by false is =
            let kept : is_kept m answer s (page_of m e) t.grant.frame ≡ true =
            sym (view-kept m answer s q e t may.has)
            ∙ reached_kept (view m answer s q e) facts ok (ap is_some may.has) (reaches t may) is in
            record { leads = inl kept; words = λ w word. shows.kept_flat (page_of m e) w t.grant.frame page word kept }

    -- ---- shootdowns

    module _ (r : Running) (passed : IsPassed m answer s q e r) where
      seen-posted : (view m answer s q e).posted ≡ true
      seen-posted = ap (λ o. (session_view m answer q e (translation_of m s q e) o).posted) passed.on ∙ passed.posted

      seen-owed : (view m answer s q e).owed ≡ false
      seen-owed = ap (λ o. (session_view m answer q e (translation_of m s q e) o).owed) passed.on ∙ passed.passed

      seen-granted : (view m answer s q e).granted ≡ false
      seen-granted =
          ap (λ o. (session_view m answer q e (translation_of m s q e) o).granted) passed.on
          ∙ both-false (r.actor == q) (has_granted r.session e) (λ own. passed.ungranted (eqb-true r.actor q own))

      seen-removes : (what : Removed) → removes_by m answer r.actor r.now r.session ≡ what → (view m answer s q e).removes ≡ what
      seen-removes what is = ap (λ o. (session_view m answer q e (translation_of m s q e) o).removes) passed.on ∙ is

      pub passed-none :
          removes_by m answer r.actor r.now r.session ≡ removed.All → is_usable m (private_of m s q) e ≡ true →
          translation_of m s q e ≡ None
      passed-none all usable =
          none-from (translation_of m s q e)
          (passed_all (view m answer s q e) facts ok seen-posted seen-owed usable seen-granted (seen-removes removed.All all))

      pub passed-read :
          (t : Translation) → removes_by m answer r.actor r.now r.session ≡ removed.Writes → is_usable m (private_of m s q) e ≡ true →
          translation_of m s q e ≡ Some t → t.grant.right ≡ right.Read
      passed-read t writes usable has =
          read-right t.grant.right
          (sym (ap (has_right Store) has)
          ∙ passed_writes (view m answer s q e) facts ok seen-posted seen-owed usable seen-granted (seen-removes removed.Writes writes)
          (ap is_some has))

    -- ---- the initiator

    pub session-clear :
        (x : Session) → session_of (private_of m s q).place ≡ Some x → x.fault.page ≡ page_of m e →
        is_active m (private_of m s q) e ≡ true → has_message (word_at m s (Cmap e)) q ≡ false
    session-clear x is of_page active =
        let on : session_on s.privates (page_of m e) ≡ Some (running q (private_of m s q).now x) =
        ap (session_on s.privates) (sym of_page) ∙ shows.one_session q x (omega (arith, inside)) is in
        let own : (view m answer s q e).whose ≡ Own =
        ap (λ o. (session_view m answer q e (translation_of m s q e) o).whose) on
        ∙ ap (λ b. if b then Own else Another) (eq-eqb q q refl) in
        let clear = own_clear (view m answer s q e) facts ok own active in
        or_from (has_invalidate (word_at m s (Cmap e)) q) (has_restrict (word_at m s (Cmap e)) q) clear.0 clear.1

  -- ---- frames

  module _ (p : ℕ) (f : Frame) (within : p < m.pages) (kept : is_kept m answer s p f ≡ true) where
    once : uses_of m answer s f ≡ 1
    once =
        shows.frames_once f
        (kept-frame m answer s p f shows within
        (and_parts (is_copy_of (dir_of s.history p).copies f) (not (gave_back m answer (session_on s.privates p) f)) kept).0)

    pub kept-not_free : is_free m s f ≡ false
    kept-not_free = used-not_free m answer s f once p within (kept-uses m answer s f p kept)

    pub kept-one_page : (r : ℕ) → r < m.pages → is_kept m answer s r f ≡ true → p ≡ r
    kept-one_page r inside also = by (cases_eq r p)
      where
        by : (r ≡ p) ⊎ (r ≢ p) → p ≡ r
        by (inl same) = sym same
        by (inr apart) =
            let none : page_uses m answer s f r ≡ 0 =
            used-apart m answer s f once p within (kept-uses m answer s f p kept) r inside apart in
            let some : 0 < page_uses m answer s f r = kept-uses m answer s f r also in
            absurd (omega (arith, none, some))

-- ---- every run of live actors

module _ (m : Machine) (answer : Answer) (limits : IsWithinLimits m) (who : List ℕ) (live : AllLive m answer (fine_start m) who) where
  abbrev s : Fine
  s = run m answer who

  shows : Shows m answer (run m answer who)
  shows = run-shows m answer limits who live

  pub run-current : ReachesCurrent m answer (run m answer who)
  run-current = λ q e t inside below may. reach-current m answer s limits shows q e inside below t may

  pub run-apart : AreApart m answer (run m answer who)
  run-apart = record {
    one_page = λ p r f within inside kept also. kept-one_page m answer s limits shows p f within kept r inside also;
    not_free = λ p f within kept. kept-not_free m answer s limits shows p f within kept;
    current = λ p f within kept. λ w word. shows.kept_flat p w f within word kept;
  }

  pub run-passed : ShootdownsRemove m answer (run m answer who)
  run-passed = record {
    counted = λ q e r counts. counted-passed m answer s limits shows q e r counts;
    quiet = λ q e r inside below on quiet some ungranted. quiet-passed m answer s limits shows q e r inside below on quiet some ungranted;
    all = λ q e r inside below passed all usable. passed-none m answer s limits shows q e inside below r passed all usable;
    writes = λ q e r t inside below passed writes usable has.
        passed-read m answer s limits shows q e inside below r passed t writes usable has;
  }

  pub run-clear : OwesNothing m (run m answer who)
  run-clear = λ q e x inside below is of_page active. session-clear m answer s limits shows q e inside below x is of_page active
