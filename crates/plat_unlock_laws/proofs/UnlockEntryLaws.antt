-- the unlock with a change as each processor and each entry of its page sees it
use Rattle.std.specs.Prelude.{◌≡◌, ◌≢◌, ◌⊎◌, ℕ, ◌<◌, ◌==◌, ◌&&◌, ◌||◌, nat_lt, if◌then◌else◌, Bool, true, false, [], ◌∷◌, ◌++◌, length}
use Rattle.std.specs.Prelude.{Option, Some, None, is_some, slice_index_or, unwrap_or}
use Rattle.std.proofs.Common.{refl, ap, sym, ◌∙◌, inl, inr, arith, subst}
use Rattle.std.specs.Option.{option_map, option_map_or}
use Rattle.std.proofs.lemmas.Bool.{cases_eq, and_parts, eqb-true, eq-eqb, ne_eqb, true≢false}
use Rattle.std.proofs.lemmas.Bool.Decides.{nat_tests}
use Rattle.std.proofs.Math.Bool.{and-true, and-false}
use Rattle.plat_base.specs.Verdicts.{Answer}
use Rattle.plat_base.specs.Machine.{Machine}
use Rattle.plat_base.specs.Accesses.{right_of}
use Rattle.plat_base.specs.Alike.{same_bool}
use Rattle.plat_base.specs.Copies.{same_frame}
use Rattle.plat_base.specs.Directories.{dir_of}
use Rattle.plat_base.specs.Held.{held, has_right, serves, kept_of, granted_to, lowered, later, removes_all, removes_writes}
use Rattle.plat_base.specs.Pages.{page_of}
use Rattle.plat_base.specs.Turns.{grant_of}
use Rattle.plat_base.proofs.CopiesLemmas.{same_frame-itself}
use Rattle.plat_base.specs.declared.frames.Dir.{Dir}
use Rattle.plat_base.specs.declared.frames.State.TheVariants.{PresentPlus, Modified}
use Rattle.plat_base.specs.declared.items.Cause.{Cause}
use Rattle.plat_base.specs.declared.items.Cause.TheVariants as cause
use Rattle.plat_base.specs.declared.items.Change.{Change}
use Rattle.plat_base.specs.declared.items.Item.TheVariants as item
use Rattle.plat_base.specs.declared.items.Kind.TheVariants.{Store}
use Rattle.plat_base.specs.declared.items.Removed.{Removed}
use Rattle.plat_base.specs.declared.items.Removed.TheVariants.{Nothing, Writes, All}
use Rattle.plat_base.specs.declared.items.Translation.{Translation}
use Rattle.plat_base.specs.declared.policies.Decision.{Decision}
use Rattle.plat_base.specs.declared.words.WordName.TheVariants as word
use Rattle.plat_laws.specs.Guests.{IsWithinLimits}
use Rattle.plat_laws.proofs.ItemLaws.{held-change_own, held-change_other, or-false}
use Rattle.plat_laws.proofs.TableLaws.{dir_parts, DecideFacts, same_bool-itself, all_three}
use Rattle.plat_events.specs.Words.{dir_word, has_reference}
use Rattle.plat_events.specs.Places.{entry_count}
use Rattle.plat_events.specs.Sessions.{Course, Phase, Session, Unlocking, change_made, decision_of, entry_faulted, translation_made}
use Rattle.plat_events.specs.Privates.{InSession, Private, actor_count, translation_at}
use Rattle.plat_events.specs.Events.{with_item}
use Rattle.plat_events.specs.Standings.{unlocking_of}
use Rattle.plat_events.specs.Kept.{session_on, word_at, private_of}
use Rattle.plat_events.specs.Views.{Own, Another, EntryOk, HeldOk, InvalidateStays, View, HeldView, SessionView, PlaceView, PageView}
use Rattle.plat_events.specs.Views.{no_session, names_copy, session_view, session_viewed, place_view, page_view, translation_of, view_of}
use Rattle.plat_events.specs.Views.{agrees, held_view, view}
use Rattle.plat_events.specs.Runs.{Fine, event}
use Rattle.plat_events.specs.Shown.{Shows}
use Rattle.plat_views.specs.Facts.{ViewFacts}
use Rattle.plat_views.specs.Steps.{unlock_granted, unlock_nothing}
use Rattle.plat_views.proofs.StepLaws.{unlock_granted_ok, unlock_nothing_ok}
use Rattle.plat_views.proofs.WaitLaws.{unlock_granted_waits, unlock_nothing_waits}
use Rattle.plat_views.proofs.HeldLaws.{unlock_granted_held, unlock_nothing_held}
use Rattle.plat_local_laws.specs.Phases.{SessionOk}
use Rattle.plat_local_laws.proofs.CourseLaws.{IsActor, fault_decides, thaw_decides}
use Rattle.plat_local_laws.proofs.StandingLaws.{actor-is}
use Rattle.plat_fine_laws.proofs.WordLaws.{word_at-other}
use Rattle.plat_fine_laws.proofs.PrivateLaws.{private_of-new, private_of-other}
use Rattle.plat_fine_laws.proofs.TableFacts.{is_copy_of-on, copy_on-is}
use Rattle.plat_fine_laws.proofs.ViewFactLaws.{view_facts}
use Rattle.plat_frame_laws.specs.Phased.{running}
use Rattle.plat_frame_laws.proofs.HandLaws.{alone}
use Rattle.plat_frame_laws.proofs.SessionHereLaws.{session}
use Rattle.plat_session_laws.specs.OnePage.{ShowsEntry, ViewOk}
use Rattle.plat_session_laws.proofs.PageLaws.{place-same}
use Rattle.plat_session_laws.proofs.ChangeFieldLaws.{own-later}
use Rattle.plat_session_laws.proofs.UnlockFieldLaws.{unlock-after, unlock-changes, unlock-last, unlock-named, unlock-ok, unlock-on}
use Rattle.plat_session_laws.proofs.UnlockLeavesLaws.{unlock-goes, unlocks}
use Rattle.plat_unlock_laws.proofs.UnlockStepLaws.{left_writes, left_writes_ok, left_writes_waits, left_writes_held_other}
use Rattle.plat_unlock_laws.proofs.UnlockStepLaws.{left_writes_held_own, left_all, left_all_ok, left_all_waits, left_all_held_other}
use Rattle.plat_unlock_laws.proofs.UnlockStepLaws.{left_all_held_own}
use Rattle.plat_unlock_laws.proofs.UnlockPageLaws.{unlock-history, unlock-dir_after, unlock-sole, unlock-gone}

-- ---- the views of an entry without a session

-- what the page says behind the change, of the same translation
abbrev pub page_now : Dir → (all_after writes_after : Bool) → PageView
page_now dir b w = record { dir = dir; all_after = b; writes_after = w }

module _ (q : ℕ) (o : Option Translation) (mask : ℕ) (sv : SessionView) (pv : PlaceView) (gv : PageView) (dir : Dir) (b w : Bool) where
  abbrev before : View
  before = view_of q o mask sv pv gv

  abbrev after : View
  after = view_of q o mask no_session pv (page_now dir b w)

  pub seen-all : after ≡ left_all dir.state (names_copy dir o) b w before
  seen-all = λ i. record (left_all dir.state (names_copy dir o) b w before) { kept = and-true (names_copy dir o) i }

  pub seen-writes : dir.state ≡ PresentPlus → b ≡ gv.all_after → after ≡ left_writes (names_copy dir o) w before
  seen-writes plus same =
      λ i. record (left_writes (names_copy dir o) w before) { kept = and-true (names_copy dir o) i; state = plus i; all_after = same i }

  pub seen-nothing : b ≡ gv.all_after → w ≡ gv.writes_after → after ≡ unlock_nothing dir.state (names_copy dir o) before
  seen-nothing same writes =
      λ i. record (unlock_nothing dir.state (names_copy dir o) before) {
        kept = and-true (names_copy dir o) i;
        all_after = same i;
        writes_after = writes i;
      }

  pub seen-granted : names_copy dir o ≡ true → b ≡ gv.all_after → w ≡ gv.writes_after → after ≡ unlock_granted dir.state before
  seen-granted copy same writes =
      λ i. record (unlock_granted dir.state before) {
        copy = copy i;
        kept = (and-true (names_copy dir o) ∙ copy) i;
        all_after = same i;
        writes_after = writes i;
      }

-- ---- what the processor holds

agrees-lowered : (o u : Option Translation) → agrees o (lowered u) ≡ agrees o u
agrees-lowered None u = refl
agrees-lowered (Some x) None = refl
agrees-lowered (Some x) (Some y) = refl

some-lowered : (u : Option Translation) → is_some (lowered u) ≡ is_some u
some-lowered None = refl
some-lowered (Some y) = refl

right-lowered : (u : Option Translation) → has_right Store (lowered u) ≡ false
right-lowered None = refl
right-lowered (Some y) = refl

agrees-none : (o : Option Translation) → agrees o None ≡ false
agrees-none None = refl
agrees-none (Some x) = refl

abbrev pub held_as : Option Translation → Option Translation → HeldView
held_as o h = record { held = is_some h; held_writes = has_right Store h; same = agrees o h }

pub held-lowered :
    (o u : Option Translation) → held_as o (lowered u) ≡ record { held = is_some u; held_writes = false; same = agrees o u }
held-lowered o u = λ i. record { held = some-lowered u i; held_writes = right-lowered u i; same = agrees-lowered o u i }

pub held-dropped : (o : Option Translation) → held_as o None ≡ record { held = false; held_writes = false; same = false }
held-dropped o = λ i. record { held = false; held_writes = false; same = agrees-none o i }

pub held-granted :
    (x : Translation) → held_as (Some x) (Some x) ≡ record { held = true; held_writes = has_right Store (Some x); same = true }
held-granted x = λ i. record {
  held = true;
  held_writes = has_right Store (Some x);
  same =
      all_three (same_frame x.grant.frame x.grant.frame) (x.seq == x.seq) (same_bool x.restricted x.restricted)
      (same_frame-itself x.grant.frame) (eq-eqb x.seq x.seq refl) (same_bool-itself x.restricted) i;
}

-- ---- the entries of the page

module _ (m : Machine) (answer : Answer) (s : Fine) (a : ℕ) (x : Session) (c : Course) (limits : IsWithinLimits m) (shows : Shows m
    answer s)
    (within : a < actor_count m) (stands : (private_of m s a).place ≡ InSession x) (is : x.phase ≡ Unlocking c) where
  abbrev p : Private
  p = private_of m s a

  abbrev page : ℕ
  page = x.fault.page

  abbrev made : Change
  made = change_made m answer a (private_of m s a).now x c

  abbrev d : Decision
  d = decision_of m answer a (private_of m s a).now x c

  abbrev t : Fine
  t = event m answer s a

  ok : SessionOk m answer a p x
  ok = session m answer s a x limits shows within stands

  on : session_on s.privates page ≡ Some (running a p.now x)
  on = unlock-on m answer s a x c limits shows within stands is

  history : t.history ≡ s.history ++ item.Change made ∷ []
  history = unlock-history m answer s a x c limits shows within stands is

  dir : x.dir ≡ dir_of s.history page
  dir = shows.dir_read_is page (running a p.now x) on

  translation-same : (q e : ℕ) → translation_of m t q e ≡ translation_of m s q e
  translation-same q e = by (cases_eq q a)
    where
      by : (q ≡ a) ⊎ (q ≢ a) → translation_of m t q e ≡ translation_of m s q e
      by (inl same) =
          rw same
          (ap (λ (y : Private). translation_at y e)
          (private_of-new m s t a _ _ _ _ (unlock-changes m answer s a x c limits shows within stands is) (omega (
            arith,
            shows.all_privates,
          )))
          ∙ ap (λ l. slice_index_or l e None) (unlocks m answer a p x c (with_item p.journal (Some (item.Change made)))).pmap)
      by (inr other) =
          ap (λ (y : Private). translation_at y e)
          (private_of-other m s t a _ _ _ _ (unlock-changes m answer s a x c limits shows within stands is) q other)

  mask-same : (e : ℕ) → e < entry_count m → word_at m t (word.Cmap e) ≡ word_at m s (word.Cmap e)
  mask-same e below =
      word_at-other m s t a (word.Dir page) (dir_word d.after false) (unlock-after m answer s a x c limits shows within stands is)
      (Some (item.Change made)) (unlock-changes m answer s a x c limits shows within stands is) (word.Cmap e)
      (unlock-named m answer s a x c limits shows within stands is) (grind (arith, nat_tests)) (λ w. absurd cc)

  place-still : (q e : ℕ) → place_view m (private_of m t q) e ≡ place_view m (private_of m s q) e
  place-still =
      place-same m answer s t a (word.Dir page) (dir_word d.after false) (unlock-after m answer s a x c limits shows within stands is)
      (Some (item.Change made)) page limits shows within (unlock-changes m answer s a x c limits shows within stands is)
      (unlock-named m answer s a x c limits shows within stands is) (eq-eqb page page refl) (unlock-goes m answer a p x c stands)
      (unlock-sole m answer s a x c limits shows within stands is)

  module _ (q e : ℕ) (inner : q < m.nodes) (below : e < entry_count m) (there : page_of m e ≡ page) where
    abbrev o : Option Translation
    o = translation_of m s q e

    abbrev mask : ℕ
    mask = word_at m s (word.Cmap e)

    abbrev sv : SessionView
    sv = session_viewed m answer q e (translation_of m s q e) (running a (private_of m s a).now x)

    abbrev pv : PlaceView
    pv = place_view m (private_of m s q) e

    abbrev gv : PageView
    gv = page_view m s (page_of m e) (translation_of m s q e)

    abbrev was : View
    was = view_of q o mask sv pv gv

    abbrev gone : (Removed → Bool) → Bool
    gone test = option_map_or (λ (y : Translation). later test t.history (page_of m e) y.seq) o false

    abbrev now : View
    now = view_of q o mask no_session pv (page_now d.after (gone removes_all) (gone removes_writes))

    seen-before : view m answer s q e ≡ was
    seen-before = ap (λ r. view_of q o mask (session_view m answer q e o r) pv gv) (ap (session_on s.privates) there ∙ on)

    seen-after : view m answer t q e ≡ now
    seen-after =
        λ i. view_of q (translation-same q e i) (mask-same e below i) (session_view m answer q e (translation-same q e i) (no_session_on i))
        (place-still q e i)
        (record {
          dir = dir_now i;
          all_after = option_map_or (λ (y : Translation). later removes_all t.history (page_of m e) y.seq) (translation-same q e i) false;
          writes_after = option_map_or (λ (y : Translation). later removes_writes t.history (page_of m e) y.seq) (translation-same q e i)
              false;
        })
      where
        no_session_on : session_on t.privates (page_of m e) ≡ None
        no_session_on = ap (session_on t.privates) there ∙ unlock-gone m answer s a x c limits shows within stands is

        dir_now : dir_of t.history (page_of m e) ≡ d.after
        dir_now = ap (dir_of t.history) there ∙ unlock-dir_after m answer s a x c limits shows within stands is

    held-view : held_view m t q e ≡ held_as o (held m t.history q e)
    held-view = λ i. held_as (translation-same q e i) (held m t.history q e)

    -- what is owed of the entry is owed of these views
    shown : ViewOk now (held_as o (held m t.history q e)) → ShowsEntry m answer t q e
    shown v = record {
      reference =
          ap (λ k. has_reference k q) (mask-same e below)
          ∙ (shows.reference_is_pmap q e inner below ∙ sym (ap is_some (translation-same q e)));
      view_ok = rw seen-after v.ok;
      invalidate_stays = rw seen-after v.waits;
      held_ok = rw (seen-after, held-view) v.held;
    }

    facts : ViewFacts was
    facts = subst ViewFacts seen-before (view_facts m answer s limits shows (alone m answer s limits shows) q e inner below)

    entry_ok : EntryOk was
    entry_ok = subst EntryOk seen-before (shows.views q e inner below)

    waits : InvalidateStays was
    waits = subst InvalidateStays seen-before (shows.invalidates_stay q e inner below)

    holds : HeldOk was (held_as o (held m s.history q e))
    holds = subst (λ v. HeldOk v (held_view m s q e)) seen-before (shows.held_is_pmap q e inner below)

    quiet : was.quiet ≡ true
    quiet = (unlock-last m answer s a x c limits shows within stands is).quiet

    removes : (r : Removed) → d.removed ≡ r → was.removes ≡ r
    removes r e =
        ap (λ k. option_map_or (λ (y : Course). (decision_of m answer a p.now x y).removed) k Nothing)
        (unlock-last m answer s a x c limits shows within stands is).course
        ∙ e

    own : a ≡ q → was.whose ≡ Own
    own same = ap (λ b. if b then Own else Another) (eq-eqb a q same)

    other : a ≢ q → was.whose ≡ Another
    other apart = ap (λ b. if b then Own else Another) (ne_eqb a q apart)

    abbrev is_granted : Bool
    is_granted = a == q && option_map_or (λ k. k == e) x.fault.entry false

    granted : was.granted ≡ is_granted
    granted = ap (λ (ph : Phase). a == q && option_map_or (λ (y : Course). option_map_or (λ k. k == e) x.fault.entry false) (unlocking_of
        ph) false) is

    later-same :
        (test : Removed → Bool) (k : ℕ) → (nat_lt k c.stamp.seq && test d.removed) ≡ false →
        later test t.history (page_of m e) k ≡ later test s.history (page_of m e) k
    later-same test k none =
        ap (λ h. later test h (page_of m e) k) history
        ∙ (own-later s.history made (page_of m e) (sym there) test k
        ∙ (ap (λ b. later test s.history (page_of m e) k || b) none ∙ or-false (later test s.history (page_of m e) k)))

    gone-same :
        (test : Removed → Bool) → test d.removed ≡ false →
        gone test ≡ option_map_or (λ (y : Translation). later test s.history (page_of m e) y.seq) o false
    gone-same test none =
        λ i. option_map_or
        (λ (y : Translation). later-same test y.seq (ap (λ b. nat_lt y.seq c.stamp.seq && b) none ∙ and-false (nat_lt y.seq c.stamp.seq)) i)
        o false

    held-other : a ≢ q → held m t.history q e ≡ held m s.history q e
    held-other apart = ap (λ h. held m h q e) history ∙ held-change_other m s.history made q e apart

    held-own :
        a ≡ q → held m t.history q e ≡ granted_to e c.stamp.seq made.granted (kept_of d.removed (held m s.history q e))
    held-own same =
        ap (λ h. held m h q e) history
        ∙ subst
        (λ k. held m (s.history ++ item.Change made ∷ []) k e ≡ granted_to e c.stamp.seq made.granted (kept_of d.removed (held m
        s.history k e)))
        same
        (held-change_own m s.history made e
        ∙ ap (λ b. granted_to e c.stamp.seq made.granted (if b then kept_of d.removed (held m s.history a e) else held m s.history a e))
        (eq-eqb (page_of m e) page there))

    -- ---- an entry that the session has not granted

    module _ (none : is_granted ≡ false) where
      ungranted : was.granted ≡ false
      ungranted = granted ∙ none

      held-kept : a ≡ q → held m t.history q e ≡ kept_of d.removed (held m s.history q e)
      held-kept same = held-own same ∙ by x.fault.entry refl (sym (ap (λ b. b && option_map_or (λ k. k == e) x.fault.entry false) (eq-eqb
          a q same)) ∙ none)
        where
          by :
              (f : Option ℕ) → x.fault.entry ≡ f → option_map_or (λ k. k == e) x.fault.entry false ≡ false →
              granted_to e c.stamp.seq (option_map (λ k. grant_of k x.fault.cause d) x.fault.entry) (kept_of d.removed (held m s.history
              q e))
              ≡ kept_of d.removed (held m s.history q e)
          by None entry miss =
              ap
              (λ f. granted_to e c.stamp.seq (option_map (λ k. grant_of k x.fault.cause d) f) (kept_of d.removed (held m s.history q e)))
              entry
          by (Some f) entry miss =
              ap
              (λ g. granted_to e c.stamp.seq (option_map (λ k. grant_of k x.fault.cause d) g) (kept_of d.removed (held m s.history q e)))
              entry
              ∙ ap
              (λ b. if b then Some (record { grant = grant_of f x.fault.cause d; seq = c.stamp.seq; restricted = false })
              else kept_of d.removed (held m s.history q e))
              (sym (ap (λ g. option_map_or (λ k. k == e) g false) entry) ∙ miss)

      took-all : d.removed ≡ All → ViewOk now (held_as o (held m t.history q e))
      took-all all = record {
        ok = rw seen (left_all_ok was d.after.state (names_copy d.after o) (gone removes_all) (gone removes_writes) facts entry_ok quiet
            (removes All all) ungranted);
        waits = rw seen (left_all_waits was d.after.state (names_copy d.after o) (gone removes_all) (gone removes_writes) waits);
        held = rw seen (by (cases_eq a q));
      }
        where
          seen : now ≡ left_all d.after.state (names_copy d.after o) (gone removes_all) (gone removes_writes) was
          seen = seen-all q o mask sv pv gv d.after (gone removes_all) (gone removes_writes)

          by : (a ≡ q) ⊎ (a ≢ q) →
              HeldOk (left_all d.after.state (names_copy d.after o) (gone removes_all) (gone removes_writes) was) (held_as o (held m
              t.history q e))
          by (inl same) =
              rw (ap (held_as o) (held-kept same ∙ ap (λ r. kept_of r (held m s.history q e)) all) ∙ held-dropped o)
              (left_all_held_own was (held_as o (held m s.history q e)) d.after.state (names_copy d.after o) (gone removes_all) (gone
              removes_writes)
              facts entry_ok holds quiet (removes All all) ungranted (own same))
          by (inr apart) =
              rw (held-other apart)
              (left_all_held_other was (held_as o (held m s.history q e)) d.after.state (names_copy d.after o) (gone removes_all)
              (gone removes_writes) facts entry_ok holds quiet (removes All all) ungranted (other apart))

      took-writes :
          d.removed ≡ Writes → d.after.state ≡ PresentPlus → (names_copy gv.dir o ≡ true → names_copy d.after o ≡ true) →
          ViewOk now (held_as o (held m t.history q e))
      took-writes took plus copies = record {
        ok = rw seen (left_writes_ok was (names_copy d.after o) (gone removes_writes) facts entry_ok quiet (removes Writes took)
            ungranted copies);
        waits = rw seen (left_writes_waits was (names_copy d.after o) (gone removes_writes) waits);
        held = rw seen (by (cases_eq a q));
      }
        where
          seen : now ≡ left_writes (names_copy d.after o) (gone removes_writes) was
          seen =
              seen-writes q o mask sv pv gv d.after (gone removes_all) (gone removes_writes) plus (gone-same removes_all (ap removes_all
              took))

          by : (a ≡ q) ⊎ (a ≢ q) → HeldOk (left_writes (names_copy d.after o) (gone removes_writes) was) (held_as o (held m t.history q e))
          by (inl same) =
              rw (ap (held_as o) (held-kept same ∙ ap (λ r. kept_of r (held m s.history q e)) took) ∙ held-lowered o (held m s.history q e))
              (left_writes_held_own was (held_as o (held m s.history q e)) (names_copy d.after o) (gone removes_writes) facts entry_ok
              holds quiet
              (removes Writes took) ungranted (own same))
          by (inr apart) =
              rw (held-other apart)
              (left_writes_held_other was (held_as o (held m s.history q e)) (names_copy d.after o) (gone removes_writes) facts entry_ok
              holds quiet
              (removes Writes took) ungranted (other apart))

      took-nothing :
          d.removed ≡ Nothing → (gv.dir.state ≡ PresentPlus → d.after.state ≡ PresentPlus) → (gv.dir.state ≡ Modified → d.after.state ≡
          Modified) →
          (names_copy gv.dir o ≡ true → names_copy d.after o ≡ true) → ViewOk now (held_as o (held m t.history q e))
      took-nothing took plus modified copies = record {
        ok = rw seen (unlock_nothing_ok was d.after.state (names_copy d.after o) facts entry_ok (removes Nothing took) ungranted plus
            modified copies);
        waits = rw seen (unlock_nothing_waits was d.after.state (names_copy d.after o) facts entry_ok waits (removes Nothing took)
            ungranted plus modified copies);
        held = rw (seen, by (cases_eq a q))
            (unlock_nothing_held was (held_as o (held m s.history q e)) d.after.state (names_copy d.after o) facts entry_ok holds
            (removes Nothing took) ungranted plus modified copies);
      }
        where
          seen : now ≡ unlock_nothing d.after.state (names_copy d.after o) was
          seen =
              seen-nothing q o mask sv pv gv d.after (gone removes_all) (gone removes_writes) (gone-same removes_all (ap removes_all took))
              (gone-same removes_writes (ap removes_writes took))

          by : (a ≡ q) ⊎ (a ≢ q) → held m t.history q e ≡ held m s.history q e
          by (inl same) = held-kept same ∙ ap (λ r. kept_of r (held m s.history q e)) took
          by (inr apart) = held-other apart

    -- ---- the entry that it has granted

    module _ (yes_granted : is_granted ≡ true) where
      actor : a ≡ q
      actor = eqb-true a q (and_parts (a == q) (option_map_or (λ k. k == e) x.fault.entry false) yes_granted).0

      node : a < m.nodes
      node = omega (arith, inner, actor)

      entry : x.fault.entry ≡ Some e
      entry = by x.fault.entry (and_parts (a == q) (option_map_or (λ k. k == e) x.fault.entry false) yes_granted).1
        where
          by : (f : Option ℕ) → option_map_or (λ k. k == e) f false ≡ true → f ≡ Some e
          by None h = absurd cc
          by (Some f) h = ap (λ (k : ℕ). Some k) (eqb-true f e h)

      abbrev grants : Translation
      grants = translation_made m answer a (private_of m s a).now x c e

      there_is : o ≡ Some grants
      there_is =
          let faulted : entry_faulted m x.fault ≡ e = ap (λ f. unwrap_or f (length m.entries)) entry in
          subst (λ k. translation_of m s k e ≡ Some grants) actor
          (subst (λ k. translation_of m s a k ≡ Some (translation_made m answer a p.now x c k)) faulted
          ((unlock-ok m answer s a x c limits shows within stands is).granted node))

      held-now : held m t.history q e ≡ Some grants
      held-now =
          held-own actor
          ∙ (ap (λ f. granted_to e c.stamp.seq (option_map (λ k. grant_of k x.fault.cause d) f) (kept_of d.removed (held m s.history q
          e))) entry
          ∙ ap (λ b. if b then Some grants else kept_of d.removed (held m s.history q e)) (eq-eqb e e refl))

      decides : DecideFacts m x.dir c.got x.fault.cause d
      decides = fault_decides m answer a p x c ok.fault (unlock-ok m answer s a x c limits shows within stands is).quiet.course node

      copied : names_copy d.after o ≡ true
      copied = ap (names_copy d.after) there_is ∙ copy_on-is d.frame.module d.after.copies d.frame decides.granted

      writes : was.writes ≡ true → d.after.state ≡ Modified
      writes right = by x.fault.cause refl (sym (ap (has_right Store) there_is) ∙ right)
        where
          by : (k : Cause) → x.fault.cause ≡ k → has_right Store (Some grants) ≡ true → d.after.state ≡ Modified
          by cause.Read k h = absurd (true≢false (sym h ∙ ap (λ r. serves Store (right_of r)) k))
          by cause.Write k h = decides.write_state k
          by cause.Thaw k h = absurd (true≢false (sym h ∙ ap (λ r. serves Store (right_of r)) k))

      gone-granted :
          (test : Removed → Bool) → gone test ≡ option_map_or (λ (y : Translation). later test s.history (page_of m e) y.seq) o false
      gone-granted test =
          ap (λ k. option_map_or (λ (y : Translation). later test t.history (page_of m e) y.seq) k false) there_is
          ∙ (later-same test c.stamp.seq (ap (λ b. b && test d.removed) least)
          ∙ sym (ap (λ k. option_map_or (λ (y : Translation). later test s.history (page_of m e) y.seq) k false) there_is))
        where
          least : nat_lt c.stamp.seq c.stamp.seq ≡ false
          least = grind (arith, nat_tests)

      was-granted : ViewOk now (held_as o (held m t.history q e))
      was-granted = record {
        ok = rw seen (unlock_granted_ok was d.after.state facts entry_ok (granted ∙ yes_granted) writes);
        waits = rw seen (unlock_granted_waits was d.after.state facts entry_ok waits (granted ∙ yes_granted) writes);
        held = rw (seen, held-after)
            (unlock_granted_held was (held_as o (held m s.history q e)) d.after.state facts entry_ok holds (granted ∙ yes_granted) writes
            (ap is_some there_is));
      }
        where
          seen : now ≡ unlock_granted d.after.state was
          seen =
              seen-granted q o mask sv pv gv d.after (gone removes_all) (gone removes_writes) copied (gone-granted removes_all)
              (gone-granted removes_writes)

          held-after : held_as o (held m t.history q e) ≡ record { held = true; held_writes = was.writes; same = true }
          held-after =
              (λ i. held_as (there_is i) (held-now i))
              ∙ (held-granted grants ∙ (λ i. record { held = true; held_writes = has_right Store (sym there_is i); same = true }))

    -- ---- every entry

    dir-there : x.dir ≡ gv.dir
    dir-there = dir ∙ ap (dir_of s.history) (sym there)

    all_no : (r : Removed) → d.removed ≡ r → d.removed ≡ All → (r ≡ All → ⊥) → ⊥
    all_no r took all apart = apart (sym took ∙ all)

    copies-stay : DecideFacts m x.dir c.got x.fault.cause d → (d.removed ≡ All → ⊥) → names_copy gv.dir o ≡ true → names_copy d.after o ≡
        true
    copies-stay decides some copy = by o (ap (λ b. names_copy b o) dir-there ∙ copy)
      where
        by : (k : Option Translation) → names_copy x.dir k ≡ true → names_copy d.after k ≡ true
        by None h = absurd cc
        by (Some y) h =
            let f = y.grant.frame in
            copy_on-is f.module d.after.copies f
            (decides.copies_stay f.module f some (is_copy_of-on 0 x.dir.copies f (dir_parts m x.dir ok.dir).1 h))

    took-by : is_granted ≡ false → (r : Removed) → d.removed ≡ r → ViewOk now (held_as o (held m t.history q e))
    took-by none All took = took-all none took
    took-by none Writes took = writes-by (actor-is m a within)
      where
        writes-by : IsActor m a → ViewOk now (held_as o (held m t.history q e))
        writes-by (inl node) =
            let decides = fault_decides m answer a p x c ok.fault (unlock-ok m answer s a x c limits shows within stands is).quiet.course
            node in
            took-writes none took (decides.writes_after took) (copies-stay decides (λ e. all_no Writes took e (λ h. absurd cc)))
        writes-by (inr daemon) =
            let thaws = (thaw_decides m answer a p x c ok.fault (unlock-ok m answer s a x c limits shows within stands is).quiet.course
            daemon).0 in
            absurd (all_no Writes took thaws.removed (λ h. absurd cc))
    took-by none Nothing took = nothing-by (actor-is m a within)
      where
        nothing-by : IsActor m a → ViewOk now (held_as o (held m t.history q e))
        nothing-by (inl node) =
            let decides = fault_decides m answer a p x c ok.fault (unlock-ok m answer s a x c limits shows within stands is).quiet.course
            node in
            took-nothing none took
            (λ plus. decides.plus_stays (ap (λ (b : Dir). b.state) dir-there ∙ plus) (λ e. all_no Nothing took e (λ h. absurd cc)))
            (λ modified. decides.modified_stays (ap (λ (b : Dir). b.state) dir-there ∙ modified) took)
            (copies-stay decides (λ e. all_no Nothing took e (λ h. absurd cc)))
        nothing-by (inr daemon) =
            let thaws = (thaw_decides m answer a p x c ok.fault (unlock-ok m answer s a x c limits shows within stands is).quiet.course
            daemon).0 in
            absurd (all_no Nothing took thaws.removed (λ h. absurd cc))

    by-granted : (b : Bool) → is_granted ≡ b → ViewOk now (held_as o (held m t.history q e))
    by-granted true yes_granted = was-granted yes_granted
    by-granted false none = took-by none d.removed refl

    pub unlock-entry : ShowsEntry m answer (event m answer s a) q e
    unlock-entry = shown (by-granted is_granted refl)
