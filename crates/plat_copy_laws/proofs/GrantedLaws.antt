-- the translation that a session has granted, before its unlock: its frame is current
use Rattle.std.specs.Prelude.{◌≡◌, ℕ, ◌<◌, ◌==◌, ◌||◌, not, Bool, true, false, List, [], ◌∷◌, filter, cond, length, Option, Some, None}
use Rattle.std.specs.Prelude.{unwrap_or}
use Rattle.std.proofs.Common.{refl, ap, sym, ◌∙◌, ◌⊎◌, inl, inr, arith, subst}
use Rattle.std.specs.Option.{option_map_or}
use Rattle.std.specs.List.{list_any}
use Rattle.std.proofs.lemmas.Bool.{eqb-true, true≢false, not-true}
use Rattle.std.proofs.lemmas.Option.{same_Some}
use Rattle.plat_base.specs.Verdicts.{Answer}
use Rattle.plat_base.specs.Machine.{Machine}
use Rattle.plat_base.specs.Pages.{page_of}
use Rattle.plat_base.specs.Copies.{same_frame, copy_on}
use Rattle.plat_base.specs.Directories.{dir_of}
use Rattle.plat_base.specs.declared.frames.Frame.{Frame}
use Rattle.plat_base.specs.declared.frames.Dir.{Dir}
use Rattle.plat_base.specs.declared.items.Translation.{Translation}
use Rattle.plat_base.specs.declared.policies.Decision.{Decision}
use Rattle.plat_laws.specs.Guests.{IsWithinLimits}
use Rattle.plat_laws.proofs.TableLaws.{DecideFacts}
use Rattle.plat_events.specs.Sessions.{Course, Phase, Stamping, Seeking, Taking, Returning, Shooting, Filling, Reading, Copying, Giving}
use Rattle.plat_events.specs.Sessions.{Storing, Granting, Unlocking, Session, decision_of, entry_faulted, going, translation_made}
use Rattle.plat_events.specs.Privates.{Private, actor_count, translation_at}
use Rattle.plat_events.specs.Standings.{course_of, unlocking_of, frames_given, words_filled, hand_of, has_granted}
use Rattle.plat_events.specs.Kept.{session_on, session_of, is_copy_of, is_kept, gave_back, private_of}
use Rattle.plat_events.specs.Views.{translation_of}
use Rattle.plat_events.specs.Runs.{Fine}
use Rattle.plat_events.specs.Shown.{Shows}
use Rattle.plat_local_laws.specs.Phases.{PhaseOk, SessionOk, UnlockingOk}
use Rattle.plat_local_laws.proofs.CourseLaws.{fault_decides}
use Rattle.plat_fine_laws.proofs.SessionLaws.{session-ok}
use Rattle.plat_fine_laws.proofs.TableFacts.{copy_on-is}
use Rattle.plat_frame_laws.specs.Phased.{running}
use Rattle.plat_frame_laws.proofs.HandLaws.{alone}
use Rattle.plat_copy_laws.specs.Coherence.{IsGrantedHand, LeadsToCurrent}
use Rattle.plat_laws.proofs.SameLaws.{same_frame-true}
use Rattle.plat_unlock_laws.proofs.UnlockPageLaws.{going-is}

-- ---- a session that has granted

unlocking-phase : (ph : Phase) (c : Course) → unlocking_of ph ≡ Some c → ph ≡ Unlocking c
unlocking-phase Stamping c h = absurd cc
unlocking-phase (Seeking st i) c h = absurd cc
unlocking-phase (Taking st i seen) c h = absurd cc
unlocking-phase Returning c h = absurd cc
unlocking-phase (Shooting d shot) c h = absurd cc
unlocking-phase (Filling d w) c h = absurd cc
unlocking-phase (Reading d w) c h = absurd cc
unlocking-phase (Copying d w seen) c h = absurd cc
unlocking-phase (Giving d k) c h = absurd cc
unlocking-phase (Storing d) c h = absurd cc
unlocking-phase (Granting d) c h = absurd cc
unlocking-phase (Unlocking d) c h = ap Unlocking (same_Some d c h)

-- its unlock is next, and its fault was through the entry
record HasGranted (x : Session) (e : ℕ) : Type 0 where
  course : Course
  unlocks : x.phase ≡ Unlocking course
  entry : x.fault.entry ≡ Some e

granted-parts : (x : Session) (e : ℕ) → has_granted x e ≡ true → HasGranted x e
granted-parts x e h = by (unlocking_of x.phase) refl h
  where
    entry : (o : Option ℕ) → option_map_or (λ k. k == e) o false ≡ true → o ≡ Some e
    entry None h = absurd cc
    entry (Some k) h = ap (λ (n : ℕ). Some n) (eqb-true k e h)

    by : (o : Option Course) → unlocking_of x.phase ≡ o →
        option_map_or (λ (c : Course). option_map_or (λ k. k == e) x.fault.entry false) o false ≡ true → HasGranted x e
    by None is h = absurd cc
    by (Some c) is h = record { course = c; unlocks = unlocking-phase x.phase c is; entry = entry x.fault.entry h }

-- ---- frames that go

-- a copy of the directory after does not go
stays-not_going : (before after : Dir) (f : Frame) → is_copy_of after.copies f ≡ true →
    list_any (same_frame f) (filter (λ g. not (list_any (same_frame g) after.copies)) before.copies) ≡ false
stays-not_going before after f stays = by (list_any (same_frame f) (filter leaves before.copies)) refl
  where
    leaves : Frame → Bool
    leaves g = not (list_any (same_frame g) after.copies)

    by : (b : Bool) → list_any (same_frame f) (filter leaves before.copies) ≡ b →
        list_any (same_frame f) (filter leaves before.copies) ≡ false
    by false is = is
    by true is =
        absurd (true≢false (sym stays ∙ not-true (list_any (same_frame f) after.copies) (going-is f leaves before.copies is)))

-- ---- the granted translation

module _ (m : Machine) (answer : Answer) (s : Fine) (q e : ℕ) (x : Session) (limits : IsWithinLimits m) (shows : Shows m answer s)
    (inside : q < m.nodes) (is : session_of (private_of m s q).place ≡ Some x) (of_page : x.fault.page ≡ page_of m e)
    (grants : has_granted x e ≡ true) where
  abbrev p : Private
  p = private_of m s q

  within : q < actor_count m
  within = omega (arith, inside)

  granted : HasGranted x e
  granted = granted-parts x e grants

  abbrev c : Course
  c = granted.course

  abbrev d : Decision
  d = decision_of m answer q (private_of m s q).now x granted.course

  abbrev f : Frame
  f = (decision_of m answer q (private_of m s q).now x granted.course).frame

  ok : SessionOk m answer q p x
  ok = session-ok m answer q p p.place x (alone m answer s limits shows q within).standing.place is

  unlocks : UnlockingOk m answer q p x c
  unlocks = subst (PhaseOk m answer q p x) granted.unlocks ok.phase

  on : session_on s.privates (page_of m e) ≡ Some (running q p.now x)
  on = ap (session_on s.privates) (sym of_page) ∙ shows.one_session q x within is

  dir : x.dir ≡ dir_of s.history (page_of m e)
  dir = shows.dir_read_is (page_of m e) (running q p.now x) on

  decides : DecideFacts m x.dir c.got x.fault.cause d
  decides = fault_decides m answer q p x c ok.fault unlocks.quiet.course inside

  hand : hand_of x ≡ c.got
  hand = ap (λ ph. option_map_or (λ (k : Course). k.got) (course_of ph) None) granted.unlocks

  filled : words_filled m x.phase ≡ m.words
  filled = ap (words_filled m) granted.unlocks

  -- the processor has it as the session made it
  made : translation_of m s q e ≡ Some (translation_made m answer q (private_of m s q).now x granted.course e)
  made =
      let faulted : entry_faulted m x.fault ≡ e = ap (λ o. unwrap_or o (length m.entries)) granted.entry in
      subst (λ k. translation_at p k ≡ Some (translation_made m answer q p.now x c k)) faulted (unlocks.granted inside)

  -- its frame is a copy of the directory before, or was got
  either : (copy_on f.module x.dir.copies ≡ Some f) ⊎ (c.got ≡ Some f)
  either = decides.copies_from f.module f decides.granted

  stays : is_copy_of d.after.copies f ≡ true
  stays = copy_on-is f.module d.after.copies f decides.granted

  not_given : gave_back m answer (Some (running q p.now x)) f ≡ false
  not_given =
      ap
      (λ ph. option_map_or (λ k. list_any (same_frame f) (frames_given (going x.dir (decision_of m answer q p.now x k)) ph)) (course_of ph)
      false)
      granted.unlocks
      ∙ stays-not_going x.dir d.after f stays

  kept : copy_on f.module x.dir.copies ≡ Some f → is_kept m answer s (page_of m e) f ≡ true
  kept copy =
      let before : is_copy_of (dir_of s.history (page_of m e)).copies f ≡ true =
      ap (λ (b : Dir). is_copy_of b.copies f) (sym dir) ∙ copy_on-is f.module x.dir.copies f copy in
      let here : gave_back m answer (session_on s.privates (page_of m e)) f ≡ false = ap (λ r. gave_back m answer r f) on ∙ not_given in
      rw (before, here) refl

  in_hand : c.got ≡ Some f → IsGrantedHand m s q e f
  in_hand got = record { session = x; own = is; on = of_page; grants = grants; hand = hand ∙ got }

  current : page_of m e < m.pages → (copy_on f.module x.dir.copies ≡ Some f) ⊎ (c.got ≡ Some f) → LeadsToCurrent m answer s q e f
  current below (inl copy) = record {
    leads = inl (kept copy);
    words = λ w word. shows.kept_flat (page_of m e) w f below word (kept copy);
  }
  current below (inr got) = record {
    leads = inr (in_hand got);
    words = λ w word. shows.hand_flat (page_of m e) w (running q p.now x) f on (hand ∙ got) (subst (λ k. w < k) (sym filled) word);
  }

  pub granted-current :
      (t : Translation) → translation_of m s q e ≡ Some t → page_of m e < m.pages → LeadsToCurrent m answer s q e t.grant.frame
  granted-current t has below =
      let same : translation_made m answer q p.now x c e ≡ t =
      same_Some (translation_made m answer q p.now x c e) t (sym made ∙ has) in
      subst (λ (y : Translation). LeadsToCurrent m answer s q e y.grant.frame) same (current below either)
