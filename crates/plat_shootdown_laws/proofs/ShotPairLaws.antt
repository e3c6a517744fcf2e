-- what a shootdown says to a processor and an entry of its page, and that the invariant holds of them behind an operation that
-- writes no mask and leaves the translations
use Rattle.std.specs.Prelude.{◌≡◌, ◌⊎◌, ℕ, ◌<◌, ◌==◌, ◌&&◌, if◌then◌else◌, Bool, true, false, List, [], length, take, drop, Option, Some}
use Rattle.std.specs.Prelude.{None, is_some}
use Rattle.std.proofs.Common.{refl, ap, sym, ◌∙◌, subst}
use Rattle.std.specs.Option.{option_map_or}
use Rattle.std.specs.List.{list_any}
use Rattle.std.proofs.Math.Bool.{and-false}
use Rattle.plat_base.specs.Verdicts.{Answer}
use Rattle.plat_base.specs.Machine.{Machine}
use Rattle.plat_base.specs.Copies.{same_frame}
use Rattle.plat_base.specs.Messages.{removes_some}
use Rattle.plat_base.specs.Pages.{page_of, entries_of_page}
use Rattle.plat_base.specs.declared.items.Removed.{Removed}
use Rattle.plat_base.specs.declared.items.Removed.TheVariants.{Nothing}
use Rattle.plat_base.specs.declared.items.Translation.{Translation}
use Rattle.plat_base.specs.declared.words.WordName.{WordName}
use Rattle.plat_base.specs.declared.words.WordName.TheVariants as word
use Rattle.plat_events.specs.Words.{has_reference, has_invalidate, has_restrict}
use Rattle.plat_events.specs.Places.{entry_count}
use Rattle.plat_events.specs.Shootdowns.{Target, targets}
use Rattle.plat_events.specs.Sessions.{Course, Phase, Session, decision_of, going, translation_made, with_phase, with_posts}
use Rattle.plat_events.specs.Privates.{InSession, Private, actor_count, translation_at}
use Rattle.plat_events.specs.Standings.{targets_left, is_quiet, frames_given}
use Rattle.plat_events.specs.Kept.{is_active, word_at, private_of}
use Rattle.plat_events.specs.Views.{Own, Another, SessionView, EntryOk, HeldOk, InvalidateStays, View, view, view_of, held_view}
use Rattle.plat_events.specs.Views.{session_viewed, place_view, page_view, translation_of, same_translation}
use Rattle.plat_events.specs.Runs.{Fine}
use Rattle.plat_events.specs.Shown.{Shows}
use Rattle.plat_laws.specs.Guests.{IsWithinLimits}
use Rattle.plat_views.specs.Facts.{ViewFacts}
use Rattle.plat_fine_laws.specs.Changes.{Changes}
use Rattle.plat_fine_laws.proofs.ViewFactLaws.{view_facts}
use Rattle.plat_frame_laws.specs.Phased.{running}
use Rattle.plat_frame_laws.proofs.HandLaws.{alone}
use Rattle.plat_frame_laws.specs.SessionMoved.{SessionLeaves, PairOk}
use Rattle.plat_frame_laws.proofs.SessionMovedLaws as moved
use Rattle.plat_shootdown_laws.specs.Shots.{ShotPhase}
use Rattle.plat_shootdown_laws.proofs.ShotViewLaws.{ShotSees, sees_ok, sees_waits, sees_held}

-- ---- what a shootdown says to a processor and an entry

-- something is removed, and the entry was posted to
abbrev pub posted_by : Machine → (page : ℕ) → Removed → (posts : List ℕ) → (e : ℕ) → Bool
posted_by m page rem posts e = removes_some rem && list_any (λ y. y == e) (take (length posts) (entries_of_page m page))

-- the processor is a target by the entry that is not passed
abbrev pub owed_by : Machine → (a page : ℕ) → (posts : List ℕ) → (k e q : ℕ) → Bool
owed_by m a page posts k e q = list_any (λ (t : Target). t.entry == e && t.processor == q) (drop k (targets m a page posts))

abbrev pub shot_seen : (a q : ℕ) → Removed → (posted owed quiet : Bool) → SessionView
shot_seen a q rem p o b = record {
  whose = if a == q then Own else Another;
  removes = rem;
  posted = p;
  owed = o;
  quiet = b;
  granted = false;
  given = false;
  mine = false;
}

module _ (m : Machine) (answer : Answer) (a now : ℕ) (x : Session) (c : Course) (k : ℕ) (ph : Phase)
    (is : ShotPhase m answer a now x c k ph) (q e : ℕ) (t : Option Translation) where
  given-none : (o : Option Translation) →
      option_map_or
      (λ (y : Translation). option_map_or
      (λ d. list_any (same_frame y.grant.frame) (frames_given (going x.dir (decision_of m answer a now x d)) ph)) (Some c) false)
      o false ≡ false
  given-none None = refl
  given-none (Some y) = ap (list_any (same_frame y.grant.frame)) is.given

  pub shot-viewed :
      session_viewed m answer q e t (running a now (with_phase x ph))
      ≡ shot_seen a q (decision_of m answer a now x c).removed
      (posted_by m x.fault.page (decision_of m answer a now x c).removed c.posts e)
      (owed_by m a x.fault.page c.posts k e q) (is_quiet ph)
  shot-viewed = by_course ∙ (by_left ∙ (by_granted ∙ by_given))
    where
      rem : Removed
      rem = (decision_of m answer a now x c).removed

      viewed : (co un : Option Course) → (left : List Target) → SessionView
      viewed co un left =
          let granted = a == q && option_map_or (λ (d : Course). option_map_or (λ y. y == e) x.fault.entry false) un false
          in record {
            whose = if a == q then Own else Another;
            removes = option_map_or (λ d. (decision_of m answer a now x d).removed) co Nothing;
            posted = removes_some (option_map_or (λ d. (decision_of m answer a now x d).removed) co Nothing)
                && list_any (λ y. y == e) (take (length (option_map_or (λ (d : Course). d.posts) co [])) (entries_of_page m x.fault.page));
            owed = list_any (λ (y : Target). y.entry == e && y.processor == q) left;
            quiet = is_quiet ph;
            granted = granted;
            given = option_map_or
                (λ (y : Translation). option_map_or
                (λ d. list_any (same_frame y.grant.frame) (frames_given (going x.dir (decision_of m answer a now x d)) ph)) co false)
                t false;
            mine = granted
                && option_map_or
                (λ y. option_map_or (λ d. same_translation y (translation_made m answer a now x d e)) un false) t false;
          }

      by_course :
          session_viewed m answer q e t (running a now (with_phase x ph))
          ≡ viewed (Some c) None (targets_left (targets m a x.fault.page c.posts) ph)
      by_course = λ i. viewed (is.course i) (is.unlocking i)
          (targets_left (targets m a x.fault.page (option_map_or (λ (d : Course). d.posts) (is.course i) [])) ph)

      by_left :
          viewed (Some c) None (targets_left (targets m a x.fault.page c.posts) ph)
          ≡ viewed (Some c) None (drop k (targets m a x.fault.page c.posts))
      by_left = λ i. viewed (Some c) None (is.left i)

      seen : (granted given mine : Bool) → SessionView
      seen granted given mine = record (shot_seen a q rem (posted_by m x.fault.page rem c.posts e)
          (owed_by m a x.fault.page c.posts k e q) (is_quiet ph)) {
            granted = granted;
            given = given;
            mine = mine;
          }

      gives : Bool
      gives = option_map_or
          (λ (y : Translation). option_map_or
          (λ d. list_any (same_frame y.grant.frame) (frames_given (going x.dir (decision_of m answer a now x d)) ph)) (Some c) false)
          t false

      by_granted :
          viewed (Some c) None (drop k (targets m a x.fault.page c.posts)) ≡ seen false gives false
      by_granted = λ i. seen (and-false (a == q) i) gives
          (and-false (a == q) i
          && option_map_or (λ (y : Translation). option_map_or (λ d. same_translation y (translation_made m answer a now x d e)) None
          false) t
          false)

      by_given : seen false gives false ≡ seen false false false
      by_given = λ i. seen false (given-none t i) false

-- ---- an operation that writes no mask

-- what an operation of a shootdown on a page says to processor q and entry e: from these posts and k passed targets to others
pub record ShotStep (m : Machine) (s : Fine) (a page : ℕ) (rem : Removed) (posts more : List ℕ) (k k' q e : ℕ) : Type 0 where
  pub posts_stay : posted_by m page rem posts e ≡ true → posted_by m page rem more e ≡ true
  pub post : posted_by m page rem posts e ≡ false → posted_by m page rem more e ≡ true → is_some (translation_of m s q e) ≡ false
  pub pass :
      owed_by m a page posts k e q ≡ true → owed_by m a page more k' e q ≡ false →
      ((has_invalidate (word_at m s (word.Cmap e)) q ≡ false) × (has_restrict (word_at m s (word.Cmap e)) q ≡ false))
      ⊎ (is_active m (private_of m s q) e ≡ false)

module _ (m : Machine) (answer : Answer) (s t : Fine) (a : ℕ) (name : WordName) (number : ℕ) (after : Private) (x : Session) (c : Course)
    (k k' : ℕ) (posts : List ℕ) (next : Phase) (limits : IsWithinLimits m) (shows : Shows m answer s) (within : a < actor_count m)
    (stands : (private_of m s a).place ≡ InSession x)
    (changes : Changes m s t a name number after None)
    (leaves : SessionLeaves m x.fault.page (private_of m s a) after (with_phase x next))
    (from : ShotPhase m answer a (private_of m s a).now x c k x.phase)
    (to : ShotPhase m answer a (private_of m s a).now x (with_posts c posts) k' next)
    (q e : ℕ) (inside : q < m.nodes) (below : e < entry_count m) (of_page : page_of m e ≡ x.fault.page)
    (mask-same : word_at m t (word.Cmap e) ≡ word_at m s (word.Cmap e))
    (pmap : translation_at after e ≡ translation_at (private_of m s a) e)
    (step : ShotStep m s a x.fault.page (decision_of m answer a (private_of m s a).now x c).removed c.posts posts k k' q e) where
  abbrev now : ℕ
  now = (private_of m s a).now

  abbrev o : Option Translation
  o = translation_of m s q e

  abbrev seen : SessionView
  seen = session_viewed m answer q e (translation_of m s q e) (running a (private_of m s a).now x)

  abbrev seen' : SessionView
  seen' = session_viewed m answer q e (translation_of m s q e) (running a (private_of m s a).now (with_phase x next))

  translation-own : translation_of m t q e ≡ translation_of m s q e
  translation-own = moved.translation-same m answer s t a name number after x next shows within stands changes leaves q e pmap

  abbrev mask : ℕ
  mask = word_at m s (word.Cmap e)

  seen-before :
      view m answer s q e
      ≡ view_of q (translation_of m s q e) (word_at m s (word.Cmap e)) seen (place_view m (private_of m s q) e)
      (page_view m s (page_of m e) (translation_of m s q e))
  seen-before = moved.seen-before m answer s t a name number after x next shows within stands changes leaves q e of_page

  seen-after :
      view m answer t q e
      ≡ view_of q (translation_of m s q e) (word_at m s (word.Cmap e)) seen' (place_view m (private_of m s q) e)
      (page_view m s (page_of m e) (translation_of m s q e))
  seen-after =
      moved.seen-after m answer s t a name number after x next shows within stands changes leaves q e o mask translation-own of_page
      mask-same

  held-still : held_view m t q e ≡ held_view m s q e
  held-still = moved.held-after m answer s t a name number after x next shows within stands changes leaves q e o mask translation-own

  sees : ShotSees seen seen' (is_some (translation_of m s q e)) (has_invalidate (word_at m s (word.Cmap e)) q)
      (has_restrict (word_at m s (word.Cmap e)) q) (is_active m (private_of m s q) e)
  sees =
      rw (shot-viewed m answer a now x c k x.phase from q e o, shot-viewed m answer a now x (with_posts c posts) k' next to q e o)
      (record {
        whose = refl;
        removes = refl;
        granted = refl;
        given = refl;
        mine = refl;
        posts_stay = step.posts_stay;
        post = step.post;
        pass = step.pass;
      })

  pub pair-ok : PairOk m answer t q e
  pair-ok = record {
    reference =
        (λ i. has_reference (mask-same i) q)
        ∙ (shows.reference_is_pmap q e inside below ∙ sym (λ i. is_some (translation-own i)));
    view_ok =
        rw seen-after
        (sees_ok q o mask seen seen' (place_view m (private_of m s q) e) (page_view m s (page_of m e) o) sees
        (subst ViewFacts seen-before (view_facts m answer s limits shows (alone m answer s limits shows) q e inside below))
        (subst EntryOk seen-before (shows.views q e inside below)));
    stays =
        rw seen-after
        (sees_waits q o mask seen seen' (place_view m (private_of m s q) e) (page_view m s (page_of m e) o) sees
        (subst InvalidateStays seen-before (shows.invalidates_stay q e inside below)));
    held =
        rw (seen-after, held-still)
        (sees_held q o mask seen seen' (place_view m (private_of m s q) e) (page_view m s (page_of m e) o) sees (held_view m s q e)
        (subst (λ (v : View). HeldOk v (held_view m s q e)) seen-before (shows.held_is_pmap q e inside below)));
  }
