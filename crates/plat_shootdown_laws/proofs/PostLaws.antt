-- a post that is made keeps the invariant
use Rattle.std.specs.Prelude.{◌≡◌, ◌≢◌, ◌⊎◌, ℕ, zero, suc, ◌+◌, ◌<◌, ◌≤◌, ◌==◌, ◌&&◌, ◌||◌, not, if◌then◌else◌, Bool, true, false, List, []}
use Rattle.std.specs.Prelude.{◌∷◌, ◌++◌, map, length, take, filter, cond, Option, Some, None, is_some, IsTrue}
use Rattle.std.proofs.Common.{refl, ap, sym, ◌∙◌, inl, inr, arith, subst, length-append}
use Rattle.std.specs.List.{list_any, range_with_len}
use Rattle.std.proofs.lemmas.Bool.{cases_eq, eq-eqb, ne_eqb, true≢false, false_from_ne_true}
use Rattle.std.proofs.lemmas.Bool.Decides.{nat_tests}
use Rattle.std.proofs.lemmas.List.{get_or-set_same, get_or-set_other}
use Rattle.plat_base.specs.Verdicts.{Answer}
use Rattle.plat_base.specs.Machine.{Machine}
use Rattle.plat_base.specs.Held.{held, kept_of}
use Rattle.plat_base.specs.Messages.{removes_some}
use Rattle.plat_base.specs.Pages.{page_of, entries_of_page}
use Rattle.plat_base.specs.declared.items.Removed.{Removed}
use Rattle.plat_base.specs.declared.items.Removed.TheVariants.{Nothing, Writes, All}
use Rattle.plat_base.specs.declared.items.Translation.{Translation}
use Rattle.plat_base.specs.declared.words.Op.TheVariants as op
use Rattle.plat_base.specs.declared.words.WordName.{WordName}
use Rattle.plat_base.specs.declared.words.WordName.TheVariants as word
use Rattle.plat_events.specs.Words.{has_reference, posted_mask}
use Rattle.plat_events.specs.Places.{entry_count, is_name, is_word}
use Rattle.plat_events.specs.Shootdowns.{PostingOn, Shoot, Target, targets_of, entry_posted, shoot_from, mask_found, shot_after}
use Rattle.plat_events.specs.Sessions.{Course, Phase, Shooting, Session, decision_of, with_phase, with_posts, with_shoot, phase_after}
use Rattle.plat_events.specs.Privates.{InSession, Private, actor_count, translation_at}
use Rattle.plat_events.specs.Events.{at, drop_own, shoot_place}
use Rattle.plat_events.specs.Standings.{is_quiet}
use Rattle.plat_events.specs.Kept.{word_at, private_of}
use Rattle.plat_events.specs.Views.{EntryOk, HeldOk, InvalidateStays, View, PlaceView, view, view_of, held_view, place_view}
use Rattle.plat_events.specs.Views.{page_view, translation_of}
use Rattle.plat_events.specs.Runs.{Fine, event}
use Rattle.plat_events.specs.Shown.{IsReachedAlone, Shows}
use Rattle.plat_laws.specs.Guests.{IsWithinLimits}
use Rattle.plat_laws.proofs.Limits.{nodes-most}
use Rattle.plat_views.specs.Facts.{ViewFacts}
use Rattle.plat_fine_laws.specs.Changes.{Changes}
use Rattle.plat_fine_laws.proofs.PrivateLaws.{private_of-new, private_of-other}
use Rattle.plat_fine_laws.proofs.SessionFootprints.{posting_on-changes}
use Rattle.plat_fine_laws.proofs.ViewFactLaws.{view_facts}
use Rattle.plat_fine_laws.proofs.WordLaws.{word_at-new, word_at-other}
use Rattle.plat_frame_laws.specs.SessionMoved.{SessionLeaves, PairOk}
use Rattle.plat_frame_laws.proofs.SessionMovedLaws as moved
use Rattle.plat_frame_laws.proofs.HandLaws.{alone}
use Rattle.plat_frame_laws.proofs.SessionHereLaws.{here, session, reached-session}
use Rattle.plat_shootdown_laws.specs.Shots.{ShotPhase, ShotWords, is_steady}
use Rattle.plat_shootdown_laws.proofs.ShotPhaseLaws.{phase-shooting, phase-shoot_from}
use Rattle.plat_shootdown_laws.proofs.TargetLaws.{EntryIs, entry-is, any-take_more, any-targets_more}
use Rattle.plat_shootdown_laws.proofs.ShotMovedLaws.{shows-shot}
use Rattle.plat_shootdown_laws.proofs.ShotPairLaws.{posted_by, owed_by, shot_seen, shot-viewed, pair-ok}
use Rattle.plat_shootdown_laws.proofs.ShotStepLaws.{shoot-goes, shoot-scan, shoot-message, step-posts}
use Rattle.plat_shootdown_laws.proofs.ShotKindLaws.{shooting-ok, names, named, encoded}
use Rattle.plat_shootdown_laws.proofs.PostViewLaws.{held_beside, PartsOk, parts-other, parts-own}
use Rattle.plat_shootdown_laws.proofs.PostPairLaws.{next-unposted}

-- ---- the targets of a post

same-target : (e q k : ℕ) → (e == e && k == q) ≡ (k == q)
same-target e q k = ap (λ b. b && k == q) (eq-eqb e e refl)

module _ (e q : ℕ) (keep : ℕ → Bool) where
  abbrev any_target : List ℕ → Bool
  any_target qs = list_any (λ (t : Target). t.entry == e && t.processor == q) (map (λ k. record { entry = e; processor = k }) qs)

  first-other : (lo : ℕ) (b : Bool) (rest : List ℕ) → (lo == q) ≡ false → any_target (cond b (lo ∷ rest) rest) ≡ any_target rest
  first-other lo true rest other = ap (λ b. b || any_target rest) (same-target e q lo ∙ other)
  first-other lo false rest other = refl

  first-here : (lo : ℕ) (b : Bool) (rest : List ℕ) → (lo == q) ≡ true → any_target rest ≡ false → any_target (cond b (lo ∷ rest) rest) ≡ b
  first-here lo true rest same none = ap (λ b. b || any_target rest) (same-target e q lo ∙ same)
  first-here lo false rest same none = none

  none-low : (lo n : ℕ) → q < lo → any_target (filter keep (range_with_len lo n)) ≡ false
  none-low lo zero low = refl
  none-low lo (suc n) low =
      first-other lo (keep lo) (filter keep (range_with_len (lo + 1) n)) (ne_eqb lo q (omega arith)) ∙ none-low (lo + 1) n (omega arith)

  some-kept : (lo n : ℕ) → lo ≤ q → q < lo + n → any_target (filter keep (range_with_len lo n)) ≡ keep q
  some-kept lo zero low high = absurd (omega arith)
  some-kept lo (suc n) low high = by (cases_eq lo q) (λ more. some-kept (lo + 1) n more (omega arith)) (λ less. none-low (lo + 1) n less)
    where
      by : (lo ≡ q) ⊎ (lo ≢ q) → (lo + 1 ≤ q → any_target (filter keep (range_with_len (lo + 1) n)) ≡ keep q) →
          (q < lo + 1 → any_target (filter keep (range_with_len (lo + 1) n)) ≡ false) →
          any_target (cond (keep lo) (lo ∷ filter keep (range_with_len (lo + 1) n)) (filter keep (range_with_len (lo + 1) n))) ≡ keep q
      by (inl same) more less =
          first-here lo (keep lo) (filter keep (range_with_len (lo + 1) n)) (eq-eqb lo q same) (less (omega (arith, same))) ∙ ap keep same
      by (inr apart) more less =
          first-other lo (keep lo) (filter keep (range_with_len (lo + 1) n)) (ne_eqb lo q apart) ∙ more (omega (arith, low, apart))

none_kept : (rem : Removed) (t : Option Translation) → is_some t ≡ false → t ≡ kept_of rem t
none_kept Nothing None h = refl
none_kept Writes None h = refl
none_kept All None h = refl
none_kept rem (Some t) h = absurd cc

module _ (m : Machine) (answer : Answer) (s : Fine) (a : ℕ) (x : Session) (c : Course) (seen : ℕ) (limits : IsWithinLimits m)
    (shows : Shows m answer s) (within : a < actor_count m) (stands : (private_of m s a).place ≡ InSession x)
    (is : x.phase ≡ Shooting c (PostingOn seen))
    (found : word_at m s (word.Cmap (entry_posted m x.fault.page c.posts)) ≡ seen) where
  abbrev p : Private
  p = private_of m s a

  abbrev page : ℕ
  page = x.fault.page

  abbrev rem : Removed
  rem = (decision_of m answer a (private_of m s a).now x c).removed

  abbrev entry : ℕ
  entry = entry_posted m x.fault.page c.posts

  abbrev n : ℕ
  n = word_at m s (word.Cmap (entry_posted m x.fault.page c.posts))

  abbrev t : Fine
  t = event m answer s a

  abbrev posts : List ℕ
  posts = c.posts ++ word_at m s (word.Cmap (entry_posted m x.fault.page c.posts)) ∷ []

  abbrev name : WordName
  name = word.Cmap (entry_posted m x.fault.page c.posts)

  abbrev next : Phase
  next = phase_after m answer a (private_of m s a).now x (word_at m s (word.Cmap (entry_posted m x.fault.page c.posts))) x.phase

  abbrev shoot : Shoot
  shoot = shot_after m a x.fault.page c.posts (word_at m s (word.Cmap (entry_posted m x.fault.page c.posts))) (PostingOn seen)

  -- what it leaves, where the actor has a reference and where it has none
  abbrev dropped : Bool → Private
  dropped b =
      record (at (drop_own (private_of m s a) (decision_of m answer a (private_of m s a).now x c).removed (if b then Some
      (entry_posted m x.fault.page c.posts) else None))
      (shoot_place (with_phase x
      (phase_after m answer a (private_of m s a).now x (word_at m s (word.Cmap (entry_posted m x.fault.page c.posts))) x.phase))
      (shot_after m a x.fault.page c.posts (word_at m s (word.Cmap (entry_posted m x.fault.page c.posts))) (PostingOn seen)))) {
        journal = (private_of m s a).journal;
      }

  abbrev after : Private
  after = dropped (has_reference n a)

  left : length c.posts < length (entries_of_page m x.fault.page)
  left = (shooting-ok m answer s a x c (PostingOn seen) limits shows within stands is).stands.left

  removes : removes_some rem ≡ true
  removes = (shooting-ok m answer s a x c (PostingOn seen) limits shows within stands is).removes

  entry-here : EntryIs m page entry
  entry-here = entry-is m page (length c.posts) left

  there : IsTrue (is_name m name)
  there = named m answer s a x c (PostingOn seen) limits shows within stands is

  fits : IsTrue (is_word m name n)
  fits = shows.words_encoded name there

  equal : (n == seen) ≡ true
  equal = eq-eqb n seen found

  number-is : (if n == seen then posted_mask rem a seen else n) ≡ posted_mask rem a n
  number-is = ap (λ b. if b then posted_mask rem a seen else n) equal ∙ ap (posted_mask rem a) (sym found)

  after-is : dropped ((n == seen) && has_reference n a) ≡ dropped (has_reference n a)
  after-is = ap (λ b. dropped (b && has_reference n a)) equal

  changes : Changes m s t a name (posted_mask rem a n) (dropped (has_reference n a)) None
  changes =
      subst (λ (y : Private). Changes m s t a name (posted_mask rem a n) y None) after-is
      (subst (λ k. Changes m s t a name k (dropped ((n == seen) && has_reference n a)) None) number-is
      (posting_on-changes m answer s a p x (here m answer s a x limits shows within stands) stands c seen is fits))

  reached : IsReachedAlone m answer a (dropped (has_reference n a))
  reached =
      subst (IsReachedAlone m answer a) after-is
      (reached-session m answer s a x limits shows within stands (Shooting c (PostingOn seen)) name
      (op.Exchange seen (posted_mask rem a seen)) n is refl fits)

  written-fits : IsTrue (is_word m name (posted_mask rem a n))
  written-fits =
      subst (λ k. IsTrue (is_word m name k)) number-is (encoded m answer s a x c (PostingOn seen) limits shows within stands is n fits)

  -- ---- the phases

  leads : shoot ≡ shoot_from m a page posts
  leads = ap (λ b. if b then shoot_from m a page posts else mask_found m a page c.posts n) equal

  from : ShotPhase m answer a p.now x c 0 x.phase
  from = subst (ShotPhase m answer a p.now x c 0) (sym is) (phase-shooting m answer a p.now x c c.posts (PostingOn seen))

  to : ShotPhase m answer a p.now x (with_posts c posts) 0 next
  to =
      subst (ShotPhase m answer a p.now x (with_posts c posts) 0)
      (sym (ap (phase_after m answer a p.now x n) is ∙ ap (with_shoot m answer a p.now x c) leads))
      (phase-shoot_from m answer a p.now x c posts (names m answer s a x c (PostingOn seen) limits shows within stands is)
      (let count = length-append c.posts (n ∷ []) in omega (arith, count, left)))

  -- ---- what it leaves

  pmap-other : (b : Bool) (e : ℕ) → e ≢ entry → translation_at (dropped b) e ≡ translation_at p e
  pmap-other true e apart = get_or-set_other p.pmap entry e (kept_of rem (translation_at p entry)) None apart
  pmap-other false e apart = refl

  pmap-entry : (b : Bool) → is_some (translation_at p entry) ≡ b → translation_at (dropped b) entry ≡ kept_of rem (translation_at p entry)
  pmap-entry true some =
      let below = entry-here.below in let all = (alone m answer s limits shows a within).standing.all_entries in
      get_or-set_same p.pmap entry (kept_of rem (translation_at p entry)) None (omega (arith, below, all))
  pmap-entry false none = none_kept rem (translation_at p entry) none

  other-page : (e : ℕ) → page_of m e ≢ page → e ≢ entry
  other-page e apart same = apart (ap (page_of m) same ∙ entry-here.of_page)

  leaves-by : (b : Bool) → SessionLeaves m x.fault.page p (dropped b) (with_phase x next)
  leaves-by true = record {
    turns = refl;
    now = refl;
    guest = refl;
    journal = refl;
    pmap = λ e apart. pmap-other true e (other-page e apart);
    goes = shoot-goes (with_phase x next) shoot;
    scan = shoot-scan (with_phase x next) shoot;
    message = shoot-message m (dropped true) (with_phase x next) shoot;
  }
  leaves-by false = record {
    turns = refl;
    now = refl;
    guest = refl;
    journal = refl;
    pmap = λ e apart. refl;
    goes = shoot-goes (with_phase x next) shoot;
    scan = shoot-scan (with_phase x next) shoot;
    message = shoot-message m (dropped false) (with_phase x next) shoot;
  }

  leaves : SessionLeaves m x.fault.page p (dropped (has_reference n a)) (with_phase x next)
  leaves = leaves-by (has_reference n a)

  mask-other : (e : ℕ) → e < entry_count m → e ≢ entry → word_at m t (word.Cmap e) ≡ word_at m s (word.Cmap e)
  mask-other e below apart =
      word_at-other m s t a name (posted_mask rem a n) after None changes (word.Cmap e) there (grind (arith, nat_tests))
      (λ same. apart (same_entry e entry same))
    where
      same_entry : (i j : ℕ) → word.Cmap i ≡ word.Cmap j → i ≡ j
      same_entry i j h = cc

  words : ShotWords m x.fault.page s t
  words = record {
    steady = λ other named_there steady.
        word_at-other m s t a name (posted_mask rem a n) after None changes other there named_there
        (λ same. true≢false (sym steady ∙ ap is_steady same));
    masks = λ e below apart. mask-other e below (other-page e apart);
  }

  mask-new : word_at m t (word.Cmap entry) ≡ posted_mask rem a n
  mask-new = word_at-new m s t a name (posted_mask rem a n) after None changes shows.all_words there

  history-same : t.history ≡ s.history
  history-same = changes.history

  -- ---- a processor and the entry

  module _ (q : ℕ) (inside : q < m.nodes) where
    abbrev o : Option Translation
    o = translation_of m s q (entry_posted m x.fault.page c.posts)

    abbrev h : Option Translation
    h = held m s.history q (entry_posted m x.fault.page c.posts)

    abbrev pv : PlaceView
    pv = place_view m (private_of m s q) (entry_posted m x.fault.page c.posts)

    abbrev of_entry : ℕ
    of_entry = page_of m (entry_posted m x.fault.page c.posts)

    abbrev owed : Bool
    owed = owed_by m a x.fault.page (c.posts ++ word_at m s (word.Cmap (entry_posted m x.fault.page c.posts)) ∷ []) 0
        (entry_posted m x.fault.page c.posts) q

    first-seen :
        view m answer s q entry
        ≡ view_of q o n (shot_seen a q rem (posted_by m page rem c.posts entry) (owed_by m a page c.posts 0 entry q) (is_quiet x.phase)) pv
        (page_view m s of_entry o)
    first-seen =
        moved.seen-before m answer s t a name (posted_mask rem a n) after x next shows within stands changes leaves q entry
        entry-here.of_page
        ∙ ap (λ sv. view_of q o n sv pv (page_view m s of_entry o)) (shot-viewed m answer a p.now x c 0 x.phase from q entry o)

    facts : ViewFacts (view m answer s q entry)
    facts = view_facts m answer s limits shows (alone m answer s limits shows) q entry inside entry-here.below

    unposted : posted_by m page rem c.posts entry ≡ false
    unposted = next-unposted m page rem c.posts left

    unowed : owed_by m a page c.posts 0 entry q ≡ false
    unowed =
        false_from_ne_true (owed_by m a page c.posts 0 entry q)
        (λ h. true≢false (sym ((subst ViewFacts first-seen facts).owed_posted h).0 ∙ unposted))

    seen-before :
        view m answer s q entry ≡ view_of q o n (shot_seen a q rem false false false) pv (page_view m s of_entry o)
    seen-before =
        first-seen
        ∙ (λ i. view_of q o n (shot_seen a q rem (unposted i) (unowed i) (ap is_quiet is i)) pv (page_view m s of_entry o))

    before-ok : PartsOk m s of_entry q o h n (shot_seen a q rem false false false) pv
    before-ok = record {
      reference = shows.reference_is_pmap q entry inside entry-here.below;
      view_ok = subst EntryOk seen-before (shows.views q entry inside entry-here.below);
      stays = subst InvalidateStays seen-before (shows.invalidates_stay q entry inside entry-here.below);
      held = subst (λ (v : View). HeldOk v (held_beside o h)) seen-before (shows.held_is_pmap q entry inside entry-here.below);
    }

    posted-now : posted_by m page rem posts entry ≡ true
    posted-now =
        ap (λ (k : ℕ). removes_some rem && list_any (λ y. y == entry) (take k (entries_of_page m page))) (length-append c.posts (n ∷ []))
        ∙ (ap (λ b. removes_some rem && b) (any-take_more (λ y. y == entry) (length c.posts) (entries_of_page m page) left)
        ∙ by (removes_some rem) (list_any (λ y. y == entry) (take (length c.posts) (entries_of_page m page))) (entry == entry) removes
        (eq-eqb entry entry refl))
      where
        by : (r b d : Bool) → r ≡ true → d ≡ true → (r && (b || d)) ≡ true
        by true true d e g = refl
        by true false d e g = g
        by false b d e g = absurd cc

    owed-now : owed ≡ (has_reference n q && not (q == a))
    owed-now =
        any-targets_more m a n (λ (y : Target). y.entry == entry && y.processor == q) (entries_of_page m page) c.posts left
        ∙ (ap (λ b. b || list_any (λ (y : Target). y.entry == entry && y.processor == q) (targets_of m a entry n)) unowed
        ∙ some-kept entry q (λ k. has_reference n k && not (k == a)) 0 m.nodes (omega arith) (omega (arith, inside)))

    -- what the invariant says of these parts it says of the state
    pair-from :
        (u : Option Translation) → translation_of m t q entry ≡ u →
        PartsOk m s of_entry q u h (posted_mask rem a n) (shot_seen a q rem true owed (is_quiet next)) pv → PairOk m answer t q entry
    pair-from u translation ok = record {
      reference = (λ i. has_reference (mask-new i) q) ∙ (ok.reference ∙ sym (λ i. is_some (translation i)));
      view_ok = rw seen-after ok.view_ok;
      stays = rw seen-after ok.stays;
      held = rw (seen-after, held-after) ok.held;
    }
      where
        seen-after :
            view m answer t q entry
            ≡ view_of q u (posted_mask rem a n) (shot_seen a q rem true owed (is_quiet next)) pv (page_view m s of_entry u)
        seen-after =
            moved.seen-after m answer s t a name (posted_mask rem a n) after x next shows within stands changes leaves q entry
            u (posted_mask rem a n) translation entry-here.of_page mask-new
            ∙ (ap (λ sv. view_of q u (posted_mask rem a n) sv pv (page_view m s of_entry u))
            (shot-viewed m answer a p.now x (with_posts c posts) 0 next to q entry u)
            ∙ ap (λ b. view_of q u (posted_mask rem a n) (shot_seen a q rem b owed (is_quiet next)) pv (page_view m s of_entry u))
            posted-now)

        held-after : held_view m t q entry ≡ held_beside u h
        held-after =
            moved.held-after m answer s t a name (posted_mask rem a n) after x next shows within stands changes leaves q entry
            u (posted_mask rem a n) translation

    few : q < 8
    few = let most = nodes-most m limits in omega (arith, most, inside)

    pair-entry : PairOk m answer t q entry
    pair-entry = by (cases_eq q a)
      where
        plain-facts : ViewFacts (view_of q o n (shot_seen a q rem false false false) pv (page_view m s of_entry o))
        plain-facts = subst ViewFacts seen-before facts

        and_true : (b : Bool) → (b && not false) ≡ b
        and_true true = refl
        and_true false = refl

        and_false : (b : Bool) → (b && not true) ≡ false
        and_false true = refl
        and_false false = refl

        by : (q ≡ a) ⊎ (q ≢ a) → PairOk m answer t q entry
        by (inr apart) =
            pair-from o (ap (λ (y : Private). translation_at y entry) (private_of-other m s t a name (posted_mask rem a n) after None
            changes q
            apart))
            (parts-other m s of_entry a q o h n pv few owed (is_quiet next) (ne_eqb q a apart) (ne_eqb a q (λ e. apart (sym e)))
            (owed-now ∙ (ap (λ b. has_reference n q && not b) (ne_eqb q a apart) ∙ (and_true (has_reference n q) ∙ before-ok.reference)))
            rem removes before-ok plain-facts)
        by (inl same) =
            let count : a < length s.privates = omega (arith, shows.all_privates) in
            let reference : is_some (translation_at p entry) ≡ has_reference n a =
            subst (λ k. is_some (translation_of m s k entry) ≡ has_reference n k) same (sym before-ok.reference) in
            let own : translation_of m t q entry ≡ kept_of rem o =
            subst (λ k. translation_of m t k entry ≡ kept_of rem (translation_of m s k entry)) (sym same)
            (ap (λ (y : Private). translation_at y entry) (private_of-new m s t a name (posted_mask rem a n) after None changes count)
            ∙ pmap-entry (has_reference n a) reference) in
            pair-from (kept_of rem o) own
            (parts-own m s of_entry a q o h n pv few owed (is_quiet next) (eq-eqb q a same) (eq-eqb a q (sym same))
            (owed-now ∙ (ap (λ b. has_reference n q && not b) (eq-eqb q a same) ∙ and_false (has_reference n q)))
            rem removes before-ok plain-facts)

  -- ---- every processor and entry

  pairs : (q e : ℕ) → q < m.nodes → e < entry_count m → page_of m e ≡ x.fault.page → PairOk m answer t q e
  pairs q e inside below of_page = by (cases_eq e entry)
    where
      by : (e ≡ entry) ⊎ (e ≢ entry) → PairOk m answer t q e
      by (inl same) = subst (PairOk m answer t q) (sym same) (pair-entry q inside)
      by (inr apart) =
          pair-ok m answer s t a name (posted_mask rem a n) after x c 0 0 posts next limits shows within stands changes leaves from to
          q e inside below of_page (mask-other e below apart) (pmap-other (has_reference n a) e apart)
          (step-posts m s a page rem c.posts q e n left (λ same. absurd (apart same)))

  -- the post is made
  pub keeps_post : Shows m answer (event m answer s a)
  keeps_post =
      shows-shot m answer s t a name (posted_mask rem a n) after x c 0 0 posts next limits shows within stands changes there words leaves
      from to pairs (session m answer s a x limits shows within stands).fault.page written-fits reached
