-- the facts of views hold in every state with the invariant, by what the actors alone say of their sessions
use Rattle.std.specs.Prelude.{◌≡◌, ◌≢◌, ◌⊎◌, ℕ, zero, suc, ◌+◌, ◌<◌, ◌≤◌, ◌==◌, ◌&&◌, ◌||◌, not, if◌then◌else◌, Bool, true, false, List, []}
use Rattle.std.specs.Prelude.{◌∷◌, map, length, take, drop, filter, cond, slice_index, Option, Some, None}
use Rattle.std.proofs.Common.{refl, ap, sym, ◌∙◌, inl, inr, arith, subst}
use Rattle.std.specs.Option.{option_map_or}
use Rattle.std.specs.List.{list_any, range_with_len, zip, flat_map}
use Rattle.std.proofs.lemmas.Bool.{and_parts, eqb-true, eq-eqb, ne_eqb, true≢false, not-true, cases_eq, or_cases, or_right, or_left}
use Rattle.std.proofs.lemmas.Option.{same_Some}
use Rattle.std.proofs.lemmas.List.{take_all, nil_from_length}
use Rattle.std.proofs.lemmas.List.Folds.{list_any-append}
use Rattle.std.proofs.lemmas.Bool.{and_from}
use Rattle.plat_base.specs.Verdicts.{Answer}
use Rattle.plat_base.specs.Machine.{Machine}
use Rattle.plat_base.specs.Pages.{numbers, page_of, space_of, entries_of_page, entries_of_space}
use Rattle.plat_base.specs.Directories.{dir_of}
use Rattle.plat_base.specs.Copies.{same_frame}
use Rattle.plat_base.specs.Decide.{is_dir, has_copies}
use Rattle.plat_base.specs.Alike.{same_bool, same_grant}
use Rattle.plat_base.specs.Messages.{removes_some}
use Rattle.plat_base.specs.declared.frames.Frame.{Frame}
use Rattle.plat_base.specs.declared.frames.Dir.{Dir}
use Rattle.plat_base.specs.declared.frames.State.TheVariants.{Empty, Modified}
use Rattle.plat_base.specs.declared.items.Message.{Message}
use Rattle.plat_base.specs.declared.items.Removed.{Removed}
use Rattle.plat_base.specs.declared.items.Removed.TheVariants.{Nothing, Writes, All}
use Rattle.plat_base.specs.declared.items.Translation.{Translation}
use Rattle.plat_base.specs.declared.words.WordName.TheVariants.{Cmap}
use Rattle.plat_laws.specs.Guests.{IsWithinLimits}
use Rattle.plat_laws.proofs.GuestLaws.{IsReach-wanted}
use Rattle.plat_laws.proofs.TableLaws.{dir_parts}
use Rattle.plat_laws.proofs.Limits.{page_of-below}
use Rattle.plat_events.specs.Words.{has_reference}
use Rattle.plat_events.specs.Places.{entry_count}
use Rattle.plat_events.specs.Shootdowns.{Target, targets_of, targets}
use Rattle.plat_events.specs.Sessions.{Course, Phase, Stamping, Seeking, Taking, Returning, Shooting, Filling, Reading, Copying, Giving}
use Rattle.plat_events.specs.Sessions.{Storing, Granting, Unlocking, Session, decision_of, going, translation_made}
use Rattle.plat_events.specs.Privates.{Polling, Looking, Applying, Ticking, Switching, Loading, Expecting, Exchanging, Locking, InSession}
use Rattle.plat_events.specs.Privates.{Leaving, Lessening, Gone, LiveLooking, TimeLooking, Over, Private, Place, actor_count}
use Rattle.plat_events.specs.Events.{reach_now, entry_of}
use Rattle.plat_events.specs.Standings.{course_of, is_quiet, unlocking_of, shot_passed, targets_left, frames_given, removes_by, posts_of}
use Rattle.plat_events.specs.Standings.{has_given, has_granted}
use Rattle.plat_events.specs.Kept.{Running, session_on, session_of, has_left, activation_at, message_at, is_copy_of, is_active}
use Rattle.plat_events.specs.Kept.{is_unscanned, is_usable, word_at, private_of}
use Rattle.plat_events.specs.Views.{Nobody, Another, Own, View, SessionView, no_session, session_viewed, session_view, place_view}
use Rattle.plat_events.specs.Views.{page_view, names_copy, view_of, view, is_granted_by, is_marked, is_about_to, is_restrict}
use Rattle.plat_events.specs.Views.{same_translation, translation_of}
use Rattle.plat_events.specs.Runs.{Fine}
use Rattle.plat_events.specs.Shown.{Shows}
use Rattle.plat_views.specs.Facts.{ViewFacts}
use Rattle.plat_local_laws.specs.Phases.{SessionOk, PhaseOk}
use Rattle.plat_local_laws.specs.Standing.{PlaceOk}
use Rattle.plat_local_laws.specs.Alone.{PrivateOk}
use Rattle.plat_fine_laws.proofs.TableFacts.{decided-writes, decided-all, decided-given}
use Rattle.plat_fine_laws.proofs.SessionLaws.{runs_on-actor, session-ok, StandsIn, stands-in}
use Rattle.plat_fine_laws.proofs.PlaceLaws.{unscanned-none}
use Rattle.plat_fine_laws.proofs.ScanLaws.{entry_of_space}
use Rattle.plat_local_laws.proofs.RunningLaws.{phase-course}

-- ---- lists

list_any-drop : {A : Type 0} (test : A → Bool) (k : ℕ) (xs : List A) → list_any test (drop k xs) ≡ true → list_any test xs ≡ true
list_any-drop test zero xs h = h
list_any-drop test (suc k) [] h = h
list_any-drop test (suc k) (x ∷ xs) h = more (test x) (list_any-drop test k xs h)
  where
    more : (b : Bool) → list_any test xs ≡ true → (b || list_any test xs) ≡ true
    more true there = refl
    more false there = there

list_any-take : {A : Type 0} (test : A → Bool) (k : ℕ) (xs : List A) → list_any test (take k xs) ≡ true → list_any test xs ≡ true
list_any-take test zero xs h = absurd cc
list_any-take test (suc k) [] h = h
list_any-take test (suc k) (x ∷ xs) h = more (test x) h (λ there. list_any-take test k xs there)
  where
    more : (b : Bool) → (b || list_any test (take k xs)) ≡ true → (list_any test (take k xs) ≡ true → list_any test xs ≡ true) →
        (b || list_any test xs) ≡ true
    more true there rest = refl
    more false there rest = rest there

-- ---- phases

quiet-no_targets : (ts : List Target) (ph : Phase) → is_quiet ph ≡ true → targets_left ts ph ≡ []
quiet-no_targets ts Stamping quiet = absurd cc
quiet-no_targets ts (Seeking st i) quiet = absurd cc
quiet-no_targets ts (Taking st i seen) quiet = absurd cc
quiet-no_targets ts Returning quiet = absurd cc
quiet-no_targets ts (Shooting c shot) quiet = absurd cc
quiet-no_targets ts (Filling c w) quiet = refl
quiet-no_targets ts (Reading c w) quiet = refl
quiet-no_targets ts (Copying c w seen) quiet = refl
quiet-no_targets ts (Giving c k) quiet = refl
quiet-no_targets ts (Storing c) quiet = refl
quiet-no_targets ts (Granting c) quiet = refl
quiet-no_targets ts (Unlocking c) quiet = refl

-- where a target is left the session has a course, and it removes something
left-shoots :
    (m : Machine) (answer : Answer) (a : ℕ) (p : Private) (x : Session) (test : Target → Bool) (ts : List Target) (ph : Phase) →
    PhaseOk m answer a p x ph → list_any test (targets_left ts ph) ≡ true →
    (c : Course) × (course_of ph ≡ Some c) × (removes_some (decision_of m answer a p.now x c).removed ≡ true)
left-shoots m answer a p x test ts Stamping ok h = absurd cc
left-shoots m answer a p x test ts (Seeking st i) ok h = absurd cc
left-shoots m answer a p x test ts (Taking st i seen) ok h = absurd cc
left-shoots m answer a p x test ts Returning ok h = absurd cc
left-shoots m answer a p x test ts (Shooting c shot) ok h = (c, refl, ok.removes)
left-shoots m answer a p x test ts (Filling c w) ok h = absurd cc
left-shoots m answer a p x test ts (Reading c w) ok h = absurd cc
left-shoots m answer a p x test ts (Copying c w seen) ok h = absurd cc
left-shoots m answer a p x test ts (Giving c k) ok h = absurd cc
left-shoots m answer a p x test ts (Storing c) ok h = absurd cc
left-shoots m answer a p x test ts (Granting c) ok h = absurd cc
left-shoots m answer a p x test ts (Unlocking c) ok h = absurd cc

-- the targets that are left are among all
left-among :
    (test : Target → Bool) (ts : List Target) (ph : Phase) → list_any test (targets_left ts ph) ≡ true → list_any test ts ≡ true
left-among test ts Stamping h = absurd cc
left-among test ts (Seeking st i) h = absurd cc
left-among test ts (Taking st i seen) h = absurd cc
left-among test ts Returning h = absurd cc
left-among test ts (Shooting c shot) h = list_any-drop test (shot_passed shot) ts h
left-among test ts (Filling c w) h = absurd cc
left-among test ts (Reading c w) h = absurd cc
left-among test ts (Copying c w seen) h = absurd cc
left-among test ts (Giving c k) h = absurd cc
left-among test ts (Storing c) h = absurd cc
left-among test ts (Granting c) h = absurd cc
left-among test ts (Unlocking c) h = absurd cc

-- frames are given back only behind the shootdown
given-quiet :
    (test : Frame → Bool) (fs : List Frame) (ph : Phase) → list_any test (frames_given fs ph) ≡ true →
    (is_quiet ph ≡ true) × (list_any test fs ≡ true)
given-quiet test fs Stamping h = absurd cc
given-quiet test fs (Seeking st i) h = absurd cc
given-quiet test fs (Taking st i seen) h = absurd cc
given-quiet test fs Returning h = absurd cc
given-quiet test fs (Shooting c shot) h = absurd cc
given-quiet test fs (Filling c w) h = absurd cc
given-quiet test fs (Reading c w) h = absurd cc
given-quiet test fs (Copying c w seen) h = absurd cc
given-quiet test fs (Giving c k) h = (refl, list_any-take test k fs h)
given-quiet test fs (Storing c) h = (refl, h)
given-quiet test fs (Granting c) h = (refl, h)
given-quiet test fs (Unlocking c) h = (refl, h)

-- a session that grants is about to unlock
unlocking-quiet : (ph : Phase) (c : Course) → unlocking_of ph ≡ Some c → (is_quiet ph ≡ true) × (course_of ph ≡ Some c)
unlocking-quiet Stamping c h = absurd cc
unlocking-quiet (Seeking st i) c h = absurd cc
unlocking-quiet (Taking st i seen) c h = absurd cc
unlocking-quiet Returning c h = absurd cc
unlocking-quiet (Shooting d shot) c h = absurd cc
unlocking-quiet (Filling d w) c h = absurd cc
unlocking-quiet (Reading d w) c h = absurd cc
unlocking-quiet (Copying d w seen) c h = absurd cc
unlocking-quiet (Giving d k) c h = absurd cc
unlocking-quiet (Storing d) c h = absurd cc
unlocking-quiet (Granting d) c h = absurd cc
unlocking-quiet (Unlocking d) c h = (refl, h)

-- ---- targets and entries

abbrev is_target : (e q : ℕ) → Target → Bool
is_target e q t = t.entry == e && t.processor == q

any-targets_of :
    (a entry mask e q : ℕ) (ns : List ℕ) →
    list_any (is_target e q) (map (λ n. record { entry = entry; processor = n }) (filter (λ n. has_reference mask n && not
    (n == a)) ns)) ≡ true →
    ((entry == e) ≡ true) × (q ≢ a)
any-targets_of a entry mask e q [] h = absurd cc
any-targets_of a entry mask e q (n ∷ ns) h =
    by (has_reference mask n && not (n == a)) refl h (λ there. any-targets_of a entry mask e q ns there)
  where
    rest : List Target
    rest = map (λ k. record { entry = entry; processor = k }) (filter (λ k. has_reference mask k && not (k == a)) ns)

    first : (has_reference mask n && not (n == a)) ≡ true → (entry == e && n == q) ≡ true → ((entry == e) ≡ true) × (q ≢ a)
    first passes is =
        let parts = and_parts (entry == e) (n == q) is in let other = and_parts (has_reference mask n) (not (n == a)) passes in
        let same : n ≡ q = eqb-true n q parts.1 in
        (parts.0, λ own. true≢false (sym (eq-eqb n a (same ∙ own)) ∙ not-true (n == a) other.1))

    either :
        (has_reference mask n && not (n == a)) ≡ true → ((entry == e && n == q) ≡ true) ⊎ (list_any (is_target e q) rest ≡ true) →
        (list_any (is_target e q) rest ≡ true → ((entry == e) ≡ true) × (q ≢ a)) → ((entry == e) ≡ true) × (q ≢ a)
    either passes (inl here) more = first passes here
    either passes (inr there) more = more there

    by : (b : Bool) → (has_reference mask n && not (n == a)) ≡ b →
        list_any (is_target e q) (map (λ k. record { entry = entry; processor = k }) (cond b (n ∷ filter (λ k. has_reference mask k && not
        (k == a)) ns) (filter (λ k. has_reference mask k && not (k == a)) ns))) ≡ true →
        (list_any (is_target e q) rest ≡ true → ((entry == e) ≡ true) × (q ≢ a)) → ((entry == e) ≡ true) × (q ≢ a)
    by true passes h more = either passes (or_cases (entry == e && n == q) (list_any (is_target e q) rest) h) more
    by false passes h more = more h

any-targets :
    (m : Machine) (a e q : ℕ) (es posts : List ℕ) →
    list_any (is_target e q) (flat_map (λ (x : ℕ × ℕ). targets_of m a x.0 x.1) (zip es posts)) ≡ true →
    (list_any (λ x. x == e) (take (length posts) es) ≡ true) × (q ≢ a)
any-targets m a e q [] posts h = absurd cc
any-targets m a e q (x ∷ es) [] h = absurd cc
any-targets m a e q (x ∷ es) (n ∷ posts) h =
    by
    (or_cases (list_any (is_target e q) (targets_of m a x n)) (list_any (is_target e q) (flat_map (λ (y : ℕ × ℕ). targets_of m a y.0 y.1)
    (zip es posts)))
    (sym (list_any-append (is_target e q) (targets_of m a x n) (flat_map (λ (y : ℕ × ℕ). targets_of m a y.0 y.1) (zip es posts))) ∙ h))
    (λ there. any-targets m a e q es posts there)
  where
    by : (list_any (is_target e q) (targets_of m a x n) ≡ true)
        ⊎ (list_any (is_target e q) (flat_map (λ (y : ℕ × ℕ). targets_of m a y.0 y.1) (zip es posts)) ≡ true) →
        (list_any (is_target e q) (flat_map (λ (y : ℕ × ℕ). targets_of m a y.0 y.1) (zip es posts)) ≡ true →
        (list_any (λ y. y == e) (take (length posts) es) ≡ true) × (q ≢ a)) →
        ((x == e || list_any (λ y. y == e) (take (length posts) es)) ≡ true) × (q ≢ a)
    by (inl here) more =
        let is = any-targets_of a x n e q (numbers m.nodes) here in
        (or_left (x == e) (list_any (λ y. y == e) (take (length posts) es)) is.0, is.1)
    by (inr there) more = let is = more there in (or_right (x == e) (list_any (λ y. y == e) (take (length posts) es)) is.0, is.1)

pub among-range :
    (test : ℕ → Bool) (a n e : ℕ) → a ≤ e → e < a + n → test e ≡ true →
    list_any (λ x. x == e) (filter test (range_with_len a n)) ≡ true
among-range test a zero e low high passes = absurd (omega arith)
among-range test a (suc n) e low high passes =
    by (cases_eq a e) (λ above. among-range test (a + 1) n e above (omega arith) passes)
  where
    rest : List ℕ
    rest = filter test (range_with_len (a + 1) n)

    keep : (b : Bool) → list_any (λ x. x == e) rest ≡ true → list_any (λ x. x == e) (cond b (a ∷ rest) rest) ≡ true
    keep true there = or_right (a == e) (list_any (λ x. x == e) rest) there
    keep false there = there

    here : a ≡ e → (b : Bool) → b ≡ true → list_any (λ x. x == e) (cond b (a ∷ rest) rest) ≡ true
    here same true is = or_left (a == e) (list_any (λ x. x == e) rest) (eq-eqb a e same)
    here same false is = absurd cc

    by : (a ≡ e) ⊎ (a ≢ e) → (a + 1 ≤ e → list_any (λ x. x == e) rest ≡ true) →
        list_any (λ x. x == e) (cond (test a) (a ∷ rest) rest) ≡ true
    by (inl same) more = here same (test a) (ap test same ∙ passes)
    by (inr apart) more = keep (test a) (more (omega arith))

entry_of_page : (m : Machine) (e : ℕ) → e < entry_count m → list_any (λ x. x == e) (entries_of_page m (page_of m e)) ≡ true
entry_of_page m e below =
    among-range (λ x. page_of m x == page_of m e) 0 (entry_count m) e (omega arith) (omega arith) (eq-eqb (page_of m e) (page_of m e) refl)

some-or : (r : Removed) → r ≢ Nothing → removes_some r ≡ true
some-or Nothing h = absurd (h refl)
some-or Writes h = refl
some-or All h = refl

-- ---- where a processor stands

message-active :
    (m : Machine) (answer : Answer) (q : ℕ) (p : Private) (place : Place) (x : ℕ × Message) → PlaceOk m answer q p place →
    message_at m p place ≡ Some x → (space_of m x.0 ≡ p.guest.space) × (has_left place ≡ false)
message-active m answer q p (Polling onward) x ok h = absurd cc
message-active m answer q p (Looking i moment onward) x ok h = absurd cc
message-active m answer q p (Applying i msg moment onward) x ok h =
    let same : slice_index (entries_of_space m p.guest.space) i ≡ x.0 = cc in
    (ap (space_of m) (sym same) ∙ (entry_of_space m p.guest.space i ok.left).1, refl)
message-active m answer q p Ticking x ok h = absurd cc
message-active m answer q p (Switching space) x ok h = absurd cc
message-active m answer q p Loading x ok h = absurd cc
message-active m answer q p Expecting x ok h = absurd cc
message-active m answer q p (Exchanging seen) x ok h = absurd cc
message-active m answer q p (Locking fault) x ok h = absurd cc
message-active m answer q p (InSession y) x ok h = absurd cc
message-active m answer q p (Leaving e) x ok h = absurd cc
message-active m answer q p (Lessening e) x ok h = absurd cc
message-active m answer q p (Gone e) x ok h = absurd cc
message-active m answer q p LiveLooking x ok h = absurd cc
message-active m answer q p TimeLooking x ok h = absurd cc
message-active m answer q p Over x ok h = absurd cc

about_to-active :
    (m : Machine) (answer : Answer) (q : ℕ) (p : Private) (e : ℕ) (test : Message → Bool) → PlaceOk m answer q p p.place →
    is_about_to m p e test ≡ true → is_active m p e ≡ true
about_to-active m answer q p e test ok h = by (message_at m p p.place) refl h
  where
    by : (o : Option (ℕ × Message)) → message_at m p p.place ≡ o →
        option_map_or (λ (x : ℕ × Message). x.0 == e && test x.1) o false ≡ true → is_active m p e ≡ true
    by None is h = absurd cc
    by (Some x) is h =
        let parts = and_parts (x.0 == e) (test x.1) h in let there = message-active m answer q p p.place x ok is in
        let space : space_of m e ≡ p.guest.space = ap (space_of m) (sym (eqb-true x.0 e parts.0)) ∙ there.0 in
        let active : (space_of m e == p.guest.space) ≡ true = eq-eqb (space_of m e) p.guest.space space in
        rw (active, there.1) refl

-- ---- small tests

third_true : (a b c : Bool) → (a && b && c) ≡ true → c ≡ true
third_true true true true h = refl
third_true true true false h = absurd cc
third_true true false c h = absurd cc
third_true false b c h = absurd cc

unmarked : (b : Bool) → same_bool b false ≡ true → b ≡ false
unmarked true h = absurd cc
unmarked false h = refl

own-if : (b : Bool) → (if b then Own else Another) ≡ Own → b ≡ true
own-if true h = refl
own-if false h = absurd cc

nobody-if : (b : Bool) → (if b then Own else Another) ≢ Nobody
nobody-if true = λ e. absurd cc
nobody-if false = λ e. absurd cc

kept-not : (copy given : Bool) → copy ≡ true → (copy && not given) ≡ false → given ≡ true
kept-not true true h k = refl
kept-not true false h k = absurd cc
kept-not false given h k = absurd cc

kept-copy : (copy given : Bool) → (copy && not given) ≡ true → copy ≡ true
kept-copy true given h = refl
kept-copy false given h = absurd cc

-- a page with a copy is not empty
copy-some : (m : Machine) (d : Dir) (x : Option Translation) → is_dir m d ≡ true → names_copy d x ≡ true → d.state ≢ Empty
copy-some m d None fits copy = absurd cc
copy-some m d (Some y) fits copy = λ empty.
    let count : has_copies Empty (length d.copies) ≡ true = ap (λ st. has_copies st (length d.copies)) (sym empty) ∙
    (dir_parts m d fits).2 in
    let none : d.copies ≡ [] = nil_from_length d.copies (eqb-true (length d.copies) 0 count) in
    true≢false (sym copy ∙ ap (λ fs. is_copy_of fs y.grant.frame) none)

-- the entry of a session that is about to unlock
granted-parts :
    (x : Session) (e : ℕ) → has_granted x e ≡ true → (c : Course) × (unlocking_of x.phase ≡ Some c) × (x.fault.entry ≡ Some e)
granted-parts x e h = by (unlocking_of x.phase) refl h
  where
    entry : (o : Option ℕ) → option_map_or (λ k. k == e) o false ≡ true → o ≡ Some e
    entry None h = absurd cc
    entry (Some k) h = ap (λ n. Some n) (eqb-true k e h)

    by : (o : Option Course) → unlocking_of x.phase ≡ o →
        option_map_or (λ (c : Course). option_map_or (λ k. k == e) x.fault.entry false) o false ≡ true →
        (c : Course) × (unlocking_of x.phase ≡ Some c) × (x.fault.entry ≡ Some e)
    by None is h = absurd cc
    by (Some c) is h = (c, is, entry x.fault.entry h)

-- ---- a session on the page

module _ (m : Machine) (answer : Answer) (s : Fine) (q e a : ℕ) (x : Session) (inside : q < m.nodes) (below : e < entry_count m)
    (is : session_of (private_of m s a).place ≡ Some x) (on : x.fault.page ≡ page_of m e)
    (alone : PrivateOk m answer a (private_of m s a)) (dir : x.dir ≡ dir_of s.history (page_of m e))
    (posts : is_quiet x.phase ≡ true → removes_some (removes_by m answer a (private_of m s a).now x) ≡ true →
    length (posts_of x) ≡ length (entries_of_page m (page_of m e))) where
  ok : SessionOk m answer a (private_of m s a) x
  ok = session-ok m answer a (private_of m s a) (private_of m s a).place x alone.standing.place is

  stands : StandsIn m (private_of m s a) (private_of m s a).place x
  stands = stands-in m answer a (private_of m s a) (private_of m s a).place x alone.standing.place is

  abbrev sv : SessionView
  sv = session_viewed m answer q e (translation_of m s q e) (record { actor = a; now = (private_of m s a).now; session = x })

  removes-course :
      (c : Course) → course_of x.phase ≡ Some c → sv.removes ≡ (decision_of m answer a (private_of m s a).now x c).removed
  removes-course c course =
      ap (λ (o : Option Course). option_map_or (λ d. (decision_of m answer a (private_of m s a).now x d).removed) o Nothing) course

  own-actor : sv.whose ≡ Own → a ≡ q
  own-actor own = eqb-true a q (own-if (a == q) own)

  owed-facts : sv.owed ≡ true → (sv.posted ≡ true) × (sv.whose ≡ Another)
  owed-facts h =
      let ts = targets m a x.fault.page (posts_of x) in
      let shoots = left-shoots m answer a (private_of m s a) x (is_target e q) ts x.phase ok.phase h in
      let there =
      any-targets m a e q (entries_of_page m x.fault.page) (posts_of x) (left-among (is_target e q) ts x.phase h) in
      let some : removes_some sv.removes ≡ true = ap removes_some (removes-course shoots.0 shoots.1) ∙ shoots.2 in
      let apart : (a == q) ≡ false = ne_eqb a q (λ same. there.1 (sym same)) in (
        and_from (removes_some sv.removes) (list_any (λ k. k == e) (take (length (posts_of x))
            (entries_of_page m x.fault.page))) some there.0,
        ap (λ b. if b then Own else Another) apart,
      )

  posted-facts : sv.posted ≡ true → sv.removes ≢ Nothing
  posted-facts h nothing =
      let some = and_parts (removes_some sv.removes) (list_any (λ k. k == e) (take (length (posts_of x))
      (entries_of_page m x.fault.page))) h in
      true≢false (sym some.0 ∙ ap removes_some nothing)

  quiet-owed : sv.quiet ≡ true → sv.owed ≡ false
  quiet-owed quiet = ap (list_any (is_target e q)) (quiet-no_targets (targets m a x.fault.page (posts_of x)) x.phase quiet)

  quiet-posted : sv.quiet ≡ true → sv.removes ≢ Nothing → sv.posted ≡ true
  quiet-posted quiet some =
      let removes : removes_some sv.removes ≡ true = some-or sv.removes some in
      let es = entries_of_page m x.fault.page in
      let count : length es ≡ length (posts_of x) = ap (λ pg. length (entries_of_page m pg)) on ∙ sym (posts quiet removes) in
      let whole : take (length (posts_of x)) es ≡ es = take_all (length (posts_of x)) es (omega (arith, count)) in
      let among : list_any (λ k. k == e) es ≡ true =
      ap (λ pg. list_any (λ k. k == e) (entries_of_page m pg)) on ∙ entry_of_page m e below in
      and_from (removes_some sv.removes) (list_any (λ k. k == e) (take (length (posts_of x)) es)) removes
      (ap (list_any (λ k. k == e)) whole ∙ among)

  granted-facts : sv.granted ≡ true → (sv.whose ≡ Own) × (sv.quiet ≡ true) × (is_active m (private_of m s q) e ≡ true)
  granted-facts h =
      let parts = and_parts (a == q) (has_granted x e) h in
      let same : a ≡ q = eqb-true a q parts.0 in
      let grant = granted-parts x e parts.1 in
      let processor : a < m.nodes = omega (arith, same, inside) in
      let fault = ok.fault.access processor in
      let entry : e ≡ entry_of m (reach_now m a (private_of m s a)) =
      same_Some e (entry_of m (reach_now m a (private_of m s a))) (sym grant.2 ∙ fault.entry) in
      let r = reach_now m a (private_of m s a) in
      let reach = IsReach-wanted m a (private_of m s a).guest r.kind r.space r.addr r.operand fault.wants in
      let space : space_of m e ≡ (private_of m s a).guest.space = ap (space_of m) entry ∙ (reach.in_space ∙ reach.space) in
      let here : (space_of m e == (private_of m s a).guest.space) ≡ true = eq-eqb (space_of m e) (private_of m s a).guest.space space in
      let active : is_active m (private_of m s a) e ≡ true =
      and_from (space_of m e == (private_of m s a).guest.space) (not (has_left (private_of m s a).place)) here (ap not stands.left) in (
        ap (λ b. if b then Own else Another) parts.0,
        (unlocking-quiet x.phase grant.0 grant.1).0,
        subst (λ b. is_active m (private_of m s b) e ≡ true) same active,
      )

  writes-facts : sv.removes ≡ Writes → (dir_of s.history (page_of m e)).state ≡ Modified
  writes-facts h = by (course_of x.phase) h
    where
      by : (o : Option Course) →
          option_map_or (λ c. (decision_of m answer a (private_of m s a).now x c).removed) o Nothing ≡ Writes →
          (dir_of s.history (page_of m e)).state ≡ Modified
      by None h = absurd cc
      by (Some c) h =
          ap (λ (d : Dir). d.state) (sym dir)
          ∙ decided-writes m answer x.dir c.stamp.last (private_of m s a).now a c.got x.fault.cause h

  all-facts : sv.removes ≡ All → (dir_of s.history (page_of m e)).state ≢ Empty
  all-facts h = by (course_of x.phase) refl h
    where
      by : (o : Option Course) → course_of x.phase ≡ o →
          option_map_or (λ c. (decision_of m answer a (private_of m s a).now x c).removed) o Nothing ≡ All →
          (dir_of s.history (page_of m e)).state ≢ Empty
      by None is h = absurd cc
      by (Some c) is h = λ empty.
          decided-all m answer x.dir c.stamp.last (private_of m s a).now a c.got x.fault.cause
          (phase-course m answer a (private_of m s a) x x.phase c ok.phase is).may h (ap (λ (d : Dir). d.state) dir ∙ empty)

  own-usable : sv.whose ≡ Own → is_active m (private_of m s q) e ≡ true → is_usable m (private_of m s q) e ≡ true
  own-usable own active =
      let scan : activation_at (private_of m s q).place ≡ None =
      subst (λ b. activation_at (private_of m s b).place ≡ None) (own-actor own) stands.scan in
      and_from (is_active m (private_of m s q) e) (not (is_unscanned m (private_of m s q) e)) active
      (ap not (unscanned-none m (private_of m s q) e scan))

  own-quiet : sv.whose ≡ Own → sv.quiet ≡ true → is_about_to m (private_of m s q) e is_restrict ≡ false
  own-quiet own quiet =
      let none : message_at m (private_of m s q) (private_of m s q).place ≡ None =
      subst (λ b. message_at m (private_of m s b) (private_of m s b).place ≡ None) (own-actor own) (stands.message quiet) in
      ap (λ (o : Option (ℕ × Message)). option_map_or (λ (y : ℕ × Message). y.0 == e && is_restrict y.1) o false) none

  given-facts : sv.given ≡ true → (sv.quiet ≡ true) × (sv.removes ≡ All)
  given-facts h = translated (translation_of m s q e) h
    where
      by : (f : Frame) (o : Option Course) → course_of x.phase ≡ o →
          option_map_or
          (λ c. list_any (same_frame f) (frames_given (going x.dir (decision_of m answer a
          (private_of m s a).now x c)) x.phase)) o false ≡ true →
          (is_quiet x.phase ≡ true) × (sv.removes ≡ All)
      by f None is h = absurd cc
      by f (Some c) is h =
          let given = given-quiet (same_frame f) (going x.dir (decision_of m answer a (private_of m s a).now x c)) x.phase h in (
            given.0,
            removes-course c is
                ∙ decided-given m answer x.dir c.stamp.last (private_of m s a).now a x.fault.cause c.got f
                (phase-course m answer a (private_of m s a) x x.phase c ok.phase is).may ok.dir given.1,
          )

      translated :
          (o : Option Translation) →
          option_map_or (λ (y : Translation). has_given m answer a (private_of m s a).now x y.grant.frame) o false ≡ true →
          (is_quiet x.phase ≡ true) × (sv.removes ≡ All)
      translated None h = absurd cc
      translated (Some y) h = by y.grant.frame (course_of x.phase) refl h

  mine-facts : sv.mine ≡ true → (sv.granted ≡ true) × (is_marked (translation_of m s q e) ≡ false)
  mine-facts h =
      let parts =
      and_parts sv.granted
      (is_granted_by m answer (record { actor = a; now = (private_of m s a).now; session = x }) e (translation_of m s q e)) h in
      (parts.0, translated (translation_of m s q e) parts.1)
    where
      made : (y : Translation) (o : Option Course) →
          option_map_or (λ c. same_translation y (translation_made m answer a (private_of m s a).now x c e)) o false ≡ true →
          y.restricted ≡ false
      made y None h = absurd cc
      made y (Some c) h =
          let u = translation_made m answer a (private_of m s a).now x c e in
          unmarked y.restricted (third_true (same_grant y.grant u.grant) (y.seq == u.seq) (same_bool y.restricted false) h)

      translated :
          (o : Option Translation) →
          is_granted_by m answer (record { actor = a; now = (private_of m s a).now; session = x }) e o ≡ true → is_marked o ≡ false
      translated None h = refl
      translated (Some y) h = made y (unlocking_of x.phase) h

-- ---- the facts

module _ (m : Machine) (answer : Answer) (s : Fine) (limits : IsWithinLimits m) (shows : Shows m answer s)
    (alone : (a : ℕ) → a < actor_count m → PrivateOk m answer a (private_of m s a)) (q e : ℕ) (inside : q < m.nodes)
    (below : e < entry_count m) where
  abbrev seen : SessionView → View
  seen x =
      view_of q (translation_of m s q e) (word_at m s (Cmap e)) x (place_view m (private_of m s q) e)
      (page_view m s (page_of m e) (translation_of m s q e))

  actor-q : q < actor_count m
  actor-q = omega arith

  fits : is_dir m (dir_of s.history (page_of m e)) ≡ true
  fits = shows.copies_fit (page_of m e) (page_of-below m e limits below)

  copied : names_copy (dir_of s.history (page_of m e)) (translation_of m s q e) ≡ true → (dir_of s.history (page_of m e)).state ≢ Empty
  copied copy = copy-some m (dir_of s.history (page_of m e)) (translation_of m s q e) fits copy

  about : (test : Message → Bool) → is_about_to m (private_of m s q) e test ≡ true → is_active m (private_of m s q) e ≡ true
  about test h = about_to-active m answer q (private_of m s q) e test (alone q actor-q).standing.place h

  facts-none : ViewFacts (seen no_session)
  facts-none = record {
    idle = λ h. (refl, refl, refl, refl);
    owed_posted = λ h. absurd cc;
    posted_removes = λ h. absurd cc;
    quiet_owed = λ h. absurd cc;
    quiet_posted = λ h. absurd cc;
    granted_own = λ h. absurd cc;
    writes_modified = λ h. absurd cc;
    all_not_empty = λ h. absurd cc;
    usable_active = λ h. (and_parts (is_active m (private_of m s q) e) (not (is_unscanned m (private_of m s q) e)) h).0;
    restricting_active = about is_restrict;
    invalidating_active = about (λ msg. not (is_restrict msg));
    own_usable = λ h. absurd cc;
    own_quiet = λ h. absurd cc;
    given_all = λ h. absurd cc;
    copy_given = λ copy kept. kept-not (names_copy (dir_of s.history (page_of m e)) (translation_of m s q e)) false copy kept;
    kept_copy = kept-copy (names_copy (dir_of s.history (page_of m e)) (translation_of m s q e)) false;
    copy_not_empty = copied;
    mine_granted = λ h. absurd cc;
  }

  facts-some : (r : Running) → session_on s.privates (page_of m e) ≡ Some r →
      ViewFacts (seen (session_viewed m answer q e (translation_of m s q e) r))
  facts-some r on =
      let runs = runs_on-actor m answer s (page_of m e) r shows on in
      let p = private_of m s r.actor in
      let posts : is_quiet r.session.phase ≡ true → removes_some (removes_by m answer r.actor p.now r.session) ≡ true →
      length (posts_of r.session) ≡ length (entries_of_page m (page_of m e)) =
      λ quiet some. shows.posts_made (page_of m e) r on quiet
      (ap (λ n. removes_some (removes_by m answer r.actor n r.session)) runs.now ∙ some) in
      let dir : r.session.dir ≡ dir_of s.history (page_of m e) = shows.dir_read_is (page_of m e) r on in
      let ok : PrivateOk m answer r.actor p = alone r.actor runs.actor in
      subst (λ n. ViewFacts (seen (session_viewed m answer q e (translation_of m s q e)
      (record { actor = r.actor; now = n; session = r.session }))))
      (sym runs.now)
      (record {
        idle = λ h. absurd (nobody-if (r.actor == q) h);
        owed_posted = owed-facts m answer s q e r.actor r.session inside below runs.session runs.on ok dir posts;
        posted_removes = posted-facts m answer s q e r.actor r.session inside below runs.session runs.on ok dir posts;
        quiet_owed = quiet-owed m answer s q e r.actor r.session inside below runs.session runs.on ok dir posts;
        quiet_posted = quiet-posted m answer s q e r.actor r.session inside below runs.session runs.on ok dir posts;
        granted_own = granted-facts m answer s q e r.actor r.session inside below runs.session runs.on ok dir posts;
        writes_modified = writes-facts m answer s q e r.actor r.session inside below runs.session runs.on ok dir posts;
        all_not_empty = all-facts m answer s q e r.actor r.session inside below runs.session runs.on ok dir posts;
        usable_active = λ h. (and_parts (is_active m (private_of m s q) e) (not (is_unscanned m (private_of m s q) e)) h).0;
        restricting_active = about is_restrict;
        invalidating_active = about (λ msg. not (is_restrict msg));
        own_usable = own-usable m answer s q e r.actor r.session inside below runs.session runs.on ok dir posts;
        own_quiet = own-quiet m answer s q e r.actor r.session inside below runs.session runs.on ok dir posts;
        given_all = given-facts m answer s q e r.actor r.session inside below runs.session runs.on ok dir posts;
        copy_given = kept-not (names_copy (dir_of s.history (page_of m e)) (translation_of m s q e))
            (option_map_or (λ (y : Translation). has_given m answer r.actor p.now r.session y.grant.frame) (translation_of m s q e) false);
        kept_copy = kept-copy (names_copy (dir_of s.history (page_of m e)) (translation_of m s q e))
            (option_map_or (λ (y : Translation). has_given m answer r.actor p.now r.session y.grant.frame) (translation_of m s q e) false);
        copy_not_empty = copied;
        mine_granted = mine-facts m answer s q e r.actor r.session inside below runs.session runs.on ok dir posts;
      })

  pub view_facts : ViewFacts (view m answer s q e)
  view_facts = by (session_on s.privates (page_of m e)) refl
    where
      by : (o : Option Running) → session_on s.privates (page_of m e) ≡ o →
          ViewFacts (seen (session_view m answer q e (translation_of m s q e) o))
      by None on = facts-none
      by (Some r) on = facts-some r on
