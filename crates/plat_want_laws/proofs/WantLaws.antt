-- along a run: a processor on its way to its end for want of a frame has found every pool to be 0
use Rattle.std.specs.Prelude.{◌≡◌, ◌≢◌, ℕ, zero, suc, ◌<◌, ◌==◌, if◌then◌else◌, Bool, true, false, List, [], ◌∷◌, map, take, Option, Some}
use Rattle.std.specs.Prelude.{None, slice_get, slice_index, slice_index_or}
use Rattle.std.specs.List.{fold}
use Rattle.std.specs.Option.{option_map}
use Rattle.std.proofs.Common.{refl, ap, sym, ◌∙◌, arith, subst}
use Rattle.std.proofs.lemmas.Bool.{cond_both, eqb-true, eqb-false}
use Rattle.std.proofs.lemmas.List.{get_or-set_same, get_or-set_other}
use Rattle.std.proofs.lemmas.List.FromFn.{get_or-map-range_with_len}
use Rattle.std.proofs.lemmas.Option.{get_or_from_slice_get, slice_get_within}
use Rattle.plat_base.specs.Verdicts.{Answer}
use Rattle.plat_base.specs.Machine.{Machine}
use Rattle.plat_base.specs.declared.endings.End.{End}
use Rattle.plat_base.specs.declared.endings.End.TheVariants as end
use Rattle.plat_base.specs.declared.endings.Ended.{Ended}
use Rattle.plat_base.specs.declared.items.Item.{Item}
use Rattle.plat_base.specs.declared.words.Op.{Op}
use Rattle.plat_base.specs.declared.words.WordName.{WordName}
use Rattle.plat_events.specs.Operations.{told}
use Rattle.plat_events.specs.Privates.{Place, Polling, Looking, Applying, Ticking, Switching, Loading, Expecting, Exchanging, Locking}
use Rattle.plat_events.specs.Privates.{InSession, Leaving, Lessening, Gone, LiveLooking, TimeLooking, Over, NewTurn, Private, actor_count}
use Rattle.plat_events.specs.Privates.{first_private}
use Rattle.plat_events.specs.Events.{named_next, placed, next_of, moved_at, item_at, is_followed, after_if, after}
use Rattle.plat_events.specs.Kept.{word_at, private_of}
use Rattle.plat_events.specs.Runs.{Fine, fine_start, event_at, event_by, event, run, end_at, ended_by, ends_of}
use Rattle.plat_events.specs.Shown.{goes_to}
use Rattle.plat_want_laws.specs.Emptied.{emptied_in, operation_next, Watched, watch, watch_start, emptied, HasEachModule}
use Rattle.plat_want_laws.proofs.PlaceLaws.{PlaceHas, PrivateHas, starved-has, list_after, told_by, place-goes, place-stays}

-- ---- ends

ended-stands :
    (n : ℕ) (privates : List Private) (a : ℕ) (d : Private) (e : Ended) → slice_get (map ended_by (take n privates)) a ≡ Some e →
    end_at (slice_index_or privates a d).place ≡ e.end
ended-stands zero privates a d e h = absurd cc
ended-stands (suc n) [] a d e h = absurd cc
ended-stands (suc n) (p ∷ privates) zero d e h =
    let same : ended_by p ≡ e = cc in ap (λ (x : Ended). x.end) same
ended-stands (suc n) (p ∷ privates) (suc a) d e h = ended-stands n privates a d e h

-- a processor that has ended so is on its way there
ended-goes : (place : Place) → end_at place ≡ end.NoFrames → goes_to place ≡ Some end.NoFrames
ended-goes (Polling onward) h = absurd cc
ended-goes (Looking i moment onward) h = absurd cc
ended-goes (Applying i message moment onward) h = absurd cc
ended-goes Ticking h = absurd cc
ended-goes (Switching space) h = absurd cc
ended-goes Loading h = absurd cc
ended-goes Expecting h = absurd cc
ended-goes (Exchanging seen) h = absurd cc
ended-goes (Locking fault) h = absurd cc
ended-goes (InSession s) h = absurd cc
ended-goes (Leaving e) h = absurd cc
ended-goes (Lessening e) h = absurd cc
ended-goes (Gone e) h = ap (λ (x : End). Some x) h
ended-goes LiveLooking h = absurd cc
ended-goes TimeLooking h = absurd cc
ended-goes Over h = absurd cc

-- ---- one event

module _ (m : Machine) (answer : Answer) (a : ℕ) (s : Fine) (modules : List ℕ) where
  -- the operation of the actor's place finds n
  after-has :
      (p : Private) (n : ℕ) → a ≢ m.nodes → PrivateHas m answer a modules p →
      PrivateHas m answer a (list_after (named_next m answer a p p.place) n modules)
      (after m answer a p (told_by (named_next m answer a p p.place) n))
  unfolding after
  after-has p n processor has =
      by (is_followed m (named_next m answer a p p.place) (told_by (named_next m answer a p p.place) n))
      (item_at m answer a p (told_by (named_next m answer a p p.place) n) p.place)
    where
      by : (b : Bool) (made : Option Item) →
          PrivateHas m answer a (list_after (named_next m answer a p p.place) n modules)
          (after_if b p (moved_at m answer a p (told_by (named_next m answer a p p.place) n) p.place) made)
      by true made = place-goes m answer a modules p n p.place processor has has
      by false made = place-stays m answer a modules p n p.place has

  -- without an event the list may be longer, and the actor stays
  still-has :
      PrivateHas m answer a modules (private_of m s a) →
      PrivateHas m answer a (emptied_in m s (operation_next m answer s a) modules) (private_of m s a)
  still-has has = by (operation_next m answer s a) refl
    where
      by : (o : Option (WordName × Op)) → operation_next m answer s a ≡ o →
          PrivateHas m answer a (emptied_in m s o modules) (private_of m s a)
      by None named = has
      by (Some x) named =
          subst (λ o. PrivateHas m answer a (list_after o (word_at m s x.0) modules) (private_of m s a)) named
          (place-stays m answer a modules (private_of m s a) (word_at m s x.0) (private_of m s a).place has)

  here : (p : Private) → slice_get s.privates a ≡ Some p → private_of m s a ≡ p
  here p stands = get_or_from_slice_get s.privates a p (first_private m a) stands

  module _ (p : Private) (stands : slice_get s.privates a ≡ Some p) (processor : a ≢ m.nodes) (has : PrivateHas m answer a modules p) where
    made-has :
        (o : Option (WordName × Op)) → named_next m answer a p p.place ≡ o →
        PrivateHas m answer a (emptied_in m s o modules) (private_of m (event_at m answer s a p (option_map (placed m) o)) a)
    made-has None named = subst (PrivateHas m answer a modules) (sym (here p stands)) has
    made-has (Some x) named =
        let n = word_at m s x.0 in
        let new : private_of m (event_at m answer s a p (Some (placed m x))) a ≡ after m answer a p (told x.1 n) =
        get_or-set_same s.privates a (after m answer a p (told x.1 n)) (first_private m a) (slice_get_within s.privates a p stands) in
        subst (PrivateHas m answer a (emptied_in m s (Some x) modules)) (sym new)
        (subst (λ o. PrivateHas m answer a (list_after o n modules) (after m answer a p (told_by o n))) named (after-has p n processor has))

    event-has :
        PrivateHas m answer a (emptied_in m s (operation_next m answer s a) modules)
        (private_of m (event_at m answer s a p (next_of m answer a p)) a)
    unfolding next_of
    event-has =
        subst
        (λ (x : Private). PrivateHas m answer a (emptied_in m s (named_next m answer a x x.place) modules)
        (private_of m (event_at m answer s a p (option_map (placed m) (named_next m answer a p p.place))) a))
        (sym (here p stands)) (made-has (named_next m answer a p p.place) refl)

  -- its own event
  own-has :
      a ≢ m.nodes → PrivateHas m answer a modules (private_of m s a) →
      PrivateHas m answer a (emptied_in m s (operation_next m answer s a) modules) (private_of m (event m answer s a) a)
  own-has processor has = by (slice_get s.privates a) refl
    where
      by : (o : Option Private) → slice_get s.privates a ≡ o →
          PrivateHas m answer a (emptied_in m s (operation_next m answer s a) modules) (private_of m (event_by m answer s a o) a)
      by None stands = still-has has
      by (Some p) stands = event-has p stands processor (subst (PrivateHas m answer a modules) (here p stands) has)

  -- the event of another actor
  other-has :
      (b : ℕ) → (a ≡ b → ⊥) → PrivateHas m answer a modules (private_of m s a) →
      PrivateHas m answer a modules (private_of m (event m answer s b) a)
  other-has b apart has = by (slice_get s.privates b)
    where
      at_event : (p : Private) (x : Option (ℕ × Op)) → PrivateHas m answer a modules (private_of m (event_at m answer s b p x) a)
      at_event p None = has
      at_event p (Some x) =
          subst (PrivateHas m answer a modules)
          (sym (get_or-set_other s.privates b a (after m answer b p (told x.1 (slice_index s.words x.0))) (first_private m a) apart)) has

      by : (o : Option Private) → PrivateHas m answer a modules (private_of m (event_by m answer s b o) a)
      by None = has
      by (Some p) = at_event p (next_of m answer b p)

-- ---- runs

module _ (m : Machine) (answer : Answer) (a : ℕ) where
  -- what is watched has what the list is to have
  abbrev pub WatchedHas : Watched → Type 0
  WatchedHas x = PrivateHas m answer a x.modules (private_of m x.fine a)

  watch-has : (x : Watched) (b : ℕ) → a ≢ m.nodes → WatchedHas x → WatchedHas (watch m answer a x b)
  watch-has x b processor has = by (b == a) refl
    where
      by : (c : Bool) → (b == a) ≡ c →
          PrivateHas m answer a (if c then emptied_in m x.fine (operation_next m answer x.fine a) x.modules else x.modules)
          (private_of m (event m answer x.fine b) a)
      by true same =
          subst
          (λ o. PrivateHas m answer a (emptied_in m x.fine (operation_next m answer x.fine a) x.modules)
          (private_of m (event m answer x.fine o) a))
          (sym (eqb-true b a same)) (own-has m answer a x.fine x.modules processor has)
      by false apart = other-has m answer a x.fine x.modules b (λ same. eqb-false b a apart (sym same)) has

  all-has : (who : List ℕ) (x : Watched) → a ≢ m.nodes → WatchedHas x → WatchedHas (fold (watch m answer a) x who)
  all-has [] x processor has = has
  all-has (b ∷ who) x processor has = all-has who (watch m answer a x b) processor (watch-has x b processor has)

  -- the state is that of the run
  watched-fine : (who : List ℕ) (x : Watched) → (fold (watch m answer a) x who).fine ≡ fold (event m answer) x.fine who
  watched-fine [] x = refl
  watched-fine (b ∷ who) x = watched-fine who (watch m answer a x b)

  start-has : a < m.nodes → WatchedHas (watch_start m)
  start-has node =
      let first : private_of m (fine_start m) a ≡ first_private m a =
      get_or-map-range_with_len (first_private m) 0 (actor_count m) a a (first_private m a) (omega (arith, node)) (omega arith) in
      subst (PrivateHas m answer a []) (sym first)
      (cond_both (a == m.nodes) LiveLooking (Polling NewTurn) (PlaceHas m answer a 0 []) (λ h. tt) (λ h. tt))

  -- the list of a run has what it is to have
  run-has : (who : List ℕ) → a < m.nodes → PrivateHas m answer a (emptied m answer a who) (private_of m (run m answer who) a)
  unfolding emptied run
  run-has who node =
      subst (λ s. PrivateHas m answer a (fold (watch m answer a) (watch_start m) who).modules (private_of m s a))
      (watched-fine who (watch_start m)) (all-has who (watch_start m) (λ same. omega (arith, same, node)) (start-has node))

  pub run-goes :
      (who : List ℕ) → a < m.nodes → goes_to (private_of m (run m answer who) a).place ≡ Some end.NoFrames →
      HasEachModule m (emptied m answer a who)
  run-goes who node goes =
      starved-has m answer a (private_of m (run m answer who) a).now (emptied m answer a who) (private_of m (run m answer who) a).place
      (run-has who node) goes

  pub run-ends :
      (who : List ℕ) (e : Ended) → a < m.nodes → slice_get (ends_of m (run m answer who).privates) a ≡ Some e → e.end ≡ end.NoFrames →
      HasEachModule m (emptied m answer a who)
  run-ends who e node stands starved =
      let here = ended-stands m.nodes (run m answer who).privates a (first_private m a) e stands in
      run-goes who node (ended-goes (private_of m (run m answer who) a).place (here ∙ starved))
