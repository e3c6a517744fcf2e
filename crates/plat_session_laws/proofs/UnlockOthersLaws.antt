-- the unlock with a change leaves all other pages
use Rattle.std.specs.Prelude.{◌≡◌, ◌≢◌, ◌⊎◌, ℕ, ◌<◌, ◌==◌, if◌then◌else◌, Bool, true, false, List, [], ◌∷◌, ◌++◌, Option, Some, None}
use Rattle.std.specs.Prelude.{slice_index_or}
use Rattle.std.proofs.Common.{refl, ap, sym, ◌∙◌, inl, inr, arith}
use Rattle.std.specs.Option.{option_map, option_map_or}
use Rattle.std.proofs.lemmas.Bool.{cases_eq, eq-eqb, ne_eqb}
use Rattle.plat_base.specs.Verdicts.{Answer}
use Rattle.plat_base.specs.Machine.{Machine}
use Rattle.plat_base.specs.GuestRun.{Reach}
use Rattle.plat_base.specs.Pages.{page_of}
use Rattle.plat_base.specs.Flat.{flat_value, flat_writes}
use Rattle.plat_base.specs.Held.{held, kept_of, granted_to, later}
use Rattle.plat_base.specs.Directories.{dir_of, seq_of, last_of}
use Rattle.plat_base.specs.Turns.{grant_of}
use Rattle.plat_base.specs.declared.items.Change.{Change}
use Rattle.plat_base.specs.declared.items.Item.{Item}
use Rattle.plat_base.specs.declared.items.Item.TheVariants as item
use Rattle.plat_base.specs.declared.items.Translation.{Translation}
use Rattle.plat_base.specs.declared.words.WordName.TheVariants as word
use Rattle.plat_laws.specs.Guests.{IsWithinLimits}
use Rattle.plat_laws.proofs.GuestLaws.{IsReach-wanted}
use Rattle.plat_laws.proofs.ItemLaws.{held-change, held-change_other, flat_value-change, flat_writes-change}
use Rattle.plat_events.specs.Words.{dir_word}
use Rattle.plat_events.specs.Sessions.{Fault, Course, Session, Unlocking, change_made, decision_of}
use Rattle.plat_events.specs.Privates.{InSession, Private, actor_count, translation_at}
use Rattle.plat_events.specs.Events.{entry_of, reach_now, reach_wanted, with_item}
use Rattle.plat_events.specs.Kept.{Running, session_on, session_of, private_of}
use Rattle.plat_events.specs.Views.{translation_of}
use Rattle.plat_events.specs.Runs.{Fine, event}
use Rattle.plat_events.specs.Shown.{Shows}
use Rattle.plat_local_laws.specs.Faults.{IsFaultNow}
use Rattle.plat_local_laws.specs.Phases.{SessionOk}
use Rattle.plat_local_laws.proofs.CourseLaws.{IsActor}
use Rattle.plat_local_laws.proofs.StandingLaws.{actor-is}
use Rattle.plat_fine_laws.proofs.PrivateLaws.{private_of-new, private_of-other}
use Rattle.plat_fine_laws.proofs.SessionLaws.{RunsOn, runs_on-actor}
use Rattle.plat_frame_laws.specs.Phased.{running}
use Rattle.plat_frame_laws.proofs.SessionHereLaws.{session}
use Rattle.plat_session_laws.specs.OnePage.{LeavesOthers}
use Rattle.plat_session_laws.proofs.PageLaws.{others}
use Rattle.plat_session_laws.proofs.ChangeFieldLaws.{other-dir, other-seq, other-last, other-later}
use Rattle.plat_session_laws.proofs.UnlockFieldLaws.{unlock-after, unlock-changes, unlock-named, unlock-on}
use Rattle.plat_session_laws.proofs.UnlockLeavesLaws.{unlock-goes, unlocks}

-- what is held of an entry stays where the change is of another page, and grants another entry
pub held-apart :
    (m : Machine) (items : List Item) (c : Change) (q e : ℕ) → page_of m e ≢ c.page →
    ((t : Option Translation) → granted_to e c.seq c.granted t ≡ t) → held m (items ++ item.Change c ∷ []) q e ≡ held m items q e
held-apart m items c q e apart grants = held-change m items c q e ∙ by (c.actor == q)
  where
    still : granted_to e c.seq c.granted (if page_of m e == c.page then kept_of c.removed (held m items q e) else held m items q e)
        ≡ held m items q e
    still =
        ap (λ b. granted_to e c.seq c.granted (if b then kept_of c.removed (held m items q e) else held m items q e))
        (ne_eqb (page_of m e) c.page apart)
        ∙ grants (held m items q e)

    by :
        (b : Bool) →
        (if b then granted_to e c.seq c.granted (if page_of m e == c.page then kept_of c.removed (held m items q e) else held m items q e)
        else held m items q e)
        ≡ held m items q e
    by true = still
    by false = refl

module _ (m : Machine) (answer : Answer) (s : Fine) (a : ℕ) (x : Session) (c : Course) (limits : IsWithinLimits m)
    (shows : Shows m answer s)
    (within : a < actor_count m) (stands : (private_of m s a).place ≡ InSession x) (is : x.phase ≡ Unlocking c) where
  abbrev p : Private
  p = private_of m s a

  abbrev page : ℕ
  page = x.fault.page

  abbrev made : Change
  made = change_made m answer a (private_of m s a).now x c

  abbrev t : Fine
  t = event m answer s a

  history : t.history ≡ s.history ++ item.Change made ∷ []
  history = (unlock-changes m answer s a x c limits shows within stands is).history

  -- the entry of the fault is one of the page
  entry-page : (f : ℕ) → x.fault.entry ≡ Some f → page_of m f ≡ page
  entry-page f entry = by (actor-is m a within)
    where
      ok : SessionOk m answer a p x
      ok = session m answer s a x limits shows within stands

      same : (i k : ℕ) → Some i ≡ Some k → k ≡ i
      same i k e = cc

      by : IsActor m a → page_of m f ≡ page
      by (inl node) =
          let fault : IsFaultNow m a p x.fault = ok.fault.access node in
          let r : Reach = reach_now m a p in
          let reach = IsReach-wanted m a p.guest r.kind r.space r.addr r.operand fault.wants in
          ap (page_of m) (same (entry_of m (reach_now m a p)) f (sym fault.entry ∙ entry))
          ∙ sym (fault.page ∙ (ap (λ (y : Reach). y.page) (ap (reach_wanted m) fault.wants) ∙ reach.page))
      by (inr daemon) = let none : x.fault.entry ≡ None = ap (λ (y : Fault). y.entry) (ok.fault.thaw daemon) in absurd cc

  grants-other : (e : ℕ) → page_of m e ≢ page → (o : Option Translation) → granted_to e made.seq made.granted o ≡ o
  grants-other e apart o = by x.fault.entry refl
    where
      by :
          (f : Option ℕ) → x.fault.entry ≡ f →
          granted_to e made.seq (option_map (λ k. grant_of k x.fault.cause (decision_of m answer a p.now x c)) f) o ≡ o
      by None entry = refl
      by (Some f) entry =
          ap (λ b. if b then Some (record {
            grant = grant_of f x.fault.cause (decision_of m answer a p.now x c);
            seq = made.seq;
            restricted = false;
          }) else o)
          (ne_eqb f e (λ h. apart (ap (page_of m) (sym h) ∙ entry-page f entry)))

  sole : (y : Running) → session_on s.privates page ≡ Some y → y.actor ≡ a
  sole y there = by y (sym (unlock-on m answer s a x c limits shows within stands is) ∙ there)
    where
      by : (y : Running) → Some (running a p.now x) ≡ Some y → y.actor ≡ a
      by y e = ap (λ o. option_map_or (λ (z : Running). z.actor) o a) (sym e)

  translation-same : (q e : ℕ) → translation_of m t q e ≡ translation_of m s q e
  translation-same q e = by (cases_eq q a)
    where
      by : (q ≡ a) ⊎ (q ≢ a) → translation_of m t q e ≡ translation_of m s q e
      by (inl same) =
          rw same
          (ap (λ (y : Private). translation_at y e)
          (private_of-new m s t a _ _ _ _ (unlock-changes m answer s a x c limits shows within stands is)
          (omega (arith, shows.all_privates)))
          ∙ ap (λ l. slice_index_or l e None) (unlocks m answer a p x c (with_item p.journal (Some (item.Change made)))).pmap)
      by (inr other) =
          ap (λ (y : Private). translation_at y e)
          (private_of-other m s t a _ _ _ _ (unlock-changes m answer s a x c limits shows within stands is) q other)

  pub unlock-leaves : LeavesOthers m s (event m answer s a) x.fault.page
  unlock-leaves = record {
    pages = λ k apart. record {
      session =
          others m answer s t a (word.Dir page) (dir_word (decision_of m answer a p.now x c).after false)
          (unlock-after m answer s a x c limits shows within stands is) (Some (item.Change made)) page limits shows within
          (unlock-changes m answer s a x c limits shows within stands is) (unlock-named m answer s a x c limits shows within stands is)
          (eq-eqb page page refl) (unlock-goes m answer a p x c stands) sole k apart;
      dir = ap (λ h. dir_of h k) history ∙ other-dir s.history made k apart;
      seq = ap (λ h. seq_of h k) history ∙ other-seq s.history made k apart;
      last = ap (λ h. last_of h k) history ∙ other-last s.history made k apart;
      removals = λ test seq. ap (λ h. later test h k seq) history ∙ other-later s.history made k apart test seq;
    };
    flat = λ k w apart. record {
      value = ap (λ h. flat_value m h k w) history ∙ flat_value-change m s.history made k w;
      writes = ap (λ h. flat_writes h k w) history ∙ flat_writes-change s.history made k w;
    };
    holds = λ q e below apart. ap (λ h. held m h q e) history ∙ held-apart m s.history made q e apart (grants-other e apart);
    translations = λ q e apart. translation-same q e;
    faults = λ k e r apart on entry.
        ap (λ h. held m h r.actor e) history
        ∙ held-change_other m s.history made r.actor e
        (λ same.
        let runs : RunsOn m s k r = runs_on-actor m answer s k r shows on in
        apart (sym runs.on ∙ own r (sym runs.session ∙ (ap (λ b. session_of (private_of m s b).place) (sym same) ∙ ap session_of stands))));
  }
    where
      own : (r : Running) → Some r.session ≡ Some x → r.session.fault.page ≡ page
      own r e = ap (λ o. option_map_or (λ (z : Session). z.fault.page) o page) e
