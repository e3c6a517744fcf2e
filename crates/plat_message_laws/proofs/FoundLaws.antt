-- what the invariant says where a scan is about to apply a message: the translation is there, in the private state and in the
-- history, and the message may be applied to it
use Rattle.std.specs.Prelude.{◌≡◌, ℕ, ◌<◌, ◌==◌, ◌&&◌, not, Bool, true, false, Option, Some, None, is_some, slice_get, IsTrue}
use Rattle.std.proofs.Common.{refl, ap, sym, ◌∙◌, arith, subst}
use Rattle.std.specs.Option.{option_map_or}
use Rattle.std.proofs.lemmas.Bool.{and_parts, eqb-true, eq-eqb, false_from_ne_true}
use Rattle.std.proofs.lemmas.Bool.Decides.{nat_tests}
use Rattle.plat_base.specs.Verdicts.{Answer}
use Rattle.plat_base.specs.Machine.{Machine}
use Rattle.plat_base.specs.Pages.{page_of}
use Rattle.plat_base.specs.Held.{held}
use Rattle.plat_base.specs.Rules.{may_apply}
use Rattle.plat_base.specs.declared.items.Message.{Message}
use Rattle.plat_base.specs.declared.items.Message.TheVariants as message
use Rattle.plat_base.specs.declared.items.Moment.{Moment}
use Rattle.plat_base.specs.declared.words.WordName.TheVariants as word
use Rattle.plat_laws.specs.Guests.{IsWithinLimits}
use Rattle.plat_events.specs.Places.{entry_count, is_name, is_word}
use Rattle.plat_events.specs.Privates.{Onward, Applying, actor_count}
use Rattle.plat_events.specs.Scans.{entry_scanned}
use Rattle.plat_events.specs.Standings.{is_quiet, has_granted}
use Rattle.plat_events.specs.Kept.{Running, session_on, message_at, word_at, private_of}
use Rattle.plat_events.specs.Views.{View, session_view, is_restrict, view, held_view, translation_of}
use Rattle.plat_events.specs.Runs.{Fine}
use Rattle.plat_events.specs.Shown.{Shows}
use Rattle.plat_views.specs.Facts.{ViewFacts}
use Rattle.plat_views.proofs.UseLaws.{restrict_answers, invalidate_answers}
use Rattle.plat_local_laws.specs.Standing.{PlaceOk, ScanningOk}
use Rattle.plat_local_laws.specs.Alone.{PrivateOk}
use Rattle.plat_fine_laws.proofs.PrivateLaws.{private_of-get}
use Rattle.plat_fine_laws.proofs.SessionLaws.{runs_on-actor, stands-in}
use Rattle.plat_fine_laws.proofs.AloneLaws.{alone_ok}
use Rattle.plat_fine_laws.proofs.ScanLaws.{entry_of_space}
use Rattle.plat_fine_laws.proofs.ViewFactLaws.{view_facts}
use Rattle.plat_message_laws.proofs.ToldLaws.{invalidate-may, restrict-may, agrees-unmarked}

-- a message that a scan has found is for a translation to which it may be applied
pub record Finds (m : Machine) (s : Fine) (a entry : ℕ) (msg : Message) : Type 0 where
  pub has : is_some (translation_of m s a entry) ≡ true
  pub may : may_apply msg (translation_of m s a entry) ≡ true
  pub may_held : may_apply msg (held m s.history a entry) ≡ true

module _ (m : Machine) (answer : Answer) (s : Fine) (a i : ℕ) (msg : Message) (moment : Moment) (onward : Onward)
    (limits : IsWithinLimits m) (shows : Shows m answer s) (within : a < actor_count m)
    (stands : (private_of m s a).place ≡ Applying i msg moment onward) where
  pub alone : PrivateOk m answer a (private_of m s a)
  alone = alone_ok m answer s a limits shows within

  pub scanning : ScanningOk m answer a (private_of m s a) i moment onward
  scanning = subst (PlaceOk m answer a (private_of m s a)) stands alone.standing.place

  pub here : slice_get s.privates a ≡ Some (private_of m s a)
  here = private_of-get m s a (let inside : a < actor_count m = within in omega (arith, shows.all_privates))

  abbrev entry : ℕ
  entry = entry_scanned m (private_of m s a) i

  pub below : entry < entry_count m
  below = (entry_of_space m (private_of m s a).guest.space i scanning.left).0

  pub named : IsTrue (is_name m (word.Cmap entry))
  named = let inside : entry < entry_count m = below in grind (arith, nat_tests)

  pub found : IsTrue (is_word m (word.Cmap entry) (word_at m s (word.Cmap entry)))
  found = shows.words_encoded (word.Cmap entry) named

  abbrev v : View
  v = view m answer s a entry

  pub facts : ViewFacts v
  facts = view_facts m answer s limits shows (λ b inside. alone_ok m answer s b limits shows inside) a entry scanning.processor below

  is-message : message_at m (private_of m s a) (private_of m s a).place ≡ Some (entry, msg)
  is-message = ap (message_at m (private_of m s a)) stands

  about : (test : Message → Bool) →
      option_map_or (λ (x : ℕ × Message). x.0 == entry && test x.1) (message_at m (private_of m s a) (private_of m s a).place) false
      ≡ test msg
  about test =
      ap (λ o. option_map_or (λ (x : ℕ × Message). x.0 == entry && test x.1) o false) is-message
      ∙ ap (λ b. b && test msg) (eq-eqb entry entry refl)

  pub restricting : v.restricting ≡ is_restrict msg
  restricting = about is_restrict

  pub invalidating : v.invalidating ≡ not (is_restrict msg)
  invalidating = about (λ x. not (is_restrict x))

  -- a session that has granted a translation is quiet, and its actor applies no message
  pub ungranted : v.granted ≡ false
  ungranted = by (session_on s.privates (page_of m entry)) refl
    where
      by : (o : Option Running) → session_on s.privates (page_of m entry) ≡ o →
          (session_view m answer a entry (translation_of m s a entry) o).granted ≡ false
      by None on = refl
      by (Some r) on =
          false_from_ne_true (r.actor == a && has_granted r.session entry)
          (λ is.
          let granted : v.granted ≡ true =
          ap (λ o. (session_view m answer a entry (translation_of m s a entry) o).granted) on ∙ is in
          let quiet : is_quiet r.session.phase ≡ true =
          sym (ap (λ o. (session_view m answer a entry (translation_of m s a entry) o).quiet) on) ∙ (facts.granted_own granted).1 in
          let same : r.actor ≡ a = eqb-true r.actor a (and_parts (r.actor == a) (has_granted r.session entry) is).0 in
          let runs = runs_on-actor m answer s (page_of m entry) r shows on in
          let there =
          stands-in m answer r.actor (private_of m s r.actor) (private_of m s r.actor).place r.session
          (alone_ok m answer s r.actor limits shows runs.actor).standing.place runs.session in
          let none : message_at m (private_of m s a) (private_of m s a).place ≡ None =
          subst (λ b. message_at m (private_of m s b) (private_of m s b).place ≡ None) same (there.message quiet) in
          apart (sym none ∙ is-message))
        where
          apart : ◌≡◌ {A = Option (ℕ × Message)} None (Some (entry, msg)) → ⊥
          apart e = absurd cc

-- ---- each message

pub finds :
    (m : Machine) (answer : Answer) (s : Fine) (a i : ℕ) (msg : Message) (moment : Moment) (onward : Onward) → IsWithinLimits m →
    Shows m answer s → a < actor_count m → (private_of m s a).place ≡ Applying i msg moment onward →
    Finds m s a (entry_scanned m (private_of m s a) i) msg
finds m answer s a i message.Invalidate moment onward limits shows within stands =
    let e = entry_scanned m (private_of m s a) i in
    let nodes = (scanning m answer s a i message.Invalidate moment onward limits shows within stands).processor in
    let inside = below m answer s a i message.Invalidate moment onward limits shows within stands in
    let has : is_some (translation_of m s a e) ≡ true =
    ((shows.invalidates_stay a e nodes inside).waits
    (invalidating m answer s a i message.Invalidate moment onward limits shows within stands)).0 in
    let answers =
    invalidate_answers (view m answer s a e) (held_view m s a e)
    (facts m answer s a i message.Invalidate moment onward limits shows within stands) (shows.held_is_pmap a e nodes inside) has
    (ungranted m answer s a i message.Invalidate moment onward limits shows within stands) in
    record {
      has = has;
      may = invalidate-may (translation_of m s a e) has;
      may_held = invalidate-may (held m s.history a e) answers.0;
    }
finds m answer s a i message.Restrict moment onward limits shows within stands =
    let e = entry_scanned m (private_of m s a) i in
    let nodes = (scanning m answer s a i message.Restrict moment onward limits shows within stands).processor in
    let inside = below m answer s a i message.Restrict moment onward limits shows within stands in
    let is = restricting m answer s a i message.Restrict moment onward limits shows within stands in
    let waits = (shows.views a e nodes inside).restrict_stays is in
    let answers =
    restrict_answers (view m answer s a e) (held_view m s a e)
    (facts m answer s a i message.Restrict moment onward limits shows within stands) (shows.views a e nodes inside)
    (shows.held_is_pmap a e nodes inside) is in
    record {
      has = waits.0;
      may = restrict-may (translation_of m s a e) waits.0 waits.2;
      may_held = restrict-may (held m s.history a e) answers.0
          (agrees-unmarked (translation_of m s a e) (held m s.history a e) answers.1 waits.2);
    }
