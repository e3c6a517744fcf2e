-- the load before a write, and a write that finds another word than was seen, keep the invariant: the actor alone moves
use Rattle.std.specs.Prelude.{◌≡◌, ◌≢◌, ℕ, ◌<◌, false, slice_get, Some, None, IsTrue}
use Rattle.std.proofs.Common.{refl, sym, ◌∙◌, arith, subst}
use Rattle.std.specs.Prelude.{◌==◌}
use Rattle.std.proofs.lemmas.Bool.{ne_eqb}
use Rattle.plat_base.specs.Verdicts.{Answer}
use Rattle.plat_base.specs.Machine.{Machine}
use Rattle.plat_base.specs.declared.words.Op.TheVariants as op
use Rattle.plat_base.specs.declared.words.WordName.{WordName}
use Rattle.plat_events.specs.Places.{is_name, is_word}
use Rattle.plat_events.specs.Privates.{Place, Expecting, Exchanging, actor_count}
use Rattle.plat_events.specs.Events.{at, reach_now, memory_now, word_after, named_next}
use Rattle.plat_events.specs.Kept.{word_at, private_of}
use Rattle.plat_events.specs.Runs.{Fine, event}
use Rattle.plat_events.specs.Shown.{IsReachedAlone, Shows}
use Rattle.plat_laws.specs.Guests.{IsWithinLimits}
use Rattle.plat_local_laws.specs.Words.{NamesWord}
use Rattle.plat_local_laws.proofs.NameLaws.{names_word}
use Rattle.plat_fine_laws.specs.Changes.{Changes, GoesOn, Moves, KeepsWords}
use Rattle.plat_fine_laws.proofs.WordLaws.{KeepsWords-loaded}
use Rattle.plat_fine_laws.proofs.PrivateLaws.{private_of-get}
use Rattle.plat_fine_laws.proofs.PlaceLaws.{moves-on, IsPlain, plain_view}
use Rattle.plat_fine_laws.proofs.ReachedLaws.{reached-moved}
use Rattle.plat_fine_laws.proofs.Footprints.{expect-changes, exchange-failed}
use Rattle.plat_fine_laws.proofs.MovedLaws.{own-entries, shows-moved}

-- a load that leads from a place without a session, a scan or a message to another such place
module _ (m : Machine) (answer : Answer) (s t : Fine) (a : ℕ) (name : WordName) (place : Place) (shows : Shows m answer s)
    (within : a < actor_count m) (changes : Changes m s t a name (word_at m s name) (at (private_of m s a) place) None)
    (from : GoesOn None (private_of m s a).place) (to : GoesOn None place) (plain : IsPlain m (private_of m s a) (private_of m s a).place)
    (plain_there : IsPlain m (at (private_of m s a) place) place) where
  loaded-moves : Moves m a (private_of m s a) (at (private_of m s a) place)
  loaded-moves = moves-on m a (private_of m s a) place None from to

  pub shows-loaded : IsTrue (is_name m name) → IsReachedAlone m answer a (at (private_of m s a) place) → Shows m answer t
  shows-loaded named reached =
      let words : KeepsWords m s t = KeepsWords-loaded m s t a name (at (private_of m s a) place) None changes in
      shows-moved m answer s t a name (word_at m s name) (at (private_of m s a) place) shows within changes loaded-moves named
      (shows.words_encoded name named) words (shows.times_past a within)
      (own-entries m answer s t a name (word_at m s name) (at (private_of m s a) place) shows within changes loaded-moves words
      (λ e. plain_view m (private_of m s a) (at (private_of m s a) place) e refl (to.left ∙ sym from.left) plain plain_there))
      reached

expecting-goes : GoesOn None Expecting
expecting-goes = record { session = refl; over = refl; left = refl; ended = refl; framed = λ e. absurd cc }

exchanging-goes : (seen : ℕ) → GoesOn None (Exchanging seen)
exchanging-goes seen = record { session = refl; over = refl; left = refl; ended = refl; framed = λ e. absurd cc }

module _ (m : Machine) (answer : Answer) (s : Fine) (a : ℕ) (limits : IsWithinLimits m) (shows : Shows m answer s)
    (within : a < actor_count m) where
  here : slice_get s.privates a ≡ Some (private_of m s a)
  here = private_of-get m s a (omega (arith, shows.all_privates))

  abbrev name : WordName
  name = memory_now m a (private_of m s a)

  named : (place : Place) → (private_of m s a).place ≡ place → NamesWord m (named_next m answer a (private_of m s a) place)
  named place stands =
      subst (λ (x : Place). NamesWord m (named_next m answer a (private_of m s a) x)) stands
      (names_word m answer a (private_of m s a) limits within (shows.reached_alone a within))

  pub keeps_expect : (private_of m s a).place ≡ Expecting → Shows m answer (event m answer s a)
  keeps_expect stands =
      let there : IsTrue (is_name m name) = named Expecting stands in
      let found : IsTrue (is_word m name (word_at m s name)) = shows.words_encoded name there in
      shows-loaded m answer s (event m answer s a) a name (Exchanging (word_at m s name)) shows within
      (expect-changes m answer s a (private_of m s a) here stands found)
      (subst (GoesOn None) (sym stands) expecting-goes) (exchanging-goes (word_at m s name))
      (subst (IsPlain m (private_of m s a)) (sym stands) (record { scan = refl; message = refl })) (record { scan = refl; message = refl })
      there
      (reached-moved m answer a (private_of m s a) Expecting (word_at m s name) name op.Load
      (shows.reached_alone a within) stands refl found)

  pub keeps_failed_exchange :
      (seen : ℕ) → (private_of m s a).place ≡ Exchanging seen → word_at m s name ≢ seen → Shows m answer (event m answer s a)
  keeps_failed_exchange seen stands other =
      let there : IsTrue (is_name m name) = named (Exchanging seen) stands in
      let found : IsTrue (is_word m name (word_at m s name)) = shows.words_encoded name there in
      let unequal : (word_at m s name == seen) ≡ false = ne_eqb (word_at m s name) seen other in
      shows-loaded m answer s (event m answer s a) a name (Exchanging (word_at m s name)) shows within
      (exchange-failed m answer s a (private_of m s a) here seen stands other found)
      (subst (GoesOn None) (sym stands) (exchanging-goes seen)) (exchanging-goes (word_at m s name))
      (subst (IsPlain m (private_of m s a)) (sym stands) (record { scan = refl; message = refl })) (record { scan = refl; message = refl })
      there
      (rw unequal at
      (reached-moved m answer a (private_of m s a) (Exchanging seen) (word_at m s name) name
      (op.Exchange seen (word_after (reach_now m a (private_of m s a)) seen)) (shows.reached_alone a within) stands refl found))
