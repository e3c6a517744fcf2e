-- an operation that changes neither a translation nor a session, makes no item, and writes no word but an interrupt's
use Rattle.std.specs.Prelude.{◌≡◌, ℕ, ◌+◌, ◌<◌, ◌≤◌, if◌then◌else◌, Some, None, IsTrue, slice_get}
use Rattle.std.proofs.Common.{refl, ap, sym, ◌∙◌, arith}
use Rattle.std.proofs.lemmas.Bool.Decides.{nat_tests}
use Rattle.plat_base.specs.Verdicts.{Answer}
use Rattle.plat_base.specs.Machine.{Machine}
use Rattle.plat_base.specs.Held.{held, later}
use Rattle.plat_base.specs.Directories.{dir_of, seq_of, last_of}
use Rattle.plat_base.specs.Flat.{flat_value, flat_writes}
use Rattle.plat_base.specs.declared.words.WordName.{WordName}
use Rattle.plat_base.specs.declared.words.WordName.TheVariants as word
use Rattle.plat_events.specs.Places.{is_name, is_word}
use Rattle.plat_events.specs.Privates.{Private, actor_count}
use Rattle.plat_events.specs.Kept.{word_at, private_of}
use Rattle.plat_events.specs.Views.{place_view}
use Rattle.plat_events.specs.Runs.{Fine, ends_of}
use Rattle.plat_events.specs.Shown.{act_of, IsReachedAlone, Shows}
use Rattle.plat_fine_laws.specs.Changes.{Changes, Moves, Stays, LeavesPages, AreEntriesOk, KeepsWords, KeepsPageWords, is_page_word}
use Rattle.plat_fine_laws.specs.Changes.{is_read}
use Rattle.plat_fine_laws.specs.Placed.{Scans}
use Rattle.plat_fine_laws.proofs.PrivateLaws.{private_of-get}
use Rattle.plat_fine_laws.proofs.ActorFieldLaws.{each-private}
use Rattle.plat_fine_laws.proofs.EndFieldLaws.{turns-still, live-still, ends-still}
use Rattle.plat_fine_laws.proofs.PlacedLaws.{Scans-still}
use Rattle.plat_fine_laws.proofs.StayLaws

page_word-read : (m : Machine) (name : WordName) → IsTrue (is_page_word name) → IsTrue (is_read m name)
page_word-read m word.Time page = absurd cc
page_word-read m word.Live page = absurd cc
page_word-read m (word.Act q) page = absurd cc
page_word-read m (word.Intr q) page = absurd cc
page_word-read m (word.Dir p) page = refl
page_word-read m (word.Stamp p) page = refl
page_word-read m (word.Cmap e) page = refl
page_word-read m (word.Pool mo) page = refl
page_word-read m (word.Memory mo f w) page = absurd cc

module _ (m : Machine) (answer : Answer) (s t : Fine) (a : ℕ) (name : WordName) (number : ℕ) (p : Private)
    (shows : Shows m answer s) (within : a < actor_count m) (changes : Changes m s t a name number p None)
    (moves : Moves m a (private_of m s a) p) where
  here : slice_get s.privates a ≡ Some (private_of m s a)
  here = private_of-get m s a (omega (arith, shows.all_privates))

  history-same : t.history ≡ s.history
  history-same = changes.history

  stays : Stays m a (private_of m s a) p None
  stays = record {
    pmap = moves.pmap;
    running = moves.running;
    journal = moves.journal;
    own = λ i e. absurd cc;
    framed = moves.framed;
  }

  leaves : LeavesPages m s.history t.history
  leaves = record {
    dir = λ page. ap (λ h. dir_of h page) history-same;
    seq = λ page. ap (λ h. seq_of h page) history-same;
    last = λ page. ap (λ h. last_of h page) history-same;
    removals = λ test page seq. ap (λ h. later test h page seq) history-same;
    held = λ q e. ap (λ h. held m h q e) history-same;
  }

  page-words : KeepsWords m s t → KeepsPageWords m s t
  page-words words other page named = words other (page_word-read m other page)

  -- the actor's own entries stay as they have to be where it goes on in a scan
  pub scanned-entries :
      KeepsWords m s t →
      ((e : ℕ) → Scans (word_at m s (word.Cmap e)) a (place_view m (private_of m s a) e) (place_view m p e)) →
      a < m.nodes → AreEntriesOk m answer t a
  scanned-entries words scans =
      StayLaws.scanned-entries m answer s t a name number p None shows within changes stays leaves (page-words words) scans

  -- they are as they were where its place says the same of them
  pub own-entries :
      KeepsWords m s t → ((e : ℕ) → place_view m p e ≡ place_view m (private_of m s a) e) → a < m.nodes → AreEntriesOk m answer t a
  own-entries words places =
      scanned-entries words
      (λ e. Scans-still (word_at m s (word.Cmap e)) a (place_view m (private_of m s a) e) (place_view m p e) (places e))

  acts : KeepsWords m s t → (q : ℕ) → q < m.nodes → word_at m t (word.Act q) ≡ act_of (private_of m t q)
  acts words q inside =
      each-private m s t a name number p None changes answer shows
      (λ b (x : Private). b < m.nodes → word_at m t (word.Act b) ≡ act_of x) within
      (λ below. same-act a below ∙ (shows.act_shows a below ∙ sym (own below)))
      (λ b apart below nodes. same-act b nodes ∙ shows.act_shows b nodes)
      q (omega arith) inside
    where
      same-act : (b : ℕ) → b < m.nodes → word_at m t (word.Act b) ≡ word_at m s (word.Act b)
      same-act b below = words (word.Act b) (grind (arith, nat_tests))

      own : a < m.nodes → act_of p ≡ act_of (private_of m s a)
      own below = λ i. if moves.left below i then 0 else moves.space i + 1

  pub shows-moved :
      IsTrue (is_name m name) → IsTrue (is_word m name number) → KeepsWords m s t → p.now ≤ word_at m s word.Time →
      (a < m.nodes → AreEntriesOk m answer t a) → IsReachedAlone m answer a p → Shows m answer t
  shows-moved named encoded words past own reached =
      let time : word_at m t word.Time ≡ word_at m s word.Time = words word.Time refl in
      let ends : ends_of m t.privates ≡ ends_of m s.privates =
      ends-still m s t a name number p None changes here (λ inside. λ i. record { end = moves.ended inside i; turns = moves.turns i }) in
      StayLaws.shows-stayed m answer s t a name number p None shows within changes stays leaves named encoded (page-words words)
      (time ∙ (shows.time_is_turns ∙ sym (turns-still m s t a name number p None changes here moves.turns)))
      (omega (arith, time)) (omega (arith, time, past))
      (words word.Live refl ∙ (shows.live_counts ∙ sym (live-still m s t a name number p None changes here moves.over)))
      (acts words)
      (StayLaws.flat-kept m answer s t a name number p None shows within changes stays leaves
      (λ page w. record {
        value = ap (λ h. flat_value m h page w) history-same;
        writes = ap (λ h. flat_writes h page w) history-same;
      })
      (λ f w. words (word.Memory f.module f.number w) refl))
      own (rw (history-same, ends) shows.history_good) reached
