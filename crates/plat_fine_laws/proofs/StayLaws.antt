-- an operation that keeps the translations and the session of its actor, and what the history says of pages
use Rattle.std.specs.Prelude.{◌≡◌, ◌≢◌, ◌⊎◌, ℕ, ◌<◌, ◌≤◌, not, false, take, Option, None, IsTrue, slice_index_or}
use Rattle.std.proofs.Common.{refl, ap, ◌∙◌, inl, inr, arith}
use Rattle.std.specs.List.{sum_by, count_by}
use Rattle.std.proofs.lemmas.Bool.{cases_eq}
use Rattle.std.proofs.lemmas.Bool.Decides.{nat_tests}
use Rattle.plat_base.specs.Verdicts.{Answer}
use Rattle.plat_base.specs.Machine.{Machine}
use Rattle.plat_base.specs.Pages.{page_of}
use Rattle.plat_base.specs.Rules.{Good}
use Rattle.plat_base.specs.declared.frames.Frame.{Frame}
use Rattle.plat_base.specs.declared.items.Item.{Item}
use Rattle.plat_base.specs.declared.words.WordName.{WordName}
use Rattle.plat_base.specs.declared.words.WordName.TheVariants as word
use Rattle.plat_events.specs.Places.{entry_count, is_name, is_word}
use Rattle.plat_events.specs.Privates.{Private, actor_count, is_over, translation_at}
use Rattle.plat_events.specs.Kept.{word_at, private_of}
use Rattle.plat_events.specs.Views.{EntryOk, HeldOk, InvalidateStays, view, held_view, place_view, translation_of}
use Rattle.plat_events.specs.Runs.{Fine, ends_of}
use Rattle.plat_events.specs.Shown.{act_of, frame_word, IsReachedAlone, Shows}
use Rattle.plat_fine_laws.specs.Changes.{Changes, KeepsPage, KeepsFlat, KeepsEntry, Stays, LeavesPages, KeepsPageWords, ShowsFlat}
use Rattle.plat_fine_laws.specs.Changes.{AreEntriesOk, LeavesDirs, ShowsEntries, is_table_word, is_page_word}
use Rattle.plat_fine_laws.specs.Placed.{placed, Scans}
use Rattle.plat_fine_laws.proofs.PlacedLaws.{placed_ok, placed_waits, placed_held, left_ok, left_waits, view-placed, held_view-still}
use Rattle.plat_fine_laws.proofs.KeepLaws
use Rattle.plat_fine_laws.proofs.PrivateLaws.{private_of-other}
use Rattle.plat_fine_laws.proofs.PageFieldLaws.{fault_not_held-kept}
use Rattle.plat_fine_laws.proofs.ViewFieldLaws.{views-kept, invalidates_stay-kept, held_is_pmap-kept, reference_is_pmap-kept}

table-page : (name : WordName) → IsTrue (is_table_word name) → IsTrue (is_page_word name)
table-page word.Time table = absurd cc
table-page word.Live table = absurd cc
table-page (word.Act q) table = absurd cc
table-page (word.Intr q) table = absurd cc
table-page (word.Dir page) table = refl
table-page (word.Stamp page) table = refl
table-page (word.Cmap e) table = absurd cc
table-page (word.Pool mo) table = refl
table-page (word.Memory mo f w) table = absurd cc

module _ (m : Machine) (answer : Answer) (s t : Fine) (a : ℕ) (name : WordName) (number : ℕ) (p : Private) (made : Option Item)
    (shows : Shows m answer s) (within : a < actor_count m) (changes : Changes m s t a name number p made)
    (stays : Stays m a (private_of m s a) p made) (leaves : LeavesPages m s.history t.history) where
  dirs : LeavesDirs s.history t.history
  dirs = record { dir = leaves.dir; seq = leaves.seq; last = leaves.last; removals = leaves.removals }

  new : private_of m t a ≡ p
  new = KeepLaws.new m answer s t a name number p made shows within changes stays.running dirs

  pub keeps-page : (page : ℕ) → KeepsPage s t page
  keeps-page = KeepLaws.keeps-page m answer s t a name number p made shows within changes stays.running dirs

  pub translation-same : (q e : ℕ) → translation_of m t q e ≡ translation_of m s q e
  translation-same q e = by (cases_eq q a)
    where
      by : (q ≡ a) ⊎ (q ≢ a) → translation_of m t q e ≡ translation_of m s q e
      by (inl same) =
          rw same (ap (λ (x : Private). translation_at x e) new ∙ ap (λ l. slice_index_or l e None) stays.pmap)
      by (inr apart) = ap (λ (x : Private). translation_at x e) (private_of-other m s t a name number p made changes q apart)

  other-entry : (q e : ℕ) → q ≢ a → word_at m t (word.Cmap e) ≡ word_at m s (word.Cmap e) → KeepsEntry m s t q e
  other-entry q e apart mask = record {
    mask = mask;
    translation = translation-same q e;
    place = ap (λ (x : Private). place_view m x e) (private_of-other m s t a name number p made changes q apart);
    held = leaves.held q e;
  }

  -- an entry of the actor itself is shown by argument, and each other one is as it was
  entries :
      (Q : (q e : ℕ) → Type 0) → (a < m.nodes → (e : ℕ) → e < entry_count m → Q a e) →
      ((q e : ℕ) → q ≢ a → q < m.nodes → e < entry_count m → Q q e) → (q e : ℕ) → q < m.nodes → e < entry_count m → Q q e
  entries Q own others q e inside below = by (cases_eq q a)
    where
      by : (q ≡ a) ⊎ (q ≢ a) → Q q e
      by (inl same) = rw same (own (rw same at inside) e below)
      by (inr apart) = others q e apart inside below

  mask : KeepsPageWords m s t → (e : ℕ) → e < entry_count m → word_at m t (word.Cmap e) ≡ word_at m s (word.Cmap e)
  mask words e below = words (word.Cmap e) refl (grind (arith, nat_tests))

  seen : KeepsPageWords m s t → (e : ℕ) → e < entry_count m → view m answer t a e ≡ placed (place_view m p e) (view m answer s a e)
  seen words e below =
      view-placed m answer s t a e (keeps-page (page_of m e)) (mask words e below) (translation-same a e)
      ∙ ap (λ (x : Private). placed (place_view m x e) (view m answer s a e)) new

  held-same : KeepsPageWords m s t → (e : ℕ) → e < entry_count m → held_view m t a e ≡ held_view m s a e
  held-same words e below =
      held_view-still m answer s t a e (keeps-page (page_of m e)) (mask words e below) (translation-same a e) (leaves.held a e)

  -- the actor's own entries stay as they have to be where it goes on in a scan
  pub scanned-entries :
      KeepsPageWords m s t →
      ((e : ℕ) → Scans (word_at m s (word.Cmap e)) a (place_view m (private_of m s a) e) (place_view m p e)) →
      a < m.nodes → AreEntriesOk m answer t a
  scanned-entries words scans inside = record {
    views = λ e below. rw (seen words e below)
        (placed_ok (view m answer s a e) (place_view m p e) (shows.views a e inside below) (scans e).active (scans e).passes
        (scans e).restricts);
    invalidates_stay = λ e below. rw (seen words e below)
        (placed_waits (view m answer s a e) (place_view m p e) (shows.views a e inside below) (shows.invalidates_stay a e inside below)
        (scans e).invalidates);
    held_is_pmap = λ e below. rw (seen words e below, held-same words e below)
        (placed_held (view m answer s a e) (place_view m p e) (held_view m s a e) (shows.held_is_pmap a e inside below));
  }

  -- or it leaves its space
  pub left-entries :
      KeepsPageWords m s t →
      ((e : ℕ) → e < entry_count m → ((place_view m p e).usable ≡ false) × ((place_view m p e).restricting ≡ false) ×
      ((place_view m p e).invalidating ≡ false)) →
      a < m.nodes → AreEntriesOk m answer t a
  left-entries words leaves_entry inside = record {
    views = λ e below. rw (seen words e below)
        (left_ok (view m answer s a e) (place_view m p e) (shows.views a e inside below) (leaves_entry e below).0
        (leaves_entry e below).1);
    invalidates_stay = λ e below. rw (seen words e below) (left_waits (view m answer s a e) (place_view m p e) (leaves_entry e below).2);
    held_is_pmap = λ e below. rw (seen words e below, held-same words e below)
        (placed_held (view m answer s a e) (place_view m p e) (held_view m s a e) (shows.held_is_pmap a e inside below));
  }

  -- the words of frames are flat memory's where neither they nor it changed
  pub flat-kept : ((page w : ℕ) → KeepsFlat m s t page w) → ((f : Frame) (w : ℕ) → frame_word m t f w ≡ frame_word m s f w) →
      ShowsFlat m answer t
  flat-kept = KeepLaws.flat-kept m answer s t a name number p made shows within changes stays.running dirs

  shown : KeepsPageWords m s t → (a < m.nodes → AreEntriesOk m answer t a) → ShowsEntries m answer t
  shown words own = record {
    reference_is_pmap = λ q e inside below.
        reference_is_pmap-kept m s t q e (words (word.Cmap e) refl (grind (arith, nat_tests))) (translation-same q e)
        (shows.reference_is_pmap q e inside below);
    views =
        entries (λ q e. EntryOk (view m answer t q e)) (λ inside. (own inside).views)
        (λ q e apart inside below. views-kept m answer s t q e (keeps-page (page_of m e))
        (other-entry q e apart (words (word.Cmap e) refl (grind (arith, nat_tests)))) (shows.views q e inside below));
    invalidates_stay =
        entries (λ q e. InvalidateStays (view m answer t q e)) (λ inside. (own inside).invalidates_stay)
        (λ q e apart inside below. invalidates_stay-kept m answer s t q e (keeps-page (page_of m e))
        (other-entry q e apart (words (word.Cmap e) refl (grind (arith, nat_tests)))) (shows.invalidates_stay q e inside below));
    held_is_pmap =
        entries (λ q e. HeldOk (view m answer t q e) (held_view m t q e)) (λ inside. (own inside).held_is_pmap)
        (λ q e apart inside below. held_is_pmap-kept m answer s t q e (keeps-page (page_of m e))
        (other-entry q e apart (words (word.Cmap e) refl (grind (arith, nat_tests)))) (shows.held_is_pmap q e inside below));
    fault_not_held = λ page e r on entry.
        fault_not_held-kept m answer s t shows page (keeps-page page) e r on entry (leaves.held r.actor e);
  }

  pub shows-stayed :
      IsTrue (is_name m name) → IsTrue (is_word m name number) → KeepsPageWords m s t →
      word_at m t word.Time ≡ sum_by (λ (x : Private). x.turns) t.privates → word_at m s word.Time ≤ word_at m t word.Time →
      p.now ≤ word_at m t word.Time →
      word_at m t word.Live ≡ count_by (λ (x : Private). not (is_over x.place)) (take m.nodes t.privates) →
      ((q : ℕ) → q < m.nodes → word_at m t (word.Act q) ≡ act_of (private_of m t q)) → ShowsFlat m answer t →
      (a < m.nodes → AreEntriesOk m answer t a) → Good m answer t.history (ends_of m t.privates) → IsReachedAlone m answer a p →
      Shows m answer t
  shows-stayed named encoded words turns later_time past live acts flat own good reached =
      KeepLaws.shows-kept m answer s t a name number p made shows within changes stays.running dirs stays.journal stays.own stays.framed
      named
      encoded (λ other table there. words other (table-page other table) there) turns later_time past live acts flat
      (shown words own) good reached
