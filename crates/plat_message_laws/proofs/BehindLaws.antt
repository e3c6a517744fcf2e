-- the state behind a message that a scan applied: its words, and what it shows of processors and entries, but for the entry of
-- the message
use Rattle.std.specs.Prelude.{◌≡◌, ◌≢◌, ◌⊎◌, ℕ, ◌+◌, ◌<◌, ◌==◌, ◌&&◌, not, nat_lt, if◌then◌else◌, Bool, true, false, length, Option, Some}
use Rattle.std.specs.Prelude.{None, is_some, IsTrue, slice_get, bit_and}
use Rattle.std.proofs.Common.{refl, ap, sym, ◌∙◌, inl, inr, arith, subst}
use Rattle.std.specs.Option.{option_map, option_map_or}
use Rattle.std.proofs.lemmas.Bool.{cases_eq, eq-eqb, ne_eqb, true≢false}
use Rattle.std.proofs.lemmas.Bool.Decides.{nat_tests}
use Rattle.std.proofs.lemmas.List.{get_or-set_same, get_or-set_other}
use Rattle.plat_base.specs.Verdicts.{Answer}
use Rattle.plat_base.specs.Machine.{Machine}
use Rattle.plat_base.specs.Pages.{page_of, space_of, entries_of_space}
use Rattle.plat_base.specs.Held.{held, told, has_right}
use Rattle.plat_base.specs.declared.items.Applied.{Applied}
use Rattle.plat_base.specs.declared.items.Item.{Item}
use Rattle.plat_base.specs.declared.items.Item.TheVariants as item
use Rattle.plat_base.specs.declared.items.Kind.{Kind}
use Rattle.plat_base.specs.declared.items.Kind.TheVariants.{Store}
use Rattle.plat_base.specs.declared.items.Message.{Message}
use Rattle.plat_base.specs.declared.items.Message.TheVariants as message
use Rattle.plat_base.specs.declared.items.Moment.{Moment}
use Rattle.plat_base.specs.declared.items.Translation.{Translation}
use Rattle.plat_base.specs.declared.words.WordName.{WordName}
use Rattle.plat_base.specs.declared.words.WordName.TheVariants as word
use Rattle.plat_laws.specs.Guests.{IsWithinLimits}
use Rattle.plat_laws.proofs.Limits.{nodes-most}
use Rattle.plat_events.specs.Words.{has_reference, has_invalidate, has_restrict, bits_applied, all_but}
use Rattle.plat_events.specs.Places.{entry_count, is_name, is_word}
use Rattle.plat_events.specs.Sessions.{Session}
use Rattle.plat_events.specs.Privates.{Onward, Place, Looking, Applying, Private, actor_count, translation_at}
use Rattle.plat_events.specs.Scans.{entry_scanned, go_on, scan_from, look_place}
use Rattle.plat_events.specs.Events.{at, apply_message, applied_item, with_item}
use Rattle.plat_events.specs.Kept.{running_of, session_on, session_of, session_behind, has_left, message_at, word_at, private_of}
use Rattle.plat_events.specs.Views.{EntryOk, HeldOk, InvalidateStays, view, view_of, session_view, page_view, held_view, agrees}
use Rattle.plat_events.specs.Views.{translation_of, place_view, is_restrict}
use Rattle.plat_events.specs.Runs.{Fine, event}
use Rattle.plat_events.specs.Shown.{actor_of, Shows}
use Rattle.plat_local_laws.specs.Standing.{ScanningOk}
use Rattle.plat_local_laws.specs.Alone.{PrivateOk}
use Rattle.plat_fine_laws.specs.Changes.{Changes, GoesOn, KeepsPage, IsBy, LeavesDirs, KeepsTableWords, is_table_word}
use Rattle.plat_fine_laws.specs.Placed.{placed, Scans}
use Rattle.plat_fine_laws.proofs.PlacedLaws.{placed_ok, placed_waits, placed_held, view-placed, held_view-still}
use Rattle.plat_fine_laws.proofs.WordLaws.{word_at-new, word_at-other}
use Rattle.plat_fine_laws.proofs.PrivateLaws.{private_of-other}
use Rattle.plat_fine_laws.proofs.PlaceLaws.{scan_from-goes, place_view-same, go_on-plain}
use Rattle.plat_fine_laws.proofs.ScanLaws.{look-scans}
use Rattle.plat_fine_laws.proofs.ViewFieldLaws.{page_view-same, view_of-bits}
use Rattle.plat_fine_laws.proofs.Footprints.{apply-changes}
use Rattle.plat_fine_laws.proofs.KeepLaws
use Rattle.plat_message_laws.proofs.ToldLaws.{leaves-applied, held-applied, KeepsBits, others-bits}
use Rattle.plat_message_laws.proofs.FoundLaws.{Finds, finds}
use Rattle.plat_message_laws.proofs.FoundLaws
use Rattle.plat_local_laws.proofs.PmapLaws.{told-lacks}
use Rattle.plat_words.proofs.Masks.{has_bit-none}

-- ---- places

-- no message is about to be applied where a scan goes on
scan_from-message :
    (m : Machine) (x : Private) (turns space i : ℕ) (moment : Moment) (onward : Onward) →
    message_at m x (scan_from m turns space i moment onward) ≡ None
scan_from-message m x turns space i moment onward = by (nat_lt i (length (entries_of_space m space)))
  where
    by : (b : Bool) → message_at m x (if b then Looking i moment onward else go_on m turns onward) ≡ None
    by true = refl
    by false = (go_on-plain m x turns onward).message

-- a look at a mask without bits goes on
look-clear :
    (m : Machine) (a : ℕ) (p : Private) (i : ℕ) (moment : Moment) (onward : Onward) →
    look_place m a p i moment onward 0 ≡ scan_from m p.turns p.guest.space (i + 1) moment onward
look-clear m a p i moment onward = by (has_invalidate 0 a) (has_restrict 0 a) (has_bit-none (8 + a)) (has_bit-none (16 + a))
  where
    by : (b c : Bool) → b ≡ false → c ≡ false →
        (if b then Applying i message.Invalidate moment onward
        else if c then Applying i message.Restrict moment onward
        else scan_from m p.turns p.guest.space (i + 1) moment onward)
        ≡ scan_from m p.turns p.guest.space (i + 1) moment onward
    by true c h k = absurd cc
    by false true h k = absurd cc
    by false false h k = refl

-- what a place that is about to apply a message says of another entry
about-other :
    (m : Machine) (p : Private) (i : ℕ) (msg : Message) (moment : Moment) (onward : Onward) (e : ℕ) → e ≢ entry_scanned m p i →
    place_view m (at p (Looking i moment onward)) e ≡ place_view m (at p (Applying i msg moment onward)) e
about-other m p i msg moment onward e apart =
    let other : (entry_scanned m p i == e) ≡ false = ne_eqb (entry_scanned m p i) e (λ same. apart (sym same)) in λ j.
    record (place_view m (at p (Applying i msg moment onward)) e) {
      restricting = sym other j && is_restrict msg;
      invalidating = sym other j && not (is_restrict msg);
    }

-- what the invariant says of one processor and one entry
pub record EntryShown (m : Machine) (answer : Answer) (s : Fine) (q e : ℕ) : Type 0 where
  pub reference : has_reference (word_at m s (word.Cmap e)) q ≡ is_some (translation_of m s q e)
  pub ok : EntryOk (view m answer s q e)
  pub waits : InvalidateStays (view m answer s q e)
  pub same : HeldOk (view m answer s q e) (held_view m s q e)

-- ---- the state behind the message

module _ (m : Machine) (answer : Answer) (s : Fine) (a i : ℕ) (msg : Message) (moment : Moment) (onward : Onward)
    (limits : IsWithinLimits m) (shows : Shows m answer s) (within : a < actor_count m)
    (stands : (private_of m s a).place ≡ Applying i msg moment onward) where
  alone : PrivateOk m answer a (private_of m s a)
  alone = FoundLaws.alone m answer s a i msg moment onward limits shows within stands

  scanning : ScanningOk m answer a (private_of m s a) i moment onward
  scanning = FoundLaws.scanning m answer s a i msg moment onward limits shows within stands

  here : slice_get s.privates a ≡ Some (private_of m s a)
  here = FoundLaws.here m answer s a i msg moment onward limits shows within stands

  abbrev entry : ℕ
  entry = entry_scanned m (private_of m s a) i

  pub below : entry < entry_count m
  below = FoundLaws.below m answer s a i msg moment onward limits shows within stands

  abbrev name : WordName
  name = word.Cmap entry

  abbrev n : ℕ
  n = word_at m s name

  named : IsTrue (is_name m name)
  named = FoundLaws.named m answer s a i msg moment onward limits shows within stands

  found : IsTrue (is_word m name n)
  found = FoundLaws.found m answer s a i msg moment onward limits shows within stands

  pub finding : Finds m s a entry msg
  finding = finds m answer s a i msg moment onward limits shows within stands

  abbrev tr : Option Translation
  tr = translation_of m s a entry

  abbrev t : Fine
  t = event m answer s a

  abbrev value : ℕ
  value = bit_and n (all_but (bits_applied msg a))

  abbrev acc : Applied
  acc = record { actor = a; entry = entry; message = msg; moment = moment }

  abbrev made : Item
  made = item.Applied acc

  abbrev place : Place
  place = scan_from m (private_of m s a).turns (private_of m s a).guest.space (i + 1) moment onward

  abbrev next_with : Option Item → Private
  next_with o = record (at (apply_message (private_of m s a) entry msg) place) { journal = with_item (private_of m s a).journal o }

  abbrev next : Private
  next = next_with (Some made)

  pub item-is : applied_item a entry msg moment tr ≡ Some made
  item-is = ap (λ b. if b then Some made else None) finding.may

  pub changes : Changes m s t a name value next (Some made)
  changes =
      subst (λ (o : Option Item). Changes m s t a name value (next_with o) o) item-is
      (apply-changes m answer s a (private_of m s a) here i msg moment onward stands found)

  pub goes : GoesOn (session_behind onward) place
  goes = scan_from-goes m (private_of m s a).turns (private_of m s a).guest.space (i + 1) moment onward

  pub own : IsBy a (Some made)
  own = λ j is. ap actor_of (same_item j is)
    where
      same_item : (j : Item) → Some made ≡ Some j → j ≡ made
      same_item j is = cc

  sessions : session_of place ≡ session_of (private_of m s a).place
  sessions = goes.session ∙ sym (ap session_of stands)

  pub left : has_left place ≡ has_left (private_of m s a).place
  left = goes.left ∙ sym (ap has_left stands)

  pub running : running_of (a, next) ≡ running_of (a, private_of m s a)
  running = ap (option_map (λ (x : Session). record { actor = a; now = (private_of m s a).now; session = x })) sessions

  pub dirs : LeavesDirs s.history t.history
  dirs = subst (LeavesDirs s.history) (sym changes.history) (leaves-applied s.history acc)

  pub nodes : a < m.nodes
  nodes = scanning.processor

  pub a-below : a < 8
  a-below = let inside : a < m.nodes = nodes in omega (arith, nodes-most m limits)

  new : private_of m t a ≡ next
  new = KeepLaws.new m answer s t a name value next (Some made) shows within changes running dirs

  pub keeps-page : (page : ℕ) → KeepsPage s t page
  keeps-page = KeepLaws.keeps-page m answer s t a name value next (Some made) shows within changes running dirs

  -- ---- words

  pub other-word : (other : WordName) → IsTrue (is_name m other) → other ≢ name → word_at m t other ≡ word_at m s other
  other-word other there apart = word_at-other m s t a name value next (Some made) changes other named there apart

  pub mask-new : word_at m t name ≡ value
  mask-new = word_at-new m s t a name value next (Some made) changes shows.all_words named

  mask-other : (e : ℕ) → e < entry_count m → e ≢ entry → word_at m t (word.Cmap e) ≡ word_at m s (word.Cmap e)
  mask-other e inside apart = other-word (word.Cmap e) (grind (arith, nat_tests)) (λ same. apart (same_entry e entry same))
    where
      same_entry : (b c : ℕ) → word.Cmap b ≡ word.Cmap c → b ≡ c
      same_entry b c same = cc

  pub table-words : KeepsTableWords m s t
  table-words other table there = other-word other there (λ e. true≢false (sym table ∙ ap is_table_word e))

  pub bits-kept : (q e : ℕ) → q ≢ a → q < m.nodes → e < entry_count m → KeepsBits (word_at m s (word.Cmap e)) (word_at m t (word.Cmap e)) q
  bits-kept q e apart inside within_entries = by (cases_eq e entry)
    where
      by : (e ≡ entry) ⊎ (e ≢ entry) → KeepsBits (word_at m s (word.Cmap e)) (word_at m t (word.Cmap e)) q
      by (inl same) =
          rw same
          (subst (λ k. KeepsBits n k q) (sym mask-new) (others-bits msg n a q a-below (omega (arith, inside, nodes-most m limits)) apart))
      by (inr other) =
          let kept = mask-other e within_entries other in record {
            reference = ap (λ k. has_reference k q) kept;
            invalidate = ap (λ k. has_invalidate k q) kept;
            restrict = ap (λ k. has_restrict k q) kept;
          }

  -- ---- translations, and what the history says of them

  pub translation-own : translation_of m t a entry ≡ told msg tr
  translation-own =
      ap (λ (x : Private). translation_at x entry) new
      ∙ get_or-set_same (private_of m s a).pmap entry (told msg tr) None
      (let inside : entry < entry_count m = below in omega (arith, inside, alone.standing.all_entries))

  translation-entry : (e : ℕ) → e ≢ entry → translation_of m t a e ≡ translation_of m s a e
  translation-entry e apart =
      ap (λ (x : Private). translation_at x e) new ∙ get_or-set_other (private_of m s a).pmap entry e (told msg tr) None apart

  other-private : (q : ℕ) → q ≢ a → private_of m t q ≡ private_of m s q
  other-private q apart = private_of-other m s t a name value next (Some made) changes q apart

  held-is :
      (q e : ℕ) → held m t.history q e
      ≡ (if a == q && entry == e then told msg (held m s.history q e) else held m s.history q e)
  held-is q e = ap (λ h. held m h q e) changes.history ∙ held-applied m s.history acc q e

  pub held-own : held m t.history a entry ≡ told msg (held m s.history a entry)
  held-own =
      let first : (a == a) ≡ true = eq-eqb a a refl in
      let second : (entry == entry) ≡ true = eq-eqb entry entry refl in
      held-is a entry ∙ rw (first, second) refl

  held-processor : (q e : ℕ) → q ≢ a → held m t.history q e ≡ held m s.history q e
  held-processor q e apart =
      let other : (a == q) ≡ false = ne_eqb a q (λ same. apart (sym same)) in held-is q e ∙ rw other refl

  held-entry : (q e : ℕ) → e ≢ entry → held m t.history q e ≡ held m s.history q e
  held-entry q e apart =
      let other : (entry == e) ≡ false = ne_eqb entry e (λ same. apart (sym same)) in
      held-is q e ∙ by (a == q) (entry == e) other
    where
      by : (b c : Bool) → c ≡ false →
          (if b && c then told msg (held m s.history q e) else held m s.history q e) ≡ held m s.history q e
      by b true h = absurd cc
      by true false h = refl
      by false false h = refl

  pub held-lacks : (k : Kind) (q e : ℕ) → has_right k (held m s.history q e) ≡ false → has_right k (held m t.history q e) ≡ false
  held-lacks k q e lacks = ap (has_right k) (held-is q e) ∙ by (a == q && entry == e)
    where
      by : (b : Bool) → has_right k (if b then told msg (held m s.history q e) else held m s.history q e) ≡ false
      by true = told-lacks k msg (held m s.history q e) lacks
      by false = lacks

  -- ---- the views of other processors

  pub view-processor : (q e : ℕ) → q ≢ a → q < m.nodes → e < entry_count m → view m answer t q e ≡ view m answer s q e
  view-processor q e apart inside within_entries =
      let bits = bits-kept q e apart inside within_entries in
      let page = keeps-page (page_of m e) in
      view_of-bits q (translation_of m t q e) (word_at m t (word.Cmap e)) (word_at m s (word.Cmap e))
      (session_view m answer q e (translation_of m t q e) (session_on t.privates (page_of m e))) (place_view m (private_of m t q) e)
      (page_view m t (page_of m e) (translation_of m t q e)) bits.invalidate bits.restrict
      ∙ (λ j. view_of q (translation_at (other-private q apart j) e) (word_at m s (word.Cmap e))
      (session_view m answer q e (translation_at (other-private q apart j) e) (page.session j)) (place_view m (other-private q apart j) e)
      (page_view-same m s t (page_of m e) (translation_at (other-private q apart j) e) page j))

  held-view-processor : (q e : ℕ) → q ≢ a → held_view m t q e ≡ held_view m s q e
  held-view-processor q e apart = λ j. record {
    held = is_some (held-processor q e apart j);
    held_writes = has_right Store (held-processor q e apart j);
    same = agrees (translation_at (other-private q apart j) e) (held-processor q e apart j);
  }

  -- ---- the own other entries

  scans : (e : ℕ) → e ≢ entry → Scans (word_at m s (word.Cmap e)) a (place_view m (private_of m s a) e) (place_view m next e)
  scans e apart =
      let p = private_of m s a in
      let before : place_view m (at p (Looking i moment onward)) e ≡ place_view m p e =
      about-other m p i msg moment onward e apart ∙ ap (λ (x : Place). place_view m (at p x) e) (sym stands) in
      let after : place_view m (at p (look_place m a p i moment onward 0)) e ≡ place_view m next e =
      ap (λ (x : Place). place_view m (at p x) e) (look-clear m a p i moment onward)
      ∙ sym (place_view-same m (at p place) next e refl refl refl
      (scan_from-message m next p.turns p.guest.space (i + 1) moment onward
      ∙ sym (scan_from-message m (at p place) p.turns p.guest.space (i + 1) moment onward))) in
      subst (λ x. Scans (word_at m s (word.Cmap e)) a x (place_view m next e)) before
      (subst (λ y. Scans (word_at m s (word.Cmap e)) a (place_view m (at p (Looking i moment onward)) e) y) after
      (look-scans m a p i onward e (word_at m s (word.Cmap e)) 0 (λ same. absurd (apart (sym same))) moment))

  pub other-shown : (e : ℕ) → e < entry_count m → e ≢ entry → EntryShown m answer t a e
  other-shown e inside apart =
      let mask = mask-other e inside apart in
      let translation = translation-entry e apart in
      let page = keeps-page (page_of m e) in
      let x = place_view m next e in
      let goes_on = scans e apart in
      let ok = shows.views a e nodes inside in
      let seen : view m answer t a e ≡ placed x (view m answer s a e) =
      view-placed m answer s t a e page mask translation ∙ ap (λ (y : Private). placed (place_view m y e) (view m answer s a e)) new in
      let same : held_view m t a e ≡ held_view m s a e =
      held_view-still m answer s t a e page mask translation (held-entry a e apart) in
      record {
        reference =
            ap (λ k. has_reference k a) mask ∙ (shows.reference_is_pmap a e nodes inside ∙ sym (ap (λ y. is_some y) translation));
        ok = rw seen (placed_ok (view m answer s a e) x ok goes_on.active goes_on.passes goes_on.restricts);
        waits = rw seen
            (placed_waits (view m answer s a e) x ok (shows.invalidates_stay a e nodes inside) goes_on.invalidates);
        same = rw (seen, same)
            (placed_held (view m answer s a e) x (held_view m s a e) (shows.held_is_pmap a e nodes inside));
      }

  pub processor-shown : (q e : ℕ) → q ≢ a → q < m.nodes → e < entry_count m → EntryShown m answer t q e
  processor-shown q e apart inside within_entries =
      let seen = view-processor q e apart inside within_entries in
      record {
        reference =
            (bits-kept q e apart inside within_entries).reference
            ∙ (shows.reference_is_pmap q e inside within_entries
            ∙ sym (ap (λ (x : Private). is_some (translation_at x e)) (other-private q apart)));
        ok = rw seen (shows.views q e inside within_entries);
        waits = rw seen (shows.invalidates_stay q e inside within_entries);
        same = rw (seen, held-view-processor q e apart) (shows.held_is_pmap q e inside within_entries);
      }

  -- ---- the entry of the message

  pub no_message : (test : Message → Bool) →
      option_map_or (λ (x : ℕ × Message). x.0 == entry && test x.1) (message_at m (private_of m t a) (private_of m t a).place) false ≡ false
  no_message test =
      ap (λ (y : Private). option_map_or (λ (x : ℕ × Message). x.0 == entry && test x.1) (message_at m y y.place) false) new
      ∙ ap (λ o. option_map_or (λ (x : ℕ × Message). x.0 == entry && test x.1) o false)
      (scan_from-message m next (private_of m s a).turns (private_of m s a).guest.space (i + 1) moment onward)

  pub bits-own : (test : ℕ → Bool) → test value ≡ false → test (word_at m t name) ≡ false
  bits-own test is = ap test mask-new ∙ is

  pub active-own : (place_view m (private_of m t a) entry).active ≡ (place_view m (private_of m s a) entry).active
  active-own =
      ap (λ (y : Private). (place_view m y entry).active) new
      ∙ ap (λ b. space_of m entry == (private_of m s a).guest.space && not b) left

  -- its view, with the new translation and mask, but with the session and the page as they were
  pub seen-own :
      view m answer t a entry
      ≡ view_of a (told msg tr) value (session_view m answer a entry (told msg tr) (session_on s.privates (page_of m entry)))
      (place_view m (private_of m t a) entry) (page_view m s (page_of m entry) (told msg tr))
  seen-own =
      let page = keeps-page (page_of m entry) in λ j.
      view_of a (translation-own j) (mask-new j) (session_view m answer a entry (translation-own j) (page.session j))
      (place_view m (private_of m t a) entry) (page_view-same m s t (page_of m entry) (translation-own j) page j)
