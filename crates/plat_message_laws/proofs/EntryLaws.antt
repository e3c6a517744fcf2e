-- the entry to which an invalidate or a restrict was applied
use Rattle.std.specs.Prelude.{◌≡◌, ℕ, ◌<◌, not, Bool, true, false, Option, is_some, bit_and}
use Rattle.std.proofs.Common.{ap, sym, ◌∙◌}
use Rattle.plat_base.specs.Verdicts.{Answer}
use Rattle.plat_base.specs.Machine.{Machine}
use Rattle.plat_base.specs.Pages.{page_of}
use Rattle.plat_base.specs.Held.{held, told, has_right}
use Rattle.plat_base.specs.declared.items.Kind.TheVariants.{Store}
use Rattle.plat_base.specs.declared.items.Message.{Message}
use Rattle.plat_base.specs.declared.items.Message.TheVariants as message
use Rattle.plat_base.specs.declared.items.Moment.{Moment}
use Rattle.plat_base.specs.declared.items.Translation.{Translation}
use Rattle.plat_base.specs.declared.words.WordName.TheVariants as word
use Rattle.plat_laws.specs.Guests.{IsWithinLimits}
use Rattle.plat_events.specs.Words.{has_reference, has_invalidate, has_restrict, bits_applied, all_but}
use Rattle.plat_events.specs.Privates.{Onward, Applying, actor_count}
use Rattle.plat_events.specs.Scans.{entry_scanned}
use Rattle.plat_events.specs.Kept.{session_on, word_at, private_of}
use Rattle.plat_events.specs.Views.{view, session_view, held_view, agrees, translation_of, place_view, is_restrict}
use Rattle.plat_events.specs.Runs.{Fine, event}
use Rattle.plat_events.specs.Shown.{Shows}
use Rattle.plat_views.proofs.UseLaws.{restrict_answers}
use Rattle.plat_words.proofs.Masks.{has_reference-restricted, has_invalidate-restricted}
use Rattle.plat_message_laws.proofs.ToldLaws.{absent_held, lowered_view, lowered_ok, lowered_waits, lowered_held}
use Rattle.plat_message_laws.proofs.ToldLaws.{told-some, told-reads, told-agrees, invalidated-reference, invalidated-invalidate}
use Rattle.plat_message_laws.proofs.ToldLaws.{invalidated-restrict, restricted-restrict, lowered-seen}
use Rattle.plat_message_laws.proofs.FoundLaws
use Rattle.plat_message_laws.proofs.BehindLaws.{EntryShown}
use Rattle.plat_message_laws.proofs.BehindLaws
use Rattle.plat_fine_laws.proofs.StartLaws.{empty_ok, empty_waits}

own-invalidated :
    (m : Machine) (answer : Answer) (s : Fine) (a i : ℕ) (moment : Moment) (onward : Onward) (limits : IsWithinLimits m)
    (shows : Shows m answer s) (within : a < actor_count m)
    (stands : (private_of m s a).place ≡ Applying i message.Invalidate moment onward) →
    EntryShown m answer (event m answer s a) a (entry_scanned m (private_of m s a) i)
own-invalidated m answer s a i moment onward limits shows within stands =
    let e = entry_scanned m (private_of m s a) i in
    let t = event m answer s a in
    let k = word_at m s (word.Cmap e) in
    let small = BehindLaws.a-below m answer s a i message.Invalidate moment onward limits shows within stands in
    let bits = BehindLaws.bits-own m answer s a i message.Invalidate moment onward limits shows within stands in
    let none : is_some (translation_of m t a e) ≡ false =
    ap (λ y. is_some y) (BehindLaws.translation-own m answer s a i message.Invalidate moment onward limits shows within stands) in
    let lost : is_some (held m t.history a e) ≡ false =
    ap (λ y. is_some y) (BehindLaws.held-own m answer s a i message.Invalidate moment onward limits shows within stands) in
    let quiet = BehindLaws.no_message m answer s a i message.Invalidate moment onward limits shows within stands in
    record {
      reference = bits (λ b. has_reference b a) (invalidated-reference k a small) ∙ sym none;
      ok =
          empty_ok (view m answer t a e) none (bits (λ b. has_invalidate b a) (invalidated-invalidate k a small))
          (bits (λ b. has_restrict b a) (invalidated-restrict k a small)) (quiet is_restrict);
      waits = empty_waits (view m answer t a e) (quiet (λ x. not (is_restrict x)));
      same = absent_held (view m answer t a e) (held_view m t a e) none lost;
    }

own-restricted :
    (m : Machine) (answer : Answer) (s : Fine) (a i : ℕ) (moment : Moment) (onward : Onward) (limits : IsWithinLimits m)
    (shows : Shows m answer s) (within : a < actor_count m)
    (stands : (private_of m s a).place ≡ Applying i message.Restrict moment onward) →
    EntryShown m answer (event m answer s a) a (entry_scanned m (private_of m s a) i)
own-restricted m answer s a i moment onward limits shows within stands =
    let e = entry_scanned m (private_of m s a) i in
    let t = event m answer s a in
    let k = word_at m s (word.Cmap e) in
    let tr = translation_of m s a e in
    let h = held m s.history a e in
    let v = view m answer s a e in
    let y = place_view m (private_of m t a) e in
    let o = session_on s.privates (page_of m e) in
    let low : Option Translation = told message.Restrict tr in
    let mine : Bool = (session_view m answer a e low o).mine in
    let small = BehindLaws.a-below m answer s a i message.Restrict moment onward limits shows within stands in
    let inside = BehindLaws.nodes m answer s a i message.Restrict moment onward limits shows within stands in
    let entries = BehindLaws.below m answer s a i message.Restrict moment onward limits shows within stands in
    let quiet = BehindLaws.no_message m answer s a i message.Restrict moment onward limits shows within stands in
    let has : is_some tr ≡ true = (BehindLaws.finding m answer s a i message.Restrict moment onward limits shows within stands).has in
    let is : v.restricting ≡ true = FoundLaws.restricting m answer s a i message.Restrict moment onward limits shows within stands in
    let other : v.invalidating ≡ false =
    FoundLaws.invalidating m answer s a i message.Restrict moment onward limits shows within stands in
    let ungranted : v.granted ≡ false = FoundLaws.ungranted m answer s a i message.Restrict moment onward limits shows within stands in
    let answers =
    restrict_answers v (held_view m s a e) (FoundLaws.facts m answer s a i message.Restrict moment onward limits shows within stands)
    (shows.views a e inside entries) (shows.held_is_pmap a e inside entries) is in
    let seen : view m answer t a e ≡ lowered_view y.usable mine v =
    BehindLaws.seen-own m answer s a i message.Restrict moment onward limits shows within stands
    ∙ lowered-seen m answer s a e (page_of m e) tr o k (bit_and k (all_but (bits_applied message.Restrict a)))
    (place_view m (private_of m s a) e) y has (has_invalidate-restricted k a a small small) (restricted-restrict k a small)
    (BehindLaws.active-own m answer s a i message.Restrict moment onward limits shows within stands) (quiet is_restrict)
    (quiet (λ x. not (is_restrict x)) ∙ sym other) in
    let translation : translation_of m t a e ≡ low =
    BehindLaws.translation-own m answer s a i message.Restrict moment onward limits shows within stands in
    let history : held m t.history a e ≡ told message.Restrict h =
    BehindLaws.held-own m answer s a i message.Restrict moment onward limits shows within stands in
    record {
      reference =
          ap (λ b. has_reference b a) (BehindLaws.mask-new m answer s a i message.Restrict moment onward limits shows within stands)
          ∙ has_reference-restricted k a a small small
          ∙ shows.reference_is_pmap a e inside entries ∙ sym (told-some tr) ∙ sym (ap (λ x. is_some x) translation);
      ok = rw seen (lowered_ok v y.usable mine (shows.views a e inside entries) is ungranted);
      waits = rw seen (lowered_waits v y.usable mine other);
      same = rw seen
          (lowered_held v y.usable mine (held_view m s a e) (held_view m t a e) (shows.held_is_pmap a e inside entries) has
          (ap (λ x. is_some x) history ∙ (told-some h ∙ answers.0))
          (ap (has_right Store) history ∙ told-reads h)
          ((λ j. agrees (translation j) (history j)) ∙ told-agrees tr h answers.1));
    }

pub own-shown :
    (m : Machine) (answer : Answer) (s : Fine) (a i : ℕ) (msg : Message) (moment : Moment) (onward : Onward) (limits : IsWithinLimits m)
    (shows : Shows m answer s) (within : a < actor_count m) (stands : (private_of m s a).place ≡ Applying i msg moment onward) →
    EntryShown m answer (event m answer s a) a (entry_scanned m (private_of m s a) i)
own-shown m answer s a i message.Invalidate moment onward limits shows within stands =
    own-invalidated m answer s a i moment onward limits shows within stands
own-shown m answer s a i message.Restrict moment onward limits shows within stands =
    own-restricted m answer s a i moment onward limits shows within stands
