-- a processor that is live no more keeps the invariant
use Rattle.std.specs.Prelude.{◌≡◌, ◌⊎◌, ℕ, ◌+◌, ◌-◌, ◌*◌, ◌%◌, ◌^◌, ◌<◌, ◌≤◌, nat_le, not, if◌then◌else◌, true, take, cond, slice_get}
use Rattle.std.specs.Prelude.{slice_set, Option, Some, None, IsTrue}
use Rattle.std.proofs.Common.{refl, ap, sym, ◌∙◌, inl, inr, arith, subst}
use Rattle.std.specs.List.{sum_by, count_by}
use Rattle.std.specs.Option.{option_map}
use Rattle.std.proofs.lemmas.Bool.Decides.{nat_tests}
use Rattle.plat_base.specs.Verdicts.{Answer}
use Rattle.plat_base.specs.Machine.{Machine}
use Rattle.plat_base.specs.Rules.{Good}
use Rattle.plat_base.specs.declared.endings.End.{End}
use Rattle.plat_base.specs.declared.endings.End.TheVariants as end
use Rattle.plat_base.specs.declared.words.Op.TheVariants as op
use Rattle.plat_base.specs.declared.words.WordName.TheVariants as word
use Rattle.plat_laws.specs.Guests.{IsWithinLimits}
use Rattle.plat_laws.proofs.Limits.{nodes-most}
use Rattle.plat_laws.proofs.GuestLaws.{IsReach-wanted}
use Rattle.plat_events.specs.Places.{place_of, is_word}
use Rattle.plat_events.specs.Sessions.{Session}
use Rattle.plat_events.specs.Privates.{Lessening, Gone, Private, actor_count, is_over}
use Rattle.plat_events.specs.Events.{at, reach_now, entry_of}
use Rattle.plat_events.specs.Kept.{session_of, has_left, word_at, private_of}
use Rattle.plat_events.specs.Views.{place_view}
use Rattle.plat_events.specs.Runs.{Fine, event, ends_of}
use Rattle.plat_events.specs.Shown.{act_of, goes_to, Shows}
use Rattle.plat_local_laws.specs.Standing.{PlaceOk, EndingOk}
use Rattle.plat_local_laws.specs.Alone.{PrivateOk}
use Rattle.plat_local_laws.proofs.OrderLaws.{LacksFrames, ends_in_order}
use Rattle.plat_words.proofs.Numbers.{one_less}
use Rattle.plat_fine_laws.specs.Changes.{Changes, Stays, LeavesPages}
use Rattle.plat_fine_laws.proofs.WordLaws.{behind-kept, page_words-kept, named-kept, word_at-new}
use Rattle.plat_fine_laws.proofs.PrivateLaws.{private_of-get}
use Rattle.plat_fine_laws.proofs.ActorFieldLaws.{each-private}
use Rattle.plat_fine_laws.proofs.CountLaws.{sum_by-changed, take-set_within, slice_get-take}
use Rattle.plat_fine_laws.proofs.EndFieldLaws.{turns-still}
use Rattle.plat_fine_laws.proofs.GoodLaws.{good-next}
use Rattle.plat_fine_laws.proofs.PlacedLaws.{Scans-still}
use Rattle.plat_fine_laws.proofs.PlaceLaws.{IsPlain, plain_view}
use Rattle.plat_fine_laws.proofs.ReachedLaws.{reached-moved}
use Rattle.plat_fine_laws.proofs.AloneLaws.{alone_ok}
use Rattle.plat_fine_laws.proofs.FreeLaws.{held-right}
use Rattle.plat_fine_laws.proofs.EndLaws.{leaves-none, flat-none}
use Rattle.plat_fine_laws.proofs.Footprints.{lessen-changes}
use Rattle.plat_fine_laws.proofs.StayLaws

module _ (m : Machine) (answer : Answer) (s : Fine) (a : ℕ) (limits : IsWithinLimits m) (shows : Shows m answer s)
    (within : a < actor_count m) where
  alone : PrivateOk m answer a (private_of m s a)
  alone = alone_ok m answer s a limits shows within

  -- ---- the end is that of the guest

  few-frames : goes_to (private_of m s a).place ≡ Some end.NoFrames → m.frames < m.pages
  few-frames goes = by (cases m.pages m.frames)
    where
      cases : (i k : ℕ) → (i ≤ k) ⊎ (k < i)
      cases i k = grind arith

      by : (m.pages ≤ m.frames) ⊎ (m.frames < m.pages) → m.frames < m.pages
      by (inl enough) = absurd (shows.enough_stays enough a within goes)
      by (inr few) = few

  -- a processor that ends for want of frames holds no translation with the right for its access
  lacks-frames :
      (e : End) → (private_of m s a).place ≡ Lessening e → EndingOk m a (private_of m s a) e → e ≡ end.NoFrames →
      LacksFrames m s.history a (private_of m s a)
  lacks-frames e stands ok none =
      let r = reach_now m a (private_of m s a) in
      let starved : EndingOk m a (private_of m s a) end.NoFrames = subst (EndingOk m a (private_of m s a)) none ok in
      let reach = IsReach-wanted m a (private_of m s a).guest r.kind r.space r.addr r.operand starved.end.0 in (
        held-right m answer s a (entry_of m r) shows starved.processor reach.below (ap session_of stands) r.kind ∙ starved.end.1,
        few-frames (ap goes_to stands ∙ ap (λ (x : End). Some x) none),
      )

  -- ---- the event

  module _ (e : End) (stands : (private_of m s a).place ≡ Lessening e) where
    ending : EndingOk m a (private_of m s a) e
    ending = subst (PlaceOk m answer a (private_of m s a)) stands alone.standing.place

    here : slice_get s.privates a ≡ Some (private_of m s a)
    here = private_of-get m s a (let inside : a < actor_count m = within in omega (arith, shows.all_privates))

    abbrev n : ℕ
    n = word_at m s word.Live

    found : IsTrue (is_word m word.Live n)
    found = shows.words_encoded word.Live refl

    abbrev gone : Private
    gone = at (private_of m s a) (Gone e)

    abbrev number : ℕ
    number = (n + (2 ^ 64 - 1)) % 2 ^ 64

    changes : Changes m s (event m answer s a) a word.Live number gone None
    changes = lessen-changes m answer s a (private_of m s a) here e stands found

    abbrev counted : Private → ℕ
    counted x = cond (not (is_over x.place)) 1 0

    one_less_live : count_by (λ (x : Private). not (is_over x.place)) (take m.nodes (event m answer s a).privates) + 1 ≡ n
    one_less_live =
        let first : take m.nodes (slice_set s.privates a gone) ≡ slice_set (take m.nodes s.privates) a gone =
        take-set_within m.nodes a s.privates gone ending.processor in
        let changed = sum_by-changed counted (take m.nodes s.privates) a (private_of m s a) gone
        (slice_get-take m.nodes a s.privates (private_of m s a) ending.processor here) in
        let old : ◌≡◌ {A = ℕ} (counted (private_of m s a)) 1 = ap (λ b. cond (not b) 1 0) (ap is_over stands) in
        let after : sum_by counted (take m.nodes (event m answer s a).privates) ≡ sum_by counted (slice_set
        (take m.nodes s.privates) a gone) =
        ap (λ ps. sum_by counted (take m.nodes ps)) changes.privates ∙ ap (sum_by counted) first in
        let before : n ≡ sum_by counted (take m.nodes s.privates) = shows.live_counts in
        omega (arith, changed, old, after, before)

    less : number ≡ n - 1
    less =
        let bound : nat_le n m.nodes ≡ true = found in let most : n ≤ m.nodes = grind
        (arith, nat_tests) in let nodes = nodes-most m limits in let some = one_less_live in
        one_less n (omega (arith, some)) (omega (arith, most, nodes))

    stays : Stays m a (private_of m s a) gone None
    stays = record {
      pmap = refl;
      running =
          sym (ap (λ (o : Option Session). option_map (λ (x : Session). record {
            actor = a;
            now =
                (private_of m s a).now;
            session = x;
          }) o) (ap session_of stands));
      journal = refl;
      own = λ i is. absurd cc;
      framed = λ enough framed. shows.enough_stays enough a within (ap goes_to stands ∙ framed);
    }

    leaves : LeavesPages m s.history (event m answer s a).history
    leaves = subst (LeavesPages m s.history) (sym changes.history) (leaves-none m s.history)

    act-kept : (b : ℕ) → b < m.nodes → word_at m (event m answer s a) (word.Act b) ≡ word_at m s (word.Act b)
    act-kept b nodes =
        named-kept m s (event m answer s a) a word.Live number gone None changes (word.Act b) refl (grind (arith, nat_tests))
        (λ same. absurd cc)

    acts : (q : ℕ) → q < m.nodes → word_at m (event m answer s a) (word.Act q) ≡ act_of (private_of m (event m answer s a) q)
    acts q nodes =
        each-private m s (event m answer s a) a word.Live number gone None changes answer shows
        (λ b (x : Private). b < m.nodes → word_at m (event m answer s a) (word.Act b) ≡ act_of x) within
        (λ below. act-kept a below
        ∙ (shows.act_shows a below ∙ ap (λ b. if b then 0 else (private_of m s a).guest.space + 1) (ap has_left stands)))
        (λ b apart below inside. act-kept b inside ∙ shows.act_shows b inside)
        q (omega arith) nodes

    good : Good m answer (event m answer s a).history (ends_of m (event m answer s a).privates)
    good =
        let next = good-next m s.privates a (private_of m s a) gone ending.processor (omega
        (arith, shows.all_privates)) here answer s.history None
        shows.history_good (λ i is. absurd cc) (λ i is. absurd cc) alone.standing.turns_most
        (ends_in_order m answer a (private_of m s a) s.history e alone ending.processor (shows.journals_are_history a within)
        (ap goes_to stands) (lacks-frames e stands ending)) in
        rw (changes.history, changes.privates) next

    pub keeps_lessen : Shows m answer (event m answer s a)
    keeps_lessen =
        let front : place_of m word.Live < 2 + 2 * m.nodes = omega arith in
        let live : word_at m (event m answer s a) word.Live ≡ number =
        word_at-new m s (event m answer s a) a word.Live number gone None changes shows.all_words refl in
        let time : word_at m (event m answer s a) word.Time ≡ word_at m s word.Time =
        named-kept m s (event m answer s a) a word.Live number gone None changes word.Time refl refl (λ same. absurd cc) in
        let words = page_words-kept m s (event m answer s a) a word.Live number gone None changes front in
        let past = shows.times_past a within in
        let bound : nat_le n m.nodes ≡ true = found in let most : n ≤ m.nodes = grind (arith, nat_tests) in
        StayLaws.shows-stayed m answer s (event m answer s a) a word.Live number gone None shows within changes stays leaves refl
        (rw less (grind (arith, nat_tests))) words
        (time ∙ (shows.time_is_turns ∙ sym (turns-still m s (event m answer s a) a word.Live number gone None changes here refl)))
        (omega (arith, time)) (omega (arith, time, past))
        (omega (arith, live, less, one_less_live))
        acts
        (StayLaws.flat-kept m answer s (event m answer s a) a word.Live number gone None shows within changes stays leaves
        (flat-none m s (event m answer s a) changes.history)
        (λ f w. behind-kept m s (event m answer s a) a word.Live number gone None changes front (word.Memory f.module f.number w) refl))
        (StayLaws.scanned-entries m answer s (event m answer s a) a word.Live number gone None shows within changes stays leaves words
        (λ k. Scans-still (word_at m s (word.Cmap k)) a (place_view m (private_of m s a) k) (place_view m gone k)
        (plain_view m (private_of m s a) gone k refl (sym (ap has_left stands))
        (subst (IsPlain m (private_of m s a)) (sym stands) (record { scan = refl; message = refl }))
        (record { scan = refl; message = refl }))))
        good
        (reached-moved m answer a (private_of m s a) (Lessening e) n word.Live (op.Sub 1) (shows.reached_alone a within) stands refl found)
