-- the tick of a turn keeps the invariant
use Rattle.std.specs.Prelude.{◌≡◌, ℕ, ◌+◌, ◌*◌, ◌%◌, ◌^◌, ◌<◌, ◌≤◌, if◌then◌else◌, Bool, true, false, slice_get, Some, None, IsTrue}
use Rattle.std.proofs.Common.{refl, ap, sym, ◌∙◌, arith, subst}
use Rattle.std.specs.List.{sum_by}
use Rattle.std.specs.Option.{option_map}
use Rattle.std.proofs.lemmas.Bool.Decides.{nat_tests}
use Rattle.std.proofs.lemmas.Nat.{mul-le}
use Rattle.std.proofs.lemmas.Option.{slice_get_within, get_or_from_slice_get}
use Rattle.plat_base.specs.Verdicts.{Answer}
use Rattle.plat_base.specs.Machine.{Machine}
use Rattle.plat_base.specs.GuestRun.{want_of}
use Rattle.plat_base.specs.Rules.{Good, has_daemon, is_end}
use Rattle.plat_base.specs.declared.words.Op.TheVariants as op
use Rattle.plat_base.specs.declared.words.WordName.TheVariants as word
use Rattle.plat_laws.specs.Guests.{IsWithinLimits}
use Rattle.plat_laws.proofs.Limits.{nodes-most, budget-most}
use Rattle.plat_events.specs.Places.{place_of, is_word}
use Rattle.plat_events.specs.Sessions.{Session}
use Rattle.plat_events.specs.Privates.{Ticking, Private, actor_count, first_private, is_over}
use Rattle.plat_events.specs.Events.{turn_does, ticked}
use Rattle.plat_events.specs.Kept.{session_of, has_left, word_at, private_of}
use Rattle.plat_events.specs.Views.{place_view}
use Rattle.plat_events.specs.Runs.{Fine, event, end_at, ends_of}
use Rattle.plat_events.specs.Shown.{act_of, IsReachedAlone, Shows}
use Rattle.plat_local_laws.specs.Standing.{PlaceOk, TickingOk}
use Rattle.plat_local_laws.specs.Alone.{PrivateOk}
use Rattle.plat_local_laws.proofs.PrivateLaws.{private_ok}
use Rattle.plat_local_laws.proofs.OrderLaws.{cut_in_order}
use Rattle.plat_words.proofs.Numbers.{one_more}
use Rattle.plat_fine_laws.specs.Changes.{Changes, Stays, LeavesPages}
use Rattle.plat_fine_laws.proofs.WordLaws.{behind-kept, page_words-kept, named-kept, word_at-new}
use Rattle.plat_fine_laws.proofs.PrivateLaws.{private_of-get}
use Rattle.plat_fine_laws.proofs.ActorFieldLaws.{each-private, all_privates-kept}
use Rattle.plat_fine_laws.proofs.CountLaws.{sum_by-changed}
use Rattle.plat_fine_laws.proofs.EndFieldLaws.{live-still}
use Rattle.plat_fine_laws.proofs.GoodLaws.{good-next}
use Rattle.plat_fine_laws.proofs.PlacedLaws.{Scans-still}
use Rattle.plat_fine_laws.proofs.PlaceLaws.{IsPlain, plain_view}
use Rattle.plat_fine_laws.proofs.ReachedLaws.{reached-moved}
use Rattle.plat_fine_laws.proofs.AloneLaws.{alone_ok}
use Rattle.plat_fine_laws.proofs.EndLaws.{leaves-none, flat-none}
use Rattle.plat_fine_laws.proofs.TurnLaws.{Turned, turned, sum-most}
use Rattle.plat_fine_laws.proofs.Footprints.{tick-changes}
use Rattle.plat_fine_laws.proofs.StayLaws

bit-most : (b : Bool) → (if b then 1 else 0) ≤ 1
bit-most true = omega arith
bit-most false = omega arith

module _ (m : Machine) (answer : Answer) (s : Fine) (a : ℕ) (limits : IsWithinLimits m) (shows : Shows m answer s)
    (within : a < actor_count m) (stands : (private_of m s a).place ≡ Ticking) where
  alone : PrivateOk m answer a (private_of m s a)
  alone = alone_ok m answer s a limits shows within

  ticking : TickingOk m a (private_of m s a)
  ticking = subst (PlaceOk m answer a (private_of m s a)) stands alone.standing.place

  here : slice_get s.privates a ≡ Some (private_of m s a)
  here = private_of-get m s a (let inside : a < actor_count m = within in omega (arith, shows.all_privates))

  abbrev n : ℕ
  n = word_at m s word.Time

  found : IsTrue (is_word m word.Time n)
  found = shows.words_encoded word.Time refl

  -- the private state with its tick, before the turn does anything
  abbrev begun : Private
  begun = record (private_of m s a) { turns = (private_of m s a).turns + 1; now = n + 1 }

  abbrev next : Private
  next = record (ticked m a (private_of m s a) (n + 1)) { journal = (private_of m s a).journal }

  abbrev number : ℕ
  number = (n + 1) % 2 ^ 64

  turn : Turned m begun (turn_does m a begun (want_of m a (private_of m s a).guest))
  turn = turned m a begun (want_of m a (private_of m s a).guest) refl

  changes : Changes m s (event m answer s a) a word.Time number next None
  changes = tick-changes m answer s a (private_of m s a) here stands found

  reached : IsReachedAlone m answer a next
  reached = reached-moved m answer a (private_of m s a) Ticking n word.Time (op.Add 1) (shows.reached_alone a within) stands refl found

  alone_after : PrivateOk m answer a next
  alone_after = private_ok m answer a next limits within reached

  -- ---- the time

  turns-raised : sum_by (λ (x : Private). x.turns) (event m answer s a).privates ≡ n + 1
  turns-raised =
      let changed = sum_by-changed (λ (x : Private). x.turns) s.privates a (private_of m s a) next here in
      let after = ap (sum_by (λ (x : Private). x.turns)) changes.privates in
      let before : n ≡ sum_by (λ (x : Private). x.turns) s.privates = shows.time_is_turns in
      let more : next.turns ≡ (private_of m s a).turns + 1 = turn.turns in
      omega (arith, changed, after, before, more)

  -- each processor has made its budget at most, and the daemon makes no turn
  turns-each : (b : ℕ) → b < actor_count m → ((b < m.nodes → (private_of m (event m answer s a) b).turns ≤ m.budget)
      × (m.nodes ≤ b → (private_of m (event m answer s a) b).turns ≡ 0))
  turns-each =
      each-private m s (event m answer s a) a word.Time number next None changes answer shows
      (λ b (x : Private). (b < m.nodes → x.turns ≤ m.budget) × (m.nodes ≤ b → x.turns ≡ 0)) within
      (own alone_after) (λ b apart below. other b below (alone_ok m answer s b limits shows below))
    where
      own : PrivateOk m answer a next → (a < m.nodes → next.turns ≤ m.budget) × (m.nodes ≤ a → next.turns ≡ 0)
      own ok = (λ inside. ok.standing.turns_most, λ behind. let processor : a < m.nodes = ticking.processor in absurd (omega arith))

      other : (b : ℕ) → b < actor_count m → PrivateOk m answer b (private_of m s b) →
          (b < m.nodes → (private_of m s b).turns ≤ m.budget) × (m.nodes ≤ b → (private_of m s b).turns ≡ 0)
      other b below ok = (
        λ inside. ok.standing.turns_most,
        λ behind. ok.guest.turns_none (let most = bit-most (has_daemon m.policy) in omega arith),
      )

  time-most : n + 1 ≤ m.nodes * m.budget
  time-most =
      let t = event m answer s a in
      let all = all_privates-kept m s t a word.Time number next None changes answer shows in
      let there : (i : ℕ) (x : Private) → slice_get t.privates i ≡ Some x → (i < actor_count m) × (private_of m t i ≡ x) =
      λ i x is. (
        let inside = slice_get_within t.privates i x is in omega (arith, inside, all),
        get_or_from_slice_get t.privates i x (first_private m i) is,
      ) in
      let most = sum-most (λ (x : Private). x.turns) m.nodes m.budget t.privates
      (λ i x is below. subst (λ (y : Private). y.turns ≤ m.budget) (there i x is).1 ((turns-each i (there i x is).0).0 below))
      (λ i x is above. subst (λ (y : Private). y.turns ≡ 0) (there i x is).1 ((turns-each i (there i x is).0).1 above)) in
      omega (arith, most, turns-raised)

  raised : number ≡ n + 1
  raised =
      let product = mul-le m.nodes m.budget 8 65536 (nodes-most m limits) (budget-most m limits) in
      one_more n (let most = time-most in omega (arith, most, product))

  -- ---- the event

  stays : Stays m a (private_of m s a) next None
  stays = record {
    pmap = turn.pmap;
    running =
        ap (option_map (λ (x : Session). record { actor = a; now = next.now; session = x })) turn.goes.session
        ∙ sym (ap (option_map (λ (x : Session). record { actor = a; now = (private_of m s a).now; session = x })) (ap session_of stands));
    journal = refl;
    own = λ i is. absurd cc;
    framed = λ enough. turn.goes.framed;
  }

  leaves : LeavesPages m s.history (event m answer s a).history
  leaves = subst (LeavesPages m s.history) (sym changes.history) (leaves-none m s.history)

  act-kept : (b : ℕ) → b < m.nodes → word_at m (event m answer s a) (word.Act b) ≡ word_at m s (word.Act b)
  act-kept b nodes =
      named-kept m s (event m answer s a) a word.Time number next None changes (word.Act b) refl (grind (arith, nat_tests))
      (λ same. absurd cc)

  acts : (q : ℕ) → q < m.nodes → word_at m (event m answer s a) (word.Act q) ≡ act_of (private_of m (event m answer s a) q)
  acts q nodes =
      each-private m s (event m answer s a) a word.Time number next None changes answer shows
      (λ b (x : Private). b < m.nodes → word_at m (event m answer s a) (word.Act b) ≡ act_of x) within
      (λ below. act-kept a below ∙ (shows.act_shows a below ∙ sym own))
      (λ b apart below inside. act-kept b inside ∙ shows.act_shows b inside)
      q (omega arith) nodes
    where
      own : act_of next ≡ act_of (private_of m s a)
      own = λ i. if (turn.goes.left ∙ sym (ap has_left stands)) i then 0 else turn.space i + 1

  good : Good m answer (event m answer s a).history (ends_of m (event m answer s a).privates)
  good =
      let cut : is_end m s.history a (end_at next.place) next.turns ≡ true =
      ap (λ e. is_end m s.history a e next.turns) turn.goes.ended
      ∙ cut_in_order m answer a next s.history alone_after ticking.processor (shows.journals_are_history a within) in
      let ok = good-next m s.privates a (private_of m s a) next ticking.processor (omega
      (arith, shows.all_privates)) here answer s.history None
      shows.history_good (λ i is. absurd cc) (λ i is. absurd cc) alone_after.standing.turns_most cut in
      rw (changes.history, changes.privates) ok

  pub keeps_tick : Shows m answer (event m answer s a)
  keeps_tick =
      let front : place_of m word.Time < 2 + 2 * m.nodes = omega arith in
      let time : word_at m (event m answer s a) word.Time ≡ number =
      word_at-new m s (event m answer s a) a word.Time number next None changes shows.all_words refl in
      let live : word_at m (event m answer s a) word.Live ≡ word_at m s word.Live =
      named-kept m s (event m answer s a) a word.Time number next None changes word.Live refl refl (λ same. absurd cc) in
      let words = page_words-kept m s (event m answer s a) a word.Time number next None changes front in
      let most = time-most in let now : next.now ≡ n + 1 = turn.now in
      StayLaws.shows-stayed m answer s (event m answer s a) a word.Time number next None shows within changes stays leaves refl
      (rw raised (grind (arith, nat_tests))) words
      (time ∙ (raised ∙ sym turns-raised))
      (omega (arith, time, raised)) (omega (arith, time, raised, now))
      (live
      ∙ (shows.live_counts
      ∙ sym (live-still m s (event m answer s a) a word.Time number next None changes here (λ inside. turn.goes.over ∙ sym
      (ap is_over stands)))))
      acts
      (StayLaws.flat-kept m answer s (event m answer s a) a word.Time number next None shows within changes stays leaves
      (flat-none m s (event m answer s a) changes.history)
      (λ f w. behind-kept m s (event m answer s a) a word.Time number next None changes front (word.Memory f.module f.number w) refl))
      (StayLaws.scanned-entries m answer s (event m answer s a) a word.Time number next None shows within changes stays leaves words
      (λ k. Scans-still (word_at m s (word.Cmap k)) a (place_view m (private_of m s a) k) (place_view m next k)
      (plain_view m (private_of m s a) next k turn.space (turn.goes.left ∙ sym (ap has_left stands))
      (subst (IsPlain m (private_of m s a)) (sym stands) (record { scan = refl; message = refl })) (turn.plain next))))
      good reached
