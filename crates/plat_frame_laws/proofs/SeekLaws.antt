-- the load of a pool, and the take of a frame from a pool that has changed, keep the invariant
use Rattle.std.specs.Prelude.{◌≡◌, ◌≢◌, ◌⊎◌, ℕ, ◌+◌, ◌<◌, ◌==◌, nat_lt, if◌then◌else◌, false, Some, None, IsTrue, sum_by}
use Rattle.std.proofs.Common.{refl, ap, sym, ◌∙◌, inl, inr, subst}
use Rattle.std.proofs.lemmas.Bool.{cases_eq, ne_eqb}
use Rattle.plat_base.specs.Verdicts.{Answer}
use Rattle.plat_base.specs.Machine.{Machine}
use Rattle.plat_base.specs.Pages.{numbers}
use Rattle.plat_base.specs.Decide.{is_empty, is_frame}
use Rattle.plat_base.specs.Rules.{HasEnoughFrames}
use Rattle.plat_base.specs.declared.frames.Frame.{Frame}
use Rattle.plat_base.specs.declared.words.Op.TheVariants as op
use Rattle.plat_base.specs.declared.words.WordName.TheVariants as word
use Rattle.plat_events.specs.Words.{has_bit, without_lowest}
use Rattle.plat_events.specs.Places.{is_name, is_word}
use Rattle.plat_events.specs.Sessions.{Stamp, Phase, Seeking, Taking, Session, module_tried, phase_after, pool_found, frame_taken}
use Rattle.plat_events.specs.Sessions.{with_frame_got, with_phase}
use Rattle.plat_events.specs.Standings.{stamp_of, saw_no_frame}
use Rattle.plat_events.specs.Privates.{InSession, Private, actor_count}
use Rattle.plat_events.specs.Events.{at}
use Rattle.plat_events.specs.Kept.{session_of, session_on, word_at, private_of}
use Rattle.plat_events.specs.Runs.{Fine, event}
use Rattle.plat_events.specs.Shown.{bit_of, is_hand, uses_of, IsReachedAlone, Shows}
use Rattle.plat_laws.specs.Guests.{IsWithinLimits}
use Rattle.plat_local_laws.specs.Phases.{SeekingOk, TakingOk, PhaseOk, SessionOk}
use Rattle.plat_local_laws.proofs.CourseLaws.{module_tried-below}
use Rattle.plat_fine_laws.specs.Changes.{Changes}
use Rattle.plat_fine_laws.proofs.WordLaws.{KeepsWords-loaded}
use Rattle.plat_fine_laws.proofs.SessionFootprints.{seeking-changes, taking-changes}
use Rattle.plat_frame_laws.specs.Phased.{running}
use Rattle.plat_frame_laws.specs.StartPhases.{StartPhase}
use Rattle.plat_frame_laws.proofs.SumLaws.{sum-same}
use Rattle.plat_frame_laws.proofs.FrameUseLaws.{page_uses, pool-some}
use Rattle.plat_frame_laws.proofs.StartPhaseLaws.{start-seeking, start-taking, start-pool_found, pool_found-saw}
use Rattle.plat_frame_laws.proofs.StartGoesLaws.{start-kept, start-hand_before, start-hand_after, start-hand_other, shows-started}
use Rattle.plat_frame_laws.proofs.SessionHereLaws.{here, session, reached-session}
use Rattle.plat_frame_laws.proofs.StoreLaws.{pool-named}
use Rattle.plat_frame_laws.proofs.StillFrameLaws.{KeepsFrames-loaded}

-- an operation that finds the pool of the module that is tried, and takes no frame
module _ (m : Machine) (answer : Answer) (s t : Fine) (a : ℕ) (x : Session) (st : Stamp) (i : ℕ) (next : Phase) (limits : IsWithinLimits m)
    (shows : Shows m answer s) (within : a < actor_count m) (stands : (private_of m s a).place ≡ InSession x)
    (seeks : SeekingOk m answer a (private_of m s a) x st i)
    (from : StartPhase m answer a (private_of m s a).now x st None x.phase) (stamp : stamp_of x.phase ≡ Some st)
    (saw : saw_no_frame m a x.phase ≡ nat_lt 0 i)
    (leads : next
    ≡ pool_found m answer a (private_of m s a).now x st i (word_at m s (word.Pool (module_tried m answer a (private_of m s a).now x st i))))
    (changes : Changes m s t a (word.Pool (module_tried m answer a (private_of m s a).now x st i))
    (word_at m s (word.Pool (module_tried m answer a (private_of m s a).now x st i)))
    (at (private_of m s a) (InSession (with_phase x next))) None) where
  abbrev p : Private
  p = private_of m s a

  abbrev page : ℕ
  page = x.fault.page

  abbrev mo : ℕ
  mo = module_tried m answer a p.now x st i

  abbrev found : ℕ
  found = word_at m s (word.Pool mo)

  node : mo < m.nodes
  node = module_tried-below m answer a p.now x st i seeks.processor seeks.left

  named : IsTrue (is_name m (word.Pool mo))
  named = pool-named m mo node

  on : session_on s.privates page ≡ Some (running a p.now x)
  on = shows.one_session a x within (ap session_of stands)

  session-here : SessionOk m answer a p x
  session-here = session m answer s a x limits shows within stands

  to : StartPhase m answer a p.now x st None next
  to = subst (StartPhase m answer a p.now x st None) (sym leads) (start-pool_found m answer a p.now x st i found)

  -- with enough frames the pool is not empty
  finds : HasEnoughFrames m → IsTrue (is_empty x.dir.state) → saw_no_frame m a next ≡ false
  finds enough empty =
      let some = pool-some m answer s shows mo page (running a p.now x) enough session-here.fault.page on empty from.hand node in
      ap (saw_no_frame m a) leads
      ∙ (pool_found-saw m answer a p.now x st i found some ∙ (sym saw ∙ shows.enough_finds enough page (running a p.now x) on empty))

  once : (g : Frame) → IsTrue (is_frame m g) → uses_of m answer t g ≡ 1
  once g machine =
      let pool : word_at m t (word.Pool g.module) ≡ word_at m s (word.Pool g.module) =
      KeepsWords-loaded m s t a (word.Pool mo) (at p (InSession (with_phase x next))) None changes (word.Pool g.module) refl in
      let pages : sum_by (page_uses m answer t g) (numbers m.pages) ≡ sum_by (page_uses m answer s g) (numbers m.pages) =
      sum-same (page_uses m answer t g) (page_uses m answer s g) m.pages
      (λ q below. λ i. bit_of
      (start-kept m answer s t a (word.Pool mo) found x next st None shows within stands changes named refl from to q g i)
      + bit_of (hand-same q i)) in
      (λ i. bit_of (has_bit (pool i) g.number) + pages i) ∙ shows.frames_once g machine
    where
      hand-same : (q : ℕ) → is_hand (session_on t.privates q) g ≡ is_hand (session_on s.privates q) g
      hand-same q = by (cases_eq q page)
        where
          own : is_hand (session_on t.privates page) g ≡ is_hand (session_on s.privates page) g
          own =
              start-hand_after m answer s t a (word.Pool mo) found x next st None shows within stands changes named refl from to g
              ∙ sym (start-hand_before m answer s t a (word.Pool mo) found x next st None shows within stands changes named refl from to g)

          by : (q ≡ page) ⊎ (q ≢ page) → is_hand (session_on t.privates q) g ≡ is_hand (session_on s.privates q) g
          by (inl e) = rw e own
          by (inr n) =
              start-hand_other m answer s t a (word.Pool mo) found x next st None shows within stands changes named refl from to q g n

  pub shows-sought : IsReachedAlone m answer a (at (private_of m s a) (InSession (with_phase x next))) → Shows m answer t
  shows-sought reached =
      shows-started m answer s t a (word.Pool mo) found x next st None shows within stands changes named refl from to limits
      (KeepsFrames-loaded m s t a (word.Pool mo) (at p (InSession (with_phase x next))) changes) stamp (λ f none. absurd cc) finds once
      session-here.fault.page (shows.words_encoded (word.Pool mo) named) reached

module _ (m : Machine) (answer : Answer) (s : Fine) (a : ℕ) (x : Session) (st : Stamp) (i : ℕ) (limits : IsWithinLimits m)
    (shows : Shows m answer s) (within : a < actor_count m) (stands : (private_of m s a).place ≡ InSession x) where
  abbrev p' : Private
  p' = private_of m s a

  abbrev pool : ℕ
  pool = module_tried m answer a p'.now x st i

  abbrev seen_now : ℕ
  seen_now = word_at m s (word.Pool pool)

  ok : SessionOk m answer a p' x
  ok = session m answer s a x limits shows within stands

  pool-fits : SeekingOk m answer a p' x st i → IsTrue (is_word m (word.Pool pool) seen_now)
  pool-fits seeks =
      shows.words_encoded (word.Pool pool) (pool-named m pool (module_tried-below m answer a p'.now x st i seeks.processor seeks.left))

  -- the pool of a module is loaded
  pub keeps_pool_load : x.phase ≡ Seeking st i → Shows m answer (event m answer s a)
  keeps_pool_load is =
      let seeks : SeekingOk m answer a p' x st i = subst (PhaseOk m answer a p' x) is ok.phase in
      let fits = pool-fits seeks in
      shows-sought m answer s (event m answer s a) a x st i (phase_after m answer a p'.now x seen_now x.phase) limits shows within stands
      seeks
      (subst (StartPhase m answer a p'.now x st None) (sym is) (start-seeking m answer a p'.now x st i))
      (ap stamp_of is) (ap (saw_no_frame m a) is) (ap (phase_after m answer a p'.now x seen_now) is)
      (seeking-changes m answer s a p' x (here m answer s a x limits shows within stands) stands st i is fits)
      (reached-session m answer s a x limits shows within stands (Seeking st i) (word.Pool pool) op.Load seen_now is refl fits)

  -- the pool has changed, and no frame is taken
  pub keeps_pool_lost :
      (seen : ℕ) → x.phase ≡ Taking st i seen →
      word_at m s (word.Pool (module_tried m answer a (private_of m s a).now x st i)) ≢ seen → Shows m answer (event m answer s a)
  keeps_pool_lost seen is other =
      let takes : TakingOk m answer a p' x st i seen = subst (PhaseOk m answer a p' x) is ok.phase in
      let fits = pool-fits takes.seeks in
      let next : Phase = phase_after m answer a p'.now x seen_now x.phase in
      let unequal : (seen_now == seen) ≡ false = ne_eqb seen_now seen other in
      let leads : next ≡ pool_found m answer a p'.now x st i seen_now =
      ap (phase_after m answer a p'.now x seen_now) is ∙ lost unequal in
      let changes : Changes m s (event m answer s a) a (word.Pool pool) seen_now (at p' (InSession (with_phase x next))) None =
      subst (λ n. Changes m s (event m answer s a) a (word.Pool pool) n (at p' (InSession (with_phase x next))) None)
      (ap (λ b. if b then without_lowest seen else seen_now) unequal)
      (taking-changes m answer s a p' x (here m answer s a x limits shows within stands) stands st i seen is fits) in
      shows-sought m answer s (event m answer s a) a x st i next limits shows within stands takes.seeks
      (subst (StartPhase m answer a p'.now x st None) (sym is) (start-taking m answer a p'.now x st i seen))
      (ap stamp_of is) (ap (saw_no_frame m a) is) leads changes
      (reached-session m answer s a x limits shows within stands (Taking st i seen) (word.Pool pool)
      (op.Exchange seen (without_lowest seen)) seen_now is refl fits)
    where
      lost :
          (seen_now == seen) ≡ false → phase_after m answer a p'.now x seen_now (Taking st i seen) ≡ pool_found m answer a p'.now x st i
          seen_now
      lost unequal = ap (λ b. if b then with_frame_got m answer a p'.now x st (Some (frame_taken m answer a p'.now x st i seen)) else
          pool_found m answer a p'.now x st i seen_now) unequal
