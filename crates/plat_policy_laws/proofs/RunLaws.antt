-- a coarse run that starves nobody means what the run on flat memory means
use Rattle.std.specs.Prelude.{◌≡◌, ◌≢◌, ℕ, zero, suc, ◌+◌, ◌<◌, ◌/◌, if◌then◌else◌, Bool, true, false, List, [], ◌∷◌, ◌++◌, length}
use Rattle.std.specs.Prelude.{slice_set, Option, Some, None}
use Rattle.std.proofs.Common.{refl, ap, ◌∙◌, arith, ⊎_elim}
use Rattle.std.specs.List.{fold}
use Rattle.std.proofs.lemmas.Bool.{cases_eq}
use Rattle.std.proofs.lemmas.List.{append-nil}
use Rattle.plat_base.specs.Verdicts.{Answer}
use Rattle.plat_base.specs.Machine.{Machine}
use Rattle.plat_base.specs.Pages.{numbers, entry_at}
use Rattle.plat_base.specs.GuestRun.{want_of, Reach, reach_of}
use Rattle.plat_base.specs.Directories.{dir_of, seq_of, last_of}
use Rattle.plat_base.specs.Held.{held, has_right}
use Rattle.plat_base.specs.Decide.{decide}
use Rattle.plat_base.specs.Accesses.{access_by, cause_of}
use Rattle.plat_base.specs.Ends.{ended_of, is_live, time_of, end_after}
use Rattle.plat_base.specs.Coarse.{Coarse}
use Rattle.plat_base.specs.Frames.{is_starved}
use Rattle.plat_base.specs.Messages.{interrupts, switch_items}
use Rattle.plat_base.specs.Turns.{Made, made, decided, fault_items, fault_made, access_made, made_reached, made_by, with_made, guest_now}
use Rattle.plat_base.specs.Turns.{thaw_items, thaw, is_pass, daemon, turn}
use Rattle.plat_base.specs.Schedule.{Chooser, Scheduled, choose, live_processors, with_choice, scheduled}
use Rattle.plat_base.specs.declared.frames.Frame.{Frame}
use Rattle.plat_base.specs.declared.endings.End.TheVariants as end
use Rattle.plat_base.specs.declared.endings.Ended.{Ended}
use Rattle.plat_base.specs.declared.guests.Want.{Want}
use Rattle.plat_base.specs.declared.guests.Want.TheVariants as want
use Rattle.plat_base.specs.declared.items.Cause.TheVariants as cause
use Rattle.plat_base.specs.declared.items.Item.{Item}
use Rattle.plat_base.specs.declared.items.Translation.{Translation}
use Rattle.plat_base.specs.declared.policies.Decision.{Decision}
use Rattle.plat_laws.proofs.EndLaws.{is_live-below, is_live-cut}
use Rattle.plat_coarse_laws.proofs.MessageLaws.{interrupts-applied, activations, activations-applied}
use Rattle.plat_coarse_laws.proofs.RunLaws.{ended_of-set_same, ended_of-set_other, after_turn, made_in, turn-ends, choose-live}
use Rattle.plat_coarse_laws.proofs.RunLaws.{scheduled-length}
use Rattle.plat_policy_laws.specs.Meaning.{Meant, items_meant, Switched, meaning, StarvesNobody}
use Rattle.plat_policy_laws.specs.FlatRun.{FlatMade, flat_made, flat_access, flat_reached, flat_made_by, with_flat, flat_turn}
use Rattle.plat_policy_laws.specs.FlatRun.{FlatScheduled, flat_choice, flat_scheduled_turn, flat_scheduled, flat_meaning}
use Rattle.plat_policy_laws.proofs.HistoryLaws.{flat_value-meant, flat_writes-meant, items_meant-append, items_meant-applied, flat_of}
use Rattle.plat_policy_laws.proofs.HistoryLaws.{guest_now-flat, meaning-flat}

-- ---- what a turn adds

-- what a turn added, as its meaning shows it
abbrev flat_made_of : Made → FlatMade
flat_made_of x = flat_made (items_meant x.items) x.end

-- a turn that starves nobody means so much
abbrev IsFlat : Made → FlatMade → Type 0
IsFlat x y = x.end ≢ end.NoFrames → flat_made_of x ≡ y

module _ (m : Machine) (answer : Answer) (s : Coarse) where
  abbrev before : List Meant
  before = items_meant s.history

  -- one access of flat memory, after which the guest goes on
  abbrev accessed : ℕ → Reach → FlatMade
  accessed q r = flat_made (flat_access m before q r ∷ []) end.Cut

  access_by-meant :
      (q : ℕ) (r : Reach) (frame : Frame) (grant : ℕ)
      → items_meant (access_by m s.history q r frame grant ∷ []) ≡ flat_access m before q r ∷ []
  access_by-meant q r frame grant =
      rw (flat_value-meant m s.history r.page r.word, flat_writes-meant s.history r.page r.word) refl

  interrupts-meant :
      (q page : ℕ) (d : Decision) (rest : List Item)
      → items_meant (interrupts m s q page d.removed ++ rest) ≡ items_meant rest
  interrupts-meant q page d rest =
      let messages = interrupts m s q page d.removed
      in items_meant-append messages rest
      ∙ ap (λ xs. xs ++ items_meant rest) (items_meant-applied messages (interrupts-applied m s q page d.removed))

  fault_items-meant :
      (q now entry : ℕ) (r : Reach) (d : Decision)
      → items_meant (fault_items m s q now entry r d) ≡ flat_access m before q r ∷ []
  fault_items-meant q now entry r d =
      interrupts-meant q r.page d _ ∙ access_by-meant q r d.frame (seq_of s.history r.page)

  switch_items-meant :
      (q space : ℕ) → items_meant (switch_items m s.history q space) ≡ Switched (record { actor = q; space = space }) ∷ []
  switch_items-meant q space =
      ap (λ xs. Switched (record { actor = q; space = space }) ∷ xs)
      (items_meant-applied (activations m s.history q space) (activations-applied m s.history q space))

  -- a fault

  abbrev fault_decision : (q now : ℕ) → Reach → Decision
  fault_decision q now r = decided m answer s.history q r.page now (cause_of r.kind)

  abbrev faulted : (q now entry : ℕ) → Reach → (starved : Bool) → Made
  faulted q now entry r starved =
      if starved then made [] end.NoFrames else made (fault_items m s q now entry r (fault_decision q now r)) end.Cut

  fault_made-flat : (q now entry : ℕ) (r : Reach) → IsFlat (fault_made m answer s q now entry r) (accessed q r)
  fault_made-flat q now entry r = by (is_starved m s.history q r.page)
    where
      by : (starved : Bool) → IsFlat (faulted q now entry r starved) (accessed q r)
      by true h = absurd (h refl)
      by false h = ap (λ xs. flat_made xs end.Cut) (fault_items-meant q now entry r (fault_decision q now r))

  -- an access, with enough right or by a fault

  abbrev held_by : (q now entry : ℕ) → Reach → Translation → (enough : Bool) → Made
  held_by q now entry r t enough =
      if enough then made (access_by m s.history q r t.grant.frame t.seq ∷ []) end.Cut else fault_made m answer s q now entry r

  access_made-flat :
      (q now entry : ℕ) (r : Reach) (t : Option Translation)
      → IsFlat (access_made m answer s q now entry r t) (accessed q r)
  access_made-flat q now entry r None = fault_made-flat q now entry r
  access_made-flat q now entry r (Some t) = by (has_right r.kind (Some t))
    where
      by : (enough : Bool) → IsFlat (held_by q now entry r t enough) (accessed q r)
      by true h = ap (λ xs. flat_made xs end.Cut) (access_by-meant q r t.grant.frame t.seq)
      by false h = fault_made-flat q now entry r h

  reached-flat :
      (q now : ℕ) (r : Reach) (e : Option ℕ) → IsFlat (made_reached m answer s q now r e) (flat_reached m before q r e)
  reached-flat q now r None h = refl
  reached-flat q now r (Some entry) h = access_made-flat q now entry r (held m s.history q entry) h

  -- a turn, by what its guest wants

  made_by-flat : (q now : ℕ) (w : Want) → IsFlat (made_by m answer s q now w) (flat_made_by m before q w)
  made_by-flat q now want.Local h = refl
  made_by-flat q now (want.Access k sp a o) h = reached-flat q now (reach_of m k sp a o) (entry_at m sp (a / m.words)) h
  made_by-flat q now (want.Switch space) h = ap (λ xs. flat_made xs end.Cut) (switch_items-meant q space)
  made_by-flat q now (want.Print value) h = refl
  made_by-flat q now want.Halted h = refl
  made_by-flat q now want.Trap h = refl

  with_made-flat : (q : ℕ) (x : Made) → flat_of (with_made m s q x) ≡ with_flat m (flat_of s) q (flat_made_of x)
  with_made-flat q x =
      ap (λ items. record { items = items; ends = (with_made m s q x).ends }) (items_meant-append s.history x.items)

  -- ---- the daemon adds nothing that means anything

  thaw_items-meant : (now p : ℕ) → items_meant (thaw_items m answer s now p) ≡ []
  thaw_items-meant now p =
      interrupts-meant m.nodes p (decide m answer (dir_of s.history p) (last_of s.history p) now m.nodes cause.Thaw None) _

  abbrev thawed : (now p : ℕ) → (frozen : Bool) → Coarse
  thawed now p frozen =
      if frozen then record { history = s.history ++ thaw_items m answer s now p; ends = s.ends } else s

  thaw-flat : (now p : ℕ) → flat_of (thaw m answer now s p) ≡ flat_of s
  thaw-flat now p = by (dir_of s.history p).frozen
    where
      none : items_meant (s.history ++ thaw_items m answer s now p) ≡ before
      none =
          items_meant-append s.history (thaw_items m answer s now p)
          ∙ (ap (λ xs. before ++ xs) (thaw_items-meant now p) ∙ append-nil before)

      by : (frozen : Bool) → flat_of (thawed now p frozen) ≡ flat_of s
      by true = ap (λ items. record { items = items; ends = s.ends }) none
      by false = refl

module _ (m : Machine) (answer : Answer) where
  thaws-flat : (now : ℕ) (s : Coarse) (ps : List ℕ) → flat_of (fold (thaw m answer now) s ps) ≡ flat_of s
  thaws-flat now s [] = refl
  thaws-flat now s (p ∷ ps) = thaws-flat now (thaw m answer now s p) ps ∙ thaw-flat m answer s now p

  daemon-flat : (now : ℕ) (s : Coarse) → flat_of (daemon m answer now s) ≡ flat_of s
  daemon-flat now s = by (is_pass m.policy now)
    where
      by : (pass : Bool) → flat_of (if pass then fold (thaw m answer now) s (numbers m.pages) else s) ≡ flat_of s
      by true = thaws-flat now s (numbers m.pages)
      by false = refl

  -- ---- a turn

  turn-flat :
      (s : Coarse) (q : ℕ) → (made_in m answer s q).end ≢ end.NoFrames
      → flat_of (turn m answer s q) ≡ flat_turn m (flat_of s) q
  turn-flat s q h =
      let now = time_of s.ends + 1
      in let wants = want_of m q (guest_now m s q).state
      in daemon-flat now (with_made m s q (made_in m answer s q))
      ∙ (with_made-flat m answer s q (made_in m answer s q)
      ∙ ap (with_flat m (flat_of s) q)
      (made_by-flat m answer s q now wants h
      ∙ ap (λ r. flat_made_by m (items_meant s.history) q (want_of m q r.state)) (guest_now-flat m s q)))

  abbrev after : Coarse → ℕ → Ended
  after s q = after_turn s.ends q (end_after m ((ended_of s.ends q).turns + 1) (made_in m answer s q).end)

  -- where nobody is starved behind a turn, nobody was before it, and the turn did not starve its own processor
  turn-starved :
      (s : Coarse) (q : ℕ) → length s.ends ≡ m.nodes → is_live s.ends q ≡ true → StarvesNobody m (turn m answer s q)
      → StarvesNobody m s × ((made_in m answer s q).end ≢ end.NoFrames)
  turn-starved s q count v h = (others, own)
    where
      below : q < length s.ends
      below = is_live-below s.ends q v

      behind :
          (r : ℕ) (e : Ended) → ended_of (slice_set s.ends q (after s q)) r ≡ e
          → (ended_of (turn m answer s q).ends r).end ≡ e.end
      behind r e h = ap (λ ends. (ended_of ends r).end) (turn-ends m answer s q) ∙ ap (λ (x : Ended). x.end) h

      others : StarvesNobody m s
      others r l e =
          ⊎_elim (λ same. cc (is_live-cut s.ends q v, ap (λ r. (ended_of s.ends r).end) same))
          (λ other. h r l (behind r (ended_of s.ends r) (ended_of-set_other s.ends q r (after s q) other) ∙ e)) (cases_eq r q)

      own : (made_in m answer s q).end ≢ end.NoFrames
      own e =
          h q (omega (arith, below, count))
          (behind q (after s q) (ended_of-set_same s.ends q (after s q) below) ∙ ap (end_after m ((ended_of s.ends q).turns + 1)) e)

  -- ---- a run

  abbrev flat_scheduled_of : Scheduled → FlatScheduled
  flat_scheduled_of x = record { run = flat_of x.coarse; chooser = x.chooser }

  abbrev choice : Scheduled → Option (ℕ × Chooser)
  choice x = choose m.schedule (live_processors m x.coarse) x.chooser

  choice-flat :
      (x : Scheduled) → length x.coarse.ends ≡ m.nodes → (o : Option (ℕ × Chooser)) → choice x ≡ o
      → StarvesNobody m (with_choice m answer x o).coarse
      → StarvesNobody m x.coarse × (flat_scheduled_of (with_choice m answer x o) ≡ flat_choice m (flat_scheduled_of x) o)
  choice-flat x count None c h = (h, refl)
  choice-flat x count (Some c) e h =
      let nobody = turn-starved x.coarse c.0 count (choose-live m x.coarse m.schedule x.chooser c e) h
      in (nobody.0, ap (λ run. record { run = run; chooser = c.1 }) (turn-flat x.coarse c.0 nobody.1))

  scheduled-flat :
      (k : ℕ) → StarvesNobody m (scheduled m answer k).coarse
      → flat_scheduled_of (scheduled m answer k) ≡ flat_scheduled m k
  scheduled-flat zero h = refl
  scheduled-flat (suc k) h =
      let x = scheduled m answer k
      in let next = choice-flat x (scheduled-length m answer k) (choice x) refl h
      in next.1 ∙ ap (flat_scheduled_turn m) (scheduled-flat k next.0)

  pub scheduled-meaning :
      (k : ℕ) → StarvesNobody m (scheduled m answer k).coarse
      → meaning m (scheduled m answer k).coarse ≡ flat_meaning m (flat_scheduled m k).run
  scheduled-meaning k h =
      meaning-flat m (scheduled m answer k).coarse
      ∙ ap (λ (x : FlatScheduled). flat_meaning m x.run) (scheduled-flat k h)
