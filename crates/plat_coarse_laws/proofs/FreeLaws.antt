-- a coarse run takes free frames: each frame that a change takes is then a copy of no page
use Rattle.std.specs.Prelude.{◌≡◌, ℕ, zero, suc, ◌+◌, ◌<◌, ◌≤◌, ◌==◌, ◌&&◌, if◌then◌else◌, unwrap_or, Bool, true, false, List, [], ◌∷◌}
use Rattle.std.specs.Prelude.{◌++◌, Option, Some, None}
use Rattle.std.proofs.Common.{refl, ap, sym, ◌∙◌, arith, subst}
use Rattle.std.specs.List.{fold, list_any, range_with_len}
use Rattle.std.specs.Option.{option_map}
use Rattle.std.proofs.lemmas.Bool.{true≢false, eq-eqb}
use Rattle.std.proofs.lemmas.Bool.Decides.{nat_tests}
use Rattle.std.proofs.lemmas.List.{append_assoc, append-nil}
use Rattle.plat_base.specs.Verdicts.{Answer}
use Rattle.plat_base.specs.Machine.{Machine}
use Rattle.plat_base.specs.Pages.{numbers, entry_reached}
use Rattle.plat_base.specs.GuestRun.{Reach, reach_of, want_of}
use Rattle.plat_base.specs.Directories.{dir_of, last_of}
use Rattle.plat_base.specs.Held.{held, has_right}
use Rattle.plat_base.specs.Alike.{same_verdict}
use Rattle.plat_base.specs.Copies.{copy_on}
use Rattle.plat_base.specs.Decide.{is_empty, asks}
use Rattle.plat_base.specs.Accesses.{cause_of, access_by}
use Rattle.plat_base.specs.Ends.{is_live, time_of}
use Rattle.plat_base.specs.Coarse.{Coarse, coarse_start}
use Rattle.plat_base.specs.Frames.{is_used, free_frame, nearest_free, got_frame, is_starved}
use Rattle.plat_base.specs.Messages.{interrupts}
use Rattle.plat_base.specs.Turns.{grant_of, decided, made, access_made, fault_items, fault_made, made_reached, made_by, with_made}
use Rattle.plat_base.specs.Turns.{guest_now, thaw_items, thaw, is_pass, daemon, turn}
use Rattle.plat_base.specs.Schedule.{scheduled}
use Rattle.plat_base.specs.Rules.{names_got, has_daemon}
use Rattle.plat_base.specs.declared.frames.Frame.{Frame}
use Rattle.plat_base.specs.declared.frames.Dir.{Dir}
use Rattle.plat_base.specs.declared.endings.End.TheVariants as end
use Rattle.plat_base.specs.declared.guests.Want.{Want}
use Rattle.plat_base.specs.declared.guests.Want.TheVariants as want
use Rattle.plat_base.specs.declared.items.Cause.{Cause}
use Rattle.plat_base.specs.declared.items.Kind.{Kind}
use Rattle.plat_base.specs.declared.items.Change.{Change}
use Rattle.plat_base.specs.declared.items.Grant.{Grant}
use Rattle.plat_base.specs.declared.items.Item.TheVariants as item
use Rattle.plat_base.specs.declared.items.Item.{Item}
use Rattle.plat_base.specs.declared.items.Translation.{Translation}
use Rattle.plat_base.specs.declared.policies.Verdict.TheVariants as verdict
use Rattle.plat_base.specs.declared.policies.Decision.{Decision}
use Rattle.plat_laws.specs.Guests.{IsWithinLimits}
use Rattle.plat_coarse_laws.specs.Sound.{Sound}
use Rattle.plat_laws.proofs.ItemLaws.{all_applied, dir_of-applied}
use Rattle.plat_coarse_laws.proofs.MessageLaws.{interrupts-applied, switch_of, activations, activations-applied}
use Rattle.plat_laws.proofs.ChangeLaws.{Took}
use Rattle.plat_laws.proofs.TableLaws.{cause_of-fault}
use Rattle.plat_coarse_laws.proofs.FrameLaws.{free_frame-some, nearest_free-some, fault_facts}
use Rattle.plat_laws.proofs.EndLaws.{is_live-below}
use Rattle.plat_laws.proofs.GuestLaws.{IsReach-wanted, reach_of-page}
use Rattle.plat_coarse_laws.proofs.TurnItemLaws.{fault_change, thaw_change, thaw_decision, has_daemon-is_pass}
use Rattle.plat_coarse_laws.proofs.RunLaws.{scheduled_holds}
use Rattle.plat_coarse_laws.proofs.TurnLaws.{thaw_sound, with_made_sound, sound_start}
use Rattle.plat_base.proofs.ListLemmas.{any-range, any-numbers}

-- ---- a frame that is free is no copy

is_used-copy : (m : Machine) (items : List Item) (p mo : ℕ) (f : Frame) → p < m.pages → copy_on mo (dir_of items p).copies ≡ Some f →
    is_used m items mo f.number ≡ true
is_used-copy m items p mo f l h =
    any-numbers (λ p. unwrap_or (option_map (λ (g : Frame). g.number == f.number) (copy_on mo (dir_of items p).copies)) false) m.pages p l
    (rw h (eq-eqb f.number f.number refl))

-- no page has it as a copy
abbrev pub IsNobodys : Machine → List Item → Frame → Type 0
IsNobodys m items f = (p : ℕ) → p < m.pages → copy_on f.module (dir_of items p).copies ≡ Some f → ⊥

like_nobodys : (m : Machine) (xs ys : List Item) (f : Frame) → ((p : ℕ) → dir_of ys p ≡ dir_of xs p) → IsNobodys m xs f → IsNobodys m ys f
like_nobodys m xs ys f d k p l h = k p l (sym (ap (λ (x : Dir). copy_on f.module x.copies) (d p)) ∙ h)

nobodys : (m : Machine) (items : List Item) (mo : ℕ) (f : Frame) → free_frame m items mo ≡ Some f → IsNobodys m items f
nobodys m items mo f h p l k =
    let free = free_frame-some m items mo f h in
    let used = is_used-copy m items p f.module f l k
    in true≢false (sym used ∙ (ap (λ (x : ℕ). is_used m items x f.number) free.on ∙ free.free))

got_nobodys : (m : Machine) (answer : Answer) (items : List Item) (q p now : ℕ) (c : Cause) (f : Frame) → got_frame m answer items q p now c
    ≡ Some f → IsNobodys m items f
got_nobodys m answer items q p now c f h =
    by (is_empty (dir_of items p).state)
    (asks c (dir_of items p) q && same_verdict (answer (dir_of items p) (last_of items p) now) verdict.Move) h
  where
    by : (empty moves : Bool) → (if empty then nearest_free m items q else if moves then free_frame m items q else None) ≡ Some f →
        IsNobodys m items f
    by true moves h = nobodys m items f.module f (nearest_free-some m items q f h).1
    by false true h = nobodys m items q f h
    by false false h = absurd cc

-- ---- each frame that is taken is free then

abbrev pub IsFreeTake : Machine → List Item → Item → Type 0
IsFreeTake m before (item.Access a) = Unit {0}
IsFreeTake m before (item.Change c) = (f : Frame) → Took c f → IsNobodys m before f
IsFreeTake m before (item.Applied x) = Unit {0}
IsFreeTake m before (item.Switch s) = Unit {0}

-- of these items behind those before
abbrev pub TakesFree : Machine → (before items : List Item) → Type 0
TakesFree m before [] = Unit {0}
TakesFree m before (i ∷ is) = IsFreeTake m before i × TakesFree m (before ++ i ∷ []) is

takes-append : (m : Machine) (before xs ys : List Item) → TakesFree m before xs → TakesFree m (before ++ xs) ys →
    TakesFree m before (xs ++ ys)
takes-append m before [] ys h k = rw append-nil at k
takes-append m before (x ∷ xs) ys h k = (
  h.0,
  takes-append m (before ++ x ∷ []) xs ys h.1
      (subst (λ (b : List Item). TakesFree m b ys) (sym (append_assoc before (x ∷ []) xs)) k),
)

pub takes-front : (m : Machine) (before xs ys : List Item) → TakesFree m before (xs ++ ys) → TakesFree m before xs
takes-front m before [] ys h = tt
takes-front m before (x ∷ xs) ys h = (h.0, takes-front m (before ++ x ∷ []) xs ys h.1)

takes-applied : (m : Machine) (before xs : List Item) → all_applied xs ≡ true → TakesFree m before xs
takes-applied m before [] h = tt
takes-applied m before (item.Access a ∷ is) h = absurd cc
takes-applied m before (item.Change c ∷ is) h = absurd cc
takes-applied m before (item.Applied x ∷ is) h = (tt, takes-applied m (before ++ item.Applied x ∷ []) is h)
takes-applied m before (item.Switch s ∷ is) h = absurd cc

-- messages, and then a change that takes a frame which is free before them
takes-posted : (m : Machine) (xs sent : List Item) (c : Change) (rest : List Item) → all_applied sent ≡ true →
    ((f : Frame) → Took c f → IsNobodys m xs f)
    → TakesFree m ((xs ++ sent) ++ item.Change c ∷ []) rest → TakesFree m xs (sent ++ item.Change c ∷ rest)
takes-posted m xs sent c rest h k more =
    takes-append m xs sent (item.Change c ∷ rest) (takes-applied m xs sent h)
    (λ f took. like_nobodys m xs (xs ++ sent) f (λ p. dir_of-applied xs sent p h) (k f took), more)

-- ---- the items of a turn

module _ (m : Machine) (answer : Answer) (s : Coarse) (q : ℕ) (machine : IsWithinLimits m) (h : Sound m answer s)
    (v : is_live s.ends q ≡ true) where
  node : q < m.nodes
  node = omega (arith, is_live-below s.ends q v, h.count)

  module _ (now : ℕ) (kind : Kind) (sp a o : ℕ) (w : want_of m q (guest_now m s q).state ≡ want.Access kind sp a o) where
    abbrev entry : ℕ
    entry = entry_reached m sp a

    abbrev reach : Reach
    reach = reach_of m kind sp a o

    abbrev chosen : Decision
    chosen = decided m answer s.history q reach.page now (cause_of kind)

    page : reach.page < m.pages
    page = reach_of-page m (guest_now m s q).state kind sp a o entry machine (IsReach-wanted m q (guest_now m s q).state kind sp a o w)

    takes-fault : is_starved m s.history q reach.page ≡ false → TakesFree m s.history (fault_items m s q now entry reach chosen)
    takes-fault enough =
        takes-posted m s.history (interrupts m s q reach.page chosen.removed) (fault_change s.history q now entry reach chosen) _
        (interrupts-applied m s q reach.page chosen.removed) free (tt, tt)
      where
        free : (f : Frame) → Took (fault_change s.history q now entry reach chosen) f → IsNobodys m s.history f
        free f took =
            let facts = fault_facts m answer s.history q reach.page now (cause_of kind) (h.settled.page reach.page page).dir node enough
            (cause_of-fault kind) in
            let is : chosen.frame ≡ f = ap (λ (x : Grant). x.frame) (some_same (grant_of entry (cause_of kind) chosen) took.grant took.is)
            ∙ took.frame in
            let named : (if names_got chosen.action then Some chosen.frame else None) ≡ Some f =
            ap (λ (b : Bool). if b then Some chosen.frame else None) took.named ∙ ap Some is
            in got_nobodys m answer s.history q reach.page now (cause_of kind) f (sym facts.got_back ∙ named)
          where
            some_same : (x y : Grant) → Some x ≡ Some y → x ≡ y
            some_same x y e = cc

    takes-no_right : TakesFree m s.history (fault_made m answer s q now entry reach).items
    takes-no_right = by (is_starved m s.history q reach.page) refl
      where
        by : (b : Bool) → is_starved m s.history q reach.page ≡ b →
            TakesFree m s.history (if b then made [] end.NoFrames else made (fault_items m s q now entry reach chosen) end.Cut).items
        by true few = tt
        by false enough = takes-fault enough

    takes-wanted : (t : Option Translation) → TakesFree m s.history (access_made m answer s q now entry reach t).items
    takes-wanted None = takes-no_right
    takes-wanted (Some t) = by (has_right kind (Some t))
      where
        by : (b : Bool) → TakesFree m s.history (if b then made (access_by m s.history q reach t.grant.frame t.seq ∷ []) end.Cut
            else fault_made m answer s q now entry reach).items
        by true = (tt, tt)
        by false = takes-no_right

  takes-made : (now : ℕ) (w : Want) → want_of m q (guest_now m s q).state ≡ w → TakesFree m s.history (made_by m answer s q now w).items
  takes-made now want.Local w = tt
  takes-made now (want.Access kind sp a o) w =
      let reached = IsReach-wanted m q (guest_now m s q).state kind sp a o w
      in subst (λ (e : Option ℕ). TakesFree m s.history (made_reached m answer s q now (reach_of m kind sp a o) e).items)
      (sym reached.found)
      (takes-wanted now kind sp a o w (held m s.history q (entry_reached m sp a)))
  takes-made now (want.Switch space) w = (
    tt,
    takes-applied m (s.history ++ item.Switch (switch_of q space) ∷ []) (activations m s.history q space)
        (activations-applied m s.history q space),
  )
  takes-made now (want.Print value) w = tt
  takes-made now want.Halted w = tt
  takes-made now want.Trap w = tt

-- ---- the daemon's pass

takes-thaw : (m : Machine) (answer : Answer) (s : Coarse) (now p : ℕ) → TakesFree m [] s.history →
    TakesFree m [] (thaw m answer now s p).history
takes-thaw m answer s now p k = by (dir_of s.history p).frozen
  where
    none : (f : Frame) → Took (thaw_change m answer s.history now p) f → ⊥
    none f took = absurd_some took.grant took.is
      where
        absurd_some : (g : Grant) → None ≡ Some g → ⊥
        absurd_some g e = cc

    by : (b : Bool) → TakesFree m [] (if b then record { history = s.history ++ thaw_items m answer s now p; ends = s.ends } else s).history
    by true =
        takes-append m [] s.history (thaw_items m answer s now p) k
        (takes-posted m s.history (interrupts m s m.nodes p (thaw_decision m answer s.history now p).removed)
        (thaw_change m answer s.history now p) []
        (interrupts-applied m s m.nodes p (thaw_decision m answer s.history now p).removed) (λ f took. absurd (none f took)) tt)
    by false = k

-- a state of the run whose history took free frames
pub record IsFreeRun (m : Machine) (answer : Answer) (s : Coarse) : Type 0 where
  pub sound : Sound m answer s
  pub takes : TakesFree m [] s.history

free-thaws : (m : Machine) (answer : Answer) (s : Coarse) (now a n : ℕ) → IsFreeRun m answer s → has_daemon m.policy ≡ true →
    a + n ≤ m.pages → IsFreeRun m answer (fold (thaw m answer now) s (range_with_len a n))
free-thaws m answer s now a zero h daemon l = h
free-thaws m answer s now a (suc n) h daemon l =
    let next : IsFreeRun m answer (thaw m answer now s a) = record {
      sound = thaw_sound m answer s now a h.sound daemon (omega arith);
      takes = takes-thaw m answer s now a h.takes;
    }
    in free-thaws m answer (thaw m answer now s a) now (a + 1) n next daemon (omega arith)

free-daemon : (m : Machine) (answer : Answer) (s : Coarse) (now : ℕ) → IsFreeRun m answer s → IsFreeRun m answer (daemon m answer now s)
free-daemon m answer s now h = by (is_pass m.policy now) refl
  where
    by : (b : Bool) → is_pass m.policy now ≡ b → IsFreeRun m answer (if b then fold (thaw m answer now) s (numbers m.pages) else s)
    by true pass = free-thaws m answer s now 0 m.pages h (has_daemon-is_pass m.policy now pass) (omega arith)
    by false none = h

-- ---- a turn, and a run

free-turn : (m : Machine) (answer : Answer) (s : Coarse) (q : ℕ) → IsWithinLimits m → IsFreeRun m answer s → is_live s.ends q ≡ true →
    IsFreeRun m answer (turn m answer s q)
free-turn m answer s q machine h v =
    let now = time_of s.ends + 1 in
    let w = want_of m q (guest_now m s q).state in
    let next : IsFreeRun m answer (with_made m s q (made_by m answer s q now w)) = record {
      sound = with_made_sound m answer s q now machine h.sound v;
      takes =
          takes-append m [] s.history (made_by m answer s q now w).items h.takes (takes-made m answer s q machine h.sound v now w refl);
    }
    in free-daemon m answer (with_made m s q (made_by m answer s q now w)) now next

pub free-scheduled : (m : Machine) (answer : Answer) (k : ℕ) → IsWithinLimits m → IsFreeRun m answer (scheduled m answer k).coarse
free-scheduled m answer k machine =
    let start : IsFreeRun m answer (coarse_start m) = record {
      sound = sound_start m answer machine;
      takes = tt;
    }
    in scheduled_holds m answer (IsFreeRun m answer) start (λ s q h v. free-turn m answer s q machine h v) k
