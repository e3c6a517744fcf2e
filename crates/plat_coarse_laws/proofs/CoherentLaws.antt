-- a coarse run: between its turns translations in use lead to copies, frames hold flat memory's words, and pages share no frame;
-- and each access finds its value in the frame that it goes to
use Rattle.std.specs.Prelude.{◌≡◌, ℕ, zero, suc, ◌+◌, ◌*◌, ◌<◌, ◌≤◌, true, false, List, [], ◌∷◌, length, Some, slice_index_or}
use Rattle.std.proofs.Common.{sym, ◌∙◌, subst, arith}
use Rattle.std.proofs.lemmas.Bool.Decides.{nat_tests}
use Rattle.plat_base.specs.Verdicts.{Answer}
use Rattle.plat_base.specs.Machine.{Machine}
use Rattle.plat_base.specs.Pages.{page_of}
use Rattle.plat_base.specs.Directories.{dir_of}
use Rattle.plat_base.specs.Held.{later, removes_all, removes_writes}
use Rattle.plat_base.specs.Copies.{copy_on}
use Rattle.plat_base.specs.Decide.{is_dir, modules_rise}
use Rattle.plat_base.specs.Coarse.{Coarse}
use Rattle.plat_base.specs.Schedule.{scheduled, coarse_run}
use Rattle.plat_base.specs.Rules.{Good}
use Rattle.plat_base.specs.Histories.{AtEachAccess, IsCopy}
use Rattle.plat_base.specs.Coherent.{FindsFrameWord, IsInUse, IsCoherent}
use Rattle.plat_base.specs.declared.endings.Ended.{Ended}
use Rattle.plat_base.specs.declared.items.Item.{Item}
use Rattle.plat_base.specs.declared.items.Item.TheVariants as item
use Rattle.plat_base.specs.declared.frames.Frame.{Frame}
use Rattle.plat_base.specs.declared.frames.Dir.{Dir}
use Rattle.plat_base.specs.declared.items.Right.TheVariants as right
use Rattle.plat_base.specs.declared.items.Translation.{Translation}
use Rattle.plat_base.proofs.CopiesLemmas.{copy_on-Contains}
use Rattle.plat_laws.specs.Guests.{IsWithinLimits}
use Rattle.plat_laws.proofs.TableLaws.{dir_parts}
use Rattle.plat_laws.proofs.EndLaws.{is_live-below}
use Rattle.plat_coarse_laws.proofs.TurnLaws.{good_of_sound}
use Rattle.plat_laws.proofs.HistoryLaws.{before_none, found_at, at_copy_at}
use Rattle.plat_coarse_laws.proofs.SettledLaws.{settled-hit}
use Rattle.plat_laws.proofs.CopyLaws.{IsCurrent, only_copy}
use Rattle.plat_laws.proofs.CopyChangeLaws.{good_current}
use Rattle.plat_coarse_laws.proofs.FreeLaws.{TakesFree, takes-front, IsFreeRun, free-scheduled}
use Rattle.plat_coarse_laws.proofs.FrameWordLaws.{IsFramed, good_framed}

-- ---- a copy is the one on its module

copy_on-above : (low mo : ℕ) (fs : List Frame) (f : Frame) → modules_rise low fs ≡ true → copy_on mo fs ≡ Some f → low ≤ f.module
copy_on-above low mo [] f r h = absurd cc
copy_on-above low mo (g ∷ gs) f r h = grind (arith, nat_tests, copy_on-above (g.module + 1) mo gs f)

copy_on-place : (low k : ℕ) (fs : List Frame) (f : Frame) → modules_rise low fs ≡ true → k < length fs → slice_index_or fs k f ≡ f →
    copy_on f.module fs ≡ Some f
copy_on-place low k [] f r l e = absurd (omega arith)
copy_on-place low zero (g ∷ gs) f r l e = grind (arith, nat_tests)
copy_on-place low (suc k) (g ∷ gs) f r l e =
    grind (arith, nat_tests, copy_on-place (g.module + 1) k gs f, copy_on-above (g.module + 1) f.module gs f)

copy_on-copy : (m : Machine) (dir : Dir) (f : Frame) → is_dir m dir ≡ true → IsCopy dir f → copy_on f.module dir.copies ≡ Some f
copy_on-copy m dir f h c = copy_on-place 0 c.0 dir.copies f (dir_parts m dir h).1 c.1 c.2

-- ---- between turns

coherent : (m : Machine) (answer : Answer) (s : Coarse) → IsFreeRun m answer s → IsCoherent m s
coherent m answer s h = record {
  leads = λ q e t u. copy_on-Contains t.grant.frame.module t.grant.frame (dir_of s.history (page_of m e)).copies (copy q e t u);
  alone = λ q e t u r.
      only_copy m (dir_of s.history (page_of m e)) t.grant.frame (current.page (page_of m e)).dir
      ((current.leads q e t u.holds).write r (unremoved q e t u).0 ((unremoved q e t u).1 r)) (copy q e t u);
  words = λ p w f l c. framed.words p w f l (copy_on-copy m (dir_of s.history p) f (current.page p).dir c);
  apart = λ p r f l u c d.
      framed.apart p r f l u (copy_on-copy m (dir_of s.history p) f (current.page p).dir c)
      (copy_on-copy m (dir_of s.history r) f (current.page r).dir d);
}
  where
    current : IsCurrent m s.history
    current = good_current m answer s.history h.sound.items

    framed : IsFramed m s.history
    framed = good_framed m answer s.history h.sound.items h.takes

    unremoved : (q e : ℕ) (t : Translation) → IsInUse m s q e t → (later removes_all s.history (page_of m e) t.seq ≡ false)
        × (t.grant.right ≡ right.Write → later removes_writes s.history (page_of m e) t.seq ≡ false)
    unremoved q e t u =
        let node : q < m.nodes = omega (arith, is_live-below s.ends q u.live, h.sound.count)
        in settled-hit m s q e t h.sound.settled u.live node u.of_entry u.here u.holds

    copy : (q e : ℕ) (t : Translation) → IsInUse m s q e t → copy_on t.grant.frame.module (dir_of s.history (page_of m e)).copies
        ≡ Some t.grant.frame
    copy q e t u = (current.leads q e t u.holds).copy (unremoved q e t u).0

-- after so many turns of the coarse run
pub scheduled_coherent : (m : Machine) (answer : Answer) (k : ℕ) → IsWithinLimits m → IsCoherent m (scheduled m answer k).coarse
scheduled_coherent m answer k machine = coherent m answer (scheduled m answer k).coarse (free-scheduled m answer k machine)

-- ---- at each access

-- an access of a good history that takes free frames
finds_word : (m : Machine) (answer : Answer) (items : List Item) (ends : List Ended) → Good m answer items ends → TakesFree m [] items →
    AtEachAccess items (FindsFrameWord m)
finds_word m answer items ends good free before rest a split =
    let first = subst (TakesFree m []) split free in
    let framed = good_framed m answer before (before_none m answer items ends good before rest (item.Access a) split)
    (takes-front m [] before (item.Access a ∷ rest) first) in
    let found = found_at m answer items ends good before rest a split
    in found.1 ∙ sym (framed.words a.page a.word a.frame found.0 (at_copy_at m answer items ends good before rest a split).copy)

-- each access of the coarse run
pub run_finds_words : (m : Machine) (answer : Answer) → IsWithinLimits m → AtEachAccess (coarse_run m answer).history (FindsFrameWord m)
unfolding coarse_run
run_finds_words m answer machine =
    let s = (scheduled m answer (m.nodes * m.budget)).coarse in
    let run = free-scheduled m answer (m.nodes * m.budget) machine
    in finds_word m answer s.history s.ends (good_of_sound m answer s run.sound) run.takes
