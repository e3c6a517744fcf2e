-- the run of the guests on flat memory alone, in the order of the schedule: no copies, no frames, no translations and no policy
use Rattle.std.specs.Prelude.{ℕ, zero, suc, ◌+◌, ◌*◌, ◌/◌, ◌==◌, ◌&&◌, if◌then◌else◌, Bool, false, List, [], ◌∷◌, ◌++◌, map, filter, Option}
use Rattle.std.specs.Prelude.{Some, None, replicate, slice_set}
use Rattle.std.specs.List.{fold, filter_map}
use Rattle.plat_base.specs.Machine.{Machine}
use Rattle.plat_base.specs.Pages.{numbers, entry_at, initial_value}
use Rattle.plat_base.specs.GuestRun.{GuestRun, guest_run, want_of, Reach, reach_of}
use Rattle.plat_base.specs.Flat.{is_write}
use Rattle.plat_base.specs.Done.{reads_word, new_value}
use Rattle.plat_base.specs.Accesses.{writes_made}
use Rattle.plat_base.specs.Ends.{cut_at, ended_of, is_live, end_after}
use Rattle.plat_base.specs.Schedule.{Chooser, chooser_start, choose}
use Rattle.plat_base.specs.declared.endings.End.{End}
use Rattle.plat_base.specs.declared.endings.End.TheVariants as end
use Rattle.plat_base.specs.declared.endings.Ended.{Ended}
use Rattle.plat_base.specs.declared.guests.Want.{Want}
use Rattle.plat_base.specs.declared.guests.Want.TheVariants as want
use Rattle.plat_policy_laws.specs.Meaning.{Meant, Accessed, Switched, Meaning}

-- ---- what is read off accesses and switches: memory, and the values that a guest gets

abbrev pub writes_meant : (page word : ℕ) → Meant → Bool
writes_meant page word (Accessed actor kind space addr p w old new version) =
    is_write kind && p == page && w == word
writes_meant page word (Switched s) = false

abbrev pub written_meant : Meant → ℕ
written_meant (Accessed actor kind space addr page word old new version) = new
written_meant (Switched s) = 0

abbrev pub value_meant : ℕ → Meant → Option ℕ
value_meant q (Accessed actor kind space addr page word old new version) =
    if actor == q && reads_word kind then Some old else None
value_meant q (Switched s) = None

-- the value of a word after these accesses
abbrev pub word_after : Machine → List Meant → (page word : ℕ) → ℕ
word_after m items page word =
    fold (λ v x. if writes_meant page word x then written_meant x else v) (initial_value m page word) items

-- how many of these accesses wrote a word
abbrev pub writes_after : List Meant → (page word : ℕ) → ℕ
writes_after items page word = fold (λ n x. if writes_meant page word x then n + 1 else n) 0 items

-- the values that processor q's loads and fetch-and-adds got
abbrev pub values_meant : ℕ → List Meant → List ℕ
values_meant q items = filter_map (value_meant q) items

-- ---- one turn

-- a run so far: accesses and switches, and for each processor its turns and its end
pub record FlatRun : Type 0 where
  pub items : List Meant
  pub ends : List Ended

-- what a turn adds, and how it leaves the processor
pub record FlatMade : Type 0 where
  pub items : List Meant
  pub end : End

abbrev pub flat_made : List Meant → End → FlatMade
flat_made items end = record { items = items; end = end }

-- an access of flat memory
abbrev pub flat_access : Machine → List Meant → ℕ → Reach → Meant
flat_access m items q r =
    let old = word_after m items r.page r.word
    in Accessed q r.kind r.space r.addr r.page r.word old (new_value r.kind old r.operand)
    (writes_after items r.page r.word + writes_made r.kind)

abbrev pub flat_reached : Machine → List Meant → ℕ → Reach → Option ℕ → FlatMade
flat_reached m items q r None = flat_made [] end.Trapped
flat_reached m items q r (Some entry) = flat_made (flat_access m items q r ∷ []) end.Cut

abbrev pub flat_made_by : Machine → List Meant → ℕ → Want → FlatMade
flat_made_by m items q want.Local = flat_made [] end.Cut
flat_made_by m items q (want.Access kind space addr operand) =
    flat_reached m items q (reach_of m kind space addr operand) (entry_at m space (addr / m.words))
flat_made_by m items q (want.Switch space) =
    flat_made (Switched (record { actor = q; space = space }) ∷ []) end.Cut
flat_made_by m items q (want.Print value) = flat_made [] end.Cut
flat_made_by m items q want.Halted = flat_made [] end.Halted
flat_made_by m items q want.Trap = flat_made [] end.Trapped

abbrev pub with_flat : Machine → FlatRun → ℕ → FlatMade → FlatRun
with_flat m f q x =
    let turns = (ended_of f.ends q).turns + 1
    in record {
      items = f.items ++ x.items;
      ends = slice_set f.ends q (record { end = end_after m turns x.end; turns = turns });
    }

-- the run of guest q, on the values that it got
abbrev pub flat_guest : Machine → FlatRun → ℕ → GuestRun
flat_guest m f q = guest_run m q (values_meant q f.items) (ended_of f.ends q).turns

abbrev pub flat_turn : Machine → FlatRun → ℕ → FlatRun
flat_turn m f q = with_flat m f q (flat_made_by m f.items q (want_of m q (flat_guest m f q).state))

-- ---- the run

-- a run so far, and where the schedule stands
pub record FlatScheduled : Type 0 where
  pub run : FlatRun
  pub chooser : Chooser

abbrev pub flat_choice : Machine → FlatScheduled → Option (ℕ × Chooser) → FlatScheduled
flat_choice m x None = x
flat_choice m x (Some c) = record { run = flat_turn m x.run c.0; chooser = c.1 }

abbrev pub flat_scheduled_turn : Machine → FlatScheduled → FlatScheduled
flat_scheduled_turn m x =
    flat_choice m x (choose m.schedule (filter (is_live x.run.ends) (numbers m.nodes)) x.chooser)

abbrev pub flat_start : Machine → FlatRun
flat_start m = record { items = []; ends = replicate m.nodes (cut_at 0) }

-- the run after so many turns, or as it ended before
abbrev pub flat_scheduled : Machine → ℕ → FlatScheduled
flat_scheduled m zero = record { run = flat_start m; chooser = chooser_start m.schedule }
flat_scheduled m (suc k) = flat_scheduled_turn m (flat_scheduled m k)

unfoldable pub flat_run : Machine → FlatRun
flat_run m = (flat_scheduled m (m.nodes * m.budget)).run

-- its meaning
abbrev pub flat_meaning : Machine → FlatRun → Meaning
flat_meaning m f = record {
  items = f.items;
  guests = map (λ q. (flat_guest m f q).state) (numbers m.nodes);
  prints = map (λ q. (flat_guest m f q).prints) (numbers m.nodes);
  memory = map (λ page. map (word_after m f.items page) (numbers m.words)) (numbers m.pages);
  ends = f.ends;
}
