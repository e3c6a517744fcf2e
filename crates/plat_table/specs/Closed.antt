-- what a run leaves
use Rattle.std.specs.Prelude.{◌≡◌, ℕ, true, List, map, All}
use Rattle.plat_base.specs.Machine.{Machine}
use Rattle.plat_base.specs.Verdicts.{policy_answer}
use Rattle.plat_base.specs.Rooms.{JournalsSeen, journal_rooms}
use Rattle.plat_base.specs.Rules.{Good}
use Rattle.plat_base.specs.declared.endings.Ended.{Ended}
use Rattle.plat_base.specs.declared.items.Item.{Item}
use Rattle.plat_events.specs.Privates.{Private, is_over}
use Rattle.plat_events.specs.Runs.{fine_start, run, ends_of, AllLive}
use Rattle.plat_merge_laws.specs.Merging.{HasJournals}

pub record ClosedSeen : Type 0 where
  pub machine : Machine
  pub words : List ℕ
  pub journals : JournalsSeen
  pub ends : List Ended

abbrev pub journals_in : List Private → List (List Item)
journals_in privates = map (λ (p : Private). p.journal) privates

-- it is what the events of these actors leave, each of which was live when it came; after them every actor has ended
pub record IsRunBy (x : ClosedSeen) (who : List ℕ) : Type 0 where
  pub live : AllLive x.machine (policy_answer x.machine.policy) (fine_start x.machine) who
  pub words : x.words ≡ (run x.machine (policy_answer x.machine.policy) who).words
  pub journals : x.journals.lists ≡ journals_in (run x.machine (policy_answer x.machine.policy) who).privates
  pub ends : x.ends ≡ ends_of x.machine (run x.machine (policy_answer x.machine.policy) who).privates
  pub over : All (λ (p : Private). is_over p.place ≡ true) (run x.machine (policy_answer x.machine.policy) who).privates

-- it is what some run leaves, and the journals are within their rooms
pub record IsRun (x : ClosedSeen) : Type 0 where
  pub rooms : x.journals.rooms ≡ journal_rooms x.machine
  pub who : List ℕ
  pub is_run : IsRunBy x who

-- some history has these journals as its actors' parts, and is good with these ends
pub record HasGoodHistory (x : ClosedSeen) : Type 0 where
  pub items : List Item
  pub has : HasJournals items x.journals.lists
  pub good : Good x.machine (policy_answer x.machine.policy) items x.ends
