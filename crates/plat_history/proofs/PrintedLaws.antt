-- what is printed is a text of its history, and is read as it again
use Rattle.std.proofs.Common.{◌≡◌, List, Ok}
use Rattle.plat_base.specs.declared.configs.Config.{Config}
use Rattle.plat_base.specs.declared.items.Item.{Item}
use Rattle.plat_base.specs.declared.endings.Ended.{Ended}
use Rattle.plat_grammar.specs.HistoryCanon.{history_text}
use Rattle.plat_grammar.specs.HistoryFaults.{history_at}
use Rattle.plat_grammar.specs.HistoryGrammar.{IsInRange, IsHistory, IsHistoryTextOf, IsShortHistory}
use Rattle.plat_history.specs.Shown.{history}
use Rattle.plat_history.proofs.PlainHistory.{history_text-is_text, history_text-again}

module _ (cfg : Config) (items : List Item) (ends : List Ended) where
  history_of : IsInRange (history cfg items ends) → IsHistory (history cfg items ends)
  history_of numbers = record { machine = cfg.limits; short = cfg.short; numbers = numbers }

  pub printed-text : IsInRange (history cfg items ends) → IsShortHistory (history cfg items ends) →
      IsHistoryTextOf (history_text (history cfg items ends)) (history cfg items ends)
  printed-text numbers short = history_text-is_text (history cfg items ends) (history_of numbers) short

  pub printed-again : IsInRange (history cfg items ends) → IsShortHistory (history cfg items ends) →
      history_at (history_text (history cfg items ends)) ≡ Ok (history cfg items ends)
  printed-again numbers short = history_text-again (history cfg items ends) (history_of numbers) short
