-- the parts of a line that are written one after another
use Rattle.std.specs.Prelude.{ℕ, List, [], ◌∷◌, ◌++◌, codes}
use Rattle.std.specs.List.{flat_map}
use Rattle.std.specs.Fmt.{decimal}
use Rattle.plat_base.specs.declared.items.Change.{Change}
use Rattle.plat_grammar.specs.HistoryCanon.{cause_word, action_word, removed_word}

-- the words of a change that stand before its directories
unfoldable pub change_front : Change → List ℕ
change_front c =
    codes "change"
    ++ flat_map (λ v. 32 ∷ v)
    (decimal c.actor ∷ decimal c.page ∷ decimal c.seq ∷ decimal c.time ∷ cause_word c.cause ∷ action_word c.action ∷ removed_word c.removed
    ∷ [])
