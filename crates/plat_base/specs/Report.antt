-- the report of a history with its ends, and the summary of a generated run
use Rattle.std.specs.Prelude.{ℕ, ◌==◌, ◌&&◌, not, if◌then◌else◌, Bool, true, false, List, [], ◌∷◌, ◌++◌, map, length, count_by, codes}
use Rattle.std.specs.List.{flat_map}
use Rattle.std.specs.Fmt.{decimal}
use Rattle.plat_base.specs.Text.{text_bytes}
use Rattle.plat_base.specs.Canon.{Words}
use Rattle.plat_base.specs.Machine.{Machine}
use Rattle.plat_base.specs.Pages.{numbers}
use Rattle.plat_base.specs.GuestRun.{guest_run}
use Rattle.plat_base.specs.Done.{values_of}
use Rattle.plat_base.specs.Flat.{flat_value}
use Rattle.plat_base.specs.Cache.{cache_of}
use Rattle.plat_base.specs.Ends.{ended_of}
use Rattle.plat_base.specs.Alike.{same_kind, same_action}
use Rattle.plat_base.specs.declared.items.Kind.{Kind}
use Rattle.plat_base.specs.declared.items.Kind.TheVariants as kind
use Rattle.plat_base.specs.declared.items.Action.{Action}
use Rattle.plat_base.specs.declared.items.Action.TheVariants as action
use Rattle.plat_base.specs.declared.items.Moment.{Moment}
use Rattle.plat_base.specs.declared.items.Moment.TheVariants as moment
use Rattle.plat_base.specs.declared.items.Access.{Access}
use Rattle.plat_base.specs.declared.items.Change.{Change}
use Rattle.plat_base.specs.declared.items.Applied.{Applied}
use Rattle.plat_base.specs.declared.items.Item.{Item}
use Rattle.plat_base.specs.Items.{is_access_that, is_change_that, is_applied_that}
use Rattle.plat_base.specs.declared.endings.End.{End}
use Rattle.plat_base.specs.declared.endings.End.TheVariants as end
use Rattle.plat_base.specs.declared.endings.Ended.{Ended}

-- ---- what is printed, and the counts

-- the values that guest q printed, on the values that it got in the history
abbrev pub printed : Machine → List Item → List Ended → ℕ → List ℕ
printed m items ends q = (guest_run m q (values_of q items) (ended_of ends q).turns).prints

abbrev pub accesses_that : (Access → Bool) → List Item → ℕ
accesses_that test items = count_by (is_access_that test) items

abbrev pub changes_that : (Change → Bool) → List Item → ℕ
changes_that test items = count_by (is_change_that test) items

abbrev pub applied_that : (Applied → Bool) → List Item → ℕ
applied_that test items = count_by (is_applied_that test) items

abbrev pub is_kind_by : ℕ → Kind → Access → Bool
is_kind_by q k a = a.actor == q && same_kind k a.kind

-- an access is local where its frame's module is the processor's own
abbrev pub is_local_by : ℕ → Access → Bool
is_local_by q a = a.actor == q && a.frame.module == q

abbrev pub is_remote_by : ℕ → Access → Bool
is_remote_by q a = a.actor == q && not (a.frame.module == q)

abbrev pub is_action : Action → Change → Bool
is_action x c = same_action x c.action

-- a change freezes its page where the directory is frozen after it and not before
abbrev pub is_freeze : Change → Bool
is_freeze c = c.after.frozen && not c.before.frozen

abbrev pub is_at_interrupt : Applied → Bool
is_at_interrupt x = is_interrupt x.moment where
  is_interrupt : Moment → Bool
  is_interrupt moment.Interrupt = true
  is_interrupt moment.Activation = false

-- ---- lines

abbrev pub end_word : End → List ℕ
end_word end.Halted = codes "halted"
end_word end.Trapped = codes "trapped"
end_word end.Spent = codes "spent"
end_word end.NoFrames = codes "noframes"
end_word end.Cut = codes "cut"

abbrev pub processor_line : List Ended → ℕ → Words
processor_line ends q =
    codes "processor" ∷ decimal q ∷ end_word (ended_of ends q).end ∷ decimal (ended_of ends q).turns ∷ []

abbrev pub print_line : ℕ → ℕ → Words
print_line q value = codes "print" ∷ decimal q ∷ decimal value ∷ []

abbrev pub processor_lines : Machine → List Item → List Ended → ℕ → List Words
processor_lines m items ends q = processor_line ends q ∷ map (print_line q) (printed m items ends q)

-- the line of a word, where its final value is not 0
abbrev pub word_lines_of : (page word value : ℕ) → List Words
word_lines_of page word value =
    if value == 0 then [] else (codes "word" ∷ decimal page ∷ decimal word ∷ decimal value ∷ []) ∷ []

abbrev pub page_lines : Machine → List Item → ℕ → List Words
page_lines m items page = flat_map (λ word. word_lines_of page word (flat_value m items page word)) (numbers m.words)

abbrev pub access_line : List Item → ℕ → Words
access_line items q =
    codes "access" ∷ decimal q
    ∷ codes "loads" ∷ decimal (accesses_that (is_kind_by q kind.Load) items)
    ∷ codes "stores" ∷ decimal (accesses_that (is_kind_by q kind.Store) items)
    ∷ codes "adds" ∷ decimal (accesses_that (is_kind_by q kind.Add) items)
    ∷ codes "local" ∷ decimal (accesses_that (is_local_by q) items)
    ∷ codes "remote" ∷ decimal (accesses_that (is_remote_by q) items)
    ∷ []

abbrev pub cache_line : Machine → List Item → ℕ → Words
cache_line m items q =
    codes "atc" ∷ decimal q ∷ codes "hits" ∷ decimal (cache_of m items q).hits ∷ codes "misses" ∷ decimal (cache_of m items q).misses ∷ []

abbrev pub count_lines : Machine → List Item → ℕ → List Words
count_lines m items q = access_line items q ∷ cache_line m items q ∷ []

abbrev pub changes_line : List Item → Words
changes_line items =
    codes "changes"
    ∷ codes "fill" ∷ decimal (changes_that (is_action action.Fill) items)
    ∷ codes "maplocal" ∷ decimal (changes_that (is_action action.MapLocal) items)
    ∷ codes "mapremote" ∷ decimal (changes_that (is_action action.MapRemote) items)
    ∷ codes "replicate" ∷ decimal (changes_that (is_action action.Replicate) items)
    ∷ codes "migrate" ∷ decimal (changes_that (is_action action.Migrate) items)
    ∷ codes "collapse" ∷ decimal (changes_that (is_action action.Collapse) items)
    ∷ codes "thaw" ∷ decimal (changes_that (is_action action.Thaw) items)
    ∷ codes "freezes" ∷ decimal (changes_that is_freeze items)
    ∷ []

abbrev pub applied_line : List Item → Words
applied_line items =
    codes "applied"
    ∷ codes "interrupt" ∷ decimal (applied_that is_at_interrupt items)
    ∷ codes "activation" ∷ decimal (applied_that (λ x. not (is_at_interrupt x)) items)
    ∷ []

abbrev pub total_lines : List Item → List Words
total_lines items = changes_line items ∷ applied_line items ∷ (codes "items" ∷ decimal (length items) ∷ []) ∷ []

-- the lines of the report
abbrev pub report_lines : Machine → List Item → List Ended → List Words
report_lines m items ends =
    (codes "platinum" ∷ codes "report" ∷ codes "1" ∷ [])
    ∷ (flat_map (processor_lines m items ends) (numbers m.nodes) ++ (flat_map (page_lines m items) (numbers m.pages)
    ++ (flat_map (count_lines m items) (numbers m.nodes) ++ total_lines items)))

unfoldable pub report : Machine → List Item → List Ended → List ℕ
report m items ends = text_bytes (report_lines m items ends)

-- the lines of the summary of a generated run
abbrev pub summary_lines : ℕ → Machine → List Item → List Ended → List Words
summary_lines n m items ends =
    (codes "big" ∷ decimal n ∷ []) ∷ (map (processor_line ends) (numbers m.nodes) ++ total_lines items)

unfoldable pub summary : ℕ → Machine → List Item → List Ended → List ℕ
summary n m items ends = text_bytes (summary_lines n m items ends)
