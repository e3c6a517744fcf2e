-- the private state of a processor once its operation told a number
use Rattle.std.specs.Prelude.{ℕ, ◌<◌, Bool, IsTrue, List, [], ◌∷◌, ◌++◌, length, Option}
use Rattle.plat_base.specs.Machine.{Machine}
use Rattle.plat_base.specs.Rules.{may_apply}
use Rattle.plat_base.specs.declared.items.Message.{Message}
use Rattle.plat_base.specs.declared.items.Moment.{Moment}
use Rattle.plat_base.specs.declared.words.Op.{Op}
use Rattle.plat_base.specs.declared.words.WordName.{WordName}
use Rattle.plat_events.specs.Privates.{Place, Private, translation_at}
use Rattle.plat_events.specs.Events.{named_next, next_of, is_followed, after, moved_at, item_at, applied_item, with_item, access_made}
use Rattle.plat_events.specs.Events.{access_over}
use Rattle.plat_handler.specs.Phases.{answer_of}
use Rattle.plat_ports.specs.Ports.{IsEvent}
use Rattle.plat_proc.specs.ProcSeen.{ProcSeen}

-- the word of the next operation, and the operation
abbrev pub next_named : Machine → ProcSeen → Option (WordName × Op)
next_named m x = named_next m (answer_of m) x.actor x.state x.state.place

-- the place of that word, and the operation
abbrev pub next_placed : Machine → ProcSeen → Option (ℕ × Op)
next_placed m x = next_of m (answer_of m) x.actor x.state

-- the machine may have the number n that it told
abbrev pub is_told : Machine → ProcSeen → ℕ → Bool
is_told m x n = is_followed m (next_named m x) n

-- the private state once the next operation told n
abbrev pub told_to : Machine → ProcSeen → ℕ → Private
told_to m x n = after m (answer_of m) x.actor x.state n

-- where the machine may have n, by the place that the processor had
abbrev pub followed_at : Machine → (a : ℕ) → Private → ℕ → Place → Private
followed_at m a p n place =
    record (moved_at m (answer_of m) a p n place) {
      journal = with_item p.journal (item_at m (answer_of m) a p n place);
    }

abbrev pub followed_next : Machine → ProcSeen → ℕ → Private
followed_next m x n = followed_at m x.actor x.state n x.state.place

-- the access that found n is over, and stands in the journal
abbrev pub accessed : Machine → ProcSeen → ℕ → Private
accessed m x n =
    record (access_over m x.actor x.state n) { journal = x.state.journal ++ access_made m x.actor x.state n ∷ [] }

-- with the item of a message, where it can be applied
abbrev pub noted : (a : ℕ) → Private → (entry : ℕ) → Message → Moment → Private
noted a p e msg moment = record p { journal = with_item p.journal (applied_item a e msg moment (translation_at p e)) }

-- there is room for the item of a message, if it makes one
abbrev pub HasRoomFor : ProcSeen → (entry : ℕ) → Message → Type 0
HasRoomFor x e msg = IsTrue (may_apply msg (translation_at x.state e)) → length x.state.journal < x.room

-- one event leads from x to y, and changes the words, where they are told, as the event does
abbrev pub HasStepped : Machine → (x y : ProcSeen) → (before now : Option (List ℕ)) → Type 0
HasStepped m x y before now = IsEvent m x.actor x.state y.state before now
