-- the word of the next operation: that it is a word of the machine, and that what is left there is one that it may be
use Rattle.std.specs.Prelude.{◌≡◌, ℕ, ◌*◌, ◌<◌, ◌≤◌, Option, Some, None, IsTrue}
use Rattle.plat_base.specs.Machine.{Machine}
use Rattle.plat_base.specs.declared.endings.End.{End}
use Rattle.plat_base.specs.declared.words.Op.{Op}
use Rattle.plat_base.specs.declared.words.WordName.{WordName}
use Rattle.plat_events.specs.Words.{version_read}
use Rattle.plat_events.specs.Places.{most_changes, is_name, is_word}
use Rattle.plat_events.specs.Operations.{written}
use Rattle.plat_events.specs.Sessions.{Course, Session, Storing}
use Rattle.plat_events.specs.Privates.{Ticking, Lessening, Exchanging, InSession, Private}

-- the word of the next operation, if there is one, is a word of the machine
abbrev pub NamesWord : Machine → Option (WordName × Op) → Type 0
NamesWord m None = Unit {0}
NamesWord m (Some x) = IsTrue (is_name m x.0)

-- the counters that the operation makes greater, or less, have not come to their end, where the word was n
pub record CountersLeft (m : Machine) (p : Private) (n : ℕ) : Type 0 where
  pub tick : p.place ≡ Ticking → n < m.nodes * m.budget
  pub live : (e : End) → p.place ≡ Lessening e → 0 < n
  pub version : (seen : ℕ) → p.place ≡ Exchanging seen → version_read seen < m.nodes * m.budget
  pub stamp :
      (s : Session) (c : Course) → p.place ≡ InSession s → s.phase ≡ Storing c →
      (c.stamp.seq < most_changes) × (p.now ≤ m.nodes * m.budget)

-- where the word was a number n that it may be, the operation leaves one that it may be
abbrev pub LeavesWord : Machine → Option (WordName × Op) → ℕ → Type 0
LeavesWord m None n = Unit {0}
LeavesWord m (Some x) n = IsTrue (is_word m x.0 n) → IsTrue (is_word m x.0 (written x.1 n))
