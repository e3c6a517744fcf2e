-- the modules whose pools an actor has found without a free frame since it last locked a page, read off the operations that it
-- makes: the word of a pool is 0 where its module has no free frame
use Rattle.std.specs.Prelude.{ℕ, ◌<◌, ◌==◌, ◌&&◌, not, if◌then◌else◌, Bool, true, false, List, [], ◌∷◌, ◌++◌, Option, Some, None}
use Rattle.std.specs.List.{fold, Contains}
use Rattle.plat_base.specs.Verdicts.{Answer}
use Rattle.plat_base.specs.Machine.{Machine}
use Rattle.plat_base.specs.declared.words.Op.{Op}
use Rattle.plat_base.specs.declared.words.Op.TheVariants as op
use Rattle.plat_base.specs.declared.words.WordName.{WordName}
use Rattle.plat_base.specs.declared.words.WordName.TheVariants as word
use Rattle.plat_events.specs.Events.{named_next}
use Rattle.plat_events.specs.Kept.{word_at, private_of}
use Rattle.plat_events.specs.Runs.{Fine, fine_start, event}

-- ---- one operation

-- an operation that finds n in a pool takes no frame from it: a load, or an exchange that had seen another word
abbrev pub takes_none : Op → (n : ℕ) → Bool
takes_none op.Load n = true
takes_none (op.Store value) n = false
takes_none (op.Swap value) n = false
takes_none (op.Add k) n = false
takes_none (op.Sub k) n = false
takes_none (op.And k) n = false
takes_none (op.Or k) n = false
takes_none (op.Exchange seen new) n = not (n == seen)

-- the operation on a directory locks its page, or tries to; an unlock is a store
abbrev pub is_lock : Op → Bool
is_lock op.Load = false
is_lock (op.Store value) = false
is_lock (op.Swap value) = false
is_lock (op.Add k) = false
is_lock (op.Sub k) = false
is_lock (op.And k) = false
is_lock (op.Or k) = true
is_lock (op.Exchange seen new) = false

-- an operation that finds n in a word: a lock begins a new list, and a pool that is found to be 0 adds its module
abbrev pub emptied_by : WordName → Op → (n : ℕ) → List ℕ → List ℕ
emptied_by word.Time o n modules = modules
emptied_by word.Live o n modules = modules
emptied_by (word.Act q) o n modules = modules
emptied_by (word.Intr q) o n modules = modules
emptied_by (word.Dir page) o n modules = if is_lock o then [] else modules
emptied_by (word.Stamp page) o n modules = modules
emptied_by (word.Cmap entry) o n modules = modules
emptied_by (word.Pool mo) o n modules = if n == 0 && takes_none o n then modules ++ mo ∷ [] else modules
emptied_by (word.Memory mo number w) o n modules = modules

-- the operation is made in state s
abbrev pub emptied_in : Machine → Fine → Option (WordName × Op) → List ℕ → List ℕ
emptied_in m s None modules = modules
emptied_in m s (Some x) modules = emptied_by x.0 x.1 (word_at m s x.0) modules

-- ---- runs

-- the state of a run, and the modules of one actor with it
pub record Watched : Type 0 where
  pub fine : Fine
  pub modules : List ℕ

-- the operation that actor a makes next in state s
abbrev pub operation_next : Machine → Answer → Fine → (a : ℕ) → Option (WordName × Op)
operation_next m answer s a = named_next m answer a (private_of m s a) (private_of m s a).place

-- one more event, of actor b; those of other actors leave the modules of actor a
abbrev pub watch : Machine → Answer → (a : ℕ) → Watched → (b : ℕ) → Watched
watch m answer a x b = record {
  fine = event m answer x.fine b;
  modules = if b == a then emptied_in m x.fine (operation_next m answer x.fine a) x.modules else x.modules;
}

abbrev pub watch_start : Machine → Watched
watch_start m = record { fine = fine_start m; modules = [] }

-- the modules whose pools actor a has found to be 0 since it last locked a page, in the run of a list of actors
unfoldable pub emptied : Machine → Answer → (a : ℕ) → List ℕ → List ℕ
emptied m answer a who = (fold (watch m answer a) (watch_start m) who).modules

-- every module of the machine is among them
abbrev pub HasEachModule : Machine → List ℕ → Type 0
HasEachModule m modules = (mo : ℕ) → mo < m.nodes → Contains modules mo
