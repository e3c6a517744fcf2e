-- what a call of a command promises
use Rattle.std.specs.Prelude.{◌≡◌, ◌⊎◌, ℕ, ◌≤◌, true, false, List, [], Option, None, IfSome, IsSomeAnd, IsTrue}
use Rattle.plat_base.specs.Statuses.{is_silent, refusal_of}
use Rattle.plat_base.specs.declared.items.Item.{Item}
use Rattle.plat_base.specs.declared.statuses.Status.{Status}
use Rattle.plat_base.specs.declared.statuses.Status.TheVariants as status
use Rattle.plat_io.specs.Streams.{HasRisen, added}
use Rattle.plat_io.specs.declared.sinks.Sink.{Ghosts}
use Rattle.plat_io.specs.declared.sources.Source.{Ghosts as Reader}
use Rattle.plat_table.specs.Closed.{ClosedSeen}
use Rattle.plat_cmd.specs.Inputs.{input_of, reads_some, Told, HasRead, IfTold, IsFault, TakesText, too_long}
use Rattle.plat_cmd.specs.Works.{HasDone, bad_of, IsFirstBad, ComesToEnd, whole_output, may_end}
use Rattle.plat_cmd.specs.declared.words.Command.{Command}
use Rattle.plat_cmd.specs.declared.outcomes.Outcome.{Outcome}

-- a command stopped because of memory or its source, not because of the text
abbrev pub IsNoRefusal : Status → Type 0
IsNoRefusal now = (now ≡ status.ReadFault) ⊎ (now ≡ status.OutOfMemory)

-- a count of faults stayed as it was
abbrev pub IsQuiet : ℕ → ℕ → Type 0
IsQuiet before after = HasRisen before after → ⊥

-- what is promised of the outcome and of the sink, whatever was read
pub record IsEnded {K : Type 0} (c : Command) (sink : Ghosts K) (old new : K) (out : Outcome) : Type 0 where
  -- the status is one that the command can end with
  pub ends : IsTrue (may_end c out.status)
  -- with the statuses that write nothing the sink is as it was, no history is kept, and no threads left anything
  pub silent : is_silent out.status ≡ true → new ≡ old
  pub nothing_kept : is_silent out.status ≡ true → out.kept.items ≡ []
  pub nothing_ran : is_silent out.status ≡ true → out.ran ≡ None

-- how a command comes to its end where no read and no write fails: with this status, and all of its output
pub record CompletesWith {K : Type 0} (c : Command) (it : Told (input_of c)) (output : List ℕ)
    (sink : Ghosts K) (old new : K) (out : Outcome) : Type 0 where
  pub ends : ComesToEnd c it out.status out.kept.items
  pub whole : is_silent out.status ≡ false → sink.holds new ≡ added (sink.holds old) output

-- what a call promises that reads, ends and stops as command c does, does this with what it read, and has this to write
pub record PromisesDoing {S K : Type 0} (c : Command)
    (Does : Told (input_of c) → K → K → Status → List Item → Option ClosedSeen → Type 0)
    (output : Told (input_of c) → List Item → Option ClosedSeen → List ℕ)
    (source : Reader S) (sink : Ghosts K) (before after : S) (old new : K) (out : Outcome) : Type 0 where
  -- with a status that lets it write, the command read its input, and did its work with what it read
  pub done :
      is_silent out.status ≡ false
      → HasRead (input_of c) source before after (λ it. Does it old new out.status out.kept.items out.ran)
  -- a history that is bad was read, and this is its first bad item
  pub bad : IfSome (bad_of out.status) (λ bad. HasRead (input_of c) source before after (λ it. IsFirstBad c it bad))
  -- with whatever the source tells it did its work or found what is bad, or the source failed or memory ran out: no text is
  -- refused
  pub accepted :
      IfTold (input_of c) (source.left before)
      (λ it. Does it old new out.status out.kept.items out.ran ⊎ IsSomeAnd (bad_of out.status) (IsFirstBad c it)
      ⊎ IsNoRefusal out.status)
  -- where no count of faults rises, it comes to its end with that, and writes all of its output
  pub complete :
      IfTold (input_of c) (source.left before)
      (λ it. IsQuiet (source.faults before) (source.faults after) → IsQuiet (sink.faults old) (sink.faults new)
      → CompletesWith c it (output it out.kept.items out.ran) sink old new out)
  pub ended : IsEnded c sink old new out
  -- a refusal is the first fault of the bytes that the source told
  pub refused :
      IfSome (refusal_of out.status) (λ refused. IfSome (source.left before) (λ bytes. IsFault (input_of c) bytes refused))
  -- ReadFault comes only where the source's count of faults has risen
  pub read_fault : out.status ≡ status.ReadFault → HasRisen (source.faults before) (source.faults after)
  -- it takes at most one byte more than a text may have, and refuses the text as too long exactly where it takes that byte
  pub taken : TakesText (input_of c) (source.left before) (source.left after) (out.status ≡ status.Refused too_long)
  -- a command that reads nothing leaves its source as it was
  pub unread : reads_some (input_of c) ≡ false → after ≡ before
  -- the source's count of faults never falls
  pub count : source.faults before ≤ source.faults after

-- how a command comes to its end: with all of its own output
abbrev pub IsComplete : {K : Type 0} → (c : Command) → Told (input_of c) → Ghosts K → K → K → Outcome → Type 0
IsComplete c it sink old new out = CompletesWith c it (whole_output c it out.kept.items out.ran) sink old new out

-- what a call of command c promises
abbrev pub Promises : {S K : Type 0} → Command → Reader S → Ghosts K → S → S → K → K → Outcome → Type 0
Promises c source sink before after old new out =
    PromisesDoing c (HasDone c sink) (whole_output c) source sink before after old new out

-- words that name no command: nothing was read, written, kept or run
pub record IsBadWords {S K : Type 0} (before after : S) (old new : K) (out : Outcome) : Type 0 where
  pub ended : out.status ≡ status.BadWords
  pub source : after ≡ before
  pub sink : new ≡ old
  pub history : out.kept.items ≡ []
  pub no_threads : out.ran ≡ None
