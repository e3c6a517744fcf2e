-- what a port tells of its words and of the actor that it serves, and how an operation changes that
use Rattle.std.specs.Prelude.{◌≡◌, ℕ, List, length, Option, Some, None, IfSome, slice_index, slice_set}
use Rattle.plat_base.specs.Machine.{Machine}
use Rattle.plat_base.specs.Verdicts.{policy_answer}
use Rattle.plat_base.specs.declared.words.Op.{Op}
use Rattle.plat_events.specs.Operations.{written, told}
use Rattle.plat_events.specs.Places.{word_count}
use Rattle.plat_events.specs.Privates.{Private}
use Rattle.plat_events.specs.Events.{next_of, after}

-- the actor that a port serves, its machine, and its private state
pub record Told : Type 0 where
  pub machine : Machine
  pub actor : ℕ
  pub state : Private

-- it is the next operation of the actor
abbrev pub IsItsOperation : Told → (at : ℕ) → Op → Type 0
IsItsOperation t at op = next_of t.machine (policy_answer t.machine.policy) t.actor t.state ≡ Some (at, op)

-- the actor once its operation told n
abbrev pub told_next : Told → ℕ → Told
told_next t n =
    record { machine = t.machine; actor = t.actor; state = after t.machine (policy_answer t.machine.policy) t.actor t.state n }

abbrev pub told_after : ℕ → Option Told → Option Told
told_after n None = None
told_after n (Some t) = Some (told_next t n)

-- the words after an operation on the one at a place
abbrev pub words_set : (at : ℕ) → Op → List ℕ → List ℕ
words_set at op words = slice_set words at (written op (slice_index words at))

abbrev pub words_after : (at : ℕ) → Op → Option (List ℕ) → Option (List ℕ)
words_after at op None = None
words_after at op (Some words) = Some (words_set at op words)

-- what the operation x made of the words and of the actor's private state, where it told n
pub record Makes (m : Machine) (a : ℕ) (p q : Private) (before now : Option (List ℕ)) (x : ℕ × Op) (n : ℕ) : Type 0 where
  pub state : q ≡ after m (policy_answer m.policy) a p n
  pub words : now ≡ words_after x.0 x.1 before
  pub found : IfSome before (λ ws. n ≡ told x.1 (slice_index ws x.0))
  pub says : (k : ℕ) × (n ≡ told x.1 k)

-- one event of the actor leads from p to q: its next operation, and what follows from the number that the operation told
abbrev pub IsEvent : Machine → (a : ℕ) → (p q : Private) → (before now : Option (List ℕ)) → Type 0
IsEvent m a p q before now =
    (x : ℕ × Op) × (next_of m (policy_answer m.policy) a p ≡ Some x) × ((n : ℕ) × Makes m a p q before now x n)

-- the words, where they are told, are those of the machine
abbrev pub AreWords : Machine → Option (List ℕ) → Type 0
AreWords m words = IfSome words (λ ws. length ws ≡ word_count m)

-- the actor that is told of, where one is, is this one
abbrev pub IsServed : Machine → (a : ℕ) → Private → Option Told → Type 0
IsServed m a p told = IfSome told (λ t. t ≡ record { machine = m; actor = a; state = p })
