-- the run of one guest on the values that its loads and fetch-and-adds get
use Rattle.std.specs.Prelude.{ℕ, zero, suc, ◌+◌, ◌-◌, ◌*◌, ◌/◌, ◌%◌, ◌^◌, ◌==◌, nat_lt, bit_and, if◌then◌else◌, List, [], ◌∷◌, ◌++◌, Option}
use Rattle.std.specs.Prelude.{Some, None, is_some, replicate, slice_get, slice_index, slice_index_or, slice_set}
use Rattle.plat_base.specs.Machine.{Machine, Program}
use Rattle.plat_base.specs.Pages.{program_of, entry_at, page_of, entry_reached}
use Rattle.plat_base.specs.declared.guests.Instr.{Instr}
use Rattle.plat_base.specs.declared.guests.Instr.TheVariants as instr
use Rattle.plat_base.specs.declared.guests.Label.{Label}
use Rattle.plat_base.specs.declared.guests.Want.{Want}
use Rattle.plat_base.specs.declared.guests.Want.TheVariants as want
use Rattle.plat_base.specs.declared.items.Kind.{Kind}
use Rattle.plat_base.specs.declared.items.Kind.TheVariants as kind

-- sixteen registers, the position of the next instruction, and the active space
pub record GuestState : Type 0 where
  pub registers : List ℕ
  pub at : ℕ
  pub space : ℕ

-- an access as the guest makes it: a word of a page by an address of a space
pub record Reach : Type 0 where
  pub kind : Kind
  pub space : ℕ
  pub addr : ℕ
  pub page : ℕ
  pub word : ℕ
  pub operand : ℕ

pub data Operation : Type 0 where
  Reaches : (reach : Reach) → Operation
  Switches : (space : ℕ) → Operation

pub data Outcome : Type 0 where
  GoesOn : Outcome
  HasHalted : Outcome
  HasTrapped : Outcome

-- a run so far: the guest's state, how many values it used, what it did and printed, its turns, and how it stands
pub record GuestRun : Type 0 where
  pub state : GuestState
  pub used : ℕ
  pub operations : List Operation
  pub prints : List ℕ
  pub turns : ℕ
  pub outcome : Outcome

-- ---- one instruction

abbrev pub word_modulus : ℕ
word_modulus = 4294967296

abbrev pub register : GuestState → ℕ → ℕ
register s r = slice_index s.registers r

abbrev pub no_label : Label
no_label = record { name = []; at = 0 }

abbrev pub target : Program → ℕ → ℕ
target p label = (slice_index_or p.labels label no_label).at

-- the next instruction follows
abbrev pub passed : GuestState → GuestState
passed s = record { registers = s.registers; at = s.at + 1; space = s.space }

abbrev pub put : GuestState → ℕ → ℕ → GuestState
put s r v = record { registers = slice_set s.registers r v; at = s.at + 1; space = s.space }

abbrev pub gone : GuestState → ℕ → GuestState
gone s at = record { registers = s.registers; at = at; space = s.space }

abbrev pub moved : GuestState → ℕ → GuestState
moved s space = record { registers = s.registers; at = s.at + 1; space = space }

-- the guest after an instruction; value is what a load or fetch-and-add found
abbrev pub executed : Program → Instr → GuestState → ℕ → GuestState
executed p (instr.Set d n) s value = put s d n
executed p (instr.Move d a) s value = put s d (register s a)
executed p (instr.Add d a b) s value = put s d ((register s a + register s b) % word_modulus)
executed p (instr.Sub d a b) s value = put s d ((register s a + word_modulus - register s b) % word_modulus)
executed p (instr.Mul d a b) s value = put s d ((register s a * register s b) % word_modulus)
executed p (instr.And d a b) s value = put s d (bit_and (register s a) (register s b))
executed p (instr.Shr d a b) s value = put s d (register s a / 2 ^ (register s b % 32))
executed p (instr.Load d k i) s value = put s d value
executed p (instr.Store r k i) s value = passed s
executed p (instr.Fadd d r k i) s value = put s d value
executed p (instr.Switch space) s value = moved s space
executed p (instr.Print r) s value = passed s
executed p (instr.Jump l) s value = gone s (target p l)
executed p (instr.Zero a l) s value = if register s a == 0 then gone s (target p l) else passed s
executed p (instr.Less a b l) s value = if nat_lt (register s a) (register s b) then gone s (target p l) else passed s
executed p instr.Halt s value = s

abbrev pub address : GuestState → ℕ → Option ℕ → ℕ
address s k None = k
address s k (Some r) = (k + register s r) % word_modulus

-- an access, or a trap where the address has no entry in the active space
abbrev pub access_or_trap : Machine → Kind → (space addr operand : ℕ) → Want
access_or_trap m kind space addr operand =
    if is_some (entry_at m space (addr / m.words)) then want.Access kind space addr operand else want.Trap

abbrev pub wanted : Machine → GuestState → Instr → Want
wanted m s (instr.Set d n) = want.Local
wanted m s (instr.Move d a) = want.Local
wanted m s (instr.Add d a b) = want.Local
wanted m s (instr.Sub d a b) = want.Local
wanted m s (instr.Mul d a b) = want.Local
wanted m s (instr.And d a b) = want.Local
wanted m s (instr.Shr d a b) = want.Local
wanted m s (instr.Load d k i) = access_or_trap m kind.Load s.space (address s k i) 0
wanted m s (instr.Store r k i) = access_or_trap m kind.Store s.space (address s k i) (register s r)
wanted m s (instr.Fadd d r k i) = access_or_trap m kind.Add s.space (address s k i) (register s r)
wanted m s (instr.Switch space) = want.Switch space
wanted m s (instr.Print r) = want.Print (register s r)
wanted m s (instr.Jump l) = want.Local
wanted m s (instr.Zero a l) = want.Local
wanted m s (instr.Less a b l) = want.Local
wanted m s instr.Halt = want.Halted

-- past its last instruction a guest halts
abbrev pub wanted_next : Machine → GuestState → Option Instr → Want
wanted_next m s None = want.Halted
wanted_next m s (Some i) = wanted m s i

-- what guest q wants of its next turn
abbrev pub want_of : Machine → ℕ → GuestState → Want
want_of m q s = wanted_next m s (slice_get (program_of m q).code s.at)

abbrev pub executed_next : Program → GuestState → ℕ → Option Instr → GuestState
executed_next p s value None = s
executed_next p s value (Some i) = executed p i s value

-- the guest after its next instruction
abbrev pub guest_after : Machine → ℕ → GuestState → ℕ → GuestState
guest_after m q s value = executed_next (program_of m q) s value (slice_get (program_of m q).code s.at)

-- ---- the run

abbrev pub guest_start : Machine → ℕ → GuestState
guest_start m q = record { registers = replicate 16 0; at = 0; space = (program_of m q).space }

abbrev pub run_start : Machine → ℕ → GuestRun
run_start m q = record { state = guest_start m q; used = 0; operations = []; prints = []; turns = 0; outcome = GoesOn }

-- how many values an access uses, and the value that it gets; a store needs none
abbrev pub values_taken : Kind → ℕ
values_taken kind.Load = 1
values_taken kind.Store = 0
values_taken kind.Add = 1

abbrev pub value_for : Kind → List ℕ → ℕ → Option ℕ
value_for kind.Load values used = slice_get values used
value_for kind.Store values used = Some 0
value_for kind.Add values used = slice_get values used

abbrev pub reach_of : Machine → Kind → (space addr operand : ℕ) → Reach
reach_of m kind space addr operand = record {
  kind = kind;
  space = space;
  addr = addr;
  page = page_of m (entry_reached m space addr);
  word = addr % m.words;
  operand = operand;
}

-- one more turn that goes on, with what it did
abbrev pub with_turn : GuestRun → GuestState → ℕ → List Operation → List ℕ → GuestRun
with_turn r state taken done printed = record {
  state = state;
  used = r.used + taken;
  operations = r.operations ++ done;
  prints = r.prints ++ printed;
  turns = r.turns + 1;
  outcome = GoesOn;
}

-- a last turn
abbrev pub with_end : GuestRun → Outcome → GuestRun
with_end r outcome =
    record { state = r.state; used = r.used; operations = r.operations; prints = r.prints; turns = r.turns + 1; outcome = outcome }

-- an access with its value; a turn whose value is not there is not made
abbrev pub with_access : Machine → ℕ → GuestRun → Reach → Option ℕ → GuestRun
with_access m q r reach None = r
with_access m q r reach (Some value) =
    with_turn r (guest_after m q r.state value) (values_taken reach.kind) (Reaches reach ∷ []) []

abbrev pub guest_does : Machine → ℕ → List ℕ → GuestRun → Want → GuestRun
guest_does m q values r want.Local = with_turn r (guest_after m q r.state 0) 0 [] []
guest_does m q values r (want.Access kind space addr operand) =
    with_access m q r (reach_of m kind space addr operand) (value_for kind values r.used)
guest_does m q values r (want.Switch space) = with_turn r (guest_after m q r.state 0) 0 (Switches space ∷ []) []
guest_does m q values r (want.Print value) = with_turn r (guest_after m q r.state 0) 0 [] (value ∷ [])
guest_does m q values r want.Halted = with_end r HasHalted
guest_does m q values r want.Trap = with_end r HasTrapped

-- one more turn, if the guest goes on
abbrev pub guest_more : Machine → ℕ → List ℕ → GuestRun → Outcome → GuestRun
guest_more m q values r GoesOn = guest_does m q values r (want_of m q r.state)
guest_more m q values r HasHalted = r
guest_more m q values r HasTrapped = r

-- at most so many turns of guest q, on these values
abbrev pub guest_run : Machine → ℕ → List ℕ → ℕ → GuestRun
guest_run m q values zero = run_start m q
guest_run m q values (suc t) = let r = guest_run m q values t in guest_more m q values r r.outcome
