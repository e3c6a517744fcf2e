-- a guest's instructions: the forms of their lines, and the numbers of the labels that they name
use Rattle.std.specs.Prelude.{ℕ, ◌==◌, nat_lt, nat_le, if◌then◌else◌, List, [], ◌∷◌, ◌++◌, position, Option, Some, None, Result, Ok, Err}
use Rattle.std.specs.Prelude.{bytes_eq, codes}
use Rattle.plat_grammar.specs.Lines.{number_of}
use Rattle.plat_base.specs.Labels.{is_label_name}
use Rattle.plat_grammar.specs.Forms.{◌>>=◌, Row, refused, word_at, read_as, one, any_number, number, nothing, ◌·◌, made, maybe, chosen}
use Rattle.plat_base.specs.declared.faults.Refused.{Refused}
use Rattle.plat_base.specs.declared.faults.Why.{Why}
use Rattle.plat_base.specs.declared.faults.Why.TheVariants as why
use Rattle.plat_base.specs.declared.guests.Instr.{Instr}
use Rattle.plat_base.specs.declared.guests.Instr.TheVariants as instr
use Rattle.plat_base.specs.declared.guests.Label.{Label}
use Rattle.plat_base.specs.declared.limits.TheConstants.{REGISTERS, INSTRUCTIONS}

-- ---- instructions

-- where a label is used
pub record Target : Type 0 where
  pub line : ℕ
  pub column : ℕ
  pub name : List ℕ

-- an instruction before its label has a number, which is 0 in its place
pub record Draft : Type 0 where
  pub instr : Instr
  pub target : Option Target

abbrev pub plain : Instr → Draft
plain i = record { instr = i; target = None }

abbrev pub register_within : ℕ → Result ℕ Why
register_within n = if nat_lt n REGISTERS then Ok n else Err why.BadRegister

abbrev pub numbered_register : Result ℕ Why → Result ℕ Why
numbered_register (Ok n) = register_within n
numbered_register (Err fault) = Err why.BadRegister

-- r0 to r15
unfoldable pub register_of : List ℕ → Result ℕ Why
register_of [] = Err why.BadRegister
register_of (b ∷ word) = if b == 114 then numbered_register (number_of word) else Err why.BadRegister

abbrev pub register : Row → Result (ℕ × Row) Refused
register = one register_of

abbrev pub name_of : List ℕ → Result (List ℕ) Why
name_of word = if is_label_name word then Ok word else Err why.BadLabel

-- the label that an instruction goes to
abbrev pub target : Row → Result (Target × Row) Refused
target row = word_at row >>= λ w. read_as row.line w.0 (name_of w.0.bytes) >>= λ name.
    Ok (record { line = row.line; column = w.0.column; name = name }, w.1)

abbrev pub address : Row → Result (ℕ × Option ℕ) Refused
address = any_number · maybe register

abbrev pub two_registers : Row → Result (ℕ × (ℕ × Unit {0})) Refused
two_registers = register · register · nothing

abbrev pub three_registers : Row → Result (ℕ × (ℕ × (ℕ × Unit {0}))) Refused
three_registers = register · register · register · nothing

unfoldable pub set_line : Row → Result Draft Refused
set_line = made (λ x. plain (instr.Set x.0 x.1.0)) (register · any_number · nothing)

unfoldable pub move_line : Row → Result Draft Refused
move_line = made (λ x. plain (instr.Move x.0 x.1.0)) two_registers

unfoldable pub add_line : Row → Result Draft Refused
add_line = made (λ x. plain (instr.Add x.0 x.1.0 x.1.1.0)) three_registers

unfoldable pub sub_line : Row → Result Draft Refused
sub_line = made (λ x. plain (instr.Sub x.0 x.1.0 x.1.1.0)) three_registers

unfoldable pub mul_line : Row → Result Draft Refused
mul_line = made (λ x. plain (instr.Mul x.0 x.1.0 x.1.1.0)) three_registers

unfoldable pub and_line : Row → Result Draft Refused
and_line = made (λ x. plain (instr.And x.0 x.1.0 x.1.1.0)) three_registers

unfoldable pub shr_line : Row → Result Draft Refused
shr_line = made (λ x. plain (instr.Shr x.0 x.1.0 x.1.1.0)) three_registers

unfoldable pub load_line : Row → Result Draft Refused
load_line = made (λ x. plain (instr.Load x.0 x.1.0 x.1.1)) (register · address)

unfoldable pub store_line : Row → Result Draft Refused
store_line = made (λ x. plain (instr.Store x.0 x.1.0 x.1.1)) (register · address)

unfoldable pub fadd_line : Row → Result Draft Refused
fadd_line = made (λ x. plain (instr.Fadd x.0 x.1.0 x.1.1.0 x.1.1.1)) (register · register · address)

unfoldable pub switch_line : Row → Result Draft Refused
switch_line = made (λ x. plain (instr.Switch x.0)) (number 0 7 · nothing)

unfoldable pub print_line : Row → Result Draft Refused
print_line = made (λ x. plain (instr.Print x.0)) (register · nothing)

unfoldable pub jump_line : Row → Result Draft Refused
jump_line = made (λ x. record { instr = instr.Jump 0; target = Some x.0 }) (target · nothing)

unfoldable pub zero_line : Row → Result Draft Refused
zero_line = made (λ x. record { instr = instr.Zero x.0 0; target = Some x.1.0 }) (register · target · nothing)

unfoldable pub less_line : Row → Result Draft Refused
less_line = made (λ x. record { instr = instr.Less x.0 x.1.0 0; target = Some x.1.1.0 }) (register · register · target · nothing)

unfoldable pub halt_line : Row → Result Draft Refused
halt_line = made (λ _. plain instr.Halt) nothing

-- the lines of a guest's instructions, by their first words
abbrev pub instructions : List (List ℕ × (Row → Result Draft Refused))
instructions =
    (codes "set", set_line)
    ∷ (codes "move", move_line)
    ∷ (codes "add", add_line)
    ∷ (codes "sub", sub_line)
    ∷ (codes "mul", mul_line)
    ∷ (codes "and", and_line)
    ∷ (codes "shr", shr_line)
    ∷ (codes "load", load_line)
    ∷ (codes "store", store_line)
    ∷ (codes "fadd", fadd_line)
    ∷ (codes "switch", switch_line)
    ∷ (codes "print", print_line)
    ∷ (codes "jump", jump_line)
    ∷ (codes "zero", zero_line)
    ∷ (codes "less", less_line)
    ∷ (codes "halt", halt_line)
    ∷ []

-- an instruction after so many
unfoldable pub instruction_line : ℕ → Row → Result Draft Refused
instruction_line count row = word_at row >>= λ w.
    (if nat_le INSTRUCTIONS count
    then Err (refused row.line w.0.column why.TooMany)
    else chosen instructions (refused row.line w.0.column why.UnknownInstruction) w.0.bytes w.1)

-- ---- labels' numbers

abbrev pub with_label : ℕ → Instr → Instr
with_label l (instr.Set d n) = instr.Set d n
with_label l (instr.Move d a) = instr.Move d a
with_label l (instr.Add d a b) = instr.Add d a b
with_label l (instr.Sub d a b) = instr.Sub d a b
with_label l (instr.Mul d a b) = instr.Mul d a b
with_label l (instr.And d a b) = instr.And d a b
with_label l (instr.Shr d a b) = instr.Shr d a b
with_label l (instr.Load d k i) = instr.Load d k i
with_label l (instr.Store s k i) = instr.Store s k i
with_label l (instr.Fadd d s k i) = instr.Fadd d s k i
with_label l (instr.Switch s) = instr.Switch s
with_label l (instr.Print s) = instr.Print s
with_label l (instr.Jump _) = instr.Jump l
with_label l (instr.Zero a _) = instr.Zero a l
with_label l (instr.Less a b _) = instr.Less a b l
with_label l instr.Halt = instr.Halt

-- the number of the label with this name
abbrev pub label_number : List Label → List ℕ → Option ℕ
label_number labels name = position (λ l. bytes_eq name l.name) labels

abbrev pub linked_to : Draft → Target → Option ℕ → Result Instr Refused
linked_to d t (Some l) = Ok (with_label l d.instr)
linked_to d t None = Err (refused t.line t.column why.UnknownLabel)

abbrev pub linked_by : List Label → Draft → Option Target → Result Instr Refused
linked_by labels d None = Ok d.instr
linked_by labels d (Some t) = linked_to d t (label_number labels t.name)

-- an instruction with its label's number
abbrev pub linked : List Label → Draft → Result Instr Refused
linked labels d = linked_by labels d d.target

-- the instructions of a guest, in order; what stands before them was seen
unfoldable pub code_from : List Label → List Instr → List Draft → Result (List Instr) Refused
code_from labels seen [] = Ok seen
code_from labels seen (d ∷ ds) = linked labels d >>= λ i. code_from labels (seen ++ i ∷ []) ds
