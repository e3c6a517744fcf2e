-- the instructions that print
use Rattle.std.specs.Prelude.{Bool, true, false}
use Rattle.plat_base.specs.declared.guests.Instr.{Instr}
use Rattle.plat_base.specs.declared.guests.Instr.TheVariants as instr

abbrev pub is_print : Instr → Bool
is_print (instr.Set d n) = false
is_print (instr.Move d a) = false
is_print (instr.Add d a b) = false
is_print (instr.Sub d a b) = false
is_print (instr.Mul d a b) = false
is_print (instr.And d a b) = false
is_print (instr.Shr d a b) = false
is_print (instr.Load d k i) = false
is_print (instr.Store r k i) = false
is_print (instr.Fadd d r k i) = false
is_print (instr.Switch space) = false
is_print (instr.Print r) = true
is_print (instr.Jump l) = false
is_print (instr.Zero a l) = false
is_print (instr.Less a b l) = false
is_print instr.Halt = false
