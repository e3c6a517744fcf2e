-- what one operation does to the word that it finds, and what it tells of that word
use Rattle.std.specs.Prelude.{ℕ, ◌+◌, ◌-◌, ◌%◌, ◌^◌, ◌==◌, if◌then◌else◌, Bool, true, false, bit_and, bit_or}
use Rattle.plat_base.specs.declared.words.Op.{Op}
use Rattle.plat_base.specs.declared.words.Op.TheVariants as op

-- the word after the operation
abbrev pub written : Op → ℕ → ℕ
written op.Load n = n
written (op.Store value) n = value
written (op.Swap value) n = value
written (op.Add k) n = (n + k) % 2 ^ 64
written (op.Sub k) n = (n + (2 ^ 64 - k)) % 2 ^ 64
written (op.And k) n = bit_and n k
written (op.Or k) n = bit_or n k
written (op.Exchange old new) n = if n == old then new else n

-- what the operation answers: the word that it found, but 0 for a store, which tells nothing
abbrev pub told : Op → ℕ → ℕ
told op.Load n = n
told (op.Store value) n = 0
told (op.Swap value) n = n
told (op.Add k) n = n
told (op.Sub k) n = n
told (op.And k) n = n
told (op.Or k) n = n
told (op.Exchange old new) n = n

abbrev pub is_store : Op → Bool
is_store op.Load = false
is_store (op.Store value) = true
is_store (op.Swap value) = false
is_store (op.Add k) = false
is_store (op.Sub k) = false
is_store (op.And k) = false
is_store (op.Or k) = false
is_store (op.Exchange old new) = false
