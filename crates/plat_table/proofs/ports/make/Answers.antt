use Rattle.std.proofs.Common.{◌≡◌, ℕ, ◌+◌, ◌-◌, ◌%◌, ◌^◌, Bool, true, false, bit_and, bit_or, refl}
use Rattle.std.specs.Prelude.{◌==◌, if◌then◌else◌}
use mathlib.Core.Option.{none}
use prog.Atomic.{either}
use Rattle.plat_base.specs.declared.words.Op.TheVariants as op
use Rattle.atomic_table.specs.Table.{step}
use Rattle.plat_table.proofs.RuleLemmas.{its_step}
use Rattle.plat_table.proofs.ports.make.Goals as goal

either-if : (b : Bool) (x y : ℕ) → either b x y ≡ (if b then x else y)
either-if true x y = refl
either-if false x y = refl

pub load-requires : goal.load-requires
load-requires g c =
    its_step c.args.table.now.table_id c.args.seat.now.table_id c.args.table.now.key c.args.seat.now.id g.J.Turn.at
    (step c.args.table.now.table_id.slots c.args.at 0 0 none) c.args.seat.now.me c.args.at c.args.op op.Load
    c.requires.of c.requires.within c.requires.there c.requires.its_own c.in-Load.is (λ n. n) (λ n. n) (λ n. refl) (λ n. refl)

pub store-requires : goal.store-requires
store-requires g c =
    its_step c.args.table.now.table_id c.args.seat.now.table_id c.args.table.now.key c.args.seat.now.id g.J.Turn.at
    (step c.args.table.now.table_id.slots c.args.at c.in-Store.value 0 none) c.args.seat.now.me c.args.at c.args.op
    (op.Store c.in-Store.value)
    c.requires.of c.requires.within c.requires.there c.requires.its_own c.in-Store.is (λ _. c.in-Store.value) (λ _. c.in-Store.value)
    (λ n. refl) (λ n. refl)

pub swap-requires : goal.swap-requires
swap-requires g c =
    its_step c.args.table.now.table_id c.args.seat.now.table_id c.args.table.now.key c.args.seat.now.id g.J.Turn.at
    (step c.args.table.now.table_id.slots c.args.at c.in-Swap.value 0 none) c.args.seat.now.me c.args.at c.args.op (op.Swap c.in-Swap.value)
    c.requires.of c.requires.within c.requires.there c.requires.its_own c.in-Swap.is (λ _. c.in-Swap.value) (λ n. n) (λ n. refl) (λ n. refl)

pub fetch_add-requires : goal.fetch_add-requires
fetch_add-requires g c =
    its_step c.args.table.now.table_id c.args.seat.now.table_id c.args.table.now.key c.args.seat.now.id g.J.Turn.at
    (step c.args.table.now.table_id.slots c.args.at c.in-Add.k 0 none) c.args.seat.now.me c.args.at c.args.op (op.Add c.in-Add.k)
    c.requires.of c.requires.within c.requires.there c.requires.its_own c.in-Add.is (λ n. (n + c.in-Add.k) % 2 ^ 64) (λ n. n) (λ n. refl)
    (λ n. refl)

pub fetch_sub-requires : goal.fetch_sub-requires
fetch_sub-requires g c =
    its_step c.args.table.now.table_id c.args.seat.now.table_id c.args.table.now.key c.args.seat.now.id g.J.Turn.at
    (step c.args.table.now.table_id.slots c.args.at c.in-Sub.k 0 none) c.args.seat.now.me c.args.at c.args.op (op.Sub c.in-Sub.k)
    c.requires.of c.requires.within c.requires.there c.requires.its_own c.in-Sub.is (λ n. (n + (2 ^ 64 - c.in-Sub.k)) % 2 ^ 64) (λ n. n)
    (λ n. refl) (λ n. refl)

pub fetch_and-requires : goal.fetch_and-requires
fetch_and-requires g c =
    its_step c.args.table.now.table_id c.args.seat.now.table_id c.args.table.now.key c.args.seat.now.id g.J.Turn.at
    (step c.args.table.now.table_id.slots c.args.at c.in-And.k 0 none) c.args.seat.now.me c.args.at c.args.op (op.And c.in-And.k)
    c.requires.of c.requires.within c.requires.there c.requires.its_own c.in-And.is (λ n. bit_and n c.in-And.k) (λ n. n) (λ n. refl)
    (λ n. refl)

pub fetch_or-requires : goal.fetch_or-requires
fetch_or-requires g c =
    its_step c.args.table.now.table_id c.args.seat.now.table_id c.args.table.now.key c.args.seat.now.id g.J.Turn.at
    (step c.args.table.now.table_id.slots c.args.at c.in-Or.k 0 none) c.args.seat.now.me c.args.at c.args.op (op.Or c.in-Or.k)
    c.requires.of c.requires.within c.requires.there c.requires.its_own c.in-Or.is (λ n. bit_or n c.in-Or.k) (λ n. n) (λ n. refl)
    (λ n. refl)

pub compare_exchange-requires : goal.compare_exchange-requires
compare_exchange-requires g c =
    its_step c.args.table.now.table_id c.args.seat.now.table_id c.args.table.now.key c.args.seat.now.id g.J.Turn.at
    (step c.args.table.now.table_id.slots c.args.at c.in-Exchange.old c.in-Exchange.new none) c.args.seat.now.me c.args.at c.args.op
    (op.Exchange c.in-Exchange.old c.in-Exchange.new)
    c.requires.of c.requires.within c.requires.there c.requires.its_own c.in-Exchange.is
    (λ n. either (n == c.in-Exchange.old) c.in-Exchange.new n) (λ n. n) (λ n. either-if (n == c.in-Exchange.old) c.in-Exchange.new n)
    (λ n. refl)
