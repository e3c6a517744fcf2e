use Rattle.std.proofs.Common.{◌≡◌, ◌+◌, slice_index, subst, sym, arith}
use Rattle.std.proofs.lemmas.Grind.{get_or_default_zero}
use Rattle.plat_flat.specs.FlatSeen.{IsFlatOf, place}
use Rattle.plat_flat.proofs.Accesses.{flat-written, write-unless_load, one_write, place-within}
use Rattle.plat_flat.proofs.memory.Flat.apply_access.Goals as goal

pub returns-then-ne-clause-applied : goal.returns-then-ne-clause-applied
returns-then-ne-clause-applied c = λ m items h e.
    let a = c.args.access.now
    in let flat = c.self.inside
    in let write = write-unless_load a.kind c.if-ne.ensures
    in let made = one_write a.kind write
    in let within = place-within _ _ _ _ _ c.self.invariant.versions c.if-access-self.false c.if-access-self-2.false
    in let read = get_or_default_zero flat.versions.items (place flat.words a.page a.word) c.index.result.now within
    in let counted : a.version ≡ slice_index flat.versions.items (place flat.words a.page a.word) + 1 = omega arith
    in flat-written m items a _ (subst (IsFlatOf m items) (sym c.self.view_is) h) c.self.invariant (omega arith) (omega arith) write counted
