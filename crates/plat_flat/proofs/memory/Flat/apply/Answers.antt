use Rattle.plat_flat.proofs.memory.Flat.apply.Goals as goal

pub returns-in-Access-clause-applied : goal.returns-in-Access-clause-applied
returns-in-Access-clause-applied c = λ m items h e. rw c.in-Access.is (c.apply_access.ensures.applied m items h e)
