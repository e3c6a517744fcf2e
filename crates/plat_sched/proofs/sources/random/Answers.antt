use Rattle.std.proofs.Common.{◌≡◌, arith, ap, ◌∙◌}
use Rattle.plat_base.specs.Schedule.{random_word}
use Rattle.plat_sched.proofs.ActorsLemmas.{some_actor}
use Rattle.plat_sched.proofs.RandomLemmas.{word_is}
use Rattle.plat_sched.proofs.sources.random.Goals as goal

first_same : {A B : Type 0} (p q : A × B) → p ≡ q → p.0 ≡ q.0
first_same {A} {B} p q e = ap (λ (r : A × B). r.0) e

pub nonzero_rem-word : goal.nonzero_rem-word
nonzero_rem-word c = omega (arith, some_actor c.args.live (omega arith) c.requires.live)

pub returns-clause-chosen : goal.returns-clause-chosen
returns-clause-chosen c =
    let word : c.next_word-word.result ≡ random_word c.args.words.now.state = first_same _ _ c.next_word-word.ensures
    ∙ word_is c.args.words.now.state c.requires.state in
    rw (← word, ← c.count.ensures) c.nth.ensures
