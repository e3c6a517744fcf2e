use Rattle.std.proofs.Common.{rules, ◌≡◌, false, sym, ◌∙◌}
use Rattle.plat_table_tests.proofs.TableTriedLemmas.{two_there, both_over}
use Rattle.plat_table_tests.proofs.table_tests.close.Goals as goal

pub close-requires-clause-over : goal.close-requires-clause-over
close-requires-clause-over g c =
    let crew = c.args.rider.crew in
    let first : c.live-first.result ≡ false = search rules in
    let second : c.live-second.result ≡ false = search rules in
    record {
      all = two_there crew 0 1 c.requires.both ∙ sym c.requires.all;
      over = both_over crew 0 1 c.requires.both (sym c.live-first.ensures ∙ first) (sym c.live-second.ensures ∙ second);
    }
