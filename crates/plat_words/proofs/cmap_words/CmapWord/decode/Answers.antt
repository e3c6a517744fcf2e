-- a value whose word this is has the numbers that were read
use Rattle.std.proofs.Common.{Some, ap, arith}
use Rattle.plat_words.proofs.Sames.{cmap_read}
use Rattle.plat_words.proofs.cmap_words.CmapWord.decode.Goals as goal

pub returns-then-word-clause-exact : goal.returns-then-word-clause-exact
returns-then-word-clause-exact c = λ x e.
    ap Some
    (cmap_read c.args.word x _
    (record { references = grind arith; invalidates = grind arith; restricts = grind arith }) e)
