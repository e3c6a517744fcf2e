use Rattle.std.proofs.Common.{◌∷◌, []}
use Rattle.plat_report.specs.Lines.{access_words, cache_words}
use Rattle.plat_report.proofs.WritingLemmas.{adds_more}
use Rattle.plat_report.proofs.lines.write_count.Goals as goal

pub returns : goal.returns
returns g c =
    adds_more g.K.Sink c.args.sink.now c.write_accesses.new.sink c.write_cache.new.sink c.write_cache.result
    (access_words c.args.q c.args.counts.now.accesses ∷ []) (cache_words c.args.q c.args.counts.now.cache ∷ [])
    c.in_ok-write_accesses.ensures c.write_cache.ensures
