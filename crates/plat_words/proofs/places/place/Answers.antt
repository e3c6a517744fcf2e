-- the words of frames stand behind all others
use Rattle.std.proofs.Common.{◌∙◌, sym, arith}
use Rattle.plat_base.specs.Seen.{machine}
use Rattle.plat_base.proofs.LimitLemmas.{nodes_most, frames_most, words_most, pages_most}
use Rattle.plat_base.proofs.EntryLimits.{entries_most_of}
use Rattle.plat_words.proofs.PlacesApart.{memory_apart, memory_most}
use Rattle.plat_words.proofs.places.place.Goals as goal

pub returns-in-Memory-clause-apart : goal.returns-in-Memory-clause-apart
returns-in-Memory-clause-apart c = λ other h e.
    let named = rw c.in-Memory.is at c.requires in
    memory_apart (machine c.args.cfg.now) c.in-Memory.module c.in-Memory.number c.in-Memory.word other named h
    (omega (arith, e, c.len-entries.ensures))
    ∙ sym c.in-Memory.is

pub overflow_add-result-in-Memory-4 : goal.overflow_add-result-in-Memory-4
overflow_add-result-in-Memory-4 c =
    let cfg = c.args.cfg.now in
    let named = rw c.in-Memory.is at c.requires in
    let small =
    memory_most (machine cfg) c.in-Memory.module c.in-Memory.number c.in-Memory.word
    (nodes_most cfg) (frames_most cfg) (words_most cfg) named in
    omega (arith, small, entries_most_of cfg, nodes_most cfg, pages_most cfg)

pub overflow_add-result-in-Memory-5 : goal.overflow_add-result-in-Memory-5
overflow_add-result-in-Memory-5 c =
    let cfg = c.args.cfg.now in
    let named = rw c.in-Memory.is at c.requires in
    let small =
    memory_most (machine cfg) c.in-Memory.module c.in-Memory.number c.in-Memory.word
    (nodes_most cfg) (frames_most cfg) (words_most cfg) named in
    omega (arith, small, entries_most_of cfg, nodes_most cfg, pages_most cfg)
