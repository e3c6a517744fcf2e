use Rattle.std.proofs.Common.{[], arith, get_or, ◌≡◌, ◌<◌}
use Rattle.std.proofs.lemmas.Bool.Decides.{nat_tests}
use Rattle.std.proofs.lemmas.List.{get_or_default, length-set}
use Rattle.plat_base.specs.Seen.{machine}
use Rattle.plat_chronicle.proofs.TranslationLemmas.{ShowsTranslations-change, get_or-granted}
use Rattle.plat_chronicle.proofs.translations.Translations.change.Goals as goal

pub returns-in-Some : goal.returns-in-Some
returns-in-Some c = λ items shows.
    let m = machine c.args.cfg.now in
    let change = c.args.change.now in
    let pmaps = c.args.self.now.pmaps.items in
    let node : change.actor < m.nodes = grind (arith, c.if-change-len.false, c.len.ensures, c.requires.size) in
    let read : c.index_mut-pmap.result.now ≡ get_or pmaps change.actor [] =
    grind (arith, get_or_default pmaps change.actor c.index_mut-pmap.result.now [], c.requires.size, c.index_mut-pmap.ensures.value) in
    let wide = c.requires.wide change.actor node in
    let kept = c.remove_own.ensures in
    ShowsTranslations-change m items change pmaps c.install.new.self shows node
    (grind (arith, read, wide, kept.wide, c.install.ensures, length-set c.remove_own.new.pmap))
    (λ entry inside. grind (
      arith,
      nat_tests,
      read,
      wide,
      kept.wide,
      kept.places entry,
      c.install.ensures,
      c.in-Some.is,
      c.requires.grant,
      get_or-granted c.remove_own.new.pmap c.in-Some.grant change.seq entry,
    ))

pub returns-in_default : goal.returns-in_default
returns-in_default c = λ items shows.
    let m = machine c.args.cfg.now in
    let change = c.args.change.now in
    let pmaps = c.args.self.now.pmaps.items in
    let node : change.actor < m.nodes = grind (arith, c.if-change-len.false, c.len.ensures, c.requires.size) in
    let read : c.index_mut-pmap.result.now ≡ get_or pmaps change.actor [] =
    grind (arith, get_or_default pmaps change.actor c.index_mut-pmap.result.now [], c.requires.size, c.index_mut-pmap.ensures.value) in
    let wide = c.requires.wide change.actor node in
    let kept = c.remove_own.ensures in
    ShowsTranslations-change m items change pmaps c.remove_own.new.pmap shows node
    (grind (arith, read, wide, kept.wide))
    (λ entry inside. grind (arith, nat_tests, read, wide, kept.wide, kept.places entry, c.in_default.is))
