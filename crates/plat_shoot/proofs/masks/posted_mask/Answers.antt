-- a number of 24 bits is a mask
use Rattle.std.proofs.Common.{◌≡◌, ℕ, ◌<◌, ◌^◌, arith}
use Rattle.plat_events.specs.Words.{bits_from}
use Rattle.plat_words.specs.declared.cmap_words.CmapWord.{CmapWord}
use Rattle.plat_words.specs.Encodings.{cmap_encoded}
use Rattle.plat_words.proofs.SingleBits.{bits_from-below}
use Rattle.plat_shoot.proofs.masks.posted_mask.Goals as goal

parts_of : ℕ → CmapWord
parts_of n = record {
  reference = bits_from n 0 8;
  invalidate = bits_from n 8 8;
  restrict = bits_from n 16 8;
  references = bits_from-below n 0 8;
  invalidates = bits_from-below n 8 8;
  restricts = bits_from-below n 16 8;
}

parts_of-back : (n : ℕ) → n < 2 ^ 24 → cmap_encoded (parts_of n) ≡ n
unfolding parts_of
parts_of-back n h = omega arith

pub unreachable-requires : goal.unreachable-requires
unreachable-requires c =
    c.in_default.not-Some (parts_of c.args.mask) (c.decode.ensures.exact (parts_of c.args.mask) (parts_of-back c.args.mask c.requires.mask))
