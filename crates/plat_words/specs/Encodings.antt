-- the numbers that the words of this crate are written as
use Rattle.std.specs.Prelude.{◌≡◌, ℕ, ◌*◌, ◌^◌, ◌<◌, [], ◌∷◌}
use Rattle.plat_base.specs.declared.frames.Dir.{Dir}
use Rattle.plat_events.specs.Words.{most_nodes, packed, bits_from, dir_word, dir_read, is_locked, stamp_word, last_read, seq_read}
use Rattle.plat_events.specs.Words.{data_word, value_read, version_read}
use Rattle.plat_words.specs.declared.dir_words.DirWord.{DirWord}
use Rattle.plat_words.specs.declared.cmap_words.CmapWord.{CmapWord}
use Rattle.plat_words.specs.declared.stamp_words.StampWord.{StampWord}
use Rattle.plat_words.specs.declared.data_words.DataWord.{DataWord}

-- ---- directories

abbrev pub dir_kept : DirWord → Dir
dir_kept x = record { state = x.state; frozen = x.frozen; copies = x.copies }

abbrev pub dir_encoded : DirWord → ℕ
dir_encoded x = dir_word (dir_kept x) x.locked

-- what the events read in a number
pub record IsDirRead (n : ℕ) (x : DirWord) : Type 0 where
  pub dir : dir_kept x ≡ dir_read n
  pub lock : x.locked ≡ is_locked n

-- ---- masks

abbrev pub cmap_encoded : CmapWord → ℕ
cmap_encoded x = packed ((x.reference, most_nodes) ∷ (x.invalidate, most_nodes) ∷ (x.restrict, most_nodes) ∷ [])

pub record IsCmapRead (n : ℕ) (x : CmapWord) : Type 0 where
  pub references : x.reference ≡ bits_from n 0 most_nodes
  pub invalidates : x.invalidate ≡ bits_from n most_nodes most_nodes
  pub restricts : x.restrict ≡ bits_from n (2 * most_nodes) most_nodes

-- ---- stamps

abbrev pub stamp_encoded : StampWord → ℕ
stamp_encoded x = stamp_word x.last x.seq

pub record IsStampRead (n : ℕ) (x : StampWord) : Type 0 where
  pub last : x.last ≡ last_read n
  pub seq : x.seq ≡ seq_read n

-- ---- words of frames

abbrev pub data_encoded : DataWord → ℕ
data_encoded x = data_word x.value x.version

pub record IsDataRead (n : ℕ) (x : DataWord) : Type 0 where
  pub value : x.value ≡ value_read n
  pub version : x.version ≡ version_read n

-- each number fits its bits
pub record IsDataWord (x : DataWord) : Type 0 where
  pub value : x.value < 2 ^ 32
  pub version : x.version < 2 ^ 32
