-- values with the same plain fields are the same, and so a word is read as one value
use Rattle.std.proofs.Common.{◌≡◌, ℕ, ◌<◌, ◌^◌, Bool, true, sym, ◌∙◌, ap, arith}
use Rattle.std.specs.Prelude.{IsTrue}
use Rattle.std.specs.Coded.{le_prop}
use mathlib.Core.Path.{to_path_p}
use Rattle.std.proofs.Math.Bool.{Bool-set}
use Rattle.plat_base.specs.Copies.{AreCopies}
use Rattle.plat_base.specs.declared.frames.Dir.{Dir}
use Rattle.plat_events.specs.Words.{bits_from, last_number, last_numbered, state_numbered, has_bit, copies_read, dir_word, dir_read}
use Rattle.plat_events.specs.Words.{is_locked}
use Rattle.plat_words.proofs.Numbers.{last_back}
use Rattle.plat_words.proofs.Directories.{dir_read-word, is_locked-word}
use Rattle.plat_words.specs.declared.cmap_words.CmapWord.{CmapWord}
use Rattle.plat_words.specs.declared.dir_words.DirWord.{DirWord}
use Rattle.plat_words.specs.declared.stamp_words.StampWord.{StampWord}
use Rattle.plat_words.specs.Encodings.{cmap_encoded, IsCmapRead, stamp_encoded, IsStampRead, dir_encoded, dir_kept, IsDirRead}

-- ---- masks

same_cmap : (x y : CmapWord) → x.reference ≡ y.reference → x.invalidate ≡ y.invalidate → x.restrict ≡ y.restrict → x ≡ y
same_cmap x y p q r = λ i. record {
  reference = p i;
  invalidate = q i;
  restrict = r i;
  references = to_path_p (λ j. p j < 2 ^ 8) {a = x.references} {b = y.references} (le_prop _ _) i;
  invalidates = to_path_p (λ j. q j < 2 ^ 8) {a = x.invalidates} {b = y.invalidates} (le_prop _ _) i;
  restricts = to_path_p (λ j. r j < 2 ^ 8) {a = x.restricts} {b = y.restricts} (le_prop _ _) i;
}

pub cmap_read : (n : ℕ) (x y : CmapWord) → IsCmapRead n y → cmap_encoded x ≡ n → y ≡ x
cmap_read n x y r e =
    let a = x.references in let b = x.invalidates in let c = x.restricts in
    same_cmap y x (grind (arith, r.references)) (grind (arith, r.invalidates)) (grind (arith, r.restricts))

-- ---- stamps

same_stamp : (x y : StampWord) → x.last ≡ y.last → x.seq ≡ y.seq → x ≡ y
same_stamp x y p q = λ i. record {
  last = p i;
  seq = q i;
  within = to_path_p (λ j. last_number (p j) < 2 ^ 32) {a = x.within} {b = y.within} (le_prop _ _) i;
}

pub stamp_read : (n : ℕ) (x y : StampWord) → IsStampRead n y → x.seq < 2 ^ 32 → stamp_encoded x ≡ n → y ≡ x
stamp_read n x y r h e =
    let w = x.within in
    let low : bits_from (stamp_encoded x) 0 32 ≡ last_number x.last = grind arith in
    let high : bits_from (stamp_encoded x) 32 32 ≡ x.seq = grind arith in
    same_stamp y x (r.last ∙ ap last_numbered (ap (λ k. bits_from k 0 32) (sym e) ∙ low) ∙ last_back x.last)
    (r.seq ∙ ap (λ k. bits_from k 32 32) (sym e) ∙ high)

-- ---- directories

IsTrue-prop : (b : Bool) → IsProp (IsTrue b)
IsTrue-prop b = Bool-set b true

same_dir_word : (x y : DirWord) → dir_kept x ≡ dir_kept y → x.locked ≡ y.locked → x ≡ y
same_dir_word x y p q =
    let copies : x.copies ≡ y.copies = ap (λ (d : Dir). d.copies) p in
    λ i. record {
      state = ap (λ (d : Dir). d.state) p i;
      frozen = ap (λ (d : Dir). d.frozen) p i;
      locked = q i;
      copies = copies i;
      rising = to_path_p (λ j. AreCopies (copies j)) {a = x.rising} {b = y.rising} (IsTrue-prop _ _ _) i;
    }

-- a directory of these parts is the one that is read
pub dir_found :
    (n : ℕ) (d : Dir) → d.state ≡ state_numbered (bits_from n 0 2) → d.frozen ≡ has_bit n 2 → d.copies ≡ copies_read n → d ≡ dir_read n
dir_found n d s f c = λ i. record { state = s i; frozen = f i; copies = c i }

-- the word of a directory is the one that what is read of it is written as
pub dir_word_back : (n : ℕ) (x : DirWord) → dir_encoded x ≡ n → dir_word (dir_read n) (is_locked n) ≡ n
dir_word_back n x e =
    let dir : dir_read n ≡ dir_kept x = ap dir_read (sym e) ∙ dir_read-word (dir_kept x) x.locked x.rising in
    let lock : is_locked n ≡ x.locked = ap is_locked (sym e) ∙ is_locked-word (dir_kept x) x.locked x.rising in
    ap (λ d. dir_word d (is_locked n)) dir ∙ ap (λ l. dir_word (dir_kept x) l) lock ∙ e

pub dir_word_read : (n : ℕ) (x y : DirWord) → IsDirRead n y → dir_encoded x ≡ n → y ≡ x
dir_word_read n x y r e =
    same_dir_word y x (r.dir ∙ ap dir_read (sym e) ∙ dir_read-word (dir_kept x) x.locked x.rising)
    (r.lock ∙ ap is_locked (sym e) ∙ is_locked-word (dir_kept x) x.locked x.rising)
