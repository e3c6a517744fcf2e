-- what holds between the turns of a coarse run: of the translations in use, of the copies, and of the frames
use Rattle.std.specs.Prelude.{◌≡◌, ℕ, ◌<◌, true, List, length, Some}
use Rattle.plat_base.specs.Machine.{Machine}
use Rattle.plat_base.specs.Pages.{page_of, space_of}
use Rattle.plat_base.specs.Flat.{flat_value}
use Rattle.plat_base.specs.Directories.{dir_of}
use Rattle.plat_base.specs.Held.{held, active}
use Rattle.plat_base.specs.CopyWords.{frame_value}
use Rattle.plat_base.specs.Ends.{is_live}
use Rattle.plat_base.specs.Coarse.{Coarse}
use Rattle.plat_base.specs.Histories.{IsCopy, IsOnlyCopy}
use Rattle.plat_base.specs.declared.frames.Frame.{Frame}
use Rattle.plat_base.specs.declared.items.Right.TheVariants as right
use Rattle.plat_base.specs.declared.items.Access.{Access}
use Rattle.plat_base.specs.declared.items.Item.{Item}
use Rattle.plat_base.specs.declared.items.Translation.{Translation}

-- the value that the access finds is the word of the frame that it goes to
abbrev pub FindsFrameWord : Machine → List Item → Access → Type 0
FindsFrameWord m before a = a.old ≡ frame_value m before a.word a.frame

-- live processor q can use translation t: it is of entry e of the space that q runs in
pub record IsInUse (m : Machine) (s : Coarse) (q e : ℕ) (t : Translation) : Type 0 where
  pub live : is_live s.ends q ≡ true
  pub of_entry : e < length m.entries
  pub here : active m s.history q ≡ space_of m e
  pub holds : held m s.history q e ≡ Some t

pub record IsCoherent (m : Machine) (s : Coarse) : Type 0 where
  -- a translation in use leads to a copy of its page
  pub leads : (q e : ℕ) (t : Translation) → IsInUse m s q e t → IsCopy (dir_of s.history (page_of m e)) t.grant.frame
  -- one in use with the right to write leads to the only copy of a modified page
  pub alone :
      (q e : ℕ) (t : Translation) → IsInUse m s q e t → t.grant.right ≡ right.Write
      → IsOnlyCopy (dir_of s.history (page_of m e)) t.grant.frame
  -- each copy of a page holds flat memory's words
  pub words :
      (p w : ℕ) (f : Frame) → p < m.pages → IsCopy (dir_of s.history p) f
      → frame_value m s.history w f ≡ flat_value m s.history p w
  -- no frame is a copy of two pages
  pub apart :
      (p r : ℕ) (f : Frame) → p < m.pages → r < m.pages → IsCopy (dir_of s.history p) f → IsCopy (dir_of s.history r) f → p ≡ r
