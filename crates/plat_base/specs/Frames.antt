-- the frames of a coarse run: those in use, and the one that a fault takes
use Rattle.std.specs.Prelude.{ℕ, ◌==◌, ◌&&◌, not, if◌then◌else◌, Bool, false, List, [], ◌∷◌, find, Option, Some, None, is_none, unwrap_or}
use Rattle.std.specs.Option.{option_map}
use Rattle.std.specs.List.{list_any, filter_map}
use Rattle.plat_base.specs.Verdicts.{Answer}
use Rattle.plat_base.specs.Machine.{Machine}
use Rattle.plat_base.specs.Pages.{numbers}
use Rattle.plat_base.specs.Directories.{dir_of, last_of}
use Rattle.plat_base.specs.Decide.{nearest, is_empty, asks}
use Rattle.plat_base.specs.Copies.{copy_on}
use Rattle.plat_base.specs.Alike.{same_verdict}
use Rattle.plat_base.specs.declared.frames.Frame.{Frame}
use Rattle.plat_base.specs.declared.items.Cause.{Cause}
use Rattle.plat_base.specs.declared.items.Item.{Item}
use Rattle.plat_base.specs.declared.policies.Verdict.TheVariants as verdict

-- some page has this frame as its copy
abbrev pub is_used : Machine → List Item → (mo number : ℕ) → Bool
is_used m items mo number =
    list_any (λ p. unwrap_or (option_map (λ (f : Frame). f.number == number) (copy_on mo (dir_of items p).copies)) false) (numbers m.pages)

abbrev pub frame_at : ℕ → ℕ → Frame
frame_at mo number = record { «module» = mo; number = number }

-- the free frame of a module that has the lowest number
abbrev pub free_frame : Machine → List Item → ℕ → Option Frame
free_frame m items mo = option_map (frame_at mo) (find (λ n. not (is_used m items mo n)) (numbers m.frames))

abbrev pub nearest_in : Machine → ℕ → List Frame → Option Frame
nearest_in m node [] = None
nearest_in m node (f ∷ fs) = Some (nearest m node (f ∷ fs))

-- the lowest free frame of the nearest module that has one
abbrev pub nearest_free : Machine → List Item → ℕ → Option Frame
nearest_free m items node = nearest_in m node (filter_map (free_frame m items) (numbers m.nodes))

-- the frame that a fault takes: for an empty page from the nearest module, for a page that moves from the own one
abbrev pub got_frame : Machine → Answer → List Item → (q page now : ℕ) → Cause → Option Frame
got_frame m answer items q page now cause =
    let dir = dir_of items page
    in if is_empty dir.state then nearest_free m items q
    else if asks cause dir q && same_verdict (answer dir (last_of items page) now) verdict.Move then free_frame m items q else None

-- no frame is free for an empty page
abbrev pub is_starved : Machine → List Item → (q page : ℕ) → Bool
is_starved m items q page = is_empty (dir_of items page).state && is_none (nearest_free m items q)
