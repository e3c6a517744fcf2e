-- the translations of a processor's entries, one place for each entry
use Rattle.std.specs.Prelude.{ℕ, if◌then◌else◌, List, Option, None, slice_index_or}
use Rattle.plat_base.specs.Held.{has_right}
use Rattle.plat_base.specs.declared.items.Kind.{Kind}
use Rattle.plat_base.specs.declared.items.Translation.{Translation}

-- the translation of an entry
abbrev pub translation_of : List (Option Translation) → ℕ → Option Translation
translation_of pmap entry = slice_index_or pmap entry None

-- a translation that an access can use: one with enough right
abbrev pub usable : Kind → Option Translation → Option Translation
usable kind t = if has_right kind t then t else None
