-- what a session takes of the processor's own translations, and what it grants
use Rattle.std.specs.Prelude.{ℕ, ◌<◌, if◌then◌else◌, false, List, Option, Some, None, slice_set}
use Rattle.plat_base.specs.Machine.{Machine}
use Rattle.plat_base.specs.Held.{lowered}
use Rattle.plat_base.specs.declared.items.Translation.{Translation}
use Rattle.plat_handler.specs.HandlerSeen.{HandlerSeen, ask_of, is_word_asked, own_taken, stage_told}
use Rattle.plat_handler.specs.Phases.{answer_of}
use Rattle.plat_handler.specs.Stages.{Stage, installed_by}
use Rattle.plat_pmap.specs.Translations.{translation_of}
use Rattle.plat_shoot.specs.declared.needs.Own.{Own}
use Rattle.plat_shoot.specs.declared.needs.Own.TheVariants as own

-- the own translation of a post is dropped or lowered
abbrev pub given_up : Own → List (Option Translation) → List (Option Translation)
given_up own.Nothing pmap = pmap
given_up (own.Dropped e) pmap = slice_set pmap e None
given_up (own.Lowered e) pmap = slice_set pmap e (lowered (translation_of pmap e))

-- it is of an entry of the machine, which has so many
abbrev pub IsOwnOf : (entries : ℕ) → Own → Type 0
IsOwnOf entries own.Nothing = Unit {0}
IsOwnOf entries (own.Dropped e) = e < entries
IsOwnOf entries (own.Lowered e) = e < entries

-- the translation that was granted, if one was, stands at its entry
abbrev pub installed : Option Translation → List (Option Translation) → List (Option Translation)
installed None pmap = pmap
installed (Some t) pmap = slice_set pmap t.grant.entry (Some (record { grant = t.grant; seq = t.seq; restricted = false }))

abbrev pub IsGrantOf : (entries : ℕ) → Option Translation → Type 0
IsGrantOf entries None = Unit {0}
IsGrantOf entries (Some t) = t.grant.entry < entries

-- a session that goes on has granted a translation where its unlock is next
abbrev pub granted_at : Machine → (a now : ℕ) → Stage → Option Translation
granted_at m a now stage = if is_word_asked (ask_of m a now stage) then installed_by m (answer_of m) a now stage else None

-- the own translations once the handler's operation told n
abbrev pub pmap_told : Machine → HandlerSeen → ℕ → List (Option Translation) → List (Option Translation)
pmap_told m h n pmap = installed (granted_at m h.actor h.now (stage_told m h n)) (given_up (own_taken m h n) pmap)
