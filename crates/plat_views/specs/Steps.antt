-- what each operation does to the view of a processor and an entry
use Rattle.std.specs.Prelude.{Bool, true, false, not, ◌&&◌, ◌||◌}
use Rattle.plat_base.specs.declared.frames.State.{State}
use Rattle.plat_base.specs.declared.frames.State.TheVariants.{PresentPlus}
use Rattle.plat_base.specs.declared.items.Removed.{Removed}
use Rattle.plat_base.specs.declared.items.Removed.TheVariants.{Nothing, Writes, All}
use Rattle.plat_events.specs.Views.{Nobody, Another, Own, View}

abbrev pub is_nothing : Removed → Bool
is_nothing Nothing = true
is_nothing Writes = false
is_nothing All = false

-- the processor has no translation
abbrev pub without_translation : View → View
without_translation v = record v {
  has = false;
  writes = false;
  marked = false;
  invalidate = false;
  restrict = false;
  mine = false;
  copy = false;
  kept = false;
  all_after = false;
  writes_after = false;
}

-- no session runs on the page
abbrev pub without_session : View → View
without_session v = record v {
  whose = Nobody;
  removes = Nothing;
  posted = false;
  owed = false;
  quiet = false;
  granted = false;
  given = false;
  mine = false;
}

-- ---- the operations

-- another actor locks the page
abbrev pub lock_other : View → View
lock_other v = record v { whose = Another }

-- the processor itself locks the page
abbrev pub lock_own : View → View
lock_own v = record v { whose = Own }

-- the row is fixed, and with it what is removed
abbrev pub choose : Removed → View → View
choose r v = record v { removes = r; quiet = is_nothing r }

-- a post of all, for another processor
abbrev pub post_all_other : View → View
post_all_other v = record v { posted = true; owed = v.has; invalidate = v.has }

-- a post of writes, for another processor
abbrev pub post_writes_other : View → View
post_writes_other v = record v { posted = true; owed = v.has; restrict = v.restrict || v.has && not v.invalidate }

-- a post of all drops the own translation
abbrev pub post_all_own : View → View
post_all_own v = record (without_translation v) { posted = true }

-- a post of writes lowers the own translation
abbrev pub post_writes_own : View → View
post_writes_own v = record v { posted = true; writes = false }

-- a mask without references counts as posted
abbrev pub post_none : View → View
post_none v = record v { posted = true }

-- the last post is made, and the last target is passed
abbrev pub last_pass : View → View
last_pass v = record v { quiet = true }

-- a target is passed whose bits are clear
abbrev pub pass_mask : View → View
pass_mask v = record v { owed = false }

-- a target is passed that is not active in the space
abbrev pub pass_act : View → View
pass_act v = record v { owed = false }

-- a frame is given back
abbrev pub give : View → View
give v = record v { given = true; kept = false }

-- the session grants its translation
abbrev pub grant : Bool → Bool → Bool → View → View
grant w c k v = record v {
  has = true;
  writes = w;
  marked = false;
  granted = true;
  copy = c;
  kept = k;
  mine = true;
  all_after = false;
  writes_after = false;
}

-- an unlock, at the translation that was granted
abbrev pub unlock_granted : State → View → View
unlock_granted s v = record (without_session v) { state = s; copy = true; kept = true }

-- an unlock of a session that removed nothing
abbrev pub unlock_nothing : State → Bool → View → View
unlock_nothing s c v = record (without_session v) { state = s; copy = c; kept = c }

-- an unlock of a session that removed writes
abbrev pub unlock_writes : Bool → View → View
unlock_writes c v = record (without_session v) { state = PresentPlus; copy = c; kept = c; writes_after = true }

-- an unlock of a session that removed all
abbrev pub unlock_all : State → Bool → View → View
unlock_all s c v = record (without_session v) { state = s; copy = c; kept = c; all_after = true }

-- an unlock of a page that stays as it was
abbrev pub unlock_unchanged : View → View
unlock_unchanged v = without_session v

-- a scan passes an entry without messages
abbrev pub scan_clear : View → View
scan_clear v = record v { usable = true }

-- a scan finds a restrict alone
abbrev pub scan_restrict : View → View
scan_restrict v = record v { restricting = true }

-- a scan finds an invalidate
abbrev pub scan_invalidate : View → View
scan_invalidate v = record v { invalidating = true }

-- an invalidate is applied
abbrev pub apply_invalidate : Bool → View → View
apply_invalidate u v = record (without_translation v) { usable = u; invalidating = false }

-- a restrict is applied
abbrev pub apply_restrict : View → View
apply_restrict v = record v { restrict = false; writes = false; marked = true; usable = true; restricting = false }

-- the processor swaps its space: for another one, or for none
abbrev pub leave : Bool → View → View
leave a v = record v { usable = false; active = a }
