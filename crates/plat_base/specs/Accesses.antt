-- accesses of flat memory: what a history notes of one, and what it asks of a translation
use Rattle.std.specs.Prelude.{ℕ, ◌+◌, if◌then◌else◌, List}
use Rattle.plat_base.specs.Machine.{Machine}
use Rattle.plat_base.specs.GuestRun.{Reach}
use Rattle.plat_base.specs.Done.{new_value}
use Rattle.plat_base.specs.Flat.{is_write, flat_value, flat_writes}
use Rattle.plat_base.specs.declared.frames.Frame.{Frame}
use Rattle.plat_base.specs.declared.items.Right.{Right}
use Rattle.plat_base.specs.declared.items.Right.TheVariants as right
use Rattle.plat_base.specs.declared.items.Kind.{Kind}
use Rattle.plat_base.specs.declared.items.Kind.TheVariants as kind
use Rattle.plat_base.specs.declared.items.Cause.{Cause}
use Rattle.plat_base.specs.declared.items.Cause.TheVariants as cause
use Rattle.plat_base.specs.declared.items.Item.{Item}
use Rattle.plat_base.specs.declared.items.Item.TheVariants as item

-- how much an access adds to the version of its word
abbrev pub writes_made : Kind → ℕ
writes_made k = if is_write k then 1 else 0

-- an access of flat memory by a translation
abbrev pub access_by : Machine → List Item → ℕ → Reach → Frame → ℕ → Item
access_by m items q r frame grant =
    let old = flat_value m items r.page r.word
    in item.Access (record {
      actor = q;
      kind = r.kind;
      space = r.space;
      addr = r.addr;
      page = r.page;
      word = r.word;
      old = old;
      new = new_value r.kind old r.operand;
      version = flat_writes items r.page r.word + writes_made r.kind;
      frame = frame;
      grant = grant;
    })

abbrev pub cause_of : Kind → Cause
cause_of kind.Load = cause.Read
cause_of kind.Store = cause.Write
cause_of kind.Add = cause.Write

abbrev pub right_of : Cause → Right
right_of cause.Read = right.Read
right_of cause.Write = right.Write
right_of cause.Thaw = right.Read
