-- what contracts see of what is read
use Rattle.std.specs.Prelude.{List, map, option_map}
use Rattle.plat_base.specs.Machine.{Machine, turns_of, programs_seen}
use Rattle.plat_grammar.specs.FirstFault.{machine_with, Header as HeaderSeen}
use Rattle.plat_grammar.specs.Drafts.{Draft as DraftSeen, Target as TargetSeen}
use Rattle.plat_machine.specs.declared.headers.Header.{Header}
use Rattle.plat_machine.specs.declared.whole.Front.{Front}
use Rattle.plat_machine.specs.declared.instructions.Draft.{Draft}
use Rattle.plat_machine.specs.declared.instructions.Target.{Target}

abbrev pub header : Header → HeaderSeen
header h = record {
  nodes = h.nodes;
  frames = h.frames;
  words = h.words;
  pages = h.pages;
  policy = h.policy;
  budget = h.budget;
  schedule = turns_of h.schedule;
}

abbrev pub target : Target → TargetSeen
target t = record { line = t.line; column = t.column; name = t.name.now }

abbrev pub draft : Draft → DraftSeen
draft d = record { instr = d.instr; target = option_map target d.target }

abbrev pub drafts : List Draft → List DraftSeen
drafts ds = map draft ds

-- the machine of all that stands before the line `end`
abbrev pub front : Front → Machine
front f = machine_with (header f.header) f.distances.items f.entries.items f.inits.items (programs_seen f.guests.items)
