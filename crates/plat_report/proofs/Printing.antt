-- the lines of a run's prints, written turn by turn
use Rattle.std.proofs.Common.{◌≡◌, ℕ, ◌+◌, List, [], ◌∷◌, ◌++◌, map, Ok, Err, refl, sym, ◌∙◌, add-one, append_assoc, Option, Some, None}
use Rattle.std.proofs.lemmas.List.{append-nil}
use Rattle.plat_base.specs.Machine.{Machine}
use Rattle.plat_base.specs.GuestRun.{value_for}
use Rattle.plat_base.specs.declared.items.Kind.{Kind}
use Rattle.plat_base.specs.declared.guests.Want.{Want}
use Rattle.plat_base.specs.declared.guests.Want.TheVariants as want
use Rattle.plat_base.specs.Canon.{Words}
use Rattle.plat_base.specs.Report.{print_line}
use Rattle.plat_io.specs.declared.sinks.Sink.{Ghosts}
use Rattle.plat_io.specs.declared.faults.WriteFault.{WriteFault}
use Rattle.plat_io.specs.Lines.{AddsLines}
use Rattle.plat_report.specs.declared.turns.Turn.TheVariants.{Stops, Quiet, Prints}
use Rattle.plat_report.specs.Runs.{RunSeen, prints_from, printed_then, turn_of, gone, gone_by, gone_with}
use Rattle.plat_report.proofs.WritingLemmas.{adds_none, adds_more, adds_part}

-- of what a run prints on its turns some was written, and the rest is what the run prints on those that are left
pub record IsPrinted {K : Type 0} (sink : Ghosts K) (m : Machine) (q : ℕ) (start : RunSeen) (turns : ℕ) (old : K) (run : RunSeen) (left : ℕ)
    (now : K) : Type 0 where
  pub done : List Words
  pub whole : map (print_line q) (prints_from m start turns) ≡ done ++ map (print_line q) (prints_from m run left)
  pub added : AddsLines {E = WriteFault} sink old now (Ok (tt {0})) done
  pub node : run.guest.node ≡ start.guest.node

gone_with-node : (m : Machine) (run : RunSeen) (k : Kind) (v : Option ℕ) → (gone_with m run k v).guest.node ≡ run.guest.node
gone_with-node m run k None = refl
gone_with-node m run k (Some v) = refl

gone_by-node : (m : Machine) (run : RunSeen) (w : Want) → (gone_by m run w).guest.node ≡ run.guest.node
gone_by-node m run want.Local = refl
gone_by-node m run (want.Access k sp a o) = gone_with-node m run k (value_for k run.values 0)
gone_by-node m run (want.Switch s) = refl
gone_by-node m run (want.Print v) = refl
gone_by-node m run want.Halted = refl
gone_by-node m run want.Trap = refl

-- the prints of one turn and of the turns after it
prints-cut : (m : Machine) (run : RunSeen) (left next : ℕ) → left ≡ next + 1 →
    prints_from m run left ≡ printed_then (turn_of m run) (prints_from m (gone m run) next)
prints-cut m run left next e = rw (e, add-one) refl

pub printed_none :
    {K : Type 0} (sink : Ghosts K) (m : Machine) (q : ℕ) (start : RunSeen) (turns : ℕ) (old : K) (left : ℕ) → left ≡ turns
    → IsPrinted sink m q start turns old start left old
printed_none sink m q start turns old left e = record { done = []; whole = rw e refl; added = adds_none sink old; node = refl }

pub printed_quiet :
    {K : Type 0} (sink : Ghosts K) (m : Machine) (q : ℕ) (start : RunSeen) (turns : ℕ) (old : K) (run : RunSeen) (left next : ℕ) (now : K)
    → IsPrinted sink m q start turns old run left now → left ≡ next + 1 → Quiet ≡ turn_of m run
    → IsPrinted sink m q start turns old (gone m run) next now
printed_quiet sink m q start turns old run left next now h e t =
    let cut : prints_from m run left ≡ prints_from m (gone m run) next = rw (← t) at (prints-cut m run left next e) in
    record { done = h.done; whole = rw cut at h.whole; added = h.added; node = gone_by-node m run _ ∙ h.node }

pub printed_more :
    {K : Type 0} (sink : Ghosts K) (m : Machine) (q : ℕ) (start : RunSeen) (turns : ℕ) (old : K) (run : RunSeen) (left next : ℕ)
    (now then : K) (value : ℕ)
    → IsPrinted sink m q start turns old run left now → left ≡ next + 1 → Prints value ≡ turn_of m run
    → AddsLines {E = WriteFault} sink now then (Ok (tt {0})) (print_line q value ∷ []) →
    IsPrinted sink m q start turns old (gone m run) next then
printed_more sink m q start turns old run left next now then value h e t a =
    let cut : prints_from m run left ≡ value ∷ prints_from m (gone m run) next = rw (← t) at (prints-cut m run left next e) in
    record {
      done = h.done ++ print_line q value ∷ [];
      whole = rw cut at h.whole ∙ sym (append_assoc h.done (print_line q value ∷ []) _);
      added = adds_more sink old now then (Ok (tt {0})) h.done (print_line q value ∷ []) h.added a;
      node = gone_by-node m run _ ∙ h.node;
    }

pub printed_stopped :
    {K : Type 0} (sink : Ghosts K) (m : Machine) (q : ℕ) (start : RunSeen) (turns : ℕ) (old : K) (run : RunSeen) (left next : ℕ) (now : K)
    → IsPrinted sink m q start turns old run left now → left ≡ next + 1 → Stops ≡ turn_of m run
    → AddsLines {E = WriteFault} sink old now (Ok (tt {0})) (map (print_line q) (prints_from m start turns))
printed_stopped sink m q start turns old run left next now h e t =
    let cut : prints_from m run left ≡ [] = rw (← t) at (prints-cut m run left next e) in
    let whole : map (print_line q) (prints_from m start turns) ≡ h.done = (rw cut at h.whole) ∙ append-nil h.done in
    rw whole h.added

pub printed_failed :
    {K : Type 0} (sink : Ghosts K) (m : Machine) (q : ℕ) (start : RunSeen) (turns : ℕ) (old : K) (run : RunSeen) (left next : ℕ)
    (now then : K) (value : ℕ) (e fault : WriteFault)
    → IsPrinted sink m q start turns old run left now → left ≡ next + 1 → Prints value ≡ turn_of m run
    → AddsLines sink now then (Err e) (print_line q value ∷ [])
    → AddsLines sink old then (Err fault) (map (print_line q) (prints_from m start turns))
printed_failed sink m q start turns old run left next now then value e fault h k t a =
    let cut : prints_from m run left ≡ value ∷ prints_from m (gone m run) next = rw (← t) at (prints-cut m run left next k) in
    let rest : List Words = map (print_line q) (prints_from m (gone m run) next) in
    let whole : map (print_line q) (prints_from m start turns) ≡ h.done ++ (print_line q value ∷ rest) = rw cut at h.whole in
    rw whole (adds_more sink old now then (Err fault) h.done (print_line q value ∷ rest) h.added
    (adds_part sink now then e fault (print_line q value ∷ []) rest a))

pub printed_all :
    {K : Type 0} (sink : Ghosts K) (m : Machine) (q : ℕ) (start : RunSeen) (turns : ℕ) (old : K) (run : RunSeen) (left : ℕ) (now : K)
    → IsPrinted sink m q start turns old run left now → left ≡ 0
    → AddsLines {E = WriteFault} sink old now (Ok (tt {0})) (map (print_line q) (prints_from m start turns))
printed_all sink m q start turns old run left now h e =
    let whole : map (print_line q) (prints_from m start turns) ≡ h.done = (rw e at h.whole) ∙ append-nil h.done in
    rw whole h.added
