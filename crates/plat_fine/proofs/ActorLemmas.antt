-- the actors of a run: the processors, and then the daemon, where there is one
use Rattle.std.proofs.Common.{◌≡◌, ℕ, zero, suc, ◌+◌, ◌<◌, Bool, true, false, List, [], ◌∷◌, ◌++◌, length, set, map, refl, sym, ap, ◌∙◌}
use Rattle.std.proofs.Common.{arith, append-nil}
use Rattle.std.specs.Prelude.{not, if◌then◌else◌, Option, Some, None, slice_get, slice_set, slice_index_or}
use Rattle.std.specs.Option.{option_map_or}
use Rattle.std.proofs.lemmas.List.{length-map, set-append_left}
use Rattle.plat_base.specs.Machine.{Machine}
use Rattle.plat_base.specs.Pages.{numbers}
use Rattle.plat_base.specs.Rules.{has_daemon}
use Rattle.plat_laws.proofs.GuestLaws.{slice_get-append_at}
use Rattle.plat_events.specs.Privates.{Private, first_private, first_privates, is_over}
use Rattle.plat_proc.specs.ProcSeen.{ProcSeen}
use Rattle.plat_daemon.specs.DaemonSeen.{DaemonSeen, state_of}
use Rattle.plat_fine.specs.Crew.{no_private, proc_at, states, daemon_states, privates_of, first_daemon, first_states}
use Rattle.plat_fine.specs.FineSeen.{is_live, items_swept}
use Rattle.plat_fine.proofs.CrewLemmas.{get-states, states-set, first-more}
use Rattle.plat_base.proofs.ListLemmas.{slice_get-append}

-- ---- where an actor stands

length-states : (procs : List ProcSeen) → length (states procs) ≡ length procs
length-states procs = length-map procs (λ (x : ProcSeen). x.state)

pub get-processor : (m : Machine) (procs : List ProcSeen) (daemon : Option DaemonSeen) (q : ℕ) → q < length procs →
    slice_get (privates_of m procs daemon) q ≡ Some (proc_at procs q).state
get-processor m procs daemon q h =
    slice_get-append (states procs) (daemon_states m daemon) q (proc_at procs q).state (get-states procs q h)

pub get-daemon : (m : Machine) (procs : List ProcSeen) (x : DaemonSeen) → length procs ≡ m.nodes →
    slice_get (privates_of m procs (Some x)) m.nodes ≡ Some (state_of m x)
get-daemon m procs x h = slice_get-append_at (states procs) (state_of m x) [] m.nodes (sym (length-states procs ∙ h))

-- ---- actors that have not ended

abbrev is_going : Option Private → Bool
is_going o = option_map_or (λ (p : Private). not (is_over p.place)) o false

pub live-processor : (m : Machine) (procs : List ProcSeen) (daemon : Option DaemonSeen) (q : ℕ) → q < length procs →
    is_live (privates_of m procs daemon) q ≡ not (is_over (proc_at procs q).state.place)
live-processor m procs daemon q h = ap is_going (get-processor m procs daemon q h)

pub live-daemon : (m : Machine) (procs : List ProcSeen) (x : DaemonSeen) → length procs ≡ m.nodes →
    is_live (privates_of m procs (Some x)) m.nodes ≡ not (is_over x.place)
live-daemon m procs x h = ap is_going (get-daemon m procs x h)

-- ---- one of them is changed

pub privates-set : (m : Machine) (procs : List ProcSeen) (daemon : Option DaemonSeen) (q : ℕ) (y : ProcSeen) → q < length procs →
    privates_of m (set procs q y) daemon ≡ slice_set (privates_of m procs daemon) q y.state
privates-set m procs daemon q y h =
    ap (λ (ps : List Private). ps ++ daemon_states m daemon) (states-set procs q y)
    ∙ sym (set-append_left (states procs) (daemon_states m daemon) q y.state (omega (arith, h, length-states procs)))

set-last : (ps : List Private) (p q : Private) (n : ℕ) → n ≡ length ps → set (ps ++ p ∷ []) n q ≡ ps ++ q ∷ []
set-last [] p q zero h = refl
set-last [] p q (suc n) h = absurd (omega arith)
set-last (x ∷ ps) p q zero h = absurd (omega arith)
set-last (x ∷ ps) p q (suc n) h = ap (λ (qs : List Private). x ∷ qs) (set-last ps p q n (omega arith))

pub privates-swept : (m : Machine) (procs : List ProcSeen) (x y : DaemonSeen) → length procs ≡ m.nodes →
    privates_of m procs (Some y) ≡ slice_set (privates_of m procs (Some x)) m.nodes (state_of m y)
privates-swept m procs x y h = sym (set-last (states procs) (state_of m x) (state_of m y) m.nodes (sym (length-states procs ∙ h)))

-- ---- the start

first-if : (m : Machine) (b : Bool) →
    first_states m m.nodes ++ (if b then first_private m m.nodes ∷ [] else [])
    ≡ map (first_private m) (numbers (m.nodes + (if b then 1 else 0)))
first-if m true = sym (first-more m m.nodes)
first-if m false =
    let same : m.nodes + 0 ≡ m.nodes = omega arith in
    append-nil (first_states m m.nodes) ∙ ap (λ (n : ℕ). first_states m n) (sym same)

pub first-all : (m : Machine) (procs : List ProcSeen) (daemon : Option DaemonSeen) →
    states procs ≡ first_states m m.nodes → daemon_states m daemon ≡ first_daemon m → privates_of m procs daemon ≡ first_privates m
first-all m procs daemon e f =
    ap (λ (ps : List Private). ps ++ daemon_states m daemon) e ∙ ap (λ (ps : List Private). first_states m m.nodes ++ ps) f
    ∙ first-if m (has_daemon m.policy)

none-swept : (m : Machine) (x : DaemonSeen) (b : Bool) →
    state_of m x ∷ [] ≡ (if b then first_private m m.nodes ∷ [] else []) → length x.journal ≡ 0
none-swept m x true h = ap (λ (ps : List Private). length (slice_index_or ps 0 no_private).journal) h
none-swept m x false h = absurd cc

pub swept-first : (m : Machine) (daemon : Option DaemonSeen) → daemon_states m daemon ≡ first_daemon m → items_swept daemon ≡ 0
swept-first m None h = refl
swept-first m (Some x) h = none-swept m x (has_daemon m.policy) h
