-- what the limits of a machine text say, one fact at a time: of a machine, and of a Config
use Rattle.std.proofs.Common.{◌≡◌, ℕ, ◌<◌, ◌≤◌, Bool, false, List, [], ◌∷◌, length, get_or, zero, suc, refl, arith, ap, ◌++◌}
use Rattle.std.specs.Prelude.{IsTrue, Some, ◌==◌, ◌&&◌, slice_get, slice_index_or, unwrap_or, find}
use Rattle.std.specs.Option.{option_map}
use Rattle.std.specs.List.{list_all}
use Rattle.std.proofs.lemmas.Bool.Decides.{nat_tests}
use Rattle.plat_base.specs.Machine.{Machine, is_page_size, is_policy, is_schedule, is_distance, is_entry, is_init, is_instr, is_program}
use Rattle.plat_base.specs.Machine.{limits, is_machine, Program, program_seen, programs_seen, same_nodes, same_place, same_word, all_differ}
use Rattle.plat_base.specs.Seen.{machine}
use Rattle.plat_base.specs.declared.limits.TheConstants.{SPACES}
use Rattle.plat_base.specs.Pages.{no_program, program_of, initial_value}
use Rattle.plat_base.specs.declared.configs.Config.{Config}
use Rattle.plat_base.specs.declared.policies.PolicyKind.TheVariants as policy
use Rattle.plat_base.specs.declared.configs.Entry.{Entry}
use Rattle.plat_base.specs.declared.configs.Init.{Init}
use Rattle.plat_base.specs.declared.guests.Instr.{Instr}
use Rattle.plat_base.specs.declared.guests.GuestText.{GuestText}

-- ---- places of a list

-- what holds of all holds at a place
pub holds_at : {T : Type 0} (test : T → Bool) (xs : List T) (i : ℕ) (other : T) → IsTrue (list_all test xs) → i < length xs →
    IsTrue (test (get_or xs i other))
holds_at test [] i other h k = absurd (omega arith)
holds_at test (x ∷ xs) zero other h k = grind arith
holds_at test (x ∷ xs) (suc i) other h k = grind (arith, holds_at test xs i other)

-- what holds of all, and of what a place past the end gives, holds at every place
pub holds_or : {T : Type 0} (test : T → Bool) (xs : List T) (i : ℕ) (other : T) → IsTrue (list_all test xs) → IsTrue (test other) →
    IsTrue (test (get_or xs i other))
holds_or test [] i other h k = k
holds_or test (x ∷ xs) zero other h k = grind arith
holds_or test (x ∷ xs) (suc i) other h k = grind (arith, holds_or test xs i other)

-- ---- the limits

pub record Limits (m : Machine) : Type 0 where
  pub nodes_least : 1 ≤ m.nodes
  pub nodes_most : m.nodes ≤ 8
  pub frames_least : 1 ≤ m.frames
  pub frames_most : m.frames ≤ 64
  pub words_least : 4 ≤ m.words
  pub words_most : m.words ≤ 64
  pub pages_least : 1 ≤ m.pages
  pub pages_most : m.pages ≤ 64
  pub policy : IsTrue (is_policy m.policy)
  pub budget_least : 1 ≤ m.budget
  pub budget_most : m.budget ≤ 65536
  pub schedule : IsTrue (is_schedule m.nodes m.schedule)
  pub distances : IsTrue (list_all (is_distance m.nodes) m.distances)
  pub distances_differ : IsTrue (all_differ same_nodes m.distances)
  pub entries : IsTrue (list_all (is_entry m.pages) m.entries)
  pub entries_differ : IsTrue (all_differ same_place m.entries)
  pub inits : IsTrue (list_all (is_init m.pages m.words) m.inits)
  pub inits_differ : IsTrue (all_differ same_word m.inits)
  pub guests_count : length m.guests ≡ m.nodes
  pub guests : IsTrue (list_all is_program m.guests)

page_size-least : (n : ℕ) → IsTrue (is_page_size n) → 4 ≤ n
page_size-least n h = grind (arith, nat_tests)

pub page_size-most : (n : ℕ) → IsTrue (is_page_size n) → n ≤ 64
page_size-most n h = grind (arith, nat_tests)

at : (m : Machine) (i : ℕ) → IsTrue (is_machine m) → i < 15 → IsTrue (get_or (limits m) i false)
at m i h k = holds_at (λ b. b) (limits m) i false h k

pub limits_of : (m : Machine) → IsTrue (is_machine m) → Limits m
limits_of m h =
    let nodes = at m 0 h (omega arith) in let frames = at m 1 h (omega arith) in let words = at m 2 h (omega arith) in
    let pages = at m 3 h (omega arith) in let budget = at m 5 h (omega arith) in let count = at m 13 h (omega arith) in
    record {
      nodes_least = grind (arith, nat_tests, nodes);
      nodes_most = grind (arith, nat_tests, nodes);
      frames_least = grind (arith, nat_tests, frames);
      frames_most = grind (arith, nat_tests, frames);
      words_least = page_size-least m.words words;
      words_most = page_size-most m.words words;
      pages_least = grind (arith, nat_tests, pages);
      pages_most = grind (arith, nat_tests, pages);
      policy = at m 4 h (omega arith);
      budget_least = grind (arith, nat_tests, budget);
      budget_most = grind (arith, nat_tests, budget);
      schedule = at m 6 h (omega arith);
      distances = at m 7 h (omega arith);
      distances_differ = at m 8 h (omega arith);
      entries = at m 9 h (omega arith);
      entries_differ = at m 10 h (omega arith);
      inits = at m 11 h (omega arith);
      inits_differ = at m 12 h (omega arith);
      guests_count = grind (arith, nat_tests, count);
      guests = at m 14 h (omega arith);
    }

-- ---- the periods of a policy

pub window_most : (t1 t2 : ℕ) → IsTrue (is_policy (policy.Platinum t1 t2)) → t1 ≤ 1000000
window_most t1 t2 h = grind (arith, nat_tests)

pub period_least : (t1 t2 : ℕ) → IsTrue (is_policy (policy.Platinum t1 t2)) → 64 ≤ t2
period_least t1 t2 h = grind (arith, nat_tests)

pub period_most : (t1 t2 : ℕ) → IsTrue (is_policy (policy.Platinum t1 t2)) → t2 ≤ 1000000
period_most t1 t2 h = grind (arith, nat_tests)

-- ---- at a place: what lies past a list's end keeps the limits too

pub at_program : (m : Machine) (q : ℕ) → IsTrue (is_machine m) → IsTrue (is_program (program_of m q))
at_program m q h = holds_or is_program m.guests q no_program (limits_of m h).guests refl

-- an entry's page and space
pub page_below : (m : Machine) (e : ℕ) (d : Entry) → IsTrue (is_machine m) → e < length m.entries → (get_or m.entries e d).page < m.pages
page_below m e d h l = let within = holds_at (is_entry m.pages) m.entries e d (limits_of m h).entries l in grind (arith, nat_tests, within)

pub space_below : (m : Machine) (e : ℕ) (d : Entry) → IsTrue (is_machine m) → e < length m.entries → (get_or m.entries e d).space < SPACES
space_below m e d h l = let within = holds_at (is_entry m.pages) m.entries e d (limits_of m h).entries l in grind (arith, nat_tests, within)

is_instr-at : (labels : ℕ) (code : List Instr) (at : ℕ) (i : Instr) → IsTrue (list_all (is_instr labels) code) →
    slice_get code at ≡ Some i → IsTrue (is_instr labels i)
is_instr-at labels [] at i h e = absurd cc
is_instr-at labels (c ∷ cs) zero i h e = grind arith
is_instr-at labels (c ∷ cs) (suc at) i h e = grind (arith, is_instr-at labels cs at i)

pub at_instr : (p : Program) (at : ℕ) (i : Instr) → IsTrue (is_program p) → slice_get p.code at ≡ Some i →
    IsTrue (is_instr (length p.labels) i)
at_instr p at i h e = is_instr-at (length p.labels) p.code at i (grind arith) e

initial_value-below_of : (pages words page word : ℕ) (inits : List Init) → IsTrue (list_all (is_init pages words) inits) →
    unwrap_or (option_map (λ (i : Init). i.value) (find (λ i. i.page == page && i.word == word) inits)) 0 < 4294967296
initial_value-below_of pages words page word [] h = omega arith
initial_value-below_of pages words page word (i ∷ is) h = grind (arith, nat_tests, initial_value-below_of pages words page word is)

pub initial_value-below : (m : Machine) (page word : ℕ) → IsTrue (is_machine m) → initial_value m page word < 4294967296
initial_value-below m page word h = initial_value-below_of m.pages m.words page word m.inits (limits_of m h).inits

-- ---- of a Config

pub config_limits : (cfg : Config) → Limits (machine cfg)
config_limits cfg = limits_of (machine cfg) cfg.limits

pub nodes_least : (cfg : Config) → 1 ≤ cfg.nodes
nodes_least cfg = (config_limits cfg).nodes_least

pub nodes_most : (cfg : Config) → cfg.nodes ≤ 8
nodes_most cfg = (config_limits cfg).nodes_most

pub frames_least : (cfg : Config) → 1 ≤ cfg.frames
frames_least cfg = (config_limits cfg).frames_least

pub frames_most : (cfg : Config) → cfg.frames ≤ 64
frames_most cfg = (config_limits cfg).frames_most

pub words_least : (cfg : Config) → 4 ≤ cfg.words
words_least cfg = (config_limits cfg).words_least

pub words_most : (cfg : Config) → cfg.words ≤ 64
words_most cfg = (config_limits cfg).words_most

pub pages_least : (cfg : Config) → 1 ≤ cfg.pages
pages_least cfg = (config_limits cfg).pages_least

pub pages_most : (cfg : Config) → cfg.pages ≤ 64
pages_most cfg = (config_limits cfg).pages_most

pub budget_least : (cfg : Config) → 1 ≤ cfg.budget
budget_least cfg = (config_limits cfg).budget_least

pub budget_most : (cfg : Config) → cfg.budget ≤ 65536
budget_most cfg = (config_limits cfg).budget_most

-- ---- the guests of a Config

pub length-programs_seen : (gs : List GuestText) → length (programs_seen gs) ≡ length gs
length-programs_seen [] = refl
length-programs_seen (g ∷ gs) = grind (arith, length-programs_seen gs)

pub programs_seen-at : (gs : List GuestText) (q : ℕ) (other : GuestText) → q < length gs → slice_index_or (programs_seen gs) q no_program
    ≡ program_seen (get_or gs q other)
programs_seen-at [] q other h = absurd (omega arith)
programs_seen-at (g ∷ gs) zero other h = refl
programs_seen-at (g ∷ gs) (suc q) other h = programs_seen-at gs q other (omega arith)

pub guests_count : (cfg : Config) → length cfg.guests.items ≡ cfg.nodes
guests_count cfg = let l : Limits (machine cfg) = config_limits cfg in omega (arith, l.guests_count, length-programs_seen cfg.guests.items)

pub program_of-guest : (cfg : Config) (q : ℕ) (other : GuestText) → q < cfg.nodes →
    program_of (machine cfg) q ≡ program_seen (get_or cfg.guests.items q other)
program_of-guest cfg q other h = programs_seen-at cfg.guests.items q other (omega (arith, guests_count cfg))

pub programs_seen-push : (gs : List GuestText) (g : GuestText) → programs_seen (gs ++ g ∷ []) ≡ programs_seen gs ++ program_seen g ∷ []
programs_seen-push [] g = refl
programs_seen-push (x ∷ xs) g = ap (λ ps. program_seen x ∷ ps) (programs_seen-push xs g)
