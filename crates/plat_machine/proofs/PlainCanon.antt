-- the words of a canonical text are plain, so the text is read as its machine again
use Rattle.std.proofs.Common.{◌≡◌, ℕ, ◌-◌, ◌^◌, ◌<◌, ◌≤◌, true, ◌&&◌, ltb, leb, List, [], ◌∷◌, length, map, take, drop, Option, Some, None}
use Rattle.std.proofs.Common.{Ok, codes, IsTrue, refl, arith}
use Rattle.std.specs.Fmt.{decimal}
use Rattle.std.specs.List.{AllByRecursion, list_all, flat_map}
use Rattle.std.proofs.lemmas.Bool.{and_parts, ltb-true, leb-true}
use Rattle.std.proofs.lemmas.Bool.Decides.{nat_tests}
use Rattle.plat_base.specs.Labels.{is_label_name}
use Rattle.plat_base.specs.Machine.{Machine, Program, Turns, robin, random, listed, is_policy, is_schedule, is_within}
use Rattle.plat_base.specs.Machine.{is_number, is_distance, is_entry, is_init, is_register, is_index, is_instr}
use Rattle.plat_base.specs.Seen.{machine}
use Rattle.plat_base.specs.Text.{text_bytes}
use Rattle.plat_base.specs.Canon.{Words, canon, canon_text, is_short, most_bytes, policy_words, schedule_words, distance_words, entry_words}
use Rattle.plat_base.specs.Canon.{init_words, register_word, index_words, instr_words, label_name, with_labels, program_lines}
use Rattle.plat_grammar.specs.FirstFault.{text_at}
use Rattle.plat_grammar.specs.Grammar.{IsMachine, IsTextOf}
use Rattle.plat_base.specs.declared.policies.PolicyKind.{PolicyKind}
use Rattle.plat_base.specs.declared.policies.PolicyKind.TheVariants as policy
use Rattle.plat_base.specs.declared.configs.Config.{Config}
use Rattle.plat_base.specs.declared.configs.Distance.{Distance}
use Rattle.plat_base.specs.declared.configs.Entry.{Entry}
use Rattle.plat_base.specs.declared.configs.Init.{Init}
use Rattle.plat_base.specs.declared.guests.Instr.{Instr}
use Rattle.plat_base.specs.declared.guests.Instr.TheVariants as instr
use Rattle.plat_base.specs.declared.guests.Label.{Label}
use Rattle.plat_text.proofs.PlainLaws.{IsPlain, IsPlainLine, all-append, all-take, all-drop, plain-cons, decimal-digits, decimal-plain}
use Rattle.plat_text.proofs.PlainLaws.{label_name-plain, lines-again}
use Rattle.plat_machine.proofs.GuestLaws.{GuestFits, program-parts, name_at, all-bools}
use Rattle.plat_machine.proofs.MachineLaws.{machine-parts, some_words}
use Rattle.plat_machine.proofs.WholeLaws.{text-again}
use Rattle.plat_base.proofs.LimitLemmas.{page_size-most}

abbrev ArePlain : List Words → Type 0
ArePlain lines = AllByRecursion IsPlainLine lines

-- ---- numbers and registers

number-small : (n : ℕ) → is_number n ≡ true → n < 2 ^ 32
number-small n h = ltb-true n 4294967296 h

number-plain : (n : ℕ) → is_number n ≡ true → IsPlain (decimal n)
number-plain n h = decimal-plain n (number-small n h)

register-plain : (r : ℕ) → is_register r ≡ true → IsPlain (register_word r)
register-plain r h = plain-cons 114 (decimal r) refl (decimal-digits r (omega (arith, ltb-true r 16 h)))

index-plain : (i : Option ℕ) → is_index i ≡ true → AllByRecursion IsPlain (index_words i)
index-plain None h = tt
index-plain (Some r) h = (register-plain r h, tt)

-- ---- lines of a key and numbers

line-plain : (w : List ℕ) (ws : Words) → IsPlain w → AllByRecursion IsPlain ws → IsPlainLine (w ∷ ws)
line-plain w ws h hs = (some_words w ws, (h, hs))

one_number : (key : List ℕ) (n high : ℕ) → IsPlain key → n ≤ high → high < 2 ^ 32 → IsPlainLine (key ∷ decimal n ∷ [])
one_number key n high h small large = line-plain key (decimal n ∷ []) h (decimal-plain n (omega (arith, small, large)), tt)

three_numbers : (key : List ℕ) (a b c : ℕ) → IsPlain key → a < 2 ^ 32 → b < 2 ^ 32 → c < 2 ^ 32 →
    IsPlainLine (key ∷ decimal a ∷ decimal b ∷ decimal c ∷ [])
three_numbers key a b c h ha hb hc =
    line-plain key (decimal a ∷ decimal b ∷ decimal c ∷ []) h (decimal-plain a ha, (decimal-plain b hb, (decimal-plain c hc, tt)))

policy-plain : (p : PolicyKind) → is_policy p ≡ true → IsPlainLine (policy_words p)
policy-plain policy.Place h = (refl, (refl, (refl, tt)))
policy-plain policy.Replicate h = (refl, (refl, (refl, tt)))
policy-plain (policy.Platinum t1 t2) h =
    let parts = and_parts (leb t1 1000000) (is_within 64 1000000 t2) h in
    let within = and_parts (leb 64 t2) (leb t2 1000000) parts.1 in (
      refl,
      (
        refl,
        (
          refl,
          (
            decimal-plain t1 (omega (arith, leb-true t1 1000000 parts.0)),
            (decimal-plain t2 (omega (arith, leb-true t2 1000000 within.1)), tt),
          ),
        ),
      ),
    )

actors-plain : (nodes : ℕ) → nodes ≤ 8 → (actors : List ℕ) → list_all (λ a. leb a nodes) actors ≡ true →
    AllByRecursion IsPlain (map decimal actors)
actors-plain nodes few [] h = tt
actors-plain nodes few (a ∷ rest) h =
    let parts = and_parts (leb a nodes) (list_all (λ a. leb a nodes) rest) h in
    (decimal-plain a (omega (arith, few, leb-true a nodes parts.0)), actors-plain nodes few rest parts.1)

schedule-plain : (nodes : ℕ) → nodes ≤ 8 → (t : Turns) → is_schedule nodes t ≡ true → IsPlainLine (schedule_words t)
schedule-plain nodes few robin h = (refl, (refl, (refl, tt)))
schedule-plain nodes few (random a b) h =
    let parts = and_parts (is_number a) (is_number b) h in
    (refl, (refl, (refl, (number-plain a parts.0, (number-plain b parts.1, tt)))))
schedule-plain nodes few (listed actors) h =
    line-plain (codes "schedule") (codes "list" ∷ map decimal actors) refl
    (refl, actors-plain nodes few actors (and_parts (is_within 1 4096 (length actors)) (list_all (λ a. leb a nodes) actors) h).1)

distance-plain : (nodes : ℕ) → nodes ≤ 8 → (d : Distance) → is_distance nodes d ≡ true → IsPlainLine (distance_words d)
distance-plain nodes few d h =
    three_numbers (codes "distance") d.a d.b d.d refl (grind (arith, nat_tests, h, few)) (grind (arith, nat_tests, h, few))
    (grind (arith, nat_tests, h))

entry-plain : (pages : ℕ) → pages ≤ 64 → (e : Entry) → is_entry pages e ≡ true → IsPlainLine (entry_words e)
entry-plain pages few e h = three_numbers (codes "map") e.space e.vpage e.page refl (grind (arith, nat_tests, h))
    (grind (arith, nat_tests, h)) (grind (arith, nat_tests, h, few))

init-plain : (pages words : ℕ) → pages ≤ 64 → words ≤ 64 → (i : Init) → is_init pages words i ≡ true → IsPlainLine (init_words i)
init-plain pages words few short i h = three_numbers (codes "init") i.page i.word i.value refl (grind (arith, nat_tests, h, few))
    (grind (arith, nat_tests, h, short)) (grind (arith, nat_tests, h))

all-mapped : {A : Type 0} {P : A → Type 0} (f : A → Words) → ((x : A) → P x → IsPlainLine (f x)) → (xs : List A) → AllByRecursion P xs →
    ArePlain (map f xs)
all-mapped f each [] h = tt
all-mapped f each (x ∷ xs) h = (each x h.0, all-mapped f each xs h.1)

-- ---- guests

module _ (labels : ℕ) (name : ℕ → List ℕ) (named : (l : ℕ) → ltb l labels ≡ true → IsPlain (name l)) where
  two-plain : (key : List ℕ) (d a : ℕ) → IsPlain key → is_register d ≡ true → is_register a ≡ true →
      IsPlainLine (key ∷ register_word d ∷ register_word a ∷ [])
  two-plain key d a h hd ha = line-plain key (register_word d ∷ register_word a ∷ []) h (register-plain d hd, (register-plain a ha, tt))

  three-plain : (key : List ℕ) (d a b : ℕ) → IsPlain key → (is_register d && is_register a && is_register b) ≡ true →
      IsPlainLine (key ∷ register_word d ∷ register_word a ∷ register_word b ∷ [])
  three-plain key d a b h e =
      let last = and_parts (is_register d && is_register a) (is_register b) e in
      let first = and_parts (is_register d) (is_register a) last.0 in
      line-plain key (register_word d ∷ register_word a ∷ register_word b ∷ []) h (
        register-plain d first.0,
        (register-plain a first.1, (register-plain b last.1, tt)),
      )

  access-plain : (key : List ℕ) (r k : ℕ) (i : Option ℕ) → IsPlain key → (is_register r && is_number k && is_index i) ≡ true →
      IsPlainLine (key ∷ register_word r ∷ decimal k ∷ index_words i)
  access-plain key r k i h e =
      let last = and_parts (is_register r && is_number k) (is_index i) e in
      let first = and_parts (is_register r) (is_number k) last.0 in
      line-plain key (register_word r ∷ decimal k ∷ index_words i) h (
        register-plain r first.0,
        (number-plain k first.1, index-plain i last.1),
      )

  fadd-plain : (d s k : ℕ) (i : Option ℕ) → (is_register d && is_register s && is_number k && is_index i) ≡ true →
      IsPlainLine (codes "fadd" ∷ register_word d ∷ register_word s ∷ decimal k ∷ index_words i)
  fadd-plain d s k i e =
      let last = and_parts (is_register d && is_register s && is_number k) (is_index i) e in
      let next = and_parts (is_register d && is_register s) (is_number k) last.0 in
      let first = and_parts (is_register d) (is_register s) next.0 in
      line-plain (codes "fadd") (register_word d ∷ register_word s ∷ decimal k ∷ index_words i) refl
      (register-plain d first.0, (register-plain s first.1, (number-plain k next.1, index-plain i last.1)))

  instr-plain : (i : Instr) → is_instr labels i ≡ true → IsPlainLine (instr_words name i)
  instr-plain (instr.Set d n) h = let p = and_parts (is_register d) (is_number n) h in
      (refl, (refl, (register-plain d p.0, (number-plain n p.1, tt))))
  instr-plain (instr.Move d a) h = let p = and_parts (is_register d) (is_register a) h in two-plain (codes "move") d a refl p.0 p.1
  instr-plain (instr.Add d a b) h = three-plain (codes "add") d a b refl h
  instr-plain (instr.Sub d a b) h = three-plain (codes "sub") d a b refl h
  instr-plain (instr.Mul d a b) h = three-plain (codes "mul") d a b refl h
  instr-plain (instr.And d a b) h = three-plain (codes "and") d a b refl h
  instr-plain (instr.Shr d a b) h = three-plain (codes "shr") d a b refl h
  instr-plain (instr.Load d k i) h = access-plain (codes "load") d k i refl h
  instr-plain (instr.Store s k i) h = access-plain (codes "store") s k i refl h
  instr-plain (instr.Fadd d s k i) h = fadd-plain d s k i h
  instr-plain (instr.Switch s) h = one_number (codes "switch") s 7 refl (omega (arith, ltb-true s 8 h)) (omega arith)
  instr-plain (instr.Print s) h = (refl, (refl, (register-plain s h, tt)))
  instr-plain (instr.Jump l) h = (refl, (refl, (named l h, tt)))
  instr-plain (instr.Zero a l) h = let p = and_parts (is_register a) (ltb l labels) h in
      (refl, (refl, (register-plain a p.0, (named l p.1, tt))))
  instr-plain (instr.Less a b l) h =
      let last = and_parts (is_register a && is_register b) (ltb l labels) h in
      let first = and_parts (is_register a) (is_register b) last.0 in
      (refl, (refl, (register-plain a first.0, (register-plain b first.1, (named l last.1, tt)))))
  instr-plain instr.Halt h = (refl, (refl, tt))

labels-plain : (at : ℕ) (code : List Words) (labels : List Label) → ArePlain code →
    AllByRecursion (λ l. is_label_name l.name ≡ true) labels → ArePlain (with_labels at code labels)
labels-plain at code [] h names = h
labels-plain at code (l ∷ ls) h names =
    all-append IsPlainLine (take (l.at - at) code) _ (all-take IsPlainLine (l.at - at) code h) (
      (refl, (refl, (label_name-plain l.name names.0, tt))),
      labels-plain l.at (drop (l.at - at) code) ls (all-drop IsPlainLine (l.at - at) code h) names.1,
    )

program-plain : (p : Program) → GuestFits p → ArePlain (program_lines p)
program-plain p fits =
    let parts = program-parts p fits in
    let named : (l : ℕ) → ltb l (length p.labels) ≡ true → IsPlain (label_name p.labels l) =
    λ l inside. label_name-plain (label_name p.labels l) (name_at p.labels parts.names l (ltb-true l (length p.labels) inside)) in
    let code = all-mapped (instr_words (label_name p.labels)) (instr-plain (length p.labels) (label_name p.labels) named) p.code
    (all-bools (is_instr (length p.labels)) p.code parts.instrs) in (
      one_number (codes "guest") p.space 7 refl parts.space (omega arith),
      labels-plain 0 (map (instr_words (label_name p.labels)) p.code) p.labels code parts.names,
    )

guests-plain : (gs : List Program) → AllByRecursion GuestFits gs → ArePlain (flat_map program_lines gs)
guests-plain [] h = tt
guests-plain (g ∷ gs) h = all-append IsPlainLine (program_lines g) _ (program-plain g h.0) (guests-plain gs h.1)

-- ---- the whole text

pub canon-plain : (m : Machine) → IsMachine m → ArePlain (canon m)
canon-plain m fits =
    let p = machine-parts m fits in
    let few : m.nodes ≤ 8 = p.nodes.1 in
    let pages : m.pages ≤ 64 = p.pages.1 in
    let words : m.words ≤ 64 = page_size-most m.words p.words in
    let distances = all-mapped distance_words (distance-plain m.nodes few) m.distances p.distances in
    let entries = all-mapped entry_words (entry-plain m.pages pages) m.entries p.entries in
    let inits = all-mapped init_words (init-plain m.pages m.words pages words) m.inits p.inits in
    let end : ArePlain ((codes "end" ∷ []) ∷ []) = ((refl, (refl, tt)), tt) in
    let body = all-append IsPlainLine (map distance_words m.distances) _ distances
    (all-append IsPlainLine (map entry_words m.entries) _ entries (all-append IsPlainLine (map init_words m.inits) _ inits
    (all-append IsPlainLine (flat_map program_lines m.guests) _ (guests-plain m.guests p.guests) end))) in (
      (refl, (refl, (refl, tt))),
      (
        one_number (codes "nodes") m.nodes 8 refl few (omega arith),
        (
          one_number (codes "frames") m.frames 64 refl p.frames.1 (omega arith),
          (
            one_number (codes "words") m.words 64 refl words (omega arith),
            (
              one_number (codes "pages") m.pages 64 refl pages (omega arith),
              (
                policy-plain m.policy p.policy,
                (
                  one_number (codes "budget") m.budget 65536 refl p.budget.1 (omega arith),
                  (schedule-plain m.nodes few m.schedule p.schedule, body),
                ),
              ),
            ),
          ),
        ),
      ),
    )

-- the canonical text of a machine is a text of it
pub canon_text-is_text : (m : Machine) → IsMachine m → IsTrue (is_short m) → IsTextOf (canon_text m) m
unfolding canon_text is_short
canon_text-is_text m fits short =
    let again = lines-again 1 (canon m) (canon-plain m fits) in
    record { size = leb-true (length (text_bytes (canon m))) most_bytes short; clean = again.clean; words = again.words }

-- so it is read as this machine
pub canon_text-again : (m : Machine) → IsMachine m → IsTrue (is_short m) → text_at (canon_text m) ≡ Ok m
canon_text-again m fits short = text-again (canon_text m) m fits (canon_text-is_text m fits short)

-- so of a Config, which keeps the limits

pub config-text : (cfg : Config) → IsTextOf (canon_text (machine cfg)) (machine cfg)
config-text cfg = canon_text-is_text (machine cfg) cfg.limits cfg.short

pub config-again : (cfg : Config) → text_at (canon_text (machine cfg)) ≡ Ok (machine cfg)
config-again cfg = canon_text-again (machine cfg) cfg.limits cfg.short
