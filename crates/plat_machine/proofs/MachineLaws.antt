-- a whole machine text: what is read is its canonical lines, and what has them is read
use Rattle.std.proofs.Common.{◌≡◌, ℕ, suc, ◌+◌, ◌^◌, ◌<◌, ◌≤◌, Bool, true, false, cond, eqb, List, [], ◌∷◌, ◌++◌}
use Rattle.std.proofs.Common.{length, map, drop, Ok, Err, codes, IsTrue, refl, ap, sym, ◌∙◌, arith}
use Rattle.std.proofs.Common.{append_assoc}
use Rattle.std.specs.Fmt.{decimal}
use Rattle.std.specs.List.{AllByRecursion, list_all, flat_map}
use Rattle.std.proofs.lemmas.Bool.{and_parts, eqb-true, eq-eqb, not_from_false}
use Rattle.std.proofs.lemmas.Bool.Decides.{nat_tests}
use Rattle.plat_base.specs.Machine.{Machine, Program, Turns, robin, random, listed, limits, is_machine, is_within, is_page_size, is_policy}
use Rattle.plat_base.specs.Machine.{is_schedule, is_distance, is_entry, is_init, is_program, all_differ, same_nodes, same_place, same_word}
use Rattle.plat_base.specs.Canon.{Words, canon, is_short, policy_words, schedule_words, distance_words, entry_words}
use Rattle.plat_base.specs.Canon.{init_words, program_lines}
use Rattle.plat_grammar.specs.Forms.{◌>>=◌, Row, Rest, row_at, word_at, exactly, read_as, nothing, refused}
use Rattle.plat_grammar.specs.FirstFault.{Header, header_at, distances_at, entries_at, inits_at, guests_from, end_line, machine_with}
use Rattle.plat_grammar.specs.FirstFault.{front_at, machine_at}
use Rattle.plat_grammar.specs.Grammar.{IsMachine, has_words}
use Rattle.plat_base.specs.declared.faults.Refused.{Refused}
use Rattle.plat_base.specs.declared.faults.Why.TheVariants as why
use Rattle.plat_base.specs.declared.policies.PolicyKind.{PolicyKind}
use Rattle.plat_base.specs.declared.policies.PolicyKind.TheVariants as policy
use Rattle.plat_base.specs.declared.configs.Distance.{Distance}
use Rattle.plat_base.specs.declared.configs.Entry.{Entry}
use Rattle.plat_base.specs.declared.configs.Init.{Init}
use Rattle.plat_text.proofs.Results.{taking, then_ok, ok_first, ok_second}
use Rattle.plat_text.proofs.WordLaws.{exactly-law, is_within-true, is_within-from}
use Rattle.plat_text.proofs.FormLemmas.{word_taken, row_taken}
use Rattle.plat_text.proofs.FormLaws.{row_texts, nothing-law, word_there, texts_taken, read_as-ok}
use Rattle.plat_text.proofs.SectionLaws.{row_lists, rest_lists, Took, took_then, row_there}
use Rattle.plat_text.proofs.SectionLaws.{again_exactly}
use Rattle.plat_text.proofs.RepeatedLaws.{Stops}
use Rattle.plat_machine.proofs.HeaderLaws.{header_lines, header-law, policy_kind_words, turns_words, page_size-small}
use Rattle.plat_machine.proofs.ListLaws.{distances-law, entries-law, inits-law}
use Rattle.plat_machine.proofs.GuestLaws.{GuestFits, all-bools, guests-law}
use Rattle.plat_base.proofs.LimitLemmas.{limits_of}
use Rattle.plat_base.proofs.ListLemmas.{all-from}

-- ---- the lines before `end`

abbrev pub front_lines : Header → List Distance → List Entry → List Init → List Program → List Words
front_lines h ds es is gs = header_lines h
    ++ (map distance_words ds ++ (map entry_words es ++ (map init_words is ++ flat_map program_lines gs)))

policy-words : (p : PolicyKind) → codes "policy" ∷ policy_kind_words p ≡ policy_words p
policy-words policy.Place = refl
policy-words policy.Replicate = refl
policy-words (policy.Platinum t1 t2) = refl

schedule-words : (t : Turns) → codes "schedule" ∷ turns_words t ≡ schedule_words t
schedule-words robin = refl
schedule-words (random a b) = refl
schedule-words (listed actors) = refl

abbrev last_line : List Words
last_line = (codes "end" ∷ []) ∷ []

-- eight lines and others
abbrev with_header : Header → Words → Words → List Words → List Words
with_header h p s lines =
    (codes "platinum" ∷ codes "1" ∷ [])
    ∷ (codes "nodes" ∷ decimal h.nodes ∷ [])
    ∷ (codes "frames" ∷ decimal h.frames ∷ [])
    ∷ (codes "words" ∷ decimal h.words ∷ [])
    ∷ (codes "pages" ∷ decimal h.pages ∷ [])
    ∷ p
    ∷ (codes "budget" ∷ decimal h.budget ∷ [])
    ∷ s
    ∷ lines

four_parts : (a b c d e : List Words) → (a ++ (b ++ (c ++ d))) ++ e ≡ a ++ (b ++ (c ++ (d ++ e)))
four_parts a b c d e = simp append_assoc

pub canon-front : (h : Header) (ds : List Distance) (es : List Entry) (is : List Init) (gs : List Program) →
    front_lines h ds es is gs ++ last_line ≡ canon (machine_with h ds es is gs)
canon-front h ds es is gs =
    ap (λ p. with_header h p (codes "schedule" ∷ turns_words h.schedule)
    ((map distance_words ds ++ (map entry_words es ++ (map init_words is ++ flat_map program_lines gs))) ++ last_line))
    (policy-words h.policy)
    ∙ ap (λ s. with_header h (policy_words h.policy) s
    ((map distance_words ds ++ (map entry_words es ++ (map init_words is ++ flat_map program_lines gs))) ++ last_line))
    (schedule-words h.schedule)
    ∙ ap (λ k. with_header h (policy_words h.policy) (schedule_words h.schedule) k)
    (four_parts (map distance_words ds) (map entry_words es) (map init_words is) (flat_map program_lines gs) last_line)

-- ---- limits

pub record MachineParts (m : Machine) : Type 0 where
  pub nodes : (1 ≤ m.nodes) × (m.nodes ≤ 8)
  pub frames : (1 ≤ m.frames) × (m.frames ≤ 64)
  pub words : is_page_size m.words ≡ true
  pub pages : (1 ≤ m.pages) × (m.pages ≤ 64)
  pub policy : is_policy m.policy ≡ true
  pub budget : (1 ≤ m.budget) × (m.budget ≤ 65536)
  pub schedule : is_schedule m.nodes m.schedule ≡ true
  pub distances : AllByRecursion (λ d. is_distance m.nodes d ≡ true) m.distances
  pub distances_differ : all_differ same_nodes m.distances ≡ true
  pub entries : AllByRecursion (λ e. is_entry m.pages e ≡ true) m.entries
  pub entries_differ : all_differ same_place m.entries ≡ true
  pub inits : AllByRecursion (λ i. is_init m.pages m.words i ≡ true) m.inits
  pub inits_differ : all_differ same_word m.inits ≡ true
  pub count : length m.guests ≡ m.nodes
  pub guests : AllByRecursion GuestFits m.guests

pub machine-from : (m : Machine) → MachineParts m → IsMachine m
machine-from m h =
    all-from (λ b. b) (limits m) (
      is_within-from 1 8 m.nodes h.nodes.0 h.nodes.1,
      (
        is_within-from 1 64 m.frames h.frames.0 h.frames.1,
        (
          h.words,
          (
            is_within-from 1 64 m.pages h.pages.0 h.pages.1,
            (
              h.policy,
              (
                is_within-from 1 65536 m.budget h.budget.0 h.budget.1,
                (
                  h.schedule,
                  (
                    all-from (is_distance m.nodes) m.distances h.distances,
                    (
                      h.distances_differ,
                      (
                        all-from (is_entry m.pages) m.entries h.entries,
                        (
                          h.entries_differ,
                          (
                            all-from (is_init m.pages m.words) m.inits h.inits,
                            (
                              h.inits_differ,
                              (
                                eq-eqb (length m.guests) m.nodes h.count,
                                (all-from is_program m.guests h.guests, tt),
                              ),
                            ),
                          ),
                        ),
                      ),
                    ),
                  ),
                ),
              ),
            ),
          ),
        ),
      ),
    )

true_parts : (b : Bool) (bs : List Bool) → list_all (λ b. b) (b ∷ bs) ≡ true → (b ≡ true) × (list_all (λ b. b) bs ≡ true)
true_parts b bs h = and_parts b (list_all (λ b. b) bs) h

pub machine-parts : (m : Machine) → IsMachine m → MachineParts m
machine-parts m h =
    let t0 = true_parts (is_within 1 8 m.nodes) (drop 1 (limits m)) h in
    let t1 = true_parts (is_within 1 64 m.frames) (drop 2 (limits m)) t0.1 in
    let t2 = true_parts (is_page_size m.words) (drop 3 (limits m)) t1.1 in
    let t3 = true_parts (is_within 1 64 m.pages) (drop 4 (limits m)) t2.1 in
    let t4 = true_parts (is_policy m.policy) (drop 5 (limits m)) t3.1 in
    let t5 = true_parts (is_within 1 65536 m.budget) (drop 6 (limits m)) t4.1 in
    let t6 = true_parts (is_schedule m.nodes m.schedule) (drop 7 (limits m)) t5.1 in
    let t7 = true_parts (list_all (is_distance m.nodes) m.distances) (drop 8 (limits m)) t6.1 in
    let t8 = true_parts (all_differ same_nodes m.distances) (drop 9 (limits m)) t7.1 in
    let t9 = true_parts (list_all (is_entry m.pages) m.entries) (drop 10 (limits m)) t8.1 in
    let t10 = true_parts (all_differ same_place m.entries) (drop 11 (limits m)) t9.1 in
    let t11 = true_parts (list_all (is_init m.pages m.words) m.inits) (drop 12 (limits m)) t10.1 in
    let t12 = true_parts (all_differ same_word m.inits) (drop 13 (limits m)) t11.1 in
    let t13 = true_parts (eqb (length m.guests) m.nodes) (drop 14 (limits m)) t12.1 in
    let t14 = true_parts (list_all is_program m.guests) [] t13.1 in
    record {
      nodes = is_within-true 1 8 m.nodes t0.0;
      frames = is_within-true 1 64 m.frames t1.0;
      words = t2.0;
      pages = is_within-true 1 64 m.pages t3.0;
      policy = t4.0;
      budget = is_within-true 1 65536 m.budget t5.0;
      schedule = t6.0;
      distances = all-bools (is_distance m.nodes) m.distances t7.0;
      distances_differ = t8.0;
      entries = all-bools (is_entry m.pages) m.entries t9.0;
      entries_differ = t10.0;
      inits = all-bools (is_init m.pages m.words) m.inits t11.0;
      inits_differ = t12.0;
      count = eqb-true (length m.guests) m.nodes t13.0;
      guests = all-bools is_program m.guests t14.0;
    }

-- ---- the lines before `end` are read

abbrev pub header_of : Machine → Header
header_of m = record {
  nodes = m.nodes;
  frames = m.frames;
  words = m.words;
  pages = m.pages;
  policy = m.policy;
  budget = m.budget;
  schedule = m.schedule;
}

-- the lines of a machine before `end`
abbrev pub machine_lines : Machine → List Words
machine_lines m = front_lines (header_of m) m.distances m.entries m.inits m.guests

sections-take : (rest r1 r2 r3 r4 r5 : Rest) (h : Header) (ds : List Distance) (es : List Entry) (is : List Init) (gs : List Program)
    → header_at rest ≡ Ok (h, r1) → distances_at h.nodes r1 ≡ Ok (ds, r2) → entries_at h.pages r2 ≡ Ok (es, r3) →
    inits_at h.pages h.words r3 ≡ Ok (is, r4) → guests_from h.nodes [] r4 ≡ Ok (gs, r5)
    → Took rest r5 (front_lines h ds es is gs) × IsMachine (machine_with h ds es is gs)
sections-take rest r1 r2 r3 r4 r5 h ds es is gs e0 e1 e2 e3 e4 =
    let t0 = header-law.takes rest h r1 e0 in
    let few : h.nodes < 2 ^ 32 = omega (arith, t0.1.nodes) in
    let pages : h.pages < 2 ^ 32 = omega (arith, t0.1.pages) in
    let t1 = (distances-law h.nodes few).takes r1 ds r2 e1 in
    let t2 = (entries-law h.pages pages).takes r2 es r3 e2 in
    let t3 = (inits-law h.pages h.words pages (page_size-small h.words t0.1.words)).takes r3 is r4 e3 in
    let t4 = (guests-law h.nodes).takes r4 gs r5 e4 in (
      took_then rest r1 r5 (header_lines h) _ t0.0
          (took_then r1 r2 r5 (map distance_words ds) _ t1.0
          (took_then r2 r3 r5 (map entry_words es) _ t2.0
          (took_then r3 r4 r5 (map init_words is) (flat_map program_lines gs) t3.0 t4.0))),
      machine-from (machine_with h ds es is gs) (record {
        nodes = t0.1.nodes;
        frames = t0.1.frames;
        words = t0.1.words;
        pages = t0.1.pages;
        policy = t0.1.policy;
        budget = t0.1.budget;
        schedule = t0.1.schedule;
        distances = t1.1.0;
        distances_differ = t1.1.1;
        entries = t2.1.0;
        entries_differ = t2.1.1;
        inits = t3.1.0;
        inits_differ = t3.1.1;
        count = t4.1.0;
        guests = t4.1.1;
      }),
    )

pub front-takes : (rest : Rest) (m : Machine) (after : Rest) → front_at rest ≡ Ok (m, after) → Took rest after (machine_lines m)
    × IsMachine m
unfolding front_at
front-takes rest m after e =
    taking (header_at rest) _ _ e (λ h h-is e1.
    taking (distances_at h.0.nodes h.1) _ _ e1 (λ ds ds-is e2.
    taking (entries_at h.0.pages ds.1) _ _ e2 (λ es es-is e3.
    taking (inits_at h.0.pages h.0.words es.1) _ _ e3 (λ is is-is e4.
    taking (guests_from h.0.nodes [] is.1) _ _ e4 (λ gs gs-is e5.
    let value : machine_with h.0 ds.0 es.0 is.0 gs.0 ≡ m = ok_first _ (m, after) e5 in
    let left : gs.1 ≡ after = ok_second _ (m, after) e5 in
    rw (← value, ← left) (sections-take rest h.1 ds.1 es.1 is.1 gs.1 h.0 ds.0 es.0 is.0 gs.0 h-is ds-is es-is is-is gs-is))))))

-- the first words of later sections stop an earlier one
stops_inits : (gs : List Program) (more : List Words) → Stops (codes "init") (flat_map program_lines gs ++ (codes "end" ∷ []) ∷ more)
stops_inits [] more = refl
stops_inits (g ∷ gs) more = refl

stops_entries : (is : List Init) (gs : List Program) (more : List Words) →
    Stops (codes "map") (map init_words is ++ (flat_map program_lines gs ++ (codes "end" ∷ []) ∷ more))
stops_entries [] [] more = refl
stops_entries [] (g ∷ gs) more = refl
stops_entries (i ∷ is) gs more = refl

stops_distances : (es : List Entry) (is : List Init) (gs : List Program) (more : List Words)
    → Stops (codes "distance") (map entry_words es ++ (map init_words is ++ (flat_map program_lines gs ++ (codes "end" ∷ []) ∷ more)))
stops_distances [] [] [] more = refl
stops_distances [] [] (g ∷ gs) more = refl
stops_distances [] (i ∷ is) gs more = refl
stops_distances (e ∷ es) is gs more = refl

-- ---- the line `end`

end_short : (short : Bool) (word : Row) (line column : ℕ) (r : Rest) (next : ℕ) (after : Rest)
    → cond short (◌>>=◌ {B = ℕ × Rest} (nothing word) (λ _. Ok (line + 1, r))) (Err (refused line column why.TooMany)) ≡ Ok (next, after)
    → (short ≡ true) × (row_texts word ≡ []) × (next ≡ line + 1) × (r ≡ after)
end_short true word line column r next after e = taking (nothing word) _ _ e (λ u u-is e1.
    (refl, (nothing-law.takes word u u-is).0, sym (ok_first (line + 1, r) (next, after) e1), ok_second (line + 1, r) (next, after) e1))
end_short false word line column r next after e = cc

pub record EndTook (short : Bool) (rest : Rest) (next : ℕ) (after : Rest) : Type 0 where
  pub is_short : short ≡ true
  pub last : Row
  pub rows : rest.rows ≡ last ∷ after.rows
  pub stop : after.stop ≡ rest.stop
  pub words : row_texts last ≡ codes "end" ∷ []
  pub number : next ≡ last.line + 1

pub end-takes : (short : Bool) (rest : Rest) (next : ℕ) (after : Rest) → end_line short rest ≡ Ok (next, after) →
    EndTook short rest next after
unfolding end_line
end-takes short rest next after e =
    taking (row_at rest) _ _ e (λ r r-is e1.
    taking (word_at r.0) _ _ e1 (λ w w-is e2. taking (read_as r.0.line w.0 (exactly (codes "end") w.0.bytes)) _ _ e2 (λ u u-is e3.
    let t = end_short short w.1 r.0.line w.0.column r.1 next after e3 in
    let row = row_taken rest r.0 r.1 r-is in
    let word : w.0.bytes ≡ codes "end" =
    ((exactly-law (codes "end")).takes w.0.bytes u (read_as-ok r.0.line w.0 (exactly (codes "end") w.0.bytes) u u-is)).0 in
    record {
      is_short = t.0;
      last = r.0;
      rows = row.rows ∙ ap (λ k. r.0 ∷ k.rows) t.3;
      stop = ap (λ k. k.stop) (sym t.3) ∙ row.stop;
      words = texts_taken r.0 w.0 w.1 (word_taken r.0 w.0 w.1 w-is) ∙ rw (word, t.1) refl;
      number = t.2;
    })))

pub end-again : (rest : Rest) (more : List Words) → rest_lists rest ≡ (codes "end" ∷ []) ∷ more → (next : ℕ) × (after : Rest)
    × (end_line true rest ≡ Ok (next, after)) × (rest_lists after ≡ more)
unfolding end_line
end-again rest more e =
    let r = row_there rest (codes "end" ∷ []) more e in
    let w = word_there r.0 (codes "end") [] r.3 in
    let n = nothing-law.again w.1 (tt {0}) tt w.4 in (
      r.0.line + 1,
      r.1,
      then_ok (row_at rest) _ (r.0, r.1) _ r.2 (then_ok (word_at r.0) _ (w.0, w.1) _ w.2 (rw w.3 (then_ok (nothing w.1) _ n.0 _ n.1 refl))),
      r.4,
    )

-- ---- lines have words

pub some_words : (w : List ℕ) (ws : Words) → has_words (w ∷ ws) ≡ true
some_words w ws = not_from_false _ (no_zero (length ws)) where
  no_zero : (n : ℕ) → eqb (suc n) 0 ≡ false
  no_zero n = grind (arith, nat_tests)

-- ---- the whole machine text

-- what was read up to and with the line `end`
pub record MachineTook (rest after : Rest) (m : Machine) (next : ℕ) : Type 0 where
  pub front : List Row
  pub last : Row
  pub rows : rest.rows ≡ front ++ last ∷ after.rows
  pub stop : after.stop ≡ rest.stop
  pub lists : row_lists front ++ row_texts last ∷ [] ≡ canon m
  pub number : next ≡ last.line + 1
  pub machine : IsMachine m
  pub short : IsTrue (is_short m)

pub machine-takes : (rest : Rest) (m : Machine) (next : ℕ) (after : Rest) → machine_at rest ≡ Ok ((m, next), after) →
    MachineTook rest after m next
unfolding machine_at
machine-takes rest m next after e =
    taking (front_at rest) _ _ e (λ f f-is e1. taking (end_line (is_short f.0) f.1) _ _ e1 (λ n n-is e2.
    let same : ◌≡◌ {A = Machine × ℕ} (f.0, n.0) (m, next) = ok_first _ ((m, next), after) e2 in
    let left : n.1 ≡ after = ok_second _ ((m, next), after) e2 in
    let value : f.0 ≡ m = ap (λ p. p.0) same in
    let number : n.0 ≡ next = ap (λ p. p.1) same in
    let t = front-takes rest f.0 f.1 f-is in
    let u = end-takes (is_short f.0) f.1 n.0 n.1 n-is in
    rw (← value, ← number, ← left) (record {
      front = t.0.taken;
      last = u.last;
      rows = t.0.rows ∙ ap (λ k. t.0.taken ++ k) u.rows;
      stop = u.stop ∙ t.0.stop;
      lists = rw (t.0.lists, u.words) (canon-front (header_of f.0) f.0.distances f.0.entries f.0.inits f.0.guests);
      number = u.number;
      machine = t.1;
      short = u.is_short;
    })))

six_parts : (a b c d g l more : List Words) → ((a ++ (b ++ (c ++ (d ++ g)))) ++ l) ++ more ≡ a ++ (b ++ (c ++ (d ++ (g ++ (l ++ more)))))
six_parts a b c d g l more = simp append_assoc

pub machine-again : (rest : Rest) (m : Machine) (more : List Words) → IsMachine m → IsTrue (is_short m) → rest_lists rest ≡ canon m ++ more
    → (next : ℕ) × (after : Rest) × (machine_at rest ≡ Ok ((m, next), after)) × (rest_lists after ≡ more)
unfolding machine_at front_at
machine-again rest m more fits short e =
    let p = machine-parts m fits in
    let h = header_of m in
    let few : m.nodes < 2 ^ 32 = omega (arith, p.nodes) in
    let pages : m.pages < 2 ^ 32 = omega (arith, p.pages) in
    let ds = map distance_words m.distances in
    let es = map entry_words m.entries in
    let is = map init_words m.inits in
    let gs = flat_map program_lines m.guests in
    let lines : rest_lists rest ≡ header_lines h ++ (ds ++ (es ++ (is ++ (gs ++ (last_line ++ more))))) =
    e ∙ ap (λ k. k ++ more) (sym (canon-front h m.distances m.entries m.inits m.guests))
    ∙ six_parts (header_lines h) ds es is gs last_line more in
    let t0 = again_exactly header-law rest h (ds ++ (es ++ (is ++ (gs ++ (last_line ++ more)))))
    (record {
      nodes = p.nodes;
      frames = p.frames;
      words = p.words;
      pages = p.pages;
      policy = p.policy;
      budget = p.budget;
      schedule = p.schedule;
    }) tt lines in
    let t1 = again_exactly (distances-law m.nodes few) t0.0 m.distances (es ++ (is ++ (gs ++ (last_line ++ more))))
    (p.distances, p.distances_differ) (stops_distances m.entries m.inits m.guests more) t0.2 in
    let t2 = again_exactly (entries-law m.pages pages) t1.0 m.entries (is ++ (gs ++ (last_line ++ more))) (p.entries, p.entries_differ)
    (stops_entries m.inits m.guests more) t1.2 in
    let t3 = again_exactly (inits-law m.pages m.words pages (page_size-small m.words p.words)) t2.0 m.inits (gs ++ (last_line ++ more))
    (p.inits, p.inits_differ) (stops_inits m.guests more) t2.2 in
    let t4 = again_exactly (guests-law m.nodes) t3.0 m.guests (last_line ++ more) (p.count, p.guests) refl t3.2 in
    let t5 = end-again t4.0 more t4.2 in (
      t5.0,
      t5.1,
      then_ok (front_at rest) _ (m, t4.0) _
          (then_ok (header_at rest) _ (h, t0.0) _ t0.1
          (then_ok (distances_at m.nodes t0.0) _ (m.distances, t1.0) _ t1.1
          (then_ok (entries_at m.pages t1.0) _ (m.entries, t2.0) _ t2.1
          (then_ok (inits_at m.pages m.words t2.0) _ (m.inits, t3.0) _ t3.1
          (then_ok (guests_from m.nodes [] t3.0) _ (m.guests, t4.0) _ t4.1 refl)))))
          (then_ok (end_line (is_short m) t4.0) _ (t5.0, t5.1) _ (ap (λ b. end_line b t4.0) short ∙ t5.2) refl),
      t5.3,
    )

-- ---- the parts of a machine text, as code reads them

module _ (rest after : Rest) (m : Machine) (read : front_at rest ≡ Ok (m, after)) where
  pub machine-wrong : (short : Bool) (fault : Refused) → short ≡ is_short m → end_line short after ≡ Err fault → machine_at rest ≡ Err fault
  unfolding machine_at
  machine-wrong short fault same e = then_ok (front_at rest) _ (m, after) _ read (rw (← same, e) refl)

  pub machine-right : (short : Bool) (next : ℕ) (left : Rest) → short ≡ is_short m → end_line short after ≡ Ok (next, left) →
      machine_at rest ≡ Ok ((m, next), left)
  unfolding machine_at
  machine-right short next left same e = then_ok (front_at rest) _ (m, after) _ read (rw (← same, e) refl)

  pub read-limits : IsTrue (is_machine m)
  read-limits = (front-takes rest m after read).1

  pub read-guests : IsTrue (list_all is_program m.guests)
  read-guests = (limits_of m read-limits).guests

  pub read-short : (short : Bool) (next : ℕ) (left : Rest) → short ≡ is_short m → end_line short after ≡ Ok (next, left) →
      IsTrue (is_short m)
  read-short short next left same e = sym same ∙ (end-takes short after next left e).is_short
