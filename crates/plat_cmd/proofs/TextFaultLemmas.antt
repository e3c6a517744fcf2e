-- no machine text and no history text is refused as too long, but for its number of bytes
use Rattle.std.proofs.Common.{◌≡◌, ℕ, zero, suc, ◌==◌, ◌+◌, ◌≤◌, Bool, true, false, List, [], ◌∷◌, ◌++◌, length}
use Rattle.std.proofs.Common.{if◌then◌else◌, arith}
use Rattle.std.specs.Prelude.{Option, Some, None, Result, Ok, Err, nat_lt, nat_le, bytes_eq, codes}
use Rattle.std.specs.Fmt.{decimal}
use Rattle.std.specs.List.{slice_split}
use Rattle.std.proofs.lemmas.Bool.Decides.{nat_tests}
use Rattle.plat_base.specs.Canon.{is_short, most_bytes}
use Rattle.plat_base.specs.Labels.{is_label_name}
use Rattle.plat_base.specs.Machine.{Machine, Program, is_page_size, same_nodes, same_place, same_word, same_name}
use Rattle.plat_base.specs.declared.faults.Refused.{Refused}
use Rattle.plat_base.specs.declared.faults.Why.{Why}
use Rattle.plat_base.specs.declared.faults.Why.TheVariants as why
use Rattle.plat_base.specs.declared.frames.Frame.{Frame}
use Rattle.plat_base.specs.declared.guests.Instr.{Instr}
use Rattle.plat_base.specs.declared.guests.Label.{Label}
use Rattle.plat_base.specs.declared.items.Item.{Item}
use Rattle.plat_base.specs.declared.endings.Ended.{Ended}
use Rattle.plat_grammar.specs.Lines.{number_of}
use Rattle.plat_grammar.specs.Forms.{◌>>=◌, Row, Rest, Stop, refused, rows_of, row_at, word_at, first_word, read_as, one}
use Rattle.plat_grammar.specs.Forms.{exactly, number_in, any_number, number, below, number_below, nothing, ◌·◌, made, maybe, listed}
use Rattle.plat_grammar.specs.Forms.{over}
use Rattle.plat_grammar.specs.Drafts.{Draft, Target, numbered_register, register_of, register, name_of, target, address}
use Rattle.plat_grammar.specs.Drafts.{three_registers, set_line, move_line, add_line, sub_line, mul_line, and_line, shr_line}
use Rattle.plat_grammar.specs.Drafts.{load_line, store_line, fadd_line, switch_line, print_line, jump_line, zero_line, less_line, halt_line}
use Rattle.plat_grammar.specs.Drafts.{instructions, instruction_line, label_number, linked_to, linked_by, linked, code_from}
use Rattle.plat_grammar.specs.FirstFault.{number_line, page_size, size_of, size_line, version_line, policies, policy_line}
use Rattle.plat_grammar.specs.FirstFault.{schedules, schedule_line, header_at, other_node, distance_line}
use Rattle.plat_grammar.specs.FirstFault.{entry_line, init_line, distances_at, entries_at, inits_at, name_after, label_line, body_line}
use Rattle.plat_grammar.specs.FirstFault.{ends_guest, body_from, body_at, guest_at, guests_from, end_line, front_at, machine_at, text_at}
use Rattle.plat_grammar.specs.HistoryCanon.{point, colon, comma, most_items, most_history_bytes}
use Rattle.plat_grammar.specs.HistoryForms.{named, kinds, causes, actions, removals, messages, moments, rights, endings, heads, expected}
use Rattle.plat_grammar.specs.HistoryForms.{part_below, cut, wanted, frame_of, translation_of, granted_of, above, copies_from, copies_of}
use Rattle.plat_grammar.specs.HistoryForms.{dir_parts, dir_of, access_line, change_line, applied_line, item_kinds, item_line, ended_line}
use Rattle.plat_grammar.specs.HistoryForms.{switch_line as switched_line}
use Rattle.plat_grammar.specs.HistoryFaults.{items_from, ends_from, told_at, lines_at, history_at}
use Rattle.plat_cmd.proofs.FaultLemmas.{FineWord, word_then, word_if, fine-number_of, fine-exactly, fine-number_in, fine-number_below, Fine}
use Rattle.plat_cmd.proofs.FaultLemmas.{fine_then, fine_if, FineLine, fine-word_at, fine-read_as, fine-one, fine-nothing, fine-both}
use Rattle.plat_cmd.proofs.FaultLemmas.{fine-made, fine-maybe, fine-listed, FineKinds, fine-chosen, fine-choice, fine-once, FineStop, Keeps}
use Rattle.plat_cmd.proofs.FaultLemmas.{keeps_then, line_then, last_then, keeps_if, missing-other, keeps-row_at, keeps-line_at}
use Rattle.plat_cmd.proofs.FaultLemmas.{keeps-all_with, fine-over, fine-rows_of}

-- ---- the lines before the guests

fine-any_number : FineLine any_number
fine-any_number = fine-one number_of fine-number_of

fine-number : (low high : ℕ) → FineLine (number low high)
fine-number low high = fine-one (number_in low high) (fine-number_in low high)

fine-below : (limit : ℕ) → FineLine (below limit)
fine-below limit = fine-one (number_below limit) (fine-number_below limit)

fine-number_line : (low high : ℕ) → FineLine (number_line low high)
fine-number_line low high = fine-made _ (number low high · nothing) (fine-both (number low high) nothing
    (fine-number low high) fine-nothing)

fine-size_line : FineLine size_line
fine-size_line = fine-made _ (one size_of · nothing) (fine-both (one size_of) nothing (fine-one size_of size) fine-nothing)
  where
    size : (w : List ℕ) → FineWord (size_of w)
    size w = word_then (number_of w) page_size (fine-number_of w) (λ n. word_if (is_page_size n) _ _ tt (λ is. cc))

fine-version_line : FineLine version_line
fine-version_line =
    fine-made _ (one (exactly (codes "1")) · nothing) (fine-both (one (exactly (codes "1"))) nothing (fine-one (exactly (codes "1"))
    (fine-exactly (codes "1"))) fine-nothing)

fine-two : {A B C : Type 0} (f : Row → Result (A × Row) Refused) (g : Row → Result (B × Row) Refused) (h : A × (B × Unit {0}) → C)
    → FineLine f → FineLine g → FineLine (made h (f · g · nothing))
fine-two f g h a b = fine-made h (f · g · nothing) (fine-both f (g · nothing) a (fine-both g nothing b fine-nothing))

fine-three : {A B C D : Type 0} (f : Row → Result (A × Row) Refused) (g : Row → Result (B × Row) Refused) (k : Row → Result
    (C × Row) Refused) (h : A × (B × (C × Unit {0})) → D)
    → FineLine f → FineLine g → FineLine k → FineLine (made h (f · g · k · nothing))
fine-three f g k h a b c =
    fine-made h (f · g · k · nothing) (fine-both f (g · k · nothing) a (fine-both g (k · nothing) b (fine-both k nothing c fine-nothing)))

fine-policy_line : FineLine policy_line
fine-policy_line =
    fine-choice policies why.UnknownPolicy (
      fine-made _ nothing fine-nothing,
      (
        fine-made _ nothing fine-nothing,
        (
          fine-two (number 0 1000000) (number 64 1000000) _
              (fine-number 0 1000000) (fine-number 64 1000000),
          tt,
        ),
      ),
    )
    (λ is. cc)

fine-schedule_line : (nodes : ℕ) → FineLine (schedule_line nodes)
fine-schedule_line nodes =
    fine-choice (schedules nodes) why.UnknownSchedule (
      fine-made _ nothing fine-nothing,
      (
        fine-two any_number any_number _ fine-any_number fine-any_number,
        (fine-made _ (listed (number_in 0 nodes) 4096) (fine-listed (number_in 0 nodes) 4096 (fine-number_in 0 nodes)), tt),
      ),
    )
    (λ is. cc)

keeps-header_at : (rest : Rest) → FineStop rest.stop → Keeps (header_at rest)
unfolding header_at
keeps-header_at rest fine =
    keeps_then _ _ (keeps-line_at (codes "platinum") version_line fine-version_line rest fine) (λ a f.
    keeps_then _ _ (keeps-line_at (codes "nodes") (number_line 1 8) (fine-number_line 1 8) a.1 f) (λ nodes f.
    keeps_then _ _ (keeps-line_at (codes "frames") (number_line 1 64) (fine-number_line 1 64) nodes.1 f) (λ b f.
    keeps_then _ _ (keeps-line_at (codes "words") size_line fine-size_line b.1 f) (λ c f.
    keeps_then _ _ (keeps-line_at (codes "pages") (number_line 1 64) (fine-number_line 1 64) c.1 f) (λ d f.
    keeps_then _ _ (keeps-line_at (codes "policy") policy_line fine-policy_line d.1 f) (λ e f.
    keeps_then _ _ (keeps-line_at (codes "budget") (number_line 1 65536) (fine-number_line 1 65536) e.1 f) (λ g f.
    keeps_then _ _ (keeps-line_at (codes "schedule") (schedule_line nodes.0) (fine-schedule_line nodes.0) g.1 f) (λ h f. f))))))))

fine-distance_line : (nodes : ℕ) → FineLine (distance_line nodes)
unfolding distance_line
fine-distance_line nodes row =
    fine_then (below nodes row) _ (fine-below nodes row) (λ a.
    fine_then (one (other_node nodes a.0) a.1) _ (fine-one (other_node nodes a.0) (other a.0) a.1) (λ b.
    fine_then (number 1 1000 b.1) _ (fine-number 1 1000 b.1) (λ d. fine_then (nothing d.1) _ (fine-nothing d.1) (λ e. tt))))
  where
    other : (a : ℕ) (w : List ℕ) → FineWord (other_node nodes a w)
    other a w = word_then (number_of w) _ (fine-number_of w) (λ n. word_if (nat_lt n nodes) _ _ (word_if (n == a) _ _ (λ is. cc) tt)
        (λ is. cc))

fine-entry_line : (pages : ℕ) → FineLine (entry_line pages)
unfolding entry_line
fine-entry_line pages = fine-three (number 0 7) (number 0 63) (below pages) _ (fine-number 0 7) (fine-number 0 63) (fine-below pages)

fine-init_line : (pages words : ℕ) → FineLine (init_line pages words)
unfolding init_line
fine-init_line pages words = fine-three (below pages) (below words) any_number _ (fine-below pages) (fine-below words) fine-any_number

keeps-distances_at : (nodes : ℕ) (rest : Rest) → FineStop rest.stop → Keeps (distances_at nodes rest)
unfolding distances_at
keeps-distances_at nodes rest fine = keeps-all_with (codes "distance") same_nodes (distance_line nodes) (fine-distance_line nodes) rest fine

keeps-entries_at : (pages : ℕ) (rest : Rest) → FineStop rest.stop → Keeps (entries_at pages rest)
unfolding entries_at
keeps-entries_at pages rest fine = keeps-all_with (codes "map") same_place (entry_line pages) (fine-entry_line pages) rest fine

keeps-inits_at : (pages words : ℕ) (rest : Rest) → FineStop rest.stop → Keeps (inits_at pages words rest)
unfolding inits_at
keeps-inits_at pages words rest fine = keeps-all_with (codes "init") same_word (init_line pages words)
    (fine-init_line pages words) rest fine

-- ---- instructions

fine-register_of : (w : List ℕ) → FineWord (register_of w)
unfolding register_of
fine-register_of [] = λ is. cc
fine-register_of (b ∷ word) = word_if (b == 114) _ _ (by (number_of word)) (λ is. cc)
  where
    by : (r : Result ℕ Why) → FineWord (numbered_register r)
    by (Ok n) = word_if (nat_lt n 16) _ _ tt (λ is. cc)
    by (Err fault) = λ is. cc

fine-register : FineLine register
fine-register = fine-one register_of fine-register_of

fine-name_of : (w : List ℕ) → FineWord (name_of w)
fine-name_of w = word_if (is_label_name w) _ _ tt (λ is. cc)

fine-target : FineLine target
fine-target row = fine_then (word_at row) _ (fine-word_at row) (λ w. fine_then (read_as row.line w.0 (name_of w.0.bytes)) _
    (fine-read_as row.line w.0 (name_of w.0.bytes) (fine-name_of w.0.bytes)) (λ name. tt))

fine-address : FineLine address
fine-address = fine-both any_number (maybe register) fine-any_number (fine-maybe register fine-register)

fine-three_registers : FineLine three_registers
fine-three_registers =
    fine-both register (register · register · nothing) fine-register (fine-both register (register · nothing) fine-register
    (fine-both register nothing fine-register fine-nothing))

fine-set_line : FineLine set_line
unfolding set_line
fine-set_line = fine-two register any_number _ fine-register fine-any_number

fine-move_line : FineLine move_line
unfolding move_line
fine-move_line = fine-two register register _ fine-register fine-register

fine-add_line : FineLine add_line
unfolding add_line
fine-add_line = fine-made _ three_registers fine-three_registers

fine-sub_line : FineLine sub_line
unfolding sub_line
fine-sub_line = fine-made _ three_registers fine-three_registers

fine-mul_line : FineLine mul_line
unfolding mul_line
fine-mul_line = fine-made _ three_registers fine-three_registers

fine-and_line : FineLine and_line
unfolding and_line
fine-and_line = fine-made _ three_registers fine-three_registers

fine-shr_line : FineLine shr_line
unfolding shr_line
fine-shr_line = fine-made _ three_registers fine-three_registers

fine-load_line : FineLine load_line
unfolding load_line
fine-load_line = fine-made _ (register · address) (fine-both register address fine-register fine-address)

fine-store_line : FineLine store_line
unfolding store_line
fine-store_line = fine-made _ (register · address) (fine-both register address fine-register fine-address)

fine-fadd_line : FineLine fadd_line
unfolding fadd_line
fine-fadd_line = fine-made _ (register · register · address) (fine-both register (register · address) fine-register
    (fine-both register address fine-register fine-address))

fine-switch_line : FineLine switch_line
unfolding switch_line
fine-switch_line = fine-made _ (number 0 7 · nothing) (fine-both (number 0 7) nothing (fine-number 0 7) fine-nothing)

fine-print_line : FineLine print_line
unfolding print_line
fine-print_line = fine-made _ (register · nothing) (fine-both register nothing fine-register fine-nothing)

fine-jump_line : FineLine jump_line
unfolding jump_line
fine-jump_line = fine-made _ (target · nothing) (fine-both target nothing fine-target fine-nothing)

fine-zero_line : FineLine zero_line
unfolding zero_line
fine-zero_line = fine-two register target _ fine-register fine-target

fine-less_line : FineLine less_line
unfolding less_line
fine-less_line = fine-three register register target _ fine-register fine-register fine-target

fine-halt_line : FineLine halt_line
unfolding halt_line
fine-halt_line = fine-made _ nothing fine-nothing

fine-instructions : FineKinds instructions
fine-instructions = (
  fine-set_line,
  (
    fine-move_line,
    (
      fine-add_line,
      (
        fine-sub_line,
        (
          fine-mul_line,
          (
            fine-and_line,
            (
              fine-shr_line,
              (
                fine-load_line,
                (
                  fine-store_line,
                  (
                    fine-fadd_line,
                    (
                      fine-switch_line,
                      (
                        fine-print_line,
                        (fine-jump_line, (fine-zero_line, (fine-less_line, (fine-halt_line, tt)))),
                      ),
                    ),
                  ),
                ),
              ),
            ),
          ),
        ),
      ),
    ),
  ),
)

fine-instruction_line : (count : ℕ) → FineLine (instruction_line count)
unfolding instruction_line
fine-instruction_line count row =
    fine_then (word_at row) _ (fine-word_at row)
    (λ w. fine_if (nat_le 4096 count) _ _ (λ is. cc) (fine-chosen instructions _ w.0.bytes w.1 fine-instructions (λ is. cc)))

fine-code_from : (labels : List Label) (seen : List Instr) (ds : List Draft) → Fine (code_from labels seen ds)
unfolding code_from
fine-code_from labels seen [] = tt
fine-code_from labels seen (d ∷ ds) = fine_then (linked labels d) _ (by d.target) (λ i. fine-code_from labels (seen ++ i ∷ []) ds)
  where
    to : (t : Target) (l : Option ℕ) → Fine (linked_to d t l)
    to t None = λ is. cc
    to t (Some l) = tt

    by : (t : Option Target) → Fine (linked_by labels d t)
    by None = tt
    by (Some t) = to t (label_number labels t.name)

-- ---- guests

fine-label_line : (at : ℕ) (labels : List Label) → FineLine (label_line at labels)
unfolding label_line
fine-label_line at labels =
    fine-once same_name labels _ (fine-made _ (one (name_after (length labels)) · nothing) (fine-both (one (name_after
    (length labels))) nothing (fine-one (name_after (length labels)) name) fine-nothing))
  where
    name : (w : List ℕ) → FineWord (name_after (length labels) w)
    name w = word_if (nat_le 256 (length labels)) _ _ (λ is. cc) (fine-name_of w)

fine-body_line : (drafts : List Draft) (labels : List Label) → FineLine (body_line drafts labels)
unfolding body_line
fine-body_line drafts labels row =
    fine_then (word_at row) _ (fine-word_at row)
    (λ w. fine_if (bytes_eq w.0.bytes (codes "label")) _ _
    (fine_then (label_line (length drafts) labels w.1) _ (fine-label_line (length drafts) labels w.1) (λ l. tt))
    (fine_then (instruction_line (length drafts) row) _ (fine-instruction_line (length drafts) row) (λ d. tt)))

keeps-body_from : (stop : Stop) → FineStop stop → (drafts : List Draft) (labels : List Label) (rows : List Row) → Keeps
    (body_from stop drafts labels rows)
unfolding body_from
keeps-body_from stop fine drafts labels [] = missing-other stop fine
keeps-body_from stop fine drafts labels (row ∷ rows) =
    line_then (first_word row) _ (fine_then (word_at row) _ (fine-word_at row) (λ w. tt))
    (λ w. keeps_if (ends_guest w.bytes) _ _ fine
    (line_then (body_line drafts labels row) _ (fine-body_line drafts labels row) (λ b. keeps-body_from stop fine
    b.0 b.1 rows)))

keeps-guest_at : (rest : Rest) → FineStop rest.stop → Keeps (guest_at rest)
unfolding guest_at
keeps-guest_at rest fine =
    keeps_then _ _ (keeps-line_at (codes "guest") (number_line 0 7) (fine-number_line 0 7) rest fine) (λ space f.
    keeps_then (body_at space.1) _ (keeps-body_from space.1.stop f [] [] space.1.rows) (λ body f.
    line_then (code_from body.0.1 [] body.0.0) _ (fine-code_from body.0.1 [] body.0.0) (λ code. f)))

keeps-guests_from : (count : ℕ) (seen : List Program) (rest : Rest) → FineStop rest.stop → Keeps (guests_from count seen rest)
unfolding guests_from
keeps-guests_from zero seen rest fine = fine
keeps-guests_from (suc count) seen rest fine = keeps_then (guest_at rest) _ (keeps-guest_at rest fine) (λ g f. keeps-guests_from count
    (seen ++ g.0 ∷ []) g.1 f)

-- ---- a machine text

keeps-front_at : (rest : Rest) → FineStop rest.stop → Keeps (front_at rest)
unfolding front_at
keeps-front_at rest fine =
    keeps_then (header_at rest) _ (keeps-header_at rest fine) (λ header f.
    keeps_then (distances_at header.0.nodes header.1) _ (keeps-distances_at header.0.nodes header.1 f) (λ distances f.
    keeps_then (entries_at header.0.pages distances.1) _ (keeps-entries_at header.0.pages distances.1 f) (λ entries f.
    keeps_then (inits_at header.0.pages header.0.words entries.1) _ (keeps-inits_at header.0.pages header.0.words entries.1 f) (λ inits f.
    keeps_then (guests_from header.0.nodes [] inits.1) _ (keeps-guests_from header.0.nodes [] inits.1 f) (λ guests f. f)))))

keeps-end_line : (short : Bool) (rest : Rest) → FineStop rest.stop → Keeps (end_line short rest)
unfolding end_line
keeps-end_line short rest fine =
    keeps_then (row_at rest) _ (keeps-row_at rest fine) (λ r f.
    line_then (word_at r.0) _ (fine-word_at r.0) (λ w.
    line_then (read_as r.0.line w.0 (exactly (codes "end") w.0.bytes)) _ (fine-read_as r.0.line w.0 (exactly (codes "end") w.0.bytes)
    (fine-exactly (codes "end") w.0.bytes))
    (λ x. keeps_if short _ _ (line_then (nothing w.1) _ (fine-nothing w.1) (λ y. f)) (λ is. cc))))

keeps-machine_at : (rest : Rest) → FineStop rest.stop → Keeps (machine_at rest)
unfolding machine_at
keeps-machine_at rest fine =
    keeps_then (front_at rest) _ (keeps-front_at rest fine)
    (λ front f. keeps_then (end_line (is_short front.0) front.1) _ (keeps-end_line (is_short front.0) front.1 f) (λ next f. f))

-- only a text with more bytes than the most is too long
not_too_long : {A B : Type 0} (bytes : List ℕ) (most : ℕ) (told : Result (A × Rest) Refused) (of : A × Rest → B) → Keeps told
    → length bytes ≤ most
    → (if nat_lt most (length bytes) then Err (refused 0 0 why.TooLong) else (told >>= λ x. over x.1 >>= λ _. Ok (of x)))
    ≡ Err (refused 0 0 why.TooLong) → ⊥
not_too_long {A} {B} bytes most told of keeps short is = by (nat_lt most (length bytes)) not_more is
  where
    not_more : nat_lt most (length bytes) ≡ false
    not_more = grind (arith, nat_tests)

    read : Result B Refused
    read = told >>= λ x. over x.1 >>= λ _. Ok (of x)

    fine : Fine read
    fine = last_then told _ keeps (λ x f. fine_then (over x.1) _ (fine-over x.1 f) (λ y. tt))

    none : (r : Result B Refused) → Fine r → r ≡ Err (refused 0 0 why.TooLong) → ⊥
    none (Ok x) h e = cc
    none (Err r) h e = h (cc)

    by : (more : Bool) → more ≡ false → (if more then Err (refused 0 0 why.TooLong) else read) ≡ Err (refused 0 0 why.TooLong) → ⊥
    by true h e = cc
    by false h e = none read fine e

pub text_at-too_long : (bytes : List ℕ) → length bytes ≤ most_bytes → text_at bytes ≡ Err (refused 0 0 why.TooLong) → ⊥
unfolding text_at
text_at-too_long bytes short is =
    let rows = rows_of 1 bytes in
    not_too_long bytes most_bytes (machine_at rows) (λ m. m.0.0) (keeps-machine_at rows (fine-rows_of 1 bytes)) short is

-- ---- the words of a history text

fine-named : {A : Type 0} (names : List (List ℕ × A)) (w : List ℕ) → FineWord (named names w)
fine-named [] w = λ is. cc
fine-named (name ∷ names) w = word_if (bytes_eq w name.0) _ _ tt (fine-named names w)

fine-part_below : (limit : ℕ) (w : List ℕ) → FineWord (part_below limit w)
fine-part_below limit w = by (number_below limit w)
  where
    by : (r : Result ℕ Why) → FineWord (expected r)
    by (Ok x) = tt
    by (Err why) = λ is. cc

fine-wanted : {A : Type 0} (x : Option A) → FineWord (wanted x)
fine-wanted None = λ is. cc
fine-wanted (Some x) = tt

fine-frame_of : (nodes frames : ℕ) (w : List ℕ) → FineWord (frame_of nodes frames w)
unfolding frame_of
fine-frame_of nodes frames w =
    word_then (wanted (cut point w)) _ (fine-wanted (cut point w)) (λ parts.
    word_then (part_below nodes parts.0) _ (fine-part_below nodes parts.0) (λ mo. word_then (part_below frames parts.1) _
    (fine-part_below frames parts.1) (λ number. tt)))

fine-translation_of : (entries nodes frames : ℕ) (w : List ℕ) → FineWord (translation_of entries nodes frames w)
unfolding translation_of
fine-translation_of entries nodes frames w =
    word_then (wanted (cut point w)) _ (fine-wanted (cut point w)) (λ first.
    word_then (part_below entries first.0) _ (fine-part_below entries first.0) (λ entry.
    word_then (wanted (cut point first.1)) _ (fine-wanted (cut point first.1)) (λ second.
    word_then (part_below nodes second.0) _ (fine-part_below nodes second.0) (λ mo.
    word_then (wanted (cut point second.1)) _ (fine-wanted (cut point second.1)) (λ third.
    word_then (part_below frames third.0) _ (fine-part_below frames third.0) (λ number.
    word_then (named rights third.1) _ (fine-named rights third.1) (λ right. tt)))))))

fine-granted_of : (entries nodes frames : ℕ) (w : List ℕ) → FineWord (granted_of entries nodes frames w)
unfolding granted_of
fine-granted_of entries nodes frames w =
    word_if (bytes_eq w (codes "none")) _ _ tt
    (word_then (translation_of entries nodes frames w) _ (fine-translation_of entries nodes frames w) (λ g. tt))

fine-copies_from : (nodes frames low : ℕ) (seen : List Frame) (parts : List (List ℕ)) → FineWord (copies_from nodes frames low seen parts)
unfolding copies_from
fine-copies_from nodes frames low seen [] = tt
fine-copies_from nodes frames low seen (part ∷ parts) =
    word_then (frame_of nodes frames part) _ (fine-frame_of nodes frames part) (λ f.
    word_then (above low f) _ (word_if (nat_lt f.module low) _ _ (λ is. cc) tt) (λ rising. fine-copies_from nodes frames (f.module + 1)
    (seen ++ f ∷ []) parts))

fine-dir_of : (nodes frames : ℕ) (w : List ℕ) → FineWord (dir_of nodes frames w)
unfolding dir_of
fine-dir_of nodes frames w = by (cut colon w)
  where
    by : (parts : Option (List ℕ × List ℕ)) → FineWord (dir_parts nodes frames w parts)
    by None = word_then (named heads w) _ (fine-named heads w) (λ head. tt)
    by (Some parts) =
        word_then (named heads parts.0) _ (fine-named heads parts.0) (λ head.
        word_then (copies_of nodes frames parts.1) _ (fine-copies_from nodes frames 0 [] (slice_split (λ b. b == comma) parts.1))
        (λ copies. tt))

-- ---- the lines of a history text

fine-access_line : (m : Machine) → FineLine (access_line m)
unfolding access_line
fine-access_line m row =
    fine_then (below m.nodes row) _ (fine-below m.nodes row) (λ actor.
    fine_then (one (named kinds) actor.1) _ (fine-one (named kinds) (fine-named kinds) actor.1) (λ kind.
    fine_then (number 0 7 kind.1) _ (fine-number 0 7 kind.1) (λ space.
    fine_then (any_number space.1) _ (fine-any_number space.1) (λ addr.
    fine_then (below m.pages addr.1) _ (fine-below m.pages addr.1) (λ page.
    fine_then (below m.words page.1) _ (fine-below m.words page.1) (λ word.
    fine_then (any_number word.1) _ (fine-any_number word.1) (λ old.
    fine_then (any_number old.1) _ (fine-any_number old.1) (λ new.
    fine_then (any_number new.1) _ (fine-any_number new.1) (λ version.
    fine_then (below m.nodes version.1) _ (fine-below m.nodes version.1) (λ mo.
    fine_then (below m.frames mo.1) _ (fine-below m.frames mo.1) (λ frame.
    fine_then (any_number frame.1) _ (fine-any_number frame.1) (λ grant. fine_then (nothing grant.1) _ (fine-nothing grant.1)
    (λ e. tt)))))))))))))

fine-change_line : (m : Machine) → FineLine (change_line m)
unfolding change_line
fine-change_line m row =
    fine_then (number 0 m.nodes row) _ (fine-number 0 m.nodes row) (λ actor.
    fine_then (below m.pages actor.1) _ (fine-below m.pages actor.1) (λ page.
    fine_then (any_number page.1) _ (fine-any_number page.1) (λ seq.
    fine_then (any_number seq.1) _ (fine-any_number seq.1) (λ time.
    fine_then (one (named causes) time.1) _ (fine-one (named causes) (fine-named causes) time.1) (λ cause.
    fine_then (one (named actions) cause.1) _ (fine-one (named actions) (fine-named actions) cause.1) (λ action.
    fine_then (one (named removals) action.1) _ (fine-one (named removals) (fine-named removals) action.1) (λ removed.
    fine_then (one (dir_of m.nodes m.frames) removed.1) _ (fine-one (dir_of m.nodes m.frames) (fine-dir_of m.nodes m.frames) removed.1)
    (λ before.
    fine_then (one (dir_of m.nodes m.frames) before.1) _ (fine-one (dir_of m.nodes m.frames) (fine-dir_of m.nodes m.frames) before.1)
    (λ after.
    fine_then (one (granted_of (length m.entries) m.nodes m.frames) after.1) _
    (fine-one (granted_of (length m.entries) m.nodes m.frames) (fine-granted_of (length m.entries) m.nodes m.frames) after.1)
    (λ granted. fine_then (nothing granted.1) _ (fine-nothing granted.1) (λ e. tt)))))))))))

fine-applied_line : (m : Machine) → FineLine (applied_line m)
unfolding applied_line
fine-applied_line m row =
    fine_then (below m.nodes row) _ (fine-below m.nodes row) (λ actor.
    fine_then (below (length m.entries) actor.1) _ (fine-below (length m.entries) actor.1) (λ entry.
    fine_then (one (named messages) entry.1) _ (fine-one (named messages) (fine-named messages) entry.1) (λ message.
    fine_then (one (named moments) message.1) _ (fine-one (named moments) (fine-named moments) message.1) (λ moment.
    fine_then (nothing moment.1) _ (fine-nothing moment.1) (λ e. tt)))))

fine-switched_line : (m : Machine) → FineLine (switched_line m)
unfolding switched_line
fine-switched_line m row =
    fine_then (below m.nodes row) _ (fine-below m.nodes row) (λ actor.
    fine_then (number 0 7 actor.1) _ (fine-number 0 7 actor.1) (λ space. fine_then (nothing space.1) _ (fine-nothing space.1) (λ e. tt)))

fine-item_line : (m : Machine) → FineLine (item_line m)
unfolding item_line
fine-item_line m =
    fine-choice (item_kinds m) why.Expected (fine-access_line m, (fine-change_line m, (fine-applied_line m, (fine-switched_line m, tt))))
    (λ is. cc)

fine-ended_line : (q : ℕ) → FineLine (ended_line q)
unfolding ended_line
fine-ended_line q row =
    fine_then (one (exactly (decimal q)) row) _ (fine-one (exactly (decimal q)) (fine-exactly (decimal q)) row) (λ node.
    fine_then (one (named endings) node.1) _ (fine-one (named endings) (fine-named endings) node.1) (λ end.
    fine_then (number 0 65536 end.1) _ (fine-number 0 65536 end.1) (λ turns. fine_then (nothing turns.1) _ (fine-nothing turns.1)
    (λ e. tt))))

-- ---- a history text

keeps-items_from : (m : Machine) (count : ℕ) (seen : List Item) (rest : Rest) → FineStop rest.stop → Keeps (items_from m count seen rest)
unfolding items_from
keeps-items_from m zero seen rest fine = fine
keeps-items_from m (suc count) seen rest fine =
    keeps_then (row_at rest) _ (keeps-row_at rest fine) (λ r f.
    line_then (item_line m r.0) _ (fine-item_line m r.0) (λ i. keeps-items_from m count (seen ++ i ∷ []) r.1 f))

keeps-ends_from : (count : ℕ) (seen : List Ended) (rest : Rest) → FineStop rest.stop → Keeps (ends_from count seen rest)
unfolding ends_from
keeps-ends_from zero seen rest fine = fine
keeps-ends_from (suc count) seen rest fine =
    keeps_then _ _ (keeps-line_at (codes "processor") (ended_line (length seen)) (fine-ended_line (length seen)) rest fine)
    (λ e f. keeps-ends_from count (seen ++ e.0 ∷ []) e.1 f)

keeps-told_at : (m : Machine) (rest : Rest) → FineStop rest.stop → Keeps (told_at m rest)
unfolding told_at
keeps-told_at m rest fine =
    keeps_then _ _ (keeps-line_at (codes "items") (number_line 0 most_items) (fine-number_line 0 most_items) rest fine) (λ count f.
    keeps_then (items_from m count.0 [] count.1) _ (keeps-items_from m count.0 [] count.1 f) (λ items f.
    keeps_then _ _ (keeps-line_at (codes "ends") nothing fine-nothing items.1 f) (λ heading f.
    keeps_then (ends_from m.nodes [] heading.1) _ (keeps-ends_from m.nodes [] heading.1 f) (λ ends f.
    keeps_then _ _ (keeps-line_at (codes "end") nothing fine-nothing ends.1 f) (λ last f. f)))))

keeps-lines_at : (rest : Rest) → FineStop rest.stop → Keeps (lines_at rest)
unfolding lines_at
keeps-lines_at rest fine =
    keeps_then _ _ (keeps-line_at (codes "history") version_line fine-version_line rest fine) (λ version f.
    keeps_then (machine_at version.1) _ (keeps-machine_at version.1 f) (λ machine f. keeps-told_at machine.0.0 machine.1 f))

pub history_at-too_long : (bytes : List ℕ) → length bytes ≤ most_history_bytes → history_at bytes ≡ Err (refused 0 0 why.TooLong) → ⊥
unfolding history_at
history_at-too_long bytes short is =
    let rows = rows_of 1 bytes in
    not_too_long bytes most_history_bytes (lines_at rows) (λ h. h.0) (keeps-lines_at rows (fine-rows_of 1 bytes)) short is
