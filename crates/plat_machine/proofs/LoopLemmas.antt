-- one step of the loops over a guest's lines, over its instructions, and over the guests
use Rattle.std.proofs.Common.{◌≡◌, ℕ, suc, ◌+◌, ◌-◌, ◌<◌, ◌≤◌, true, false, cond, List, [], ◌∷◌, ◌++◌, length, drop}
use Rattle.std.proofs.Common.{get_or, Result, Ok, Err, refl, ap, ◌∙◌, arith}
use Rattle.std.proofs.lemmas.List.{at_drop_more, at_drop_all}
use Rattle.plat_grammar.specs.Lines.{Word}
use Rattle.plat_grammar.specs.Forms.{◌>>=◌, Row, Rest, row_at, word_ahead, Fails}
use Rattle.plat_grammar.specs.FirstFault.{body_from, body_line, ends_guest, guest_at, guests_from}
use Rattle.plat_grammar.specs.Drafts.{Draft, linked, code_from}
use Rattle.plat_base.specs.Machine.{Program}
use Rattle.plat_base.specs.declared.faults.Refused.{Refused}
use Rattle.plat_base.specs.declared.faults.TextFault.{TextFault}
use Rattle.plat_base.specs.declared.faults.TextFault.TheVariants as fault
use Rattle.plat_base.specs.declared.guests.Label.{Label}
use Rattle.plat_base.specs.declared.guests.Instr.{Instr}
use Rattle.plat_text.proofs.FormLemmas.{row_taken}
use Rattle.plat_machine.specs.Shown.{draft, drafts}
use Rattle.plat_machine.specs.declared.instructions.Draft.{Draft as Read}
use Rattle.plat_base.proofs.LimitLemmas.{programs_seen-push}

-- ---- lines of a guest

module _ (drafts : List Draft) (labels : List Label) where
  -- what a line adds, and what follows
  abbrev pub body_after : Row × Rest → Result ((List Draft × List Label) × Rest) Refused
  body_after r = body_line drafts labels r.0 >>= λ b. body_from r.1.stop b.0 b.1 r.1.rows

  body-step : (rest : Rest) → body_from rest.stop drafts labels rest.rows
      ≡ (word_ahead rest >>= λ w. cond (ends_guest w.bytes) (Ok ((drafts, labels), rest)) (row_at rest >>= body_after))
  unfolding body_from
  body-step rest = by_rows rest.rows where
    by_rows : (rows : List Row) → body_from rest.stop drafts labels rows
        ≡ (word_ahead (record rest { rows = rows }) >>= λ w. cond (ends_guest w.bytes) (Ok ((drafts, labels), record rest { rows = rows }))
        (row_at (record rest { rows = rows }) >>= body_after))
    by_rows [] = refl
    by_rows (row ∷ rows) = by_words row.words where
      by_words : (ws : List Word) → body_from rest.stop drafts labels (record row { words = ws } ∷ rows)
          ≡ (word_ahead (record rest { rows = record row { words = ws } ∷ rows }) >>= λ w.
          cond (ends_guest w.bytes) (Ok ((drafts, labels), record rest { rows = record row { words = ws } ∷ rows }))
          (row_at (record rest { rows = record row { words = ws } ∷ rows }) >>= body_after))
      by_words [] = refl
      by_words (w ∷ ws) = refl

  pub body-none : (rest : Rest) (fault : Refused) → word_ahead rest ≡ Err fault → body_from rest.stop drafts labels rest.rows
      ≡ Err fault
  body-none rest fault e = body-step rest ∙ (rw e refl)

  pub body-end : (rest : Rest) (w : Word) → word_ahead rest ≡ Ok w → ends_guest w.bytes ≡ true →
      body_from rest.stop drafts labels rest.rows ≡ Ok ((drafts, labels), rest)
  body-end rest w e t = body-step rest ∙ (rw (e, t) refl)

  pub body-more : (rest : Rest) (w : Word) (row : Row) (after : Rest) (b : List Draft × List Label) → word_ahead rest ≡ Ok w →
      ends_guest w.bytes ≡ false → row_at rest ≡ Ok (row, after) → body_line drafts labels row ≡ Ok b
      → body_from rest.stop drafts labels rest.rows ≡ body_from after.stop b.0 b.1 after.rows
  body-more rest w row after b e t r l = body-step rest ∙ (rw (e, t, r, l) refl)

  pub body-wrong : (rest : Rest) (w : Word) (row : Row) (after : Rest) (fault : Refused) → word_ahead rest ≡ Ok w →
      ends_guest w.bytes ≡ false → row_at rest ≡ Ok (row, after) → body_line drafts labels row ≡ Err fault
      → body_from rest.stop drafts labels rest.rows ≡ Err fault
  body-wrong rest w row after fault e t r l = body-step rest ∙ (rw (e, t, r, l) refl)

  -- the same of a line's fault, where want of memory claims nothing
  pub body-fails : (rest : Rest) (w : Word) (row : Row) (after : Rest) (e : TextFault) → word_ahead rest ≡ Ok w →
      ends_guest w.bytes ≡ false → row_at rest ≡ Ok (row, after) → Fails e (body_line drafts labels row)
      → Fails e (body_from rest.stop drafts labels rest.rows)
  body-fails rest w row after (fault.Refused r) e t f h = body-wrong rest w row after r e t f h
  body-fails rest w row after fault.OutOfMemory e t f h = tt

  pub body-no_row : (rest : Rest) (w : Word) (fault : Refused) → word_ahead rest ≡ Ok w → ends_guest w.bytes ≡ false →
      row_at rest ≡ Err fault
      → body_from rest.stop drafts labels rest.rows ≡ Err fault
  body-no_row rest w fault e t r = body-step rest ∙ (rw (e, t, r) refl)

pub fewer_rows : (rest : Rest) (row : Row) (after : Rest) → row_at rest ≡ Ok (row, after) → length after.rows < length rest.rows
fewer_rows rest row after e = omega (arith, ap length (row_taken rest row after e).rows)

pub ruleset body_steps = (body-none, body-end, body-more, body-wrong, body-no_row, fewer_rows)

-- ---- instructions of a guest

module _ (labels : List Label) (seen : List Instr) (ds : List Read) (k : ℕ) where
  pub code-more : (d : Read) (i : Instr) → k < length ds → linked labels (draft (get_or ds k d)) ≡ Ok i
      → code_from labels seen (drafts (drop k ds)) ≡ code_from labels (seen ++ i ∷ []) (drafts (drop (k + 1) ds))
  unfolding code_from
  code-more d i inside e = at_drop_more (λ xs. code_from labels seen (drafts xs)) ds k d inside ∙ (rw e refl)

  pub code-wrong : (d : Read) (fault : Refused) → k < length ds → linked labels (draft (get_or ds k d)) ≡ Err fault →
      code_from labels seen (drafts (drop k ds)) ≡ Err fault
  unfolding code_from
  code-wrong d fault inside e = at_drop_more (λ xs. code_from labels seen (drafts xs)) ds k d inside ∙ (rw e refl)

  pub code-end : length ds ≤ k → code_from labels seen (drafts (drop k ds)) ≡ Ok seen
  unfolding code_from
  code-end past = at_drop_all (λ xs. code_from labels seen (drafts xs)) ds k past

pub ruleset code_steps = (code-more, code-wrong, code-end)

-- ---- guests

module _ (n i : ℕ) (seen : List Program) (rest : Rest) (inside : i < n) where
  counted : n - i ≡ suc (n - (i + 1))
  counted = omega arith

  pub guests-more : (g : Program) (after : Rest) → guest_at rest ≡ Ok (g, after) →
      guests_from (n - i) seen rest ≡ guests_from (n - (i + 1)) (seen ++ g ∷ []) after
  unfolding guests_from
  guests-more g after e = rw (counted, e) refl

  pub guests-wrong : (fault : Refused) → guest_at rest ≡ Err fault → guests_from (n - i) seen rest ≡ Err fault
  unfolding guests_from
  guests-wrong fault e = rw (counted, e) refl

pub guests-end : (n i : ℕ) (seen : List Program) (rest : Rest) → n ≤ i → guests_from (n - i) seen rest ≡ Ok (seen, rest)
unfolding guests_from
guests-end n i seen rest past = let none : n - i ≡ 0 = omega arith in rw none refl

pub ruleset guest_steps = (guests-more, guests-wrong, guests-end, programs_seen-push)
