-- the test of a canonical text's length, by a sink that holds one byte more than the text may have
use Rattle.std.proofs.Common.{◌≡◌, ℕ, ◌+◌, false, leb, List, [], ◌++◌, length, Some, Ok, Err, sym, ap, ◌∙◌, arith, ⊎_elim}
use Rattle.std.proofs.lemmas.Bool.{cases_Bool, leb-true}
use Rattle.plat_base.specs.Canon.{canon_text, is_short, most_bytes}
use Rattle.plat_io.specs.Streams.{added}
use Rattle.plat_io.specs.Memory.{QuietState}
use Rattle.plat_io.specs.Lines.{text, AddsLines}
use Rattle.plat_io.specs.contracts.quiet.QuietSinkSink.TheImpl as quiet
use Rattle.plat_io.specs.declared.faults.WriteFault.{WriteFault}
use Rattle.plat_io.proofs.SinkLemmas.{quiet_has_room}
use Rattle.plat_machine.specs.Printed.{front_lines}
use Rattle.plat_machine.specs.Shown.{front}
use Rattle.plat_machine.specs.declared.whole.Front.{Front}
use Rattle.plat_machine.proofs.PrintParts.{front_lines-canon}

module _ (f : Front) (old new : QuietState) (empty : old.bytes ≡ []) (room : old.size ≡ most_bytes + 1) where
  -- what was written whole is the text
  pub whole-short : AddsLines {E = WriteFault} quiet.ghosts old new (Ok (tt {0})) (front_lines f) →
      leb (length new.bytes) most_bytes ≡ is_short (front f)
  unfolding is_short added
  whole-short h =
      let held : Some new.bytes ≡ Some (old.bytes ++ text (front_lines f)) = h.whole in
      let written : new.bytes ≡ old.bytes ++ text (front_lines f) = cc in
      let text_is : new.bytes ≡ canon_text (front f) =
      written ∙ ap (λ (bytes : List ℕ). bytes ++ text (front_lines f)) empty ∙ front_lines-canon f in
      ap (λ (bytes : List ℕ). leb (length bytes) most_bytes) text_is

  -- a text that there was no room for is longer
  pub part-short : (fault : WriteFault) → AddsLines quiet.ghosts old new (Err fault) (front_lines f) → false ≡ is_short (front f)
  unfolding is_short
  part-short fault h =
      let same : new.size ≡ old.size = cc in
      ⊎_elim
      (λ t. absurd (quiet_has_room old new (text (front_lines f)) h.part h.risen same
      (omega (arith, leb-true (length (canon_text (front f))) most_bytes t, ap length (front_lines-canon f), ap length empty, room))))
      (λ t. sym t)
      (cases_Bool (leb (length (canon_text (front f))) most_bytes))
