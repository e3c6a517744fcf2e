-- a text that is too long is refused so
use Rattle.plat_grammar.specs.HistoryCanon.{most_history_bytes}
use Rattle.plat_grammar.specs.HistoryFaults.{history_at}
use Rattle.std.proofs.Common.{◌≡◌, ◌≢◌, ℕ, ◌+◌, ◌<◌, ◌≤◌, ap, ◌∙◌, List, length, true, refl, subst, arith}
use Rattle.std.specs.Prelude.{Option, None, Some, IfSome, Result, Ok, Err, IsErrOf, nat_lt}
use Rattle.std.proofs.lemmas.Bool.Decides.{nat_tests}
use Rattle.plat_base.specs.Canon.{most_bytes}
use Rattle.plat_grammar.specs.Forms.{Fails}
use Rattle.plat_grammar.specs.FirstFault.{text_at}
use Rattle.plat_base.specs.declared.faults.Refused.{Refused}
use Rattle.plat_base.specs.declared.faults.TextFault.{TextFault}
use Rattle.plat_base.specs.declared.faults.TextFault.TheVariants as fault
use Rattle.plat_io.specs.Takes.{TakesWithin}
use Rattle.plat_io.specs.declared.faults.ReadStop.{ReadStop}
use Rattle.plat_io.specs.declared.faults.ReadStop.TheVariants as stop
use Rattle.plat_cmd.specs.Inputs as limit
use Rattle.plat_cmd.specs.Inputs.{Input, TakesText, limit_of}
use Rattle.plat_cmd.specs.declared.outcomes.Stop.{Stop}
use Rattle.plat_cmd.specs.declared.outcomes.Stop.TheVariants as reason
use Rattle.plat_cmd.proofs.TextFaultLemmas.{text_at-too_long, history_at-too_long}

-- bytes of which the most and one more were taken, where bytes above the most are refused so
long_text : {T A : Type 0} (most : ℕ) (read : List ℕ → Result A Refused)
    → ((bytes : List ℕ) → most < length bytes → read bytes ≡ Err limit.too_long)
    → (told left : Option (List ℕ)) (result : Result T ReadStop) → TakesWithin most told left result → IsErrOf result stop.TooLong
    → IfSome told (λ bytes. read bytes ≡ Err limit.too_long)
long_text most read long_is None left result taken long = tt
long_text most read long_is (Some bytes) None result taken long = absurd taken.1
long_text most read long_is (Some bytes) (Some rest) result taken long =
    let all : taken.0 ≡ most + 1 = taken.3.0 long in
    long_is bytes (omega (arith, all, taken.1.0))

refused_long : (bytes : List ℕ) → most_bytes < length bytes → text_at bytes ≡ Err limit.too_long
unfolding text_at
refused_long bytes long = let is : nat_lt most_bytes (length bytes) ≡ true = grind (arith, nat_tests) in rw is refl

pub too_long : {T : Type 0} (told left : Option (List ℕ)) (result : Result T ReadStop) → TakesWithin most_bytes told left result
    → IsErrOf result stop.TooLong → IfSome told (λ bytes. text_at bytes ≡ Err limit.too_long)
too_long = long_text most_bytes text_at refused_long

refused_long_history : (bytes : List ℕ) → most_history_bytes < length bytes → history_at bytes ≡ Err limit.too_long
unfolding history_at
refused_long_history bytes long = let is : nat_lt most_history_bytes (length bytes) ≡ true = grind (arith, nat_tests) in rw is refl

pub too_long_history : {T : Type 0} (told left : Option (List ℕ)) (result : Result T ReadStop)
    → TakesWithin most_history_bytes told left result
    → IsErrOf result stop.TooLong → IfSome told (λ bytes. history_at bytes ≡ Err limit.too_long)
too_long_history = long_text most_history_bytes history_at refused_long_history

-- ---- how much a reading of a text takes

-- the bytes were read whole, and the text is refused for another reason
pub read_short :
    {A B : Type 0} (i : Input) (told left : Option (List ℕ)) (bytes : Result A ReadStop) (x : A) (text : Result B Stop) (r : Refused)
    → bytes ≡ Ok x
    → text ≡ Err (reason.Refused r) → r ≢ limit.too_long → TakesWithin (limit_of i) told left bytes
    → TakesText i told left (IsErrOf text (reason.Refused limit.too_long))
read_short i told left bytes x text r is refused_so other taken = (
  taken.0,
  taken.1,
  taken.2,
  (
    λ long. absurd (other (same_refusal text refused_so long)),
    λ all. absurd (ok_or_long bytes is
        (taken.3.1 all)),
  ),
)
  where
    same_refusal : {B : Type 0} {r e : Refused} (text : Result B Stop) → text ≡ Err (reason.Refused r) → text ≡ Err (reason.Refused e)
        → r ≡ e
    same_refusal text so too = cc

    ok_or_long : {A : Type 0} {x : A} (bytes : Result A ReadStop) → bytes ≡ Ok x → bytes ≡ Err stop.TooLong → ⊥
    ok_or_long bytes so too = cc

-- a text that was read whole is refused for another reason
other_refusal : {A : Type 0} (text : Result A Refused) (f : TextFault) (r : Refused) → (text ≡ Err limit.too_long → ⊥) → f ≡ fault.Refused r
    → Fails f text → r ≢ limit.too_long
other_refusal text f r short so fails same =
    short (subst (λ (x : TextFault). Fails x text) (so ∙ ap (λ (x : Refused). fault.Refused x) same) fails)

pub not_too_long :
    (bytes : List ℕ) (f : TextFault) (r : Refused) → length bytes ≤ most_bytes → f ≡ fault.Refused r → Fails f (text_at bytes)
    → r ≢ limit.too_long
not_too_long bytes f r short = other_refusal (text_at bytes) f r (text_at-too_long bytes short)

pub no_long_history :
    (bytes : List ℕ) (f : TextFault) (r : Refused) → length bytes ≤ most_history_bytes → f ≡ fault.Refused r → Fails f (history_at bytes)
    → r ≢ limit.too_long
no_long_history bytes f r short = other_refusal (history_at bytes) f r (history_at-too_long bytes short)
