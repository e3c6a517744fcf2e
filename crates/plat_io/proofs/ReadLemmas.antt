-- bytes that are read one piece after another
use Rattle.std.proofs.Common.{◌≡◌, ◌≢◌, ℕ, ◌≤◌, ◌+◌, List, [], ◌++◌, length, take, drop, Option, Some, None, IfSome, IsErrOf, IsErrAnd}
use Rattle.std.proofs.Common.{Result, Ok, Err, refl, sym, ap, ◌∙◌, arith, append_assoc, length-append, length-take, length-drop}
use Rattle.std.proofs.lemmas.List.{drop_at, append-nil, take-append-le}
use Rattle.plat_io.specs.Streams.{preceded, IsAtEnd}
use Rattle.plat_io.specs.Takes.{TakesCount, TakesWithin}
use Rattle.plat_io.specs.declared.faults.ReadStop.{ReadStop}
use Rattle.plat_io.specs.declared.faults.ReadStop.TheVariants as stop

pub preceded_append : (p q : List ℕ) (rest : Option (List ℕ)) → preceded (p ++ q) rest ≡ preceded p (preceded q rest)
unfolding preceded
preceded_append p q None = refl
preceded_append p q (Some xs) = ap (λ (ys : List ℕ). Some ys) (append_assoc p q xs)

pub preceded_none : (rest : Option (List ℕ)) → preceded [] rest ≡ rest
unfolding preceded
preceded_none None = refl
preceded_none (Some xs) = refl

-- ---- what is left, one call of a source on

pub same_left : (items : List ℕ) (old mid new : Option (List ℕ)) → old ≡ preceded items mid → new ≡ mid → old ≡ preceded items new
same_left items old mid new e h = rw h e

pub nothing_read : (items buf : List ℕ) (n : ℕ) (old mid new : Option (List ℕ)) → old ≡ preceded items mid →
    mid ≡ preceded (take n buf) new → n ≡ 0 → old ≡ preceded items new
nothing_read items buf n old mid new e h z = e ∙ ap (preceded items) (h ∙ (ap (λ (m : ℕ). preceded (take m buf) new) z ∙ preceded_none new))

pub more_read : (items piece : List ℕ) (old mid new : Option (List ℕ)) → old ≡ preceded items mid → mid ≡ preceded piece new →
    old ≡ preceded (items ++ piece) new
more_read items piece old mid new e h = e ∙ (ap (preceded items) h ∙ sym (preceded_append items piece new))

-- ---- how much is taken

takes : (n : ℕ) (bytes : List ℕ) (rest : Option (List ℕ)) → length bytes ≡ n → TakesCount n (preceded bytes rest) rest
unfolding preceded
takes n bytes None e = tt
takes n bytes (Some xs) e = (omega (arith, length-append bytes xs, e), sym (drop_at bytes xs n e))

TakesCount-preceded : (bytes : List ℕ) (old new : Option (List ℕ)) → old ≡ preceded bytes new → TakesCount (length bytes) old new
TakesCount-preceded bytes old new e = rw e (takes (length bytes) bytes new refl)

-- a reading that stops in time, and one that takes one byte too many
pub TakesWithin-stopped : {T : Type 0} (limit : ℕ) (bytes : List ℕ) (old new : Option (List ℕ)) (result : Result T ReadStop) →
    old ≡ preceded bytes new → length bytes ≤ limit → (IsErrOf result stop.TooLong → ⊥) → TakesWithin limit old new result
TakesWithin-stopped limit bytes old new result e short other =
    (length bytes, TakesCount-preceded bytes old new e, omega arith, (λ h. absurd (other h), λ h. absurd (omega arith)))

pub TakesWithin-too_long : {T : Type 0} (limit : ℕ) (bytes : List ℕ) (old new : Option (List ℕ)) (result : Result T ReadStop) →
    old ≡ preceded bytes new → length bytes ≡ limit + 1 → IsErrOf result stop.TooLong → TakesWithin limit old new result
TakesWithin-too_long limit bytes old new result e long is =
    (length bytes, TakesCount-preceded bytes old new e, omega arith, (λ _. long, λ _. is))

pub not_too_long : {T : Type 0} (result : Result T ReadStop) (fault : ReadStop) → fault ≢ stop.TooLong → IsErrAnd result (λ e. e ≡ fault) →
    IsErrOf result stop.TooLong → ⊥
not_too_long (Ok x) fault d h k = absurd cc
not_too_long (Err e) fault d h k = d (cc)

pub read_fault_other : stop.ReadFault ≢ stop.TooLong
read_fault_other h = absurd cc

pub out_of_memory_other : stop.OutOfMemory ≢ stop.TooLong
out_of_memory_other h = absurd cc

pub ok_other : {T : Type 0} (x : T) → IsErrOf (Ok x) stop.TooLong → ⊥
ok_other x h = absurd cc

-- ---- what the list has

pub length_read : (items buf : List ℕ) (n : ℕ) → n ≤ length buf → length (items ++ take n buf) ≡ length items + n
length_read items buf n h = grind (arith, length-append, length-take)

-- a part of a chunk that was lent, and the chunk afterwards
pub length-lent : (chunk lent : List ℕ) (room : ℕ) → length lent ≡ length (take room chunk) → length lent ≤ room
length-lent chunk lent room h = omega (arith, length-take room chunk)

pub length-rejoined : (chunk lent : List ℕ) (room : ℕ) → length lent ≡ length (take room chunk) →
    length (lent ++ drop room chunk) ≡ length chunk
length-rejoined chunk lent room h = omega (arith, length-take room chunk, length-drop room chunk, length-append lent (drop room chunk))

pub pushed : (items reserved now buf rest : List ℕ) (n : ℕ) → n ≤ length buf → reserved ≡ items → now ≡ reserved ++ take n (buf ++ rest) →
    now ≡ items ++ take n buf
pushed items reserved now buf rest n h e k = k
    ∙ (ap (λ (xs : List ℕ). reserved ++ xs) (take-append-le n buf rest h) ∙ ap (λ (xs : List ℕ). xs ++ take n buf) e)

-- ---- all that is left

-- at the end, what was read is all
whole : (bytes : List ℕ) (rest : Option (List ℕ)) → IsAtEnd rest → IfSome (preceded bytes rest) (λ left. bytes ≡ left)
unfolding preceded
whole bytes None h = tt
whole bytes (Some xs) h = rw h (sym (append-nil bytes))

pub whole_read : (bytes : List ℕ) (old new : Option (List ℕ)) → old ≡ preceded bytes new → IsAtEnd new → IfSome old (λ left. bytes ≡ left)
whole_read bytes old new e h = rw e (whole bytes new h)

pub ruleset pieces_read = (preceded_append, preceded_none)
