-- the session on a page: whose it is, and what it is where one private state is another
use Rattle.std.specs.Prelude.{◌≡◌, ℕ, zero, suc, ◌+◌, if◌then◌else◌, Bool, true, false, List, [], ◌∷◌, find, Option, Some, None, slice_get}
use Rattle.std.specs.Prelude.{slice_set}
use Rattle.std.proofs.Common.{refl, ap, sym, ◌∙◌, arith}
use Rattle.std.specs.List.{filter_map, enumerate_from, cons_option}
use Rattle.plat_events.specs.Privates.{Private}
use Rattle.plat_events.specs.Kept.{Running, running_of, runs_on, session_on}

-- the session of one actor, where it is on the page
abbrev pub found_in : (page : ℕ) → Option Running → Option Running
found_in page None = None
found_in page (Some r) = if runs_on page r then Some r else None

abbrev pub found_or : Option Running → Option Running → Option Running
found_or None other = other
found_or (Some r) other = Some r

-- the session on a page among private states of actors from k on
abbrev pub found_from : (page k : ℕ) → List Private → Option Running
found_from page k privates = find (runs_on page) (filter_map running_of (enumerate_from k privates))

found_from-running :
    (page k : ℕ) (o : Option Running) (ps : List Private) →
    find (runs_on page) (cons_option o (filter_map running_of (enumerate_from k ps))) ≡ found_or (found_in page o) (found_from page k ps)
found_from-running page k None ps = refl
found_from-running page k (Some r) ps = by (runs_on page r)
  where
    by : (b : Bool) → (if b then Some r else found_from page k ps) ≡ found_or (if b then Some r else None) (found_from page k ps)
    by true = refl
    by false = refl

pub found_from-first :
    (page k : ℕ) (p : Private) (ps : List Private) →
    found_from page k (p ∷ ps) ≡ found_or (found_in page (running_of (k, p))) (found_from page (k + 1) ps)
found_from-first page k p ps = found_from-running page (k + 1) (running_of (k, p)) ps

-- ---- one private state is another, and its actor's session on the page is the same

found_from-set :
    (page k a : ℕ) (ps : List Private) (p p' : Private) → slice_get ps a ≡ Some p →
    found_in page (running_of (k + a, p')) ≡ found_in page (running_of (k + a, p)) →
    found_from page k (slice_set ps a p') ≡ found_from page k ps
found_from-set page k a [] p p' here same = refl
found_from-set page k zero (x ∷ ps) p p' here same =
    let first : x ≡ p = cc in let number : k + zero ≡ k = omega arith in
    let there : found_in page (running_of (k, p')) ≡ found_in page (running_of (k, x)) = rw (sym number, first) same in
    found_from-first page k p' ps ∙ (ap (λ o. found_or o (found_from page (k + 1) ps)) there ∙ sym (found_from-first page k x ps))
found_from-set page k (suc a) (x ∷ ps) p p' here same =
    let number : k + 1 + a ≡ k + suc a = omega arith in
    let later : found_from page (k + 1) (slice_set ps a p') ≡ found_from page (k + 1) ps =
    found_from-set page (k + 1) a ps p p' here (rw number same) in
    found_from-first page k x (slice_set ps a p')
    ∙ (ap (λ o. found_or (found_in page (running_of (k, x))) o) later ∙ sym (found_from-first page k x ps))

pub session_on-set :
    (page a : ℕ) (ps : List Private) (p p' : Private) → slice_get ps a ≡ Some p →
    found_in page (running_of (a, p')) ≡ found_in page (running_of (a, p)) → session_on (slice_set ps a p') page ≡ session_on ps page
session_on-set page a ps p p' here same =
    let number : 0 + a ≡ a = omega arith in found_from-set page 0 a ps p p' here (rw number same)
