-- the session on a page on which no other actor has one
use Rattle.std.specs.Prelude.{◌≡◌, ◌≢◌, ℕ, zero, suc, ◌+◌, ◌<◌, if◌then◌else◌, List, [], ◌∷◌, Option, Some, None, slice_get, slice_set}
use Rattle.std.proofs.Common.{refl, ap, sym, ◌∙◌, arith}
use Rattle.std.specs.Option.{option_map}
use Rattle.std.proofs.lemmas.Bool.{eq-eqb, ne_eqb}
use Rattle.plat_events.specs.Sessions.{Session}
use Rattle.plat_events.specs.Privates.{Private}
use Rattle.plat_events.specs.Kept.{Running, running_of, session_on, session_of}
use Rattle.plat_fine_laws.proofs.SessionOnLaws.{found_in, found_or, found_from, found_from-first}

found_or-none : (o : Option Running) → found_or o None ≡ o
found_or-none None = refl
found_or-none (Some r) = refl

-- no actor of the list but one has its session on the page
abbrev pub NoneBut : (page k a : ℕ) → List Private → Type 0
NoneBut page k a ps = (b : ℕ) (p : Private) → slice_get ps b ≡ Some p → k + b ≢ a → found_in page (running_of (k + b, p)) ≡ None

none-first : (page k a : ℕ) (x : Private) (ps : List Private) → NoneBut page k a (x ∷ ps) → k ≢ a → found_in page (running_of (k, x)) ≡ None
none-first page k a x ps none apart =
    let number : k + zero ≡ k = omega arith in
    ap (λ n. found_in page (running_of (n, x))) (sym number) ∙ none zero x refl (λ e. apart (sym number ∙ e))

none-rest : (page k a : ℕ) (x : Private) (ps : List Private) → NoneBut page k a (x ∷ ps) → NoneBut page (k + 1) a ps
none-rest page k a x ps none b p here apart =
    let number : k + 1 + b ≡ k + suc b = omega arith in
    ap (λ n. found_in page (running_of (n, p))) number ∙ none (suc b) p here (λ e. apart (number ∙ e))

found_from-none : (page k a : ℕ) (ps : List Private) → NoneBut page k a ps → a < k → found_from page k ps ≡ None
found_from-none page k a [] none behind = refl
found_from-none page k a (x ∷ ps) none behind =
    found_from-first page k x ps
    ∙ (ap (λ o. found_or o (found_from page (k + 1) ps)) (none-first page k a x ps none (λ e. absurd (omega arith)))
    ∙ found_from-none page (k + 1) a ps (none-rest page k a x ps none) (omega arith))

found_from-sole :
    (page k i : ℕ) (ps : List Private) (p p' : Private) → slice_get ps i ≡ Some p → NoneBut page k (k + i) ps →
    found_from page k (slice_set ps i p') ≡ found_in page (running_of (k + i, p'))
found_from-sole page k i [] p p' here none = absurd cc
found_from-sole page k zero (x ∷ ps) p p' here none =
    let number : k + zero ≡ k = omega arith in
    found_from-first page k p' ps
    ∙ (ap (found_or (found_in page (running_of (k, p'))))
    (found_from-none page (k + 1) (k + zero) ps (none-rest page k (k + zero) x ps none) (omega arith))
    ∙ (found_or-none (found_in page (running_of (k, p'))) ∙ ap (λ n. found_in page (running_of (n, p'))) (sym number)))
found_from-sole page k (suc i) (x ∷ ps) p p' here none =
    let number : k + suc i ≡ k + 1 + i = omega arith in
    let rest : NoneBut page (k + 1) (k + 1 + i) ps =
    λ b q there apart. none-rest page k (k + suc i) x ps none b q there (λ e. apart (e ∙ number)) in
    found_from-first page k x (slice_set ps i p')
    ∙ (ap (λ o. found_or o (found_from page (k + 1) (slice_set ps i p')))
    (none-first page k (k + suc i) x ps none (λ e. absurd (omega arith)))
    ∙ (found_from-sole page (k + 1) i ps p p' here rest ∙ ap (λ n. found_in page (running_of (n, p'))) (sym number)))

pub session_on-sole :
    (page a : ℕ) (ps : List Private) (p p' : Private) → slice_get ps a ≡ Some p → NoneBut page 0 a ps →
    session_on (slice_set ps a p') page ≡ found_in page (running_of (a, p'))
session_on-sole page a ps p p' here none =
    let number : 0 + a ≡ a = omega arith in
    found_from-sole page 0 a ps p p' here (λ b q there apart. none b q there (λ e. apart (e ∙ sym number)))
    ∙ ap (λ n. found_in page (running_of (n, p'))) number

-- a private state whose session, if any, is on this page
pub found_in-on :
    (page a : ℕ) (p : Private) → ((x : Session) → session_of p.place ≡ Some x → x.fault.page ≡ page) →
    found_in page (running_of (a, p)) ≡ running_of (a, p)
found_in-on page a p on = by (session_of p.place) refl
  where
    running : Session → Running
    running x = record { actor = a; now = p.now; session = x }

    by : (o : Option Session) → session_of p.place ≡ o → found_in page (option_map running o) ≡ option_map running o
    by None is = refl
    by (Some x) is = ap (λ b. if b then Some (running x) else None) (eq-eqb x.fault.page page (on x is))

-- or on another one
pub found_in-off :
    (page a : ℕ) (p : Private) → ((x : Session) → session_of p.place ≡ Some x → x.fault.page ≢ page) →
    found_in page (running_of (a, p)) ≡ None
found_in-off page a p off = by (session_of p.place) refl
  where
    running : Session → Running
    running x = record { actor = a; now = p.now; session = x }

    by : (o : Option Session) → session_of p.place ≡ o → found_in page (option_map running o) ≡ None
    by None is = refl
    by (Some x) is = ap (λ b. if b then Some (running x) else None) (ne_eqb x.fault.page page (off x is))
