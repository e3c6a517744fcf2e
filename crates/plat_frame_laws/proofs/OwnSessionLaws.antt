-- the sessions on the pages where one actor's session goes on to another phase
use Rattle.std.specs.Prelude.{◌≡◌, ◌≢◌, ℕ, zero, suc, ◌+◌, if◌then◌else◌, Bool, true, false, List, [], ◌∷◌, Option, Some, None, slice_get}
use Rattle.std.specs.Prelude.{slice_set}
use Rattle.std.proofs.Common.{refl, ap, sym, ◌∙◌, arith}
use Rattle.std.proofs.lemmas.Bool.{ne_eqb}
use Rattle.std.specs.Option.{option_map}
use Rattle.plat_events.specs.Sessions.{Session}
use Rattle.plat_events.specs.Privates.{Private}
use Rattle.plat_events.specs.Kept.{Running, running_of, runs_on, session_on, session_of}
use Rattle.plat_fine_laws.proofs.SessionOnLaws.{found_in, found_or, found_from, found_from-first, session_on-set}

-- the session of an actor has the actor's number
running_of-actor : (k : ℕ) (p : Private) (r : Running) → running_of (k, p) ≡ Some r → r.actor ≡ k
running_of-actor k p r h = by (session_of p.place) h
  where
    by : (o : Option Session) → option_map (λ (x : Session). record { actor = k; now = p.now; session = x }) o ≡ Some r → r.actor ≡ k
    by None h = absurd cc
    by (Some x) h =
        let same : ◌≡◌ {A = Running} (record { actor = k; now = p.now; session = x }) r = cc in sym (ap (λ (y : Running). y.actor) same)

found_in-some : (page : ℕ) (r : Running) → runs_on page r ≡ true → found_in page (Some r) ≡ Some r
found_in-some page r on = ap (λ b. if b then Some r else None) on

-- the first found is of a higher actor, so none is found first
found_later :
    (page : ℕ) (o : Option Running) (rest : Option Running) (r : Running) → ((y : Running) → o ≡ Some y → y.actor ≢ r.actor) →
    found_or (found_in page o) rest ≡ Some r → (found_in page o ≡ None) × (rest ≡ Some r)
found_later page None rest r apart h = (refl, h)
found_later page (Some y) rest r apart h = by (runs_on page y) h
  where
    by :
        (b : Bool) → found_or (if b then Some y else None) rest ≡ Some r →
        ((if b then Some y else None) ≡ None) × (rest ≡ Some r)
    by true h = let same : y ≡ r = cc in absurd (apart y refl (ap (λ (z : Running). z.actor) same))
    by false h = (refl, h)

found_from-own :
    (page k a : ℕ) (ps : List Private) (p p' : Private) (r r' : Running) → slice_get ps a ≡ Some p → r.actor ≡ k + a →
    found_from page k ps ≡ Some r → running_of (k + a, p') ≡ Some r' → runs_on page r' ≡ true →
    found_from page k (slice_set ps a p') ≡ Some r'
found_from-own page k a [] p p' r r' here actor found runs on = absurd cc
found_from-own page k zero (x ∷ ps) p p' r r' here actor found runs on =
    let number : k + zero ≡ k = omega arith in
    let is : running_of (k, p') ≡ Some r' = rw (number) at runs in
    found_from-first page k p' ps
    ∙ (ap (λ o. found_or (found_in page o) (found_from page (k + 1) ps)) is
    ∙ ap (λ o. found_or o (found_from page (k + 1) ps)) (found_in-some page r' on))
found_from-own page k (suc a) (x ∷ ps) p p' r r' here actor found runs on =
    let number : k + suc a ≡ k + 1 + a = omega arith in
    let parts =
    found_later page (running_of (k, x)) (found_from page (k + 1) ps) r
    (λ y is same. let low : y.actor ≡ k = running_of-actor k x y is in absurd (omega arith))
    (sym (found_from-first page k x ps) ∙ found) in
    let more = found_from-own page (k + 1) a ps p p' r r' here (actor ∙ number) parts.1 (ap (λ n. running_of (n, p')) (sym number)
    ∙ runs) on in
    found_from-first page k x (slice_set ps a p')
    ∙ (ap (λ o. found_or o (found_from page (k + 1) (slice_set ps a p'))) parts.0 ∙ more)

pub session_on-own :
    (page a : ℕ) (ps : List Private) (p p' : Private) (r r' : Running) → slice_get ps a ≡ Some p → r.actor ≡ a →
    session_on ps page ≡ Some r → running_of (a, p') ≡ Some r' → runs_on page r' ≡ true →
    session_on (slice_set ps a p') page ≡ Some r'
session_on-own page a ps p p' r r' here actor on runs is =
    let number : 0 + a ≡ a = omega arith in
    found_from-own page 0 a ps p p' r r' here (actor ∙ sym number) on (ap (λ n. running_of (n, p')) number ∙ runs) is

-- a page that the actor's session is not on, before or after
pub session_on-other :
    (page a : ℕ) (ps : List Private) (p p' : Private) (r r' : Running) → slice_get ps a ≡ Some p →
    running_of (a, p) ≡ Some r → running_of (a, p') ≡ Some r' → r.session.fault.page ≢ page → r'.session.fault.page ≢ page →
    session_on (slice_set ps a p') page ≡ session_on ps page
session_on-other page a ps p p' r r' here before after apart apart' =
    session_on-set page a ps p p' here
    ((ap (found_in page) after ∙ ap (λ b. if b then Some r' else None) (ne_eqb r'.session.fault.page page apart'))
    ∙ sym (ap (found_in page) before ∙ ap (λ b. if b then Some r else None) (ne_eqb r.session.fault.page page apart)))
