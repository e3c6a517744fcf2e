-- a source or a sink over a reader or a writer of std's, as its contracts see it
use Rattle.std.specs.Prelude.{ℕ, refl}
use Rattle.std.specs.Coded.{Coded, code_by, coded×, coded_ℕ}

-- the reader or writer, and the count of faults
pub record Over (T : Type 0) : Type 0 where
  pub inner : T
  pub faults : ℕ

-- it is stored as the pair of its fields
abbrev pub over_code : {T : Type 0} → Coded T → Coded (Over T)
over_code {T} code =
    code_by (T × ℕ) (coded× code coded_ℕ) (λ o. (o.inner, o.faults)) (λ p. record { inner = p.0; faults = p.1 }) (λ _. refl)
