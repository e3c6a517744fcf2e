-- chains of steps that may fail
use Rattle.std.proofs.Common.{◌≡◌, Bool, true, false, cond, Result, Ok, Err, refl, ap, ◌∙◌, ◌⊎◌, inl, inr}
use Rattle.plat_grammar.specs.Forms.{◌>>=◌}

module _ {A B E : Type 0} where
  pub bind_ok : (r : Result A E) (f : A → Result B E) (y : B) → (r >>= f) ≡ Ok y → (x : A) × (r ≡ Ok x) × (f x ≡ Ok y)
  bind_ok (Ok x) f y e = (x, refl, e)
  bind_ok (Err fault) f y e = cc

  -- the same, for a proof that goes on with the parts
  pub taking : {P : Type 0} (r : Result A E) (f : A → Result B E) (y : B) → (r >>= f) ≡ Ok y → ((x : A) → r ≡ Ok x → f x ≡ Ok y → P) → P
  taking r f y e go = let t = bind_ok r f y e in go t.0 t.1 t.2

  -- the other way
  pub then_ok : (r : Result A E) (f : A → Result B E) (x : A) (z : Result B E) → r ≡ Ok x → f x ≡ z → (r >>= f) ≡ z
  then_ok r f x z e g = ap (λ s. s >>= f) e ∙ g

-- which way a test went
pub branch : {A : Type 0} (b : Bool) (x y z : A) → cond b x y ≡ z → ((b ≡ true) × (x ≡ z)) ⊎ ((b ≡ false) × (y ≡ z))
branch true x y z e = inl (refl, e)
branch false x y z e = inr (refl, e)

-- a test that lets its value through
pub let_through : {A E : Type 0} (b : Bool) (x y : A) (fault : E) → cond b (Ok x) (Err fault) ≡ Ok y → (b ≡ true) × (x ≡ y)
let_through true x y fault e = (refl, cc)
let_through false x y fault e = cc

-- a test that stops
pub stopped : {A E : Type 0} (b : Bool) (x y : A) (fault : E) → cond b (Err fault) (Ok x) ≡ Ok y → (b ≡ false) × (x ≡ y)
stopped true x y fault e = cc
stopped false x y fault e = (refl, cc)

pub ok_is : {A E : Type 0} (x y : A) → ◌≡◌ {A = Result A E} (Ok x) (Ok y) → x ≡ y
ok_is x y e = cc

pub ok_first : {A B E : Type 0} (x y : A × B) → ◌≡◌ {A = Result (A × B) E} (Ok x) (Ok y) → x.0 ≡ y.0
ok_first x y e = ap (λ p. p.0) (ok_is x y e)

pub ok_second : {A B E : Type 0} (x y : A × B) → ◌≡◌ {A = Result (A × B) E} (Ok x) (Ok y) → x.1 ≡ y.1
ok_second x y e = ap (λ p. p.1) (ok_is x y e)
