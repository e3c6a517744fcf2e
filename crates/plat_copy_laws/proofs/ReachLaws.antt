-- a translation that may be used, or that outlives the messages that wait for it, as a processor and an entry see it
use Rattle.std.specs.Prelude.{Option, is_some}
use Rattle.std.proofs.Common.{◌≡◌, ◌⊎◌, inl, inr, Bool, true, false, arith, refl}
use Rattle.plat_base.specs.declared.items.Translation.{Translation}
use Rattle.plat_events.specs.Kept.{effective}
use Rattle.plat_events.specs.Views.{View, EntryOk}
use Rattle.plat_views.specs.Facts.{ViewFacts}

-- where messages leave something no invalidate waits
pub effective-stays : (i r : Bool) (t : Option Translation) → is_some (effective i r t) ≡ true → i ≡ false
effective-stays true r t h = absurd cc
effective-stays false r t h = refl

used_kept : (v : View) → ViewFacts v → EntryOk v → v.has ≡ true → v.usable ≡ true → v.granted ≡ false → v.kept ≡ true
used_kept v facts ok h0 h1 h2 = search arith

-- one that is not granted yet names a kept copy
pub reached_kept :
    (v : View) → ViewFacts v → EntryOk v → v.has ≡ true → (v.invalidate ≡ false) ⊎ (v.usable ≡ true) → v.granted ≡ false → v.kept ≡ true
reached_kept v facts ok has (inl stays) granted = ok.eff_kept has stays granted
reached_kept v facts ok has (inr usable) granted = used_kept v facts ok has usable granted
