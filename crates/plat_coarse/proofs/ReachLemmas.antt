-- what an address that has an entry leads to
use Rattle.std.proofs.Common.{◌≡◌, ℕ, ◌/◌, ◌%◌, ◌<◌, length, refl, arith}
use Rattle.std.specs.Prelude.{Some}
use Rattle.plat_base.specs.Machine.{Machine}
use Rattle.plat_base.specs.Pages.{entry_at, page_of}
use Rattle.plat_base.specs.GuestRun.{Reach, reach_of}
use Rattle.plat_base.specs.declared.items.Kind.{Kind}
use Rattle.plat_laws.specs.Guests.{IsWithinLimits}
use Rattle.plat_laws.proofs.GuestLaws.{entry_at-found}
use Rattle.plat_laws.proofs.Limits.{page_of-below, words-some}

pub record LeadsTo (m : Machine) (e : ℕ) (r : Reach) : Type 0 where
  pub entry : e < length m.entries
  pub page : r.page < m.pages
  pub word : r.word < m.words

pub LeadsTo-found : (m : Machine) (k : Kind) (space addr operand e : ℕ) (r : Reach) → IsWithinLimits m
    → entry_at m space (addr / m.words) ≡ Some e → r ≡ reach_of m k space addr operand → LeadsTo m e r
LeadsTo-found m k space addr operand e r machine found is =
    let at = entry_at-found m space (addr / m.words) e found in
    let words = words-some m machine in
    let page : r.page ≡ page_of m e = rw (is, found) refl in
    let word : r.word ≡ addr % m.words = rw is refl in
    record {
      entry = at.below;
      page = omega (arith, page, page_of-below m e machine at.below);
      word = omega (arith, word, words);
    }
