-- what the limits of a machine say, one by one
use Rattle.std.proofs.Common.{◌≡◌, not, ap, ℕ, ◌<◌, ◌≤◌, Bool, true, false, length, get_or, refl, arith}
use Rattle.std.specs.Prelude.{◌&&◌}
use Rattle.std.proofs.lemmas.Bool.Decides.{nat_tests}
use Rattle.plat_base.specs.Machine.{Machine, is_entry}
use Rattle.plat_base.specs.Pages.{page_of, space_of, no_entry}
use Rattle.plat_base.specs.declared.policies.PolicyKind.TheVariants as policy
use Rattle.plat_laws.specs.Guests.{IsWithinLimits}
use Rattle.plat_base.proofs.LimitLemmas.{limits_of, holds_at, window_most, period_least, period_most}

-- ---- tests that are joined

pub and-left : (b c : Bool) → (b && c) ≡ true → b ≡ true
and-left true c h = refl
and-left false c h = h

pub and-right : (b c : Bool) → (b && c) ≡ true → c ≡ true
and-right true c h = h
and-right false c h = absurd cc

pub not_both : (b c : Bool) → (b ≡ true → c ≡ false) → not (b && c) ≡ true
not_both true c h = ap not (h refl)
not_both false c h = refl

-- ---- numbers

pub nodes-most : (m : Machine) → IsWithinLimits m → m.nodes ≤ 8
nodes-most m h = (limits_of m h).nodes_most

pub frames-most : (m : Machine) → IsWithinLimits m → m.frames ≤ 64
frames-most m h = (limits_of m h).frames_most

pub words-some : (m : Machine) → IsWithinLimits m → 0 < m.words
words-some m h = omega (arith, (limits_of m h).words_least)

pub pages-most : (m : Machine) → IsWithinLimits m → m.pages ≤ 64
pages-most m h = (limits_of m h).pages_most

pub budget-some : (m : Machine) → IsWithinLimits m → 1 ≤ m.budget
budget-some m h = (limits_of m h).budget_least

pub budget-most : (m : Machine) → IsWithinLimits m → m.budget ≤ 65536
budget-most m h = (limits_of m h).budget_most

pub guests-count : (m : Machine) → IsWithinLimits m → length m.guests ≡ m.nodes
guests-count m h = (limits_of m h).guests_count

-- ---- the policy

-- the window, and the daemon's period from below and above
pub platinum-limits :
    (m : Machine) (t1 t2 : ℕ) → IsWithinLimits m → m.policy ≡ policy.Platinum t1 t2 → (t1 ≤ 1000000) × (64 ≤ t2) × (t2 ≤ 1000000)
platinum-limits m t1 t2 h e =
    let is = rw e at (limits_of m h).policy in (window_most t1 t2 is, period_least t1 t2 is, period_most t1 t2 is)

-- ---- entries

pub entry-limits :
    (m : Machine) (e : ℕ) → IsWithinLimits m → e < length m.entries
    → (space_of m e ≤ 7) × ((get_or m.entries e no_entry).vpage ≤ 63) × (page_of m e < m.pages)
entry-limits m e h l =
    let t = holds_at (is_entry m.pages) m.entries e no_entry (limits_of m h).entries l in grind (arith, nat_tests)

pub page_of-below : (m : Machine) (e : ℕ) → IsWithinLimits m → e < length m.entries → page_of m e < m.pages
page_of-below m e h l = (entry-limits m e h l).2
