use Rattle.std.proofs.Common.{◌≡◌, ℕ, ◌<◌, ◌≤◌, max, get_or, length}
use Rattle.plat_base.specs.declared.limits.TheConstants.{MODULES}
use Rattle.plat_race.proofs.marks.joined.Given as goal

-- the marks below b are the higher ones, and those from b on are as they were
abbrev pub invariant-loop-b : goal.invariant-loop-b
invariant-loop-b l = record {
  size : length l.all ≡ MODULES;
  done : (k : ℕ) → k < l.b → get_or l.all k 0 ≡ max (get_or l.some k 0) (get_or l.others k 0);
  left : (k : ℕ) → l.b ≤ k → get_or l.all k 0 ≡ get_or l.some k 0;
}
