-- riders that have run, alone and by halves
use Rattle.std.proofs.Common.{◌≡◌, ℕ, zero, suc, ◌<◌, true, false, List, [], ◌∷◌, ◌++◌, length, map, take, drop, sym, ap, ap₂}
use Rattle.std.proofs.Common.{◌∙◌, subst, arith}
use Rattle.std.specs.Prelude.{slice_index_or}
use Rattle.std.proofs.lemmas.List.{length-map, map-append, take-append-drop}
use Rattle.std.proofs.lemmas.List.Elements.{All-append}
use Rattle.std.proofs.lemmas.List.FromFn.{length-range_with_len}
use Rattle.std.proofs.lemmas.Bool.{not-false}
use Rattle.plat_base.specs.Machine.{Machine}
use Rattle.plat_base.specs.Pages.{numbers}
use Rattle.plat_base.specs.Seen.{machine}
use Rattle.plat_base.specs.declared.configs.Config.{Config}
use Rattle.plat_base.proofs.LimitLemmas.{nodes_least}
use Rattle.plat_events.specs.Privates.{actor_count, is_over}
use Rattle.plat_table.specs.Riders.{BoardSeen, RiderSeen, AreBehind, AreOver, IsOf, is_live_at, numbers_of}
use Rattle.plat_table.specs.Rule.{Held, held_first, kept_of}
use Rattle.plat_threads.specs.Running.{HasAll, HasRun, HaveEnded}
use Rattle.plat_table.proofs.RunLemmas.{numbers-first}

-- ---- one actor

numbers-length : (crew : List Held) → length (numbers_of crew) ≡ length crew
numbers-length crew = length-map crew (λ (h : Held). h.0)

-- the same actors are as many
pub as_many : (x y : List Held) (n : ℕ) → numbers_of y ≡ numbers_of x → length x ≡ n → length y ≡ n
as_many x y n same l = sym (numbers-length y) ∙ (ap length same ∙ (numbers-length x ∙ l))

over-first : (h : Held) (k : ℕ) (d : Held) → is_over h.1.place ≡ true → k < 1 → is_over (slice_index_or (h ∷ []) k d).1.place ≡ true
over-first h zero d e b = e
over-first h (suc k) d e b = absurd (omega arith)

over-alone : (crew : List Held) → length crew ≡ 1 → is_live_at crew 0 ≡ false → HaveEnded crew
over-alone [] l e = absurd (omega arith)
over-alone (h ∷ []) l e = λ k d b. over-first h k d (not-false (is_over h.1.place) e) b
over-alone (h ∷ g ∷ rest) l e = absurd (omega arith)

pub run_alone :
    (x y : RiderSeen) (b : BoardSeen) → IsOf y b → numbers_of y.crew ≡ numbers_of x.crew → length y.crew ≡ 1 →
    is_live_at y.crew 0 ≡ false → HasRun x y b
run_alone x y b of same l e = record { of = of; same = same; over = over-alone y.crew l e }

-- ---- halves

pub behind_run :
    (low high low_run high_run : RiderSeen) (b : BoardSeen) → AreBehind (numbers_of low.crew) (numbers_of high.crew) → HasRun low low_run b
    → HasRun high high_run b → AreBehind (numbers_of low_run.crew) (numbers_of high_run.crew)
behind_run low high low_run high_run b behind l h =
    subst (λ (xs : List ℕ). AreBehind xs (numbers_of high_run.crew)) (sym l.same)
    (subst (λ (ys : List ℕ). AreBehind (numbers_of low.crew) ys) (sym h.same) behind)

numbers-append : (xs ys : List Held) → numbers_of (xs ++ ys) ≡ numbers_of xs ++ numbers_of ys
numbers-append xs ys = map-append (λ (h : Held). h.0) xs ys

numbers-halves : (crew : List Held) → numbers_of (take (kept_of crew) crew) ++ numbers_of (drop (kept_of crew) crew) ≡ numbers_of crew
numbers-halves crew =
    sym (numbers-append (take (kept_of crew) crew) (drop (kept_of crew) crew)) ∙ ap numbers_of (take-append-drop (kept_of crew) crew)

pub run_both :
    (x low high low_run high_run y : RiderSeen) (b : BoardSeen) → low.crew ≡ take (kept_of x.crew) x.crew →
    high.crew ≡ drop (kept_of x.crew) x.crew → HasRun low low_run b → HasRun high high_run b → IsOf y b →
    y.crew ≡ low_run.crew ++ high_run.crew → HasRun x y b
run_both x low high low_run high_run y b kept given l h of crew = record {
  of = of;
  same = ap numbers_of crew ∙ (numbers-append low_run.crew high_run.crew
      ∙ (ap₂ ◌++◌ (l.same ∙ ap numbers_of kept) (h.same ∙ ap numbers_of given) ∙ numbers-halves x.crew));
  over = subst HaveEnded (sym crew) (All-append (λ (h : Held). is_over h.1.place ≡ true) low_run.crew high_run.crew l.over h.over);
}

-- ---- the whole

first-length : (m : Machine) → length (map (held_first m) (numbers (actor_count m))) ≡ actor_count m
first-length m = length-map (numbers (actor_count m)) (held_first m) ∙ length-range_with_len 0 (actor_count m)

pub all_first :
    (cfg : Config) (x : RiderSeen) (b : BoardSeen) → b.machine ≡ machine cfg → IsOf x b →
    x.crew ≡ map (held_first (machine cfg)) (numbers (actor_count (machine cfg))) → HasAll x b
all_first cfg x b same of crew = record {
  of = of;
  some = let count : length x.crew ≡ actor_count (machine cfg) = ap length crew ∙ first-length (machine cfg) in
      omega (arith, nodes_least cfg);
  all = ap numbers_of crew ∙ (numbers-first (machine cfg) (numbers (actor_count (machine cfg)))
      ∙ ap (λ (m : Machine). numbers (actor_count m)) (sym same));
}

pub all_over : (x y : RiderSeen) (b : BoardSeen) → HasAll x b → HasRun x y b → AreOver y
all_over x y b all run = record {
  all = sym (numbers-length y.crew) ∙ (ap length (run.same ∙ all.all)
      ∙ (length-range_with_len 0 (actor_count b.machine) ∙ ap actor_count (sym run.of.1)));
  over = run.over;
}
