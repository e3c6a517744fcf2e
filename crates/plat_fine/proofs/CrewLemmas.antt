-- the processors of a run after one of them was changed
use Rattle.std.proofs.Common.{◌≡◌, ℕ, zero, suc, ◌+◌, ◌<◌, ◌≢◌, Bool, true, false, List, [], ◌∷◌, ◌++◌, length, set, map, refl, sym, ap}
use Rattle.std.proofs.Common.{◌∙◌, subst, arith, get_or-set_same, get_or-set_other, length-append, zero-add}
use Rattle.std.specs.Prelude.{◌==◌, if◌then◌else◌, sum_by, replicate, Some, slice_get, slice_set}
use Rattle.std.specs.List.{fold}
use Rattle.std.proofs.lemmas.Bool.Decides.{nat_tests}
use Rattle.std.proofs.lemmas.List.{length-set, length-map, map-set, take_all, get_or_append_left}
use Rattle.std.proofs.lemmas.List.Sums.{sum_by-set}
use Rattle.std.proofs.Math.Seq.{get_or-append_seam}
use Rattle.plat_base.specs.Machine.{Machine}
use Rattle.plat_base.specs.declared.endings.Ended.{Ended}
use Rattle.std.proofs.lemmas.List.FromFn.{map-range_with_len_more, length-range_with_len}
use Rattle.plat_base.specs.Pages.{numbers}
use Rattle.plat_events.specs.Privates.{Private, Polling, NewTurn, LiveLooking, first_private}
use Rattle.plat_events.specs.Runs.{ended_by, end_at, ends_of}
use Rattle.plat_proc.specs.ProcSeen.{ProcSeen}
use Rattle.plat_fine.specs.Crew.{IsCrew, IsProc, no_proc, proc_at, states}
use Rattle.plat_fine.specs.FineSeen.{cut_first, items_of}

-- ---- where the processors stand

pub get-states : (procs : List ProcSeen) (q : ℕ) → q < length procs → slice_get (states procs) q ≡ Some (proc_at procs q).state
get-states [] q h = absurd (omega arith)
get-states (x ∷ xs) zero h = refl
get-states (x ∷ xs) (suc q) h = get-states xs q (omega arith)

-- ---- one of them is changed

each-set :
    (m : Machine) (procs : List ProcSeen) (q k : ℕ) (y : ProcSeen) → IsCrew m procs → IsProc m q y → q < length procs → k < length procs →
    (b : Bool) → (k == q) ≡ b → IsProc m k (proc_at (set procs q y) k)
each-set m procs q k y c p h l true e =
    let same : k ≡ q = grind (arith, nat_tests) in
    subst (λ (j : ℕ). IsProc m j (proc_at (set procs q y) j)) (sym same)
    (subst (λ (x : ProcSeen). IsProc m q x) (sym (get_or-set_same procs q y no_proc h)) p)
each-set m procs q k y c p h l false e =
    let other : k ≢ q = λ (s : k ≡ q). grind (arith, nat_tests) in
    subst (λ (x : ProcSeen). IsProc m k x) (sym (get_or-set_other procs q k y no_proc other)) (c.each k l)

pub IsCrew-set : (m : Machine) (procs : List ProcSeen) (q : ℕ) (y : ProcSeen) → q < length procs → IsCrew m procs → IsProc m q y →
    IsCrew m (set procs q y)
IsCrew-set m procs q y h c p =
    record { each = λ k l. each-set m procs q k y c p h (omega (arith, l, length-set procs q y)) (k == q) refl }

pub states-set : (procs : List ProcSeen) (q : ℕ) (y : ProcSeen) → states (set procs q y) ≡ slice_set (states procs) q y.state
states-set procs q y = map-set (λ (x : ProcSeen). x.state) procs q y

-- ---- ends

pub ends-all : (m : Machine) (procs : List ProcSeen) → length procs ≡ m.nodes → ends_of m (states procs) ≡ map ended_by (states procs)
ends-all m procs h =
    ap (λ (ps : List Private). map ended_by ps)
    (take_all m.nodes (states procs) (simp length-map (omega (arith, h))))

pub ends-set :
    (m : Machine) (procs : List ProcSeen) (ends : List Ended) (q : ℕ) (y : ProcSeen) → length procs ≡ m.nodes →
    ends ≡ ends_of m (states procs) →
    set ends q (ended_by y.state) ≡ ends_of m (states (set procs q y))
ends-set m procs ends q y h e =
    ap (λ (es : List Ended). set es q (ended_by y.state)) (e ∙ ends-all m procs h)
    ∙ sym (map-set ended_by (states procs) q y.state)
    ∙ ap (λ (ps : List Private). map ended_by ps) (sym (states-set procs q y))
    ∙ sym (ends-all m (set procs q y) (length-set procs q y ∙ h))

-- ---- items

pub items-set :
    (procs : List ProcSeen) (q : ℕ) (y : ProcSeen) → q < length procs →
    sum_by items_of (set procs q y) + items_of (proc_at procs q) ≡ sum_by items_of procs + items_of y
items-set procs q y h = sum_by-set items_of procs q y no_proc h

-- ---- the start

pub states-more : (procs : List ProcSeen) (x : ProcSeen) → states (procs ++ x ∷ []) ≡ states procs ++ x.state ∷ []
states-more [] x = refl
states-more (y ∷ ys) x = ap (λ (ps : List Private). y.state ∷ ps) (states-more ys x)

each-more : (m : Machine) (procs : List ProcSeen) (x : ProcSeen) (k : ℕ) → IsCrew m procs → IsProc m (length procs) x → k < length procs + 1
    → (b : Bool) → (k == length procs) ≡ b → IsProc m k (proc_at (procs ++ x ∷ []) k)
each-more m procs x k c p l true e =
    let same : k ≡ length procs = grind (arith, nat_tests) in
    subst (λ (j : ℕ). IsProc m j (proc_at (procs ++ x ∷ []) j)) (sym same)
    (subst (λ (y : ProcSeen). IsProc m (length procs) y) (sym (get_or-append_seam procs x [] no_proc)) p)
each-more m procs x k c p l false e =
    let less : k < length procs = grind (arith, nat_tests) in
    subst (λ (y : ProcSeen). IsProc m k y) (sym (get_or_append_left procs (x ∷ []) no_proc k less)) (c.each k less)

pub IsCrew-more : (m : Machine) (procs : List ProcSeen) (x : ProcSeen) → IsCrew m procs → IsProc m (length procs) x →
    IsCrew m (procs ++ x ∷ [])
IsCrew-more m procs x c p =
    record { each = λ k l. each-more m procs x k c p (omega (arith, l, length-append procs (x ∷ []))) (k == length procs) refl }

pub first-more : (m : Machine) (q : ℕ) →
    map (first_private m) (numbers (q + 1)) ≡ map (first_private m) (numbers q) ++ first_private m q ∷ []
first-more m q = map-range_with_len_more (first_private m) 0 q q (zero-add q)

-- ---- before the first event

pub crew-all : (m : Machine) (procs : List ProcSeen) → states procs ≡ map (first_private m) (numbers m.nodes) → length procs ≡ m.nodes
crew-all m procs e =
    let lengths : length (states procs) ≡ length (map (first_private m) (numbers m.nodes)) = ap (λ (ps : List Private). length ps) e in
    simp (length-map, length-range_with_len) at lengths

abbrev items_in : Private → ℕ
items_in p = length p.journal

no-items : (m : Machine) (qs : List ℕ) (acc : ℕ) → fold (λ (k : ℕ) (p : Private). k + items_in p) acc (map (first_private m) qs) ≡ acc
no-items m [] acc = refl
no-items m (q ∷ qs) acc = no-items m qs (acc + 0) ∙ omega arith

items-states :
    (procs : List ProcSeen) (acc : ℕ) →
    fold (λ (k : ℕ) (x : ProcSeen). k + items_of x) acc procs ≡ fold (λ (k : ℕ) (p : Private). k + items_in p) acc (states procs)
items-states [] acc = refl
items-states (x ∷ xs) acc = items-states xs (acc + items_of x)

pub items-none : (m : Machine) (procs : List ProcSeen) → states procs ≡ map (first_private m) (numbers m.nodes) → sum_by items_of procs ≡ 0
items-none m procs e = items-states procs 0 ∙ ap (sum_by items_in) e ∙ no-items m (numbers m.nodes) 0

abbrev cut_by : Bool → Ended
cut_by b = record { end = end_at (if b then LiveLooking else Polling NewTurn); turns = 0 }

cut-if : (b : Bool) → cut_by b ≡ cut_first
cut-if true = refl
cut-if false = refl

first-cut : (m : Machine) (q : ℕ) → ended_by (first_private m q) ≡ cut_first
first-cut m q = cut-if (q == m.nodes)

all-cut : (m : Machine) (qs : List ℕ) → map ended_by (map (first_private m) qs) ≡ replicate (length qs) cut_first
all-cut m [] = refl
all-cut m (q ∷ qs) = cc (first-cut m q, all-cut m qs)

pub ends-first : (m : Machine) (procs : List ProcSeen) → states procs ≡ map (first_private m) (numbers m.nodes) →
    ends_of m (states procs) ≡ replicate m.nodes cut_first
ends-first m procs e =
    ends-all m procs (crew-all m procs e) ∙ ap (λ (ps : List Private). map ended_by ps) e ∙ all-cut m (numbers m.nodes)
    ∙ ap (λ (k : ℕ). replicate k cut_first) (length-range_with_len 0 m.nodes)
