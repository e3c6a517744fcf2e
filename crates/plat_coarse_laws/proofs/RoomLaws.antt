-- how long a history can get: each message finds a translation, which a grant was charged for
use Rattle.std.specs.Prelude.{◌≡◌, ◌≢◌, ◌≤◌, ◌<◌, ℕ, zero, suc, ◌+◌, ◌-◌, ◌*◌, ◌/◌, ◌%◌, ◌==◌, nat_lt, ◌&&◌, if◌then◌else◌, Bool, true}
use Rattle.std.specs.Prelude.{false, List, [], ◌∷◌, ◌++◌, length, Option, Some, None, sum_by}
use Rattle.std.proofs.Common.{refl, ap, sym, subst, ◌∙◌, arith, ⊎_elim}
use Rattle.std.specs.List.{fold, range_with_len}
use Rattle.std.proofs.lemmas.Bool.{and_parts, ltb-true, ne_eqb, eq-eqb, cases_eq, cases_lt}
use Rattle.std.proofs.lemmas.Bool.Decides.{nat_tests}
use Rattle.std.proofs.lemmas.List.{length-append, append-nil, append_assoc}
use Rattle.std.proofs.Math.Nat.{div-mul-le_self, div-le_of_le-mul, mul-le-mul_left}
use Rattle.std.proofs.lemmas.Nat.{le-div, div-mul-add, mod-mul-add, mod_below, mul-le, div-add-mod'}
use Rattle.std.proofs.lemmas.List.FromFn.{length-range_with_len}
use Rattle.std.proofs.lemmas.List.Sums.{sum_by-append, sum_by-cons}
use Rattle.plat_base.specs.Verdicts.{Answer}
use Rattle.plat_base.specs.Machine.{Machine}
use Rattle.plat_base.specs.Pages.{numbers, entry_at, page_of, space_of}
use Rattle.plat_base.specs.GuestRun.{want_of, Reach, reach_of}
use Rattle.plat_base.specs.Directories.{dir_of, seq_of, last_of}
use Rattle.plat_base.specs.Decide.{decide}
use Rattle.plat_base.specs.Accesses.{cause_of, access_by}
use Rattle.plat_base.specs.Ends.{is_live, time_of}
use Rattle.plat_base.specs.Coarse.{Coarse, coarse_start}
use Rattle.plat_base.specs.Frames.{is_starved}
use Rattle.plat_base.specs.Messages.{interrupts, switch_items}
use Rattle.plat_base.specs.Turns.{made, decided, change_by, grant_of, fault_items, fault_made, access_made, made_by, with_made, guest_now}
use Rattle.plat_base.specs.Turns.{thaw_items, thaw, is_pass, daemon, turn, turns, made_reached}
use Rattle.plat_base.specs.Held.{told, kept_of, granted_to, held, active, has_right}
use Rattle.plat_base.specs.Schedule.{scheduled, coarse_run}
use Rattle.plat_base.specs.Rules.{may_apply, is_answered, bad_rule, bad_after}
use Rattle.plat_base.specs.declared.policies.Decision.{Decision}
use Rattle.plat_base.specs.declared.policies.PolicyKind.{PolicyKind}
use Rattle.plat_base.specs.declared.policies.PolicyKind.TheVariants as policy
use Rattle.plat_base.specs.declared.endings.End.TheVariants as end
use Rattle.plat_base.specs.declared.guests.Want.{Want}
use Rattle.plat_base.specs.declared.guests.Want.TheVariants as want
use Rattle.plat_base.specs.declared.items.Cause.TheVariants as cause
use Rattle.plat_base.specs.declared.statuses.Rule.TheVariants as rule
use Rattle.plat_base.specs.declared.items.Removed.{Removed}
use Rattle.plat_base.specs.declared.items.Removed.TheVariants as removed
use Rattle.plat_base.specs.declared.items.Message.{Message}
use Rattle.plat_base.specs.declared.items.Message.TheVariants as message
use Rattle.plat_base.specs.declared.items.Grant.{Grant}
use Rattle.plat_base.specs.declared.items.Translation.{Translation}
use Rattle.plat_base.specs.declared.items.Access.{Access}
use Rattle.plat_base.specs.declared.items.Change.{Change}
use Rattle.plat_base.specs.declared.items.Applied.{Applied}
use Rattle.plat_base.specs.declared.items.Switch.{Switch}
use Rattle.plat_base.specs.declared.items.Item.{Item}
use Rattle.plat_base.specs.declared.items.Item.TheVariants as item
use Rattle.plat_laws.specs.Guests.{IsWithinLimits}
use Rattle.plat_coarse_laws.specs.Sound.{Sound}
use Rattle.plat_coarse_laws.specs.Room.{passes, room_at, room, charge_of, charge, charges, IsRoomy}
use Rattle.plat_coarse_laws.specs.Live.{AreLive}
use Rattle.plat_laws.proofs.Limits.{nodes-most, pages-most, budget-most, platinum-limits}
use Rattle.plat_laws.proofs.ItemLaws.{all_applied, held-append, held-access, held-switch, held-change_own, held-change_other}
use Rattle.plat_laws.proofs.EndLaws.{is_live-below}
use Rattle.plat_coarse_laws.proofs.RunLaws.{time_of-most, made_in, turn-time, scheduled_holds}
use Rattle.plat_coarse_laws.proofs.TurnLaws.{turn_sound, run_sound}
use Rattle.plat_coarse_laws.proofs.MessageLaws.{interrupts-applied, switch_of, activations, activations-applied}
use Rattle.plat_base.proofs.RuleLemmas.{unless-none, bad_at-none}

-- ---- sums over the numbers from a bound on

sum-le : (f g : ℕ → ℕ) (a n : ℕ) → ((i : ℕ) → f i ≤ g i) → sum_by f (range_with_len a n) ≤ sum_by g (range_with_len a n)
sum-le f g a zero h = omega arith
sum-le f g a (suc n) h =
    omega (arith, sum_by-cons f a (range_with_len (a + 1) n), sum_by-cons g a (range_with_len (a + 1) n), h a, sum-le f g (a + 1) n h)

sum-none : (f : ℕ → ℕ) (a n : ℕ) → ((i : ℕ) → f i ≡ 0) → sum_by f (range_with_len a n) ≡ 0
sum-none f a zero h = refl
sum-none f a (suc n) h = omega (arith, sum_by-cons f a (range_with_len (a + 1) n), h a, sum-none f (a + 1) n h)

-- past a number above all others
sum-le_past : (f g : ℕ → ℕ) (k a n : ℕ) → k < a → ((i : ℕ) → i ≢ k → f i ≤ g i) →
    sum_by f (range_with_len a n) ≤ sum_by g (range_with_len a n)
sum-le_past f g k a zero l h = omega arith
sum-le_past f g k a (suc n) l h =
    let here : f a ≤ g a = h a (λ same. absurd (omega arith))
    in omega (
      arith,
      sum_by-cons f a (range_with_len (a + 1) n),
      sum_by-cons g a (range_with_len (a + 1) n),
      here,
      sum-le_past f g k (a + 1) n (omega arith) h,
    )

-- one number may be more by c
sum-le_but : (f g : ℕ → ℕ) (k c a n : ℕ) → ((i : ℕ) → i ≢ k → f i ≤ g i) → f k ≤ g k + c →
    sum_by f (range_with_len a n) ≤ sum_by g (range_with_len a n) + c
sum-le_but f g k c a zero h x = omega arith
sum-le_but f g k c a (suc n) h x =
    let fs = sum_by-cons f a (range_with_len (a + 1) n)
    in let gs = sum_by-cons g a (range_with_len (a + 1) n)
    in ⊎_elim
    (λ same. let here : f a ≤ g a + c = subst (λ (i : ℕ). f i ≤ g i + c) same x in
    omega (arith, fs, gs, sum-le_past f g k (a + 1) n (omega arith) h))
    (λ other. omega (arith, fs, gs, h a (λ e. other (sym e)), sum-le_but f g k c (a + 1) n h x))
    (cases_eq k a)

-- one number is less
sum-lt : (f g : ℕ → ℕ) (k a n : ℕ) → ((i : ℕ) → f i ≤ g i) → f k < g k → a ≤ k → k < a + n →
    sum_by f (range_with_len a n) < sum_by g (range_with_len a n)
sum-lt f g k a zero h x l u = absurd (omega arith)
sum-lt f g k a (suc n) h x l u =
    let fs = sum_by-cons f a (range_with_len (a + 1) n)
    in let gs = sum_by-cons g a (range_with_len (a + 1) n)
    in ⊎_elim
    (λ same. let here : f a < g a = subst (λ (i : ℕ). f i < g i) same x in omega (arith, fs, gs, sum-le f g (a + 1) n h))
    (λ other. omega (arith, fs, gs, h a, sum-lt f g k (a + 1) n h x (omega arith) (omega arith)))
    (cases_eq k a)

-- ---- the weight of what is held

-- how many messages may still come to a translation
weight_of : Option Translation → ℕ
weight_of None = 0
weight_of (Some t) = if t.restricted then 1 else 2

weight_of-most : (t : Option Translation) → weight_of t ≤ 2
unfolding weight_of
weight_of-most None = omega arith
weight_of-most (Some t) = grind (arith, nat_tests)

weight_of-kept : (rem : Removed) (t : Option Translation) → weight_of (kept_of rem t) ≤ weight_of t
unfolding weight_of
weight_of-kept removed.Nothing t = omega arith
weight_of-kept removed.Writes None = omega arith
weight_of-kept removed.Writes (Some t) = omega arith
weight_of-kept removed.All t = omega arith

weight_of-told : (msg : Message) (t : Option Translation) → weight_of (told msg t) ≤ weight_of t
unfolding weight_of
weight_of-told message.Invalidate t = omega arith
weight_of-told message.Restrict None = omega arith
weight_of-told message.Restrict (Some t) = grind (arith, nat_tests)

-- a message that may be applied takes some of it
weight_of-applied : (msg : Message) (t : Option Translation) → may_apply msg t ≡ true → weight_of (told msg t) < weight_of t
unfolding weight_of
weight_of-applied message.Invalidate None h = absurd cc
weight_of-applied message.Restrict None h = absurd cc
weight_of-applied message.Invalidate (Some t) h = grind (arith, nat_tests)
weight_of-applied message.Restrict (Some t) h = grind (arith, nat_tests)

weight_row : Machine → List Item → ℕ → ℕ
weight_row m items q = sum_by (λ e. weight_of (held m items q e)) (range_with_len 0 (length m.entries))

weight : Machine → List Item → ℕ
weight m items = sum_by (weight_row m items) (range_with_len 0 m.nodes)

-- where each processor holds the same, or less
weight-le : (m : Machine) (xs ys : List Item) → ((q e : ℕ) → weight_of (held m ys q e) ≤ weight_of (held m xs q e)) →
    weight m ys ≤ weight m xs
unfolding weight weight_row
weight-le m xs ys h =
    sum-le (weight_row m ys) (weight_row m xs) 0 m.nodes (λ q.
    sum-le (λ e. weight_of (held m ys q e)) (λ e. weight_of (held m xs q e)) 0 (length m.entries) (h q))

-- where one holds less at one entry
weight-lt : (m : Machine) (xs ys : List Item) (q e : ℕ) → q < m.nodes → e < length m.entries →
    ((r k : ℕ) → weight_of (held m ys r k) ≤ weight_of (held m xs r k)) → weight_of (held m ys q e) < weight_of (held m xs q e) →
    weight m ys < weight m xs
unfolding weight weight_row
weight-lt m xs ys q e n l h x =
    sum-lt (weight_row m ys) (weight_row m xs) q 0 m.nodes
    (λ r. sum-le (λ k. weight_of (held m ys r k)) (λ k. weight_of (held m xs r k)) 0 (length m.entries) (h r))
    (sum-lt (λ k. weight_of (held m ys q k)) (λ k. weight_of (held m xs q k)) e 0 (length m.entries) (h q) x (omega arith) (omega arith))
    (omega arith) (omega arith)

-- where one processor may hold more at one entry
weight-but : (m : Machine) (xs ys : List Item) (q e : ℕ) → ((r k : ℕ) → r ≢ q → weight_of (held m ys r k) ≤ weight_of (held m xs r k)) →
    ((k : ℕ) → k ≢ e → weight_of (held m ys q k) ≤ weight_of (held m xs q k)) → weight m ys ≤ weight m xs + 2
unfolding weight weight_row
weight-but m xs ys q e other own =
    sum-le_but (weight_row m ys) (weight_row m xs) q 2 0 m.nodes
    (λ r d. sum-le (λ k. weight_of (held m ys r k)) (λ k. weight_of (held m xs r k)) 0 (length m.entries) (λ k. other r k d))
    (sum-le_but (λ k. weight_of (held m ys q k)) (λ k. weight_of (held m xs q k)) e 2 0 (length m.entries) own
    (omega (arith, weight_of-most (held m ys q e))))

-- ---- one item more

weight-access : (m : Machine) (xs : List Item) (a : Access) → weight m (xs ++ item.Access a ∷ []) ≤ weight m xs
weight-access m xs a = weight-le m xs (xs ++ item.Access a ∷ []) (λ q e. omega (arith, ap weight_of (held-access m xs a q e)))

weight-switch : (m : Machine) (xs : List Item) (s : Switch) → weight m (xs ++ item.Switch s ∷ []) ≤ weight m xs
weight-switch m xs s = weight-le m xs (xs ++ item.Switch s ∷ []) (λ q e. omega (arith, ap weight_of (held-switch m xs s q e)))

-- what a change leaves of a translation, but for the grant
left : (m : Machine) (c : Change) (e : ℕ) (t : Option Translation) →
    weight_of (if page_of m e == c.page then kept_of c.removed t else t) ≤ weight_of t
left m c e t = by (page_of m e == c.page)
  where
    by : (b : Bool) → weight_of (if b then kept_of c.removed t else t) ≤ weight_of t
    by true = weight_of-kept c.removed t
    by false = omega arith

weight-change : (m : Machine) (xs : List Item) (c : Change) → 1 + weight m (xs ++ item.Change c ∷ []) ≤ weight m xs + charge_of c.granted
weight-change m xs c = by c.granted refl
  where
    other : (r k : ℕ) → r ≢ c.actor → weight_of (held m (xs ++ item.Change c ∷ []) r k) ≤ weight_of (held m xs r k)
    other r k d = omega (arith, ap weight_of (held-change_other m xs c r k (λ same. d (sym same))))

    own : (k : ℕ) → granted_to k c.seq c.granted (if page_of m k == c.page then kept_of c.removed (held m xs c.actor k)
        else held m xs c.actor k) ≡ (if page_of m k == c.page then kept_of c.removed (held m xs c.actor k) else held m xs c.actor k) →
        weight_of (held m (xs ++ item.Change c ∷ []) c.actor k) ≤ weight_of (held m xs c.actor k)
    own k e = omega (arith, ap weight_of (held-change_own m xs c k ∙ e), left m c k (held m xs c.actor k))

    none : c.granted ≡ None → (r k : ℕ) → weight_of (held m (xs ++ item.Change c ∷ []) r k) ≤ weight_of (held m xs r k)
    none g r k =
        ⊎_elim
        (λ same. subst (λ (r : ℕ). weight_of (held m (xs ++ item.Change c ∷ []) r k) ≤ weight_of (held m xs r k)) (sym same)
        (own k (rw g refl)))
        (other r k)
        (cases_eq r c.actor)

    by : (granted : Option Grant) → c.granted ≡ granted → 1 + weight m (xs ++ item.Change c ∷ []) ≤ weight m xs + charge_of granted
    by None g = omega (arith, weight-le m xs (xs ++ item.Change c ∷ []) (none g))
    by (Some x) g =
        omega (
          arith,
          weight-but m xs (xs ++ item.Change c ∷ []) c.actor x.entry other (λ k d.
              own k (rw (g, ne_eqb x.entry k (λ same. d (sym same))) refl)),
        )

weight-applied : (m : Machine) (xs : List Item) (x : Applied) → is_answered m xs x ≡ true →
    weight m (xs ++ item.Applied x ∷ []) < weight m xs
weight-applied m xs x h =
    let one = and_parts (nat_lt x.actor m.nodes && nat_lt x.entry (length m.entries) && active m xs x.actor == space_of m x.entry)
    (may_apply x.message (held m xs x.actor x.entry)) h
    in let two = and_parts (nat_lt x.actor m.nodes && nat_lt x.entry (length m.entries)) (active m xs x.actor == space_of m x.entry) one.0
    in let three = and_parts (nat_lt x.actor m.nodes) (nat_lt x.entry (length m.entries)) two.0
    in let less = weight_of-applied x.message (held m xs x.actor x.entry) one.1
    in let here : held m (xs ++ item.Applied x ∷ []) x.actor x.entry ≡ told x.message (held m xs x.actor x.entry) =
    held-append m xs (item.Applied x ∷ []) x.actor x.entry ∙ rw (eq-eqb x.actor x.actor refl, eq-eqb x.entry x.entry refl) refl
    in weight-lt m xs (xs ++ item.Applied x ∷ []) x.actor x.entry (ltb-true x.actor m.nodes three.0)
    (ltb-true x.entry (length m.entries) three.1) most
    (omega (arith, ap weight_of here))
  where
    by : (t : Option Translation) (b : Bool) → weight_of (if b then told x.message t else t) ≤ weight_of t
    by t true = weight_of-told x.message t
    by t false = omega arith

    most : (r k : ℕ) → weight_of (held m (xs ++ item.Applied x ∷ []) r k) ≤ weight_of (held m xs r k)
    most r k = omega (arith, ap weight_of (held-append m xs (item.Applied x ∷ []) r k), by (held m xs r k) (x.actor == r && x.entry == k))

-- an item that breaks no rule is charged for itself and for the weight that it adds
weighed : (m : Machine) (answer : Answer) (xs : List Item) (i : Item) → bad_rule m answer xs i ≡ None →
    1 + weight m (xs ++ i ∷ []) ≤ weight m xs + charge i
weighed m answer xs (item.Access a) h = omega (arith, weight-access m xs a)
weighed m answer xs (item.Change c) h = weight-change m xs c
weighed m answer xs (item.Applied x) h = omega (arith, weight-applied m xs x (unless-none (is_answered m xs x) rule.Held h))
weighed m answer xs (item.Switch s) h = omega (arith, weight-switch m xs s)

-- ---- many items

-- items that break no rule are as many as they are charged for, but for the weight that they leave
all_weighed : (m : Machine) (answer : Answer) (before : List Item) (n : ℕ) (xs : List Item) → bad_after m answer before n xs ≡ None →
    length xs + weight m (before ++ xs) ≤ weight m before + charges xs
all_weighed m answer before n [] h = rw append-nil (omega arith)
all_weighed m answer before n (i ∷ is) h =
    let parts = bad_at-none n (bad_rule m answer before i) (bad_after m answer (before ++ i ∷ []) (n + 1) is) h
    in let first = weighed m answer before i parts.0
    in let rest = rw (append_assoc before (i ∷ []) is) at (all_weighed m answer (before ++ i ∷ []) (n + 1) is parts.1)
    in omega (arith, first, rest, sum_by-cons charge i is)

weight-start : (m : Machine) → weight m [] ≡ 0
unfolding weight weight_row weight_of
weight-start m = sum-none (weight_row m []) 0 m.nodes (λ q. sum-none (λ e. weight_of (held m [] q e)) 0 (length m.entries) (λ e. refl))

-- a history that breaks no rule is no longer than it is charged for
pub length-charges : (m : Machine) (answer : Answer) (items : List Item) → bad_after m answer [] 0 items ≡ None →
    length items ≤ charges items
length-charges m answer items h = omega (arith, all_weighed m answer [] 0 items h, weight-start m)

-- ---- what a turn is charged

charges-append : (xs ys : List Item) → charges (xs ++ ys) ≡ charges xs + charges ys
charges-append xs ys = sum_by-append charge xs ys

charges-applied : (xs : List Item) → all_applied xs ≡ true → charges xs ≡ 0
charges-applied [] h = refl
charges-applied (item.Access a ∷ xs) h = absurd cc
charges-applied (item.Change c ∷ xs) h = absurd cc
charges-applied (item.Applied x ∷ xs) h = omega (arith, sum_by-cons charge (item.Applied x) xs, charges-applied xs h)
charges-applied (item.Switch s ∷ xs) h = absurd cc

module _ (m : Machine) (answer : Answer) (s : Coarse) where
  fault-charges : (q now entry : ℕ) (r : Reach) (d : Decision) → charges (fault_items m s q now entry r d) ≤ 4
  fault-charges q now entry r d =
      let messages = interrupts m s q r.page d.removed
      in let change = item.Change (change_by s.history q r.page now (cause_of r.kind) d (Some (grant_of entry (cause_of r.kind) d)))
      in let access = access_by m s.history q r d.frame (seq_of s.history r.page)
      in let none = charges-applied messages (interrupts-applied m s q r.page d.removed)
      in let two : charges (change ∷ access ∷ []) ≡ 4 = refl
      in omega (arith, charges-append messages (change ∷ access ∷ []), none, two)

  fault_made-charges : (q now entry : ℕ) (r : Reach) → charges (fault_made m answer s q now entry r).items ≤ 4
  fault_made-charges q now entry r = by (is_starved m s.history q r.page)
    where
      by : (b : Bool) → charges (if b then made [] end.NoFrames
          else made (fault_items m s q now entry r (decided m answer s.history q r.page now (cause_of r.kind))) end.Cut).items ≤ 4
      by true = omega arith
      by false = fault-charges q now entry r (decided m answer s.history q r.page now (cause_of r.kind))

  access_made-charges : (q now entry : ℕ) (r : Reach) (t : Option Translation) → charges (access_made m answer s q now entry r t).items ≤ 4
  access_made-charges q now entry r None = fault_made-charges q now entry r
  access_made-charges q now entry r (Some t) = by (has_right r.kind (Some t))
    where
      by : (b : Bool) → charges (if b then made (access_by m s.history q r t.grant.frame t.seq ∷ []) end.Cut
          else fault_made m answer s q now entry r).items ≤ 4
      by true = omega arith
      by false = fault_made-charges q now entry r

  through-charges : (q now : ℕ) (r : Reach) (e : Option ℕ) → charges (made_reached m answer s q now r e).items ≤ 4
  through-charges q now r None = omega arith
  through-charges q now r (Some entry) = access_made-charges q now entry r (held m s.history q entry)

  switch-charges : (q space : ℕ) → charges (switch_items m s.history q space) ≡ 1
  switch-charges q space =
      let messages = activations m s.history q space
      in omega (
        arith,
        sum_by-cons charge (item.Switch (switch_of q space)) messages,
        charges-applied messages (activations-applied m s.history q space),
      )

  made-charges : (q now : ℕ) (w : Want) → charges (made_by m answer s q now w).items ≤ 4
  made-charges q now want.Local = omega arith
  made-charges q now (want.Access k sp a o) =
      through-charges q now (reach_of m k sp a o) (entry_at m sp (a / m.words))
  made-charges q now (want.Switch space) = omega (arith, switch-charges q space)
  made-charges q now (want.Print value) = omega arith
  made-charges q now want.Halted = omega arith
  made-charges q now want.Trap = omega arith

  thaw_items-charges : (now p : ℕ) → charges (thaw_items m answer s now p) ≡ 1
  thaw_items-charges now p =
      let d = decide m answer (dir_of s.history p) (last_of s.history p) now m.nodes cause.Thaw None
      in let messages = interrupts m s m.nodes p d.removed
      in let change = item.Change (change_by s.history m.nodes p now cause.Thaw d None)
      in let none = charges-applied messages (interrupts-applied m s m.nodes p d.removed)
      in let one : charges (change ∷ []) ≡ 1 = refl
      in omega (arith, charges-append messages (change ∷ []), none, one)

  thaw-charges : (now p : ℕ) → charges (thaw m answer now s p).history ≤ charges s.history + 1
  thaw-charges now p = by (dir_of s.history p).frozen
    where
      by : (b : Bool) → charges (if b then record { history = s.history ++ thaw_items m answer s now p; ends = s.ends }
          else s).history ≤ charges s.history + 1
      by true = omega (arith, charges-append s.history (thaw_items m answer s now p), thaw_items-charges now p)
      by false = omega arith

thaws-charges : (m : Machine) (answer : Answer) (s : Coarse) (now : ℕ) (ps : List ℕ) →
    charges (fold (thaw m answer now) s ps).history ≤ charges s.history + length ps
thaws-charges m answer s now [] = omega arith
thaws-charges m answer s now (p ∷ ps) =
    omega (arith, thaw-charges m answer s now p, thaws-charges m answer (thaw m answer now s p) now ps)

-- how many passes a tick has
passes_at : PolicyKind → ℕ → ℕ
passes_at p now = if is_pass p now then 1 else 0

daemon-charges : (m : Machine) (answer : Answer) (s : Coarse) (now : ℕ) →
    charges (daemon m answer now s).history ≤ charges s.history + m.pages * passes_at m.policy now
unfolding passes_at
daemon-charges m answer s now = by (is_pass m.policy now)
  where
    by : (b : Bool) → charges (if b then fold (thaw m answer now) s (numbers m.pages) else s).history ≤ charges s.history + m.pages
        * (if b then 1 else 0)
    by true = omega (arith, thaws-charges m answer s now (numbers m.pages), length-range_with_len 0 m.pages)
    by false = omega arith

-- ---- room

div_step : (t n a r : ℕ) → n + 1 ≡ a * t + r → r < t → ((n + 1) / t ≡ a) × ((n + 1) % t ≡ r)
div_step t n a r e l = (ap (λ x. x / t) e ∙ div-mul-add a t r l, ap (λ x. x % t) e ∙ mod-mul-add a t r l)

div-next : (t n : ℕ) → 0 < t → (n + 1) / t ≡ n / t + (if (n + 1) % t == 0 then 1 else 0)
div-next t n h = ⊎_elim inside full (cases_lt (n % t + 1) t)
  where
    parts : n / t * t + n % t ≡ n
    parts = div-add-mod' n t

    inside : n % t + 1 < t → (n + 1) / t ≡ n / t + (if (n + 1) % t == 0 then 1 else 0)
    inside l =
        let d = div_step t n (n / t) (n % t + 1) (omega arith) l
        in rw (d.1, ne_eqb (n % t + 1) 0 (λ e. omega arith)) (omega (arith, d.0))

    full : t ≤ n % t + 1 → (n + 1) / t ≡ n / t + (if (n + 1) % t == 0 then 1 else 0)
    full l =
        let d = div_step t n (n / t + 1) 0 (omega (arith, mod_below n t h)) h in rw d.1 d.0

div-mono : (t a b : ℕ) → 0 < t → a ≤ b → a / t ≤ b / t
div-mono t a b h l = le-div (a / t) b t h (omega (arith, div-mul-le_self a t))

module _ (m : Machine) (machine : IsWithinLimits m) where
  period : (t1 t2 : ℕ) → m.policy ≡ policy.Platinum t1 t2 → 0 < t2
  period t1 t2 e = omega (arith, (platinum-limits m t1 t2 machine e).1)

  passes-next : (time : ℕ) → passes m.policy (time + 1) ≡ passes m.policy time + passes_at m.policy (time + 1)
  unfolding passes_at
  passes-next time = by m.policy refl
    where
      by : (p : PolicyKind) → m.policy ≡ p → passes p (time + 1) ≡ passes p time + (if is_pass p (time + 1) then 1 else 0)
      by policy.Place e = omega arith
      by policy.Replicate e = omega arith
      by (policy.Platinum t1 t2) e = div-next t2 time (period t1 t2 e)

  passes-mono : (a b : ℕ) → a ≤ b → passes m.policy a ≤ passes m.policy b
  passes-mono a b l = by m.policy refl
    where
      by : (p : PolicyKind) → m.policy ≡ p → passes p a ≤ passes p b
      by policy.Place e = omega arith
      by policy.Replicate e = omega arith
      by (policy.Platinum t1 t2) e = div-mono t2 a b (period t1 t2 e) l

  -- one turn more
  room_at-next : (time : ℕ) → room_at m (time + 1) ≡ room_at m time + 4 + m.pages * passes_at m.policy (time + 1)
  room_at-next time = omega (arith, ap (λ n. m.pages * n) (passes-next time))

  -- there is more room in more time
  pub room_at-mono : (a b : ℕ) → a ≤ b → room_at m a ≤ room_at m b
  room_at-mono a b l = omega (arith, mul-le-mul_left m.pages (passes-mono a b l))

  time-most : m.nodes * m.budget ≤ 524288
  time-most = omega (arith, mul-le m.nodes m.budget 8 65536 (nodes-most m machine) (budget-most m machine))

  passes-most : passes m.policy (m.nodes * m.budget) ≤ 8192
  passes-most = by m.policy refl
    where
      by : (p : PolicyKind) → m.policy ≡ p → passes p (m.nodes * m.budget) ≤ 8192
      by policy.Place e = omega arith
      by policy.Replicate e = omega arith
      by (policy.Platinum t1 t2) e =
          let long : 64 ≤ t2 = (platinum-limits m t1 t2 machine e).1
          in div-le_of_le-mul t2 {m = m.nodes * m.budget} {n = 8192} (omega (arith, time-most, long))

  -- every machine's history is within the bound of a history
  pub room-most : room m ≤ 2621440
  room-most = omega (arith, time-most, mul-le m.pages (passes m.policy (m.nodes * m.budget)) 64 8192 (pages-most m machine) passes-most)

-- ---- the room of a run

pub roomy_start : (m : Machine) → IsRoomy m (coarse_start m)
roomy_start m = omega arith

pub turn_roomy : (m : Machine) (answer : Answer) (s : Coarse) (q : ℕ) → IsWithinLimits m → IsRoomy m s → is_live s.ends q ≡ true →
    IsRoomy m (turn m answer s q)
turn_roomy m answer s q machine h v =
    let now = time_of s.ends + 1
    in let x = made_in m answer s q
    in let made = made-charges m answer s q now (want_of m q (guest_now m s q).state)
    in let daemon = daemon-charges m answer (with_made m s q x) now
    in let time = turn-time m answer s q (is_live-below s.ends q v)
    in rw time (omega (arith, h, made, daemon, charges-append s.history x.items, room_at-next m machine (time_of s.ends)))

pub turns_roomy : (m : Machine) (answer : Answer) (s : Coarse) (qs : List ℕ) → IsWithinLimits m → IsRoomy m s → AreLive m answer s qs →
    IsRoomy m (turns m answer s qs)
turns_roomy m answer s [] machine h v = h
turns_roomy m answer s (q ∷ qs) machine h v =
    turns_roomy m answer (turn m answer s q) qs machine (turn_roomy m answer s q machine h v.0) v.1

pub run_roomy : (m : Machine) (answer : Answer) (k : ℕ) → IsWithinLimits m → IsRoomy m (scheduled m answer k).coarse
run_roomy m answer k machine =
    scheduled_holds m answer (IsRoomy m) (roomy_start m) (λ s q h v. turn_roomy m answer s q machine h v) k

-- ---- how long a history is

pub sound_time : (m : Machine) (answer : Answer) (s : Coarse) → Sound m answer s → time_of s.ends ≤ m.nodes * m.budget
sound_time m answer s h =
    let all : length s.ends * m.budget ≡ m.nodes * m.budget = ap (λ n. n * m.budget) h.count
    in let most = time_of-most s.ends m.budget (λ q l. h.turns q (rw h.count at l))
    in omega arith

pub sound_length : (m : Machine) (answer : Answer) (s : Coarse) → Sound m answer s → IsRoomy m s →
    length s.history ≤ room_at m (time_of s.ends)
sound_length m answer s h r = omega (arith, length-charges m answer s.history h.items, r)

pub sound_room : (m : Machine) (answer : Answer) (s : Coarse) → IsWithinLimits m → Sound m answer s → IsRoomy m s →
    length s.history ≤ room m
sound_room m answer s machine h r =
    omega (arith, sound_length m answer s h r, room_at-mono m machine (time_of s.ends) (m.nodes * m.budget) (sound_time m answer s h))

-- a turn's items find room
pub turn_room : (m : Machine) (answer : Answer) (s : Coarse) (q : ℕ) → IsWithinLimits m → Sound m answer s → IsRoomy m s →
    is_live s.ends q ≡ true → length (turn m answer s q).history ≤ room m
turn_room m answer s q machine h r v =
    sound_room m answer (turn m answer s q) machine (turn_sound m answer s q machine h v) (turn_roomy m answer s q machine r v)

pub coarse_run_room : (m : Machine) (answer : Answer) → IsWithinLimits m → length (coarse_run m answer).history ≤ room m
unfolding coarse_run
coarse_run_room m answer machine =
    let k = m.nodes * m.budget
    in sound_room m answer (scheduled m answer k).coarse machine (run_sound m answer k machine) (run_roomy m answer k machine)

-- ---- the daemon's pass only adds items

module _ (m : Machine) (answer : Answer) (now : ℕ) where
  thaw-longer : (s : Coarse) (p : ℕ) → length s.history ≤ length (thaw m answer now s p).history
  thaw-longer s p = by (dir_of s.history p).frozen
    where
      by : (b : Bool) → length s.history ≤ length (if b then record { history = s.history ++ thaw_items m answer s now p; ends = s.ends }
          else s).history
      by true = omega (arith, length-append s.history (thaw_items m answer s now p))
      by false = omega arith

  thaws-longer : (s : Coarse) (ps : List ℕ) → length s.history ≤ length (fold (thaw m answer now) s ps).history
  thaws-longer s [] = omega arith
  thaws-longer s (p ∷ ps) = omega (arith, thaw-longer s p, thaws-longer (thaw m answer now s p) ps)

  fewer_thaws-longer : (s : Coarse) (a n k : ℕ) →
      length (fold (thaw m answer now) s (range_with_len a n)).history ≤ length
      (fold (thaw m answer now) s (range_with_len a (n + k))).history
  fewer_thaws-longer s a zero k = thaws-longer s (range_with_len a (0 + k))
  fewer_thaws-longer s a (suc n) k =
      let more : suc n + k ≡ suc (n + k) = omega arith in rw more (fewer_thaws-longer (thaw m answer now s a) (a + 1) n k)

  pub daemon-longer : (s : Coarse) → length s.history ≤ length (daemon m answer now s).history
  daemon-longer s = by (is_pass m.policy now)
    where
      by : (b : Bool) → length s.history ≤ length (if b then fold (thaw m answer now) s (numbers m.pages) else s).history
      by true = thaws-longer s (numbers m.pages)
      by false = omega arith

  -- after the thaws of the first pages
  pub thaws-within : (s : Coarse) (p : ℕ) → is_pass m.policy now ≡ true → p ≤ m.pages →
      length (fold (thaw m answer now) s (numbers p)).history ≤ length (daemon m answer now s).history
  thaws-within s p pass l =
      let all : p + (m.pages - p) ≡ m.pages = omega arith in rw pass (rw all at (fewer_thaws-longer s 0 p (m.pages - p)))
