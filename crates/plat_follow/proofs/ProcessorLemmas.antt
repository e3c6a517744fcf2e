-- the followers of all processors: one of them goes on, or none
use Rattle.std.proofs.Common.{◌≡◌, ◌≢◌, inl, inr, ℕ, ◌<◌, true, false, List, [], ◌∷◌, ◌++◌, length, get_or, set, None, refl, arith, sym}
use Rattle.std.proofs.Common.{◌∙◌, subst, get_or-set_other, get_or-set_same, below_more, ◌+◌}
use Rattle.std.specs.Prelude.{◌==◌, ◌&&◌, nat_lt}
use Rattle.std.proofs.Math.ListN.{length-set, get_or-append}
use Rattle.std.proofs.Math.Seq.{get_or-append_seam}
use Rattle.std.proofs.lemmas.List.{get_or_default}
use Rattle.std.proofs.lemmas.Bool.{cases_eq, ne_eqb}
use Rattle.std.proofs.lemmas.Bool.Decides.{nat_tests}
use Rattle.plat_base.specs.Machine.{Machine}
use Rattle.plat_base.specs.Done.{operations_of}
use Rattle.plat_base.specs.Decide.{is_frame}
use Rattle.plat_base.specs.Rules.{next_operation, is_access_next, is_switch_next}
use Rattle.plat_base.specs.declared.items.Access.{Access}
use Rattle.plat_base.specs.declared.items.Switch.{Switch}
use Rattle.plat_base.specs.declared.items.Item.{Item}
use Rattle.plat_base.specs.declared.items.Item.TheVariants as item
use Rattle.plat_laws.proofs.Limits.{and-right}
use Rattle.plat_follow.specs.Followed.{FollowerSeen, Stands, Follows, IsMade, IsNextItem, AllStand, AllFollow, no_follower}
use Rattle.plat_follow.proofs.FollowLemmas.{Follows-others}

-- ---- the follower of one processor

pub Stands-at :
    (m : Machine) (fs : List FollowerSeen) (q : ℕ) (f : FollowerSeen) → AllStand m fs → f ≡ get_or fs q f → q < length fs → Stands m f
Stands-at m fs q f h e l =
    let same : f ≡ get_or fs q no_follower = e ∙ get_or_default fs q f no_follower l in
    let each = h.each q (omega (arith, h.count))
    in subst (λ (g : FollowerSeen). Stands m g) (sym same) each

pub Follows-at :
    (m : Machine) (items : List Item) (fs : List FollowerSeen) (q : ℕ) (f : FollowerSeen) → AllFollow m items fs → f ≡ get_or fs q f
    → q < length fs → Follows m items q f
Follows-at m items fs q f h e l =
    let same : f ≡ get_or fs q no_follower = e ∙ get_or_default fs q f no_follower l in
    let each = h.each q (omega (arith, h.count))
    in subst (λ (g : FollowerSeen). Follows m items q g) (sym same) each

-- the next one of those that have followed nothing yet
pub Follows-push :
    (m : Machine) (fs : List FollowerSeen) (q : ℕ) (f : FollowerSeen) → length fs ≡ q
    → ((r : ℕ) → r < q → Follows m [] r (get_or fs r no_follower)) → Follows m [] q f
    → (r : ℕ) → r < q + 1 → Follows m [] r (get_or (fs ++ f ∷ []) r no_follower)
Follows-push m fs q f e before here =
    let last : get_or (fs ++ f ∷ []) q no_follower ≡ f = rw (← e) (get_or-append_seam fs f [] no_follower) in
    below_more (λ r. Follows m [] r (get_or (fs ++ f ∷ []) r no_follower)) q
    (λ r l. let below : r < length fs = omega arith in rw get_or-append (before r l)) (rw last here)

-- ---- one of them

pub AllStand-set :
    (m : Machine) (fs : List FollowerSeen) (q : ℕ) (f : FollowerSeen) → AllStand m fs → q < length fs → Stands m f → AllStand m (set fs q f)
AllStand-set m fs q f h l s = record {
  count = rw length-set h.count;
  each = λ r below. elim (cases_eq r q) [
    | inl same ↦ rw (same, get_or-set_same) s
    | inr other ↦ rw get_or-set_other (h.each r below)
  ];
}

-- the processor's follower has taken in the item, which is none of the others'
pub AllFollow-set :
    (m : Machine) (items : List Item) (i : Item) (fs : List FollowerSeen) (q : ℕ) (f : FollowerSeen) → AllFollow m items fs → q < length fs
    → Follows m (items ++ i ∷ []) q f → ((r : ℕ) → r ≢ q → operations_of r (i ∷ []) ≡ []) → AllFollow m (items ++ i ∷ []) (set fs q f)
AllFollow-set m items i fs q f h l s n = record {
  count = rw length-set h.count;
  each = λ r below. elim (cases_eq r q) [
    | inl same ↦ rw (same, get_or-set_same) s
    | inr other ↦ rw get_or-set_other (Follows-others m items (i ∷ []) r (get_or fs r no_follower) (h.each r below) (n r other))
  ];
}

-- ---- none of them

pub AllFollow-none :
    (m : Machine) (items : List Item) (i : Item) (fs : List FollowerSeen) → AllFollow m items fs
    → ((r : ℕ) → r < m.nodes → operations_of r (i ∷ []) ≡ []) → AllFollow m (items ++ i ∷ []) fs
AllFollow-none m items i fs h n = record {
  count = h.count;
  each = λ r below. Follows-others m items (i ∷ []) r (get_or fs r no_follower) (h.each r below) (n r below);
}

-- ---- whose an item is

pub IsMade-others :
    (m : Machine) (items : List Item) (q old r : ℕ) (i : Item) → IsMade m items q old i → r ≢ q → operations_of r (i ∷ []) ≡ []
IsMade-others m items q old r (item.Access a) h n = rw (h.0, ne_eqb q r (λ e. n (sym e)))
IsMade-others m items q old r (item.Change c) h n = absurd h
IsMade-others m items q old r (item.Applied x) h n = absurd h
IsMade-others m items q old r (item.Switch s) h n = rw (h.0, ne_eqb q r (λ e. n (sym e)))

-- what is made was the next operation
pub IsMade-next : (m : Machine) (items : List Item) (q old : ℕ) (i : Item) → IsMade m items q old i → next_operation m items q ≢ None
IsMade-next m items q old (item.Access a) h = λ e. let no : is_access_next None a ≡ true = rw e at h.2 in cc
IsMade-next m items q old (item.Change c) h = absurd h
IsMade-next m items q old (item.Applied x) h = absurd h
IsMade-next m items q old (item.Switch s) h = λ e. let no : is_switch_next None s.space ≡ true = rw e at h.1 in cc

-- an item in its place, of its actor
pub IsMade-access :
    (m : Machine) (items : List Item) (a : Access) → IsNextItem m items (item.Access a) → IsMade m items a.actor a.old (item.Access a)
IsMade-access m items a h =
    let inside = nat_lt a.actor m.nodes && is_frame m a.frame
    in (refl, (λ reads. refl), and-right inside (is_access_next (next_operation m items a.actor) a) h)

pub IsMade-switch :
    (m : Machine) (items : List Item) (s : Switch) (old : ℕ) → IsNextItem m items (item.Switch s)
    → IsMade m items s.actor old (item.Switch s)
IsMade-switch m items s old h = (refl, and-right (nat_lt s.actor m.nodes) (is_switch_next (next_operation m items s.actor) s.space) h)
