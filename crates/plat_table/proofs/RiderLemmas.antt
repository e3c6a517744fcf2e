-- riders: their actors and what their seats know
use Rattle.std.proofs.Common.{◌≡◌, ℕ, zero, suc, ◌+◌, ◌-◌, ◌/◌, ◌<◌, ◌≤◌, Bool, true, false, List, [], ◌∷◌, ◌++◌, length, map, set, take}
use Rattle.std.proofs.Common.{drop, refl, sym, ap, ◌∙◌, subst, arith}
use Rattle.std.specs.Prelude.{not, All, if◌then◌else◌, IsTrue, Option, Some, slice_get, slice_index_or}
use Rattle.std.specs.Option.{option_map}
use Rattle.std.proofs.lemmas.Option.{slice_get-map, slice_get_read, slice_get_within}
use Rattle.std.proofs.lemmas.List.{length-map, length-append, map-set, map-append}
use Rattle.std.proofs.lemmas.List.Elements.{All-set, All-append, All-take, All-drop}
use Rattle.std.specs.List.{take-map, drop-map}
use Rattle.std.proofs.lemmas.Bool.{not-true}
use Rattle.plat_base.proofs.LimitLemmas.{limits_of}
use Rattle.plat_base.specs.Machine.{Machine, is_machine}
use Rattle.plat_base.specs.Rules.{has_daemon}
use Rattle.plat_daemon.specs.DaemonSeen.{went_to}
use Rattle.plat_daemon.specs.declared.daemons.Went.{Went}
use Rattle.plat_events.specs.Privates.{actor_count, is_over}
use Rattle.atomic_table.specs.Table.{Me}
use Rattle.atomic_table.specs.Seated.{TableId}
use Rattle.plat_table.specs.declared.actors.Part.{Part}
use Rattle.plat_table.specs.declared.actors.Part.TheVariants as part
use Rattle.plat_table.specs.declared.actors.Actor.{Actor}
use Rattle.plat_table.specs.Actors.{Fits, has_ended, held, place_in, state_in}
use Rattle.plat_table.specs.Riders.{Rides, Rise, AreBehind, HasMoved, HasStepped, is_live_in, is_live_at, numbers_of}
use Rattle.plat_table.specs.Rule.{Held, Known, kept_of, low_half, high_half, both_of}
use Rattle.plat_table.proofs.CrewLemmas.{get-set_same}
use Rattle.plat_table.proofs.RiseLemmas.{Rise-take, Rise-drop, Rise-both, Rise-length, behind-halves}

-- ---- places

pub held-at : (m : Machine) (actors : List Actor) (at : ℕ) (x : Actor) → slice_get actors at ≡ Some x → slice_get
    (map (held m) actors) at ≡ Some (held m x)
held-at m actors at x e = slice_get-map (held m) actors at ∙ ap (option_map (held m)) e

pub number-at : (crew : List Held) (at : ℕ) (h : Held) → slice_get crew at ≡ Some h → slice_get (numbers_of crew) at ≡ Some h.0
number-at crew at h e = slice_get-map (λ (g : Held). g.0) crew at ∙ ap (option_map (λ (g : Held). g.0)) e

-- the place in the private state is the actor's own
pub place-in : (m : Machine) (x : Part) → (state_in m x).place ≡ place_in x
place-in m part.Nobody = refl
place-in m (part.Processor x) = refl
place-in m (part.Daemon x) = refl

-- the actor that was read at a place of the list
pub stands-at :
    (m : Machine) (actors : List Actor) (crew : List Held) (at : ℕ) (x : Actor) → crew ≡ map (held m) actors → at < length crew
    → x ≡ slice_index_or actors at x → slice_get actors at ≡ Some x
stands-at m actors crew at x e within is =
    let long : length crew ≡ length actors = ap length e ∙ length-map actors (held m) in
    slice_get_read actors (length actors) at x refl (omega (arith, within, long)) is

-- ---- what a rider keeps, with other actors

pub crew-of : (me : Me ℕ Known) (actors : List Actor) → Rides me.0.machine me actors → me.0.crew ≡ map (held me.0.machine) actors
crew-of me actors r = ap (λ (x : Me ℕ Known). x.0.crew) r.seat

none-held : (me : Me ℕ Known) (actors : List Actor) → Rides me.0.machine me actors → me.1 ≡ []
none-held me actors r = ap (λ (x : Me ℕ Known). x.1) r.seat

rides-with :
    (me now : Me ℕ Known) (actors xs : List Actor) → Rides me.0.machine me actors
    → now ≡ (record { machine = me.0.machine; crew = map (held me.0.machine) xs }, []) → All (Fits me.0.machine) xs
    → Rise 0 (actor_count me.0.machine) (numbers_of (map (held me.0.machine) xs)) → Rides now.0.machine now xs
rides-with me now actors xs r e fit rise =
    subst (λ (m : Machine). Rides m now xs) (sym (ap (λ (x : Me ℕ Known). x.0.machine) e))
    (record { limits = r.limits; seat = e; fit = fit; rise = rise })

-- ---- one event

numbers-set : (crew : List Held) (at : ℕ) (h k : Held) → slice_get crew at ≡ Some h → k.0 ≡ h.0 → numbers_of
    (set crew at k) ≡ numbers_of crew
numbers-set [] at h k e same = refl
numbers-set (g ∷ gs) zero h k e same =
    let here : g ≡ h = cc in ap (λ n. n ∷ numbers_of gs) (same ∙ ap (λ (x : Held). x.0) (sym here))
numbers-set (g ∷ gs) (suc at) h k e same = ap (λ ns. g.0 ∷ ns) (numbers-set gs at h k e same)

-- what the seat knows is what its actors are, one of which has moved
seat-now :
    (me now : Me ℕ Known) (actors : List Actor) (at : ℕ) (x y : Actor) → Rides me.0.machine me actors → HasMoved at me.0.machine me now x y
    → now ≡ (record { machine = me.0.machine; crew = map (held me.0.machine) (set actors at y) }, [])
seat-now me now actors at x y r moved =
    let m = me.0.machine in
    moved.seat
    ∙ (λ i. (record { machine = m; crew = set (crew-of me actors r i) at (held m y) }, none-held me actors r i))
    ∙ ap (λ (crew : List Held). (record { machine = m; crew = crew }, [])) (sym (map-set (held m) actors at y))

pub rides-moved :
    (me now : Me ℕ Known) (actors : List Actor) (at : ℕ) (x y : Actor) → Rides me.0.machine me actors → slice_get actors at ≡ Some x
    → HasMoved at me.0.machine me now x y → Fits me.0.machine y → Rides now.0.machine now (set actors at y)
rides-moved me now actors at x y r there moved fits =
    let m = me.0.machine in
    rides-with me now actors (set actors at y) r (seat-now me now actors at x y r moved) (All-set (Fits m) actors at y fits r.fit)
    (subst (Rise 0 (actor_count m))
    (sym (ap numbers_of (map-set (held m) actors at y)
    ∙ numbers-set (map (held m) actors) at (held m x) (held m y) (held-at m actors at x there) moved.number))
    r.rise)

pub numbers-moved :
    (me now : Me ℕ Known) (actors : List Actor) (at : ℕ) (x y : Actor) → Rides me.0.machine me actors → slice_get actors at ≡ Some x
    → HasMoved at me.0.machine me now x y → numbers_of now.0.crew ≡ numbers_of me.0.crew
numbers-moved me now actors at x y r there moved =
    let m = me.0.machine in
    let stood : slice_get me.0.crew at ≡ Some (held m x) =
    ap (λ (crew : List Held). slice_get crew at) (crew-of me actors r) ∙ held-at m actors at x there in
    ap (λ (z : Me ℕ Known). numbers_of z.0.crew) moved.seat ∙ numbers-set me.0.crew at (held m x) (held m y) stood moved.number

pub stepped-by :
    (table table_now : TableId) (me now : Me ℕ Known) (actors : List Actor) (at : ℕ) (x y : Actor) → Rides me.0.machine me actors
    → slice_get actors at ≡ Some x → HasMoved at me.0.machine me now x y → table_now ≡ table
    → HasStepped (record { table_id = table; machine = me.0.machine; crew = me.0.crew })
    (record { table_id = table_now; machine = now.0.machine; crew = now.0.crew }) at
stepped-by table table_now me now actors at x y r there moved same =
    let m = me.0.machine in
    let stood : slice_get me.0.crew at ≡ Some (held m x) =
    ap (λ (crew : List Held). slice_get crew at) (crew-of me actors r) ∙ held-at m actors at x there in
    record {
      same = (same, ap (λ (z : Me ℕ Known). z.0.machine) moved.seat);
      before = held m x;
      there = stood;
      now = state_in m y.part;
      event = moved.event;
      crew = ap (λ (z : Me ℕ Known). z.0.crew) moved.seat ∙ ap (λ n. set me.0.crew at (n, state_in m y.part)) moved.number;
    }

pub went-by :
    (me now : Me ℕ Known) (actors : List Actor) (at : ℕ) (x y : Actor) (went : Went) → Rides me.0.machine me actors
    → slice_get actors at ≡ Some x → HasMoved at me.0.machine me now x y → went ≡ went_to (not (has_ended y))
    → went ≡ went_to (is_live_at now.0.crew at)
went-by me now actors at x y went r there moved is =
    let m = me.0.machine in
    let stood : slice_get me.0.crew at ≡ Some (held m x) =
    ap (λ (crew : List Held). slice_get crew at) (crew-of me actors r) ∙ held-at m actors at x there in
    let stands : slice_get now.0.crew at ≡ Some (held m y) =
    ap (λ (z : Me ℕ Known). slice_get z.0.crew at) moved.seat
    ∙ get-set_same me.0.crew at (held m y) (slice_get_within me.0.crew at (held m x) stood) in
    is ∙ ap (λ p. went_to (not (is_over p))) (sym (place-in m y.part)) ∙ ap (λ (o : Option Held). went_to (is_live_in o)) (sym stands)

pub goes-on :
    (m : Machine) (crew : List Held) (at : ℕ) (x : Actor) → slice_get crew at ≡ Some (held m x) → is_live_at crew at ≡ true
    → has_ended x ≡ false
goes-on m crew at x e live =
    ap is_over (sym (place-in m x.part))
    ∙ not-true (is_over (state_in m x.part).place) (ap is_live_in (sym e) ∙ live)

-- ---- halves

kept-same : (m : Machine) (crew : List Held) (actors : List Actor) → crew ≡ map (held m) actors → kept_of crew ≡ kept_of actors
kept-same m crew actors e =
    let long : length crew ≡ length actors = ap length e ∙ length-map actors (held m) in
    ap (λ (n : ℕ). n - n / 2) long

low-crew :
    (m : Machine) (crew : List Held) (actors : List Actor) → crew ≡ map (held m) actors
    → take (kept_of crew) crew ≡ map (held m) (take (kept_of actors) actors)
low-crew m crew actors e =
    ap (λ k. take k crew) (kept-same m crew actors e) ∙ ap (take (kept_of actors)) e ∙ take-map (held m) (kept_of actors) actors

high-crew :
    (m : Machine) (crew : List Held) (actors : List Actor) → crew ≡ map (held m) actors
    → drop (kept_of crew) crew ≡ map (held m) (drop (kept_of actors) actors)
high-crew m crew actors e =
    ap (λ k. drop k crew) (kept-same m crew actors e) ∙ ap (drop (kept_of actors)) e ∙ drop-map (held m) (kept_of actors) actors

low-numbers : (k : ℕ) (crew : List Held) → numbers_of (take k crew) ≡ take k (numbers_of crew)
low-numbers k crew = sym (take-map (λ (h : Held). h.0) k crew)

high-numbers : (k : ℕ) (crew : List Held) → numbers_of (drop k crew) ≡ drop k (numbers_of crew)
high-numbers k crew = sym (drop-map (λ (h : Held). h.0) k crew)

pub rides-low :
    (me now : Me ℕ Known) (actors xs : List Actor) → Rides me.0.machine me actors → now ≡ (low_half me.0, me.1)
    → xs ≡ take (kept_of actors) actors → Rides now.0.machine now xs
rides-low me now actors xs r e is =
    let m = me.0.machine in
    let k = kept_of actors in
    let crew = crew-of me actors r in
    subst (λ (ys : List Actor). Rides now.0.machine now ys) (sym is)
    (rides-with me now actors (take k actors) r
    (e ∙ (λ i. (record { machine = m; crew = low-crew m me.0.crew actors crew i }, none-held me actors r i)))
    (All-take (Fits m) k actors r.fit)
    (subst (Rise 0 (actor_count m))
    (sym (ap numbers_of (sym (take-map (held m) k actors)) ∙ low-numbers k (map (held m) actors)))
    (Rise-take k 0 (actor_count m) (numbers_of (map (held m) actors)) r.rise)))

pub rides-high :
    (me now : Me ℕ Known) (actors xs : List Actor) → Rides me.0.machine me actors → now ≡ (high_half me.0, [])
    → xs ≡ drop (kept_of actors) actors → Rides now.0.machine now xs
rides-high me now actors xs r e is =
    let m = me.0.machine in
    let k = kept_of actors in
    let crew = crew-of me actors r in
    subst (λ (ys : List Actor). Rides now.0.machine now ys) (sym is)
    (rides-with me now actors (drop k actors) r
    (e ∙ (λ i. (record { machine = m; crew = high-crew m me.0.crew actors crew i }, [])))
    (All-drop (Fits m) k actors r.fit)
    (subst (Rise 0 (actor_count m))
    (sym (ap numbers_of (sym (drop-map (held m) k actors)) ∙ high-numbers k (map (held m) actors)))
    (Rise-drop k 0 (actor_count m) (numbers_of (map (held m) actors)) r.rise)))

rise-crew : (me : Me ℕ Known) (actors : List Actor) → Rides me.0.machine me actors → Rise 0 (actor_count me.0.machine)
    (numbers_of me.0.crew)
rise-crew me actors r = subst (λ (crew : List Held). Rise 0 (actor_count me.0.machine) (numbers_of crew)) (sym (crew-of me actors r)) r.rise

pub halves-behind :
    (me now other : Me ℕ Known) (actors : List Actor) → Rides me.0.machine me actors → now ≡ (low_half me.0, me.1)
    → other ≡ (high_half me.0, []) → AreBehind (numbers_of now.0.crew) (numbers_of other.0.crew)
halves-behind me now other actors r low high =
    let k = kept_of me.0.crew in
    subst (λ (z : Me ℕ Known). AreBehind (numbers_of z.0.crew) (numbers_of other.0.crew)) (sym low)
    (subst (λ (z : Me ℕ Known). AreBehind (numbers_of (take k me.0.crew)) (numbers_of z.0.crew)) (sym high)
    (subst (λ ns. AreBehind ns (numbers_of (drop k me.0.crew))) (sym (low-numbers k me.0.crew))
    (subst (λ ns. AreBehind (take k (numbers_of me.0.crew)) ns) (sym (high-numbers k me.0.crew))
    (behind-halves k 0 (actor_count me.0.machine) (numbers_of me.0.crew) (rise-crew me actors r)))))

-- ---- both

both-crew :
    (me other : Me ℕ Known) (actors others : List Actor) → Rides me.0.machine me actors → Rides other.0.machine other others
    → other.0.machine ≡ me.0.machine → me.0.crew ++ other.0.crew ≡ map (held me.0.machine) (actors ++ others)
both-crew me other actors others r s same =
    ap (λ (crew : List Held). crew ++ other.0.crew) (crew-of me actors r)
    ∙ ap (λ (crew : List Held). map (held me.0.machine) actors ++ crew)
    (crew-of other others s ∙ ap (λ (m : Machine). map (held m) others) same)
    ∙ sym (map-append (held me.0.machine) actors others)

both-rise :
    (me other : Me ℕ Known) (actors others : List Actor) → Rides me.0.machine me actors → Rides other.0.machine other others
    → other.0.machine ≡ me.0.machine → AreBehind (numbers_of me.0.crew) (numbers_of other.0.crew)
    → Rise 0 (actor_count me.0.machine) (numbers_of (map (held me.0.machine) (actors ++ others)))
both-rise me other actors others r s same behind =
    subst (Rise 0 (actor_count me.0.machine))
    (sym (map-append (λ (h : Held). h.0) me.0.crew other.0.crew) ∙ ap numbers_of (both-crew me other actors others r s same))
    (Rise-both (actor_count me.0.machine) (numbers_of me.0.crew) (numbers_of other.0.crew) (rise-crew me actors r)
    (subst (λ (m : Machine). Rise 0 (actor_count m) (numbers_of other.0.crew)) same (rise-crew other others s)) behind)

pub rides-both :
    (me other now : Me ℕ Known) (actors others xs : List Actor) → Rides me.0.machine me actors → Rides other.0.machine other others
    → other.0.machine ≡ me.0.machine → AreBehind (numbers_of me.0.crew) (numbers_of other.0.crew)
    → now ≡ (both_of me.0 other.0, me.1) → xs ≡ actors ++ others → Rides now.0.machine now xs
rides-both me other now actors others xs r s same behind e is =
    let m = me.0.machine in
    subst (λ (ys : List Actor). Rides now.0.machine now ys) (sym is)
    (rides-with me now actors (actors ++ others) r
    (e ∙ (λ i. (record { machine = m; crew = both-crew me other actors others r s same i }, none-held me actors r i)))
    (All-append (Fits m) actors others r.fit (subst (λ (mm : Machine). All (Fits mm) others) same s.fit))
    (both-rise me other actors others r s same behind))

count-few : (b : Bool) (n : ℕ) → n ≤ 8 → n + (if b then 1 else 0) ≤ 9
count-few true n h = omega (arith, h)
count-few false n h = omega (arith, h)

pub actors-few : (m : Machine) → IsTrue (is_machine m) → actor_count m ≤ 9
actors-few m limits = count-few (has_daemon m.policy) m.nodes (limits_of m limits).nodes_most

pub both-few :
    (me other : Me ℕ Known) (actors others : List Actor) → Rides me.0.machine me actors → Rides other.0.machine other others
    → other.0.machine ≡ me.0.machine → AreBehind (numbers_of me.0.crew) (numbers_of other.0.crew) → length actors + length others ≤ 9
both-few me other actors others r s same behind =
    let long = Rise-length 0 (actor_count me.0.machine) (numbers_of (map (held me.0.machine) (actors ++ others)))
    (both-rise me other actors others r s same behind) in
    let sum : length (numbers_of (map (held me.0.machine) (actors ++ others))) ≡ length actors + length others =
    length-map (map (held me.0.machine) (actors ++ others)) (λ (h : Held). h.0) ∙ length-map (actors ++ others) (held me.0.machine)
    ∙ length-append actors others in
    omega (arith, long, sum, actors-few me.0.machine r.limits)
