-- a processor's fits are kept by each operation, and what they say of its next operation
use Rattle.std.proofs.Common.{◌≡◌, ℕ, ◌<◌, ◌≤◌, ◌+◌, true, [], ◌∷◌, length, Some, None, refl, ap, sym, subst, ◌∙◌, arith}
use Rattle.std.specs.Prelude.{IfSome, IsTrue}
use Rattle.std.proofs.lemmas.List.{length-append}
use Rattle.plat_base.specs.Machine.{Machine, is_machine}
use Rattle.plat_base.specs.Rooms.{processor_room}
use Rattle.plat_base.specs.declared.items.Item.{Item}
use Rattle.plat_base.specs.declared.words.Op.{Op}
use Rattle.plat_base.specs.declared.words.WordName.{WordName}
use Rattle.plat_events.specs.Places.{is_name}
use Rattle.plat_events.specs.Privates.{Private, actor_count, first_private}
use Rattle.plat_events.specs.Events.{item_at, with_item}
use Rattle.plat_events.specs.Shown.{IsReachedAlone}
use Rattle.plat_handler.specs.Phases.{answer_of}
use Rattle.plat_local_laws.specs.Alone.{PrivateOk}
use Rattle.plat_local_laws.specs.Words.{NamesWord}
use Rattle.plat_local_laws.proofs.AloneLaws.{alone-after, alone-first}
use Rattle.plat_local_laws.proofs.CountLaws.{counts-room}
use Rattle.plat_local_laws.proofs.NameLaws.{names_word}
use Rattle.plat_local_laws.proofs.PrivateLaws.{counts-of, private_ok}
use Rattle.plat_pmap.specs.Slots.{no_slots}
use Rattle.plat_proc.specs.Cached.{slots_told, slots_followed}
use Rattle.plat_proc.specs.Fits.{Fits, IsHandling}
use Rattle.plat_proc.specs.Followed.{next_named, is_told, told_to, followed_next}
use Rattle.plat_proc.specs.ProcSeen.{ProcSeen}
use Rattle.plat_proc.proofs.SlotsKeptLemmas.{told-are}
use Rattle.plat_proc.proofs.CacheLemmas.{cache-told, slots-followed, told-followed}
use Rattle.plat_proc.proofs.CacheMovedLemmas.{empty-fits}

-- an operation leads to a private state that the processor alone comes to
pub reached-told : (m : Machine) (x : ProcSeen) (n : ℕ) → Fits m x → IsReachedAlone m (answer_of m) x.actor (told_to m x n)
reached-told m x n f = alone-after m (answer_of m) x.actor x.state n f.alone

actor-counts : (m : Machine) (x : ProcSeen) → Fits m x → x.actor < actor_count m
actor-counts m x f = let l = f.processor in omega (arith, l)

-- the local facts of where it stands
pub stands : (m : Machine) (x : ProcSeen) → IsTrue (is_machine m) → Fits m x → PrivateOk m (answer_of m) x.actor x.state
stands m x h f = private_ok m (answer_of m) x.actor x.state h (actor-counts m x f) f.alone

-- the word of its next operation is one of the machine
pub names :
    (m : Machine) (x : ProcSeen) (name : WordName × Op) → IsTrue (is_machine m) → Fits m x → next_named m x ≡ Some name
    → IsTrue (is_name m name.0)
names m x name h f e = subst (NamesWord m) e (names_word m (answer_of m) x.actor x.state h (actor-counts m x f) f.alone)

-- an item that its next operation makes has room
pub room-left :
    (m : Machine) (x : ProcSeen) (n : ℕ) (i : Item) → IsTrue (is_machine m) → Fits m x → is_told m x n ≡ true
    → item_at m (answer_of m) x.actor x.state n x.state.place ≡ Some i → length x.state.journal < x.room
room-left m x n i h f e k =
    let p = told_to m x n in
    let ok = private_ok m (answer_of m) x.actor p h (actor-counts m x f) (reached-told m x n f) in
    let more : length p.journal ≡ length x.state.journal + 1 =
    ap (λ (q : Private). length q.journal) (told-followed m x n e) ∙ ap (λ o. length (with_item x.state.journal o)) k
    ∙ length-append x.state.journal (i ∷ []) in
    let room = f.room in
    omega (arith, more, room, ok.standing.turns_most, counts-room p (counts-of m x.actor p ok.numbers f.processor))

-- each operation keeps the fits of a processor, whose handler is the code's own
pub fits-told :
    (m : Machine) (x y : ProcSeen) (n : ℕ) → IsTrue (is_machine m) → Fits m x → y.actor ≡ x.actor
    → y.room ≡ x.room → y.state ≡ told_to m x n → y.slots ≡ slots_told m x n
    → IfSome y.handler (IsHandling m y.actor y.state) → Fits m y
fits-told m x y n h f a r p s k = record {
  processor = rw a f.processor;
  room = rw r f.room;
  alone = rw (a, p) (reached-told m x n f);
  handling = k;
  slots = rw s (told-are m x n f.slots);
  cache = rw (a, p, s) (cache-told m x n h f f.slots);
}

-- and so where the machine may have what it told
pub fits-followed :
    (m : Machine) (x y : ProcSeen) (n : ℕ) → IsTrue (is_machine m) → Fits m x → is_told m x n ≡ true
    → y.actor ≡ x.actor → y.room ≡ x.room → y.state ≡ followed_next m x n → y.slots ≡ slots_followed m x
    → IfSome y.handler (IsHandling m y.actor y.state) → Fits m y
fits-followed m x y n h f e a r p s k =
    fits-told m x y n h f a r (p ∙ sym (told-followed m x n e)) (s ∙ sym (slots-followed m x n e)) k

-- a processor before its first turn
pub first-fits :
    (m : Machine) (a room : ℕ) → a < m.nodes → processor_room m.budget ≤ room
    → Fits m (record { actor = a; state = first_private m a; room = room; slots = no_slots; handler = None })
first-fits m a room l r = record {
  processor = l;
  room = r;
  alone = alone-first m (answer_of m) a;
  handling = tt;
  slots = record { eight = refl; usable = refl };
  cache = empty-fits m a (first_private m a);
}
