use Rattle.std.proofs.Common.{◌≡◌, ℕ, ◌+◌, ◌*◌, ◌<◌, ◌≤◌, true, false, List, [], ◌∷◌, ◌++◌, length, replicate, ap, sym, ◌∙◌, refl, subst}
use Rattle.std.proofs.Common.{arith, length-append, length-set}
use Rattle.std.specs.Prelude.{IsTrue, ⊤, slice_index, slice_index_or, slice_set}
use Rattle.std.specs.List.{sum}
use Rattle.std.proofs.lemmas.List.{length-replicate}
use Rattle.plat_base.specs.Rooms.{journal_rooms, fit_rooms}
use Rattle.plat_base.specs.Seen.{machine}
use Rattle.plat_base.specs.declared.configs.Config.{Config}
use Rattle.plat_base.specs.declared.limits.TheConstants.{MOST_ITEMS}
use Rattle.plat_events.specs.Merges.{Journals, items_left}
use Rattle.plat_merge.specs.declared.totals.Totals.{Totals}
use Rattle.plat_merge.specs.RoomSeen.{RoomSeen, HaveGoodHistory}
use Rattle.plat_merge.specs.Counts.{no_page, is_within, stands_by}
use Rattle.plat_merge.specs.Keys.{AreBlank, HaveRows}
use Rattle.plat_merge.specs.Heads.{head_passes}
use Rattle.plat_merge.specs.Placing.{words_placed}
use Rattle.plat_merge.proofs.HeadLemmas.{get-some, passes-head, one-left, at-none}
use Rattle.plat_merge.proofs.RoomLemmas.{rooms-few}
use Rattle.plat_merge.proofs.TotalLemmas.{totals-known}
use Rattle.plat_merge.proofs.StartLemmas.{IsMerging, AreMergeable, mergeable, start-shown, merging-start, merging-none, merging-next}
use Rattle.plat_merge.proofs.StartLemmas.{merging-place, merging-within}
use Rattle.plat_merge.proofs.merging.merge.Goals as goal

-- the journals may be merged
ready : (cfg : Config) (rooms : List ℕ) (lists : Journals) → rooms ≡ journal_rooms (machine cfg) → HaveGoodHistory (machine cfg) lists
    → IsTrue (fit_rooms rooms lists) → AreMergeable (machine cfg) lists
ready cfg rooms lists made good fits = mergeable (machine cfg) lists cfg.limits good (subst (λ rs. IsTrue (fit_rooms rs lists)) made fits)

most_is : MOST_ITEMS ≡ 2621440
most_is = refl

-- tables with room for more items are blank for fewer
blank-less : (more fewer : ℕ) (t : Totals) → fewer ≤ more → AreBlank more t → AreBlank fewer t
blank-less more fewer t l b = record {
  loads = record { ones = b.loads.ones; zeros = b.loads.zeros; room = omega (arith, l, b.loads.room) };
  uses = record { ones = b.uses.ones; zeros = b.uses.zeros; room = omega (arith, l, b.uses.room) };
  writes = record { ones = b.writes.ones; zeros = b.writes.zeros; room = omega (arith, l, b.writes.room) };
  few_loads = b.few_loads;
  few_uses = b.few_uses;
  few_writes = b.few_writes;
}

pub gather-requires-clause-within : goal.gather-requires-clause-within
gather-requires-clause-within c =
    (ready c.args.cfg.now c.args.journals.now.rooms c.args.journals.now.lists c.requires.made c.requires.good
    c.of-first.ensures.fits).within

pub gather-requires-clause-few : goal.gather-requires-clause-few
gather-requires-clause-few c =
    let r = ready c.args.cfg.now c.args.journals.now.rooms c.args.journals.now.lists c.requires.made c.requires.good
    c.of-first.ensures.fits in
    omega (arith, r.left, r.few, most_is)

pub gather-requires-clause-blank : goal.gather-requires-clause-blank
gather-requires-clause-blank c =
    let lists = c.args.journals.now.lists in
    let r = ready c.args.cfg.now c.args.journals.now.rooms lists c.requires.made c.requires.good c.of-first.ensures.fits in
    blank-less c.room.inside.most (items_left lists) c.room.inside.totals
    (omega (arith, r.left, ap (λ (x : RoomSeen). x.items) c.room.view_is, c.requires.room.items)) c.room.invariant.tables

pub loop-init : goal.loop-init
loop-init c =
    let m = machine c.args.cfg.now in
    let lists = c.args.journals.now.lists in
    let t = c.gather.new.self in
    let r = ready c.args.cfg.now c.args.journals.now.rooms lists c.requires.made c.requires.good c.of-first.ensures.fits in
    let most : c.room.inside.most ≡ sum (journal_rooms m) =
    omega (arith, ap (λ (x : RoomSeen). x.items) c.room.view_is, c.requires.room.items) in
    let pages : c.room.inside.pages ≡ c.args.cfg.now.pages =
    omega (arith, ap (λ (x : RoomSeen). x.pages) c.room.view_is, c.requires.room.pages) in
    let words : c.room.inside.counts.page_words ≡ c.args.cfg.now.words =
    omega (arith, ap (λ (x : RoomSeen). x.words) c.room.view_is, c.requires.room.words) in
    let rows : HaveRows m.pages m.words c.room.inside.totals =
    subst (λ n. HaveRows n m.words c.room.inside.totals) pages
    (subst (λ n. HaveRows c.room.inside.pages n c.room.inside.totals) words c.room.invariant.rows) in
    let knows = totals-known m r.items r.items_within r.answer r.kept lists r.has c.room.inside.totals t rows c.gather.ensures in
    let all_pages : length c.room.inside.counts.pages.items ≡ c.args.cfg.now.pages = ap length c.room.invariant.blank
    ∙ (length-replicate c.room.inside.pages no_page ∙ pages) in
    let size : length c.begin.new.self.words.items ≡ c.args.cfg.now.pages * c.args.cfg.now.words =
    c.begin.ensures.size
    ∙ (c.room.inside.counts.fits.all_words
    ∙ (ap (λ n. n * c.room.inside.counts.page_words) all_pages ∙ ap (λ w. c.args.cfg.now.pages * w) words)) in
    let blank = c.begin.ensures.pages ∙ (c.room.invariant.blank ∙ ap (λ n. replicate n no_page) pages) in
    let shows = start-shown m t r.items c.begin.new.self.words.items c.begin.new.self.pages.items knows size blank
    (λ cell l. c.begin.ensures.words cell (omega (arith, l, c.begin.ensures.size))) in
    let way = merging-start m r.answer t lists r.items c.begin.new.self.words.items c.begin.new.self.pages.items 9 c.room.inside.most r.has
    r.kept r.items_within knows shows (omega (arith, r.left, most)) in
    record {
      way =
          subst (λ ps. IsMerging m t lists (0 ∷ 0 ∷ 0 ∷ 0 ∷ 0 ∷ 0 ∷ 0 ∷ 0 ∷ 0 ∷ []) ps c.begin.new.self.words.items
          c.begin.new.self.pages.items c.room.inside.most)
          (sym c.room.invariant.empty) way;
      same = c.begin.ensures.same ∙ words;
      placed = ap length c.room.invariant.empty;
      spare = omega (arith, c.room.invariant.room);
      places = refl;
    }

pub ready_actor-requires-clause-few : goal.ready_actor-requires-clause-few
ready_actor-requires-clause-few c = omega (arith, ap length c.requires.made, rooms-few (machine c.args.cfg.now) c.args.cfg.now.limits)

pub ready_actor-requires-clause-within : goal.ready_actor-requires-clause-within
ready_actor-requires-clause-within c = λ actor i h.
    let m = machine c.args.cfg.now in
    let there = merging-within m c.gather.new.self c.args.journals.now.lists c.loop.next c.loop.placed.items c.loop.counts.words.items
    c.loop.counts.pages.items c.room.inside.most c.loop.invariant.way actor i h in
    subst (λ n. IsTrue (is_within n c.loop.counts.page_words i)) (sym c.loop.invariant.way.way.shows.all_pages)
    (subst (λ w. IsTrue (is_within m.pages w i)) (sym c.loop.invariant.same) there)

pub returns-in_default : goal.returns-in_default
returns-in_default c =
    let m = machine c.args.cfg.now in
    let lists = c.args.journals.now.lists in
    let r = ready c.args.cfg.now c.args.journals.now.rooms lists c.requires.made c.requires.good c.of-first.ensures.fits in
    let size : length lists ≡ c.actors-actors.result = r.lists ∙ sym c.actors-actors.ensures in
    let none =
    at-none
    ((k : ℕ) → k < c.actors-actors.result →
    head_passes (stands_by c.loop.counts.page_words c.loop.counts.words.items c.loop.counts.pages.items) lists c.loop.next k ≡ false)
    (λ _. ⊤) c.ready_actor.result c.ready_actor.ensures.none c.in_default.not-Some in
    sym (merging-none m c.gather.new.self lists c.loop.next c.loop.placed.items c.loop.counts.words.items c.loop.counts.pages.items
    c.room.inside.most c.actors-actors.result c.loop.invariant.way size
    (subst (λ w. (k : ℕ) → k < c.actors-actors.result →
    head_passes (stands_by w c.loop.counts.words.items c.loop.counts.pages.items) lists c.loop.next k ≡ false) c.loop.invariant.same
    none))

pub bounds-next-actor : goal.bounds-next-actor
bounds-next-actor c = omega (
  arith,
  c.in-Some.ensures.actor,
  c.actors-actors.ensures,
  rooms-few (machine c.args.cfg.now) c.args.cfg.now.limits,
)

pub offset_bounds-of-next : goal.offset_bounds-of-next
offset_bounds-of-next c =
    let lists = c.args.journals.now.lists in
    let r = ready c.args.cfg.now c.args.journals.now.rooms lists c.requires.made c.requires.good c.of-first.ensures.fits in
    let head = passes-head (stands_by c.loop.counts.page_words c.loop.counts.words.items c.loop.counts.pages.items) lists c.loop.next
    c.in-Some.actor c.in-Some.ensures.some in
    omega (arith, head, one-left lists c.in-Some.actor, r.left, r.few)

pub bounds-of-next : goal.bounds-of-next
bounds-of-next c =
    let lists = c.args.journals.now.lists in
    let head = passes-head (stands_by c.loop.counts.page_words c.loop.counts.words.items c.loop.counts.pages.items) lists c.loop.next
    c.in-Some.actor c.in-Some.ensures.some in
    omega (arith, head, ap length c.of.ensures.value)

pub place-requires : goal.place-requires
place-requires c =
    let m = machine c.args.cfg.now in
    let lists = c.args.journals.now.lists in
    let r = ready c.args.cfg.now c.args.journals.now.rooms lists c.requires.made c.requires.good c.of-first.ensures.fits in
    let a = c.in-Some.actor in
    let i = c.index-of-next.result in
    let head = passes-head (stands_by c.loop.counts.page_words c.loop.counts.words.items c.loop.counts.pages.items) lists c.loop.next a
    c.in-Some.ensures.some in
    let h = get-some (slice_index_or lists a []) (slice_index c.loop.next a) i head (c.index-of-next.is
    ∙ ap (λ j. slice_index_or j (slice_index c.loop.next a) i) c.of.ensures.value) in
    let chosen = subst (λ w. head_passes (stands_by w c.loop.counts.words.items c.loop.counts.pages.items) lists c.loop.next a ≡ true)
    c.loop.invariant.same c.in-Some.ensures.some in
    let lower = subst (λ w. (k : ℕ) → k < a →
    head_passes (stands_by w c.loop.counts.words.items c.loop.counts.pages.items) lists c.loop.next k ≡ false) c.loop.invariant.same
    c.in-Some.ensures.lowest in
    merging-place m c.gather.new.self lists c.loop.next c.loop.placed.items c.loop.counts c.room.inside.most c.loop.invariant.way a i h
    chosen lower
    (omega (arith, c.in-Some.ensures.actor, c.actors-actors.ensures, r.lists))
    (omega (arith, c.in-Some.ensures.actor, c.actors-actors.ensures, rooms-few m c.args.cfg.now.limits, c.loop.invariant.places))
    c.loop.invariant.same (omega (arith, ap (λ (x : RoomSeen). x.items) c.room.view_is, c.requires.room.items, r.few, most_is))

pub bounds-next-actor-in-loop : goal.bounds-next-actor-in-loop
bounds-next-actor-in-loop c = omega (
  arith,
  c.in-Some.ensures.actor,
  c.actors-actors.ensures,
  rooms-few (machine c.args.cfg.now) c.args.cfg.now.limits,
)

pub overflow_add-next : goal.overflow_add-next
overflow_add-next c =
    let lists = c.args.journals.now.lists in
    let r = ready c.args.cfg.now c.args.journals.now.rooms lists c.requires.made c.requires.good c.of-first.ensures.fits in
    let head = passes-head (stands_by c.loop.counts.page_words c.loop.counts.words.items c.loop.counts.pages.items) lists c.loop.next
    c.in-Some.actor c.in-Some.ensures.some in
    omega (arith, head, one-left lists c.in-Some.actor, r.left, r.few)

pub bounds-next-actor-in-loop-2 : goal.bounds-next-actor-in-loop-2
bounds-next-actor-in-loop-2 c =
    omega (arith, c.in-Some.ensures.actor, c.actors-actors.ensures, rooms-few (machine c.args.cfg.now) c.args.cfg.now.limits)

pub loop-preserved : goal.loop-preserved
loop-preserved c =
    let m = machine c.args.cfg.now in
    let t = c.gather.new.self in
    let lists = c.args.journals.now.lists in
    let r = ready c.args.cfg.now c.args.journals.now.rooms lists c.requires.made c.requires.good c.of-first.ensures.fits in
    let a = c.in-Some.actor in
    let i = c.index-of-next.result in
    let head = passes-head (stands_by c.loop.counts.page_words c.loop.counts.words.items c.loop.counts.pages.items) lists c.loop.next a
    c.in-Some.ensures.some in
    let h = get-some (slice_index_or lists a []) (slice_index c.loop.next a) i head (c.index-of-next.is
    ∙ ap (λ j. slice_index_or j (slice_index c.loop.next a) i) c.of.ensures.value) in
    let chosen = subst (λ w. head_passes (stands_by w c.loop.counts.words.items c.loop.counts.pages.items) lists c.loop.next a ≡ true)
    c.loop.invariant.same c.in-Some.ensures.some in
    let lower = subst (λ w. (k : ℕ) → k < a →
    head_passes (stands_by w c.loop.counts.words.items c.loop.counts.pages.items) lists c.loop.next k ≡ false) c.loop.invariant.same
    c.in-Some.ensures.lowest in
    let next = slice_set c.loop.next a (slice_index c.loop.next a + 1) in
    let way = merging-next m t lists c.loop.next c.loop.placed.items c.loop.counts.words.items c.loop.counts.pages.items c.room.inside.most
    c.loop.invariant.way a i h chosen lower
    (omega (arith, c.in-Some.ensures.actor, c.actors-actors.ensures, r.lists))
    (omega (arith, c.in-Some.ensures.actor, c.actors-actors.ensures, rooms-few m c.args.cfg.now.limits, c.loop.invariant.places)) in
    let words = c.place.ensures.words ∙ ap (λ w. words_placed w t c.loop.counts.words.items i) c.loop.invariant.same in
    record {
      way =
          subst (λ ps. IsMerging m t lists next ps c.place.new.counts.words.items c.place.new.counts.pages.items c.room.inside.most)
          (sym c.push.ensures.items)
          (subst (λ ws. IsMerging m t lists next (c.loop.placed.items ++ i ∷ []) ws c.place.new.counts.pages.items c.room.inside.most)
          (sym words)
          (subst (λ ps. IsMerging m t lists next (c.loop.placed.items ++ i ∷ []) (words_placed m.words t c.loop.counts.words.items i) ps
          c.room.inside.most) (sym c.place.ensures.pages) way));
      same = c.place.ensures.same ∙ c.loop.invariant.same;
      placed = omega (arith, ap length c.push.ensures.items, length-append c.loop.placed.items (i ∷ []), c.loop.invariant.placed);
      spare = omega (
        arith,
        ap length c.push.ensures.items,
        length-append c.loop.placed.items (i ∷ []),
        c.push.ensures.spare,
        c.loop.invariant.spare,
      );
      places = length-set c.loop.next a (slice_index c.loop.next a + 1) ∙ c.loop.invariant.places;
    }
