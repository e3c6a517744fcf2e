-- sessions before their first post: how a processor and an entry see them begin, go on and end
use Rattle.std.specs.Prelude.{ℕ, ◌<◌, ◌==◌, ◌&&◌, Option}
use Rattle.std.proofs.Common.{◌≡◌, Bool, false, arith, refl, ap, sym, ◌∙◌, subst}
use Rattle.std.specs.Option.{option_map_or}
use Rattle.std.proofs.Math.Bool.{and-false}
use Rattle.plat_base.specs.Verdicts.{Answer}
use Rattle.plat_base.specs.Machine.{Machine}
use Rattle.plat_base.specs.Pages.{page_of}
use Rattle.plat_base.specs.declared.frames.Frame.{Frame}
use Rattle.plat_base.specs.declared.items.Removed.{Removed}
use Rattle.plat_base.specs.declared.items.Translation.{Translation}
use Rattle.plat_base.specs.declared.words.WordName.TheVariants as word
use Rattle.plat_events.specs.Places.{entry_count}
use Rattle.plat_events.specs.Sessions.{Stamp, Course, Phase, Session, translation_made, with_phase}
use Rattle.plat_events.specs.Kept.{Running, session_on, word_at, private_of}
use Rattle.plat_events.specs.Views.{View, Whose, SessionView, PlaceView, PageView, EntryOk, HeldView, HeldOk, no_session, session_viewed}
use Rattle.plat_events.specs.Views.{same_translation, view_of, session_view, held_view, place_view, page_view, translation_of}
use Rattle.plat_events.specs.Runs.{Fine}
use Rattle.plat_events.specs.Shown.{Shows}
use Rattle.plat_frame_laws.specs.Phased.{running}
use Rattle.plat_frame_laws.specs.StartPhases.{StartPhase}
use Rattle.plat_frame_laws.proofs.StartGoesLaws.{unposted, unowed, ungiven}
use Rattle.plat_session_laws.specs.OnePage.{IsUnposted, ViewOk}

pub unposted-none : IsUnposted no_session
unposted-none = record { posted = refl; owed = refl; granted = refl; given = refl; mine = refl }

module _ (m : Machine) (answer : Answer) (a now : ℕ) (x : Session) (st : Stamp) (got : Option Frame) (ph : Phase)
    (is : StartPhase m answer a now x st got ph) (q e : ℕ) (t : Option Translation) where
  ungranted : (session_viewed m answer q e t (running a now (with_phase x ph))).granted ≡ false
  ungranted =
      ap (λ (o : Option Course). a == q && option_map_or (λ (d : Course). option_map_or (λ y. y == e) x.fault.entry false) o false)
      is.unlocking
      ∙ and-false (a == q)

  pub unposted-start : IsUnposted (session_viewed m answer q e t (running a now (with_phase x ph)))
  unposted-start = record {
    posted = unposted m answer a now x st got ph is e;
    owed = unowed m answer a now x st got ph is e q;
    granted = ungranted;
    given = ungiven m answer a now x st got ph is t;
    mine =
        λ i. ungranted i
        && option_map_or
        (λ y. option_map_or (λ d. same_translation y (translation_made m answer a now x d e)) (is.unlocking i) false) t false;
  }

-- ---- one such session gives way to another

-- the view with whose session runs on the page, what it removes, and whether it is quiet
abbrev turned : Whose → Removed → (quiet : Bool) → View → View
turned w r b v = record v { whose = w; removes = r; quiet = b }

turned_ok : (v : View) (w : Whose) (r : Removed) (b : Bool) → EntryOk v → v.posted ≡ false → EntryOk (turned w r b v)
turned_ok v w r b ok h0 = search arith

turned_held : (v : View) (h : HeldView) (w : Whose) (r : Removed) (b : Bool) → HeldOk v h → v.posted ≡ false → HeldOk (turned w r b v) h
turned_held v h w r b ok h0 = search arith

turned-views :
    (q : ℕ) (t : Option Translation) (mask : ℕ) (x y : SessionView) (pv : PlaceView) (gv : PageView) (h : HeldView) → IsUnposted x →
    IsUnposted y → ViewOk (view_of q t mask x pv gv) h → ViewOk (view_of q t mask y pv gv) h
turned-views q t mask x y pv gv h from to view =
    let same : view_of q t mask y pv gv ≡ turned y.whose y.removes y.quiet (view_of q t mask x pv gv) = turn in
    record {
      ok = rw same (turned_ok (view_of q t mask x pv gv) y.whose y.removes y.quiet view.ok from.posted);
      waits = rw same (record { waits = view.waits.waits });
      held = rw same (turned_held (view_of q t mask x pv gv) h y.whose y.removes y.quiet view.held from.posted);
    }
  where
    turn : view_of q t mask y pv gv ≡ turned y.whose y.removes y.quiet (view_of q t mask x pv gv)
    turn = λ i.
        view_of q t mask
        (record {
          whose = y.whose;
          removes = y.removes;
          posted = (to.posted ∙ sym from.posted) i;
          owed = (to.owed ∙ sym from.owed) i;
          quiet = y.quiet;
          granted = (to.granted ∙ sym from.granted) i;
          given = (to.given ∙ sym from.given) i;
          mine = (to.mine ∙ sym from.mine) i;
        })
        pv gv

-- so each view stays as it has to be where the session of its page, or none, gives way to another, or to none
pub given-way :
    (m : Machine) (answer : Answer) (s : Fine) (q e : ℕ) (old new : Option Running) → Shows m answer s → q < m.nodes → e < entry_count m →
    session_on s.privates (page_of m e) ≡ old → IsUnposted (session_view m answer q e (translation_of m s q e) old) →
    IsUnposted (session_view m answer q e (translation_of m s q e) new) →
    ViewOk
    (view_of q (translation_of m s q e) (word_at m s (word.Cmap e)) (session_view m answer q e (translation_of m s q e) new)
    (place_view m (private_of m s q) e) (page_view m s (page_of m e) (translation_of m s q e)))
    (held_view m s q e)
given-way m answer s q e old new shows node below on from to =
    turned-views q (translation_of m s q e) (word_at m s (word.Cmap e)) (session_view m answer q e (translation_of m s q e) old)
    (session_view m answer q e (translation_of m s q e) new) (place_view m (private_of m s q) e)
    (page_view m s (page_of m e) (translation_of m s q e)) (held_view m s q e) from to
    (subst (λ v. ViewOk v (held_view m s q e))
    (ap
    (λ o. view_of q (translation_of m s q e) (word_at m s (word.Cmap e)) (session_view m answer q e (translation_of m s q e) o)
    (place_view m (private_of m s q) e) (page_view m s (page_of m e) (translation_of m s q e)))
    on)
    (record {
      ok = shows.views q e node below;
      waits = shows.invalidates_stay q e node below;
      held = shows.held_is_pmap q e node below;
    }))
