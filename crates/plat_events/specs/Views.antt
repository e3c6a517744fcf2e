-- one processor and one entry, as yes and no: what there is of a translation, of the session on its page, and of the history;
-- and what always holds of these
use Rattle.std.specs.Prelude.{◌≡◌, ◌≢◌, ◌⊎◌, ℕ, ◌==◌, ◌&&◌, not, if◌then◌else◌, Bool, true, false, Option, Some, None, is_some}
use Rattle.std.specs.Option.{option_map_or}
use Rattle.plat_base.specs.Verdicts.{Answer}
use Rattle.plat_base.specs.Machine.{Machine}
use Rattle.plat_base.specs.Pages.{page_of}
use Rattle.plat_base.specs.Copies.{same_frame}
use Rattle.plat_base.specs.Held.{held, has_right, later, removes_all, removes_writes}
use Rattle.plat_base.specs.Directories.{dir_of}
use Rattle.plat_base.specs.Alike.{same_grant, same_bool}
use Rattle.plat_base.specs.declared.frames.Dir.{Dir}
use Rattle.plat_base.specs.declared.frames.State.{State}
use Rattle.plat_base.specs.declared.frames.State.TheVariants.{PresentPlus, Modified}
use Rattle.plat_base.specs.declared.items.Kind.TheVariants.{Store}
use Rattle.plat_base.specs.declared.items.Message.{Message}
use Rattle.plat_base.specs.declared.items.Message.TheVariants as message
use Rattle.plat_base.specs.declared.items.Removed.{Removed}
use Rattle.plat_base.specs.declared.items.Removed.TheVariants.{Nothing, Writes, All}
use Rattle.plat_base.specs.declared.items.Translation.{Translation}
use Rattle.plat_base.specs.declared.words.WordName.TheVariants.{Cmap}
use Rattle.plat_events.specs.Words.{has_invalidate, has_restrict}
use Rattle.plat_events.specs.Sessions.{translation_made}
use Rattle.plat_events.specs.Privates.{Private, translation_at}
use Rattle.plat_events.specs.Standings.{is_quiet, removes_by, has_posted, waits_for, has_given, has_granted, unlocking_of}
use Rattle.plat_events.specs.Kept.{Running, session_on, is_copy_of, is_active, is_usable, message_at, word_at, private_of}
use Rattle.plat_events.specs.Runs.{Fine}

-- whose session runs on the page: nobody's, another actor's, or that of the processor itself
pub data Whose : Type 0 where
  Nobody : Whose
  Another : Whose
  Own : Whose

pub record View : Type 0 where
  pub has : Bool  -- the processor has a translation of the entry
  pub writes : Bool  -- with the right to write
  pub marked : Bool  -- a restrict has lowered it
  pub invalidate : Bool  -- an invalidate waits
  pub restrict : Bool  -- a restrict waits
  pub whose : Whose  -- the session on the page
  pub removes : Removed  -- what it removes
  pub posted : Bool  -- it has posted to the entry
  pub owed : Bool  -- it waits for the processor by this entry, or will
  pub quiet : Bool  -- it has made all posts and passed all targets
  pub granted : Bool  -- it has granted this translation
  pub given : Bool  -- it has given the translation's frame back
  pub active : Bool  -- the processor is active in the entry's space
  pub usable : Bool  -- and no activation scan has still to pass the entry
  pub restricting : Bool  -- the processor is about to apply a restrict to the entry
  pub invalidating : Bool  -- or an invalidate
  pub state : State  -- the state of the page
  pub copy : Bool  -- the translation's frame is a copy of the page
  pub kept : Bool  -- and is kept
  pub mine : Bool  -- the translation is the one that the session grants
  pub all_after : Bool  -- a later change of the page removed all translations
  pub writes_after : Bool  -- a later change of the page removed the right to write

-- ---- what always holds

-- a translation is effective where no invalidate waits, and its right to write where no restrict waits either
pub record EntryOk (v : View) : Type 0 where
  -- a message waits only for a processor with a translation
  pub invalidate_has : v.invalidate ≡ true → v.has ≡ true
  pub restrict_has : v.restrict ≡ true → v.has ≡ true
  -- the translation that the session has granted is its own
  pub eff_granted : v.has ≡ true → v.invalidate ≡ false → v.granted ≡ true → (v.mine ≡ true) × (v.restrict ≡ false)
  -- any other effective one names a kept copy, and none is left where all were removed
  pub eff_kept : v.has ≡ true → v.invalidate ≡ false → v.granted ≡ false → v.kept ≡ true
  pub eff_not_all : v.has ≡ true → v.invalidate ≡ false → v.granted ≡ false → v.posted ≡ true → v.removes ≢ All
  -- the right to write is effective on a modified page alone, and not where the session has posted
  pub eff_modified : v.has ≡ true → v.invalidate ≡ false → v.writes ≡ true → v.restrict ≡ false → v.granted ≡ false → v.state ≡ Modified
  pub eff_unposted : v.has ≡ true → v.invalidate ≡ false → v.writes ≡ true → v.restrict ≡ false → v.granted ≡ false → v.posted ≡ false
  -- an effective one that is marked, or for which a restrict waits, is of a page with several copies, or of one whose session
  -- removes writes; and it never has both
  pub mark_page :
      v.has ≡ true → v.invalidate ≡ false → (v.marked ≡ true) ⊎ (v.restrict ≡ true) →
      (v.state ≡ PresentPlus) ⊎ ((v.posted ≡ true) × (v.removes ≡ Writes))
  pub mark_once : v.has ≡ true → v.invalidate ≡ false → v.marked ≡ true → v.restrict ≡ false
  -- no later change took an effective one away
  pub eff_fresh_all : v.has ≡ true → v.invalidate ≡ false → v.all_after ≡ false
  pub eff_fresh_writes : v.has ≡ true → v.invalidate ≡ false → v.writes ≡ true → v.restrict ≡ false → v.writes_after ≡ false
  -- a usable one with a message belongs to a target that the session waits for, and names a copy
  pub use_owed : v.has ≡ true → v.usable ≡ true → (v.invalidate ≡ true) ⊎ (v.restrict ≡ true) → v.owed ≡ true
  pub use_copy : v.has ≡ true → v.usable ≡ true → (v.invalidate ≡ true) ⊎ (v.restrict ≡ true) → v.copy ≡ true
  pub use_modified : v.has ≡ true → v.usable ≡ true → (v.invalidate ≡ true) ⊎ (v.restrict ≡ true) → v.writes ≡ true → v.state ≡ Modified
  -- no later change took a usable one away
  pub use_fresh_all : v.has ≡ true → v.usable ≡ true → v.all_after ≡ false
  pub use_fresh_writes : v.has ≡ true → v.usable ≡ true → v.writes ≡ true → v.writes_after ≡ false
  -- a restrict that is about to be applied still waits; an invalidate that came behind it is waited for
  pub restrict_stays : v.restricting ≡ true → (v.has ≡ true) × (v.restrict ≡ true) × (v.marked ≡ false)
  pub restrict_owed : v.restricting ≡ true → v.invalidate ≡ true → (v.owed ≡ true) × (v.copy ≡ true) × (v.all_after ≡ false)

-- an invalidate that is about to be applied still waits
pub record InvalidateStays (v : View) : Type 0 where
  pub waits : v.invalidating ≡ true → (v.has ≡ true) × (v.invalidate ≡ true)

-- beside a view, what the history says: the processor holds a translation, with the right to write, and it is the same in
-- frame, number and mark
pub record HeldView : Type 0 where
  pub held : Bool
  pub held_writes : Bool
  pub same : Bool

-- what the history says is what the processor has, but for what its own session has dropped, lowered or granted
pub record HeldOk (v : View) (h : HeldView) : Type 0 where
  pub plain_has : (v.whose ≢ Own) ⊎ (v.posted ≡ false) → v.granted ≡ false → h.held ≡ v.has
  pub plain_writes : (v.whose ≢ Own) ⊎ (v.posted ≡ false) → v.granted ≡ false → v.has ≡ true → h.held_writes ≡ v.writes
  pub plain_same : (v.whose ≢ Own) ⊎ (v.posted ≡ false) → v.granted ≡ false → v.has ≡ true → h.same ≡ true
  pub lowered_has : v.whose ≡ Own → v.posted ≡ true → v.removes ≡ Writes → v.granted ≡ false → h.held ≡ v.has
  pub lowered_same : v.whose ≡ Own → v.posted ≡ true → v.removes ≡ Writes → v.granted ≡ false → v.has ≡ true → h.same ≡ true
  pub lowered_right : v.whose ≡ Own → v.posted ≡ true → v.removes ≡ Writes → v.granted ≡ false → v.has ≡ true → v.writes ≡ false
  pub dropped : v.whose ≡ Own → v.posted ≡ true → v.removes ≡ All → v.granted ≡ false → v.has ≡ false

-- ---- from a state to a view

-- what a session on the page means for a processor and an entry
pub record SessionView : Type 0 where
  pub whose : Whose
  pub removes : Removed
  pub posted : Bool
  pub owed : Bool
  pub quiet : Bool
  pub granted : Bool
  pub given : Bool
  pub mine : Bool

abbrev pub no_session : SessionView
no_session = record {
  whose = Nobody;
  removes = Nothing;
  posted = false;
  owed = false;
  quiet = false;
  granted = false;
  given = false;
  mine = false;
}

abbrev pub is_marked : Option Translation → Bool
is_marked t = option_map_or (λ (x : Translation). x.restricted) t false

abbrev pub same_translation : Translation → Translation → Bool
same_translation t u = same_grant t.grant u.grant && t.seq == u.seq && same_bool t.restricted u.restricted

-- the translation is the one that the session grants
abbrev pub is_granted_by : Machine → Answer → Running → (entry : ℕ) → Option Translation → Bool
is_granted_by m answer r e t =
    option_map_or
    (λ x. option_map_or
    (λ c. same_translation x (translation_made m answer r.actor r.now r.session c e)) (unlocking_of r.session.phase) false)
    t false

abbrev pub session_viewed : Machine → Answer → (q entry : ℕ) → Option Translation → Running → SessionView
session_viewed m answer q e t r =
    let granted = r.actor == q && has_granted r.session e
    in record {
      whose = if r.actor == q then Own else Another;
      removes = removes_by m answer r.actor r.now r.session;
      posted = has_posted m answer r.actor r.now r.session e;
      owed = waits_for m r.actor r.session e q;
      quiet = is_quiet r.session.phase;
      granted = granted;
      given = option_map_or (λ (x : Translation). has_given m answer r.actor r.now r.session x.grant.frame) t false;
      mine = granted && is_granted_by m answer r e t;
    }

abbrev pub session_view : Machine → Answer → (q entry : ℕ) → Option Translation → Option Running → SessionView
session_view m answer q e t None = no_session
session_view m answer q e t (Some r) = session_viewed m answer q e t r

-- where the processor stands to the entry
pub record PlaceView : Type 0 where
  pub active : Bool
  pub usable : Bool
  pub restricting : Bool
  pub invalidating : Bool

abbrev pub is_restrict : Message → Bool
is_restrict message.Invalidate = false
is_restrict message.Restrict = true

abbrev pub is_about_to : Machine → Private → (entry : ℕ) → (Message → Bool) → Bool
is_about_to m p e test = option_map_or (λ (x : ℕ × Message). x.0 == e && test x.1) (message_at m p p.place) false

abbrev pub place_view : Machine → Private → (entry : ℕ) → PlaceView
place_view m p e = record {
  active = is_active m p e;
  usable = is_usable m p e;
  restricting = is_about_to m p e is_restrict;
  invalidating = is_about_to m p e (λ msg. not (is_restrict msg));
}

-- what the history says of the page and of the translation
pub record PageView : Type 0 where
  pub dir : Dir
  pub all_after : Bool
  pub writes_after : Bool

abbrev pub page_view : Machine → Fine → (page : ℕ) → Option Translation → PageView
page_view m s page t = record {
  dir = dir_of s.history page;
  all_after = option_map_or (λ (x : Translation). later removes_all s.history page x.seq) t false;
  writes_after = option_map_or (λ (x : Translation). later removes_writes s.history page x.seq) t false;
}

abbrev pub names_copy : Dir → Option Translation → Bool
names_copy dir t = option_map_or (λ (x : Translation). is_copy_of dir.copies x.grant.frame) t false

-- the view of these parts; mask is the word of the entry
abbrev pub view_of : (q : ℕ) → Option Translation → (mask : ℕ) → SessionView → PlaceView → PageView → View
view_of q t mask sv pv gv = record {
  has = is_some t;
  writes = has_right Store t;
  marked = is_marked t;
  invalidate = has_invalidate mask q;
  restrict = has_restrict mask q;
  whose = sv.whose;
  removes = sv.removes;
  posted = sv.posted;
  owed = sv.owed;
  quiet = sv.quiet;
  granted = sv.granted;
  given = sv.given;
  active = pv.active;
  usable = pv.usable;
  restricting = pv.restricting;
  invalidating = pv.invalidating;
  state = gv.dir.state;
  copy = names_copy gv.dir t;
  kept = names_copy gv.dir t && not sv.given;
  mine = sv.mine;
  all_after = gv.all_after;
  writes_after = gv.writes_after;
}

abbrev pub translation_of : Machine → Fine → (q entry : ℕ) → Option Translation
translation_of m s q e = translation_at (private_of m s q) e

-- the view of processor q and an entry
abbrev pub view : Machine → Answer → Fine → (q entry : ℕ) → View
view m answer s q e =
    let t = translation_of m s q e
    in view_of q t (word_at m s (Cmap e)) (session_view m answer q e t (session_on s.privates (page_of m e)))
    (place_view m (private_of m s q) e) (page_view m s (page_of m e) t)

abbrev pub same_but_right : Translation → Translation → Bool
same_but_right t u = same_frame t.grant.frame u.grant.frame && t.seq == u.seq && same_bool t.restricted u.restricted

abbrev pub agrees : Option Translation → Option Translation → Bool
agrees t u = option_map_or (λ x. option_map_or (same_but_right x) u false) t false

abbrev pub held_view : Machine → Fine → (q entry : ℕ) → HeldView
held_view m s q e =
    let h = held m s.history q e
    in record { held = is_some h; held_writes = has_right Store h; same = agrees (translation_of m s q e) h }
