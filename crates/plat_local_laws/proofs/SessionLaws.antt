-- sessions: where each operation leads
use Rattle.std.proofs.Common.{◌≡◌, ℕ, ◌+◌, ◌*◌, ◌/◌, ◌^◌, ◌<◌, ◌≤◌, true, false, List, length, Some, None, refl, arith, ap, subst, inl, inr}
use Rattle.std.specs.Prelude.{◌==◌, nat_lt, if◌then◌else◌, IsTrue, Option, unwrap_or}
use Rattle.std.proofs.lemmas.Bool.{cond_both, ltb-true, eqb-true, eqb-false}
use Rattle.std.proofs.lemmas.List.{get_or-set_same}
use Rattle.plat_base.specs.Verdicts.{Answer}
use Rattle.plat_base.specs.Machine.{Machine}
use Rattle.plat_base.specs.Held.{kept_of}
use Rattle.plat_base.specs.Messages.{removes_some}
use Rattle.plat_base.specs.Decide.{is_frame}
use Rattle.plat_base.specs.declared.frames.Dir.{Dir}
use Rattle.plat_base.specs.declared.items.Removed.{Removed}
use Rattle.plat_base.specs.declared.items.Translation.{Translation}
use Rattle.plat_base.specs.declared.endings.End.TheVariants as end
use Rattle.plat_laws.specs.Guests.{IsWithinLimits}
use Rattle.plat_laws.proofs.GuestLaws.{IsReach-wanted}
use Rattle.plat_events.specs.Words.{last_read, seq_read}
use Rattle.plat_events.specs.Shootdowns.{Shot, Posting, PostingOn, Asking, Interrupting, Watching, AskingAgain, Shoot, Makes, Polls, Done}
use Rattle.plat_events.specs.Shootdowns.{own_post, shot_after, shot_next}
use Rattle.plat_events.specs.Sessions.{Fault, Course, Phase, Stamping, Seeking, Taking, Returning, Shooting, Filling, Reading, Copying}
use Rattle.plat_events.specs.Sessions.{Giving, Storing, Granting, Unlocking, Session, decision_of, entry_faulted, translation_made}
use Rattle.plat_events.specs.Sessions.{session_next, with_phase, with_posts, with_shoot}
use Rattle.plat_events.specs.Privates.{Locking, InSession, Leaving, LiveLooking, Private, period, translation_at}
use Rattle.plat_events.specs.Events.{at, reach_now, look_up_place, thaw_of, page_done, drop_own, shoot_place, session_moved, is_followed}
use Rattle.plat_local_laws.specs.Faults.{LacksRight, IsFaultNow}
use Rattle.plat_local_laws.specs.Phases.{CourseOk, QuietOk, StoringOk, GrantingOk, UnlockingOk, PhaseOk, SessionOk}
use Rattle.plat_local_laws.specs.Standing.{LockingOk, TranslationOk, PlaceOk, StandingOk}
use Rattle.plat_local_laws.proofs.ShotLaws.{ShootOk, IsToldBy, shot_after-ok}
use Rattle.plat_local_laws.proofs.CourseLaws.{IsActor, fault_decides}
use Rattle.plat_local_laws.proofs.PhaseLaws.{QuietOk-phase, RunsOk, give_from-ok, fill_from-ok, copy_from-ok, FillingOk-from, with_shoot-ok}
use Rattle.plat_local_laws.proofs.PhaseLaws.{seek_from-ok, not_daemon, pool_found-ok, take-ok, stamp_read-ok}
use Rattle.plat_local_laws.proofs.PmapLaws.{with_translation, TranslationsOk, TranslationsOk-with, kept_of-ok, kept_of-LacksRight}
use Rattle.plat_local_laws.proofs.PmapLaws.{FaultOk-with, CourseOk-with}
use Rattle.plat_local_laws.proofs.TurnLaws.{standing-at, look_up-ok}

-- what holds of an actor wherever it stands
pub record HereOk (m : Machine) (a : ℕ) (p : Private) : Type 0 where
  pub limits : IsWithinLimits m
  pub actor : IsActor m a
  pub translations : TranslationsOk m p
  pub turns_most : p.turns ≤ m.budget

runs : (m : Machine) (answer : Answer) (a : ℕ) (p : Private) (s : Session) → HereOk m a p → SessionOk m answer a p s → LacksRight m a p →
    RunsOk m a p s
runs m answer a p s here h l = record { limits = here.limits; actor = here.actor; fault = h.fault; dir = h.dir; lacks = l }

-- the session in its next phase
into-ok :
    (m : Machine) (answer : Answer) (a : ℕ) (p : Private) (s : Session) (x : Phase) → HereOk m a p → SessionOk m answer a p s
    → PhaseOk m answer a p (with_phase s x) x → StandingOk m answer a (at p (InSession (with_phase s x)))
into-ok m answer a p s x here h k =
    standing-at m answer a p (InSession (with_phase s x)) p.atc p.due p.journal here.translations here.turns_most
    (record { fault = h.fault; dir = h.dir; phase = k })

-- ---- the daemon's next page

thaw-locks : (m : Machine) (a : ℕ) (p : Private) (page : ℕ) → a ≡ m.nodes → page < m.pages → LockingOk m a p (thaw_of page)
thaw-locks m a p page e l = record {
  lacks = λ q. not_daemon m a q e;
  locks = record { page = l; access = λ q. not_daemon m a q e; thaw = λ _. refl };
}

pub thaw-locked :
    (m : Machine) (answer : Answer) (a : ℕ) (p : Private) (page : ℕ) → a ≡ m.nodes → page < m.pages
    → PlaceOk m answer a p (Locking (thaw_of page))
thaw-locked m answer a p page e l = thaw-locks m a p page e l

page_done-ok :
    (m : Machine) (answer : Answer) (a : ℕ) (p : Private) (page : ℕ) → HereOk m a p → a ≡ m.nodes →
    StandingOk m answer a (page_done m p page)
page_done-ok m answer a p page here e =
    cond_both (nat_lt (page + 1) m.pages) (at p (Locking (thaw_of (page + 1))))
    (record p { due = (p.now / period m.policy + 1) * period m.policy; place = LiveLooking }) (StandingOk m answer a)
    (λ l. standing-at m answer a p (Locking (thaw_of (page + 1))) p.atc p.due p.journal here.translations here.turns_most
    (thaw-locked m answer a p (page + 1) e (ltb-true (page + 1) m.pages l)))
    (λ _. standing-at m answer a p LiveLooking p.atc ((p.now / period m.policy + 1) * period m.policy) p.journal here.translations
    here.turns_most e)

processor_else : (m : Machine) (a : ℕ) → IsActor m a → (a == m.nodes) ≡ false → a < m.nodes
processor_else m a (inl l) e = l
processor_else m a (inr q) e = absurd (eqb-false a m.nodes e q)

-- ---- a shootdown

shoot-place :
    (m : Machine) (answer : Answer) (a : ℕ) (q : Private) (s : Session) (c : Course) (sh : Shoot) → RunsOk m a q s
    → CourseOk m answer a q s c → removes_some (decision_of m answer a q.now s c).removed ≡ true → ShootOk m a s.fault.page sh
    → PlaceOk m answer a q (shoot_place (with_phase s (with_shoot m answer a q.now s c sh)) sh)
shoot-place m answer a q s c (Makes posts shot) r h e k =
    record { fault = r.fault; dir = r.dir; phase = with_shoot-ok m answer a q s _ c (Makes posts shot) r h e k }
shoot-place m answer a q s c (Polls posts n) r h e k = record {
  processor = elim r.actor [
    | inl l ↦ l
    | inr d ↦ absurd (k.2 d)
  ];
  leads = refl;
  behind = record {
    session = record { fault = r.fault; dir = r.dir; phase = with_shoot-ok m answer a q s _ c (Polls posts n) r h e k };
    watches = (with_posts c posts, n, refl);
  };
}
shoot-place m answer a q s c (Done posts) r h e k =
    record { fault = r.fault; dir = r.dir; phase = with_shoot-ok m answer a q s _ c (Done posts) r h e k }

shoot-step :
    (m : Machine) (answer : Answer) (a : ℕ) (p : Private) (s : Session) (c : Course) (sh : Shoot) (own : Option ℕ) → HereOk m a p
    → RunsOk m a p s → CourseOk m answer a p s c → removes_some (decision_of m answer a p.now s c).removed ≡ true
    → ShootOk m a s.fault.page sh
    → StandingOk m answer a
    (at (drop_own p (decision_of m answer a p.now s c).removed own) (shoot_place (with_phase s (with_shoot m answer a p.now s c sh)) sh))
shoot-step m answer a p s c sh None here r h e k =
    standing-at m answer a p (shoot_place (with_phase s (with_shoot m answer a p.now s c sh)) sh) p.atc p.due p.journal
    here.translations here.turns_most (shoot-place m answer a p s c sh r h e k)
shoot-step m answer a p s c sh (Some i) here r h e k =
    let rem = (decision_of m answer a p.now s c).removed in
    let v = kept_of rem (translation_at p i) in
    let q = with_translation p i v in
    let there : TranslationsOk m q =
    TranslationsOk-with m p i v here.translations (kept_of-ok m i rem (translation_at p i) (here.translations.translations i)) in
    let still : RunsOk m a q s = record {
      limits = r.limits;
      actor = r.actor;
      fault = FaultOk-with m a p i v s.fault r.fault;
      dir = r.dir;
      lacks = kept_of-LacksRight m a p i rem r.lacks;
    } in
    standing-at m answer a q (shoot_place (with_phase s (with_shoot m answer a p.now s c sh)) sh) p.atc p.due p.journal there
    here.turns_most (shoot-place m answer a q s c sh still (CourseOk-with m answer a p i v s c h) e k)

pub shot-told :
    (m : Machine) (a page : ℕ) (rem : Removed) (posts : List ℕ) (shot : Shot) (n : ℕ)
    → is_followed m (Some (shot_next m a page rem posts shot)) n ≡ true → IsToldBy m shot n
shot-told m a page rem posts Posting n e = e
shot-told m a page rem posts (PostingOn seen) n e = e
shot-told m a page rem posts (Asking k) n e = tt
shot-told m a page rem posts (Interrupting k) n e = tt
shot-told m a page rem posts (Watching k) n e = tt
shot-told m a page rem posts (AskingAgain k) n e = tt

-- ---- the grant

pub entry_now-below : (m : Machine) (a : ℕ) (p : Private) (fault : Fault) → IsFaultNow m a p fault →
    entry_faulted m fault < length m.entries
entry_now-below m a p fault f =
    let r = reach_now m a p in
    rw (ap (λ e. unwrap_or e (length m.entries)) f.entry)
    (IsReach-wanted m a p.guest r.kind r.space r.addr r.operand f.wants).below

QuietOk-with :
    (m : Machine) (answer : Answer) (a : ℕ) (p : Private) (e : ℕ) (v : Option Translation) (s : Session) (c : Course)
    → QuietOk m answer a p s c → QuietOk m answer a (with_translation p e v) s c
QuietOk-with m answer a p e v s c h =
    record { course = CourseOk-with m answer a p e v s c h.course; posted = h.posted; silent = h.silent }

made-ok :
    (m : Machine) (answer : Answer) (a : ℕ) (p : Private) (s : Session) (c : Course) (e : ℕ) (t : Translation)
    → IsTrue (is_frame m (decision_of m answer a p.now s c).frame) → Some (translation_made m answer a p.now s c e) ≡ Some t
    → TranslationOk m e t
made-ok m answer a p s c e t f k =
    let is : translation_made m answer a p.now s c e ≡ t = cc in
    subst (TranslationOk m e) is (record { entry = refl; frame = f })

grant-step :
    (m : Machine) (answer : Answer) (a : ℕ) (p : Private) (s : Session) (c : Course) → HereOk m a p → SessionOk m answer a p s
    → GrantingOk m answer a p s c
    → StandingOk m answer a
    (at (with_translation p (entry_faulted m s.fault) (Some (translation_made m answer a p.now s c (entry_faulted m s.fault))))
    (InSession (with_phase s (Unlocking c))))
grant-step m answer a p s c here h g =
    let e = entry_faulted m s.fault in
    let t = translation_made m answer a p.now s c e in
    let q = with_translation p e (Some t) in
    let facts = fault_decides m answer a p s c h.fault g.stores.quiet.course g.processor in
    let there : TranslationsOk m q =
    TranslationsOk-with m p e (Some t) here.translations (λ u k. made-ok m answer a p s c e u facts.frame k) in
    let below = entry_now-below m a p s.fault (h.fault.access g.processor) in
    let unlocks : UnlockingOk m answer a q (with_phase s (Unlocking c)) c = record {
      quiet = QuietOk-phase m answer a q s (Unlocking c) c (QuietOk-with m answer a p e (Some t) s c g.stores.quiet);
      granted = λ _. get_or-set_same p.pmap e (Some t) None (omega (arith, below, here.translations.all_entries));
    } in
    let session : SessionOk m answer a q (with_phase s (Unlocking c)) =
    record { fault = FaultOk-with m a p e (Some t) s.fault h.fault; dir = h.dir; phase = unlocks } in
    standing-at m answer a q (InSession (with_phase s (Unlocking c))) p.atc p.due p.journal there here.turns_most session

-- ---- each phase

abbrev pub session_at : Fault → Dir → Phase → Session
session_at f d phase = record { fault = f; dir = d; phase = phase }

storing-ok :
    (m : Machine) (answer : Answer) (a : ℕ) (p : Private) (s : Session) (x : Phase) (c : Course) → HereOk m a p
    → StoringOk m answer a p s c → PhaseOk m answer a p (with_phase s x) (if a == m.nodes then Unlocking c else Granting c)
storing-ok m answer a p s x c here h =
    let quiet = QuietOk-phase m answer a p s x c h.quiet in
    cond_both (a == m.nodes) (Unlocking c) (Granting c) (PhaseOk m answer a p (with_phase s x))
    (λ e. record { quiet = quiet; granted = λ l. not_daemon m a l (eqb-true a m.nodes e) })
    (λ e. record { processor = processor_else m a here.actor e; stores = record { lacks = h.lacks; quiet = quiet } })

pub session-step :
    (m : Machine) (answer : Answer) (a : ℕ) (p : Private) (n : ℕ) (f : Fault) (d : Dir) (phase : Phase) → HereOk m a p
    → SessionOk m answer a p (session_at f d phase)
    → is_followed m (Some (session_next m answer a p.now (session_at f d phase) phase)) n ≡ true
    → StandingOk m answer a (session_moved m answer a p n (session_at f d phase) phase)
session-step m answer a p n f d Stamping here h e =
    let s = session_at f d Stamping in
    into-ok m answer a p s _ here h
    (seek_from-ok m answer a p s _ (record { last = last_read n; seq = seq_read n }) 0 (runs m answer a p s here h h.phase.lacks)
    (stamp_read-ok m n e) h.phase.frozen)
session-step m answer a p n f d (Seeking st i) here h e =
    let s = session_at f d (Seeking st i) in
    into-ok m answer a p s _ here h
    (pool_found-ok m answer a p s _ st i n (runs m answer a p s here h h.phase.lacks) h.phase (ltb-true n (2 ^ m.frames) e))
session-step m answer a p n f d (Taking st i seen) here h e =
    let s = session_at f d (Taking st i seen) in
    into-ok m answer a p s _ here h
    (take-ok m answer a p s _ st i seen n (runs m answer a p s here h h.phase.seeks.lacks) h.phase (ltb-true n (2 ^ m.frames) e))
session-step m answer a p n f d Returning here h e =
    cond_both (a == m.nodes) (page_done m p f.page) (at p (Leaving end.NoFrames)) (StandingOk m answer a)
    (λ q. page_done-ok m answer a p f.page here (eqb-true a m.nodes q))
    (λ q. let l = processor_else m a here.actor q in
    standing-at m answer a p (Leaving end.NoFrames) p.atc p.due p.journal here.translations here.turns_most
    (record { processor = l; end = ((h.fault.access l).wants, h.phase.lacks l) }))
session-step m answer a p n f d (Shooting c shot) here h e =
    let s = session_at f d (Shooting c shot) in
    shoot-step m answer a p s c (shot_after m a f.page c.posts n shot) (own_post m a f.page c.posts n shot) here
    (runs m answer a p s here h h.phase.lacks) h.phase.course h.phase.removes
    (shot_after-ok m a f.page c.posts n shot h.phase.course.masks h.phase.stands
    (shot-told m a f.page (decision_of m answer a p.now s c).removed c.posts shot n e))
session-step m answer a p n f d (Filling c w) here h e =
    let s = session_at f d (Filling c w) in
    into-ok m answer a p s _ here h
    (fill_from-ok m answer a p s _ c (w + 1) (runs m answer a p s here h h.phase.lacks) h.phase.quiet h.phase.action)
session-step m answer a p n f d (Reading c w) here h e =
    let s = session_at f d (Reading c w) in
    into-ok m answer a p s _ here h
    (record {
      fills = FillingOk-from m answer a p s _ c _ w (runs m answer a p s here h h.phase.lacks) h.phase.quiet h.phase.action h.phase.left;
      word = e;
    })
session-step m answer a p n f d (Copying c w seen) here h e =
    let s = session_at f d (Copying c w seen) in
    let k = h.phase.fills in
    into-ok m answer a p s _ here h
    (copy_from-ok m answer a p s _ c (w + 1) (runs m answer a p s here h k.lacks) k.quiet k.action)
session-step m answer a p n f d (Giving c k) here h e =
    let s = session_at f d (Giving c k) in
    into-ok m answer a p s _ here h
    (give_from-ok m answer a p s _ c (k + 1) (runs m answer a p s here h h.phase.lacks) h.phase.quiet)
session-step m answer a p n f d (Storing c) here h e =
    let s = session_at f d (Storing c) in
    into-ok m answer a p s _ here h (storing-ok m answer a p s _ c here h.phase)
session-step m answer a p n f d (Granting c) here h e =
    grant-step m answer a p (session_at f d (Granting c)) c here h h.phase
session-step m answer a p n f d (Unlocking c) here h e =
    let s = session_at f d (Unlocking c) in
    cond_both (a == m.nodes) (page_done m p f.page) _ (StandingOk m answer a)
    (λ q. page_done-ok m answer a p f.page here (eqb-true a m.nodes q))
    (λ q. let l = processor_else m a here.actor q in
    standing-at m answer a p (look_up_place m p (reach_now m a p)) _ p.due p.journal here.translations here.turns_most
    (look_up-ok m answer a p here.limits l (h.fault.access l).wants))
