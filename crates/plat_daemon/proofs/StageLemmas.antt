-- where an operation of a page's handler leads: to the handler's next operation, or behind the page
use Rattle.std.proofs.Common.{◌≡◌, ◌⊎◌, inl, inr, ℕ, zero, suc, ◌+◌, Bool, true, false, List, [], ◌∷◌, ◌++◌, replicate, refl, sym, ap, ◌∙◌}
use Rattle.std.proofs.Common.{subst, arith}
use Rattle.std.specs.Prelude.{◌*◌, ◌/◌, ◌==◌, nat_lt, if◌then◌else◌, Option, Some, None, IsSome, slice_set, slice_index_or, unwrap_or}
use Rattle.std.proofs.lemmas.Bool.{cond_both, cond-true}
use Rattle.std.proofs.lemmas.Bool.Decides.{nat_tests}
use Rattle.plat_base.specs.Machine.{Machine}
use Rattle.plat_base.specs.Held.{kept_of}
use Rattle.plat_base.specs.declared.items.Change.{Change}
use Rattle.plat_base.specs.declared.items.Item.{Item}
use Rattle.plat_base.specs.declared.items.Item.TheVariants as item
use Rattle.plat_base.specs.declared.items.Removed.{Removed}
use Rattle.plat_base.specs.declared.items.Removed.TheVariants as removed
use Rattle.plat_base.specs.declared.items.Translation.{Translation}
use Rattle.plat_base.specs.declared.words.Op.{Op}
use Rattle.plat_base.specs.declared.words.WordName.{WordName}
use Rattle.plat_events.specs.Words.{is_locked, has_references, has_message}
use Rattle.plat_events.specs.Places.{entry_count}
use Rattle.plat_events.specs.Shootdowns.{Shot, Posting, PostingOn, Asking, Interrupting, Watching, AskingAgain, Shoot, Makes, Polls, Done}
use Rattle.plat_events.specs.Shootdowns.{targets, target_at, ask_from, shoot_from, mask_found, is_active_in, shot_after, own_post}
use Rattle.plat_events.specs.Sessions.{Fault, Course, Phase, Stamping, Seeking, Taking, Returning, Shooting, Filling, Reading, Copying}
use Rattle.plat_events.specs.Sessions.{Giving, Storing, Granting, Unlocking, Session, decision_of, change_made}
use Rattle.plat_events.specs.Privates.{Relock, Place, Polling, Locking, InSession, LiveLooking, Private, period}
use Rattle.plat_events.specs.Events.{at, named_next, moved_at, item_at, with_item, is_followed, thaw_of, page_done, drop_own, shoot_place}
use Rattle.plat_events.specs.Events.{returned, unlocked, session_moved, session_item}
use Rattle.plat_local_laws.proofs.AloneLaws.{after-followed, after-passed}
use Rattle.plat_handler.specs.Stages.{Stage, Locks, Relocks, Runs, Rewaits, Returned, Changed, place_in, stage_next, stage_locked}
use Rattle.plat_handler.specs.Stages.{stage_shot, stage_run, stage_after, session_begun, session_after}
use Rattle.plat_handler.specs.Phases.{answer_of}
use Rattle.plat_handler.specs.Fits.{PhaseFits, StageFits}
use Rattle.plat_handler.specs.HandlerSeen.{HandlerSeen, ask_of, asked, is_polling, is_word_asked, stage_told}
use Rattle.plat_handler.specs.declared.asks.Ask.{Ask}
use Rattle.plat_handler.specs.declared.asks.Ask.TheVariants as ask
use Rattle.plat_daemon.specs.DaemonSeen.{DaemonSeen, state_of}
use Rattle.plat_daemon.specs.Fits.{IsSweeping, fault_in, told_to}
use Rattle.plat_base.specs.Pages.{entries_of_page}
use Rattle.std.specs.Prelude.{length}

same : (n : ℕ) → (n == n) ≡ true
same n = grind (arith, nat_tests)

-- ---- the daemon has no translation, and so a post takes none from it

abbrev no_translations : ℕ → List (Option Translation)
no_translations k = replicate k None

none-set : (k e : ℕ) → slice_set (no_translations k) e None ≡ no_translations k
none-set zero e = refl
none-set (suc k) zero = refl
none-set (suc k) (suc e) = ap (λ (xs : List (Option Translation)). None ∷ xs) (none-set k e)

none-at : (k e : ℕ) → slice_index_or (no_translations k) e None ≡ None
none-at zero e = refl
none-at (suc k) zero = refl
none-at (suc k) (suc e) = none-at k e

none-kept : (rem : Removed) → kept_of rem None ≡ None
none-kept removed.Nothing = refl
none-kept removed.Writes = refl
none-kept removed.All = refl

drop_own-none : (m : Machine) (x : DaemonSeen) (rem : Removed) (o : Option ℕ) → drop_own (state_of m x) rem o ≡ state_of m x
drop_own-none m x rem None = refl
drop_own-none m x rem (Some e) =
    let all = no_translations (entry_count m) in
    ap (λ (pmap : List (Option Translation)). record (state_of m x) { pmap = pmap })
    (ap (λ (t : Option Translation). slice_set all e (kept_of rem t)) (none-at (entry_count m) e)
    ∙ ap (λ (t : Option Translation). slice_set all e t) (none-kept rem) ∙ none-set (entry_count m) e)

-- ---- its shootdown never waits for a poll

abbrev polls : Shoot → Bool
polls (Makes posts shot) = false
polls (Polls posts k) = true
polls (Done posts) = false

ask_from-polls : (m : Machine) (a page : ℕ) (posts : List ℕ) (k : ℕ) → polls (ask_from m a page posts k) ≡ false
ask_from-polls m a page posts k =
    cond_both (nat_lt k (length (targets m a page posts))) (Makes posts (Asking k)) (Done posts) (λ x. polls x ≡ false)
    (λ _. refl) (λ _. refl)

shoot_from-polls : (m : Machine) (a page : ℕ) (posts : List ℕ) → polls (shoot_from m a page posts) ≡ false
shoot_from-polls m a page posts =
    cond_both (nat_lt (length posts) (length (entries_of_page m page))) (Makes posts Posting) (ask_from m a page posts 0)
    (λ x. polls x ≡ false) (λ _. refl) (λ _. ask_from-polls m a page posts 0)

mask_found-polls : (m : Machine) (a page : ℕ) (posts : List ℕ) (n : ℕ) → polls (mask_found m a page posts n) ≡ false
mask_found-polls m a page posts n =
    cond_both (has_references n) (Makes posts (PostingOn n)) (shoot_from m a page (posts ++ n ∷ [])) (λ x. polls x ≡ false)
    (λ _. refl) (λ _. shoot_from-polls m a page (posts ++ n ∷ []))

shot_after-polls :
    (m : Machine) (page : ℕ) (posts : List ℕ) (n : ℕ) (shot : Shot) → polls (shot_after m m.nodes page posts n shot) ≡ false
shot_after-polls m page posts n Posting = mask_found-polls m m.nodes page posts n
shot_after-polls m page posts n (PostingOn seen) =
    cond_both (n == seen) (shoot_from m m.nodes page (posts ++ n ∷ [])) (mask_found m m.nodes page posts n) (λ x. polls x ≡ false)
    (λ _. shoot_from-polls m m.nodes page (posts ++ n ∷ [])) (λ _. mask_found-polls m m.nodes page posts n)
shot_after-polls m page posts n (Asking k) =
    cond_both (is_active_in m (target_at m m.nodes page posts k) n) (Makes posts (Interrupting k)) (ask_from m m.nodes page posts (k + 1))
    (λ x. polls x ≡ false) (λ _. refl) (λ _. ask_from-polls m m.nodes page posts (k + 1))
shot_after-polls m page posts n (Interrupting k) = refl
shot_after-polls m page posts n (Watching k) =
    cond_both (has_message n (target_at m m.nodes page posts k).processor) (Makes posts (AskingAgain k))
    (ask_from m m.nodes page posts (k + 1)) (λ x. polls x ≡ false) (λ _. refl) (λ _. ask_from-polls m m.nodes page posts (k + 1))
shot_after-polls m page posts n (AskingAgain k) =
    cond_both (is_active_in m (target_at m m.nodes page posts k) n)
    (if m.nodes == m.nodes then Makes posts (Watching k) else Polls posts k) (ask_from m m.nodes page posts (k + 1)) (λ x. polls x ≡ false)
    (λ _. ap polls (cond-true (m.nodes == m.nodes) (Makes posts (Watching k)) (Polls posts k) (same m.nodes)))
    (λ _. ask_from-polls m m.nodes page posts (k + 1))

-- ---- behind a page

page-if :
    (b : Bool) (p : Private) (fault : Fault) (due : ℕ) (place : Place) (items : List Item) →
    (if b then at (record p { place = place; journal = items }) (Locking fault)
    else record p { due = due; place = LiveLooking; journal = items })
    ≡ record (if b then at p (Locking fault) else record p { due = due; place = LiveLooking }) { journal = items }
page-if true p fault due place items = refl
page-if false p fault due place items = refl

-- the place before does not count, and the items stay
pub page_done-made :
    (m : Machine) (p : Private) (place : Place) (items : List Item) (page : ℕ) →
    page_done m (record p { place = place; journal = items }) page ≡ record (page_done m p page) { journal = items }
page_done-made m p place items page =
    page-if (nat_lt (page + 1) m.pages) p (thaw_of (page + 1)) ((p.now / period m.policy + 1) * period m.policy) place items

returned-daemon :
    (m : Machine) (p : Private) (s : Session) (page : ℕ) → s.fault ≡ thaw_of page → returned m m.nodes p s ≡ page_done m p page
returned-daemon m p s page e =
    cond-true (m.nodes == m.nodes) _ _ (same m.nodes) ∙ ap (λ (fault : Fault). page_done m p fault.page) e

unlocked-daemon :
    (m : Machine) (p : Private) (s : Session) (c : Course) (page : ℕ) → s.fault ≡ thaw_of page →
    unlocked m (answer_of m) m.nodes p s c ≡ page_done m p page
unlocked-daemon m p s c page e =
    cond-true (m.nodes == m.nodes) _ _ (same m.nodes) ∙ ap (λ (fault : Fault). page_done m p fault.page) e

-- ---- where an operation leads

abbrev pub change_of : Machine → DaemonSeen → Session → Course → Item
change_of m x s c = item.Change (change_made m (answer_of m) m.nodes x.now s c)

-- the private state that it leads to, by where the handler stands then
abbrev pub LeadsTo : Machine → DaemonSeen → Private → Stage → Type 0
LeadsTo m x q (Locks fault) = (q ≡ at (state_of m x) (Locking fault)) × (fault ≡ thaw_of x.page)
LeadsTo m x q (Relocks fault) = ⊥
LeadsTo m x q (Runs s) = (q ≡ at (state_of m x) (InSession s)) × (s.fault ≡ thaw_of x.page)
LeadsTo m x q (Rewaits s) = ⊥
LeadsTo m x q (Returned s) = q ≡ page_done m (state_of m x) x.page
LeadsTo m x q (Changed s c) = q ≡ record (page_done m (state_of m x) x.page) { journal = x.journal ++ change_of m x s c ∷ [] }

leads-locked :
    (m : Machine) (x : DaemonSeen) (fault : Fault) (s : Session) (b d : Bool) → d ≡ true → fault ≡ thaw_of x.page → s.fault ≡ fault →
    LeadsTo m x (at (state_of m x) (if b then (if d then Locking fault else Polling (Relock fault)) else InSession s))
    (if b then (if d then Locks fault else Relocks fault) else Runs s)
leads-locked m x fault s true true e f g = (refl, f)
leads-locked m x fault s true false e f g = absurd cc
leads-locked m x fault s false d e f g = (refl, g ∙ f)

leads-shot :
    (m : Machine) (x : DaemonSeen) (s : Session) (sh : Shoot) → s.fault ≡ thaw_of x.page → polls sh ≡ false →
    LeadsTo m x (at (state_of m x) (shoot_place s sh)) (stage_shot s sh)
leads-shot m x s (Makes posts shot) f e = (refl, f)
leads-shot m x s (Polls posts k) f e = absurd cc
leads-shot m x s (Done posts) f e = (refl, f)

-- the private state behind an operation of a session
abbrev session_made : Machine → DaemonSeen → (n : ℕ) → Session → Phase → Private
session_made m x n s phase =
    record (session_moved m (answer_of m) m.nodes (state_of m x) n s phase) {
      journal = with_item x.journal (session_item m (answer_of m) m.nodes x.now s phase);
    }

leads-run :
    (m : Machine) (x : DaemonSeen) (n : ℕ) (s : Session) (phase : Phase) → s.fault ≡ thaw_of x.page → PhaseFits m m.nodes x.now s phase →
    LeadsTo m x (session_made m x n s phase) (stage_run m (answer_of m) m.nodes x.now n s phase)
leads-run m x n s Stamping f h = (refl, f)
leads-run m x n s (Seeking st i) f h = (refl, f)
leads-run m x n s (Taking st i seen) f h = (refl, f)
leads-run m x n s Returning f h =
    ap (λ (q : Private). record q { journal = x.journal }) (returned-daemon m (state_of m x) s x.page f)
    ∙ sym (page_done-made m (state_of m x) x.place x.journal x.page)
leads-run m x n s (Shooting c shot) f h =
    let next = session_after m (answer_of m) m.nodes x.now n s in
    let sh = shot_after m m.nodes s.fault.page c.posts n shot in
    let own = own_post m m.nodes s.fault.page c.posts n shot in
    let rem = (decision_of m (answer_of m) m.nodes x.now s c).removed in
    subst (λ (q : Private). LeadsTo m x q (stage_shot next sh))
    (ap (λ (q : Private). record (at q (shoot_place next sh)) { journal = x.journal }) (sym (drop_own-none m x rem own)))
    (leads-shot m x next sh f (shot_after-polls m s.fault.page c.posts n shot))
leads-run m x n s (Filling c w) f h = (refl, f)
leads-run m x n s (Reading c w) f h = (refl, f)
leads-run m x n s (Copying c w seen) f h = (refl, f)
leads-run m x n s (Giving c k) f h = (refl, f)
leads-run m x n s (Storing c) f h = (refl, f)
leads-run m x n s (Granting c) f h = absurd (omega (arith, h.1))
leads-run m x n s (Unlocking c) f h =
    ap (λ (q : Private). record q { journal = x.journal ++ change_of m x s c ∷ [] }) (unlocked-daemon m (state_of m x) s c x.page f)

-- ---- a number that is followed, and one that is not

abbrev pub named_at : Machine → DaemonSeen → Place → Option (WordName × Op)
named_at m x place = named_next m (answer_of m) m.nodes (state_of m x) place

pub told-followed :
    (m : Machine) (x : DaemonSeen) (n : ℕ) (place : Place) → x.place ≡ place → is_followed m (named_at m x place) n ≡ true →
    told_to m x n
    ≡ record (moved_at m (answer_of m) m.nodes (state_of m x) n place) {
      journal = with_item x.journal (item_at m (answer_of m) m.nodes (state_of m x) n place);
    }
told-followed m x n place e =
    subst
    (λ (place : Place).
    is_followed m (named_at m x place) n ≡ true →
    told_to m x n
    ≡ record (moved_at m (answer_of m) m.nodes (state_of m x) n place) {
      journal = with_item x.journal (item_at m (answer_of m) m.nodes (state_of m x) n place);
    })
    e (after-followed m (answer_of m) m.nodes (state_of m x) n)

pub told-passed :
    (m : Machine) (x : DaemonSeen) (n : ℕ) (place : Place) → x.place ≡ place → is_followed m (named_at m x place) n ≡ false →
    told_to m x n ≡ at (state_of m x) place
told-passed m x n place e =
    subst (λ (place : Place). is_followed m (named_at m x place) n ≡ false → told_to m x n ≡ at (state_of m x) place) e
    (after-passed m (answer_of m) m.nodes (state_of m x) n)

pub told-kept :
    (m : Machine) (x : DaemonSeen) (n : ℕ) (place : Place) → x.place ≡ place → is_followed m (named_at m x place) n ≡ false →
    state_of m x ≡ told_to m x n
told-kept m x n place e k = ap (λ (place : Place). at (state_of m x) place) e ∙ sym (told-passed m x n place e k)

-- ---- any operation of a handler

leads-stage :
    (m : Machine) (x : DaemonSeen) (stage : Stage) (n : ℕ) → x.place ≡ unwrap_or (place_in stage) LiveLooking →
    is_polling stage ≡ false → IsSome (place_in stage) → fault_in stage ≡ thaw_of x.page → StageFits m m.nodes x.now stage →
    LeadsTo m x (told_to m x n) (stage_after m (answer_of m) m.nodes x.now n stage)
leads-stage m x (Locks fault) n e p i f h =
    cond_both (is_followed m (stage_next m (answer_of m) m.nodes x.now (Locks fault)) n) (stage_locked m m.nodes fault n) (Locks fault)
    (LeadsTo m x (told_to m x n))
    (λ k. subst (λ (q : Private). LeadsTo m x q (stage_locked m m.nodes fault n)) (sym (told-followed m x n (Locking fault) e k))
    (leads-locked m x fault (session_begun m m.nodes fault n) (is_locked n) (m.nodes == m.nodes) (same m.nodes) f refl))
    (λ k. (told-passed m x n (Locking fault) e k, f))
leads-stage m x (Relocks fault) n e p i f h = absurd cc
leads-stage m x (Runs s) n e p i f h =
    cond_both (is_followed m (stage_next m (answer_of m) m.nodes x.now (Runs s)) n) (stage_run m (answer_of m) m.nodes x.now n s s.phase)
    (Runs s) (LeadsTo m x (told_to m x n))
    (λ k. subst (λ (q : Private). LeadsTo m x q (stage_run m (answer_of m) m.nodes x.now n s s.phase))
    (sym (told-followed m x n (InSession s) e k)) (leads-run m x n s s.phase f h.1))
    (λ k. (told-passed m x n (InSession s) e k, f))
leads-stage m x (Rewaits s) n e p i f h = absurd cc
leads-stage m x (Returned s) n e p i f h = absurd cc
leads-stage m x (Changed s c) n e p i f h = absurd cc

-- the daemon has come to a page with its handler
pub record IsAtPage (m : Machine) (x : DaemonSeen) (h : HandlerSeen) : Type 0 where
  pub place : x.place ≡ unwrap_or (place_in h.stage) LiveLooking
  pub polls : is_polling h.stage ≡ false
  pub sweeps : IsSweeping m x h

stage_after-same :
    (m : Machine) (a b t u n : ℕ) (stage : Stage) → a ≡ b → t ≡ u →
    stage_after m (answer_of m) a t n stage ≡ stage_after m (answer_of m) b u n stage
stage_after-same m a b t u n stage e f = rw (e, f) refl

pub told-leads :
    (m : Machine) (x : DaemonSeen) (h k : HandlerSeen) (n : ℕ) → IsAtPage m x h → k.stage ≡ stage_told m h n →
    LeadsTo m x (told_to m x n) k.stage
told-leads m x h k n at e =
    let w = at.sweeps in
    let fits = subst (λ (t : ℕ). StageFits m m.nodes t h.stage) w.now (subst (λ (a : ℕ). StageFits m a h.now h.stage) w.actor w.on.fits) in
    subst (LeadsTo m x (told_to m x n)) (sym (e ∙ stage_after-same m h.actor m.nodes h.now x.now n h.stage w.actor w.now))
    (leads-stage m x h.stage n at.place at.polls w.stands w.page fits)

-- ---- what the handler asks next

abbrev pub AskLeads : Machine → DaemonSeen → Private → Stage → Ask → Type 0
AskLeads m x q stage (ask.Word place op) =
    (q ≡ at (state_of m x) (unwrap_or (place_in stage) LiveLooking)) × (fault_in stage ≡ thaw_of x.page) × IsSome (place_in stage)
    × (is_polling stage ≡ false)
AskLeads m x q stage ask.Poll = ⊥
AskLeads m x q stage (ask.Granted change) = ⊥
AskLeads m x q stage (ask.Thawed change) =
    q ≡ record (page_done m (state_of m x) x.page) { journal = x.journal ++ item.Change change ∷ [] }
AskLeads m x q stage ask.NotFrozen = q ≡ page_done m (state_of m x) x.page
AskLeads m x q stage ask.NoFrames = ⊥

leads-ask :
    (m : Machine) (x : DaemonSeen) (q : Private) (stage : Stage) → LeadsTo m x q stage →
    AskLeads m x q stage (ask_of m m.nodes x.now stage)
leads-ask m x q (Locks fault) h = (h.0, h.1, refl, refl)
leads-ask m x q (Relocks fault) h = absurd h
leads-ask m x q (Runs s) h = (h.0, h.1, refl, refl)
leads-ask m x q (Rewaits s) h = absurd h
leads-ask m x q (Returned s) h =
    subst (AskLeads m x q (Returned s)) (sym (cond-true (m.nodes == m.nodes) ask.NotFrozen ask.NoFrames (same m.nodes))) h
leads-ask m x q (Changed s c) h =
    let change = change_made m (answer_of m) m.nodes x.now s c in
    subst (AskLeads m x q (Changed s c)) (sym (cond-true (m.nodes == m.nodes) (ask.Thawed change) (ask.Granted change) (same m.nodes))) h

pub ask_of-same : (m : Machine) (a b t u : ℕ) (stage : Stage) → a ≡ b → t ≡ u → ask_of m a t stage ≡ ask_of m b u stage
ask_of-same m a b t u stage e f = rw (e, f) refl

-- what was asked says where the operation has led
pub told-asks :
    (m : Machine) (x : DaemonSeen) (h k : HandlerSeen) (n : ℕ) (what : Ask) → IsAtPage m x h → k.stage ≡ stage_told m h n →
    k.actor ≡ h.actor → k.now ≡ h.now → what ≡ asked m k → AskLeads m x (told_to m x n) k.stage what
told-asks m x h k n what at e a t w =
    subst (AskLeads m x (told_to m x n) k.stage)
    (sym (w ∙ ask_of-same m k.actor m.nodes k.now x.now k.stage (a ∙ at.sweeps.actor) (t ∙ at.sweeps.now)))
    (leads-ask m x (told_to m x n) k.stage (told-leads m x h k n at e))

-- the daemon is never asked for a poll, nor has its page a grant or no frame
pub not_asked :
    (m : Machine) (x : DaemonSeen) (q : Private) (stage : Stage) (what : Ask) → AskLeads m x q stage what → is_word_asked what ≡ false →
    ((k : ℕ) × (o : Op) × (what ≡ ask.Word k o)) ⊎ ((what ≡ ask.Poll) ⊎ (((change : Change) × (what ≡ ask.Granted change))
    ⊎ (what ≡ ask.NoFrames))) → ⊥
not_asked m x q stage what h n (inl e) = let k = sym n ∙ ap is_word_asked e.2 in cc
not_asked m x q stage what h n (inr (inl e)) = subst (AskLeads m x q stage) e h
not_asked m x q stage what h n (inr (inr (inl e))) = subst (AskLeads m x q stage) e.1 h
not_asked m x q stage what h n (inr (inr (inr e))) = subst (AskLeads m x q stage) e h
