use Rattle.std.proofs.Common.{◌≡◌, ℕ, true, refl, sym, ap, ◌∙◌, subst}
use Rattle.plat_base.specs.Seen.{machine}
use Rattle.plat_base.specs.declared.words.Op.{Op}
use Rattle.plat_handler.specs.HandlerSeen.{asked}
use Rattle.plat_handler.specs.declared.asks.Ask.TheVariants as ask
use Rattle.plat_proc.specs.contracts.procs.Proc.{the_view}
use Rattle.plat_proc.specs.declared.places.Place.TheVariants as place
use Rattle.plat_proc.specs.Cached.{slots_told}
use Rattle.plat_proc.specs.Fits.{Fits}
use Rattle.plat_proc.specs.Followed.{told_to}
use Rattle.plat_proc.specs.Places.{is_faulting}
use Rattle.plat_proc.specs.ProcSeen.{ProcSeen}
use Rattle.plat_handler.proofs.HandlerLemmas.{is_word_asked-word}
use Rattle.plat_proc.proofs.ToldLemmas.{Faults, Follows, Unlocks, faults-of, is-faulting, word-state, word-slots, word-handles, poll-state}
use Rattle.plat_proc.proofs.ToldLemmas.{poll-slots, frameless-state, frameless-slots, granted-state, granted-slots, unlocks-of}
use Rattle.plat_proc.proofs.ToldLemmas.{unlocks-wants, unlocks-page, unlocks-entries, unlocks-room, unlocks-agrees}
use Rattle.plat_proc.proofs.FitsLemmas.{stands}
use Rattle.plat_proc.proofs.procs.Proc.told.Goals.{After-self, After-went_on, In-Granted}
use Rattle.plat_proc.proofs.procs.Proc.told.Goals as goal

-- ---- the processor as the call finds it

fits : (c : After-self) → Fits (machine c.args.cfg.now) (the_view c.self.inside)
fits c = subst (Fits (machine c.args.cfg.now)) (sym c.self.view_is) c.requires.fits

faulting : (c : After-self) → is_faulting (the_view c.self.inside).state.place ≡ true
faulting c = subst (λ (y : ProcSeen). is_faulting y.state.place ≡ true) (sym c.self.view_is) c.requires.faulting

here : (c : After-self) → c.self.inside.place ≡ place.Faulting
here c = is-faulting c.self.inside.handler c.self.inside.place (faulting c)

state-told :
    (c : After-self) → told_to (machine c.args.cfg.now) (the_view c.self.inside) c.args.found
    ≡ told_to (machine c.args.cfg.now) c.args.self.now c.args.found
state-told c = ap (λ (y : ProcSeen). told_to (machine c.args.cfg.now) y c.args.found) c.self.view_is

slots-told :
    (c : After-self) → slots_told (machine c.args.cfg.now) (the_view c.self.inside) c.args.found
    ≡ slots_told (machine c.args.cfg.now) c.args.self.now c.args.found
slots-told c = ap (λ (y : ProcSeen). slots_told (machine c.args.cfg.now) y c.args.found) c.self.view_is

-- ---- what its handler did

faults : (c : After-went_on) → Faults (machine c.args.cfg.now) (the_view c.self.inside) c.in-Some.handler
faults c =
    let at = (goal.at.After-went_on c).After-self in
    faults-of (machine c.args.cfg.now) (the_view c.self.inside) c.in-Some.handler c.self.inside.place (fits at) c.in-Some.is refl
    (faulting at)

follows :
    (c : After-went_on) →
    Follows (machine c.args.cfg.now) (the_view c.self.inside) c.in-Some.handler c.went_on.new.handler c.args.found c.went_on.new.pmap
follows c =
    let done = c.went_on.ensures in record { stage = done.stage; maps = done.pmap; actor = done.actor; now = done.now }

word :
    (c : After-went_on) → c.went_on.result ≡ true →
    (at : ℕ) × (op : Op) × (ask.Word at op ≡ asked (machine c.args.cfg.now) c.went_on.new.handler)
word c t = is_word_asked-word (asked (machine c.args.cfg.now) c.went_on.new.handler) (sym c.went_on.ensures.asks ∙ t)

unlocks :
    (c : In-Granted) →
    Unlocks (machine c.args.cfg.now) (the_view c.self.inside) c.args.found c.went_on.new.pmap c.in-Granted.change
unlocks c =
    let at = (goal.at.In-Granted c).After-went_on in
    unlocks-of (machine c.args.cfg.now) (the_view c.self.inside) c.in-Some.handler c.went_on.new.handler c.args.found c.went_on.new.pmap
    c.in-Granted.change (faults at) (follows at) c.in-Granted.ensures

-- ---- the goals

pub went_on-requires-clause-entries : goal.went_on-requires-clause-entries
went_on-requires-clause-entries c =
    (stands (machine c.args.cfg.now) (the_view c.self.inside) c.args.cfg.now.limits
    (fits (goal.at.went_on-requires-clause-entries c).After-self)).standing.all_entries

pub invariant_of-self : goal.invariant_of-self
invariant_of-self c = (
  c.self.invariant.0,
  let at = goal.at.invariant_of-self c in
      let word = word at.After-went_on c.if-went_on.true in
      word-handles (machine c.args.cfg.now) c.went_on.new.handler c.self.inside.place word.0 word.1 (here at.After-self) word.2,
)

pub returns-then-went_on-clause-state : goal.returns-then-went_on-clause-state
returns-then-went_on-clause-state c =
    let at = goal.at.returns-then-went_on-clause-state c in
    let word = word at.After-went_on c.if-went_on.true in
    word-state _ _ _ _ _ _ _ word.0 word.1 (fits at.After-self).processor (faults at.After-went_on) (follows at.After-went_on)
    (here at.After-self) word.2 ∙ state-told at.After-self

pub returns-then-went_on-clause-slots : goal.returns-then-went_on-clause-slots
returns-then-went_on-clause-slots c =
    let at = goal.at.returns-then-went_on-clause-slots c in
    let word = word at.After-went_on c.if-went_on.true in
    word-slots _ _ _ _ _ _ word.0 word.1 (faults at.After-went_on) (follows at.After-went_on) word.2 ∙ slots-told at.After-self

pub returns-in-Poll-clause-state : goal.returns-in-Poll-clause-state
returns-in-Poll-clause-state c =
    let at = goal.at.returns-in-Poll-clause-state c in
    poll-state _ _ _ _ _ _ (fits at.After-self).processor (faults at.After-went_on) (follows at.After-went_on) c.in-Poll.ensures
    ∙ state-told at.After-self

pub returns-in-Poll-clause-slots : goal.returns-in-Poll-clause-slots
returns-in-Poll-clause-slots c =
    let at = goal.at.returns-in-Poll-clause-slots c in
    poll-slots _ _ _ _ _ _ (faults at.After-went_on) (follows at.After-went_on) c.in-Poll.ensures ∙ slots-told at.After-self

pub returns-in-NoFrames-clause-state : goal.returns-in-NoFrames-clause-state
returns-in-NoFrames-clause-state c =
    let at = goal.at.returns-in-NoFrames-clause-state c in
    frameless-state _ _ _ _ _ _ (fits at.After-self).processor (faults at.After-went_on) (follows at.After-went_on)
    c.in-NoFrames.ensures ∙ state-told at.After-self

pub returns-in-NoFrames-clause-slots : goal.returns-in-NoFrames-clause-slots
returns-in-NoFrames-clause-slots c =
    let at = goal.at.returns-in-NoFrames-clause-slots c in
    frameless-slots _ _ _ _ _ _ (faults at.After-went_on) (follows at.After-went_on) c.in-NoFrames.ensures
    ∙ slots-told at.After-self

pub granted-requires-clause-wants : goal.granted-requires-clause-wants
granted-requires-clause-wants c =
    let at = goal.at.granted-requires-clause-wants c in
    unlocks-wants _ _ _ _ _ c.args.cfg.now.limits (fits at.After-self) (unlocks at.In-Granted)

pub granted-requires-clause-page : goal.granted-requires-clause-page
granted-requires-clause-page c =
    let at = goal.at.granted-requires-clause-page c in
    unlocks-page _ _ _ _ _ c.args.cfg.now.limits (fits at.After-self) (unlocks at.In-Granted)

pub granted-requires-clause-entries : goal.granted-requires-clause-entries
granted-requires-clause-entries c =
    let at = goal.at.granted-requires-clause-entries c in
    unlocks-entries _ _ _ _ _ c.args.cfg.now.limits (fits at.After-self) (unlocks at.In-Granted)

pub granted-requires-clause-room : goal.granted-requires-clause-room
granted-requires-clause-room c =
    let at = goal.at.granted-requires-clause-room c in
    unlocks-room _ _ _ _ _ c.args.cfg.now.limits (fits at.After-self) (unlocks at.In-Granted)

pub granted-requires-clause-agrees : goal.granted-requires-clause-agrees
granted-requires-clause-agrees c =
    let at = goal.at.granted-requires-clause-agrees c in
    unlocks-agrees _ _ _ _ _ c.args.cfg.now.limits (fits at.After-self) (unlocks at.In-Granted)

pub returns-in-Granted-clause-state : goal.returns-in-Granted-clause-state
returns-in-Granted-clause-state c =
    let at = goal.at.returns-in-Granted-clause-state c in
    c.granted.ensures.state
    ∙ granted-state _ _ _ _ _ _ _ (fits at.After-self).processor (faults at.After-went_on) (follows at.After-went_on)
    c.in-Granted.ensures ∙ state-told at.After-self

pub returns-in-Granted-clause-slots : goal.returns-in-Granted-clause-slots
returns-in-Granted-clause-slots c =
    let at = goal.at.returns-in-Granted-clause-slots c in
    c.granted.ensures.slots
    ∙ granted-slots _ _ _ _ _ _ _ (faults at.After-went_on) (follows at.After-went_on) c.in-Granted.ensures
    ∙ slots-told at.After-self
