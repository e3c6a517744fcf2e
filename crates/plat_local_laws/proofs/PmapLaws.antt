-- translations that are dropped, lowered or granted, and what holds at a place then
use Rattle.std.proofs.Common.{◌≡◌, ℕ, zero, suc, Bool, true, false, List, [], ◌∷◌, length, Some, None, refl, ap, sym, subst, ◌∙◌, ◌⊎◌, inl}
use Rattle.std.proofs.Common.{inr, get_or, set}
use Rattle.std.specs.Prelude.{Option, slice_set}
use Rattle.std.proofs.lemmas.List.{length-set}
use Rattle.plat_base.specs.Verdicts.{Answer}
use Rattle.plat_base.specs.Machine.{Machine}
use Rattle.plat_base.specs.Held.{to_read, serves, has_right, kept_of, told}
use Rattle.plat_base.specs.declared.items.Kind.{Kind}
use Rattle.plat_base.specs.declared.items.Kind.TheVariants as kind
use Rattle.plat_base.specs.declared.items.Message.{Message}
use Rattle.plat_base.specs.declared.items.Message.TheVariants as message
use Rattle.plat_base.specs.declared.items.Removed.{Removed}
use Rattle.plat_base.specs.declared.items.Removed.TheVariants as removed
use Rattle.plat_base.specs.declared.items.Right.{Right}
use Rattle.plat_base.specs.declared.items.Right.TheVariants as right
use Rattle.plat_base.specs.declared.items.Translation.{Translation}
use Rattle.plat_events.specs.Places.{entry_count}
use Rattle.plat_events.specs.Shootdowns.{Shot, Watching}
use Rattle.plat_events.specs.Sessions.{Fault, Course, Session}
use Rattle.plat_events.specs.Privates.{Onward, NewTurn, TurnOver, Relock, Rewait, Private, translation_at}
use Rattle.plat_events.specs.Events.{reach_now, entry_of}
use Rattle.plat_local_laws.specs.Faults.{LacksRight, FaultOk}
use Rattle.plat_local_laws.specs.Phases.{CourseOk, ShootingOk, PhaseOk}
use Rattle.plat_local_laws.specs.Standing.{RewaitOk, OnwardOk, TranslationOk}

-- ---- a list with another element

set-either :
    {A : Type 0} (xs : List A) (e : ℕ) (v : A) (i : ℕ) (d : A)
    → ((i ≡ e) × (get_or (set xs e v) i d ≡ v)) ⊎ (get_or (set xs e v) i d ≡ get_or xs i d)
set-either [] e v i d = inr refl
set-either (x ∷ xs) zero v zero d = inl (refl, refl)
set-either (x ∷ xs) zero v (suc i) d = inr refl
set-either (x ∷ xs) (suc e) v zero d = inr refl
set-either (x ∷ xs) (suc e) v (suc i) d =
    elim (set-either xs e v i d) [
      | inl h ↦ inl (ap suc h.0, h.1)
      | inr h ↦ inr h
    ]

-- ---- the private state with another translation of an entry

abbrev pub with_translation : Private → (e : ℕ) → Option Translation → Private
with_translation p e v = record p { pmap = slice_set p.pmap e v }

-- the translations are of their entries
pub record TranslationsOk (m : Machine) (p : Private) : Type 0 where
  pub all_entries : length p.pmap ≡ entry_count m
  pub translations : (e : ℕ) (t : Translation) → translation_at p e ≡ Some t → TranslationOk m e t

pub TranslationsOk-with :
    (m : Machine) (p : Private) (e : ℕ) (v : Option Translation) → TranslationsOk m p
    → ((t : Translation) → v ≡ Some t → TranslationOk m e t) → TranslationsOk m (with_translation p e v)
TranslationsOk-with m p e v h k = record {
  all_entries = length-set p.pmap e v ∙ h.all_entries;
  translations = λ i t q. elim (set-either p.pmap e v i None) [
    | inl s ↦ subst (λ x. TranslationOk m x t) (sym s.0) (k t (sym s.1 ∙ q))
    | inr s ↦ h.translations i t (sym s ∙ q)
  ];
}

-- ---- what a translation loses

-- the same but for its right and its mark
lowered-ok :
    (m : Machine) (e : ℕ) (t u : Translation) (marked : Bool) → TranslationOk m e t
    → Some (record { grant = to_read t.grant; seq = t.seq; restricted = marked }) ≡ Some u → TranslationOk m e u
lowered-ok m e t u marked ok k =
    let is : record { grant = to_read t.grant; seq = t.seq; restricted = marked } ≡ u = cc in
    subst (TranslationOk m e) is (record { entry = ok.entry; frame = ok.frame })

pub told-ok :
    (m : Machine) (e : ℕ) (msg : Message) (t : Option Translation) → ((u : Translation) → t ≡ Some u → TranslationOk m e u)
    → (u : Translation) → told msg t ≡ Some u → TranslationOk m e u
told-ok m e message.Invalidate t h u k = absurd cc
told-ok m e message.Restrict None h u k = absurd cc
told-ok m e message.Restrict (Some t) h u k = lowered-ok m e t u true (h t refl) k

pub kept_of-ok :
    (m : Machine) (e : ℕ) (rem : Removed) (t : Option Translation) → ((u : Translation) → t ≡ Some u → TranslationOk m e u)
    → (u : Translation) → kept_of rem t ≡ Some u → TranslationOk m e u
kept_of-ok m e removed.Nothing t h u k = h u k
kept_of-ok m e removed.Writes None h u k = absurd cc
kept_of-ok m e removed.Writes (Some t) h u k = lowered-ok m e t u t.restricted (h t refl) k
kept_of-ok m e removed.All t h u k = absurd cc

read_lacks : (k : Kind) (r : Right) → serves k r ≡ false → serves k right.Read ≡ false
read_lacks kind.Load r h = h
read_lacks kind.Store r h = refl
read_lacks kind.Add r h = refl

pub told-lacks : (k : Kind) (msg : Message) (t : Option Translation) → has_right k t ≡ false → has_right k (told msg t) ≡ false
told-lacks k message.Invalidate t h = refl
told-lacks k message.Restrict None h = refl
told-lacks k message.Restrict (Some t) h = read_lacks k t.grant.right h

kept_of-lacks : (k : Kind) (rem : Removed) (t : Option Translation) → has_right k t ≡ false → has_right k (kept_of rem t) ≡ false
kept_of-lacks k removed.Nothing t h = h
kept_of-lacks k removed.Writes None h = refl
kept_of-lacks k removed.Writes (Some t) h = read_lacks k t.grant.right h
kept_of-lacks k removed.All t h = refl

-- a processor that has not enough right has not enough with another translation that has no more
with-lacks :
    (m : Machine) (a : ℕ) (p : Private) (e : ℕ) (v : Option Translation)
    → ((k : Kind) → has_right k (translation_at p e) ≡ false → has_right k v ≡ false) → LacksRight m a p
    → LacksRight m a (with_translation p e v)
with-lacks m a p e v h k l =
    let r = reach_now m a p in
    elim (set-either p.pmap e v (entry_of m r) None) [
      | inl s ↦ rw s.1 (h r.kind (subst (λ i. has_right r.kind (translation_at p i) ≡ false) s.0 (k l)))
      | inr s ↦ rw s (k l)
    ]

pub told-LacksRight :
    (m : Machine) (a : ℕ) (p : Private) (e : ℕ) (msg : Message) → LacksRight m a p
    → LacksRight m a (with_translation p e (told msg (translation_at p e)))
told-LacksRight m a p e msg h = with-lacks m a p e (told msg (translation_at p e)) (λ k. told-lacks k msg (translation_at p e)) h

pub kept_of-LacksRight :
    (m : Machine) (a : ℕ) (p : Private) (e : ℕ) (rem : Removed) → LacksRight m a p
    → LacksRight m a (with_translation p e (kept_of rem (translation_at p e)))
kept_of-LacksRight m a p e rem h =
    with-lacks m a p e (kept_of rem (translation_at p e)) (λ k. kept_of-lacks k rem (translation_at p e)) h

-- ---- what holds at a place then

pub FaultOk-with :
    (m : Machine) (a : ℕ) (p : Private) (e : ℕ) (v : Option Translation) (fault : Fault) → FaultOk m a p fault
    → FaultOk m a (with_translation p e v) fault
FaultOk-with m a p e v fault h = record {
  page = h.page;
  access = λ l. let f = h.access l in record { wants = f.wants; page = f.page; entry = f.entry; cause = f.cause };
  thaw = h.thaw;
}

pub CourseOk-with :
    (m : Machine) (answer : Answer) (a : ℕ) (p : Private) (e : ℕ) (v : Option Translation) (s : Session) (c : Course)
    → CourseOk m answer a p s c → CourseOk m answer a (with_translation p e v) s c
CourseOk-with m answer a p e v s c h = record { may = h.may; stamp = h.stamp; masks = h.masks }

ShootingOk-with :
    (m : Machine) (answer : Answer) (a : ℕ) (p : Private) (e : ℕ) (v : Option Translation) (s : Session) (c : Course) (shot : Shot)
    → LacksRight m a (with_translation p e v) → ShootingOk m answer a p s c shot
    → ShootingOk m answer a (with_translation p e v) s c shot
ShootingOk-with m answer a p e v s c shot l h =
    record { lacks = l; course = CourseOk-with m answer a p e v s c h.course; removes = h.removes; stands = h.stands }

RewaitOk-with :
    (m : Machine) (answer : Answer) (a : ℕ) (p : Private) (e : ℕ) (v : Option Translation) (s : Session)
    → LacksRight m a (with_translation p e v) → RewaitOk m answer a p s → RewaitOk m answer a (with_translation p e v) s
RewaitOk-with m answer a p e v s l h =
    let c = h.watches.0 in let k = h.watches.1 in let is = h.watches.2 in
    let shoots : ShootingOk m answer a p s c (Watching k) = subst (PhaseOk m answer a p s) is h.session.phase in
    record {
      session = record {
        fault = FaultOk-with m a p e v s.fault h.session.fault;
        dir = h.session.dir;
        phase = subst (PhaseOk m answer a (with_translation p e v) s) (sym is) (ShootingOk-with m answer a p e v s c (Watching k) l shoots);
      };
      watches = h.watches;
    }

-- the access that a processor has not enough right for
pub behind_lacks : (m : Machine) (answer : Answer) (a : ℕ) (p : Private) (s : Session) → RewaitOk m answer a p s → LacksRight m a p
behind_lacks m answer a p s h =
    let shoots : ShootingOk m answer a p s h.watches.0 (Watching h.watches.1) = subst (PhaseOk m answer a p s) h.watches.2 h.session.phase
    in shoots.lacks

pub OnwardOk-told :
    (m : Machine) (answer : Answer) (a : ℕ) (p : Private) (e : ℕ) (msg : Message) (onward : Onward) → OnwardOk m answer a p onward
    → OnwardOk m answer a (with_translation p e (told msg (translation_at p e))) onward
OnwardOk-told m answer a p e msg NewTurn h = h
OnwardOk-told m answer a p e msg TurnOver h = h
OnwardOk-told m answer a p e msg (Relock fault) h =
    record { lacks = told-LacksRight m a p e msg h.lacks; locks = FaultOk-with m a p e (told msg (translation_at p e)) fault h.locks }
OnwardOk-told m answer a p e msg (Rewait s) h =
    RewaitOk-with m answer a p e (told msg (translation_at p e)) s (told-LacksRight m a p e msg (behind_lacks m answer a p s h)) h
