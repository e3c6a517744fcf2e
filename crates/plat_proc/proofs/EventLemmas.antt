-- one operation through a port: it is the event of its processor, and the port goes on to serve it
use Rattle.std.proofs.Common.{◌≡◌, ℕ, Bool, true, false, List, refl, sym, ap, ◌∙◌}
use Rattle.std.specs.Prelude.{Option, Some, None, IfSome, slice_index}
use Rattle.std.specs.Option.{option_map}
use Rattle.plat_base.specs.Machine.{Machine}
use Rattle.plat_base.specs.declared.words.Op.{Op}
use Rattle.plat_base.specs.declared.words.WordName.{WordName}
use Rattle.plat_events.specs.Operations.{told}
use Rattle.plat_events.specs.Places.{place_of}
use Rattle.plat_events.specs.Privates.{Private}
use Rattle.plat_events.specs.Events.{is_followed, next_of, placed, after}
use Rattle.plat_handler.specs.Phases.{answer_of}
use Rattle.plat_ports.specs.Ports.{IsEvent, IsItsOperation, IsServed, Told, told_after, words_after}
use Rattle.plat_local_laws.proofs.AloneLaws.{after-followed, after-passed}
use Rattle.plat_proc.specs.Followed.{followed_next, is_told, next_named}
use Rattle.plat_proc.specs.ProcSeen.{ProcSeen}

abbrev operation_at : ℕ → Op → Option (ℕ × Op)
operation_at at op = Some (at, op)

next_of-named :
    (m : Machine) (x : ProcSeen) (o : WordName × Op) → next_named m x ≡ Some o
    → next_of m (answer_of m) x.actor x.state ≡ Some (placed m o)
unfolding next_of
next_of-named m x o e = ap (λ (y : Option (WordName × Op)). option_map (placed m) y) e

next_of-placed :
    (m : Machine) (x : ProcSeen) (o : WordName × Op) (at : ℕ) → next_named m x ≡ Some o → at ≡ place_of m o.0
    → next_of m (answer_of m) x.actor x.state ≡ operation_at at o.1
next_of-placed m x o at e here = next_of-named m x o e ∙ ap (λ (k : ℕ). operation_at k o.1) (sym here)

-- where the port serves the processor, it is asked for its next operation
pub served-its :
    (m : Machine) (x : ProcSeen) (t : Option Told) (o : WordName × Op) (at : ℕ) → IsServed m x.actor x.state t → next_named m x ≡ Some o
    → at ≡ place_of m o.0 → IfSome t (λ s. IsItsOperation s at o.1)
served-its m x None o at h e here = tt
served-its m x (Some t) o at h e here = rw h (next_of-placed m x o at e here)

pub served-after :
    (m : Machine) (a b : ℕ) (p q : Private) (n : ℕ) (o s : Option Told) → IsServed m a p o → s ≡ told_after n o → b ≡ a
    → q ≡ after m (answer_of m) a p n → IsServed m b q s
served-after m a b p q n None s h e c k = rw e tt
served-after m a b p q n (Some t) s h e c k = rw (e, h, c, k) refl

pub event-made :
    (m : Machine) (x : ProcSeen) (q : Private) (before now : Option (List ℕ)) (o : WordName × Op) (at n : ℕ) → next_named m x ≡ Some o
    → at ≡ place_of m o.0 → q ≡ after m (answer_of m) x.actor x.state n → now ≡ words_after at o.1 before
    → IfSome before (λ ws. n ≡ told o.1 (slice_index ws at)) → ((k : ℕ) × (n ≡ told o.1 k))
    → IsEvent m x.actor x.state q before now
event-made m x q before now o at n e here is words found says =
    ((at, o.1), next_of-placed m x o at e here, (n, record { state = is; words = words; found = found; says = says }))

-- ---- a number that is followed, and one that is not

pub told-named :
    (m : Machine) (x : ProcSeen) (o : WordName × Op) (n : ℕ) (followed b : Bool) → next_named m x ≡ Some o
    → followed ≡ is_followed m (Some o) n → followed ≡ b → is_told m x n ≡ b
told-named m x o n followed b e is k = ap (λ (y : Option (WordName × Op)). is_followed m y n) e ∙ (sym is ∙ k)

pub after-told :
    (m : Machine) (x : ProcSeen) (q : Private) (n : ℕ) → is_told m x n ≡ true → q ≡ followed_next m x n
    → q ≡ after m (answer_of m) x.actor x.state n
after-told m x q n t e = e ∙ sym (after-followed m (answer_of m) x.actor x.state n t)

pub after-not_told : (m : Machine) (x : ProcSeen) (n : ℕ) → is_told m x n ≡ false → x.state ≡ after m (answer_of m) x.actor x.state n
after-not_told m x n t = sym (after-passed m (answer_of m) x.actor x.state n t)
