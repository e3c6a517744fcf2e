-- an operation that makes an item of its actor: what it leaves of an actor without a session, and that its history stays good
use Rattle.std.specs.Prelude.{◌≡◌, ℕ, ◌<◌, true, Some, None}
use Rattle.std.proofs.Common.{ap, sym, ◌∙◌, arith, subst}
use Rattle.std.specs.Option.{option_map}
use Rattle.std.proofs.lemmas.Option.{same_Some}
use Rattle.plat_base.specs.Verdicts.{Answer}
use Rattle.plat_base.specs.Machine.{Machine}
use Rattle.plat_base.specs.Rules.{Good, bad_rule, is_end}
use Rattle.plat_base.specs.declared.endings.End.TheVariants as end
use Rattle.plat_base.specs.declared.items.Item.{Item}
use Rattle.plat_base.specs.declared.words.WordName.{WordName}
use Rattle.plat_events.specs.Sessions.{Session}
use Rattle.plat_events.specs.Privates.{Private, actor_count}
use Rattle.plat_events.specs.Events.{with_item}
use Rattle.plat_events.specs.Kept.{session_of, private_of}
use Rattle.plat_events.specs.Runs.{Fine, end_at, ends_of}
use Rattle.plat_events.specs.Shown.{actor_of, items_by, Shows}
use Rattle.plat_local_laws.specs.Alone.{PrivateOk}
use Rattle.plat_local_laws.proofs.OrderLaws.{cut_in_order}
use Rattle.plat_fine_laws.specs.Changes.{Changes, GoesOn, IsBy, Stays}
use Rattle.plat_fine_laws.proofs.PrivateLaws.{private_of-get}
use Rattle.plat_fine_laws.proofs.JournalLaws.{items_by-own}
use Rattle.plat_fine_laws.proofs.GoodLaws.{good-next}

pub made-by : (a : ℕ) (made : Item) → actor_of made ≡ a → IsBy a (Some made)
made-by a made own i is = sym (ap actor_of (same_Some made i is)) ∙ own

pub stays-made :
    (m : Machine) (a : ℕ) (p after : Private) (made : Item) → actor_of made ≡ a → session_of p.place ≡ None → GoesOn None after.place →
    after.now ≡ p.now → after.pmap ≡ p.pmap → after.journal ≡ with_item p.journal (Some made) → Stays m a p after (Some made)
stays-made m a p after made own free goes now pmap journal = record {
  pmap = pmap;
  running = λ i. option_map (λ (x : Session). record { actor = a; now = now i; session = x }) ((goes.session ∙ sym free) i);
  journal = journal;
  own = made-by a made own;
  framed = λ enough. goes.framed;
}

pub good-made :
    (m : Machine) (answer : Answer) (s t : Fine) (a : ℕ) (name : WordName) (number : ℕ) (next : Private) (made : Item) →
    Shows m answer s → a < actor_count m → a < m.nodes → Changes m s t a name number next (Some made) → IsBy a (Some made) →
    next.journal ≡ with_item (private_of m s a).journal (Some made) → bad_rule m answer s.history made ≡ None →
    PrivateOk m answer a next → end_at next.place ≡ end.Cut → Good m answer t.history (ends_of m t.privates)
good-made m answer s t a name number next made shows within processor changes own kept rule alone ended =
    let journal : items_by a (with_item s.history (Some made)) ≡ next.journal =
    items_by-own a s.history (Some made) own
    ∙ (ap (λ j. with_item j (Some made)) (sym (shows.journals_are_history a within)) ∙ sym kept) in
    let cut : is_end m (with_item s.history (Some made)) a (end_at next.place) next.turns ≡ true =
    ap (λ e. is_end m (with_item s.history (Some made)) a e next.turns) ended
    ∙ cut_in_order m answer a next (with_item s.history (Some made)) alone processor (sym journal) in
    let ok = good-next m s.privates a (private_of m s a) next processor (omega (arith, shows.all_privates))
    (private_of-get m s a (omega (arith, shows.all_privates))) answer s.history (Some made) shows.history_good own
    (λ i is. subst (λ j. bad_rule m answer s.history j ≡ None) (same_Some made i is) rule) alone.standing.turns_most cut in
    rw (changes.history, changes.privates) ok
