-- the history with the change of an unlock is good
use Rattle.std.specs.Prelude.{◌≡◌, ℕ, ◌+◌, ◌<◌, ◌||◌, false, List, [], ◌∷◌, ◌++◌, length, take, Some, None}
use Rattle.std.proofs.Common.{refl, ap, ◌∙◌, inl, inr, arith}
use Rattle.std.proofs.lemmas.Bool.{ne_eqb}
use Rattle.std.proofs.lemmas.List.{length-map, length-take}
use Rattle.plat_base.specs.Verdicts.{Answer}
use Rattle.plat_base.specs.Machine.{Machine}
use Rattle.plat_base.specs.Rules.{Good, bad_rule}
use Rattle.plat_base.specs.declared.items.Change.{Change}
use Rattle.plat_base.specs.declared.items.Item.{Item}
use Rattle.plat_base.specs.declared.items.Item.TheVariants as item
use Rattle.plat_base.specs.declared.words.WordName.TheVariants as word
use Rattle.plat_base.specs.declared.endings.Ended.{Ended}
use Rattle.plat_laws.specs.Guests.{IsWithinLimits}
use Rattle.plat_laws.proofs.ItemLaws.{is_in_order-not_mine}
use Rattle.plat_laws.proofs.HistoryLaws.{one_history, good-items}
use Rattle.plat_laws.proofs.EndLaws.{first_bad-none, bad_after-more, bad_after-one}
use Rattle.plat_events.specs.Sessions.{Course, Session, Unlocking, change_made}
use Rattle.plat_events.specs.Privates.{InSession, Private, actor_count}
use Rattle.plat_events.specs.Events.{with_item}
use Rattle.plat_events.specs.Kept.{private_of}
use Rattle.plat_events.specs.Runs.{Fine, event, ended_by, ends_of}
use Rattle.plat_events.specs.Shown.{Shows}
use Rattle.plat_local_laws.proofs.CourseLaws.{IsActor}
use Rattle.plat_local_laws.proofs.PrivateLaws.{private_ok}
use Rattle.plat_local_laws.proofs.StandingLaws.{actor-is}
use Rattle.plat_fine_laws.specs.Changes.{IsBy}
use Rattle.plat_fine_laws.proofs.MadeLaws.{good-made}
use Rattle.plat_fine_laws.proofs.EndFieldLaws.{ends-still}
use Rattle.plat_frame_laws.proofs.SessionHereLaws.{here}
use Rattle.plat_session_laws.proofs.UnlockFieldLaws.{unlock-after, unlock-changes, unlock-reached, unlock-rule}
use Rattle.plat_session_laws.proofs.UnlockLeavesLaws.{Unlocks, unlocks, unlock-goes}

-- an actor that is no processor made the item, and the ends are as they were
good-beside :
    (m : Machine) (answer : Answer) (items : List Item) (ends : List Ended) (c : Change) → length ends ≡ m.nodes →
    ((q : ℕ) → q < m.nodes → (c.actor ≡ q → ⊥)) → bad_rule m answer items (item.Change c) ≡ None → Good m answer items ends →
    Good m answer (items ++ item.Change c ∷ []) ends
good-beside m answer items ends c count apart rule good =
    first_bad-none m answer (items ++ item.Change c ∷ []) ends
    (bad_after-more m answer [] 0 items (item.Change c ∷ []) (good-items m answer items ends good)
    (bad_after-one m answer items (0 + length items) (item.Change c) rule))
    count
    (λ q inside. is_in_order-not_mine m items (item.Change c ∷ []) ends ends q
    (ap (λ b. b || false) (ne_eqb c.actor q (apart q inside))) refl
    ∙ (one_history m answer items ends good).in_order q inside)

module _ (m : Machine) (answer : Answer) (s : Fine) (a : ℕ) (x : Session) (c : Course) (limits : IsWithinLimits m) (shows : Shows m
    answer s)
    (within : a < actor_count m) (stands : (private_of m s a).place ≡ InSession x) (is : x.phase ≡ Unlocking c) where
  abbrev p : Private
  p = private_of m s a

  abbrev made : Change
  made = change_made m answer a (private_of m s a).now x c

  abbrev after : Private
  after = unlock-after m answer s a x c limits shows within stands is

  abbrev t : Fine
  t = event m answer s a

  ends : Unlocks m p after
  ends = unlocks m answer a p x c (with_item p.journal (Some (item.Change made)))

  own : IsBy a (Some (item.Change made))
  own = (unlock-goes m answer a p x c stands).own

  good-node : a < m.nodes → Good m answer t.history (ends_of m t.privates)
  good-node node =
      good-made m answer s t a (word.Dir x.fault.page) _ after (item.Change made) shows within node
      (unlock-changes m answer s a x c limits shows within stands is) own refl (unlock-rule m answer s a x c limits shows within stands is)
      (private_ok m answer a after limits within (unlock-reached m answer s a x c limits shows within stands is)) ends.steady.ended

  good-daemon : a ≡ m.nodes → Good m answer (s.history ++ item.Change made ∷ []) (ends_of m t.privates)
  good-daemon daemon =
      let changes = unlock-changes m answer s a x c limits shows within stands is in
      let count : length (ends_of m s.privates) ≡ m.nodes =
      omega (arith, length-map (take m.nodes s.privates) ended_by, length-take m.nodes s.privates, shows.all_privates) in
      let still : ends_of m t.privates ≡ ends_of m s.privates =
      ends-still m s t a (word.Dir x.fault.page) _ after (Some (item.Change made)) changes (here m answer s a x limits shows within stands)
      (λ node. absurd (omega (arith, daemon, node))) in
      rw still
      (good-beside m answer s.history (ends_of m s.privates) made count (λ q inside e. omega (arith, daemon, inside, e))
      (unlock-rule m answer s a x c limits shows within stands is) shows.history_good)

  pub unlock-good : Good m answer (event m answer s a).history (ends_of m (event m answer s a).privates)
  unlock-good = by (actor-is m a within)
    where
      by : IsActor m a → Good m answer t.history (ends_of m t.privates)
      by (inl node) = good-node node
      by (inr daemon) = rw (unlock-changes m answer s a x c limits shows within stands is).history (good-daemon daemon)
