use Rattle.std.proofs.Common.{◌≡◌, ◌∙◌, ap, sym, inl, inr, false, None}
use Rattle.plat_follow.specs.Followed.{FollowerSeen, is_wanting, is_waiting}
use Rattle.plat_follow.specs.declared.stops.Stop.TheVariants.{Wants}
use Rattle.plat_follow.proofs.NextLemmas.{awaited, awaited-next}
use Rattle.plat_follow.proofs.followers.Follower.next.Goals as goal

pub returns-in-Wants-clause-next : goal.returns-in-Wants-clause-next
returns-in-Wants-clause-next c = λ m items q h.
    let is : Wants c.in-Wants.wanted ≡ c.args.self.now.stop = sym c.in-Wants.is ∙ ap (λ (f : FollowerSeen). f.stop) c.self.view_is
    in ap awaited is ∙ awaited-next m items q c.args.self.now h

-- a guest that wants nothing awaits no operation
wants_none : (c : goal.In-Halts) → (awaited c.self.inside.stop ≡ None) × (is_wanting c.self.inside.stop ≡ false)
wants_none c = elim c.in-Halts.is [
  | inl halts ↦ (ap awaited halts, ap is_wanting halts)
  | inr other ↦ elim other [
    | inl traps ↦ (ap awaited traps, ap is_wanting traps)
    | inr spent ↦ (ap awaited spent, ap is_wanting spent)
  ]
]

pub returns-in-Halts : goal.returns-in-Halts
returns-in-Halts c = record {
  next = λ m items q h.
      sym (wants_none c).0 ∙ ap (λ (f : FollowerSeen). awaited f.stop) c.self.view_is ∙ awaited-next m items q c.args.self.now h;
  entry = λ m h. tt;
  waits = ap is_waiting (sym c.self.view_is) ∙ (wants_none c).1;
}
