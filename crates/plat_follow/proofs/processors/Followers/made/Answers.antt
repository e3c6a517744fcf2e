use Rattle.std.proofs.Common.{◌≡◌, ◌∙◌, ◌<◌, List, length, false, Option, None, Some, ap, sym, subst, arith}
use Rattle.std.specs.Option.{option_map}
use Rattle.std.specs.Prelude.{is_some}
use Rattle.plat_base.specs.Seen.{machine}
use Rattle.plat_follow.specs.Wanted.{operation_seen}
use Rattle.plat_follow.specs.Followed.{FollowerSeen, AllStand, AllFollow}
use Rattle.plat_follow.specs.declared.wanted.Wanted.{Wanted}
use Rattle.plat_follow.proofs.ProcessorLemmas.{Stands-at, Follows-at, AllStand-set, AllFollow-set, AllFollow-none, IsMade-others}
use Rattle.plat_follow.proofs.ProcessorLemmas.{IsMade-next}
use Rattle.plat_follow.proofs.processors.Followers.made.Goals as goal
use Rattle.plat_follow.proofs.processors.Followers.made.Goals.{else-at-len-via-then-at-len+else-is_some, else-at-len-via-else-at-len}

pub made-requires-clause-stands : goal.made-requires-clause-stands
made-requires-clause-stands c =
    let m = machine c.args.cfg.now in
    let fs = c.self.inside.followers.items in
    let all = subst (λ (fs : List FollowerSeen). AllStand m fs) (sym c.self.view_is) c.requires in
    let below : c.args.q < length fs = omega (arith, c.len.ensures)
    in Stands-at m fs c.args.q c.index_mut-follower.result.now all c.index_mut-follower.ensures.value below

pub returns-then-is_some-clause-stand : goal.returns-then-is_some-clause-stand
returns-then-is_some-clause-stand c =
    let m = machine c.args.cfg.now in
    let all = subst (λ (fs : List FollowerSeen). AllStand m fs) (sym c.self.view_is) c.requires
    in AllStand-set m c.self.inside.followers.items c.args.q c.made.new.self all (omega (arith, c.len.ensures)) c.made.ensures.stands

pub returns-then-is_some-clause-follow : goal.returns-then-is_some-clause-follow
returns-then-is_some-clause-follow c = λ items i h made.
    let m = machine c.args.cfg.now in
    let q = c.args.q in
    let fs = c.self.inside.followers.items in
    let all = subst (λ (fs : List FollowerSeen). AllFollow m items fs) (sym c.self.view_is) h in
    let below : q < length fs = omega (arith, c.len.ensures) in
    let followed = Follows-at m items fs q c.index_mut-follower.result.now all c.index_mut-follower.ensures.value below
    in AllFollow-set m items i fs q c.made.new.self all below (c.made.ensures.follows items q i followed made)
    (λ r n. IsMade-others m items q c.args.old r i made n)

-- no operation is none
none_mapped : (x : Option Wanted) → is_some x ≡ false → option_map operation_seen x ≡ None
none_mapped None e = λ i. None
none_mapped (Some w) e = absurd cc

-- an actor that is none of the processors, or whose guest wants nothing
pub returns-else-at-len-clause-follow : goal.returns-else-at-len-clause-follow
returns-else-at-len-clause-follow c = λ items i h made.
    let m = machine c.args.cfg.now in
    let q = c.args.q in
    let fs = c.self.inside.followers.items in
    let all = subst (λ (fs : List FollowerSeen). AllFollow m items fs) (sym c.self.view_is) h in
    let same = ap (λ (fs : List FollowerSeen). length fs) c.self.view_is in
    elim c.else-at-len.branch [
      | else-at-len-via-then-at-len+else-is_some w ↦
          let followed = Follows-at m items fs q w.index.result.now all w.index.ensures (omega (arith, c.len.ensures)) in
          let no = none_mapped w.next.result (sym w.is_some.ensures ∙ w.if-is_some.false)
          in absurd (IsMade-next m items q c.args.old i made (sym (w.next.ensures.next m items q followed) ∙ no))
      | else-at-len-via-else-at-len w ↦
          AllFollow-none m items i c.args.self.now h
          (λ r l. IsMade-others m items q c.args.old r i made (λ e. omega (arith, l, h.count, c.len.ensures, w.if-at-len.false, same)))
    ]
