-- the journals of this crate's test are those of a good history
use Rattle.plat_base.specs.Verdicts.{policy_answer}
use Rattle.plat_merge_laws.specs.Worked.{shootdown, run_order, ends, journals}
use Rattle.plat_merge_laws.proofs.Rows.{journals-parts, run_order-good}
use Rattle.plat_merge.specs.RoomSeen.{HaveGoodHistory}

pub journals-good : HaveGoodHistory shootdown journals
journals-good = record {
  answer = policy_answer shootdown.policy;
  items = run_order;
  ends = ends;
  has = journals-parts;
  good = run_order-good;
}
