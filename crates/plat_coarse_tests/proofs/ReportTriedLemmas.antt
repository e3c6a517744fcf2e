-- the runs of this crate's tests are within all limits, and good
use Rattle.std.proofs.Common.{◌≡◌, List, None, refl, true}
use Rattle.std.specs.Fmt.{digits}
use Rattle.plat_base.specs.Machine.{Machine}
use Rattle.plat_base.specs.Canon.{is_short, canon_text}
use Rattle.plat_base.specs.Rules.{first_bad}
use Rattle.plat_base.specs.Verdicts.{policy_answer}
use Rattle.plat_base.specs.declared.items.Item.{Item}
use Rattle.plat_base.specs.declared.endings.Ended.{Ended}
use Rattle.plat_base.specs.declared.policies.PolicyKind.TheVariants.{Replicate}
use Rattle.plat_coarse_tests.specs.ReportTried.{smallest, smallest_items, smallest_ends, sharing_ends}
use Rattle.plat_samples.specs.Samples.{sharing}
use Rattle.plat_samples.specs.Shootdown.{history}
use Rattle.plat_rows.proofs.Rows.{smallest-good as smallest-computed}

sharing-computed : first_bad (sharing Replicate) (policy_answer Replicate) history sharing_ends ≡ None
unfolding first_bad
sharing-computed = refl

pub smallest-good :
    (m : Machine) (items : List Item) (ends : List Ended) → m ≡ smallest → items ≡ smallest_items → ends ≡ smallest_ends
    → first_bad m (policy_answer m.policy) items ends ≡ None
smallest-good m items ends e f h = rw (e, f, h) smallest-computed

pub sharing-good :
    (m : Machine) (items : List Item) (ends : List Ended) → m ≡ sharing Replicate → items ≡ history → ends ≡ sharing_ends
    → first_bad m (policy_answer m.policy) items ends ≡ None
sharing-good m items ends e f h = rw (e, f, h) sharing-computed

pub smallest-short : is_short smallest ≡ true
unfolding is_short canon_text digits
smallest-short = refl
