pub mod RuleLemmas
pub mod ChangeLemmas
pub mod EndLemmas
pub mod JudgeLemmas
