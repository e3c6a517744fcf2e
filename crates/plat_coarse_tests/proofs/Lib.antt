pub mod ReportTriedLemmas
pub mod CostTriedRows
pub mod CostTriedLemmas
