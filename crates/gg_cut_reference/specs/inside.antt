-- Definitions that no promise of the program reaches: for single functions, and for proofs.
pub mod ReferenceForm
pub mod ReferenceRuns
pub mod Fitted
pub mod Left
pub mod Listers
pub mod Named
pub mod Alike
pub mod NeedsTold
pub mod PlanText
pub mod WholeHolds
pub mod Follows
pub mod Links
pub mod Made
pub mod Reference
pub mod Fitting
pub mod Whole
