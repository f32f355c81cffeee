-- The proofs of the demands.
pub mod CasesLaws
pub mod RulesLaws
pub mod LeavesLaws
pub mod Demand1Laws
pub mod Demand2Laws
pub mod BreakPlacesLaws
pub mod Demand3Laws
pub mod DataPlacesLaws
pub mod PutOrderLaws
pub mod WithdrawnLaws
pub mod ExampleLaws
pub mod WorkedSums
pub mod WorkedLaws
pub mod WorkedOrdersLaws
