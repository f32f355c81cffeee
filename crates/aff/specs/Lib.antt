-- The demands on the library, as statements over the definitions that the contracts cite.
pub mod Cases
pub mod Rules
pub mod Leaves
pub mod Demand1
pub mod Demand2
pub mod BreakPlaces
pub mod Demand3
pub mod DataPlaces
pub mod PutOrder
pub mod Withdrawn
pub mod Worked
pub mod WorkedOrders
