pub mod LastModule
pub mod NamePlaces
pub mod TreeOf
pub mod KeptNames
pub mod WorkedNames
