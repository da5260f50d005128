-- The definitions of files, outputs and their faults that contracts name.
pub mod Count
pub mod LoadFail
pub mod PutFail
pub mod Told
-- Definitions for any order of files.
pub mod Ends
pub mod Order
pub mod Said
pub mod WentOn
pub mod inside
