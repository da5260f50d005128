pub mod WordLaws
pub mod PlaceLaws
pub mod WorkedSteps
pub mod NamedLaws
pub mod SpellingLaws
pub mod UsableLaws
pub mod LengthenLaws
