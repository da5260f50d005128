mod HostLemmas
pub mod FrameLemmas
pub mod WindowLemmas
pub mod TrayLemmas
pub mod CountLemmas
pub mod TrayLinkLemmas
pub mod OutputLemmas
pub mod OpeningLemmas
pub mod TrayKeepLemmas
mod WorkedWindows
pub mod TakenLemmas
mod WorkedTaking
mod WorkedStops
pub mod RunLemmas
pub mod PrintLemmas
pub mod PrintedLemmas
pub mod TextLemmas
mod StopLemmas
mod StoppedLemmas
pub mod FoldLemmas
pub mod LineLemmas
pub mod RangeLemmas
pub mod DigitLemmas
pub mod WorkedTexts
