mod AuditLemmas
mod CheckLemmas
mod CommandLemmas
mod DeviceLinesLemmas
pub mod FindingsLemmas
mod InTurnLemmas
mod InputLemmas
pub mod LineLemmas
mod MappedLemmas
pub mod PlacingLemmas
mod PlayLemmas
pub mod PrintingLemmas
mod PullLemmas
pub mod RelayLemmas
mod ReportingLemmas
pub mod ServeLemmas
mod StateAtLemmas
mod StreamedLemmas
mod TablesLemmas
