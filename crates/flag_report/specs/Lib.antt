pub mod Findings
pub mod Scans
pub mod Games
pub mod Mates
pub mod Plies
pub mod Totals
pub mod Styles
pub mod CertReports
