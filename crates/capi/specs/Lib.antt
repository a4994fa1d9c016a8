pub mod Outcomes
pub mod Exports
pub mod ExportLaws
