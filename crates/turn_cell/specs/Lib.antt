pub mod Histories
pub mod Passes
-- inside the crate: what the rule of a cell knows of its passes, the rule, and what its steps tell
pub mod Views
pub mod Rule
pub mod RuleSteps
