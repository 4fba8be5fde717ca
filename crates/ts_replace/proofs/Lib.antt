pub mod CrashLemmas
pub mod NameLemmas
pub mod NamedLemmas
pub mod ReplacedLemmas
pub mod StageLemmas
