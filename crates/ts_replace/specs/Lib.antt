pub mod CrashSafe
pub mod Names
pub mod Replaced
pub mod ScanFail
pub mod Scanned
