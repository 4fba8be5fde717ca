pub mod Chain
pub mod Held
pub mod History
pub mod Keys
pub mod NewLayer
pub mod PlainFile
pub mod PlainReading
pub mod PlainRules
