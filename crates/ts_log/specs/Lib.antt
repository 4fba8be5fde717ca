pub mod BinaryDigits
pub mod Buffer
pub mod Groups
pub mod LogArray
pub mod Rising
