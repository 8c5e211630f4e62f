pub mod Reset
pub mod ShortAddress
pub mod ReadScratchpad
pub mod NotCopied
pub mod Public
pub mod PublicReads
pub mod ReadCase
