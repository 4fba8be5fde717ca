pub mod AskedKinds
pub mod ContentSize
mod Decided
pub mod Deciding
pub mod Elements
mod EntryKinds
mod EntryOrders
mod EntrySplits
pub mod GrownChains
pub mod GrownHistories
pub mod HeldTriples
pub mod HoldsAtLayers
pub mod IdOrder
pub mod IdsAtLayers
mod MergeSteps
mod NamedLemmas
pub mod NamesAtLayers
pub mod Naming
pub mod Narrowing
pub mod NewLists
mod NumberRanges
pub mod OneHistory
pub mod OneName
pub mod RemovedTriples
pub mod OneNumber
mod PairLemmas
pub mod Ranges
pub mod ReadParts
pub mod Seeking
pub mod SelectedAtLayers
mod SortedTerms
mod SpelledLists
pub mod SpelledTriples
pub mod StepsContent
pub mod StepsLink
pub mod Strangers
mod StreamLemmas
pub mod TermSets
pub mod TripleCounts
pub mod Turns
mod WalkBounds
mod WalkedLemmas
pub mod WalksAnew
