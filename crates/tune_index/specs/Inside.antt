pub mod EntryPlaces
pub mod LeafLists
pub mod EachPage
pub mod Loading
