pub mod WrittenBooks
pub mod ReadBack
