pub mod ArticleBytes
