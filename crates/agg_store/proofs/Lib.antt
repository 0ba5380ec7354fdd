pub mod FoldFacts
