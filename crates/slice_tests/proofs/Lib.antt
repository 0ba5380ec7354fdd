pub mod ContextFacts
