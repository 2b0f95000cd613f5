pub mod MatchLaw
