pub mod Cases
pub mod First
pub mod FirstThreat
pub mod Labels
pub mod Laws
pub mod Tests
