pub mod SameLists
pub mod PresentViews
pub mod Written
pub mod ViewFacts
pub mod ViewLaws
