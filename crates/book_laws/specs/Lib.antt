pub mod BookCuts
