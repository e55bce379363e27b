-- How the code goes and why it is right: need not be believed.
pub mod InspectionFacts
pub mod LineLaws
pub mod ListingLaws
pub mod InspectionLaws
