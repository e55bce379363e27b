-- How the code goes and why it is right: need not be believed.
pub mod ReportFacts
pub mod ReadingLaws
pub mod PrintingLaws
pub mod ReportLaws
pub mod NoLimitLaws
pub mod Rules
