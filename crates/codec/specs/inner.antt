-- How the code goes and why it is right: need not be believed.
pub mod CheckLaws
pub mod FieldsLaws
pub mod InPlace
pub mod Normal
pub mod ReadLaws
