-- How the code goes and why it is right: need not be believed.
pub mod Facts
pub mod ImageLaws
pub mod StoresLaws
pub mod FlushLaws
pub mod MaskLaws
pub mod DrainLaws
pub mod BulkLaws
