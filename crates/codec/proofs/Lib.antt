pub mod Arrays
pub mod RoundTrip
pub mod WriteLaws
