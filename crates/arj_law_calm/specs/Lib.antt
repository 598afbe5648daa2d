pub mod Next
pub mod Laws
pub mod Leaves
pub mod Starts
