pub mod Cycle
pub mod Pass
pub mod Sum
pub mod Made
pub mod Values
pub mod Laws
pub mod Numbers
pub mod Words
