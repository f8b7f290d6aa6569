pub mod Lists
pub mod Rising
pub mod Store
