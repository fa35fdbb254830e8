pub mod FlatValid
pub mod ImagePages
pub mod FirstOrigin
