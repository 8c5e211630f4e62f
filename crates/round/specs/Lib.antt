pub mod Words
pub mod AnyLength
pub mod Pages
pub mod PagesLaw
