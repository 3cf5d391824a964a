-- What the contracts of private functions cite.
pub mod BlockViews
pub mod FrontMatters
pub mod LineViews
pub mod Numbers
pub mod Pieces
pub mod QuotedTexts
