-- What serves the contracts of private functions. Nobody has to read it who reads the promises.
pub mod Readers
pub mod ReadingTokens
pub mod ReadingArguments
pub mod ReadingLines
pub mod ReadingScripts
pub mod Numbers
pub mod QuotedSteps
pub mod Separators
pub mod Placing
