mod Scopes
mod Verdicts
