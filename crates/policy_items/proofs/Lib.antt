mod Distinct
mod OneSection
