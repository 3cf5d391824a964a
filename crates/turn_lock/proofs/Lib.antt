mod Lists
mod Pasts
mod Others
mod Unchanged
mod Drawing
mod Taking
mod Seating
