mod Gathering
mod Forms
mod Steps
