mod Filling
mod Wording
