mod Growing
mod Reading
mod Refusing
