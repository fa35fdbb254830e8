mod Spelled
mod Storing
