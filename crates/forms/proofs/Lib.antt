mod Answering
mod Mending
mod Standing
