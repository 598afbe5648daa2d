mod Finding
mod Read
