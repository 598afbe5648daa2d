mod Cut
mod Told
