mod Steps
mod Advances
