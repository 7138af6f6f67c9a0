mod Claims
mod GivenBack
mod Keeping
mod Places
mod Same
