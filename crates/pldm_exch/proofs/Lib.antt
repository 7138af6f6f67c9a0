mod CallerLaws
mod Callers
mod Keeping
mod Resting
mod SideRows
