mod Exits
mod SafeSoFar
mod WriteLaws
mod ReleasedInTime
mod Intervals
mod Committing
mod Turning
mod Beginning
