mod Edited
mod Ended
mod OneAnswer
mod Opened
mod Shown
