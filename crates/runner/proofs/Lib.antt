mod DrawnSoFar
mod EachNth
mod SumsBelow
mod Together
mod Played
mod Puts
mod Ends
