-- Laws of the SuDoku steps, over any list of groups: accepted lines stay (Stays), accepted marks decide nothing (Readings), how much
-- decides one line (OneLine), the passes (Passes, Running), demand 3 (ExactReturn, NotAlike), no line mended into another (NoneWrong),
-- parity lines read alone (Parity, Used), accepted lines are correct (Sound), what rebuilding alone leaves (Within, Untried), and what
-- these rest on.
pub mod Additive
pub mod Case
pub mod Lists
pub mod Words
pub mod Sums
pub mod Written
pub mod Grows
pub mod Steps
pub mod Passes
pub mod Running
pub mod Every
pub mod Stays
pub mod Readings
pub mod OneLine
pub mod Width
pub mod Marking
pub mod Faithful
pub mod Parity
pub mod Used
pub mod Sound
pub mod NoneWrong
pub mod Mends
pub mod Pair
pub mod ExactReturn
pub mod NotAlike
pub mod Within
pub mod Untried
pub mod Example
