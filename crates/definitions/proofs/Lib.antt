-- Demands.antt states the three demands as theorems: read it first. Cases.antt and Listing.antt run the paper's cases on the definitions, and
-- the files named Corners or Cases after them what stands at each edge.

-- laws of tests, lists and words, which other crates' proofs cite too
pub mod Tests
pub mod Lists
pub mod Table
pub mod Words
pub mod Records
pub mod State
-- sound records stay sound
pub mod Rows
pub mod SoundRow
pub mod SoundDesk
pub mod SoundSecurity
-- a history keeps the state well formed, and the lone run follows it
pub mod HeaderWords
pub mod Session
pub mod Passed
pub mod ByKind
pub mod WellFormed
pub mod Fresh
pub mod Isolation
pub mod Histories
-- refusals: the first condition met, and answers told from their numbers
pub mod Refused
pub mod Numbers
-- to whom an event belongs, and the verdict both ways
pub mod Ownership
pub mod Verdicts
-- the paper's sentences about all histories
pub mod Counters
pub mod SessionChange
pub mod Performed
pub mod Standing
pub mod Minute
pub mod SessionRows
pub mod RestRows
pub mod AdjustedClose
pub mod RangeLaws
pub mod RangeEmpty
pub mod CeilingFloor
pub mod FiguresSet
pub mod OneOrder
-- the three demands
pub mod Demands
-- the paper's cases
pub mod Bytes
pub mod Run
pub mod Cases
pub mod Listing
-- each edge: refusals, soundness, the rules, what an event does, bytes, answers
pub mod Corner
pub mod Corners
pub mod SoundCorners
pub mod MarketCorners
pub mod RowCorners
pub mod DoneCorners
pub mod RestCorners
pub mod CloseCorners
pub mod RangeCorners
pub mod OrderCorners
pub mod EventCases
pub mod AnswerCases
-- what the code gives, told apart
pub mod Answered
