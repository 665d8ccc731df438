-- Laws: for callers. EndplateLeast: the law of "least with" for an endplate. The others: what the proofs of the functions
-- cite.
pub mod Laws
mod EndplateLeast
mod ProductsFit
mod FiguresBounded
mod WithinLimits
mod FlangeBounded
mod RoundedLoads
mod Accuracy
mod Exactness
mod EveryCauseChecked
mod SizedOrRefused
mod AnswerInNumbers
mod AnswersExact
mod WithPlate
mod BoltsTaken
mod BoltedNumbers
mod PairsLeft
