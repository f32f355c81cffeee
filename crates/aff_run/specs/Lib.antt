-- Runs of the writer, what they answer and store, and the tree that they describe.
pub mod TreeSizes
pub mod Run
pub mod AnswersFromTree
pub mod Cut
pub mod AreasHold
pub mod DescribedFile
pub mod BufferSize
pub mod CallsAlike
pub mod Reordered
