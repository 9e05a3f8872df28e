-- What a customer reads first, promise by promise: First with Sheets, Neighbour and Ends is the first demand, Second the second, Third the
-- third, then what `train` writes, what `fit` prints last, and the examples. Calls says what the first demand asks of one call. Assumes nothing.
pub mod Calls
pub mod First
pub mod Sheets
pub mod Second
pub mod Third
pub mod Neighbour
pub mod Ends
pub mod Trained
pub mod Loads
pub mod Examples
