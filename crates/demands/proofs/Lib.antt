-- That what is demanded of the calls together holds.
pub mod DemandTwoLaws
