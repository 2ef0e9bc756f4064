-- What plans are made of does the same where what it goes on with does.
pub mod PlansAlike
pub mod CallsAlike
pub mod FieldsAlike
-- The plans of two trees that are alike do the same.
pub mod OperatorsAlike
pub mod TablesAlike
pub mod ExpressionsAlike
pub mod AssignmentsAlike
pub mod LoopsAlike
pub mod StatementsAlike
-- What Lua code means.
pub mod MeaningAlike
