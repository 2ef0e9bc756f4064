-- What typing promises of runs. A reader can stop here.
pub mod Laws
