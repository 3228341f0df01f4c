-- Cases beside the starred samples; and the report that "Store file" prints. In proofs/ stands too a rectangle as the promises of
-- `forecast` ask for.
pub mod Cases
pub mod Report
