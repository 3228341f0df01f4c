-- Making tables: `make_tables` stands below, in the crate `rectangle`; Sweep is for the contracts of inner functions only.
pub mod Sweep
