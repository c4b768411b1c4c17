pub mod BalanceLaws
