pub mod PeakLaws
