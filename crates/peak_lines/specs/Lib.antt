pub mod PeakLineLaws
