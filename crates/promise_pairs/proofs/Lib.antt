pub mod PairsLaws
