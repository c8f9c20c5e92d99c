pub mod RoomLaws
pub mod AddLaws
pub mod Reach
pub mod Fit
pub mod Judging
pub mod Laying
pub mod Answer
