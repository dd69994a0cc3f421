-- The Dragonball extension: the vendor word, the doorbell, the message command; and a region's base.
pub mod Vendor
pub mod DoorBell
pub mod Messages
pub mod Regions
