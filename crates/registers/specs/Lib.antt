-- The port's register list, and the registers of virtio 1.2 with their meanings.
pub mod Rows
pub mod Registers
pub mod Virtio12
pub mod Apart
