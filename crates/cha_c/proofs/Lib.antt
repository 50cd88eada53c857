mod Checked
mod Ordered
