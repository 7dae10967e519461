mod Totals
mod Turning
