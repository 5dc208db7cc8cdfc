mod Attended
mod Opened
mod Settled
mod Exchanges
