mod Choosing
mod LoggingIn
mod Dues
mod Packets
mod Told
