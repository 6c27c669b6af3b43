mod Parts
mod Writers
