mod Behind
mod OneLine
