mod Loop
mod Program
mod Whole
