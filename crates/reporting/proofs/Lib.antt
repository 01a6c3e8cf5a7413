mod Loop
mod Program
