use native.Mathlib.Omega.{arith}
use Rattle.calling.proofs.Answers.{fits}
use Rattle.calling.proofs.state.Goals as goal

pub put_state-requires : goal.put_state-requires
put_state-requires c = (omega arith, fits _ _ _ _ c.state.ensures c.requires.0)
