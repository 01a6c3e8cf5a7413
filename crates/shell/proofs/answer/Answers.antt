use Rattle.std.proofs.Common.{rules, arith}
use Rattle.shell.proofs.Pieces.{goes_on_lem, ends}
use Rattle.shell.proofs.answer.Goals as goal

pub loop-at-preserved : goal.loop-at-preserved
loop-at-preserved g c =
    record {
      begun = goes_on_lem _ _ _ _ c.loop-at.invariant.begun _ _ _ _ (search rules) c.serve-served.ensures;
      room = search rules;
      same = search rules;
    }

pub returns-clause-piece_served : goal.returns-clause-piece_served
returns-clause-piece_served g c = ends _ _ _ _ c.loop-at.invariant.begun (omega arith)
