use Rattle.taut_check.proofs.Verdicts.{tells_taut}
use Rattle.taut_check.proofs.verdict.check_from.Goals as goal

pub returns-clause-taut : goal.returns-clause-taut
returns-clause-taut g c =
    tells_taut c.args.ring.now.corners c.args.chain.now c.len-length.ensures.size.0 c.len-length.ensures.simple c.verdict_from.result
    c.verdict_from.ensures.bent
