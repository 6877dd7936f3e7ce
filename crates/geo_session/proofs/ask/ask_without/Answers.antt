use Rattle.std.proofs.lemmas.Result.{IfOk-weaker}
use Rattle.std.specs.Prelude.{None}
use Rattle.geo_session.proofs.ask.ask_without.Goals as goal

pub returns-in-Polygon-clause-asked : goal.returns-in-Polygon-clause-asked
returns-in-Polygon-clause-asked g c =
    rw c.in-Polygon.is (IfOk-weaker c.ask_polygon.result _ _ (λ asked h. λ version. h version None) c.ask_polygon.ensures.asked)
