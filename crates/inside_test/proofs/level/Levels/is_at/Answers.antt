use Rattle.inside_test.proofs.Levels.{across_of_same, height_of_same, same_from}
use Rattle.inside_test.proofs.level.Levels.is_at.Goals as goal

pub returns-then-is_level-clause-at : goal.returns-then-is_level-clause-at
returns-then-is_level-clause-at g c = λ p levels.
    let v = c.args.v.now in
    let level = (c.is_level.ensures.level p levels).0 c.if-is_level.true in
    let (plumb, back) = c.is_plumb.ensures.plumb p levels in
    (λ h. same_from v p (plumb h) level, λ same. back (across_of_same v p same))

pub returns-else-is_level-clause-at : goal.returns-else-is_level-clause-at
returns-else-is_level-clause-at g c = λ p levels. (λ h. absurd (cc h), λ same. absurd (cc ((c.is_level.ensures.level p levels).1 (height_of_same c.args.v.now p same), c.if-is_level.false)))
