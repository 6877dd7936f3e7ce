use Rattle.std.proofs.Common.{ap, length, refl, arith, ◌≡◌, ◌≤◌, ◌+◌, ◌*◌}
use Rattle.taut_check.proofs.TautParts.{sound_before_last}
use Rattle.taut_check.proofs.GivenVerdict.{verdict_given}
use Rattle.geo_session.proofs.held.Held.judge.Goals as goal
use Rattle.geo_session.proofs.held.Held.judge.Goals.{then-branch, else-branch+in_ok-taut}

pub check_from-requires-clause-sound : goal.check_from-requires-clause-sound
check_from-requires-clause-sound g c = λ k below. elim c.if-branch.branch [
  | then-branch w ↦
      let bent = rw (← c.self.view_is) at (c.in_ok-is_path.ensures.bent w.if-branch.true) in
      sound_before_last c.self.inside.ring.corners c.args.points.now bent k (omega (arith, below, c.saturating_sub.ensures, w.taut-is))
  | else-branch+in_ok-taut w ↦
      (rw (← c.self.view_is) at w.in_ok-taut.ensures.sound) k (omega (arith, below, c.saturating_sub.ensures, w.taut-is))
]

pub returns-clause-verdict : goal.returns-clause-verdict
returns-clause-verdict g c =
    rw (← c.self.view_is)
    (record {
      value = c.in_ok-verdict.verdict;
      holds = verdict_given c.self.inside.ring c.args.points.now c.in_ok-verdict.verdict c.in_ok-verdict.ensures.verdict;
      told = refl;
    })

pub returns-clause-steps : goal.returns-clause-steps
returns-clause-steps g c =
    let n = length c.args.self.now.ring.corners in
    let same : length c.self.inside.ring.corners ≡ n = ap (λ held. length held.ring.corners) c.self.view_is in
    let rules : c.check_from.new.steps ≤ c.if-branch.steps + (5300 * n + 2 * n + 8) * length c.args.points.now =
    rw same at (c.check_from.ensures.steps (5300 * n) (omega arith)) in
    elim c.if-branch.branch [
      | then-branch w ↦ omega (arith, rules, c.is_path.ensures.steps, w.steps-is)
      | else-branch+in_ok-taut w ↦ omega (arith, rules, c.is_path.ensures.steps, w.taut_part.ensures.steps, w.steps-is)
    ]

pub returns-in_err-verdict-clause-steps : goal.returns-in_err-verdict-clause-steps
returns-in_err-verdict-clause-steps g c =
    let n = length c.args.self.now.ring.corners in
    let same : length c.self.inside.ring.corners ≡ n = ap (λ held. length held.ring.corners) c.self.view_is in
    let rules : c.check_from.new.steps ≤ c.if-branch.steps + (5300 * n + 2 * n + 8) * length c.args.points.now =
    rw same at (c.check_from.ensures.steps (5300 * n) (omega arith)) in
    elim c.if-branch.branch [
      | then-branch w ↦ omega (arith, rules, c.is_path.ensures.steps, w.steps-is)
      | else-branch+in_ok-taut w ↦ omega (arith, rules, c.is_path.ensures.steps, w.taut_part.ensures.steps, w.steps-is)
    ]
