use Rattle.std.proofs.Common.{◌≡◌, false, inl, inr, arith}
use Rattle.std.proofs.lemmas.Bool.{true_from_ne_false}
use Rattle.plane.proofs.Meetings.{elsewhere_not_only, meet_elsewhere, meet_only_at_from}
use Rattle.exact_plane.proofs.Directions.{straight_of_zero, zero_of_straight}
use Rattle.exact_plane.proofs.segments.meet_only_at.Goals as goal

pub returns-then-not-turns-clause-only : goal.returns-then-not-turns-clause-only
returns-then-not-turns-clause-only g c = (
  λ _. meet_only_at_from _ _ _ (inl (λ zero. absurd (cc (c.turns.ensures.turns.1 (straight_of_zero _ zero), c.if-not-turns.true)))),
  λ _. rw c.if-not-turns.true,
)

pub returns-else-not-turns : goal.returns-else-not-turns
returns-else-not-turns g c =
    let straight = zero_of_straight _ (c.turns.ensures.turns.0 c.if-not-turns.false) in
    let elsewhere = λ (out : c.is_between.result ≡ false). meet_elsewhere c.args.a.now c.args.b.now c.args.c.now straight (c.is_between.ensures.outside out) in
    record {
      only = (
        λ h. meet_only_at_from _ _ _ (inr (c.is_between.ensures.between.0 h)),
        λ only. true_from_ne_false _ (λ out. elsewhere_not_only (elsewhere out) only),
      );
      elsewhere = elsewhere;
      steps_least = omega arith;
      steps_most = omega arith;
    }
