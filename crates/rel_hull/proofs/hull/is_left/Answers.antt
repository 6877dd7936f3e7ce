use Rattle.std.proofs.Common.{◌≡◌, ◌↔◌, IsTrue, rules}
use Rattle.exact_plane.specs.declared.direction.Direction.TheVariants.{Left}
use Rattle.rel_hull.proofs.Turned.{turns_exactly}
use Rattle.rel_hull.proofs.hull.is_left.Goals as goal

pub returns-clause-left : goal.returns-clause-left
returns-clause-left g c =
    let is : IsTrue c.eq.result ↔ (c.turn.result ≡ Left) = search rules in
    let exactly = turns_exactly _ _ _ Left c.turn.ensures.turn in
    (λ e not_s not_t. exactly.0 (is.0 e), λ left. is.1 (exactly.1 (left c.if-u-s.false c.if-u-t.false)))
