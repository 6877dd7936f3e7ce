-- Two points that differ and see each other are a chain with no bend.
use Rattle.std.proofs.Common.{◌≡◌, inl, inr, List, length, arith}
use Rattle.std.proofs.lemmas.Bool.{cases_eq}
use Rattle.plane.specs.Point.{Point, whole}
use Rattle.plane.proofs.Points.{whole_is_point}
use Rattle.plane.proofs.Segments.{on_first_end, on_last_end}
use Rattle.rings.specs.Chain.{IsBentChain, point_at}
use Rattle.rings.specs.Sees.{Sees}

pub bent_pair : (ring points : List Point) → length points ≡ 2 → ¬ (point_at points 0 ≡ point_at points 1)
    → Sees ring (whole (point_at points 0)) (whole (point_at points 1)) → IsBentChain ring points
bent_pair ring points two differ sees = record {
  chain = record {
    some = omega (arith, two);
    inside = λ k below. elim (cases_eq k 0) [
      | inl first ↦ rw first (sees (whole (point_at points 0)) (whole_is_point (point_at points 0)) (on_first_end (whole (point_at points 0)) (whole (point_at points 1))))
      | inr later ↦
          let last : k ≡ 1 = omega (arith, two, below, later) in
          rw last (sees (whole (point_at points 1)) (whole_is_point (point_at points 1)) (on_last_end (whole (point_at points 0)) (whole (point_at points 1))))
    ];
    distinct = λ k below. let first : k ≡ 0 = omega (arith, two, below) in rw first differ;
    sees = λ k below. let first : k ≡ 0 = omega (arith, two, below) in rw first sees;
  };
  bends = λ k inner. absurd (omega (arith, two, inner.not_first, inner.not_last));
}
