-- A chain with bends in a simple ring comes to no point twice.
use Rattle.std.proofs.Common.{◌≡◌, sym, ap, ◌∙◌, zero, suc, ℕ, ◌+◌, ◌-◌, ◌<◌, ◌≤◌, List, length, take, arith}
use Rattle.plane.proofs.Segments.{on_last_end}
use Rattle.plane.specs.Point.{Point, whole}
use Rattle.rings.specs.Chain.{IsBentChain, point_at}
use Rattle.rings.specs.Simple.{IsSimple}
use Rattle.funnels.proofs.OneChain.{front_at, front_bent, front_length, no_closed_chain}
use Rattle.funnels.proofs.Touched.{one_step}
use Rattle.dual_tree.specs.Laws.{NoPointTwiceLaw}

module _ (ring : List Point) (some : 3 ≤ length ring) (simple : IsSimple ring) (chain : List Point) (bent : IsBentChain ring chain) where
  -- it does not come back to its first point, since its front would end where it begins,
  not_first_again : (j : ℕ) → 0 < j → j < length chain → ¬ (point_at chain 0 ≡ point_at chain j)
  not_first_again j later within same =
      let long = front_length chain (j + 1) (omega (arith, within)) in
      let at = front_at chain (j + 1) (omega (arith, within)) in
      let last : point_at (take (j + 1) chain) (length (take (j + 1) chain) - 1) ≡ point_at chain j =
      ap (point_at (take (j + 1) chain)) (omega (arith, long)) ∙ at j (omega arith) in
      let closed = no_closed_chain ring some simple (take (j + 1) chain) (front_bent chain (j + 1) (omega (arith, within)) ring (omega arith) bent)
      (at 0 (omega arith) ∙ same ∙ sym last) in
      omega (arith, long, closed, later)

  -- nor to the end of a step, since a point is on one step
  not_end_again : (m n : ℕ) → m < n → n + 1 < length chain → ¬ (point_at chain (m + 1) ≡ point_at chain (n + 1))
  not_end_again m n later within same =
      let e = one_step ring some simple chain bent m n (point_at chain (m + 1))
      (record {
        more = omega (arith, later, within);
        on = on_last_end (whole (point_at chain m)) (whole (point_at chain (m + 1)));
        differ = λ e. bent.chain.distinct m (omega (arith, later, within)) (sym e);
      })
      (record {
        more = within;
        on = rw same (on_last_end (whole (point_at chain n)) (whole (point_at chain (n + 1))));
        differ = λ e. bent.chain.distinct n within (sym e ∙ same);
      }) in
      omega (arith, e, later)

pub no_point_twice : NoPointTwiceLaw
no_point_twice ring some simple chain bent zero j earlier within same = not_first_again ring some simple chain bent j earlier within same
no_point_twice ring some simple chain bent (suc m) j earlier within same =
    not_end_again ring some simple chain bent m (j - 1) (omega (arith, earlier)) (omega (arith, earlier, within))
    (ap (point_at chain) (omega arith) ∙ same ∙ ap (point_at chain) (omega (arith, earlier)))
