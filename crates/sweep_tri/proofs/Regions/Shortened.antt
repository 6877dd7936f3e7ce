-- A region without the last edge of its near chain.
use Rattle.std.proofs.Common.{sym, subst, ◌∙◌, ℕ, ◌-◌, ◌<◌, ◌≤◌, List, length, arith}
use Rattle.std.proofs.lemmas.List.{get_or_default}
use Rattle.plane.specs.Point.{Point}
use Rattle.sweep_tri.proofs.Regions.Paths.{kept_item, kept_step, length_shortened, shortened}
use Rattle.sweep_tri.proofs.Regions.Sides.{ArePair}
use Rattle.mono_fill.specs.declared.side.Side.{Side}

module _ (corners : List Point) (ranks : List ℕ) (side : Side) (near far : List ℕ) (pair : ArePair corners ranks side near far)
    (three : 3 ≤ length near) where
  -- it is a region as well, since there are three vertices or more
  pub without_last : ArePair corners ranks side (shortened near) far
  without_last = record {
    near_some = omega (arith, length_shortened near);
    far_some = pair.far_some;
    near_numbers = λ i d h.
        let within : i < length near - 1 = omega (arith, length_shortened near) in
        subst (λ v. v < length corners) (sym (get_or_default (shortened near) i d 0 h ∙ kept_item near i within))
        (pair.near_numbers i 0 (omega arith));
    far_numbers = pair.far_numbers;
    first = kept_item near 0 (omega arith) ∙ pair.first;
    near_rises = λ a b s. pair.near_rises a b (kept_step near a b s);
    far_rises = pair.far_rises;
    nearer = λ a b c d s. pair.nearer a b c d (kept_step near a b s);
    apart = λ i j i_some i_within j_some j_within e.
        let within : i < length near - 1 = omega (arith, length_shortened near) in
        let ends = pair.apart i j i_some (omega arith) j_some j_within (sym (kept_item near i within) ∙ e) in
        absurd (let at = ends.0 in omega arith);
  }
