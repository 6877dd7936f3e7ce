-- Near each rational point there is one that is off finitely many edges, and of which all holds that holds near each point of
-- which it holds.
use Rattle.std.proofs.Common.{◌≡◌, inl, inr, refl, sym, ◌∙◌, le_refl, ℕ, ◌+◌, ℤ, List, [], ◌∷◌, arith}
use Rattle.plane.proofs.Nearness.{Eventually, left_toward, toward, toward_is_point}
use Rattle.plane.proofs.Points.{whole_is_point}
use Rattle.plane.proofs.Segments.{left_not_on, on_is_straight, on_last_end, on_or_not}
use Rattle.plane.specs.Point.{IsPoint, Triple, whole}
use Rattle.rings.proofs.Crossings.{winding_law}
use Rattle.rings.proofs.Vertices.{misses_eventually}
use Rattle.rings.specs.Prelude.{Edge, HasEdge, IsClosed, IsOnSome, winding}
use Rattle.ring_laws.proofs.Triangles.{left_of, left_of_is_left}
use Rattle.meshes.proofs.Parts.{IsLeftOfAll, left_of_all_eventually}

-- ---- what holds near each point of which it holds

abbrev pub IsOpen : (Triple → Type 0) → Type 0
IsOpen P = (x c : Triple) → IsPoint x → IsPoint c → P x → Eventually (λ n. P (toward x c n))

-- so do two such facts together
pub both_open : (P Q : Triple → Type 0) → IsOpen P → IsOpen Q → IsOpen (λ x. P x × Q x)
both_open P Q p q x c at_x at_c h =
    let first = p x c at_x at_c h.0 in
    let second = q x c at_x at_c h.1 in
    record {
      start = first.start + second.start;
      from_start = λ n above. (first.from_start n (omega arith), second.from_start n (omega arith));
    }

module _ (es : List Edge) where
  -- being left of some lines,
  pub left_open : IsOpen (IsLeftOfAll es)
  left_open x c at_x at_c h = left_of_all_eventually x c es h

  -- being off some edges,
  pub off_open : IsOpen (λ x. ¬ IsOnSome es x)
  off_open x c at_x at_c off =
      let near = misses_eventually x c at_x at_c es off in
      record {
        start = near.start;
        from_start = λ n above on.
            near.from_start n above (toward x c n) (toward_is_point x c at_x at_c n) (on_last_end x (toward x c n)) on;
      }

  -- and having a winding number, off the edges of a closed list
  pub wound_open : IsClosed es → (w : ℤ) → IsOpen (λ x. (¬ IsOnSome es x) × (winding es x ≡ w))
  wound_open closed w x c at_x at_c h =
      let near = misses_eventually x c at_x at_c es h.0 in
      record {
        start = near.start;
        from_start = λ n above.
            let y = toward x c n in
            let at_y = toward_is_point x c at_x at_c n in
            let misses = near.from_start n above in
            (λ on. misses y at_y (on_last_end x y) on, sym (winding_law x y at_x at_y es closed misses) ∙ h.1);
      }

-- ---- a point off some edges

-- no edge has equal ends
abbrev pub AreProper : List Edge → Type 0
AreProper es = (e : Edge) → HasEdge es e → ¬ (e.from ≡ e.to)

-- a rational point off some edges, of which P holds
pub record OffEdges (P : Triple → Type 0) (es : List Edge) : Type 0 where
  pub point : Triple
  pub rational : IsPoint point
  pub holds : P point
  pub off : ¬ IsOnSome es point

module _ (P : Triple → Type 0) (is_open : IsOpen P) where
  -- from a point on an edge, to the left of it, and off all edges that it is off
  off_one : (e : Edge) → ¬ (e.from ≡ e.to) → (es : List Edge) → OffEdges P es → OffEdges P (e ∷ es)
  off_one e proper es near = elim (on_or_not near.point (whole e.from) (whole e.to) near.rational (whole_is_point e.from) (whole_is_point e.to)) [
    | inr off ↦ record {
      point = near.point;
      rational = near.rational;
      holds = near.holds;
      off = λ on. elim on [ inl here ↦ off here | inr there ↦ near.off there ];
    }
    | inl on ↦
        let x = near.point in
        let a = whole e.from in
        let b = whole e.to in
        let c = whole (left_of e.from e.to) in
        let at_c = whole_is_point (left_of e.from e.to) in
        let both = both_open P (λ y. ¬ IsOnSome es y) is_open (off_open es) x c near.rational at_c (near.holds, near.off) in
        let n : ℕ = both.start in
        let at_y = toward_is_point x c near.rational at_c n in
        let kept = both.from_start n (le_refl n) in
        let straight = on_is_straight x a b near.rational (whole_is_point e.from) (whole_is_point e.to) on in
        let left = left_toward a b x c straight (left_of_is_left e.from e.to proper) n in
        record {
          point = toward x c n;
          rational = at_y;
          holds = kept.0;
          off = λ h. elim h [ inl here ↦ left_not_on e.from e.to (toward x c n) at_y left here | inr there ↦ kept.1 there ];
        }
  ]

  -- so there is one off all edges of a list
  pub off_edges : (es : List Edge) → AreProper es → (x : Triple) → IsPoint x → P x → OffEdges P es
  off_edges [] proper x at_x h = record { point = x; rational = at_x; holds = h; off = λ on. on }
  off_edges (e ∷ es) proper x at_x h =
      off_one e (proper e (inl refl)) es (off_edges es (λ f has. proper f (inr has)) x at_x h)
