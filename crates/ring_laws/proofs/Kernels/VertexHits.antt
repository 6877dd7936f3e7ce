-- A point out of a ring that runs counterclockwise, from which the way to a vertex meets the edges there alone: it is right of an
-- edge at the vertex.
use Rattle.std.proofs.Common.{◌≡◌, inl, inr, [], ◌∷◌, refl, sym, subst, ap, ◌∙◌, true, false, ℕ, ◌+◌, ◌-◌, ◌<◌, ◌≤◌, le_refl, List}
use Rattle.std.proofs.Common.{length, arith, ℤ, pos, ◌+ℤ◌, ◌-ℤ◌, ◌*ℤ◌, ◌<ℤ◌}
use Rattle.std.proofs.lemmas.Int.{ints}
use Rattle.integer_algebra.proofs.Laws.{mul-zero, mul_comm}
use Rattle.integer_algebra.proofs.Polynomial.{var, ◌⊕◌, ◌⊖◌, ◌⊗◌, same_value}
use Rattle.integer_algebra.proofs.Signs.{factor_positive}
use Rattle.integer_algebra.proofs.Weights.{weighted_positive}
use Rattle.plane.proofs.Nearness.{apart_between, side_toward, Eventually, toward, toward_differs, toward_is_point, toward_on}
use Rattle.plane.proofs.Points.{same_refl, same_sym, same_whole, whole_is_point}
use Rattle.plane.proofs.Segments.{combination_of_same, on_antisym, on_first_end, on_is_straight, on_last_end, on_nested, on_or_not}
use Rattle.plane.proofs.Segments.{on_one_ray, on_reversed, on_same_point}
use Rattle.plane.proofs.Turns.{combination_of, on_of_combination, weights_positive}
use Rattle.plane.specs.Prelude.{determinant, IsPoint, IsRight, IsSame, On, Point, Triple, whole}
use Rattle.rings.proofs.Crossings.{in_law}
use Rattle.rings.proofs.Simple.{apart_of_simple, proper_edges}
use Rattle.rings.proofs.Vertices.{FirstHit, each_eventually, edge_with, first_hit, on_some_of}
use Rattle.rings.specs.Apart.{IsApartRing}
use Rattle.rings.specs.Prelude.{Edge, edge, edges_of, HasEdge, HasEnd, IsIn, IsOn, IsOnSome, IsSimple, vertex}
use Rattle.rings.specs.Winding.{WindsUpTo}
use Rattle.ring_laws.proofs.Kernels.InnerHits.{MeetsOnlyAt, right_of_edge}
use Rattle.ring_laws.proofs.Triangles.{end_is_on, end_of_other}
use Rattle.ring_laws.proofs.Vertices.{IsStrictlyOn, beside_differs, edges_at, neighbours_not_on_ray}

-- an edge of the ring at x, with y on its right
pub record RightOfEdgeAt (ring : List Point) (y x : Triple) : Type 0 where
  pub edge : Edge
  pub has : HasEdge (edges_of ring) edge
  pub on : IsOn edge x
  pub right : IsRight (whole edge.from) (whole edge.to) y

-- before a first hit the way meets the edges nowhere
pub alone_at_hit : (y t : Triple) → IsPoint y → IsPoint t → (es : List Edge) → (h : FirstHit y t es) → MeetsOnlyAt es y h.point
alone_at_hit y t at_y at_t es h z at_z way on =
    let within = on_nested z y h.point y t at_z at_y h.rational at_y at_t (on_first_end y t) h.on_way way in
    on_antisym z h.point y at_z h.rational at_y way (h.before z at_z within on)

-- ---- numbers

-- one coordinate of a point between two near ones
between_near : (k l m n v y c : ℤ) → k *ℤ v ≡ l *ℤ (n *ℤ v +ℤ y) +ℤ m *ℤ (n *ℤ v +ℤ c) → (k -ℤ (l +ℤ m) *ℤ n) *ℤ v ≡ l *ℤ y +ℤ m *ℤ c
between_near k l m n v y c e =
    let xs = k ∷ l ∷ m ∷ n ∷ v ∷ y ∷ c ∷ [] in
    let less = ((var 1 ⊕ var 2) ⊗ var 3) ⊗ var 4 in
    same_value ((var 0 ⊖ (var 1 ⊕ var 2) ⊗ var 3) ⊗ var 4) (var 0 ⊗ var 4 ⊖ less) xs refl
    ∙ ap (λ z. z -ℤ ((l +ℤ m) *ℤ n) *ℤ v) e
    ∙ same_value (var 1 ⊗ (var 3 ⊗ var 4 ⊕ var 5) ⊕ var 2 ⊗ (var 3 ⊗ var 4 ⊕ var 6) ⊖ less) (var 1 ⊗ var 5 ⊕ var 2 ⊗ var 6) xs refl

-- a positive product has a positive factor beside a positive one
first_factor : (a b z : ℤ) → pos 0 <ℤ b → a *ℤ b ≡ z → pos 0 <ℤ z → pos 0 <ℤ a
first_factor a b z hb e hz = factor_positive b a hb (omega (arith, ints, mul_comm a b))

-- a point is on the side of a line on which the near points toward it from the line are
side_of_near : (n f g z : ℤ) → z ≡ n *ℤ f +ℤ g → f ≡ pos 0 → z <ℤ pos 0 → g <ℤ pos 0
side_of_near n f g z e ef h = omega (arith, ints, ap (λ x. n *ℤ x) ef, mul-zero n)

-- ---- ways near a point

module _ (v y c : Triple) (at_v : IsPoint v) (at_y : IsPoint y) (at_c : IsPoint c) where
  -- where v is not between y and c, it is not between near points toward them
  off_near : ¬ On v y c → (n : ℕ) → ¬ On v (toward v y n) (toward v c n)
  off_near off n on =
      let at = toward_is_point v y at_v at_y n in
      let k = combination_of v (toward v y n) (toward v c n) at_v at (toward_is_point v c at_v at_c n) on in
      let weight = between_near k.k k.l k.m (pos n) v.W y.W c.W k.in_W in
      let some = weighted_positive k.l k.m k.l_nonnegative k.m_nonnegative
      (weights_positive v (toward v y n) (toward v c n) k at_v) y.W c.W at_y at_c in
      off (on_of_combination v y c at_v at_y at_c (record {
        k = k.k -ℤ (k.l +ℤ k.m) *ℤ pos n;
        l = k.l;
        m = k.m;
        k_positive = first_factor _ v.W _ at_v weight some;
        l_nonnegative = k.l_nonnegative;
        m_nonnegative = k.m_nonnegative;
        in_X = between_near k.k k.l k.m (pos n) v.X y.X c.X k.in_X;
        in_Y = between_near k.k k.l k.m (pos n) v.Y y.Y c.Y k.in_Y;
        in_W = weight;
      }))

-- near a whole point another one is not between near points
leaves_behind : (v t : Point) → ¬ (v ≡ t) → (y c : Triple) → IsPoint y → IsPoint c
    → Eventually (λ n. ¬ On (whole t) (toward (whole v) y n) (toward (whole v) c n))
leaves_behind v t differ y c at_y at_c =
    let at_v = whole_is_point v in
    let at_t = whole_is_point t in
    let off = λ (on : On (whole v) (whole t) (whole t)).
    let combination = combination_of (whole v) (whole t) (whole t) at_v at_t at_t on in
    differ (same_whole v t (combination_of_same (whole v) (whole t) (whole t) (same_refl (whole t)) combination)) in
    let far = apart_between (whole v) y c at_v at_y at_c (whole t) (whole t) at_t at_t off in
    record {
      start = far.start;
      from_start = λ n above on. far.from_start n above (record {
        point = whole t;
        rational = at_t;
        on_first = on;
        on_second = on_first_end (whole t) (whole t);
      });
    }

-- ---- a hit at an end of an edge

module _ (ring : List Point) (apart : IsApartRing ring) (some : 1 < length ring) (winds : WindsUpTo (pos 1) (edges_of ring))
    (v : Point) (y : Triple) (at_y : IsPoint y) (out : ¬ IsIn ring y) (alone : MeetsOnlyAt (edges_of ring) y (whole v))
    (e : Edge) (has : HasEdge (edges_of ring) e) (end : HasEnd e v)
    (c : Triple) (at_c : IsPoint c) (along : (n : ℕ) → IsOn e (toward (whole v) c n)) (off : ¬ On (whole v) y c) where
  -- v is in the ring, so y is another point
  differs : ¬ IsSame y (whole v)
  differs same =
      let on = on_same_point (whole_is_point v) (same_sym same) (end_is_on e v end) in
      out (inl (on_some_of y e (edges_of ring) has on))

  -- x is between near points
  abbrev IsNear : Triple → ℕ → Type 0
  IsNear x n = On x (toward (whole v) y n) (toward (whole v) c n)

  -- what is on an edge between near points is strictly inside it, and the edge is at v
  abbrev IsStrictNear : Edge → ℕ → Type 0
  IsStrictNear f n = (x : Triple) → IsPoint x → IsNear x n → IsOn f x → IsStrictlyOn f x × IsOn f (whole v)

  -- it is so for an edge at v, whose other end is left behind
  strict_at : (f : Edge) → HasEdge (edges_of ring) f → IsOn f (whole v) → Eventually (IsStrictNear f)
  strict_at f has_f on_v =
      let proper = proper_edges ring apart some f has_f in
      let not_v = off_near (whole v) y c (whole_is_point v) at_y at_c off in
      elim (end_of_other (edges_of ring) apart.apart e f has has_f v end on_v) [
        | inl from ↦
            let far = leaves_behind v f.to (λ same. proper (from ∙ same)) y c at_y at_c in
            record {
              start = far.start;
              from_start = λ n above x at_x near on_f. (
                record {
                  on = on_f;
                  not_from = λ s. not_v n (subst (λ (t : Point). IsNear (whole t) n) from (on_same_point at_x s near));
                  not_to = λ s. far.from_start n above (on_same_point at_x s near);
                },
                on_v,
              );
            }
        | inr to ↦
            let far = leaves_behind v f.from (λ same. proper (sym same ∙ sym to)) y c at_y at_c in
            record {
              start = far.start;
              from_start = λ n above x at_x near on_f. (
                record {
                  on = on_f;
                  not_from = λ s. far.from_start n above (on_same_point at_x s near);
                  not_to = λ s. not_v n (subst (λ (t : Point). IsNear (whole t) n) to (on_same_point at_x s near));
                },
                on_v,
              );
            }
      ]

  -- and any other edge is left behind
  strict_near : (f : Edge) → HasEdge (edges_of ring) f → Eventually (IsStrictNear f)
  strict_near f has_f =
      let at_v = whole_is_point v in
      let at_a = whole_is_point f.from in
      let at_b = whole_is_point f.to in
      elim (on_or_not (whole v) (whole f.from) (whole f.to) at_v at_a at_b) [
        | inl on ↦ strict_at f has_f on
        | inr not ↦
            let far = apart_between (whole v) y c at_v at_y at_c (whole f.from) (whole f.to) at_a at_b not in
            record {
              start = far.start;
              from_start = λ n above x at_x on on_f.
                  absurd (far.from_start n above (record { point = x; rational = at_x; on_first = on; on_second = on_f }));
            }
      ]

  -- a near point toward y is out of the ring, as y is
  near_is_out : (n : ℕ) → ¬ IsIn ring (toward (whole v) y n)
  near_is_out n near_in =
      let at_v = whole_is_point v in
      let p = toward (whole v) y n in
      let at_p = toward_is_point (whole v) y at_v at_y n in
      let on = toward_on (whole v) y at_v at_y n in
      let misses = λ (z : Triple) (at_z : IsPoint z) (way : On z p y) (on_z : IsOnSome (edges_of ring) z).
      let within = on_nested z p y (whole v) y at_z at_p at_y at_v at_y on (on_last_end (whole v) y) way in
      let same = alone z at_z (on_reversed z (whole v) y within) on_z in
      let back : On (whole v) y p = on_reversed (whole v) p y (on_same_point at_z same way) in
      let is = on_antisym (whole v) p y at_v at_p at_y back (on_reversed p (whole v) y on) in
      toward_differs (whole v) y n differs (same_sym is) in
      out (in_law ring p y at_p at_y misses near_in)

  -- so y is right of an edge at v
  right_at_vertex : RightOfEdgeAt ring y (whole v)
  right_at_vertex =
      let at_v = whole_is_point v in
      let each = each_eventually IsStrictNear (edges_of ring) strict_near in
      let n : ℕ = each.start in
      let p = toward (whole v) y n in
      let m = toward (whole v) c n in
      let at_p = toward_is_point (whole v) y at_v at_y n in
      let at_m = toward_is_point (whole v) c at_v at_c n in
      let h : FirstHit p m (edges_of ring) =
      first_hit p m at_p at_m (edges_of ring) m at_m (on_last_end p m) (on_some_of m e (edges_of ring) has (along n)) in
      let (f, has_f, on_f) = edge_with h.point (edges_of ring) h.on_edge in
      let (strict, on_v) = each.from_start n (le_refl n) f has_f h.point h.rational h.on_way on_f in
      let right = right_of_edge ring apart some winds p at_p (near_is_out n) f has_f h.point h.rational strict
      (alone_at_hit p m at_p at_m (edges_of ring) h) in
      let straight = on_is_straight (whole v) (whole f.from) (whole f.to) at_v (whole_is_point f.from) (whole_is_point f.to) on_v in
      record {
        edge = f;
        has = has_f;
        on = on_v;
        right = side_of_near (pos n) (determinant (whole f.from) (whole f.to) (whole v)) (determinant (whole f.from) (whole f.to) y)
            (determinant (whole f.from) (whole f.to) p) (side_toward (whole f.from) (whole f.to) (whole v) y n) straight right;
      }

-- ---- a hit at a vertex

module _ (ring : List Point) (simple : IsSimple ring) (three : 3 ≤ length ring) (winds : WindsUpTo (pos 1) (edges_of ring))
    (r : ℕ) (h : r < length ring) (y : Triple) (at_y : IsPoint y) (out : ¬ IsIn ring y)
    (alone : MeetsOnlyAt (edges_of ring) y (whole (vertex ring r))) where
  -- y is right of an edge there
  pub right_at : RightOfEdgeAt ring y (whole (vertex ring r))
  right_at =
      let apart = apart_of_simple ring simple in
      let u = vertex ring (r + (length ring - 1)) in
      let v = vertex ring r in
      let w = vertex ring (r + 1) in
      let at_u = whole_is_point u in
      let at_v = whole_is_point v in
      let at_w = whole_is_point w in
      let at = edges_at ring apart three r h in
      let before = right_at_vertex ring apart (omega arith) winds v y at_y out alone (edge u v) at.first (inr refl) (whole u) at_u
      (λ n. on_reversed _ (whole v) (whole u) (toward_on (whole v) (whole u) at_v at_u n)) in
      let after = right_at_vertex ring apart (omega arith) winds v y at_y out alone (edge v w) at.second (inl refl) (whole w) at_w
      (toward_on (whole v) (whole w) at_v at_w) in
      elim (on_or_not (whole v) y (whole w) at_v at_y at_w) [
        | inr off ↦ after off
        | inl on_w ↦ elim (on_or_not (whole v) y (whole u) at_v at_y at_u) [
          | inr off ↦ before off
          | inl on_u ↦
              let not_y = λ (s : IsSame (whole v) y). out (inl (on_some_of y (edge v w) (edges_of ring) at.second
              (on_same_point at_v s (on_first_end (whole v) (whole w))))) in
              let not_u = λ (s : IsSame (whole v) (whole u)). beside_differs ring simple three r h false (sym (same_whole v u s)) in
              let not_w = λ (s : IsSame (whole v) (whole w)). beside_differs ring simple three r h true (sym (same_whole v w s)) in
              let ray = on_one_ray (whole v) y (whole u) (whole w) at_v at_y at_u at_w on_u on_w not_y not_u not_w in
              absurd (neighbours_not_on_ray ring simple three r h ray)
        ]
      ]
