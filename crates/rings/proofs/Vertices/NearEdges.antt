-- Near a rational point: the way from it to another point misses all edges that it is not on.
use Rattle.std.proofs.Common.{le_refl, inl, inr, refl, subst, ◌+◌, List, [], ◌∷◌, arith, ℕ}
use Rattle.plane.proofs.Nearness.{apart_between, Eventually, apart_eventually, toward, toward_differs, toward_is_point, toward_on}
use Rattle.plane.proofs.Points.{whole_is_point}
use Rattle.plane.specs.Prelude.{IsPoint, IsSame, Meet, On, Triple, whole}
use Rattle.rings.specs.Across.{Misses}
use Rattle.rings.specs.Edge.{Edge, HasEdge, IsOn, IsOnSome}

-- segments that in the end miss each edge that x is not on in the end miss all of some edges where x is on none of them
all_missed : (x : Triple) (p q : ℕ → Triple)
    → ((e : Edge) → ¬ (IsOn e x) → Eventually (λ n. ¬ Meet (p n) (q n) (whole e.from) (whole e.to)))
    → (es : List Edge) → ¬ (IsOnSome es x) → Eventually (λ n. Misses (p n) (q n) es)
all_missed x p q each [] off = record { start = 0; from_start = λ n above z at_z on h. h }
all_missed x p q each (e ∷ es) off =
    let first = each e (λ on. off (inl on)) in
    let rest = all_missed x p q each es (λ h. off (inr h)) in
    record {
      start = first.start + rest.start;
      from_start = λ n above z at_z on h. elim h [
        | inl on_e ↦ first.from_start n (omega arith) (record { point = z; rational = at_z; on_first = on; on_second = on_e })
        | inr on_es ↦ rest.from_start n (omega arith) z at_z on on_es
      ];
    }

-- near a point that is on none of some edges, the way from it to another misses them,
pub misses_eventually : (x c : Triple) → IsPoint x → IsPoint c → (es : List Edge) → ¬ (IsOnSome es x) → Eventually (λ n. Misses x (toward x c n) es)
misses_eventually x c at_x at_c =
    all_missed x (λ n. x) (toward x c) (λ e. apart_eventually x c at_x at_c (whole e.from) (whole e.to) (whole_is_point e.from) (whole_is_point e.to))

-- and so does the segment between two ways from it
pub misses_between : (m p q : Triple) → IsPoint m → IsPoint p → IsPoint q → (es : List Edge) → ¬ (IsOnSome es m)
    → Eventually (λ n. Misses (toward m p n) (toward m q n) es)
misses_between m p q at_m at_p at_q =
    all_missed m (toward m p) (toward m q)
    (λ e. apart_between m p q at_m at_p at_q (whole e.from) (whole e.to) (whole_is_point e.from) (whole_is_point e.to))

-- a rational point other than x on the segment from x to c, with the way to it
pub record Near (x c : Triple) (es : List Edge) : Type 0 where
  pub point : Triple
  pub rational : IsPoint point
  pub on : On point x c
  pub differs : ¬ (IsSame point x)
  pub misses : Misses x point es

-- some way from x toward c misses all edges that x is not on
pub shrink : (x c : Triple) (es : List Edge) → IsPoint x → IsPoint c → ¬ (IsSame c x) → ¬ (IsOnSome es x) → Near x c es
shrink x c es at_x at_c differ off =
    let near = misses_eventually x c at_x at_c es off in
    record {
      point = toward x c near.start;
      rational = toward_is_point x c at_x at_c near.start;
      on = toward_on x c at_x at_c near.start;
      differs = toward_differs x c near.start differ;
      misses = near.from_start near.start (le_refl near.start);
    }

-- ---- what holds of each edge

-- what holds in the end of each edge of a list holds in the end of all together
pub each_eventually : (P : Edge → ℕ → Type 0) (es : List Edge) → ((f : Edge) → HasEdge es f → Eventually (P f))
    → Eventually (λ n. (f : Edge) → HasEdge es f → P f n)
each_eventually P [] h = record { start = 0; from_start = λ n above f has. absurd has }
each_eventually P (e ∷ es) h =
    let first = h e (inl refl) in
    let rest = each_eventually P es (λ f has. h f (inr has)) in
    record {
      start = first.start + rest.start;
      from_start = λ n above f has. elim has [
        | inl is ↦ subst (λ (g : Edge). P g n) is (first.from_start n (omega arith))
        | inr k ↦ rest.from_start n (omega arith) f k
      ];
    }
