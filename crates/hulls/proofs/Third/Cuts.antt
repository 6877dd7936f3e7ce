-- A path with a point before it, from which the way over its first point is straight or has a bend there.
-- Paths read backward, as lists that begin with their first step, and from a point on them to their end.
use Rattle.std.proofs.Common.{◌≡◌, inl, inr, refl, sym, ◌∙◌, ◌-◌, ◌≤◌, List, [], ◌∷◌, length, arith, ◌≢◌, subst, ap, ◌+◌, ◌<◌, reverse}
use Rattle.std.proofs.Common.{drop}
use Rattle.std.proofs.lemmas.Bool.{cases_lt}
use Rattle.std.proofs.lemmas.List.{length-drop, length-reverse}
use Rattle.plane.proofs.Order.{point_or_other}
use Rattle.plane.proofs.Points.{whole_is_point}
use Rattle.plane.proofs.Segments.{on_first_end, on_reversed}
use Rattle.plane.specs.Point.{Point, whole}
use Rattle.rings.specs.Prelude.{IsBend, IsBentChain, IsIn, IsPath, IsSimple, point_at}
use Rattle.rings.specs.From.{IsPredecessor}
use Rattle.funnels.proofs.Chains.{one_bent}
use Rattle.funnels.proofs.OneChain.{bent_is_path, last_of}
use Rattle.hulls.proofs.Cones.{IsBetween}
use Rattle.hulls.proofs.Joined.{GoesOnTo, goes_on_beyond, goes_on_step, over_bent, over_ends, path_is_taut, rest_at, rest_bent, sees_back}
use Rattle.hulls.proofs.Joined.{back_at, back_bent}
use Rattle.hulls.proofs.Turning.{one_path}
use Rattle.hulls.specs.Joined.{AreJoined, IsFirstStep, IsOnPath}
use Rattle.hulls.specs.Steps.{IsOpenStep}

-- ---- chains

module _ (ring : List Point) (x : Point) (chain : List Point) (bent : IsBentChain ring chain) (x_in : IsIn ring (whole x))
    (on_to : GoesOnTo ring x chain) where
  -- a chain goes back to a point that goes on to it,
  back_to : GoesOnTo ring (point_at chain 0) (x ∷ [])
  back_to = record {
    differ = λ e. on_to.differ (sym e);
    sees = sees_back ring x (point_at chain 0) on_to.sees;
    bend = λ more. absurd (omega arith);
  }

  -- so with it the chain has bends too,
  pub with_point : IsBentChain ring (x ∷ chain)
  with_point = over_bent ring (x ∷ []) chain (one_bent ring x x_in) bent on_to back_to

  -- and the end that it had
  pub with_point_ends : last_of (x ∷ chain) ≡ last_of chain
  with_point_ends = over_ends ring (x ∷ []) chain (one_bent ring x x_in) bent on_to back_to

-- ---- paths

-- how the path from y, over p, is with x before it: it has a bend at y, or goes straight on past y
pub data IsProlonged (ring : List Point) (x y a p : Point) (rest : List Point) : Type 0 where
  bent : IsBend ring x y p → IsPath ring x a (x ∷ y ∷ p ∷ rest) → IsProlonged ring x y a p rest
  straight : IsBetween y x p → IsPath ring x a (x ∷ p ∷ rest) → IsProlonged ring x y a p rest

module _ (ring : List Point) (some : 3 ≤ length ring) (simple : IsSimple ring) (x y a p : Point) (rest : List Point)
    (step : IsOpenStep ring x y) (is : IsPath ring y a (y ∷ p ∷ rest)) where
  -- with a bend at y it is one point longer,
  pub with_bend : IsBend ring x y p → IsPath ring x a (x ∷ y ∷ p ∷ rest)
  with_bend bend =
      let taut = path_is_taut ring y a (y ∷ p ∷ rest) is in
      let on_to : GoesOnTo ring x (y ∷ p ∷ rest) = record { differ = step.differ; sees = step.sees; bend = λ more. bend } in
      bent_is_path ring some simple (x ∷ y ∷ p ∷ rest) (with_point ring x (y ∷ p ∷ rest) taut.bent step.x_in on_to) x a refl
      (with_point_ends ring x (y ∷ p ∷ rest) taut.bent step.x_in on_to ∙ taut.last)

  -- and else it goes from x to p
  pub past_first : IsBetween y x p → IsPath ring x a (x ∷ p ∷ rest)
  past_first between =
      let taut = path_is_taut ring y a (y ∷ p ∷ rest) is in
      let there : IsBentChain ring (p ∷ rest) = rest_bent ring (y ∷ p ∷ rest) taut.bent 1 (omega arith) in
      let from_y : GoesOnTo ring y (p ∷ rest) =
      goes_on_step ring (y ∷ p ∷ rest) taut.bent y 0 (omega arith) (on_first_end (whole y) (whole p)) between.1 in
      let on_to = goes_on_beyond ring (p ∷ rest) y x from_y between.2 step.sees in
      bent_is_path ring some simple (x ∷ p ∷ rest) (with_point ring x (p ∷ rest) there step.x_in on_to) x a refl
      (with_point_ends ring x (p ∷ rest) there step.x_in on_to
      ∙ rest_at (y ∷ p ∷ rest) 1 (length (p ∷ rest) - 1) (length (y ∷ p ∷ rest) - 1) (omega arith) ∙ taut.last)

  -- where x and p are joined over y, it is one of the two
  pub prolonged : AreJoined ring y x p → IsProlonged ring x y a p rest
  prolonged (inl between) = straight between (past_first between)
  prolonged (inr bend) = bent bend (with_bend bend)

-- ---- first steps

-- a path goes first to one point
pub same_step : (ring : List Point) (v a p q : Point) → IsFirstStep ring v a p → IsFirstStep ring v a q → p ≡ q
same_step ring v a p q one other =
    sym one.is_next ∙ ap (λ path. point_at path 1) (one_path ring v a one.path other.path one.is_path other.is_path) ∙ other.is_next

-- what a list begins with is the first step,
pub step_of_list : (ring : List Point) (v a p : Point) (rest : List Point) → IsPath ring v a (v ∷ p ∷ rest) → IsFirstStep ring v a p
step_of_list ring v a p rest is = record { path = v ∷ p ∷ rest; is_path = is; more = omega arith; is_next = refl }

-- and a path with a first step is a list that begins so
list_of_path : (ring : List Point) (v a p : Point) (path : List Point) → IsPath ring v a path → 1 < length path → point_at path 1 ≡ p
    → (rest : List Point) × IsPath ring v a (v ∷ p ∷ rest)
list_of_path ring v a p [] is more next = absurd (omega (arith, more))
list_of_path ring v a p (u ∷ []) is more next = absurd (omega (arith, more))
list_of_path ring v a p (u ∷ w ∷ rest) is more next = (
  rest,
  subst (λ z. IsPath ring v a (z ∷ p ∷ rest)) (path_is_taut ring v a (u ∷ w ∷ rest) is).first
      (subst (λ z. IsPath ring v a (u ∷ z ∷ rest)) next is),
)

pub list_of_step : (ring : List Point) (v a p : Point) → IsFirstStep ring v a p → (rest : List Point) × IsPath ring v a (v ∷ p ∷ rest)
list_of_step ring v a p step = list_of_path ring v a p step.path step.is_path step.more step.is_next

module _ (ring : List Point) (some : 3 ≤ length ring) (simple : IsSimple ring) where
  -- ---- backward

  -- a path read backward is the path back,
  pub path_back : (s t : Point) (path : List Point) → IsPath ring s t path → IsPath ring t s (reverse path)
  path_back s t path is =
      let taut = path_is_taut ring s t path is in
      let n = length-reverse path in
      let more = taut.bent.chain.some in
      bent_is_path ring some simple (reverse path) (back_bent ring path taut.bent) t s
      (back_at path 0 (length path - 1) (omega arith) ∙ taut.last)
      (back_at path (length (reverse path) - 1) 0 (omega arith) ∙ taut.first)

  -- so a point on it is on that,
  pub on_path_back : (a b v : Point) → IsOnPath ring a b v → IsOnPath ring b a v
  on_path_back a b v on =
      let n = length-reverse on.path in
      let k = on.place in
      let within = on.within in
      let l = length on.path - 2 - k in
      let here = back_at on.path l (k + 1) (omega arith) in
      let next = back_at on.path (l + 1) k (omega arith) in
      record {
        path = reverse on.path;
        is_path = path_back a b on.path on.is_path;
        place = l;
        within = omega arith;
        on = rw (here, next) (on_reversed (whole v) (whole (point_at on.path k)) (whole (point_at on.path (k + 1))) on.on);
      }

  -- and the point before the last is the first one of the path back
  pub step_of_before : (b x p : Point) → IsPredecessor ring b x p → IsFirstStep ring x b p
  step_of_before b x p before =
      let n = length-reverse before.path in
      let more = before.more in
      record {
        path = reverse before.path;
        is_path = path_back b x before.path before.is_path;
        more = omega arith;
        is_next = back_at before.path 1 (length before.path - 2) (omega arith) ∙ before.is;
      }

  -- ---- from a point on a path

  module _ (a b v : Point) (on : IsOnPath ring a b v) (other : v ≢ b) where
    -- there is a path on to the end: within a step it goes to where the step ends, and at its end to the next point
    pub cut : (n : Point) × IsFirstStep ring v b n
    cut =
        let taut = path_is_taut ring a b on.path on.is_path in
        let k = on.place in
        let within = on.within in
        let rest = drop (k + 1) on.path in
        let count = length-drop (k + 1) on.path in
        let there = rest_bent ring on.path taut.bent (k + 1) within in
        let end = rest_at on.path (k + 1) (length rest - 1) (length on.path - 1) (omega arith) in
        elim (point_or_other v (point_at on.path (k + 1))) [
          | inl same ↦ (
            point_at on.path (k + 1 + 1),
            record {
              path = rest;
              is_path = bent_is_path ring some simple rest there v b (rest_at on.path (k + 1) 0 (k + 1) (omega arith) ∙ sym same) (end ∙ taut.last);
              more = elim (cases_lt (k + 1 + 1) (length on.path)) [
                | inl less ↦ omega arith
                | inr none ↦
                    let last : k + 1 ≡ length on.path - 1 = omega arith in
                    absurd (other (same ∙ ap (point_at on.path) last ∙ taut.last))
              ];
              is_next = rest_at on.path (k + 1) 1 (k + 1 + 1) (omega arith);
            },
          )
          | inr differ ↦
              let on_to = goes_on_step ring on.path taut.bent v k within on.on differ in
              let v_in = taut.bent.chain.sees k within (whole v) (whole_is_point v) on.on in (
                point_at on.path (k + 1),
                record {
                  path = v ∷ rest;
                  is_path = bent_is_path ring some simple (v ∷ rest) (with_point ring v rest there v_in on_to) v b refl
                      (with_point_ends ring v rest there v_in on_to ∙ end ∙ taut.last);
                  more = omega arith;
                  is_next = rest_at on.path (k + 1) 0 (k + 1) (omega arith);
                },
              )
        ]
