-- From a triangle that is entered over a side, its neighbours at the two other sides are entered with the next funnel.
-- From the last triangle of a trail over a shared side to a neighbour: back to the triangle before, or on to one more. The points of the side
-- have the same gates there.
use Rattle.std.proofs.Common.{◌≡◌, inl, inr, refl, sym, subst, ap, ◌∙◌, List, [], ◌∷◌, ◌++◌, length, drop, take, min, ℕ, ◌+◌, ◌-◌, ◌<◌, pos}
use Rattle.std.proofs.Common.{◌<ℤ◌, arith}
use Rattle.std.proofs.lemmas.Bool.{cases_lt}
use Rattle.std.proofs.lemmas.List.{get_or-drop, length-drop}
use Rattle.integer_algebra.proofs.SignSteps.{turned_negative}
use Rattle.plane.proofs.Turns.{determinant_swap_first}
use Rattle.plane.specs.Prelude.{height_over, Point, Triple, whole}
use Rattle.rings.specs.Prelude.{origin, point_at, vertex}
use Rattle.meshes.proofs.Sides.{ends_below}
use Rattle.meshes.proofs.TreeLeaves.{next_corner, turns_left, side_is_one}
use Rattle.meshes.specs.Prelude.{Fits, HasSide, IsInTri, IsSideOfTwo, tri_at}
use Rattle.meshes.specs.declared.tri.Tri.{Tri}
use Rattle.funnels.proofs.Chains.{step_left, step_right}
use Rattle.funnels.proofs.Funnels.{next_left_old, next_right_last, next_right_length, next_right_old}
use Rattle.funnels.proofs.Trees.{first_left, first_right}
use Rattle.funnels.proofs.Vertices.{IsSharedSide}
use Rattle.funnels.specs.Funnel.{IsReachedFrom}
use Rattle.funnels.specs.OpenFunnel.{left_behind, right_behind}
use Rattle.hulls.proofs.Entrances.Trails.{more_named, first_entrance, AreNamed, Entrance, HasEntrance, IsEntered, IsNamed, last_of}
use Rattle.hulls.proofs.Entrances.Trails.{IsBetween, IsGate, IsTrail, between_back}
use Rattle.hulls.proofs.Gates.{next_gate_left, next_gate_right, some_gate, one_gate}

-- ---- names

module _ (corners : List Point) (b : Point) (ns : List Point) (named : AreNamed corners b ns) (h : ℕ) (within : h < length ns) (m : Point)
    (last : IsNamed corners b m) where
  -- the points from a place on are named,
  named_from : AreNamed corners b (drop h ns)
  named_from n below =
      subst (IsNamed corners b) (sym (get_or-drop h ns n origin)) (named (h + n) (omega (arith, below, length-drop h ns, within)))

  -- and so are those to the place, and one more
  named_to : AreNamed corners b (take (h + 1) ns ++ m ∷ [])
  named_to n below = elim (cases_lt h n) [
    | inr old ↦
        subst (IsNamed corners b) (sym (next_right_old ns m h within n old)) (named n (omega (arith, old, within)))
    | inl new ↦
        let same : h + 1 ≡ n = omega (arith, new, below, next_right_length ns m h within) in
        subst (λ i. IsNamed corners b (point_at (take (h + 1) ns ++ m ∷ []) i)) same
        (subst (IsNamed corners b) (sym (next_right_last ns m h within)) last)
  ]

-- ---- the two sides

module _ (corners : List Point) (tris : List Tri) (fits : Fits corners tris) (b : Point) (home : ℕ) (trail : List Entrance) (e : Entrance)
    (w : IsEntered corners tris b (last_of home trail) e) (n : ℕ) where
  -- the points of the funnel
  abbrev ns : List Point
  ns = e.points

  -- and the third corner
  abbrev p : Point
  p = vertex corners e.third

  -- the triangle is in the list,
  within : e.triangle < length tris
  within = w.shared.other_in_list

  -- the diagonal is shared,
  diagonal : IsSharedSide tris e.left e.right
  diagonal = (last_of home trail, e.triangle, inr w.shared)

  -- the third corner is beyond it,
  beyond : height_over (vertex corners e.left) (vertex corners e.right) (whole (vertex corners e.third)) <ℤ pos 0
  beyond =
      turned_negative (determinant_swap_first (whole (vertex corners e.left)) (whole (vertex corners e.right)) (whole (vertex corners e.third)))
      (turns_left corners (tri_at tris e.triangle) (fits.triangles e.triangle w.shared.other_in_list).counterclockwise e.left e.right e.third
      w.shared.other_has w.to_third)

  -- a vertex,
  third_named : IsNamed corners b (vertex corners e.third)
  third_named = inr (e.third, (ends_below corners tris fits e.triangle e.right e.third w.shared.other_in_list w.to_third).1, refl)

  -- and reached from some place
  place : (h : ℕ) × IsReachedFrom e.points e.apex h (whole (vertex corners e.third))
  place = some_gate e.points e.apex (vertex corners e.left) (vertex corners e.right) w.funnel.funnel (whole (vertex corners e.third))

  -- over the side to the right end,
  pub enter_left : IsSideOfTwo tris e.right e.third e.triangle n → HasEntrance corners tris b home (e ∷ trail) n e.third e.right
  enter_left shared =
      let (h, reached) = place in
      let (m, to_third, from_third) = next_corner (tri_at tris n) e.third e.right shared.other_has in
      let top : h + (e.apex - h) ≡ e.apex + (h - e.apex) = omega arith in
      record {
        entrance = record { triangle = n; left = e.third; right = e.right; third = m; points = p ∷ drop h ns; apex = e.apex - h + 1 };
        triangle = refl;
        left = refl;
        right = refl;
        entered = record {
          shared = shared;
          to_third = to_third;
          from_third = from_third;
          before = w.before ++ right_behind ns e.apex (h - e.apex);
          funnel = step_left corners tris fits e.triangle e.left e.right e.third within w.shared.other_has w.to_third w.from_third diagonal
              w.before ns e.apex w.funnel h reached (e.triangle, n, inr shared);
          begins = first_right origin w.before (point_at ns) e.apex (h - e.apex) (point_at (p ∷ drop h ns) (e.apex - h + 1))
              (next_left_old ns p h (e.apex - h) ∙ ap (point_at ns) top)
              ∙ w.begins;
          named = more_named corners b p (drop h ns) third_named (named_from corners b ns w.named h reached.within p third_named);
        };
        keeps = λ z g between gate.
            let (j, from_z, is) = gate in
            let (i, next, same) = next_gate_left ns e.apex (vertex corners e.left) (vertex corners e.right) w.funnel.funnel h p beyond reached z
            between.rational between.on between.not_last j from_z in
            (i, next, same ∙ is);
      }

  -- or to the left end
  pub enter_right : IsSideOfTwo tris e.third e.left e.triangle n → HasEntrance corners tris b home (e ∷ trail) n e.left e.third
  enter_right shared =
      let (h, reached) = place in
      let (m, to_third, from_third) = next_corner (tri_at tris n) e.left e.third shared.other_has in
      let top : min e.apex h ≡ e.apex - (e.apex - h) = omega arith in
      record {
        entrance = record { triangle = n; left = e.left; right = e.third; third = m; points = take (h + 1) ns ++ p ∷ []; apex = min e.apex h };
        triangle = refl;
        left = refl;
        right = refl;
        entered = record {
          shared = shared;
          to_third = to_third;
          from_third = from_third;
          before = w.before ++ left_behind ns e.apex (e.apex - h);
          funnel = step_right corners tris fits e.triangle e.left e.right e.third within w.shared.other_has w.to_third w.from_third diagonal
              w.before ns e.apex w.funnel h reached (e.triangle, n, inr shared);
          begins = first_left origin w.before (point_at ns) e.apex (e.apex - h) (point_at (take (h + 1) ns ++ p ∷ []) (min e.apex h))
              (next_right_old ns p h reached.within (min e.apex h) (omega arith) ∙ ap (point_at ns) top)
              ∙ w.begins;
          named = named_to corners b ns w.named h reached.within p third_named;
        };
        keeps = λ z g between gate.
            let (j, from_z, is) = gate in
            let (i, next, same) = next_gate_right ns e.apex (vertex corners e.left) (vertex corners e.right) w.funnel.funnel h p beyond reached z
            between.rational between.on between.not_first j from_z in
            (i, next, same ∙ is);
      }

module _ (corners : List Point) (tris : List Tri) (b : Point) (home : ℕ) where
  -- each point has a gate in the last triangle of a trail
  pub has_gate : (trail : List Entrance) → IsTrail corners tris b home trail → (z : Triple) → (g : Point) × IsGate b trail z g
  has_gate [] is z = (b, refl)
  has_gate (e ∷ trail) is z =
      let (h, reached) = some_gate e.points e.apex (vertex corners e.left) (vertex corners e.right) is.0.funnel.funnel z in
      (point_at e.points h, (h, reached, refl))

  -- a trail to triangle n, where the points of the side between vertices i and j have the gates that they have on another trail
  pub record GoesTo (trail : List Entrance) (n i j : ℕ) : Type 0 where
    pub next : List Entrance
    pub is_trail : IsTrail corners tris b home next
    pub leads : last_of home next ≡ n
    pub keeps : (z : Triple) (g : Point) → IsBetween (vertex corners i) (vertex corners j) z → IsGate b trail z g → IsGate b next z g

  -- on to one more triangle,
  onward : (trail : List Entrance) (n l r : ℕ) → IsTrail corners tris b home trail → HasEntrance corners tris b home trail n l r
      → GoesTo trail n r l
  onward trail n l r is h = record {
    next = h.entrance ∷ trail;
    is_trail = (h.entered, h.keeps, is);
    leads = h.triangle;
    keeps = λ z g between.
        h.keeps z g
        (subst (λ i. IsBetween (vertex corners i) (vertex corners h.entrance.right) z) (sym h.left)
        (subst (λ j. IsBetween (vertex corners l) (vertex corners j) z) (sym h.right)
        (between_back (vertex corners r) (vertex corners l) z between)));
  }

  -- or back over the side that was crossed last
  backward : (e : Entrance) (trail : List Entrance) (n : ℕ) → IsTrail corners tris b home (e ∷ trail) → last_of home trail ≡ n
      → GoesTo (e ∷ trail) n e.left e.right
  backward e trail n is leads = record {
    next = trail;
    is_trail = is.2;
    leads = leads;
    keeps = λ z g between gate.
        let (h, reached, is_g) = gate in
        let (other, there) = has_gate trail is.2 z in
        let (j, also, is_other) = is.1 z other between there in
        let same = one_gate e.points e.apex (vertex corners e.left) (vertex corners e.right) is.0.funnel.funnel z between.rational
        (inr between.on) j h also reached in
        subst (IsGate b trail z) (sym is_other ∙ ap (point_at e.points) same ∙ is_g) there;
  }

  -- the points between other names of the same two vertices
  pub goes_by : (trail : List Entrance) (n i j k l : ℕ) → i ≡ k → j ≡ l → GoesTo trail n i j → GoesTo trail n k l
  goes_by trail n i j k l first last goes = subst (λ x. GoesTo trail n x l) first (subst (GoesTo trail n i) last goes)

module _ (corners : List Point) (tris : List Tri) (fits : Fits corners tris) (b : Point) (home : ℕ)
    (in_b : IsInTri corners (tri_at tris home) (whole b)) where
  -- so it is over each shared side
  pub crosses : (trail : List Entrance) → IsTrail corners tris b home trail → (i j n : ℕ) → IsSideOfTwo tris i j (last_of home trail) n
      → GoesTo corners tris b home trail n i j
  crosses [] is i j n shared =
      onward corners tris b home [] n j i is (first_entrance corners tris fits b home n j i in_b shared)
  crosses (e ∷ trail) is i j n shared =
      let w = is.0 in
      let left = (fits.triangles e.triangle w.shared.other_in_list).counterclockwise in
      elim (side_is_one corners (tri_at tris e.triangle) left e.left e.right e.third w.shared.other_has w.to_third i j shared.has) [
        | inl back ↦
            let has : HasSide (tri_at tris n) e.right e.left =
            subst (λ x. HasSide (tri_at tris n) x e.left) back.1 (subst (HasSide (tri_at tris n) j) back.0 shared.other_has) in
            elim (w.shared.only n shared.other_in_list (inl has)) [
              | inl before ↦
                  goes_by corners tris b home (e ∷ trail) n e.left e.right i j (sym back.0) (sym back.1)
                  (backward corners tris b home e trail n is (sym before))
              | inr same ↦ absurd (shared.different (sym same))
            ]
        | inr (inl over_right) ↦
            let over = subst (λ x. IsSideOfTwo tris x e.third e.triangle n) over_right.0
            (subst (λ y. IsSideOfTwo tris i y e.triangle n) over_right.1 shared) in
            goes_by corners tris b home (e ∷ trail) n e.right e.third i j (sym over_right.0) (sym over_right.1)
            (onward corners tris b home (e ∷ trail) n e.third e.right is (enter_left corners tris fits b home trail e w n over))
        | inr (inr over_left) ↦
            let over = subst (λ x. IsSideOfTwo tris x e.left e.triangle n) over_left.0
            (subst (λ y. IsSideOfTwo tris i y e.triangle n) over_left.1 shared) in
            goes_by corners tris b home (e ∷ trail) n e.third e.left i j (sym over_left.0) (sym over_left.1)
            (onward corners tris b home (e ∷ trail) n e.left e.third is (enter_right corners tris fits b home trail e w n over))
      ]
