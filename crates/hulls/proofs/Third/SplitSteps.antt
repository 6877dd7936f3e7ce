-- Steps split at the vertices on them, one vertex after the other.
-- A path between two points, with a third not on it, is a way of steps past no vertex.
use Rattle.std.proofs.Common.{◌≡◌, ◌≢◌, ◌⊎◌, inl, inr, refl, sym, subst, ℕ, suc, ◌<◌, List, [], ◌∷◌, arith, ◌∙◌, zero, ◌+◌, ◌-◌, length}
use Rattle.std.proofs.lemmas.Bool.{cases_lt}
use Rattle.plane.proofs.Order.{point_or_other}
use Rattle.plane.proofs.Points.{same_whole, whole_is_point}
use Rattle.plane.proofs.Segments.{nearer_on, on_antisym, on_last_end, on_or_not, on_reversed}
use Rattle.plane.specs.Prelude.{On, Point, whole}
use Rattle.rings.specs.Prelude.{IsBentChain, IsIn, IsPath, point_at, Sees, vertex}
use Rattle.meshes.proofs.Sight.{sees_before}
use Rattle.funnels.proofs.OneChain.{last_of}
use Rattle.hulls.proofs.Cones.{IsBetween, between_back, joined_back}
use Rattle.hulls.proofs.Joined.{sees_back, path_is_taut, rest_at, rest_bent}
use Rattle.hulls.proofs.Third.Rays.{joined_nearer}
use Rattle.hulls.proofs.Third.Ways.{IsWayOf, IsStepPast, IsWay}
use Rattle.hulls.specs.Joined.{IsOnPath}

-- a step that b is not on, past none of the first n vertices of the ring
pub record IsStepPastFirst (ring : List Point) (b : Point) (n : ℕ) (x y : Point) : Type 0 where
  pub x_in : IsIn ring (whole x)
  pub y_in : IsIn ring (whole y)
  pub differ : x ≢ y
  pub sees : Sees ring (whole x) (whole y)
  pub off : ¬ On (whole b) (whole x) (whole y)
  pub clear : (i : ℕ) → i < n → ¬ IsBetween (vertex ring i) x y

-- a point is strictly between two others or it is not
between_or_not : (v x y : Point) → IsBetween v x y ⊎ ¬ IsBetween v x y
between_or_not v x y = elim (point_or_other v x) [
  | inl same ↦ inr (λ between. between.0 same)
  | inr not_x ↦ elim (point_or_other v y) [
    | inl same ↦ inr (λ between. between.1 same)
    | inr not_y ↦ elim (on_or_not (whole v) (whole x) (whole y) (whole_is_point v) (whole_is_point x) (whole_is_point y)) [
      | inl on ↦ inl (not_x, not_y, on)
      | inr off ↦ inr (λ between. off between.2)
    ]
  ]
]

-- ---- one step

-- also what is strictly between
between_part : (u x v y : Point) → IsBetween v x y → IsBetween u x v → IsBetween u x y
between_part u x v y between in_part = (
  in_part.0,
  (λ same. in_part.1 (same_whole u v
      (on_antisym (whole u) (whole v) (whole x) (whole_is_point u) (whole_is_point v) (whole_is_point x)
      in_part.2 (subst (λ z. On (whole v) (whole x) (whole z)) (sym same) between.2)))),
  nearer_on x u v y in_part.2 between.2,
)

module _ (ring : List Point) (b : Point) (n : ℕ) where
  -- a step read backward
  first_back : (x y : Point) → IsStepPastFirst ring b n x y → IsStepPastFirst ring b n y x
  first_back x y step = record {
    x_in = step.y_in;
    y_in = step.x_in;
    differ = λ e. step.differ (sym e);
    sees = sees_back ring x y step.sees;
    off = λ on. step.off (on_reversed (whole b) (whole y) (whole x) on);
    clear = λ i h between. step.clear i h (between_back between);
  }

  -- a step without the next vertex on it goes past that too,
  unsplit : (x y : Point) → IsStepPastFirst ring b n x y → ¬ IsBetween (vertex ring n) x y → IsStepPastFirst ring b (suc n) x y
  unsplit x y step none = record {
    x_in = step.x_in;
    y_in = step.y_in;
    differ = step.differ;
    sees = step.sees;
    off = step.off;
    clear = λ i h. elim (cases_lt i n) [
      | inl less ↦ step.clear i less
      | inr not_less ↦ let last : n ≡ i = omega arith in subst (λ k. ¬ IsBetween (vertex ring k) x y) last none
    ];
  }

  -- and so does the part to that vertex
  part : (x y : Point) → IsStepPastFirst ring b n x y → IsBetween (vertex ring n) x y → IsStepPastFirst ring b (suc n) x (vertex ring n)
  part x y step between =
      let v = vertex ring n in
      unsplit x v (record {
        x_in = step.x_in;
        y_in = step.sees (whole v) (whole_is_point v) between.2;
        differ = λ e. between.0 (sym e);
        sees = sees_before ring (whole x) (whole v) (whole y) (whole_is_point x) (whole_is_point v) (whole_is_point y) between.2 step.sees;
        off = λ on. step.off (nearer_on x b v y on between.2);
        clear = λ i h in_part. step.clear i h (between_part (vertex ring i) x v y between in_part);
      }) (λ in_part. in_part.1 refl)

module _ (ring : List Point) (b : Point) (n : ℕ) where
  -- and that from it
  part_from : (x y : Point) → IsStepPastFirst ring b n x y → IsBetween (vertex ring n) x y → IsStepPastFirst ring b (suc n) (vertex ring n) y
  part_from x y step between =
      first_back ring b (suc n) y (vertex ring n) (part ring b n y x (first_back ring b n x y step) (between_back between))

-- ---- ways

-- a way past the first n vertices that goes first to a point of the way from x to y
pub record IsSplitWay (ring : List Point) (b : Point) (n : ℕ) (c x y : Point) : Type 0 where
  pub next : Point
  pub rest : List Point
  pub way : IsWayOf (IsStepPastFirst ring b n) ring c x next rest
  pub on : On (whole next) (whole x) (whole y)
  pub differ : next ≢ x

module _ (ring : List Point) (b : Point) (n : ℕ) (c : Point) where
  -- a way past the first n vertices is split at the next
  pub split : (x y : Point) (rest : List Point) → IsWayOf (IsStepPastFirst ring b n) ring c x y rest → IsSplitWay ring b (suc n) c x y
  split x y [] way = elim (between_or_not (vertex ring n) x y) [
    | inl between ↦ record {
      next = vertex ring n;
      rest = y ∷ [];
      way = (part ring b n x y way.0 between, inl between, (part_from ring b n x y way.0 between, way.1));
      on = between.2;
      differ = between.0;
    }
    | inr none ↦ record {
      next = y;
      rest = [];
      way = (unsplit ring b n x y way.0 none, way.1);
      on = on_last_end (whole x) (whole y);
      differ = λ e. way.0.differ (sym e);
    }
  ]
  split x y (z ∷ rest) way =
      let later = split y z rest way.2 in
      let joined = joined_back ring y later.next x (joined_nearer ring y z later.next x later.on later.differ (joined_back ring y x z way.1)) in
      elim (between_or_not (vertex ring n) x y) [
        | inl between ↦ record {
          next = vertex ring n;
          rest = y ∷ later.next ∷ later.rest;
          way = (
            part ring b n x y way.0 between,
            inl between,
            (
              part_from ring b n x y way.0 between,
              joined_nearer ring y x (vertex ring n) later.next (on_reversed (whole (vertex ring n)) (whole x) (whole y) between.2) between.1 joined,
              later.way,
            ),
          );
          on = between.2;
          differ = between.0;
        }
        | inr none ↦ record {
          next = y;
          rest = later.next ∷ later.rest;
          way = (unsplit ring b n x y way.0 none, joined, later.way);
          on = on_last_end (whole x) (whole y);
          differ = λ e. way.0.differ (sym e);
        }
      ]

module _ (ring : List Point) (b c : Point) where
  -- b is on no step of the chain
  abbrev IsOff : List Point → Type 0
  IsOff chain = (k : ℕ) → k + 1 < length chain → ¬ On (whole b) (whole (point_at chain k)) (whole (point_at chain (k + 1)))

  -- a step of a chain is a step
  chain_step : (x y : Point) (rest : List Point) → IsBentChain ring (x ∷ y ∷ rest) → IsOff (x ∷ y ∷ rest) → IsStepPastFirst ring b 0 x y
  chain_step x y rest bent off = record {
    x_in = bent.chain.inside 0 (omega arith);
    y_in = bent.chain.inside 1 (omega arith);
    differ = bent.chain.distinct 0 (omega arith);
    sees = bent.chain.sees 0 (omega arith);
    off = off 0 (omega arith);
    clear = λ i h. absurd (omega (arith, h));
  }

  -- and a chain with bends is a way
  way_of_chain : (x y : Point) (rest : List Point) → IsBentChain ring (x ∷ y ∷ rest) → last_of (x ∷ y ∷ rest) ≡ c → IsOff (x ∷ y ∷ rest)
      → IsWayOf (IsStepPastFirst ring b 0) ring c x y rest
  way_of_chain x y [] bent ends off = (chain_step x y [] bent off, ends)
  way_of_chain x y (z ∷ rest) bent ends off =
      let chain = x ∷ y ∷ z ∷ rest in (
        chain_step x y (z ∷ rest) bent off,
        inr (bent.bends 1 (record { not_first = omega arith; not_last = omega arith })),
        way_of_chain y z rest (rest_bent ring chain bent 1 (omega arith))
            (rest_at chain 1 (length (y ∷ z ∷ rest) - 1) (length chain - 1) (omega arith) ∙ ends)
            (λ k h. rw (rest_at chain 1 k (k + 1) (omega arith), rest_at chain 1 (k + 1) (k + 1 + 1) (omega arith)) (off (k + 1) (omega arith))),
      )

  -- ---- past all vertices

  -- a way from a past the first n vertices
  record IsWayFrom (a : Point) (n : ℕ) : Type 0 where
    next : Point
    rest : List Point
    way : IsWayOf (IsStepPastFirst ring b n) ring c a next rest

  -- where there is one past none there is one past any number
  past_first : (a : Point) → IsWayFrom a 0 → (n : ℕ) → IsWayFrom a n
  past_first a way zero = way
  past_first a way (suc n) =
      let before = past_first a way n in
      let now = split ring b n c a before.next before.rest before.way in
      record { next = now.next; rest = now.rest; way = now.way }

  -- a step past all vertices of the ring
  step_past : (x y : Point) → IsStepPastFirst ring b (length ring) x y → IsStepPast ring b x y
  step_past x y step = record {
    clear = record {
      x_in = step.x_in;
      y_in = step.y_in;
      differ = step.differ;
      sees = step.sees;
      clear = λ v between. step.clear between.i between.in_ring (
        (λ e. between.not_first (sym between.is_vertex ∙ e)),
        (λ e. between.not_last (sym between.is_vertex ∙ e)),
        subst (λ z. On (whole z) (whole x) (whole y)) (sym between.is_vertex) between.on,
      );
    };
    off = step.off;
  }

  -- and a way of such steps
  way_past : (x y : Point) (rest : List Point) → IsWayOf (IsStepPastFirst ring b (length ring)) ring c x y rest → IsWay ring b c x y rest
  way_past x y [] way = (step_past x y way.0, way.1)
  way_past x y (z ∷ rest) way = (step_past x y way.0, way.1, way_past y z rest way.2)

  -- ---- paths

  -- a list from a to another point is a way past no vertices
  way_of_list : (a : Point) (path : List Point) → IsBentChain ring path → point_at path 0 ≡ a → last_of path ≡ c → a ≢ c → IsOff path → IsWayFrom a 0
  way_of_list a [] bent begins ends differ off = absurd (omega (arith, bent.chain.some))
  way_of_list a (x ∷ []) bent begins ends differ off = absurd (differ (sym begins ∙ ends))
  way_of_list a (x ∷ y ∷ rest) bent begins ends differ off = record {
    next = y;
    rest = rest;
    way = subst (λ z. IsWayOf (IsStepPastFirst ring b 0) ring c z y rest) begins (way_of_chain x y rest bent ends off);
  }

  -- so there is a way along the path between two points, where b is not on it
  pub way_of_path : (a : Point) (path : List Point) → IsPath ring a c path → a ≢ c → ¬ IsOnPath ring a c b
      → (next : Point) × (rest : List Point) × IsWay ring b c a next rest
  way_of_path a path is differ not_b =
      let taut = path_is_taut ring a c path is in
      let off : IsOff path = λ k h on. not_b (record { path = path; is_path = is; place = k; within = h; on = on }) in
      let found = past_first a (way_of_list a path taut.bent taut.first taut.last differ off) (length ring) in
      (found.next, found.rest, way_past a found.next found.rest found.way)
