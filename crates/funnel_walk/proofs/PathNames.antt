-- Lists of names and the points that they stand for.
-- The names of a taut chain are those of the path, there being no other; and the start and the goal have their own names.
use Rattle.std.proofs.Common.{◌≡◌, refl, sym, ap, subst, ◌∙◌, ℕ, zero, suc, ◌+◌, ◌-◌, ◌<◌, ◌≤◌, List, [], ◌∷◌, ◌++◌, length, take, drop}
use Rattle.std.proofs.Common.{add-one, arith, ◌≢◌, inl, inr}
use Rattle.std.proofs.Math.Seq.{drop-append_seam}
use Rattle.std.proofs.lemmas.Bool.{cases_eq}
use Rattle.std.proofs.lemmas.List.{drop-map, get_or-drop, get_or-map, get_or-take, length-append, length-drop, length-map, length-take}
use Rattle.std.proofs.lemmas.List.{map_push, take-map, get_or_default}
use Rattle.std.specs.List.{All}
use Rattle.plane.proofs.Order.{point_or_other}
use Rattle.plane.specs.Point.{Point}
use Rattle.rings.proofs.Vertices.{vertex_in_range}
use Rattle.rings.specs.Chain.{point_at, IsPath}
use Rattle.rings.specs.Ring.{origin, vertex}
use Rattle.meshes.specs.Fits.{Fits}
use Rattle.meshes.specs.declared.tri.Tri.{Tri}
use Rattle.funnels.proofs.OneChain.{one_taut_chain}
use Rattle.funnels.proofs.Trees.{length_leftward, length_rightward, path_differs}
use Rattle.funnels.proofs.Vertices.{fitted_long, fitted_simple}
use Rattle.funnels.specs.OpenFunnel.{left_behind, right_behind}
use Rattle.exact_plane.specs.Names.{name_at, named_points, AppendsNames}
use Rattle.exact_plane.specs.Spot.{IsNamed, point_named}
use Rattle.exact_plane.specs.declared.turns.Spot.{Spot}
use Rattle.exact_plane.specs.declared.turns.Spot.TheVariants.{Start, Corner, Goal}
use Rattle.funnel_walk.specs.Names.{left_names, right_names, IsOwnName}
use Rattle.funnel_walk.specs.Walked.{IsWalked, AppendsTaut}

module _ (at : Spot → Point) where
  -- there are as many points as names,
  pub length_named : (names : List Spot) → length (named_points at names) ≡ length names
  length_named names = length-map names at

  -- and the point at a place is that of the name there
  pub point_of_name : (names : List Spot) (i : ℕ) → i < length names → point_at (named_points at names) i ≡ at (name_at names i)
  point_of_name names i below = get_or-map at names i Start origin below

  -- so the name there stands for it
  pub name_is_point : (names : List Spot) (i : ℕ) (name : Spot) → i < length names → name ≡ name_at names i
      → at name ≡ point_at (named_points at names) i
  name_is_point names i name below is = ap at is ∙ sym (point_of_name names i below)

  -- the points of so many names from the front,
  pub named_take : (n : ℕ) (names : List Spot) → named_points at (take n names) ≡ take n (named_points at names)
  named_take n names = sym (take-map at n names)

  -- of all but so many,
  pub named_drop : (n : ℕ) (names : List Spot) → named_points at (drop n names) ≡ drop n (named_points at names)
  named_drop n names = sym (drop-map at n names)

  -- and of one name more
  pub named_push : (names : List Spot) (name : Spot) → named_points at (names ++ name ∷ []) ≡ named_points at names ++ at name ∷ []
  named_push names name = map_push at names name

  -- the names that the way leaves behind on the left stand for the points that it does,
  pub left_points : (names : List Spot) (a c : ℕ) → a < length names
      → named_points at (left_names names a c) ≡ left_behind (named_points at names) a c
  left_points names a zero below = refl
  left_points names a (suc c) below =
      let here = sym (point_of_name names a below) in let rest = left_points names (a - 1) c (omega arith) in λ i. here i ∷ rest i

  -- and so on the right
  pub right_points : (names : List Spot) (a c : ℕ) → a + c ≤ length names
      → named_points at (right_names names a c) ≡ right_behind (named_points at names) a c
  right_points names a zero within = refl
  right_points names a (suc c) within =
      let here = sym (point_of_name names a (omega arith)) in let rest = right_points names (a + 1) c (omega arith) in λ i. here i ∷ rest i

-- one more of the names to the left comes last,
pub left_more : (names : List Spot) (a c : ℕ) → left_names names a (c + 1) ≡ left_names names a c ++ name_at names (a - c) ∷ []
left_more names a zero = let e : a ≡ a - 0 = omega arith in ap (λ k. name_at names k ∷ []) e
left_more names a (suc c) =
    let e : a - 1 - c ≡ a - suc c = omega arith in
    let rest = left_more names (a - 1) c in
    ap (λ k. left_names names a k) (add-one (suc c))
    ∙ ap (λ ns. name_at names a ∷ ns) (ap (λ k. left_names names (a - 1) k) (sym (add-one c)) ∙ rest
    ∙ ap (λ k. left_names names (a - 1) c ++ name_at names k ∷ []) e)

-- and of those to the right
pub right_more : (names : List Spot) (a c : ℕ) → right_names names a (c + 1) ≡ right_names names a c ++ name_at names (a + c) ∷ []
right_more names a zero = let e : a ≡ a + 0 = omega arith in ap (λ k. name_at names k ∷ []) e
right_more names a (suc c) =
    let e : a + 1 + c ≡ a + suc c = omega arith in
    let rest = right_more names (a + 1) c in
    ap (λ k. right_names names a k) (add-one (suc c))
    ∙ ap (λ ns. name_at names a ∷ ns) (ap (λ k. right_names names (a + 1) k) (sym (add-one c)) ∙ rest
    ∙ ap (λ k. right_names names (a + 1) c ++ name_at names k ∷ []) e)

-- there are so many of them, added to others, to the left,
pub count_left : (given names : List Spot) (a c : ℕ) → length (given ++ left_names names a c) ≡ length given + c
count_left given names a c = length-append given (left_names names a c) ∙ ap (λ n. length given + n) (length_leftward (name_at names) a c)

-- or to the right
pub count_right : (given names : List Spot) (a c : ℕ) → length (given ++ right_names names a c) ≡ length given + c
count_right given names a c = length-append given (right_names names a c) ∙ ap (λ n. length given + n) (length_rightward (name_at names) a c)

-- where the names from the apex to a last one will be given, there is room for two names more,
pub room_for_two : (given out names : List Spot) (a i last room : ℕ) → out ≡ given ++ right_names names a (i - a) → a ≤ i → i ≤ last
    → length given + last + 2 ≤ room + a → length out + 2 ≤ room
room_for_two given out names a i last room is from within fits =
    let count = ap length is ∙ count_right given names a (i - a) in omega (arith, count, from, within, fits)

-- and where the apex goes back to one of the first names, no more names are given than are left out
pub no_more : (given out names : List Spot) (a n : ℕ) → out ≡ given ++ left_names names a (a - (n - 1)) → a < length names → 0 < n → n ≤ length names
    → length out + n ≤ length given + length names
no_more given out names a n is apex some fewer =
    let count = ap length is ∙ count_left given names a (a - (n - 1)) in omega (arith, count, apex, some, fewer)

-- the name at a place of the front,
pub name_in_front : (names : List Spot) (n i : ℕ) → i < n → name_at (take n names) i ≡ name_at names i
name_in_front names n i below = get_or-take n names i Start below

-- or of what is left behind it
pub name_behind : (names : List Spot) (n i : ℕ) → name_at (drop n names) i ≡ name_at names (n + i)
name_behind names n i = get_or-drop n names i Start

-- what holds of all names holds of those of the front,
pub front_have : (P : Spot → Type 0) (names : List Spot) (n : ℕ) → All P names → All P (take n names)
front_have P names n have = λ k d below.
    let e = length-take n names in
    subst P (sym (get_or-take n names k d (omega arith))) (have k d (omega arith))

-- and of the others
pub rest_have : (P : Spot → Type 0) (names : List Spot) (n : ℕ) → All P names → All P (drop n names)
rest_have P names n have = λ k d below.
    let e = length-drop n names in subst P (sym (get_or-drop n names k d)) (have (n + k) d (omega arith))

-- the apex of a walk is one of the names
pub apex_below : {corners : List Point} {start goal : Point} {given names : List Spot} {a i j : ℕ} → IsWalked corners start goal given names a i j → a < length names
apex_below {corners} {start} {goal} {given} {names} w = omega (arith, w.funnel.funnel.apex_within, length_named (point_named corners start goal) names)

module _ (corners : List Point) (tris : List Tri) (fits : Fits corners tris) (start goal : Point) (out out' : List Spot)
    (h : AppendsTaut corners start goal out out') where
  -- the names that were appended
  abbrev names : List Spot
  names = Start ∷ h.names.others

  -- and the point that each stands for
  abbrev at : Spot → Point
  at = point_named corners start goal

  -- their points are the path,
  is_path : IsPath corners start goal (named_points at names)
  is_path = one_taut_chain corners (fitted_long corners tris fits) (fitted_simple corners tris fits) start goal _ h.names.points

  -- so the names of the path were appended
  pub path_named : AppendsNames corners start goal (IsPath corners start goal) out out'
  path_named = record {
    others = h.names.others;
    appended = h.names.appended;
    alone = h.names.alone;
    named = h.names.named;
    points = is_path;
  }

  -- Two of them stand for different points,
  differ : (j k : ℕ) → j < k → k < length names → ¬ (at (name_at names j) ≡ at (name_at names k))
  differ j k less within same =
      let count = length_named at names in
      path_differs corners (fitted_long corners tris fits) (fitted_simple corners tris fits) start goal (named_points at names) is_path
      j k less (omega (arith, within, count))
      (point_of_name at names j (omega (arith, less, within)) ∙ same ∙ sym (point_of_name at names k within))

  -- so one that is a corner's stands for no end of the path,
  own_at : (k : ℕ) (name : Spot) → k < length names → name_at names k ≡ name → IsNamed corners name → IsOwnName corners start goal name
  own_at k Start within is named = tt
  own_at k Goal within is named = tt
  own_at zero (Corner i) within is named = cc
  own_at (suc k) (Corner i) within is named =
      let vertex_is = vertex_in_range corners i origin named in
      let not_start : vertex corners i ≢ start =
      λ same. differ 0 (suc k) (omega arith) within (sym (ap at is ∙ sym vertex_is ∙ same)) in (
        not_start,
        λ same. elim (point_or_other start goal) [
          | inl one ↦ not_start (same ∙ sym one)
          | inr two ↦
              elim (cases_eq (suc k) (length h.names.others)) [
                | inl end ↦ let ends : Corner i ≡ Goal = sym is ∙ ap (name_at names) end ∙ h.last two in cc
                | inr inner ↦ differ (suc k) (length h.names.others) (omega (arith, within, inner)) (omega arith)
                    (ap at is ∙ sym vertex_is ∙ same ∙ sym (ap at (h.last two)))
              ]
        ],
      )

  -- and all that were appended are so
  pub own_names : All (IsOwnName corners start goal) (drop (length out) out')
  own_names =
      let these : drop (length out) out' ≡ names = ap (drop (length out)) h.names.appended ∙ drop-append_seam out names in
      subst (All (IsOwnName corners start goal)) (sym these)
      (λ k d within. own_at k _ within (get_or_default names k Start d within) (h.names.named k d within))
