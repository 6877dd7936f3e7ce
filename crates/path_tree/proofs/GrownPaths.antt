-- Names to which a tree has a path, and the points that they stand for.
-- A tree that is grown from a start has a path to the start, and to each corner.
-- The way back from a point of a tree to its start, by what comes before each point: the names that were given on it.
use Rattle.std.proofs.Common.{◌≡◌, sym, ◌∙◌, ℕ, ◌<◌, List, length, arith, subst, [], ◌∷◌, Option, Some, None, ◌≢◌, refl, ap, ◌+◌, ◌≤◌, ◌++◌}
use Rattle.std.proofs.Common.{map, reverse, take, drop, get_or}
use Rattle.std.proofs.lemmas.List.{append-nil, append_assoc, get_or-append-add, get_or-map, length-append, length-map, length-reverse}
use Rattle.std.proofs.lemmas.List.{nil_from_length, reverse-append, reverse-reverse}
use Rattle.std.proofs.lemmas.List.Elements.{All-cons, All-map, All-nil}
use Rattle.std.proofs.Math.Seq.{drop-append_seam, take-append_seam}
use Rattle.std.specs.List.{All}
use Rattle.plane.proofs.Points.{whole_is_point}
use Rattle.plane.specs.Point.{Point, whole}
use Rattle.rings.proofs.Vertices.{vertex_in_range, reverse-cons}
use Rattle.rings.specs.Chain.{IsPath, point_at}
use Rattle.rings.specs.From.{IsPredecessor}
use Rattle.rings.specs.Inside.{IsIn}
use Rattle.rings.specs.Ring.{origin, vertex}
use Rattle.meshes.proofs.Sight.{triangle_in_ring}
use Rattle.meshes.specs.Fits.{Fits}
use Rattle.meshes.specs.declared.tri.Tri.{Tri}
use Rattle.funnels.proofs.Trees.{path_of_one, before_differs, path_differs, path_goes_on}
use Rattle.funnels.proofs.Vertices.{fitted_long, fitted_simple}
use Rattle.exact_plane.specs.Names.{AppendsNames, named_points}
use Rattle.exact_plane.specs.Spot.{IsNamed, point_named}
use Rattle.exact_plane.specs.declared.turns.Spot.{Spot}
use Rattle.exact_plane.specs.declared.turns.Spot.TheVariants.{Corner, Goal, Start}
use Rattle.plane.proofs.Lists.{few_numbers}
use Rattle.path_tree.specs.Grown.{IsGrownFrom, IsKept, Names, NamedTree, kept_point, IsFromNamed, before_at}
use Rattle.path_tree.specs.Grown.{IsGrownTree}

module _ (corners : List Point) (start : Point) (tris : List Tri) (tree : NamedTree) (grown : IsGrownFrom corners start tris tree) where
  -- a vertex is what its name stands for
  pub kept_vertex : (i : ℕ) → i < length tree.before → vertex corners i ≡ kept_point corners start (Corner i)
  kept_vertex i below = vertex_in_range corners i origin (omega (arith, below, grown.vertices))

  -- a name of a point is kept, and stands for it
  pub kept_of_names : (name : Spot) (x : Point) → Names corners start name x
      → IsKept tree name × IsNamed corners name × ((goal : Point) → point_named corners start goal name ≡ x)
  kept_of_names Start x is = (tt, tt, λ goal. sym is)
  kept_of_names (Corner i) x is =
      (omega (arith, is.0, grown.vertices), is.0, λ goal. sym (vertex_in_range corners i origin is.0) ∙ is.1)
  kept_of_names Goal x none = absurd none

  -- so a name that stands for the goal is the name of that point
  pub kept_goal : (name : Spot) (x goal : Point) → Names corners start name x → point_named corners start goal name ≡ goal
      → kept_point corners start name ≡ goal
  kept_goal name x goal names at_goal = let kept = kept_of_names name x names in kept.2 start ∙ sym (kept.2 goal) ∙ at_goal

module _ (corners : List Point) (start : Point) (tris : List Tri) (fits : Fits corners tris) where
  -- the start is the path to itself,
  start_alone : IsIn corners (whole start) → IsPath corners start start (start ∷ [])
  start_alone = path_of_one corners (fitted_long corners tris fits) (fitted_simple corners tris fits) start

  -- and there is a path to a point that something comes before
  path_of_from : IsIn corners (whole start) → (t : Point) (o : Option Spot) → IsFromNamed corners start t o
      → (path : List Point) × IsPath corners start t path
  path_of_from inside t None same =
      (start ∷ [], subst (λ p. IsPath corners start p (start ∷ [])) (sym same) (start_alone inside))
  path_of_from inside t (Some name) from = (from.2.path, from.2.is_path)

  module _ (tree : NamedTree) (grown : IsGrownFrom corners start tris tree) where
    -- the start is in the ring,
    pub start_inside : IsIn corners (whole start)
    start_inside = triangle_in_ring corners tris fits grown.home grown.in_list (whole start) (whole_is_point start) grown.in_home

    -- and there is a path to each point with a name that is kept
    pub path_kept : (name : Spot) → IsKept tree name → (path : List Point) × IsPath corners start (kept_point corners start name) path
    path_kept Start kept = (start ∷ [], start_alone start_inside)
    path_kept (Corner i) below =
        let found = path_of_from start_inside (vertex corners i) (before_at tree i) (grown.parents i (omega (arith, below, grown.vertices))) in
        (found.0, subst (λ p. IsPath corners start p found.0) (kept_vertex corners start tris tree grown i below) found.1)
    path_kept Goal none = absurd none

-- what holds of every path of the tree
abbrev pub OfEach : NamedTree → (List Point → Point → Type 0) → Type 0
OfEach tree P = (corners : List Point) (start : Point) (tris : List Tri) → Fits corners tris → IsGrownFrom corners start tris tree → P corners start

-- the names of some corners
abbrev pub corner_names : List ℕ → List Spot
corner_names numbers = map (λ i. Corner i) numbers

-- a path to the one point goes on over some corners, and so to the other
abbrev pub GoesOn : Spot → Spot → List ℕ → List Point → Point → Type 0
GoesOn at last numbers corners start = (path : List Point) → IsPath corners start (kept_point corners start at) path
    → IsPath corners start (kept_point corners start last) (path ++ named_points (kept_point corners start) (corner_names numbers))

-- from the last point one has gone back to another, and has given the names of the corners on the way, the last one first
pub record IsGoneBack (tree : NamedTree) (last at : Spot) (out out' : List Spot) : Type 0 where
  pub numbers : List ℕ
  pub appended : out' ≡ out ++ reverse (corner_names numbers)
  pub below : All (λ i. i < length tree.before) numbers
  pub kept : IsKept tree at
  pub goes_on : OfEach tree (GoesOn at last numbers)

-- whatever the goal is, they stand for the same points
points_same : (corners : List Point) (start goal : Point) (numbers : List ℕ)
    → named_points (kept_point corners start) (corner_names numbers) ≡ named_points (point_named corners start goal) (corner_names numbers)
points_same corners start goal [] = refl
points_same corners start goal (i ∷ numbers) = ap (λ ps. kept_point corners start (Corner i) ∷ ps) (points_same corners start goal numbers)

-- ---- the way back

-- at first there are none
pub back_begins : (tree : NamedTree) (last : Spot) (out : List Spot) → IsKept tree last → IsGoneBack tree last last out out
back_begins tree last out kept = record {
  numbers = [];
  appended = sym (append-nil out);
  below = All-nil (λ i. i < length tree.before);
  kept = kept;
  goes_on = λ corners start tris fits grown path is.
      subst (IsPath corners start (kept_point corners start last)) (sym (append-nil path)) is;
}

-- ---- one step

-- the point before is the next one, where the tree has one
pub back_on : (tree : NamedTree) → IsGrownTree tree → (last : Spot) (out out' : List Spot) (at name : Spot) → IsGoneBack tree last at out out'
    → ((corners : List Point) (start : Point) (tris : List Tri) → IsGrownFrom corners start tris tree
    → IsFromNamed corners start (kept_point corners start at) (Some name)) → IsGoneBack tree last name out (out' ++ at ∷ [])
back_on tree g last out out' Start name back from =
    let here = from g.corners g.start g.tris g.grown in absurd (before_differs g.corners g.start g.start here.0 here.2 refl)
back_on tree g last out out' (Corner i) name back from =
    let here = from g.corners g.start g.tris g.grown in
    record {
      numbers = i ∷ back.numbers;
      appended = ap (λ names. names ++ Corner i ∷ []) back.appended
          ∙ append_assoc out (reverse (corner_names back.numbers)) (Corner i ∷ [])
          ∙ ap (λ names. out ++ names) (sym (reverse-cons (Corner i) (corner_names back.numbers)));
      below = All-cons (λ n. n < length tree.before) i back.numbers back.kept back.below;
      kept = (kept_of_names g.corners g.start g.tris tree g.grown name here.0 here.1).0;
      goes_on = λ corners start tris fits grown path is.
          let (x, names, before) = from corners start tris grown in
          let t = kept_point corners start (Corner i) in
          let to_it = subst (λ p. IsPath corners start p path) ((kept_of_names corners start tris tree grown name x names).2 start) is in
          subst (IsPath corners start (kept_point corners start last))
          (append_assoc path (t ∷ []) (named_points (kept_point corners start) (corner_names back.numbers)))
          (back.goes_on corners start tris fits grown (path ++ t ∷ [])
          (path_goes_on corners (fitted_long corners tris fits) (fitted_simple corners tris fits) start t x before path to_it));
    }
back_on tree g last out out' Goal name back from = absurd back.kept

-- ---- how many steps there are

-- the point of a number that is given
point_of_number : (at : Spot → Point) (path : List Point) (numbers : List ℕ) (i : ℕ) → i < length numbers
    → point_at (path ++ named_points at (corner_names numbers)) (length path + i) ≡ at (Corner (get_or numbers i 0))
point_of_number at path numbers i within =
    get_or-append-add path (named_points at (corner_names numbers)) i origin
    ∙ get_or-map at (corner_names numbers) i Start origin (omega (arith, within, length-map numbers (λ n. Corner n)))
    ∙ ap at (get_or-map (λ n. Corner n) numbers i 0 Start within)

module _ (tree : NamedTree) (last at : Spot) (out out' : List Spot) (back : IsGoneBack tree last at out out') where
  -- no corner comes twice, so there are no more than the tree has
  pub back_few : IsGrownTree tree → length back.numbers ≤ length tree.before
  back_few g =
      let kept = kept_point g.corners g.start in
      let (path, is) = path_kept g.corners g.start g.tris g.fits tree g.grown at back.kept in
      let points = named_points kept (corner_names back.numbers) in
      let count : length points ≡ length back.numbers =
      length-map (corner_names back.numbers) kept ∙ length-map back.numbers (λ n. Corner n) in
      let whole_path = back.goes_on g.corners g.start g.tris g.fits g.grown path is in
      few_numbers back.numbers (length tree.before) (λ i within. back.below i 0 within)
      (λ i j less within same.
      path_differs g.corners (fitted_long g.corners g.tris g.fits) (fitted_simple g.corners g.tris g.fits) g.start (kept last)
      (path ++ points) whole_path (length path + i) (length path + j) (omega (arith, less)) (omega (arith, length-append path points, count, within))
      (point_of_number kept path back.numbers i (omega (arith, less, within)) ∙ ap (λ n. kept (Corner n)) same
      ∙ sym (point_of_number kept path back.numbers j within)))

  -- the names are longer by them,
  pub back_longer : length out ≤ length out'
  back_longer = omega (arith, ap length back.appended, length-append out (reverse (corner_names back.numbers)))

  -- and by no more
  pub back_room : IsGrownTree tree → length out' ≤ length out + length tree.before
  back_room g =
      let names = corner_names back.numbers in
      let count = length-reverse names ∙ length-map back.numbers (λ n. Corner n) in
      omega (arith, ap length back.appended, length-append out (reverse names), count, back_few g)

  -- ---- at the start

  -- the names of the path, from the start on
  abbrev pub names_from_start : List Spot
  names_from_start = Start ∷ corner_names back.numbers

  -- the start is given, and all from the first on are turned round
  module _ (given : ℕ) (count : given ≡ length out) (more final : List Spot) (pushed : more ≡ out' ++ Start ∷ [])
      (is : final ≡ take given more ++ reverse (drop given more)) where
    -- so these are the names that were appended
    appended_names : final ≡ out ++ names_from_start
    appended_names =
        let names = corner_names back.numbers in
        let tail = reverse names ++ Start ∷ [] in
        let all : more ≡ out ++ tail = pushed ∙ ap (λ l. l ++ Start ∷ []) back.appended ∙ append_assoc out (reverse names) (Start ∷ []) in
        let turned : reverse tail ≡ names_from_start =
        reverse-append (reverse names) (Start ∷ []) ∙ ap (λ l. Start ∷ l) (reverse-reverse names) in
        is ∙ (λ t. take (count t) (all t) ++ reverse (drop (count t) (all t)))
        ∙ (λ t. take-append_seam out tail t ++ reverse (drop-append_seam out tail t)) ∙ ap (λ l. out ++ l) turned

    rest_is : drop (length out) final ≡ names_from_start
    rest_is = ap (drop (length out)) appended_names ∙ drop-append_seam out names_from_start

    -- and none of them is the goal's
    pub back_no_goal : All (λ name. name ≢ Goal) (drop (length out) final)
    back_no_goal =
        subst (All (λ name. name ≢ Goal)) (sym rest_is)
        (All-cons (λ name. name ≢ Goal) Start (corner_names back.numbers) (λ is_goal. cc)
        (All-map (λ name. name ≢ Goal) (λ i. Corner i) back.numbers (λ k d less is_goal. cc)))

    module _ (none : (corners : List Point) (start : Point) (tris : List Tri) → IsGrownFrom corners start tris tree
        → IsFromNamed corners start (kept_point corners start at) None) (corners : List Point) (start : Point) (tris : List Tri)
        (fits : Fits corners tris) (grown : IsGrownFrom corners start tris tree) where
      -- where nothing comes before they are the path to the last point,
      path_there : IsPath corners start (kept_point corners start last) (named_points (kept_point corners start) names_from_start)
      path_there =
          back.goes_on corners start tris fits grown (start ∷ [])
          (subst (λ p. IsPath corners start p (start ∷ [])) (sym (none corners start tris grown))
          (path_of_one corners (fitted_long corners tris fits) (fitted_simple corners tris fits) start
          (start_inside corners start tris fits tree grown)))

      -- with that for a goal,
      pub back_ends : AppendsNames corners start (kept_point corners start last) (IsPath corners start (kept_point corners start last)) out final
      back_ends = record {
        others = corner_names back.numbers;
        appended = appended_names;
        alone = λ same.
            let one = ((path_there (named_points (kept_point corners start) names_from_start)).1 refl).single same in
            nil_from_length (corner_names back.numbers)
            (omega (arith, one, length-map (corner_names back.numbers) (kept_point corners start)));
        named = All-cons (IsNamed corners) Start (corner_names back.numbers) tt
            (All-map (IsNamed corners) (λ i. Corner i) back.numbers (subst (λ n. All (λ i. i < n) back.numbers) grown.vertices back.below));
        points = subst (λ ps. IsPath corners start (kept_point corners start last) (start ∷ ps))
            (points_same corners start (kept_point corners start last) back.numbers) path_there;
      }

      -- and go on to a point that it comes before
      pub back_goes_on : (t : Point) → IsPredecessor corners start t (kept_point corners start last)
          → IsPath corners start t (named_points (kept_point corners start) (drop (length out) final) ++ t ∷ [])
      back_goes_on t before =
          subst (λ names. IsPath corners start t (named_points (kept_point corners start) names ++ t ∷ [])) (sym rest_is)
          (path_goes_on corners (fitted_long corners tris fits) (fitted_simple corners tris fits) start t
          (kept_point corners start last) before (named_points (kept_point corners start) names_from_start) path_there)
