-- The points of a hull, one after the other: their first numbers, their triangles, and the chains between them.
use Rattle.std.proofs.Common.{◌≡◌, ◌≢◌, ◌∙◌, inl, inr, sym, ap, subst, ℕ, ◌+◌, ◌*◌, ◌/◌, ◌%◌, ◌<◌, ◌≤◌, List, [], ◌∷◌, ◌++◌, length, get_or, reverse, arith}
use Rattle.std.proofs.Math.Nat.{div-lt_iff_lt-mul, div-eq_of_lt, mod-eq_of_lt, mod-lt, mul-add-div_right, mul-add-mod_self_right}
use Rattle.std.proofs.lemmas.Bool.{cases_eq, cases_lt}
use Rattle.std.proofs.lemmas.List.{get_or_append_left, get_or_push, length-reverse, length_push}
use Rattle.std.proofs.lemmas.List.Elements.{Contains-append_left, Contains-push, Contains-push_cases}
use Rattle.std.specs.List.{Contains}
use Rattle.plane.proofs.Lists.{ordered_push}
use Rattle.plane.specs.Pairs.{pair_at}
use Rattle.plane.specs.Point.{Point, whole}
use Rattle.rings.specs.Chain.{IsPath, point_at}
use Rattle.rings.specs.Inside.{IsIn}
use Rattle.rings.specs.Simple.{IsSimple}
use Rattle.meshes.specs.Fits.{Fits}
use Rattle.meshes.specs.declared.tri.Tri.{Tri}
use Rattle.geo_text.specs.declared.version.Version.{Version}
use Rattle.geo_text.specs.declared.version.Version.TheVariants as version
use Rattle.dual_tree.specs.Location.{IsLeastHolding}
use Rattle.hulls.proofs.Third.{path_back}
use Rattle.geo_reply.specs.declared.reply.Side.{Side}
use Rattle.geo_session.proofs.LocatedIn.{held_in}
use Rattle.geo_session.specs.Hull.{AreFirsts}
use Rattle.geo_session.specs.Shown.{IsShownPath}
use Rattle.geo_session.specs.Span.{AreChains, AreFirstsBelow, AreHeld, AreSidesTold, IsChainAt, IsRepeated, IsShortPath, IsSideTold, numbered}
use Rattle.geo_session.specs.declared.span.Span.{Span}

-- what holds at each place of a list and at the next one holds at each place once that element is appended
pub each_push : {X : Type 0} (P : ℕ → X → Type 0) (xs : List X) (x d : X) (n : ℕ) → length xs ≡ n → ((k : ℕ) → k < n → P k (get_or xs k d)) → P n x
    → (k : ℕ) → k < n + 1 → P k (get_or (xs ++ x ∷ []) k d)
each_push P xs x d n count each next k below = elim (cases_lt k n) [
  | inl before ↦ subst (P k) (sym (get_or_append_left xs (x ∷ []) d k (omega arith))) (each k before)
  | inr last ↦
      let at : n ≡ k = omega arith in
      subst (λ (j : ℕ). P j (get_or (xs ++ x ∷ []) j d)) at (subst (P n) (sym (get_or_push xs x d n count)) next)
]

-- ---- the first numbers

module _ (points : List Point) where
  module _ (n : ℕ) (numbers : List ℕ) (are : AreFirstsBelow points n numbers) where
    -- the next point is a first one,
    pub firsts_more : ¬ IsRepeated points n → AreFirstsBelow points (n + 1) (numbers ++ n ∷ [])
    firsts_more is_new = record {
      rising = ordered_push ◌<◌ numbers n 0 are.rising (λ i inside. ((are.first i).0 inside).0);
      first = λ i. (
        λ inside. elim (Contains-push_cases numbers n i inside) [
          | inl before ↦ let old = (are.first i).0 before in let less = old.0 in (omega arith, old.1)
          | inr e ↦ subst (λ (j : ℕ). (j < n + 1) × ((l : ℕ) → l < j → point_at points l ≢ point_at points j)) e
              (omega arith, λ l less same. is_new (l, less, same))
        ],
        λ h. elim (cases_eq n i) [
          | inl e ↦ subst (λ (j : ℕ). Contains (numbers ++ n ∷ []) j) e (Contains-push numbers n)
          | inr other ↦ let less = h.0 in Contains-append_left numbers (n ∷ []) i ((are.first i).1 (omega arith, h.1))
        ],
      );
    }

    -- or an earlier point is equal to it
    pub firsts_same : IsRepeated points n → AreFirstsBelow points (n + 1) numbers
    firsts_same repeated = record {
      rising = are.rising;
      first = λ i. (
        λ inside. let old = (are.first i).0 inside in let less = old.0 in (omega arith, old.1),
        λ h. elim (cases_eq n i) [
          | inl e ↦ absurd (h.1 repeated.0 (let less = repeated.1 in omega arith) (subst (λ (j : ℕ). point_at points repeated.0 ≡ point_at points j) e repeated.2))
          | inr other ↦ let less = h.0 in (are.first i).1 (omega arith, h.1)
        ],
      );
    }

  pub firsts_all : (numbers : List ℕ) → AreFirstsBelow points (length points) numbers → AreFirsts points numbers
  firsts_all numbers are = record { rising = are.rising; first = are.first }

-- ---- the triangles

module _ (ring : List Point) (tris : List Tri) (points : List Point) (n : ℕ) (found : List ℕ) (are : AreHeld ring tris points n found) where
  -- the next point is in a triangle,
  pub held_more : (tri : ℕ) → IsLeastHolding ring tris (whole (point_at points n)) tri → AreHeld ring tris points (n + 1) (found ++ tri ∷ [])
  held_more tri holds = record {
    one_each = length_push found tri ∙ ap (λ (k : ℕ). k + 1) are.one_each;
    each = each_push (λ k t. IsLeastHolding ring tris (whole (point_at points k)) t) found tri 0 n are.one_each are.each holds;
  }

  -- and those that are in one are in the ring
  pub held_inside : Fits ring tris → (k : ℕ) → k < n → IsIn ring (whole (point_at points k))
  held_inside fits k below = held_in ring (point_at points k) tris _ fits (are.each k below)

-- so does the next one, where all before it are
pub inside_more : (ring points : List Point) (n : ℕ) → ((k : ℕ) → k < n → IsIn ring (whole (point_at points k))) → IsIn ring (whole (point_at points n))
    → (k : ℕ) → k < n + 1 → IsIn ring (whole (point_at points k))
inside_more ring points n each next k below = elim (cases_lt k n) [
  | inl before ↦ each k before
  | inr last ↦ let at : n ≡ k = omega arith in subst (λ (j : ℕ). IsIn ring (whole (point_at points j))) at next
]

-- ---- the chains

-- in version 1 what is told of a path is the path
pub plain_path : (ring : List Point) (s t : Point) (points : List Point) → IsShownPath version.One ring s t points → IsPath ring s t points
plain_path ring s t points h = subst (IsPath ring s t) (sym h.is_shown) h.is_path

module _ (ring points : List Point) (numbers : List ℕ) where
  pub chains_more : (n : ℕ) (chains : List (List Point)) (chain : List Point) → AreChains ring points numbers n chains
      → IsChainAt ring points numbers n chain → AreChains ring points numbers (n + 1) (chains ++ chain ∷ [])
  chains_more n chains chain are is = record {
    count = length_push chains chain ∙ ap (λ (k : ℕ). k + 1) are.count;
    each = each_push (IsChainAt ring points numbers) chains chain [] n are.count are.each is;
  }

-- a path read backward is the path back
short_back : (ring : List Point) → 3 ≤ length ring → IsSimple ring → (s t : Point) (path : List Point) → IsShortPath ring s t path
    → IsShortPath ring t s (reverse path)
short_back ring some simple s t path is = record {
  is_path = path_back ring some simple s t path is.is_path;
  short = omega (arith, length-reverse path, is.short);
}

-- ---- the sides

-- the next side is told
pub sides_more : (version : Version) (ring : List Point) (span : Span) (pairs : List (ℕ × ℕ)) (n : ℕ) (told : List Side) (side : Side)
    → AreSidesTold version ring span pairs n told → IsSideTold version ring span (pair_at pairs n) side
    → AreSidesTold version ring span pairs (n + 1) (told ++ side ∷ [])
sides_more version ring span pairs n told side are is = record {
  count = length_push told side ∙ ap (λ (k : ℕ). k + 1) are.count;
  each = each_push (λ k side. IsSideTold version ring span (pair_at pairs k) side) told side _ n are.count are.each is;
}

-- ---- the table by rows and columns

-- the row and the column of a place of a table with m rows
module _ (m k : ℕ) (below : k < m * m) where
  some_row : 0 < m
  some_row = elim (cases_eq m 0) [
    | inl e ↦ let none : k < 0 * 0 = subst (λ (i : ℕ). k < i * i) e below in absurd (omega (arith, none))
    | inr some ↦ omega arith
  ]

  pub row_below : k / m < m
  row_below = (div-lt_iff_lt-mul some_row).1 below

  pub column_below : k % m < m
  column_below = mod-lt k some_row

module _ (m s t : ℕ) (at_s : s < m) (at_t : t < m) where
  pub row_of : (s * m + t) / m ≡ s
  row_of = mul-add-div_right (omega arith) s t ∙ ap (λ (k : ℕ). s + k) (div-eq_of_lt at_t) ∙ omega arith

  pub column_of : (s * m + t) % m ≡ t
  column_of = mul-add-mod_self_right s m t ∙ mod-eq_of_lt at_t

  pub place_below : s * m + t < m * m
  place_below = (div-lt_iff_lt-mul (omega arith)).0 (subst (λ (row : ℕ). row < m) (sym row_of) at_s)

module _ (ring points : List Point) (numbers : List ℕ) (n : ℕ) (chains : List (List Point)) (are : AreChains ring points numbers n chains) where
  -- a chain that stands is the path between its points,
  chain_standing : (s t : ℕ) → s < length numbers → t < length numbers → s * length numbers + t < n
      → IsShortPath ring (numbered points numbers s) (numbered points numbers t) (get_or chains (s * length numbers + t) [])
  chain_standing s t at_s at_t stands =
      let m = length numbers in
      subst (λ (row : ℕ). IsShortPath ring (numbered points numbers row) (numbered points numbers t) (get_or chains (s * m + t) []))
      (row_of m s t at_s at_t)
      (subst (λ (column : ℕ). IsShortPath ring (numbered points numbers ((s * m + t) / m)) (numbered points numbers column)
      (get_or chains (s * m + t) [])) (column_of m s t at_s at_t) (are.each (s * m + t) stands))

  -- and read backward it is the chain at the place with its row as the column
  pub chain_turned : 3 ≤ length ring → IsSimple ring → (k : ℕ) → k < length numbers * length numbers
      → k % length numbers * length numbers + k / length numbers < n
      → IsChainAt ring points numbers k (reverse (get_or chains (k % length numbers * length numbers + k / length numbers) []))
  chain_turned some simple k below stands =
      let m = length numbers in
      short_back ring some simple _ _ _ (chain_standing (k % m) (k / m) (column_below m k below) (row_below m k below) stands)

-- in the whole table it is the path from one place to another
pub chain_between_places : (ring points : List Point) (numbers : List ℕ) (chains : List (List Point))
    → AreChains ring points numbers (length numbers * length numbers) chains → (s t : ℕ) → s < length numbers → t < length numbers
    → IsShortPath ring (numbered points numbers s) (numbered points numbers t) (get_or chains (s * length numbers + t) [])
chain_between_places ring points numbers chains are s t at_s at_t =
    chain_standing ring points numbers (length numbers * length numbers) chains are s t at_s at_t (place_below (length numbers) s t at_s at_t)
