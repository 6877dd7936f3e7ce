-- An edge that the sweep line meets, and one that begins at the vertex of an event beside it.
-- Before the first event the sweep line meets no edge, and after the last one none is left.
-- The edges that the sweep line meets after an event: those that end at its vertex give way to those that begin there.
-- A list of edges in which some, one after another, give way to others.
use Rattle.std.proofs.Common.{◌≡◌, inl, inr, sym, ap, subst, ℕ, ◌+◌, ◌<◌, ◌≤◌, List, length, arith, ◌∙◌, ◌++◌, refl, ◌-◌, [], ◌∷◌}
use Rattle.std.proofs.lemmas.Bool.{cases_lt}
use Rattle.std.specs.Prelude.{slice_index}
use Rattle.std.proofs.lemmas.List.{get_or-append-add, get_or_append_left, length-append}
use Rattle.plane.specs.Order.{IsBefore}
use Rattle.plane.specs.Point.{Point}
use Rattle.rings.proofs.Sweeps.{rank_below}
use Rattle.rings.specs.Apart.{MeetAtEnds}
use Rattle.rings.specs.Below.{IsBelow}
use Rattle.rings.specs.Events.{AreEvents}
use Rattle.rings.specs.Ring.{vertex}
use Rattle.rings.specs.Simple.{IsSimple}
use Rattle.meshes.proofs.Monotone.{enters_above, enters_below}
use Rattle.mono_fill.specs.declared.side.Side.{Side}
use Rattle.mono_fill.specs.declared.side.Side.TheVariants.{Lower, Upper}
use Rattle.sweep_tri.proofs.Fronts.Beginning.{AreBegun}
use Rattle.sweep_tri.proofs.Fronts.Parted.{IsParted}
use Rattle.sweep_tri.proofs.Fronts.Sides.{HasEndsAbout, IsFront, ends_about, fronts_apart, above_no_end, under_no_end}
use Rattle.sweep_tri.proofs.RankOrder.{before_by_rank, one_by_rank}
use Rattle.sweep_tri.proofs.Regions.{IsNearer, IsShort}
use Rattle.sweep_tri.specs.Frontier.{IsAbove, IsUnder, upward, front_at, IsFrontier, IsMet}
use Rattle.sweep_tri.specs.Gaps.{Front, front_edge, fronts, low_front}
use Rattle.sweep_tri.specs.declared.gap.Gap.{Gap}

-- ---- one edge

module _ (corners : List Point) (order ranks : List ℕ) (are : AreEvents corners order ranks) (three : 3 ≤ length corners)
    (k v : ℕ) (hv : v < length ranks) (rank_v : slice_index ranks v ≡ k) where
  -- an edge that does not end at v ends later
  pub ends_later : (f : Front) → IsFront ranks k f → ¬ (f.to ≡ v) → k < slice_index ranks f.to
  ends_later f front not =
      let ends = ends_about corners order ranks are three k f front in
      let to_come = ends.to_come in
      elim (cases_lt k (slice_index ranks f.to)) [
        | inl h ↦ h
        | inr h ↦ absurd (not (one_by_rank corners order ranks are three f.to v ends.to_below hv (omega (arith, h, to_come, rank_v))))
      ]

  -- so it goes on
  pub goes_on : (f : Front) → IsFront ranks k f → ¬ (f.to ≡ v) → IsFront ranks (k + 1) f
  goes_on f (e, met, is) not =
      let begun = met.begun in
      let later = ends_later f (e, met, is) not in (
        e,
        record {
          is_edge = met.is_edge;
          begun = omega (arith, begun);
          to_come = omega (arith, later, ap (λ (g : Front). slice_index ranks g.to) is);
        },
        is,
      )

-- ---- an edge beside v, and one that begins there

module _ (corners : List Point) (order ranks : List ℕ) (are : AreEvents corners order ranks) (three : 3 ≤ length corners) (simple : IsSimple corners)
    (k v : ℕ) (hv : v < length ranks) (rank_v : slice_index ranks v ≡ k) where
  module _ (f g : Front) (front_f : IsFront ranks k f) (goes : ¬ (f.to ≡ v)) (front_g : IsFront ranks (k + 1) g) (from : g.from ≡ v) where
    -- they meet at ends only
    meets : MeetAtEnds (front_edge corners f) (front_edge corners g)
    meets =
        let (d, met_d, is_d) = front_f in
        let (e, met_e, is_e) = front_g in
        let begun = met_d.begun in
        subst (λ (h : Front). MeetAtEnds (front_edge corners h) (front_edge corners g)) (sym is_d)
        (subst (λ (h : Front). MeetAtEnds (front_edge corners (upward ranks d)) (front_edge corners h)) (sym is_e)
        (fronts_apart corners order ranks are three simple d e met_d.is_edge met_e.is_edge
        (λ same. omega (
          arith,
          begun,
          rank_v,
          ap (λ i. slice_index ranks (upward ranks i).from) same,
          ap (λ (h : Front). slice_index ranks h.from) is_e,
          ap (slice_index ranks) from,
        ))))

    ends_f : HasEndsAbout ranks k f
    ends_f = ends_about corners order ranks are three k f front_f

    ends_g : HasEndsAbout ranks (k + 1) g
    ends_g = ends_about corners order ranks are three (k + 1) g front_g

    -- v is over the first,
    forward_g : IsBefore (vertex corners g.from) (vertex corners g.to)
    forward_g =
        let to_come = ends_g.to_come in
        before_by_rank corners order ranks are three g.from g.to ends_g.from_below ends_g.to_below
        (omega (arith, to_come, rank_v, ap (slice_index ranks) from))

    begun_f : IsBefore (vertex corners f.from) (vertex corners g.from)
    begun_f =
        let begun = ends_f.begun in
        before_by_rank corners order ranks are three f.from g.from ends_f.from_below ends_g.from_below
        (omega (arith, begun, rank_v, ap (slice_index ranks) from))

    runs_f : IsBefore (vertex corners g.from) (vertex corners f.to)
    runs_f =
        before_by_rank corners order ranks are three g.from f.to ends_g.from_below ends_f.to_below
        (omega (arith, ends_later corners order ranks are three k v hv rank_v f front_f goes, rank_v, ap (slice_index ranks) from))

    -- so they stay in order
    pub entered : (side : Side) → IsShort side (front_edge corners f) (vertex corners v) → IsNearer side (front_edge corners g) (front_edge corners f)
    entered Lower under =
        enters_below (front_edge corners f) (front_edge corners g) forward_g meets begun_f runs_f (subst (IsUnder corners f) (sym from) under)
    entered Upper above =
        enters_above (front_edge corners f) (front_edge corners g) forward_g meets begun_f runs_f (subst (IsAbove corners f) (sym from) above)

-- from place `first` on the new edges stand for `count` of the old ones
pub record IsSpliced (old new : List Front) (first count : ℕ) (put : List Front) : Type 0 where
  pub inside : first + count ≤ length old
  pub size : length new + count ≡ length old + length put
  pub kept : (i : ℕ) → i < first → front_at new i ≡ front_at old i
  pub at_place : (i : ℕ) → i < length put → front_at new (first + i) ≡ front_at put i
  pub moved : (i : ℕ) → first + count + i < length old → front_at new (first + length put + i) ≡ front_at old (first + count + i)

-- the items after two lists
after_two : (A Z B : List Front) (i : ℕ) → front_at (A ++ (Z ++ B)) (length A + length Z + i) ≡ front_at B i
after_two A Z B i =
    let regroup : length A + length Z + i ≡ length A + (length Z + i) = omega arith in
    ap (front_at (A ++ (Z ++ B))) regroup ∙ get_or-append-add A (Z ++ B) (length Z + i) _ ∙ get_or-append-add Z B i _

-- so it is where a list stands between two others in the place of another
pub spliced : (A Z N B : List Front) → IsSpliced (A ++ (Z ++ B)) (A ++ (N ++ B)) (length A) (length Z) N
spliced A Z N B =
    let a = length-append A (Z ++ B) in
    let b = length-append Z B in
    let c = length-append A (N ++ B) in
    let d = length-append N B in
    record {
      inside = omega (arith, a, b);
      size = omega (arith, a, b, c, d);
      kept = λ i h. get_or_append_left A (N ++ B) _ i h ∙ sym (get_or_append_left A (Z ++ B) _ i h);
      at_place = λ i h. get_or-append-add A (N ++ B) i _ ∙ get_or_append_left N B _ i h;
      moved = λ i h. after_two A N B i ∙ sym (after_two A Z B i);
    }

module _ (corners : List Point) (order ranks : List ℕ) (are : AreEvents corners order ranks) (three : 3 ≤ length corners) (simple : IsSimple corners)
    (k v : ℕ) (hv : v < length ranks) (rank_v : slice_index ranks v ≡ k) where
  module _ (old new put : List Front) (first count : ℕ) (frontier : IsFrontier corners ranks k old) (parted : IsParted corners old v first count)
      (begun : AreBegun corners ranks k v put) (splice : IsSpliced old new first count put) where
    -- where an edge was before
    data Origin (i : ℕ) : Type 0 where
      before : i < first → front_at new i ≡ front_at old i → Origin i
      between : (m : ℕ) → m < length put → i ≡ first + m → front_at new i ≡ front_at put m → Origin i
      after : (m : ℕ) → first + count ≤ m → m < length old → i + count ≡ m + length put → front_at new i ≡ front_at old m → Origin i

    origin : (i : ℕ) → i < length new → Origin i
    origin i h =
        let size = splice.size in
        let inside = splice.inside in
        elim (cases_lt i first) [
          | inl less ↦ before less (splice.kept i less)
          | inr not ↦ elim (cases_lt i (first + length put)) [
            | inl less ↦
                let m : ℕ = i - first in
                let is : i ≡ first + m = omega (arith, not) in
                between m (omega (arith, not, less)) is (ap (front_at new) is ∙ splice.at_place m (omega (arith, not, less)))
            | inr late ↦
                let m : ℕ = i - (first + length put) in
                let is : i ≡ first + length put + m = omega (arith, late) in
                after (first + count + m) (omega arith) (omega (arith, size, h, is)) (omega (arith, is))
                (ap (front_at new) is ∙ splice.moved m (omega (arith, size, h, is)))
          ]
        ]

    -- edges that v is above, or under
    front_before : (i : ℕ) → i < first → IsFront ranks k (front_at old i)
    front_before i h = let inside = parted.inside in frontier.edges i (omega (arith, h, inside))

    goes_before : (i : ℕ) → i < first → ¬ ((front_at old i).to ≡ v)
    goes_before i h = above_no_end corners (front_at old i) v (parted.above_first i h)

    goes_after : (i : ℕ) → first + count ≤ i → i < length old → ¬ ((front_at old i).to ≡ v)
    goes_after i late h = under_no_end corners (front_at old i) v (parted.under_rest i late h)

    edges : (i : ℕ) → Origin i → IsFront ranks (k + 1) (front_at new i)
    edges i (before h is) =
        subst (IsFront ranks (k + 1)) (sym is)
        (goes_on corners order ranks are three k v hv rank_v (front_at old i) (front_before i h) (goes_before i h))
    edges i (between m h at is) = subst (IsFront ranks (k + 1)) (sym is) (begun.edges m h).0
    edges i (after m late h at is) =
        subst (IsFront ranks (k + 1)) (sym is)
        (goes_on corners order ranks are three k v hv rank_v (front_at old m) (frontier.edges m h) (goes_after m late h))

    -- two edges in their order
    two_in_order : (i j : ℕ) (f g : Front) → front_at new i ≡ f → front_at new j ≡ g → IsBelow (front_edge corners f) (front_edge corners g)
        → IsBelow (front_edge corners (front_at new i)) (front_edge corners (front_at new j))
    two_in_order i j f g is_f is_g h = rw (is_f, is_g) h

    in_order : (i j : ℕ) → i < j → Origin i → Origin j → IsBelow (front_edge corners (front_at new i)) (front_edge corners (front_at new j))
    in_order i j less (before hi is_i) (before hj is_j) =
        let inside = parted.inside in two_in_order i j _ _ is_i is_j (frontier.ordered i j less (omega (arith, hj, inside)))
    in_order i j less (before hi is_i) (between n hn at_j is_j) =
        let b = begun.edges n hn in
        two_in_order i j _ _ is_i is_j
        (entered corners order ranks are three simple k v hv rank_v (front_at old i) (front_at put n)
        (front_before i hi) (goes_before i hi) b.0 b.1 Upper (parted.above_first i hi))
    in_order i j less (before hi is_i) (after n late hn at_j is_j) =
        two_in_order i j _ _ is_i is_j (frontier.ordered i n (omega (arith, hi, late)) hn)
    in_order i j less (between m hm at_i is_i) (before hj is_j) = absurd (omega (arith, less, at_i, hj))
    in_order i j less (between m hm at_i is_i) (between n hn at_j is_j) =
        two_in_order i j _ _ is_i is_j (begun.ordered m n (omega (arith, less, at_i, at_j)) hn)
    in_order i j less (between m hm at_i is_i) (after n late hn at_j is_j) =
        let b = begun.edges m hm in
        two_in_order i j _ _ is_i is_j
        (entered corners order ranks are three simple k v hv rank_v (front_at old n) (front_at put m)
        (frontier.edges n hn) (goes_after n late hn) b.0 b.1 Lower (parted.under_rest n late hn))
    in_order i j less (after m late_m hm at_i is_i) (before hj is_j) = absurd (omega (arith, less, late_m, at_i, hj))
    in_order i j less (after m late_m hm at_i is_i) (between n hn at_j is_j) = absurd (omega (arith, less, late_m, at_i, hn, at_j))
    in_order i j less (after m late_m hm at_i is_i) (after n late hn at_j is_j) =
        two_in_order i j _ _ is_i is_j (frontier.ordered m n (omega (arith, less, at_i, at_j)) hn)

    -- each edge is there
    all : (e : ℕ) → IsMet ranks (k + 1) e → (i : ℕ) × (i < length new) × (front_at new i ≡ upward ranks e)
    all e met =
        let size = splice.size in
        let inside = parted.inside in
        let started = met.begun in
        let to_come = met.to_come in
        elim (cases_lt (slice_index ranks (upward ranks e).from) k) [
          | inl less ↦
              let (m, h, is) = frontier.all e (record { is_edge = met.is_edge; begun = less; to_come = omega (arith, to_come) }) in
              elim (cases_lt m first) [
                | inl soon ↦ (m, omega (arith, soon, size, inside), splice.kept m soon ∙ is)
                | inr not ↦ elim (cases_lt m (first + count)) [
                  | inl ending ↦
                      let to = parted.ends_next m not ending in
                      absurd (omega (arith, to_come, rank_v, ap (slice_index ranks) (ap (λ (f : Front). f.to) (sym is) ∙ to)))
                  | inr late ↦
                      let d : ℕ = m - (first + count) in
                      let at : first + count + d ≡ m = omega (arith, late) in (
                        first + length put + d,
                        omega (arith, size, h, at),
                        splice.moved d (omega (arith, h, at)) ∙ ap (front_at old) at ∙ is,
                      )
                ]
              ]
          | inr not ↦
              let starts : (upward ranks e).from ≡ v =
              one_by_rank corners order ranks are three (upward ranks e).from v
              (ends_about corners order ranks are three (k + 1) (upward ranks e) (e, met, refl)).from_below hv
              (omega (arith, not, started, rank_v)) in
              let (m, h, is) = begun.all e met starts in
              (first + m, omega (arith, h, size, inside), splice.at_place m h ∙ is)
        ]

    pub passed : IsFrontier corners ranks (k + 1) new
    passed = record {
      edges = λ i h. edges i (origin i h);
      all = all;
      ordered = λ i j less h. in_order i j less (origin i (omega (arith, less, h))) (origin j h);
    }

-- none has begun before the first event
pub frontier_first : (corners : List Point) (ranks : List ℕ) → IsFrontier corners ranks 0 []
frontier_first corners ranks = record {
  edges = λ i h. absurd (omega (arith, h));
  all = λ e met. let begun = met.begun in absurd (omega (arith, begun));
  ordered = λ i j less h. absurd (omega (arith, h));
}

-- and none goes on after the last
pub frontier_last : (corners : List Point) (order ranks : List ℕ) → AreEvents corners order ranks → 3 ≤ length corners
    → (gaps : List Gap) → IsFrontier corners ranks (length corners) (fronts gaps) → gaps ≡ []
frontier_last corners order ranks are three [] frontier = refl
frontier_last corners order ranks are three (g ∷ gs) frontier =
    let ends = ends_about corners order ranks are three (length corners) (low_front g) (frontier.edges 0 (omega arith)) in
    let to_come = ends.to_come in
    absurd (omega (arith, to_come, rank_below corners order ranks are three (low_front g).to ends.to_below))
