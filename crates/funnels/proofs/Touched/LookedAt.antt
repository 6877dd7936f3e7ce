-- A search for the vertices that a chain along a walk touches looks at an end of a side that the walk crosses.
use Rattle.std.proofs.Common.{◌≡◌, inl, inr, refl, sym, subst, ap, ◌∙◌, ◌↔◌, ℕ, ◌+◌, ◌-◌, ◌<◌, ◌≤◌, List, [], ◌∷◌, ◌++◌, length, take, arith}
use Rattle.std.proofs.lemmas.Bool.{cases_lt}
use Rattle.std.proofs.lemmas.List.{append-nil, append_assoc, take_more}
use Rattle.plane.proofs.Order.{point_or_other}
use Rattle.plane.proofs.Points.{same_whole, whole_is_point}
use Rattle.plane.proofs.Segments.{nearer_each, nearer_on, on_first_end, on_last_end, on_nested, on_reversed, on_total}
use Rattle.plane.specs.Prelude.{On, Point, whole}
use Rattle.rings.proofs.Full.{full_more, in_order_more}
use Rattle.rings.proofs.Vertices.{has_cases, has_left, has_right}
use Rattle.rings.specs.Prelude.{Has, IsBentChain, origin, point_at, vertex}
use Rattle.rings.specs.Full.{AreTouched, IsFull, IsNearer, IsVertexBetween}
use Rattle.meshes.specs.Prelude.{Fits, IsInTri, IsWalk}
use Rattle.meshes.specs.declared.tri.Tri.{Tri}
use Rattle.meshes.specs.Laws.{CrossesSide, walk_tri}
use Rattle.funnels.proofs.Touched.FoundOnce.{ahead_cases, before_last_part, beyond, on_last_part, only_point}
use Rattle.funnels.proofs.Touched.TouchedCorners.{end_between, side_in_triangle}
use Rattle.funnels.specs.Touched.{HasCome, IsAhead, IsEndAt, IsLookedAt, IsSearchOpen, IsVertexAhead}

module _ (corners : List Point) (tris : List Tri) (walk : List ℕ) (from to start : ℕ → ℕ) (chain : List Point) where
  -- the inner point after place k is an end of the side that is crossed at a place: the walk comes to the point there, and the sides after
  -- that place matter to what follows
  pub record IsNextAt (k : ℕ) : Type 0 where
    pub place : ℕ
    pub after : start k ≤ place
    pub is : start (k + 1) ≡ place + 1
    pub within : place + 1 < length walk
    pub first : (l : ℕ) → l < place → ¬ IsInTri corners (walk_tri tris walk l) (whole (point_at chain (k + 1)))
    pub x : ℕ
    pub is_vertex : x < length corners
    pub at : vertex corners x ≡ point_at chain (k + 1)
    pub end : IsEndAt from to place x

  -- so it is with all inner points, and each point of the chain but the last is in the triangle from which on the sides matter to it
  pub record IsEntered : Type 0 where
    pub start_within : (k : ℕ) → k + 1 < length chain → start k < length walk
    pub inside : (k : ℕ) → k + 1 < length chain → IsInTri corners (walk_tri tris walk (start k)) (whole (point_at chain k))
    pub next : (k : ℕ) → k + 1 + 1 < length chain → IsNextAt k

  -- the side at place i matters to the last point, and its end x is not ahead
  abbrev pub IsClear : ℕ → ℕ → Point → ℕ → Type 0
  IsClear i k last x = k + 1 < length chain → start k ≤ i → ¬ IsAhead chain k last (vertex corners x)

  -- after a look at end x of the side at place i: it is clear, and so is what was clear before
  pub record IsNow (i k : ℕ) (last : Point) (x k' : ℕ) (last' : Point) (found' : List Point) : Type 0 where
    pub come : HasCome corners from to start chain i (i + 1) k' last' found'
    pub clear : IsClear i k' last' x
    pub keeps : (y : ℕ) → IsClear i k last y → IsClear i k' last' y

module _ (corners : List Point) (tris : List Tri) (fits : Fits corners tris) (walk : List ℕ) (w : IsWalk tris walk) (from to start : ℕ → ℕ)
    (crosses : (m : ℕ) → m + 1 < length walk → CrossesSide tris walk m (from m) (to m)) (chain : List Point) (bent : IsBentChain corners chain)
    (entered : IsEntered corners tris walk from to start chain) where
  -- ---- what is before a point of a triangle

  module _ (k : ℕ) (more : k + 1 < length chain) (last v : Point) (l : ℕ) (reach : start k ≤ l) (below : l < length walk)
      (none : (m x : ℕ) → start k ≤ m → m < l → IsEndAt from to m x → ¬ IsAhead chain k last (vertex corners x))
      (inside : IsInTri corners (walk_tri tris walk l) (whole v)) (on_last : On (whole last) (whole (point_at chain k)) (whole (point_at chain (k + 1))))
      (on_v : On (whole v) (whole (point_at chain k)) (whole (point_at chain (k + 1)))) where
    abbrev s : Point
    s = point_at chain k

    abbrev t : Point
    t = point_at chain (k + 1)

    -- a vertex before v on the way is before the last point, where no side between has an end ahead
    pub none_between : (u : Point) → IsVertexBetween corners s t u → On (whole u) (whole s) (whole v) → ¬ (u ≡ v) → On (whole u) (whole s) (whole last)
    none_between u vertex_u on_u differ =
        elim (on_total (whole u) (whole last) (whole s) (whole t) (whole_is_point u) (whole_is_point last) (whole_is_point s) (whole_is_point t) vertex_u.on on_last) [
          | inl before ↦ before
          | inr after ↦ elim (point_or_other u last) [
            | inl same ↦ subst (λ p. On (whole u) (whole s) (whole p)) same (on_last_end (whole s) (whole u))
            | inr far ↦
                let is = vertex_u.is_vertex in
                let e = end_between corners tris fits walk w from to crosses (l - start k) (start k) l (omega (arith, reach)) below vertex_u.i vertex_u.in_ring
                (whole s) (whole v) (whole_is_point s) (whole_is_point v) (entered.inside k more) inside
                (λ y at_y on_y. bent.chain.sees k more y at_y
                (on_nested y (whole s) (whole v) (whole s) (whole t) at_y (whole_is_point s) (whole_is_point v) (whole_is_point s) (whole_is_point t)
                (on_first_end (whole s) (whole t)) on_v on_y))
                (subst (λ p. On (whole p) (whole s) (whole v)) (sym is) on_u)
                (λ same. vertex_u.not_first (sym is ∙ same_whole _ s same))
                (λ same. differ (sym is ∙ same_whole _ v same)) in
                absurd (none e.place vertex_u.i e.not_before e.before e.is_end (subst (IsAhead chain k last) (sym is) (record {
                  more = more;
                  on = beyond s t last u after vertex_u.on;
                  differ = far;
                })))
          ]
        ]

  -- ---- a look

  module _ (i j x : ℕ) (next : i + 1 < length walk) (j_near : j ≤ i + 1) (is_vertex : x < length corners) (is_end : IsEndAt from to i x)
      (k : ℕ) (last : Point) (found : List Point) (now : HasCome corners from to start chain i j k last found) where
    abbrev v : Point
    v = vertex corners x

    abbrev a : Point
    a = point_at chain k

    abbrev b : Point
    b = point_at chain (k + 1)

    -- x is on the side,
    on_side : IsEndAt from to i x → On (whole v) (whole (vertex corners (from i))) (whole (vertex corners (to i)))
    on_side (inl e) = rw e (on_first_end _ _)
    on_side (inr e) = rw e (on_last_end _ _)

    -- so it is in the triangles on both sides of it
    in_this : IsInTri corners (walk_tri tris walk i) (whole v)
    in_this =
        side_in_triangle corners tris fits _ (w.in_list i (omega (arith, next))) (from i) (to i) (crosses i next).of_this (whole v) (whole_is_point v)
        (on_side is_end)

    in_next : IsInTri corners (walk_tri tris walk (i + 1)) (whole v)
    in_next =
        side_in_triangle corners tris fits _ (w.in_list (i + 1) next) (from i) (to i) (crosses i next).of_next (whole v) (whole_is_point v)
        (on_side is_end)

    module _ (ahead : IsAhead chain k last v) where
      abbrev opened : IsSearchOpen corners from to start chain i j k last
      opened = now.goes_on ahead.more

      -- it is on the way from the chain's point,
      v_on : On (whole v) (whole a) (whole b)
      v_on = on_last_part a b v last opened.on ahead.on

      -- beyond the last point,
      last_on : On (whole last) (whole a) (whole v)
      last_on = before_last_part a b last v opened.on ahead.on

      -- and other than where that way begins
      v_not_first : ¬ (v ≡ a)
      v_not_first e = ahead.differ (e ∙ sym (only_point a last (subst (λ p. On (whole last) (whole a) (whole p)) e last_on)))

      -- a vertex before it is before the last point
      behind : (u : Point) → IsVertexBetween corners a b u → On (whole u) (whole a) (whole v) → ¬ (u ≡ v) → On (whole u) (whole a) (whole last)
      behind u vertex_u on_u differ = elim (cases_lt i (start k)) [
        | inr reach ↦ none_between k ahead.more last v i reach (omega (arith, next)) opened.none in_this opened.on v_on u vertex_u on_u differ
        | inl past ↦
            none_between k ahead.more last v (i + 1) (omega (arith, opened.soon, j_near)) next (λ m y h less. absurd (omega arith)) in_next opened.on v_on
            u vertex_u on_u differ
      ]

      -- what is since the chain's point is nearer
      since_nearer : (u : Point) → Has now.since u → IsNearer a u v
      since_nearer u has =
          let p = (now.passed u).0 has in
          record {
            on = nearer_on a u last v p.on last_on;
            differ = λ e. ahead.differ (nearer_each a v last (subst (λ q. On (whole q) (whole a) (whole last)) e p.on) last_on);
          }

      -- ---- on the way to the next point of the chain

      module _ (short : ¬ (v ≡ b)) where
        v_between : IsVertexBetween corners a b v
        v_between = record { i = x; in_ring = is_vertex; is_vertex = refl; on = v_on; not_first = v_not_first; not_last = short }

        passed_more : (u : Point) → Has (now.since ++ v ∷ []) u ↔ IsVertexAhead corners chain k v u
        passed_more u = (
          (λ has. elim (has_cases u now.since (v ∷ []) has) [
            | inl old ↦ let p = (now.passed u).0 old in record { more = p.more; between = p.between; on = (since_nearer u old).on }
            | inr (inl e) ↦ subst (IsVertexAhead corners chain k v) e (record { more = ahead.more; between = v_between; on = on_last_end (whole a) (whole v) })
            | inr (inr none) ↦ absurd none
          ]),
          (λ p. elim (point_or_other u v) [
            | inl e ↦ has_right u now.since (v ∷ []) (inl (sym e))
            | inr differ ↦ has_left u now.since (v ∷ []) ((now.passed u).1 (record { more = p.more; between = p.between; on = behind u p.between p.on differ }))
          ]),
        )

        -- what is ahead of it was so before
        ahead_before : (u : Point) → IsAhead chain k v u → IsAhead chain k last u
        ahead_before u h = record {
          more = h.more;
          on = on_last_part last b u v ahead.on h.on;
          differ = λ e. h.differ (e ∙ sym (nearer_each b v last (on_reversed _ _ _ ahead.on) (on_reversed _ _ _ (subst (λ q. On (whole q) (whole v) (whole b)) e h.on))));
        }

        come_nearer : HasCome corners from to start chain i (i + 1) k v (found ++ v ∷ [])
        come_nearer = record {
          within = now.within;
          before = now.before;
          since = now.since ++ v ∷ [];
          full = now.full;
          parts = ap (λ ps. ps ++ v ∷ []) now.parts ∙ append_assoc now.before now.since (v ∷ []);
          ordered = in_order_more a v now.since now.ordered since_nearer;
          passed = passed_more;
          goes_on = λ more. record {
            on = v_on;
            not_next = short;
            soon = omega (arith, opened.soon, j_near);
            none = λ m y h less end up. opened.none m y h less end (ahead_before (vertex corners y) up);
          };
          at_end = λ late. absurd (omega (arith, late, ahead.more));
        }

        now_nearer : IsNow corners tris walk from to start chain i k last x k v (found ++ v ∷ [])
        now_nearer = record {
          come = come_nearer;
          clear = λ more soon up. up.differ refl;
          keeps = λ y clear more soon up. clear more soon (ahead_before (vertex corners y) up);
        }

      -- ---- at the next point of the chain

      module _ (there : v ≡ b) where
        touched : AreTouched corners a b now.since
        touched = record {
          vertices = λ u. (
            (λ has. ((now.passed u).0 has).between),
            (λ between. (now.passed u).1 (record {
              more = ahead.more;
              between = between;
              on = behind u between (subst (λ q. On (whole u) (whole a) (whole q)) (sym there) between.on) (λ e. between.not_last (e ∙ there));
            })),
          );
          ordered = now.ordered;
        }

        full_there : IsFull corners (take (k + 1 + 1) chain) (found ++ v ∷ [])
        full_there =
            let here : take (k + 1) chain ≡ take k chain ++ a ∷ [] = take_more chain k origin now.within in
            let then : take (k + 1 + 1) chain ≡ take k chain ++ a ∷ b ∷ [] =
            take_more chain (k + 1) origin ahead.more ∙ ap (λ ps. ps ++ b ∷ []) here ∙ append_assoc (take k chain) (a ∷ []) (b ∷ []) in
            let longer = full_more corners (take k chain) a b now.before now.since (subst (λ ps. IsFull corners ps now.before) here now.full) touched in
            let parts : now.before ++ (now.since ++ b ∷ []) ≡ found ++ v ∷ [] =
            sym (append_assoc now.before now.since (b ∷ [])) ∙ ap (λ ps. ps ++ b ∷ []) (sym now.parts) ∙ ap (λ q. found ++ q ∷ []) (sym there) in
            subst (λ ps. IsFull corners ps (found ++ v ∷ [])) (sym then) (subst (IsFull corners (take k chain ++ a ∷ b ∷ [])) parts longer)

        -- the sides after this one matter to what follows
        start_after : k + 1 + 1 < length chain → start (k + 1) ≡ i + 1
        start_after more =
            let n = entered.next k more in
            let not_late : ¬ (i < n.place) = λ late. n.first i late (subst (λ q. IsInTri corners (walk_tri tris walk i) (whole q)) there in_this) in
            let not_soon : ¬ (n.place < i) = λ soon. opened.none n.place n.x n.after soon n.end
            (subst (IsAhead chain k last) (there ∙ sym n.at) ahead) in
            omega (arith, n.is, not_late, not_soon)

        come_there : HasCome corners from to start chain i (i + 1) (k + 1) v (found ++ v ∷ [])
        come_there = record {
          within = ahead.more;
          before = found ++ v ∷ [];
          since = [];
          full = full_there;
          parts = sym (append-nil (found ++ v ∷ []));
          ordered = tt;
          passed = λ u. (
            (λ has. absurd has),
            (λ p. absurd (p.between.not_first (only_point b u (subst (λ q. On (whole u) (whole b) (whole q)) there p.on)))),
          );
          goes_on = λ more. record {
            on = rw there (on_first_end _ _);
            not_next = λ e. bent.chain.distinct (k + 1) more (sym there ∙ e);
            soon = omega (arith, start_after more);
            none = λ m y h less end up. absurd (omega (arith, start_after more, h, less));
          };
          at_end = λ late. there;
        }

        now_there : IsNow corners tris walk from to start chain i k last x (k + 1) v (found ++ v ∷ [])
        now_there = record {
          come = come_there;
          clear = λ more soon up. omega (arith, start_after more, soon);
          keeps = λ y clear more soon up. omega (arith, start_after more, soon);
        }

    -- ---- where it is not ahead

    now_still : ¬ IsAhead chain k last v → IsNow corners tris walk from to start chain i k last x k last found
    now_still behind = record {
      come = record {
        within = now.within;
        before = now.before;
        since = now.since;
        full = now.full;
        parts = now.parts;
        ordered = now.ordered;
        passed = now.passed;
        goes_on = λ more. let opened = now.goes_on more in record {
          on = opened.on;
          not_next = opened.not_next;
          soon = omega (arith, opened.soon, j_near);
          none = opened.none;
        };
        at_end = now.at_end;
      };
      clear = λ more soon. behind;
      keeps = λ y clear. clear;
    }

    -- so after a look in each case
    pub looked_at : (k' : ℕ) (last' : Point) (found' : List Point) → IsLookedAt chain v k last found k' last' found'
        → IsNow corners tris walk from to start chain i k last x k' last' found'
    looked_at k' last' found' look = elim (ahead_cases chain k last v) [
      | inr behind ↦ let (ek, el, ef) = look.stays behind in rw (ek, el, ef) (now_still behind)
      | inl ahead ↦ let (el, ef) = look.found_more ahead in elim (point_or_other v b) [
        | inl there ↦ rw (look.arrives ahead there, el, ef) (now_there ahead there)
        | inr short ↦ rw (look.passes ahead short, el, ef) (now_nearer ahead short)
      ]
    ]
