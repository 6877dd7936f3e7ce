-- The sides of a hull of points, in the list that the ring was made of.
use Rattle.std.proofs.Common.{refl, ℕ, ◌<◌, ◌^◌, List, length, arith}
use Rattle.std.specs.Prelude.{map}
use Rattle.plane.specs.Pairs.{pair_at}
use Rattle.plane.specs.Point.{Point}
use Rattle.rings.specs.Chain.{point_at}
use Rattle.meshes.specs.declared.tri.Tri.{Tri}
use Rattle.meshes.specs.Fits.{Fits}
use Rattle.geo_text.specs.declared.version.Version.{Version}
use Rattle.geo_reply.specs.declared.reply.Reply.TheVariants as reply
use Rattle.geo_reply.specs.declared.reply.Side.{Side}
use Rattle.ring_check.specs.Oriented.{Oriented, given_of}
use Rattle.rel_hull.specs.Table.{AreSides, table_points}
use Rattle.pair_cut.proofs.PairOrder.{sorted_few}
use Rattle.geo_session.proofs.GivenFull.{shown_given}
use Rattle.geo_session.proofs.GivenSides.{sides_given}
use Rattle.geo_session.proofs.HullTable.{short_chain, side_numbered, sides_numbered}
use Rattle.geo_session.proofs.Spanned.{held_inside}
use Rattle.geo_session.proofs.Within.{all_given}
use Rattle.geo_session.specs.Hull.{AreSidesOf}
use Rattle.geo_session.specs.Span.{AreSidesTold, IsSpan}
use Rattle.geo_session.specs.Told.{RepliesWithin, Tells, within}
use Rattle.geo_session.specs.declared.span.Span.{Span}

-- ---- the sides

module _ (ring : Oriented) (tris : List Tri) (points : List Point) (span : Span) (is : IsSpan ring.corners tris points span) (pairs : List (ℕ × ℕ))
    (are : AreSides ring.corners (table_points span.chains) pairs) where
  numbered_sides : AreSides ring.corners (map (point_at points) span.numbers.items) pairs
  numbered_sides = sides_numbered points span.numbers.items is.firsts ring.corners span.chains is.table pairs are

  -- the places of a side are those of numbers,
  pub ends_numbered : (k : ℕ) → k < length pairs
      → ((pair_at pairs k).0 < length span.numbers.items) × ((pair_at pairs k).1 < length span.numbers.items)
  ends_numbered k below = side_numbered ring.corners points span.numbers.items pairs numbered_sides k below

  pub pairs_few : length pairs < 2 ^ 32
  pairs_few = sorted_few pairs (λ k below. let at = ends_numbered k below in (omega (arith, at.0, is.few), omega (arith, at.1, is.few))) are.sorted

  -- and what is told of the sides are the sides of the points
  module _ (version : Version) (told : List Side) (all : AreSidesTold version ring.corners span pairs (length pairs) told) where
    sides_of : AreSidesOf version (given_of ring) points told
    sides_of = record {
      numbers = span.numbers.items;
      firsts = is.firsts;
      sides = pairs;
      are_sides = sides_given ring (map (point_at points) span.numbers.items) pairs numbered_sides;
      one_each = all.count;
      each = λ k below.
          let side = all.each k below in
          let (at_s, at_t) = ends_numbered k below in record {
            start = side.start;
            end = side.end;
            shown = shown_given ring version _ _ _ (record {
              chain = _;
              is_path = (short_chain ring.corners tris points span is _ _ at_s at_t).is_path;
              is_shown = side.shown;
            });
          };
    }

    pub hull_within : Fits ring.corners tris
        → RepliesWithin (given_of ring) points (Tells reply.Hull (AreSidesOf version (given_of ring) points)) (reply.Hull told)
    hull_within fits =
        within (all_given ring points (held_inside ring.corners tris points (length points) span.tris.items is.held fits))
        (record { value = told; holds = sides_of; told = refl })
