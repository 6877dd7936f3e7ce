use Rattle.exact_plane.proofs.Intervals.{at_least_short, at_most_short}
use Rattle.exact_plane.proofs.bounding_box.BoundingBox.joined.Goals as goal

pub returns-clause-first : goal.returns-clause-first
returns-clause-first c = λ q h.
    let b = c.args.self.now in
    record {
      west = at_most_short c.lesser.result b.west q.x c.lesser.ensures.fits b.west_fits c.lesser.ensures.first h.west;
      east = at_least_short c.greater.result b.east q.x c.greater.ensures.fits b.east_fits c.greater.ensures.first h.east;
      south = at_most_short c.lesser-2.result b.south q.y c.lesser-2.ensures.fits b.south_fits c.lesser-2.ensures.first h.south;
      north = at_least_short c.greater-2.result b.north q.y c.greater-2.ensures.fits b.north_fits c.greater-2.ensures.first h.north;
    }

pub returns-clause-second : goal.returns-clause-second
returns-clause-second c = λ q h.
    let b = c.args.other.now in
    record {
      west = at_most_short c.lesser.result b.west q.x c.lesser.ensures.fits b.west_fits c.lesser.ensures.second h.west;
      east = at_least_short c.greater.result b.east q.x c.greater.ensures.fits b.east_fits c.greater.ensures.second h.east;
      south = at_most_short c.lesser-2.result b.south q.y c.lesser-2.ensures.fits b.south_fits c.lesser-2.ensures.second h.south;
      north = at_least_short c.greater-2.result b.north q.y c.greater-2.ensures.fits b.north_fits c.greater-2.ensures.second h.north;
    }
