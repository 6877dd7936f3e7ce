use Rattle.geo_session.proofs.PathAlong.{leads}
use Rattle.geo_session.proofs.held.Held.shown.Goals as goal

pub full_along-requires : goal.full_along-requires
full_along-requires g c =
    let between = rw (← c.self.view_is) at c.requires in
    rw (← c.self.view_is, c.deref.ensures.value)
    (record {
      s = between.s;
      t = between.t;
      leads = leads c.self.inside.ring.corners c.self.inside.mesh c.in_ok-sleeve-in-Two.sleeve c.args.tris.0 c.args.tris.1 between.s between.t
          c.in_ok-sleeve-in-Two.ensures.of_mesh c.in_ok-sleeve-in-Two.ensures.between between.start between.goal;
      is_path = between.is_path;
    })
