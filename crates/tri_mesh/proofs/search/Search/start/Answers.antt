use Rattle.tri_mesh.proofs.SearchSteps.{search_one}
use Rattle.tri_mesh.proofs.search.Search.start.Goals as goal

pub returns-clause-search : goal.returns-clause-search
returns-clause-search c =
    let places = c.in_ok-places.ensures.items_if_clones_equal (λ y same. same) in
    rw (places, c.push_reserved.ensures.items, c.in_ok-order.ensures.items)
    (search_one c.args.tris.now c.args.home c.requires.few c.requires.home)
