use Rattle.polygon_tests.proofs.ring_lists.KnownRows.{l_in_a_row, triangle}
use Rattle.polygon_tests.proofs.triangles.meshes_know_their_neighbours.Goals as goal

pub mesh_of-requires-clause-suit : goal.mesh_of-requires-clause-suit
mesh_of-requires-clause-suit g c = triangle

pub mesh_of-requires-2-clause-suit : goal.mesh_of-requires-2-clause-suit
mesh_of-requires-2-clause-suit g c = l_in_a_row
