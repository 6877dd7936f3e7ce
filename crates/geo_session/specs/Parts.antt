-- Parts of the edges of a ring that is read the other way round. No public clause cites this module.
use Rattle.std.specs.Prelude.{if◌then◌else◌, List, length}
use Rattle.rings.specs.Visible.{Part, turned_parts}
use Rattle.ring_check.specs.Oriented.{Oriented}

-- parts of the edges of a ring, as parts of the edges of the list that it was made of
abbrev pub given_parts : Oriented → List Part → List Part
given_parts ring parts = if ring.is_turned then turned_parts (length ring.corners) parts else parts
