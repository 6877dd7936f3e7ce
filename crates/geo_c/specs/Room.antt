-- What becomes of a path where there is room for some points. This project's own, and cited by no public clause.
use Rattle.std.specs.Prelude.{◌≡◌, ◌≤◌, ◌<◌, ℕ, List, Option, None, Some, Result, Vec, length}
use Rattle.std.specs.declared.alloc.Global.{Global}
use Rattle.plane.specs.Point.{Point}
use Rattle.geo_text.specs.declared.command.Bad.{Bad}
use Rattle.geo_c.specs.Filled.{filled_by}
use Rattle.geo_c.specs.Many.{path_length, path_points, path_status}

-- nothing, as there is no room; or its status and the count of its points, which are in the front of the buffer
abbrev pub IsPathPut : Option (ℕ × ℕ) → List Point → List Point → Result (Vec Point Global) Bad → Type 0
IsPathPut None before after found = (length before < path_length found) × (after ≡ before)
IsPathPut (Some told) before after found =
    (told.0 ≡ path_status found) × (told.1 ≡ path_length found) × (path_length found ≤ length before) × (after ≡ filled_by (path_points found) before)
