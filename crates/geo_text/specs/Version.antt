-- Of which version a script is. This project's own.
use Rattle.std.specs.Prelude.{Bool, true, false}
use Rattle.geo_text.specs.declared.version.Version.{Version}
use Rattle.geo_text.specs.declared.version.Version.TheVariants as version

-- of version 2, or of version 1
abbrev pub version_of : Bool → Version
version_of true = version.Two
version_of false = version.One

-- the first in version 1, and the second in version 2
abbrev pub by_version : {T : Type 0} → Version → T → T → T
by_version version.One first second = first
by_version version.Two first second = second
