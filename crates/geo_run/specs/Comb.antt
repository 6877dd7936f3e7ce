-- What a run over the comb writes. `taken` and `taken'` are the bytes that the sink has taken at entry and at exit, where it
-- tells them. This project's own.
use Rattle.std.specs.Io.KnownBytes.{Appends}
use Rattle.std.specs.Prelude.{◌≡◌, ℕ, List, ◌++◌, Option, codes, length, take}
use Rattle.plane.specs.Point.{Point}
use Rattle.rings.specs.Chain.{IsPath}
use Rattle.geo_gen.specs.Comb.{comb_goal, comb_list, comb_start}
use Rattle.geo_text.specs.Texts.{index_text}

-- the line of the comb of k: k, the number of its vertices, and how many points the path from its start to its goal has
pub record IsCombText (k : ℕ) (text : List ℕ) : Type 0 where
  pub path : List Point
  pub is_path : IsPath (comb_list k) comb_start (comb_goal k) path
  pub told : text ≡ codes "comb" ++ index_text k ++ index_text (length (comb_list k)) ++ index_text (length path) ++ codes "\n"

-- the sink took this line, and nothing else
pub record WritesComb (k : ℕ) (taken taken' : Option (List ℕ)) : Type 0 where
  pub text : List ℕ
  pub line : IsCombText k text
  pub written : Appends taken taken' text

-- the sink took the front of this line, and nothing else
pub record WritesCombFront (k : ℕ) (taken taken' : Option (List ℕ)) : Type 0 where
  pub text : List ℕ
  pub line : IsCombText k text
  pub count : ℕ
  pub written : Appends taken taken' (take count text)
