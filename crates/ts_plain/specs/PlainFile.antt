-- The plain file of a layer: a line with its name and its parent's, then a line for each addition, then one for each removal.
use Rattle.std.specs.Prelude.{ℕ, List, [], ◌∷◌, ◌++◌, flat_map, codes, Option, Some, None}
use Rattle.ts_model.specs.TextTriple.{TextTriple}
use Rattle.ts_model.specs.LayerText.{layer_text}
use Rattle.ts_nt.specs.TripleLine.{triple_line}

abbrev pub parent_text : Option ℕ → List ℕ
parent_text None = codes "none"
parent_text (Some parent) = layer_text parent

-- `plain`, the layer and its parent
abbrev pub head_line : ℕ → Option ℕ → List ℕ
head_line number parent = codes "plain " ++ layer_text number ++ 0x20 ∷ [] ++ parent_text parent ++ 0x0A ∷ []

-- the line of a triple behind `+` or `-` and a space
abbrev pub change_line : ℕ → TextTriple → List ℕ
change_line sign triple = sign ∷ 0x20 ∷ triple_line triple

abbrev pub change_lines : ℕ → List TextTriple → List ℕ
change_lines sign triples = flat_map (change_line sign) triples

abbrev pub plain_file : ℕ → Option ℕ → List TextTriple → List TextTriple → List ℕ
plain_file number parent additions removals = head_line number parent ++ change_lines 0x2B additions ++ change_lines 0x2D removals
