-- The characters of the empty text.
use Rattle.std.proofs.Common.{◌≡◌, ℕ, List, [], chars, ap, ◌∙◌}
use Rattle.std.proofs.lemmas.Str.{chars-nil}

pub no_characters : (text : List ℕ) → text ≡ [] → chars text ≡ []
no_characters text empty = ap chars empty ∙ chars-nil
