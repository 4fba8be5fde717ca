-- The newest part that names a triple decides whether it stands.
use Rattle.std.proofs.Common.{◌≡◌, Bool, true, false, not, ◌||◌, ◌&&◌, List, ◌∷◌, Contains, IsTrue, refl, sym, ap, ◌∙◌}
use Rattle.std.specs.Prelude.{◌↔◌}
use Rattle.std.proofs.lemmas.Bool.{false≢true}
use Rattle.std.proofs.lemmas.Cmp.{eq_by_cmp_equiv}
use Rattle.std.proofs.lemmas.Map.Views.{Contains-from_any, list_any-from_Contains, tells_apart}
use Rattle.ts_plane.specs.declared.triple.IdTriple.{IdTriple}
use Rattle.ts_part.specs.Facts.{Facts}
use Rattle.ts_chain.specs.Content.{has, stands_in}
use Rattle.ts_chain.proofs.IdOrder.{triple_cmp_total, triple_cmp-IsAntisymmetric}

-- an answer that is true exactly where the list has the triple
pub has_tells : (triples : List IdTriple) (t : IdTriple) (b : Bool) → IsTrue b ↔ Contains triples t → b ≡ has triples t
has_tells triples t true h = sym (list_any-from_Contains (eq_by_cmp_equiv triple_cmp_total) t triples (h.0 refl))
has_tells triples t false h = by (has triples t) refl
  where
    by : (found : Bool) → has triples t ≡ found → false ≡ found
    by false e = refl
    by true e = absurd (false≢true (h.1 (Contains-from_any (tells_apart triple_cmp-IsAntisymmetric) t triples e)))

-- at a part that names the triple, all is decided; one that doesn't name it is passed by
module _ (part : Facts) (rest left parts : List Facts) (t : IdTriple) (is : left ≡ part ∷ rest) (so_far : stands_in left t ≡ stands_in parts t) where
  first : stands_in parts t ≡ (has part.additions t || (not (has part.removals t) && stands_in rest t))
  first = sym so_far ∙ ap (λ l. stands_in l t) is

  pub comes_here : has part.additions t ≡ true → true ≡ stands_in parts t
  comes_here comes = sym (first ∙ ap (λ b. b || (not (has part.removals t) && stands_in rest t)) comes)

  pub goes_here : has part.additions t ≡ false → has part.removals t ≡ true → false ≡ stands_in parts t
  goes_here comes goes = sym (first ∙ (λ i. comes i || (not (goes i) && stands_in rest t)))

  pub passed_by : has part.additions t ≡ false → has part.removals t ≡ false → stands_in rest t ≡ stands_in parts t
  passed_by comes goes = sym (first ∙ (λ i. comes i || (not (goes i) && stands_in rest t)))
