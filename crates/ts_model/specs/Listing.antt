-- Birth order, and a layer's triples in it.
use Rattle.std.specs.Prelude.{ℕ, List, filter, unwrap_or}
use Rattle.std.specs.declared.cmp.Ordering.{Ordering}
use Rattle.std.specs.Ordering.{nat_cmp, on, then_cmp}
use Rattle.std.specs.Cmp.Lexicographic.{slice_cmp}
use Rattle.ts_model.specs.declared.pattern.Pattern.{Pattern}
use Rattle.ts_model.specs.TextTerm.{TextTerm}
use Rattle.ts_model.specs.TextTriple.{TextTriple}
use Rattle.ts_model.specs.Order.{kind_place, triple_cmp}
use Rattle.ts_model.specs.Fits.{fits}
use Rattle.ts_model.specs.Sets.{SetOf, members, from_list}
use Rattle.ts_model.specs.History.{History, content_at}
use Rattle.ts_model.specs.Birth.{birth_of}

-- by birth, then node before value, then spelling
abbrev pub key_cmp : History → ℕ → TextTerm → TextTerm → Ordering
key_cmp history k =
    then_cmp (on (λ term. unwrap_or (birth_of history k term) 0) nat_cmp)
    (then_cmp (on (λ term. kind_place term.kind) nat_cmp) (on (λ term. term.spelling) (slice_cmp nat_cmp)))

-- by the keys of subject, predicate and object
abbrev pub birth_cmp : History → ℕ → TextTriple → TextTriple → Ordering
birth_cmp history k =
    then_cmp (on (λ triple. triple.subject) (key_cmp history k))
    (then_cmp (on (λ triple. triple.predicate) (key_cmp history k)) (on (λ triple. triple.object) (key_cmp history k)))

-- triples in birth order at a layer, each once
abbrev pub in_birth_order : History → ℕ → SetOf triple_cmp → List TextTriple
in_birth_order history k triples = members (from_list {R = birth_cmp history k} (members triples))

-- the triples of the layer in birth order
abbrev pub listing : History → ℕ → List TextTriple
listing history k = in_birth_order history k (content_at history k)

-- those of them that fit
abbrev pub select : History → ℕ → Pattern → List TextTriple
select history k pattern = filter (fits pattern) (listing history k)
