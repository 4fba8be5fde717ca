use Rattle.std.proofs.Common.{ℕ, List, Bool, length, sym, ◌∙◌, ap, subst}
use Rattle.ts_adjacency.specs.Adjacency.{Adjacency}
use Rattle.ts_adjacency.specs.Rows.{IsClosed}
use Rattle.ts_bits.specs.BitArray.{BitsSay}
use Rattle.ts_log.specs.LogArray.{LogSays}
use Rattle.ts_wavelet.specs.WaveletTree.{WaveletSays}
use Rattle.ts_plane.specs.Parts.{PlaneParts, parts_of}
use Rattle.ts_plane.specs.Read.{parts_in}
use Rattle.ts_plane.proofs.ExactLemmas.{parts_same}
use Rattle.ts_plane.proofs.ObjectLemmas.{length-object_pairs}
use Rattle.ts_plane.proofs.RulesOf.{rules_of}
use Rattle.ts_plane.proofs.checked.checked_sections.Goals as goal

pub of_checked-pairs-requires : goal.of_checked-pairs-requires
of_checked-pairs-requires c =
    let says = c.requires.said.1 in
    let ends : List Bool = (parts_of c.requires.said.0).pair_ends in
    let same = c.of_checked.ensures.only ends (subst (λ (b : List ℕ). BitsSay b ends) (sym c.part-2.ensures) says.say.pair_ends) in
    subst IsClosed same (rules_of c.requires.said.0 says.list).pairs_closed

pub of_checked-predicates-requires : goal.of_checked-predicates-requires
of_checked-predicates-requires c =
    let says = c.requires.said.1 in
    let parts : PlaneParts = parts_of c.requires.said.0 in
    let same = c.of_checked.ensures.only parts.pair_ends (subst (λ (b : List ℕ). BitsSay b parts.pair_ends) (sym c.part-2.ensures) says.say.pair_ends) in (
      parts.pair_predicates,
      (rules_of c.requires.said.0 says.list).predicates_counted ∙ ap length same ∙ ap length (sym c.of_checked-pairs.ensures) ∙ sym c.len.ensures.counted,
      subst (λ (b : List ℕ). WaveletSays b parts.pair_predicates) (sym c.part-3.ensures) says.say.pair_predicates,
    )

pub checked_edges-triples-requires : goal.checked_edges-triples-requires
checked_edges-triples-requires c =
    let says = c.requires.said.1 in
    let parts : PlaneParts = parts_of c.requires.said.0 in
    let rules = rules_of c.requires.said.0 says.list in (
      record { ends = parts.object_ends; rights = parts.pair_objects },
      subst (λ (b : List ℕ). BitsSay b parts.object_ends) (sym c.part-4.ensures) says.say.object_ends,
      subst (λ (b : List ℕ). LogSays b parts.pair_objects) (sym c.part-5.ensures) says.say.pair_objects,
      record { closed = rules.triples_closed; paired = sym rules.objects_counted },
    )

pub checked_edges-by_object-requires : goal.checked_edges-by_object-requires
checked_edges-by_object-requires c =
    let says = c.requires.said.1 in
    let parts : PlaneParts = parts_of c.requires.said.0 in
    let rules = rules_of c.requires.said.0 says.list in (
      record { ends = parts.object_pair_ends; rights = parts.object_pairs },
      subst (λ (b : List ℕ). BitsSay b parts.object_pair_ends) (sym c.part-7.ensures) says.say.object_pair_ends,
      subst (λ (b : List ℕ). LogSays b parts.object_pairs) (sym c.part-8.ensures) says.say.object_pairs,
      record { closed = rules.by_object_closed; paired = sym (length-object_pairs parts rules) },
    )

pub returns : goal.returns
returns c = λ triples says.
    let parts : PlaneParts = parts_of triples in
    let subjects = c.of_checked-subjects.ensures.only parts.subjects (subst (λ (b : List ℕ). LogSays b parts.subjects) (sym c.part.ensures) says.say.subjects) in
    let pairs = c.of_checked.ensures.only parts.pair_ends (subst (λ (b : List ℕ). BitsSay b parts.pair_ends) (sym c.part-2.ensures) says.say.pair_ends) in
    let counted = (rules_of triples says.list).predicates_counted ∙ ap length pairs ∙ ap length (sym c.of_checked-pairs.ensures) ∙ sym c.len.ensures.counted in
    let predicates = c.of_checked-predicates.ensures.only parts.pair_predicates (counted ∙ sym c.of_checked-predicates.ensures.len)
    (subst (λ (b : List ℕ). WaveletSays b parts.pair_predicates) (sym c.part-3.ensures) says.say.pair_predicates) in
    let edges = c.checked_edges-triples.ensures (record { ends = parts.object_ends; rights = parts.pair_objects })
    (subst (λ (b : List ℕ). BitsSay b parts.object_ends) (sym c.part-4.ensures) says.say.object_ends)
    (subst (λ (b : List ℕ). LogSays b parts.pair_objects) (sym c.part-5.ensures) says.say.pair_objects) in
    let objects = c.of_checked-objects.ensures.only parts.objects (subst (λ (b : List ℕ). LogSays b parts.objects) (sym c.part-6.ensures) says.say.objects) in
    let by_object = c.checked_edges-by_object.ensures (record { ends = parts.object_pair_ends; rights = parts.object_pairs })
    (subst (λ (b : List ℕ). BitsSay b parts.object_pair_ends) (sym c.part-7.ensures) says.say.object_pair_ends)
    (subst (λ (b : List ℕ). LogSays b parts.object_pairs) (sym c.part-8.ensures) says.say.object_pairs) in
    parts_same (parts_in (record {
      subjects = c.of_checked-subjects.result;
      pairs = c.of_checked-pairs.result;
      predicates = c.of_checked-predicates.result;
      triples = c.checked_edges-triples.result;
      objects = c.of_checked-objects.result;
      by_object = c.checked_edges-by_object.result;
    })) (parts_of triples)
    (sym subjects) (c.of_checked-pairs.ensures ∙ sym pairs) (sym predicates)
    (ap (λ (a : Adjacency). a.ends) edges) (ap (λ (a : Adjacency). a.rights) edges)
    (sym objects)
    (ap (λ (a : Adjacency). a.ends) by_object) (ap (λ (a : Adjacency). a.rights) by_object)
