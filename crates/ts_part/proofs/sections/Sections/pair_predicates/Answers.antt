use Rattle.std.proofs.Common.{List, ℕ, length, sym, ◌∙◌, ap, subst}
use Rattle.ts_bits.specs.BitArray.{BitsSay}
use Rattle.ts_plane.specs.Parts.{parts_of}
use Rattle.ts_wavelet.specs.WaveletTree.{WaveletSays}
use Rattle.ts_part.proofs.ToldParts.{predicates_counted, told_pair_ends, told_pair_predicates}
use Rattle.ts_part.proofs.sections.Sections.pair_predicates.Goals as goal

pub of_checked-requires : goal.of_checked-requires
of_checked-requires c = (
  (parts_of c.requires.0.additions).pair_ends,
  subst (λ (bytes : List ℕ). BitsSay bytes (parts_of c.requires.0.additions).pair_ends) (sym c.bytes_of.ensures) (told_pair_ends c.args.self.now c.requires.0 c.requires.1),
)

pub of_checked-requires-2 : goal.of_checked-requires-2
of_checked-requires-2 c =
    let ends = subst (λ (bytes : List ℕ). BitsSay bytes (parts_of c.requires.0.additions).pair_ends) (sym c.bytes_of.ensures) (told_pair_ends c.args.self.now c.requires.0 c.requires.1) in (
      (parts_of c.requires.0.additions).pair_predicates,
      predicates_counted c.requires.0 c.args.self.now c.requires.1 ∙ ap length (c.of_checked.ensures.only (parts_of c.requires.0.additions).pair_ends ends) ∙ sym c.len-pairs.ensures,
      subst (λ (bytes : List ℕ). WaveletSays bytes (parts_of c.requires.0.additions).pair_predicates) (sym c.bytes_of-2.ensures) (told_pair_predicates c.args.self.now c.requires.0 c.requires.1),
    )

pub returns : goal.returns
returns c = λ facts tells.
    let ends = subst (λ (bytes : List ℕ). BitsSay bytes (parts_of facts.additions).pair_ends) (sym c.bytes_of.ensures) (told_pair_ends c.args.self.now facts tells) in
    sym (c.of_checked-2.ensures.only (parts_of facts.additions).pair_predicates
    (predicates_counted facts c.args.self.now tells ∙ ap length (c.of_checked.ensures.only (parts_of facts.additions).pair_ends ends) ∙ sym c.len-pairs.ensures ∙ sym c.of_checked-2.ensures.len)
    (subst (λ (bytes : List ℕ). WaveletSays bytes (parts_of facts.additions).pair_predicates) (sym c.bytes_of-2.ensures) (told_pair_predicates c.args.self.now facts tells)))
