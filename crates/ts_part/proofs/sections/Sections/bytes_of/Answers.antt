use Rattle.std.proofs.Common.{◌-◌, length, take, drop, get_or, sym, ◌∙◌, ap, arith}
use Rattle.std.proofs.lemmas.List.{length-drop, length-take-le, take_rest}
use Rattle.ts_part.specs.Header.{section_count}
use Rattle.ts_part.proofs.PlaceLemmas.{few_places, kind_at}
use Rattle.ts_part.proofs.sections.Sections.bytes_of.Goals as goal

pub slice_bounds-rest-count : goal.slice_bounds-rest-count
slice_bounds-rest-count c =
    let s = c.args.self.now in
    let few = few_places s.file.now (section_count s.header.now.kind) s.places.now c.requires.placed in
    let fits = c.requires.placed.inside (c.args.kind - 1) (0, 0) (omega (arith, few, c.requires.some, c.requires.there)) in
    omega (arith, fits)

pub slice_bounds-rest-start : goal.slice_bounds-rest-start
slice_bounds-rest-start c =
    let s = c.args.self.now in
    let few = few_places s.file.now (section_count s.header.now.kind) s.places.now c.requires.placed in
    let fits = c.requires.placed.inside (c.args.kind - 1) (0, 0) (omega (arith, few, c.requires.some, c.requires.there)) in
    omega (arith, fits)

pub slice_bounds-result-end : goal.slice_bounds-result-end
slice_bounds-result-end c =
    let s = c.args.self.now in
    let start = (get_or s.places.now (c.args.kind - 1) (0, 0)).0 in
    let size = (get_or s.places.now (c.args.kind - 1) (0, 0)).1 in
    let few = few_places s.file.now (section_count s.header.now.kind) s.places.now c.requires.placed in
    let fits = c.requires.placed.inside (c.args.kind - 1) (0, 0) (omega (arith, few, c.requires.some, c.requires.there)) in
    let rest = ap length (take_rest s.file.now start) ∙ length-drop start s.file.now in
    sym (length-take-le size (take (length s.file.now - start) (drop start s.file.now)) (omega (arith, fits, rest)))

pub returns : goal.returns
returns c =
    let s = c.args.self.now in
    let start = (get_or s.places.now (c.args.kind - 1) (0, 0)).0 in
    let size = (get_or s.places.now (c.args.kind - 1) (0, 0)).1 in
    let few = few_places s.file.now (section_count s.header.now.kind) s.places.now c.requires.placed in
    ap (take size) (take_rest s.file.now start)
    ∙ sym (kind_at s.file.now s.places.now (section_count s.header.now.kind) c.args.kind (0, 0) c.requires.some c.requires.there few)
