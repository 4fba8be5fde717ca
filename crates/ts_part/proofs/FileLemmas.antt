-- A file that is written: its header, its rows and its sections one behind another.
use Rattle.std.proofs.Common.{◌≡◌, ℕ, ◌+◌, ◌*◌, List, [], ◌++◌, length, take, drop, refl, sym, ◌∙◌, ap, ap₂, subst, arith, append_assoc, length-append}
use Rattle.std.specs.List.{flat_map}
use Rattle.std.proofs.lemmas.List.{drop_at, take_at}
use Rattle.ts_part.specs.declared.header.Header.{Header}
use Rattle.ts_part.specs.declared.header.PartKind.{PartKind}
use Rattle.ts_part.specs.declared.header.PartKind.TheVariants.{Layer, Rollup}
use Rattle.ts_part.specs.Facts.{Facts}
use Rattle.ts_part.specs.File.{file_of}
use Rattle.ts_part.specs.Header.{FitsHeader, HasHeader, KeepsHeaderRules, header_bytes, header_of, section_count}
use Rattle.ts_part.specs.Layout.{AreSections, first_start, padded, rows_from}
use Rattle.ts_part.specs.Part.{PartSays, SectionsSay}
use Rattle.ts_part.specs.Rules.{KeepsRules, MapsRule}
use Rattle.ts_part.specs.Sayable.{AreMaps, IsSayable}
use Rattle.ts_part.proofs.HeaderLemmas.{some_parent}
use Rattle.ts_part.proofs.LayoutLemmas.{length-rows_from}

pub length-header_bytes : (h : Header) → length (header_bytes h) ≡ 88
unfolding header_bytes
length-header_bytes h = refl

pub length-file_of : (h : Header) (sections : List (List ℕ)) → length (file_of h sections) ≡ first_start (length sections) + length (flat_map padded sections)
length-file_of h sections =
    let rows : List ℕ = rows_from 1 (first_start (length sections)) sections in
    let table : length rows ≡ 24 * length sections = length-rows_from 1 (first_start (length sections)) sections in
    omega (arith, length-append (header_bytes h ++ rows) (flat_map padded sections), length-append (header_bytes h) rows, table, length-header_bytes h)

pub file_head : (h : Header) (sections : List (List ℕ)) → take 88 (file_of h sections) ≡ header_bytes h
file_head h sections =
    let rows : List ℕ = rows_from 1 (first_start (length sections)) sections in
    ap (take 88) (append_assoc (header_bytes h) rows (flat_map padded sections)) ∙ take_at (header_bytes h) (rows ++ flat_map padded sections) 88 (length-header_bytes h)

pub file_sections : (h : Header) (sections : List (List ℕ)) → AreSections (file_of h sections) (length sections) sections
file_sections h sections =
    let rows : List ℕ = rows_from 1 (first_start (length sections)) sections in
    let table : length rows ≡ 24 * length sections = length-rows_from 1 (first_start (length sections)) sections in
    record {
      counted = refl;
      table = ap (λ l. take (24 * length sections) (drop 88 l)) (append_assoc (header_bytes h) rows (flat_map padded sections))
          ∙ ap (take (24 * length sections)) (drop_at (header_bytes h) (rows ++ flat_map padded sections) 88 (length-header_bytes h))
          ∙ take_at rows (flat_map padded sections) (24 * length sections) table;
      content = drop_at (header_bytes h ++ rows) (flat_map padded sections) (first_start (length sections))
          (omega (arith, length-append (header_bytes h) rows, table, length-header_bytes h));
    }

-- rules of a header don't speak of the file's length
pub same_rules : (facts : Facts) (size : ℕ) → KeepsHeaderRules (header_of facts 0) → KeepsHeaderRules (header_of facts size)
same_rules facts size rules = record {
  number = rules.number;
  placed = record { parent = rules.placed.parent; base = rules.placed.base };
  terms = rules.terms;
  predicates = rules.predicates;
}

maps_sayable : (kind : PartKind) (facts : Facts) → MapsRule kind facts → AreMaps kind facts.term_map facts.predicate_map
maps_sayable Layer facts rule = rule
maps_sayable Rollup facts rule = (rule.0, rule.2)

-- facts that keep their rules can be said
pub sayable : (facts : Facts) → KeepsRules facts → IsSayable facts
sayable facts rules =
    let lists = rules.lists in
    record {
      nodes = record { kinds = lists.nodes.kinds; rising = lists.nodes.rising };
      predicates = record { kinds = lists.predicates.kinds; rising = lists.predicates.rising };
      values = record { kinds = lists.values.kinds; rising = lists.values.rising };
      additions = lists.additions.list;
      removals = lists.removals.list;
      maps = maps_sayable facts.kind facts lists.maps;
    }

-- a file of this form, which is so long
pub record IsFile (file : List ℕ) (facts : Facts) (sections : List (List ℕ)) : Type 0 where
  pub spelled : file ≡ file_of (header_of facts (length file)) sections
  pub fits : FitsHeader (header_of facts (length file))

pub is_file : (file : List ℕ) (facts : Facts) (size : ℕ) (sections : List (List ℕ)) → file ≡ file_of (header_of facts size) sections
    → size ≡ first_start (length sections) + length (flat_map padded sections) → FitsHeader (header_of facts size) → IsFile file facts sections
is_file file facts size sections is long fits =
    let e : size ≡ length file = long ∙ sym (ap length is ∙ length-file_of (header_of facts size) sections) in
    record {
      spelled = is ∙ ap (λ n. file_of (header_of facts n) sections) e;
      fits = subst (λ n. FitsHeader (header_of facts n)) e fits;
    }

pub file_begins : (file : List ℕ) (facts : Facts) (sections : List (List ℕ)) → IsFile file facts sections → KeepsHeaderRules (header_of facts 0)
    → HasHeader file (header_of facts (length file))
file_begins file facts sections is rules = record {
  says = record {
    spelled = ap (take 88) is.spelled ∙ file_head (header_of facts (length file)) sections;
    fits = is.fits;
    rules = same_rules facts (length file) rules;
  };
  long = refl;
}

pub file_says : (file : List ℕ) (facts : Facts) (sections : List (List ℕ)) → IsFile file facts sections → length sections ≡ section_count facts.kind
    → SectionsSay sections facts → KeepsRules facts → PartSays file facts
file_says file facts sections is counted say rules = record {
  kinds = record {
    nodes = rules.lists.nodes.kinds;
    predicates = rules.lists.predicates.kinds;
    values = rules.lists.values.kinds;
    parent = some_parent (header_of facts 0) rules.lists.header;
  };
  head = ap (take 88) is.spelled ∙ file_head (header_of facts (length file)) sections;
  fits = is.fits;
  sections = sections;
  lie = subst (λ n. AreSections file n sections) counted
      (subst (λ f. AreSections f (length sections) sections) (sym is.spelled) (file_sections (header_of facts (length file)) sections));
  say = say;
}

-- what is appended to an empty buffer
pub file_written : (facts : Facts) (sections : List (List ℕ)) (empty one two file content : List ℕ) (count size : ℕ) (h : Header) → empty ≡ []
    → one ≡ empty ++ header_bytes h → h ≡ header_of facts size → two ≡ one ++ rows_from 1 (88 + 24 * count) sections → file ≡ two ++ content
    → content ≡ flat_map padded sections → count ≡ length sections → size ≡ 88 + 24 * count + length content → FitsHeader h → IsFile file facts sections
file_written facts sections empty one two file content count size h none one_is header two_is file_is content_is counted long fits =
    let e : one ≡ header_bytes (header_of facts size) = one_is ∙ ap (λ l. l ++ header_bytes h) none ∙ ap header_bytes header in
    let f : two ≡ header_bytes (header_of facts size) ++ rows_from 1 (first_start (length sections)) sections =
    two_is ∙ ap₂ (λ a n. a ++ rows_from 1 (88 + 24 * n) sections) e counted in
    is_file file facts size sections (file_is ∙ ap₂ (λ a b. a ++ b) f content_is) (omega (arith, long, counted, ap length content_is)) (subst FitsHeader header fits)
