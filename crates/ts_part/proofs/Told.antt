-- What a file's sections say where they are known to tell facts.
use Rattle.std.proofs.Common.{◌≡◌, ℕ, List, length, sym, ◌∙◌, ap, subst}
use Rattle.std.proofs.lemmas.List.{length-map}
use Rattle.ts_front.specs.Dictionary.{DictionarySays}
use Rattle.ts_model.specs.TextTerm.{TextTerm}
use Rattle.ts_part.specs.declared.header.Header.{Header}
use Rattle.ts_part.specs.declared.header.PartKind.{PartKind}
use Rattle.ts_part.specs.declared.sections.Sections.{Sections}
use Rattle.ts_part.specs.Facts.{Facts, spellings}
use Rattle.ts_part.specs.Header.{section_count}
use Rattle.ts_part.specs.Layout.{AreSections}
use Rattle.ts_part.specs.Part.{SectionsSay}
use Rattle.ts_part.specs.Sectioned.{sections_at}
use Rattle.ts_part.specs.Tells.{Tells}
use Rattle.ts_part.proofs.ReadTable.{one_layout}

pub told_kind : (s : Sections) (facts : Facts) → Tells s facts → facts.kind ≡ s.header.now.kind
told_kind s facts tells = ap (λ h. h.kind) tells.headed

pub told_sections : (s : Sections) (facts : Facts) → Tells s facts → SectionsSay (sections_at s) facts
told_sections s facts tells =
    let lie = subst (λ (k : PartKind). AreSections s.file.now (section_count k) tells.says.sections) (told_kind s facts tells) tells.says.lie in
    subst (λ (sections : List (List ℕ)). SectionsSay sections facts)
    (one_layout s.file.now (section_count s.header.now.kind) tells.says.sections (sections_at s) tells.says.fits.length lie tells.placed.lie) tells.says.say

-- the same dictionary, where its sections are the same
pub same_dictionary : (starts bytes starts' bytes' : List ℕ) (texts : List (List ℕ)) → starts ≡ starts' → bytes ≡ bytes'
    → DictionarySays starts' bytes' texts → DictionarySays starts bytes texts
same_dictionary starts bytes starts' bytes' texts e f says =
    subst (λ (l : List ℕ). DictionarySays l bytes texts) (sym e) (subst (λ (l : List ℕ). DictionarySays starts' l texts) (sym f) says)

-- how many terms the header counts
pub nodes_long : (s : Sections) (facts : Facts) → Tells s facts → length (spellings facts.nodes) ≡ s.header.now.nodes
nodes_long s facts tells = length-map facts.nodes (λ (t : TextTerm). t.spelling) ∙ ap (λ (h : Header). h.nodes) tells.headed

pub values_long : (s : Sections) (facts : Facts) → Tells s facts → length (spellings facts.values) ≡ s.header.now.values
values_long s facts tells = length-map facts.values (λ (t : TextTerm). t.spelling) ∙ ap (λ (h : Header). h.values) tells.headed

pub predicates_long : (s : Sections) (facts : Facts) → Tells s facts → length (spellings facts.predicates) ≡ s.header.now.predicates
predicates_long s facts tells = length-map facts.predicates (λ (t : TextTerm). t.spelling) ∙ ap (λ (h : Header). h.predicates) tells.headed
