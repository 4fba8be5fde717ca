-- What a file that is gone over says, and why it is refused.
use Rattle.std.proofs.Common.{◌≡◌, ℕ, List, length, refl, sym, ◌∙◌, ap, subst}
use Rattle.ts_part.specs.declared.damage.Damage.TheVariants as faults
use Rattle.ts_part.specs.declared.damage.LoadError.{LoadError}
use Rattle.ts_part.specs.declared.damage.LoadError.TheVariants as errors
use Rattle.ts_part.specs.declared.header.Header.{Header}
use Rattle.ts_part.specs.declared.header.PartKind.{PartKind}
use Rattle.ts_part.specs.Damage.{IsFactsFault, IsSectionFault}
use Rattle.ts_part.specs.Facts.{Facts}
use Rattle.ts_part.specs.Faults.{IsLoadError, IsSectionsError}
use Rattle.ts_part.specs.Header.{FitsHeader, HasHeader, KeepsHeaderRules, header_bytes, header_of, section_count}
use Rattle.ts_part.specs.Kept.{Keeps}
use Rattle.ts_part.specs.Layout.{AreSections}
use Rattle.ts_part.specs.Part.{LocalForm, PartSays, SectionsSay}
use Rattle.ts_part.specs.Read.{facts_in}
use Rattle.ts_part.specs.Rules.{KeepsFactRules, KeepsRules}
use Rattle.ts_part.specs.Tells.{IsFileOf}
use Rattle.ts_part.proofs.FactsRead.{facts_read, one_facts}
use Rattle.ts_part.proofs.KeptFacts.{rules_of_any}
use Rattle.ts_part.proofs.LocalKeeps.{local_keeps, reading_of}
use Rattle.ts_part.proofs.ReadTable.{one_layout}

-- a file whose facts keep all rules
pub keeps_of : (file : List ℕ) (places : List (ℕ × ℕ)) (h : Header) (facts : Facts) → IsFileOf file places h facts → KeepsFactRules facts → Keeps file places h
keeps_of file places h facts tells together =
    let same : facts_in file ≡ facts = facts_read file facts tells.says in
    record {
      is = record {
        says = subst (PartSays file) (sym same) tells.says;
        rules = subst KeepsRules (sym same) (record { lists = tells.lists; together = together });
      };
      headed = ap (λ (f : Facts). header_of f (length file)) same ∙ tells.headed;
      placed = tells.placed;
    }

pub tells_kept : (file : List ℕ) (places : List (ℕ × ℕ)) (h : Header) → Keeps file places h → IsFileOf file places h (facts_in file)
tells_kept file places h keeps = record {
  says = keeps.is.says;
  headed = keeps.headed;
  placed = keeps.placed;
  lists = keeps.is.rules.lists;
}

-- what the sections keep together is at fault
pub facts_fault : (file : List ℕ) (places : List (ℕ × ℕ)) (h : Header) (facts : Facts) → IsFileOf file places h facts → (KeepsFactRules facts → ⊥) → IsFactsFault file h
facts_fault file places h facts tells fault = record { facts = facts; says = tells.says; headed = tells.headed; lists = tells.lists; fault = fault }

-- a fault of the sections is one of the file
pub sections_error : (file : List ℕ) (h : Header) (sections : List (List ℕ)) (error : LoadError) → HasHeader file h → AreSections file (section_count h.kind) sections
    → IsSectionsError h sections error → IsLoadError file h error
sections_error file h sections errors.Memory headed lie fault = record { headed = headed; sections = sections; lie = lie; needs = fault }
sections_error file h sections (errors.Damage faults.Header) headed lie fault = absurd fault
sections_error file h sections (errors.Damage faults.Table) headed lie fault = absurd fault
sections_error file h sections (errors.Damage (faults.Section kind)) headed lie fault = record { headed = headed; sections = sections; lie = lie; first = fault }
sections_error file h sections (errors.Damage faults.Facts) headed lie fault = absurd fault

-- a file of the form has its header
local_header : (file : List ℕ) (h : Header) → LocalForm file h → HasHeader file h
local_header file h form = record {
  says = record {
    spelled = form.says.head ∙ ap header_bytes form.headed;
    fits = subst FitsHeader form.headed form.says.fits;
    rules = subst KeepsHeaderRules form.headed (rules_of_any (header_of form.facts 0) (length file) form.rules.lists.header);
  };
  long = sym (ap (λ (x : Header). x.length) form.headed);
}

local_sections : (file : List ℕ) (h : Header) (form : LocalForm file h) → AreSections file (section_count h.kind) form.says.sections
local_sections file h form =
    subst (λ (k : PartKind). AreSections file (section_count k) form.says.sections) (ap (λ (x : Header). x.kind) form.headed) form.says.lie

no_section_fault : (file : List ℕ) (h : Header) (kind : ℕ) → LocalForm file h → IsSectionFault file h kind → ⊥
no_section_fault file h kind form fault =
    let same = one_layout file (section_count h.kind) form.says.sections fault.sections form.says.fits.length (local_sections file h form) fault.lie in
    fault.first.fault (reading_of form.facts)
    (local_keeps form.facts (length file) h fault.sections kind form.headed
    (subst (λ (l : List (List ℕ)). SectionsSay l form.facts) same form.says.say) form.rules.lists fault.first.there)

no_facts_fault : (file : List ℕ) (h : Header) → LocalForm file h → IsFactsFault file h → ⊥
no_facts_fault file h form fault =
    fault.fault (subst KeepsFactRules (one_facts file form.facts fault.facts form.says fault.says) form.rules.together)

-- so it is refused for want of memory alone
pub local_whole : (file : List ℕ) (h : Header) (error : LoadError) → LocalForm file h → IsLoadError file h error → error ≡ errors.Memory
local_whole file h errors.Memory form fault = refl
local_whole file h (errors.Damage faults.Header) form fault = absurd (fault (local_header file h form))
local_whole file h (errors.Damage faults.Table) form fault = absurd (fault.fault form.says.sections (local_sections file h form))
local_whole file h (errors.Damage (faults.Section kind)) form fault = absurd (no_section_fault file h kind form fault)
local_whole file h (errors.Damage faults.Facts) form fault = absurd (no_facts_fault file h form fault)
