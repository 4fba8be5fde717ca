use Rattle.std.proofs.Common.{◌≡◌, IsTrue, sym, ◌∙◌, ap, subst}
use Rattle.ts_part.specs.Header.{FitsHeader, KeepsHeaderRules, header_bytes}
use Rattle.ts_part.specs.Read.{IsFixed, fields_in}
use Rattle.ts_part.proofs.HeaderLemmas.{fields_fit, header_spelled, header_told, one_kind, some_parent}
use Rattle.ts_part.proofs.header.read_header.Goals as goal
use Rattle.ts_part.proofs.header.read_header.Goals.{else-has_fixed_fields-via-then-has_fixed_fields+else-keeps_rules, else-has_fixed_fields-via-else-has_fixed_fields}

pub returns-in_default-clause-none : goal.returns-in_default-clause-none
returns-in_default-clause-none c = λ h says.
    let told = header_told c.args.bytes.now h says.spelled says.fits (some_parent h says.rules) in
    c.in_default.ensures.none h.kind told.kind_is

pub returns-then-keeps_rules-clause-some : goal.returns-then-keeps_rules-clause-some
returns-then-keeps_rules-clause-some c =
    let bytes = c.args.bytes.now in
    let kind = c.in-Some.kind in
    let fixed = c.has_fixed_fields.ensures.0 c.if-has_fixed_fields.true in
    let header = sym c.fields_of-header.ensures in
    record {
      spelled = header_spelled bytes kind (λ i. (c.type_inv.bytes i).fits) c.requires c.in-Some.ensures.some fixed ∙ ap header_bytes header;
      fits = subst FitsHeader header (fields_fit bytes kind (λ i. (c.type_inv.bytes i).fits) c.requires);
      rules = c.keeps_rules.ensures.0 c.if-keeps_rules.true;
    }

pub returns-then-keeps_rules-clause-only : goal.returns-then-keeps_rules-clause-only
returns-then-keeps_rules-clause-only c = λ other says.
    let bytes = c.args.bytes.now in
    let told = header_told bytes other says.spelled says.fits (some_parent other says.rules) in
    let same : other.kind ≡ c.in-Some.kind = one_kind other.kind c.in-Some.kind (sym told.kind_is ∙ c.in-Some.ensures.some) in
    told.fields ∙ ap (λ k. fields_in k bytes) same ∙ sym c.fields_of-header.ensures

pub returns-else-has_fixed_fields-clause-none : goal.returns-else-has_fixed_fields-clause-none
returns-else-has_fixed_fields-clause-none c = λ h says.
    let bytes = c.args.bytes.now in
    let told = header_told bytes h says.spelled says.fits (some_parent h says.rules) in
    let same : h.kind ≡ c.in-Some.kind = one_kind h.kind c.in-Some.kind (sym told.kind_is ∙ c.in-Some.ensures.some) in
    let header : h ≡ c.fields_of-header.result = told.fields ∙ ap (λ k. fields_in k bytes) same ∙ sym c.fields_of-header.ensures in
    elim c.else-has_fixed_fields.branch [
      | else-has_fixed_fields-via-then-has_fixed_fields+else-keeps_rules w ↦
          (let found : IsTrue w.keeps_rules.result = w.keeps_rules.ensures.1 (subst KeepsHeaderRules header says.rules) in cc)
      | else-has_fixed_fields-via-else-has_fixed_fields w ↦
          (let found : IsTrue c.has_fixed_fields.result = c.has_fixed_fields.ensures.1 (subst (IsFixed bytes) same told.fixed) in cc)
    ]
