use Rattle.std.proofs.Common.{refl, ◌∙◌, ap}
use Rattle.ts_part.specs.Read.{fields_in, parent_in}
use Rattle.ts_part.proofs.HeaderLemmas.{same_header}
use Rattle.ts_part.proofs.header.fields_of.Goals as goal

pub returns : goal.returns
unfolding fields_in
returns c =
    same_header _ _ refl c.u32_at.ensures (c.parent_of.ensures ∙ ap parent_in c.u32_at-2.ensures) c.u64_at.ensures c.u64_at-2.ensures
    c.u64_at-3.ensures c.u64_at-4.ensures c.u64_at-5.ensures c.u64_at-6.ensures c.u64_at-7.ensures c.u64_at-8.ensures
