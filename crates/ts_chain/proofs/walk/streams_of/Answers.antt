use Rattle.std.proofs.Common.{◌≡◌, get_or, ◌++◌, flat_map, take, sym, ap, ◌∙◌}
use Rattle.std.specs.declared.alloc.Global.{Global}
use Rattle.std.specs.declared.rc.Rc.{Rc}
use Rattle.ts_part.specs.declared.part.Part.{Part}
use Rattle.ts_part.specs.Loaded.{LoadedPart}
use Rattle.ts_chain.specs.Streams.{decided, left_in}
use Rattle.ts_chain.specs.Walks.{part_walked}
use Rattle.ts_chain.proofs.Decided.{decided-before}
use Rattle.ts_chain.proofs.NamedLemmas.{named-all, named-more}
use Rattle.ts_chain.proofs.walk.streams_of.Goals as goal

pub loop-part-preserved : goal.loop-part-preserved
loop-part-preserved c =
    let item = c.part-item.result in
    let had = flat_map left_in c.loop-part.streams.items in
    let is : c.deref.result.now ≡ (get_or c.args.parts.now c.loop-part.part-index item).value = c.deref.ensures ∙ ap (λ (part : Rc Part Global). part.value) c.part-item.is in
    record {
      left = c.in_ok-push_part.ensures.left
          ∙ decided-before had _ (part_walked c.args.pattern c.args.after c.deref.result.now.facts) c.loop-part.invariant.left
          ∙ ap decided (ap (λ (part : LoadedPart). flat_map (λ (one : Rc Part Global). part_walked c.args.pattern c.args.after one.value.facts) (take c.loop-part.part-index c.args.parts.now) ++ part_walked c.args.pattern c.args.after part.facts) is
          ∙ sym (named-more c.args.parts.now (λ part. part.value.facts) c.args.pattern c.args.after c.loop-part.part-index item c.loop-part-test.true));
      rise = c.in_ok-push_part.ensures.rise c.loop-part.invariant.rise;
    }

pub returns-clause-left : goal.returns-clause-left
returns-clause-left c =
    c.loop-part.invariant.left ∙ named-all c.args.parts.now (λ part. part.value.facts) c.args.pattern c.args.after c.loop-part.part-index c.loop-part-test.false
