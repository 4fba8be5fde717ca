use Rattle.std.proofs.Common.{◌≡◌, [], ◌∷◌, ◌++◌, ◌∙◌, ap, subst, append_assoc, Some}
use Rattle.std.proofs.lemmas.List.{take_all}
use Rattle.ts_part.specs.Facts.{spellings}
use Rattle.ts_part.specs.Written.{HoldsSections}
use Rattle.ts_part.proofs.HeldLemmas.{dictionary_written}
use Rattle.ts_part.proofs.RiseLemmas.{may_push, pushed}
use Rattle.ts_part.proofs.write.write_terms.Goals as goal

pub loop-i-init : goal.loop-i-init
loop-i-init c = c.new-builder.ensures

pub push-requires : goal.push-requires
push-requires c =
    may_push c.args.terms.now c.loop-i.i c.index-terms-i.result c.loop-i.builder c.spelling.result.now c.requires c.loop-i-test.true c.index-terms-i.is c.loop-i.invariant c.spelling.ensures.spelling

pub loop-i-preserved : goal.loop-i-preserved
loop-i-preserved c =
    pushed c.args.terms.now c.loop-i.i c.index-terms-i.result c.loop-i.builder c.push.new.self c.spelling.result.now c.loop-i-test.true c.index-terms-i.is c.loop-i.invariant
    c.spelling.ensures.spelling c.in_ok-push.ensures.pushed

pub returns : goal.returns
returns c = λ sections holds.
    let texts = spellings c.args.terms.now in
    let built : c.loop-i.builder ≡ Some texts = c.loop-i.invariant ∙ ap (λ t. Some (spellings t)) (take_all c.loop-i.i c.args.terms.now c.loop-i-test.false) in
    let front = c.in_ok-write_section.ensures sections holds in
    let both = c.in_ok-write_section-2.ensures (sections ++ c.deref.result.now ∷ []) front in
    record {
      starts = c.deref.result.now;
      bytes = c.deref-2.result.now;
      says = dictionary_written texts c.loop-i.builder c.deref.result.now c.deref-2.result.now c.finish.new.starts.items c.finish.new.bytes.items
          c.new-starts.result.items c.new-bytes.result.items built c.deref.ensures.value c.deref-2.ensures.value c.new-starts.ensures.items
          c.new-bytes.ensures.items c.in_ok-finish.ensures.written c.in_ok-finish.ensures.says;
      holds = subst (HoldsSections c.write_section-2.new.body) (append_assoc sections (c.deref.result.now ∷ []) (c.deref-2.result.now ∷ [])) both;
    }
