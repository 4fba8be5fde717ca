use Rattle.std.proofs.Common.{◌≡◌, Bool, true, false, Result, Ok, Err, subst, sym, ap, arith}
use Rattle.std.specs.Prelude.{IsErrAnd}
use Rattle.std.proofs.lemmas.Grind.{common_steps}
use Rattle.ts_site.specs.Faults.{is_err_and}
use Rattle.ts_replace.specs.ScanFail.{is_scan_fault}
use Rattle.ts_replace.specs.declared.scan_fail.ScanFail.{ScanFail}
use Rattle.ts_replace.specs.declared.scan_fail.ScanFail.TheVariants as scan_fail
use Rattle.ts_site.specs.Outside.{KeepsCrash, OnlyReads}
use Rattle.ts_site.proofs.GoesLemmas.{keeps_more, reads_more}
use Rattle.ts_replace.proofs.read.read_file.Goals as goal
use Rattle.ts_replace.proofs.read.read_file.Goals.{else-loop-place-test, then-loop-place-test+in_ok-count+then-count-eq0}

-- a failure of the disk is a fault
failed_is_fault : {T : Type 0} (r : Result T ScanFail) → IsErrAnd r (λ e. e ≡ scan_fail.Failed) → is_err_and is_scan_fault r ≡ true
failed_is_fault (Ok value) h = absurd h
failed_is_fault (Err error) h = ap is_scan_fault h

pub returns-in_err-count-clause-crash : goal.returns-in_err-count-clause-crash
returns-in_err-count-clause-crash g c =
    keeps_more (g.W.Disk.outside c.args.site.now) (g.W.Disk.outside c.loop-place.site) (g.W.Disk.outside c.read_at.new.self) c.in_err-count.ensures.reads.telling c.loop-place.invariant.crash c.in_err-count.ensures.crash

pub returns-in_err-count-clause-reads : goal.returns-in_err-count-clause-reads
returns-in_err-count-clause-reads g c =
    subst (λ (b : Bool). OnlyReads b (g.W.Disk.outside c.args.site.now) (g.W.Disk.outside c.read_at.new.self)) (sym (failed_is_fault c.from_residual-in_err-count.result c.from_residual-in_err-count.ensures.1))
    (reads_more true (g.W.Disk.outside c.args.site.now) (g.W.Disk.outside c.loop-place.site) (g.W.Disk.outside c.read_at.new.self) c.loop-place.invariant.reads c.in_err-count.ensures.reads)

pub loop-place-preserved : goal.loop-place-preserved
loop-place-preserved g c = record {
  within = grind (arith, common_steps);
  front = grind (arith, common_steps);
  crash = keeps_more (g.W.Disk.outside c.args.site.now) (g.W.Disk.outside c.loop-place.site) (g.W.Disk.outside c.read_at.new.self) c.in_ok-count.ensures.reads.telling c.loop-place.invariant.crash c.in_ok-count.ensures.crash;
  reads = reads_more false (g.W.Disk.outside c.args.site.now) (g.W.Disk.outside c.loop-place.site) (g.W.Disk.outside c.read_at.new.self) c.loop-place.invariant.reads c.in_ok-count.ensures.reads;
}

pub returns-clause-reads : goal.returns-clause-reads
returns-clause-reads g c = elim c.loop-place-test.branch [
  | else-loop-place-test w ↦ subst (λ site. OnlyReads false (g.W.Disk.outside c.args.site.now) (g.W.Disk.outside site)) (sym w.site-is) c.loop-place.invariant.reads
  | then-loop-place-test+in_ok-count+then-count-eq0 w ↦ subst (λ site. OnlyReads false (g.W.Disk.outside c.args.site.now) (g.W.Disk.outside site)) (sym w.site-is)
      (reads_more false (g.W.Disk.outside c.args.site.now) (g.W.Disk.outside c.loop-place.site) (g.W.Disk.outside w.read_at.new.self) c.loop-place.invariant.reads w.in_ok-count.ensures.reads)
]

pub returns-clause-crash : goal.returns-clause-crash
returns-clause-crash g c = elim c.loop-place-test.branch [
  | else-loop-place-test w ↦ subst (λ site. KeepsCrash (g.W.Disk.outside c.args.site.now) (g.W.Disk.outside site)) (sym w.site-is) c.loop-place.invariant.crash
  | then-loop-place-test+in_ok-count+then-count-eq0 w ↦ subst (λ site. KeepsCrash (g.W.Disk.outside c.args.site.now) (g.W.Disk.outside site)) (sym w.site-is)
      (keeps_more (g.W.Disk.outside c.args.site.now) (g.W.Disk.outside c.loop-place.site) (g.W.Disk.outside w.read_at.new.self) w.in_ok-count.ensures.reads.telling c.loop-place.invariant.crash w.in_ok-count.ensures.crash)
]
