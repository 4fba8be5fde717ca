use Rattle.std.proofs.Common.{List, ℕ, map, string_bytes, sym, subst}
use Rattle.ts_cli.specs.Asked.{AreRun, asking}
use Rattle.ts_cli.specs.Change.{change_of}
use Rattle.ts_cli.specs.Ends.{Ends}
use Rattle.ts_cli.specs.Causes.{HasCause}
use Rattle.ts_cli.proofs.CauseLaws.{complete}
use Rattle.ts_cli.proofs.HeadlineLaws.{headline_folder, headline_replies}
use Rattle.ts_cli.proofs.CrashLaws.{headline_crash}
use Rattle.ts_cli.proofs.running.run.Goals as goal

pub returns-then-are_run-clause-ends : goal.returns-then-are_run-clause-ends
returns-then-are_run-clause-ends g c = λ told.
    let run : AreRun (map string_bytes c.args.words.now) = rw c.if-are_run.true at c.are_run.ensures in
    subst (λ (words : List (List ℕ)). Ends (change_of (g.W.Disk.outside c.args.site.now) (g.W.Disk.outside c.run_script.new.site))
    (asking words (g.S.Source.tells c.run_script.new.input) (g.S.Source.left c.args.input.now)) (g.S.Source.left c.run_script.new.input) c.run_script.result) (sym run) (c.run_script.ensures.ends told)

pub returns-then-are_run-clause-replies : goal.returns-then-are_run-clause-replies
returns-then-are_run-clause-replies g c = λ state commands fresh told stands tells are.
    let run : AreRun (map string_bytes c.args.words.now) = rw c.if-are_run.true at c.are_run.ensures in
    let s = change_of (g.W.Disk.outside c.args.site.now) (g.W.Disk.outside c.run_script.new.site) in
    let a = asking (map string_bytes c.args.words.now) (g.S.Source.tells c.run_script.new.input) (g.S.Source.left c.args.input.now) in
    let ends : Ends s a (g.S.Source.left c.run_script.new.input) c.run_script.result = subst (λ (words : List (List ℕ)). Ends s (asking words (g.S.Source.tells c.run_script.new.input) (g.S.Source.left c.args.input.now)) (g.S.Source.left c.run_script.new.input) c.run_script.result) (sym run) (c.run_script.ensures.ends told) in
    headline_replies s a tells state fresh stands commands are (g.S.Source.left c.run_script.new.input) c.run_script.result ends

pub returns-then-are_run-clause-folder : goal.returns-then-are_run-clause-folder
returns-then-are_run-clause-folder g c = λ state commands fresh told stands tells are.
    let run : AreRun (map string_bytes c.args.words.now) = rw c.if-are_run.true at c.are_run.ensures in
    let s = change_of (g.W.Disk.outside c.args.site.now) (g.W.Disk.outside c.run_script.new.site) in
    let a = asking (map string_bytes c.args.words.now) (g.S.Source.tells c.run_script.new.input) (g.S.Source.left c.args.input.now) in
    let ends : Ends s a (g.S.Source.left c.run_script.new.input) c.run_script.result = subst (λ (words : List (List ℕ)). Ends s (asking words (g.S.Source.tells c.run_script.new.input) (g.S.Source.left c.args.input.now)) (g.S.Source.left c.run_script.new.input) c.run_script.result) (sym run) (c.run_script.ensures.ends told) in
    headline_folder s a tells state fresh stands commands are (g.S.Source.left c.run_script.new.input) c.run_script.result ends

pub returns-then-are_run-clause-complete : goal.returns-then-are_run-clause-complete
returns-then-are_run-clause-complete g c = λ command short tells sound disk output input.
    let run : AreRun (map string_bytes c.args.words.now) = rw c.if-are_run.true at c.are_run.ensures in
    let s = change_of (g.W.Disk.outside c.args.site.now) (g.W.Disk.outside c.run_script.new.site) in
    let a = asking (map string_bytes c.args.words.now) (g.S.Source.tells c.run_script.new.input) (g.S.Source.left c.args.input.now) in
    let cause : HasCause s a (g.S.Source.left c.run_script.new.input) (g.S.Source.faults c.args.input.now) (g.S.Source.faults c.run_script.new.input) c.run_script.result.stop =
    subst (λ (words : List (List ℕ)). HasCause s (asking words (g.S.Source.tells c.run_script.new.input) (g.S.Source.left c.args.input.now)) (g.S.Source.left c.run_script.new.input)
    (g.S.Source.faults c.args.input.now) (g.S.Source.faults c.run_script.new.input) c.run_script.result.stop) (sym run) c.run_script.ensures.causes in
    complete s a _ _ _ c.run_script.result.stop cause command short tells sound disk output input

pub returns-clause-replies : goal.returns-clause-replies
returns-clause-replies g c = λ state commands fresh told stands tells are.
    let s = change_of (g.W.Disk.outside c.args.site.now) (g.W.Disk.outside c.run_command.new.site) in
    let a = asking (map string_bytes c.args.words.now) (g.S.Source.tells c.run_command.new.input) (g.S.Source.left c.args.input.now) in
    headline_replies s a tells state fresh stands commands are (g.S.Source.left c.run_command.new.input) c.run_command.result (c.run_command.ensures.ends told)

pub returns-clause-folder : goal.returns-clause-folder
returns-clause-folder g c = λ state commands fresh told stands tells are.
    let s = change_of (g.W.Disk.outside c.args.site.now) (g.W.Disk.outside c.run_command.new.site) in
    let a = asking (map string_bytes c.args.words.now) (g.S.Source.tells c.run_command.new.input) (g.S.Source.left c.args.input.now) in
    headline_folder s a tells state fresh stands commands are (g.S.Source.left c.run_command.new.input) c.run_command.result (c.run_command.ensures.ends told)

pub returns-clause-complete : goal.returns-clause-complete
returns-clause-complete g c = λ command short tells sound disk output input.
    let s = change_of (g.W.Disk.outside c.args.site.now) (g.W.Disk.outside c.run_command.new.site) in
    let a = asking (map string_bytes c.args.words.now) (g.S.Source.tells c.run_command.new.input) (g.S.Source.left c.args.input.now) in
    complete s a _ _ _ c.run_command.result.stop c.run_command.ensures.causes command short tells sound disk output input

pub returns-then-are_run-clause-crash : goal.returns-then-are_run-clause-crash
returns-then-are_run-clause-crash g c = λ state commands fresh honest stands tells are.
    let run : AreRun (map string_bytes c.args.words.now) = rw c.if-are_run.true at c.are_run.ensures in
    let s = change_of (g.W.Disk.outside c.args.site.now) (g.W.Disk.outside c.run_script.new.site) in
    let a = asking (map string_bytes c.args.words.now) (g.S.Source.tells c.run_script.new.input) (g.S.Source.left c.args.input.now) in
    let ends : Ends s a (g.S.Source.left c.run_script.new.input) c.run_script.result =
    subst (λ (words : List (List ℕ)). Ends s (asking words (g.S.Source.tells c.run_script.new.input) (g.S.Source.left c.args.input.now)) (g.S.Source.left c.run_script.new.input) c.run_script.result) (sym run) (c.run_script.ensures.ends honest) in
    headline_crash s honest a tells state fresh stands commands are (g.S.Source.left c.run_script.new.input) c.run_script.result ends

pub returns-clause-crash : goal.returns-clause-crash
returns-clause-crash g c = λ state commands fresh honest stands tells are.
    let s = change_of (g.W.Disk.outside c.args.site.now) (g.W.Disk.outside c.run_command.new.site) in
    let a = asking (map string_bytes c.args.words.now) (g.S.Source.tells c.run_command.new.input) (g.S.Source.left c.args.input.now) in
    headline_crash s honest a tells state fresh stands commands are (g.S.Source.left c.run_command.new.input) c.run_command.result (c.run_command.ensures.ends honest)
