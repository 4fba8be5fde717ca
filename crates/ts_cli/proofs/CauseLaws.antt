-- The causes of stops that hold of every run.
use Rattle.std.proofs.Common.{◌≡◌, ◌⊎◌, ℕ, ◌^◌, ◌<◌, Bool, IsTrue, List, length, Option, None, Some, Result, Err, inl, inr, refl, subst, arith}
use Rattle.ts_site.specs.Faults.{CountsFault, IsCalm, Rose, is_err_and}
use Rattle.ts_site.specs.Outside.{IsHonest}
use Rattle.ts_store.specs.declared.stop.Stop.{Stop}
use Rattle.ts_store.specs.declared.stop.Stop.TheVariants.{Usage, Damaged, DiskFault, InputFault, OutputFault, InputLimit, Memory}
use Rattle.ts_store.specs.FolderSays.{IsFirstDamaged}
use Rattle.ts_cli.specs.Asked.{AreNoWords, Asking, ReadInput}
use Rattle.ts_cli.specs.Causes.{HasCause, is_stop_and}
use Rattle.ts_cli.specs.Change.{Change}

pub some_is : (a b : Stop) → Some a ≡ Some b → a ≡ b
some_is a b e = cc

-- a count that doesn't rise
pub calm_rose : (old new : ℕ) → IsCalm old new → Rose old new → ⊥
calm_rose old new calm rose = omega (arith, calm.0, calm.1, rose.0, rose.1)

-- a stop is counted where its answer is
pub counts_stop : {T : Type 0} (test : Stop → Bool) (result : Result T Stop) (stop : Stop) (old new : ℕ) → result ≡ Err stop → CountsFault (is_err_and test result) old new
    → CountsFault (is_stop_and test (Some stop)) old new
counts_stop test result stop old new is counts = subst (λ (r : Result _ Stop). CountsFault (is_err_and test r) old new) is counts

-- where nothing fails, only memory is wanted
module _ (s : Change) (a : Asking) (left_after : List ℕ) (faults faults_after : ℕ) where
  pub complete : (stop : Option Stop) → HasCause s a left_after faults faults_after stop → (AreNoWords a.words → ⊥)
      → (ReadInput a.words → IsTrue a.tells × (length a.left < 2 ^ 40)) → IsHonest s.after → ((name : List ℕ) → IsFirstDamaged s.before.folder name → ⊥)
      → IsCalm s.before.disk_faults s.after.disk_faults → IsCalm s.before.say_faults s.after.say_faults → IsCalm faults faults_after
      → (stop ≡ None) ⊎ (stop ≡ Some Memory)
  complete None cause command short tells sound disk output input = inl refl
  complete (Some Memory) cause command short tells sound disk output input = inr refl
  complete (Some Usage) cause command short tells sound disk output input = absurd (command (cause.usage.0 refl))
  complete (Some (Damaged name)) cause command short tells sound disk output input = absurd (sound name ((cause.damaged tells name).0 refl))
  complete (Some DiskFault) cause command short tells sound disk output input = absurd (calm_rose s.before.disk_faults s.after.disk_faults disk cause.disk)
  complete (Some OutputFault) cause command short tells sound disk output input = absurd (calm_rose s.before.say_faults s.after.say_faults output cause.output)
  complete (Some InputFault) cause command short tells sound disk output input = absurd (calm_rose faults faults_after input cause.input)
  complete (Some InputLimit) cause command short tells sound disk output input =
      let limit = cause.limit.0 refl in
      let reads = short limit.0 in
      let long = limit.1 reads.0 in
      absurd (omega (arith, long.0, reads.1))
