-- One call after another: the moments that they pass, and what they leave of them.
use Rattle.std.proofs.Common.{◌≡◌, Bool, false, ℕ, List, [], ◌++◌, IsTrue, refl, sym, ap, subst, ◌∙◌, append_assoc, append-nil}
use Rattle.std.proofs.lemmas.Bool.{false≢true}
use Rattle.std.proofs.lemmas.List.Elements.{All-append, All-nil, All-weaker}
use Rattle.ts_site.specs.Crash.{AddsNone}
use Rattle.ts_site.specs.Faults.{CountsFault}
use Rattle.ts_site.specs.Folder.{Extends}
use Rattle.ts_site.specs.Moments.{Moment, GoesOn}
use Rattle.ts_site.specs.Outside.{Outside, Falls, moments_of, IsSameOutput, StaysSilent, AddsNoImage, SaysOn, KeepsCrash, OnlyDisk, OnlyReads, OnlySays}
use Rattle.ts_site.proofs.CrashLemmas.{adds_none, adds_none_more}

pub goes_weaker : (P Q : Moment → Type 0) (old new : List Moment) → ((moment : Moment) → P moment → Q moment) → GoesOn P old new → GoesOn Q old new
goes_weaker P Q old new weaker (more, is, all) = (more, is, All-weaker P Q weaker more all)

pub goes_none : (P : Moment → Type 0) (moments : List Moment) → GoesOn P moments moments
goes_none P moments = ([], refl, All-nil P)

pub goes_more : (P : Moment → Type 0) (first second third : List Moment) → GoesOn P first second → GoesOn P second third → GoesOn P first third
goes_more P first second third (one, is, all) (other, then, rest) = (
  other ++ one,
  then ∙ ap (λ l. other ++ l) is ∙ sym (append_assoc other one first),
  All-append P other one rest all,
)

-- what is told after two calls was told before them
pub falls_more : (old between new : Outside) → Falls old between → Falls between new → Falls old new
falls_more old between new one other = λ honest. one (other honest)

-- nothing is said, after nothing was
silence_more : (old between new : Outside) → between.told ≡ old.told
    → GoesOn (λ moment. moment.told ≡ old.told) (moments_of old) (moments_of between) → GoesOn (λ moment. moment.told ≡ between.told) (moments_of between) (moments_of new)
    → GoesOn (λ moment. moment.told ≡ old.told) (moments_of old) (moments_of new)
silence_more old between new same one other =
    goes_more (λ moment. moment.told ≡ old.told) (moments_of old) (moments_of between) (moments_of new) one
    (goes_weaker (λ moment. moment.told ≡ between.told) (λ moment. moment.told ≡ old.told) (moments_of between) (moments_of new) (λ moment is. is ∙ same) other)

-- a call that says nothing, after one that did not
pub silent_more : (old between new : Outside) → between.told ≡ old.told → StaysSilent old between → StaysSilent between new → StaysSilent old new
silent_more old between new same one other = record {
  telling = falls_more old between new one.telling other.telling;
  moments = silence_more old between new same one.moments other.moments;
}

pub silent_none : (outside : Outside) → StaysSilent outside outside
silent_none outside = record { telling = λ honest. honest; moments = goes_none (λ moment. moment.told ≡ outside.told) (moments_of outside) }

-- a call that adds no image, after one that added none
pub adds_more : (old between new : Outside) → between.told ≡ old.told → AddsNoImage old between → AddsNoImage between new → AddsNoImage old new
adds_more old between new same one other = record {
  telling = falls_more old between new one.telling other.telling;
  now = λ told. adds_none_more old.crash between.crash new.crash (one.now (other.telling told)) (other.now told);
  silent = silence_more old between new same one.silent other.silent;
  moments = λ told.
      let before = other.telling told in
      goes_more (λ moment. AddsNone moment.crash old.crash × (moment.told ≡ old.told)) (moments_of old) (moments_of between) (moments_of new) (one.moments before)
      (goes_weaker (λ moment. AddsNone moment.crash between.crash × (moment.told ≡ between.told)) (λ moment. AddsNone moment.crash old.crash × (moment.told ≡ old.told)) (moments_of between) (moments_of new)
      (λ moment is. (adds_none_more old.crash between.crash moment.crash (one.now before) is.0, is.1 ∙ same)) (other.moments told));
}

pub adds_nothing : (outside : Outside) → AddsNoImage outside outside
adds_nothing outside = record {
  telling = λ honest. honest;
  now = λ told. adds_none outside.crash;
  silent = goes_none (λ moment. moment.told ≡ outside.told) (moments_of outside);
  moments = λ told. goes_none (λ moment. AddsNone moment.crash outside.crash × (moment.told ≡ outside.told)) (moments_of outside);
}

-- a call that says something, after one that did
extends_more : {A : Type 0} (first second third : List A) → Extends first second → Extends second third → Extends first third
extends_more first second third (one, is) (other, then) = (one ++ other, then ∙ ap (λ l. l ++ other) is ∙ append_assoc first one other)

pub says_on_more : (old between new : Outside) → SaysOn old between → SaysOn between new → SaysOn old new
says_on_more old between new one other = record {
  telling = falls_more old between new one.telling other.telling;
  now = λ told. other.now told ∙ one.now (other.telling told);
  grows = extends_more old.told between.told new.told one.grows other.grows;
  said =
      goes_more (λ moment. Extends old.told moment.told × Extends moment.told new.told) (moments_of old) (moments_of between) (moments_of new)
      (goes_weaker (λ moment. Extends old.told moment.told × Extends moment.told between.told)
      (λ moment. Extends old.told moment.told × Extends moment.told new.told) (moments_of old) (moments_of between)
      (λ moment is. (is.0, extends_more moment.told between.told new.told is.1 other.grows)) one.said)
      (goes_weaker (λ moment. Extends between.told moment.told × Extends moment.told new.told)
      (λ moment. Extends old.told moment.told × Extends moment.told new.told) (moments_of between) (moments_of new)
      (λ moment is. (extends_more old.told between.told moment.told one.grows is.0, is.1)) other.said);
  moments = λ told.
      let before = other.telling told in
      goes_more (λ moment. (moment.crash ≡ old.crash) × Extends old.told moment.told × Extends moment.told new.told) (moments_of old) (moments_of between) (moments_of new)
      (goes_weaker (λ moment. (moment.crash ≡ old.crash) × Extends old.told moment.told × Extends moment.told between.told)
      (λ moment. (moment.crash ≡ old.crash) × Extends old.told moment.told × Extends moment.told new.told) (moments_of old) (moments_of between)
      (λ moment is. (is.0, is.1, extends_more moment.told between.told new.told is.2 other.grows)) (one.moments before))
      (goes_weaker (λ moment. (moment.crash ≡ between.crash) × Extends between.told moment.told × Extends moment.told new.told)
      (λ moment. (moment.crash ≡ old.crash) × Extends old.told moment.told × Extends moment.told new.told) (moments_of between) (moments_of new)
      (λ moment is. (is.0 ∙ one.now before, extends_more old.told between.told moment.told one.grows is.1, is.2)) (other.moments told));
}

pub says_nothing : (outside : Outside) → SaysOn outside outside
says_nothing outside = record {
  telling = λ honest. honest;
  now = λ told. refl;
  grows = ([], sym (append-nil outside.told));
  said = goes_none (λ moment. Extends outside.told moment.told × Extends moment.told outside.told) (moments_of outside);
  moments = λ told. goes_none (λ moment. (moment.crash ≡ outside.crash) × Extends outside.told moment.told × Extends moment.told outside.told) (moments_of outside);
}

-- a call on the disk, after one that did not fail
counts_more : (fault : Bool) (old between new : ℕ) → between ≡ old → CountsFault fault between new → CountsFault fault old new
counts_more fault old between new same counts = subst (λ n. CountsFault fault n new) same counts

output_more : (old between new : Outside) → IsSameOutput old between → IsSameOutput between new → IsSameOutput old new
output_more old between new one other = record {
  same_told = other.same_told ∙ one.same_told;
  same_faults = other.same_faults ∙ one.same_faults;
}

pub disk_more : (fault : Bool) (old between new : Outside) → OnlyDisk false old between → OnlyDisk fault between new → OnlyDisk fault old new
disk_more fault old between new one other = record {
  telling = falls_more old between new one.telling other.telling;
  counts = counts_more fault old.disk_faults between.disk_faults new.disk_faults one.counts other.counts;
  last = other.last;
  output = output_more old between new one.output other.output;
  images = silent_more old between new one.output.same_told one.images other.images;
}

-- a call that adds no image says nothing
pub adds_silently : (old new : Outside) → AddsNoImage old new → StaysSilent old new
adds_silently old new adds = record { telling = adds.telling; moments = adds.silent }

pub disk_reads : (fault : Bool) (old between new : Outside) → OnlyDisk false old between → OnlyReads fault between new → OnlyDisk fault old new
disk_reads fault old between new one other = record {
  telling = falls_more old between new one.telling other.telling;
  counts = counts_more fault old.disk_faults between.disk_faults new.disk_faults one.counts other.counts;
  last = other.last;
  output = output_more old between new one.output other.output;
  images = silent_more old between new one.output.same_told one.images (adds_silently between new other.images);
}

-- a call that only reads, after one that did; and one that only says
pub reads_more : (fault : Bool) (old between new : Outside) → OnlyReads false old between → OnlyReads fault between new → OnlyReads fault old new
reads_more fault old between new one other = record {
  telling = falls_more old between new one.telling other.telling;
  folder = λ told. other.folder told ∙ one.folder (other.telling told);
  counts = counts_more fault old.disk_faults between.disk_faults new.disk_faults one.counts other.counts;
  last = other.last;
  output = output_more old between new one.output other.output;
  images = adds_more old between new one.output.same_told one.images other.images;
}

pub says_more : (fault : Bool) (old between new : Outside) → OnlySays false old between → OnlySays fault between new → OnlySays fault old new
says_more fault old between new one other = record {
  telling = falls_more old between new one.telling other.telling;
  counts = counts_more fault old.say_faults between.say_faults new.say_faults one.counts other.counts;
  last = other.last;
  disk = record {
    same_folder = other.disk.same_folder ∙ one.disk.same_folder;
    same_faults = other.disk.same_faults ∙ one.disk.same_faults;
  };
  images = says_on_more old between new one.images other.images;
}

pub keeps_more : (old between new : Outside) → Falls between new → KeepsCrash old between → KeepsCrash between new → KeepsCrash old new
keeps_more old between new falls one other = λ told. other told ∙ one (falls told)

-- no fault was answered
no_fault : (P : Type 0) → IsTrue false → P
no_fault P is = absurd (false≢true is)

-- no call yet
pub reads_none : (outside : Outside) → OnlyReads false outside outside
reads_none outside = record {
  telling = λ honest. honest;
  folder = λ told. refl;
  counts = refl;
  last = no_fault (IsTrue outside.failed_last);
  output = record { same_told = refl; same_faults = refl };
  images = adds_nothing outside;
}

pub says_none : (outside : Outside) → OnlySays false outside outside
says_none outside = record {
  telling = λ honest. honest;
  counts = refl;
  last = no_fault (IsTrue outside.failed_last);
  disk = record { same_folder = refl; same_faults = refl };
  images = says_nothing outside;
}
