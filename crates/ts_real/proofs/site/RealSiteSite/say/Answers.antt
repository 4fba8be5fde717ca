use Rattle.std.proofs.Common.{List, ℕ, refl, sym, subst, ◌∙◌}
use Rattle.ts_site.specs.Outside.{SaysOn}
use Rattle.ts_real.specs.Real.{outside_by, real_outside}
use Rattle.ts_real.proofs.SayLemmas.{noted}
use Rattle.ts_real.proofs.site.RealSiteSite.say.Goals as goal

pub returns-clause-says : goal.returns-clause-says
returns-clause-says g c =
    let (count, is, appended) = c.say_noted.ensures.notes in
    let site = c.args.self.now in
    record {
      telling = λ honest. honest;
      counts = c.counted.ensures.counts;
      last = λ fault. c.counted.ensures.last ∙ fault;
      disk = record { same_folder = refl; same_faults = refl };
      images = subst (λ (pieces : List (List ℕ)). SaysOn (real_outside site) (outside_by site.disk_faults c.counted.new.faults c.counted.new.failed_last pieces)) (sym is)
          (noted site.disk_faults site.say_faults c.counted.new.faults site.failed_last c.counted.new.failed_last _ site.record.pieces);
    }
