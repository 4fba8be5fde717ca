use Rattle.ts_plane.proofs.walk_tests.reads_checked_sections.Goals as goal

pub of_checked-requires-clause-said : goal.of_checked-requires-clause-said
of_checked-requires-clause-said g c = (c.in-Ok.view, c.in-Ok.ensures.says, c.in-Ok.ensures.within)
