use Rattle.std.proofs.Common.{◌≤◌, All, map, nat_eq, refl, sym, ap, ◌∙◌, subst}
use Rattle.std.specs.List.{dedup}
use Rattle.ts_bits.specs.BitArray.{BitsSay}
use Rattle.ts_log.specs.LogArray.{LogSays}
use Rattle.ts_wavelet.specs.WaveletTree.{WaveletSays}
use Rattle.ts_plane.specs.Groups.{last_marks}
use Rattle.ts_plane.specs.Parts.{pair_edges, parts_of}
use Rattle.ts_plane.specs.Turned.{rising_of, turned, IsForward}
use Rattle.ts_plane.proofs.PlaceLemmas.{edges_forward, place_marks}
use Rattle.ts_plane.proofs.PartLemmas.{first, second, subjects_are, edge_objects_are, predicates_positive, distinct_rights}
use Rattle.ts_plane.proofs.write.write_plane.Goals as goal

pub turned_of-requires : goal.turned_of-requires
turned_of-requires c = subst IsForward (sym (c.deref.ensures.value ∙ c.in_ok-edges.ensures)) (edges_forward c.args.triples.now c.requires.rising)

pub wavelet_tree-requires : goal.wavelet_tree-requires
wavelet_tree-requires c =
    subst (All (λ x. 1 ≤ x)) (sym (c.deref-8.ensures.value ∙ c.in_ok-seconds.ensures ∙ ap (map second) (c.deref-7.ensures.value ∙ c.in_ok-pairs.ensures)))
    (predicates_positive c.args.triples.now c.requires.positive)

pub returns : goal.returns
unfolding parts_of
returns c =
    let ts = c.args.triples.now in
    let pairs = c.in_ok-pairs.ensures in
    let edges = c.in_ok-edges.ensures in
    let rows = c.in_ok-turned.ensures ∙ ap turned (c.deref.ensures.value ∙ edges) in
    let pair_subjects = c.in_ok-pair_subjects.ensures ∙ ap (map first) (c.deref-2.ensures.value ∙ pairs) in
    let edge_objects = c.in_ok-edge_objects.ensures ∙ ap (map first) (c.deref-3.ensures.value ∙ rows) in
    record {
      list = c.requires;
      say = record {
        eight = refl;
        subjects = subst (LogSays _) (c.deref-5.ensures.value ∙ c.in_ok-distinct.ensures ∙ ap (dedup nat_eq) (c.deref-4.ensures.value ∙ pair_subjects)
            ∙ subjects_are c.args.triples.now c.requires.rising) c.in_ok-log_array.ensures;
        pair_ends = subst (BitsSay _) (ap (last_marks nat_eq) (c.deref-6.ensures.value ∙ pair_subjects)) c.in_ok-ends.ensures;
        pair_predicates = subst (WaveletSays _) (c.deref-8.ensures.value ∙ c.in_ok-seconds.ensures ∙ ap (map second) (c.deref-7.ensures.value ∙ pairs)) c.in_ok-wavelet_tree.ensures;
        object_ends = subst (BitsSay _) (ap (last_marks nat_eq) (c.deref-10.ensures.value ∙ c.in_ok-firsts.ensures ∙ ap (map first) (c.deref-9.ensures.value ∙ edges))
            ∙ place_marks c.args.triples.now c.requires.rising) c.in_ok-ends-2.ensures;
        pair_objects = subst (LogSays _) (c.deref-12.ensures.value ∙ c.in_ok-seconds-2.ensures ∙ ap (map second) (c.deref-11.ensures.value ∙ edges)
            ∙ edge_objects_are c.args.triples.now) c.in_ok-log_array-2.ensures;
        objects = subst (LogSays _) (c.deref-14.ensures.value ∙ c.in_ok-distinct-2.ensures ∙ ap (dedup nat_eq) (c.deref-13.ensures.value ∙ edge_objects)
            ∙ distinct_rights (pair_edges c.args.triples.now) (edges_forward c.args.triples.now c.requires.rising)
            ∙ ap rising_of (edge_objects_are c.args.triples.now)) c.in_ok-log_array-3.ensures;
        object_pair_ends = subst (BitsSay _) (ap (last_marks nat_eq) (c.deref-15.ensures.value ∙ edge_objects)) c.in_ok-ends-3.ensures;
        object_pairs = subst (LogSays _) (c.deref-17.ensures.value ∙ c.in_ok-seconds-3.ensures ∙ ap (map second) (c.deref-16.ensures.value ∙ rows)) c.in_ok-log_array-4.ensures;
      };
    }
