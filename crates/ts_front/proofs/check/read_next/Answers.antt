use Rattle.std.proofs.Common.{◌≡◌, ◌-◌, ◌%◌, ◌≤◌, ◌==◌, true, false, length, take, drop, sym, ◌∙◌, ap, subst, arith, length-take-le, length-drop}
use Rattle.ts_front.specs.Shared.{text_at}
use Rattle.ts_front.specs.Made.{made_by}
use Rattle.ts_front.specs.Pieces.{FirstBelow}
use Rattle.ts_front.proofs.EntriesLemmas.{piece_long}
use Rattle.ts_front.proofs.NextLemmas.{First, first_found, first_more, Other, other_found, other_more}
use Rattle.ts_front.proofs.BlockLemmas.{stands_read}
use Rattle.ts_front.proofs.ReadsLemmas.{candidate, body_stands, reads_last, pieces_before}
use Rattle.ts_front.proofs.check.read_next.Goals as goal
use Rattle.ts_front.proofs.check.read_next.Goals.{then-index-eq0, else-index-eq0}

pub returns-in_err-piece-clause-none : goal.returns-in_err-piece-clause-none
returns-in_err-piece-clause-none c = rw c.from_residual.ensures (λ us h is.
    let reached = c.args.reached in
    let starts = c.args.starts.now in
    let body = c.args.body.now in
    let known = candidate starts body c.args.pieces.now c.requires.reads.0 us reached.place reached.last c.args.i c.requires.reads.1.1 c.requires.reads.1.0 is (omega arith) in
    stands_read us body c.args.i reached.place (body_stands starts body us c.args.i is h) (omega arith) known.placed c.in_err-piece.ensures.none)

pub returns-then-not-fits-clause-none : goal.returns-then-not-fits-clause-none
returns-then-not-fits-clause-none c = λ us h is.
    let reached = c.args.reached in
    let i = c.args.i in
    let starts = c.args.starts.now in
    let body = c.args.body.now in
    let pieces = c.args.pieces.now in
    let piece = c.in_ok-piece.piece in
    let texts = c.requires.reads.0 in
    let many = c.requires.reads.1.0 in
    let r = c.requires.reads.1.1 in
    let eight : length pieces ≡ 8 = c.told-pieces in
    elim c.if-index-eq0.branch [
      | then-index-eq0 w ↦
          let found : First starts pieces i reached.place piece.suffix.now =
          first_found starts body pieces texts us reached.place reached.last i c.in_ok-piece.place piece.shared piece.suffix.now r many is h w.if-index-eq0.true (omega arith) c.in_ok-piece.ensures.some in
          let yes : w.begins_block-fits.result ≡ true = w.begins_block-fits.ensures.1 (found.starts_here, found.greater) in
          let both : true ≡ false = sym yes ∙ sym w.fits-is ∙ c.if-not-fits.true in
          absurd (cc)
      | else-index-eq0 w ↦
          let found : Other texts us i piece.shared piece.suffix.now =
          other_found starts body pieces texts us reached.place reached.last i c.in_ok-piece.place piece.shared piece.suffix.now r many is h w.if-index-eq0.false c.in_ok-piece.ensures.some in
          let before = pieces_before starts body pieces texts reached.place reached.last i r many w.if-index-eq0.false in
          let within : piece.shared ≤ reached.last = omega (arith, found.fits, r.last_length, ap (λ n. length (text_at texts (n - 1))) many) in
          let below : FirstBelow (drop piece.shared (made_by (take (i % 8) pieces))) piece.suffix.now =
          subst (λ t. FirstBelow (drop piece.shared t) piece.suffix.now) (sym before.1) found.below in
          let yes : w.follows-fits.result ≡ true = w.follows-fits.ensures.1 (within, below) in
          let both : true ≡ false = sym yes ∙ sym w.fits-is ∙ c.if-not-fits.true in
          absurd (cc)
    ]

pub overflow_add-result : goal.overflow_add-result
overflow_add-result c =
    let reached = c.args.reached in
    let r = c.requires.reads.1.1 in
    let many = c.requires.reads.1.0 in
    let found = c.in_ok-piece.ensures.some in
    let piece = c.in_ok-piece.piece in
    let place = reached.place in
    let next = c.in_ok-piece.place in
    let body = c.args.body.now in
    let shared : piece.shared ≤ place =
    elim c.if-index-eq0.branch [
      | then-index-eq0 w ↦ omega (arith, found.3 w.if-index-eq0.true)
      | else-index-eq0 w ↦
          let other = w.if-index-eq0.false in
          let low : reached.last ≤ place = reads_last c.args.starts.now body c.args.pieces.now c.requires.reads.0 place reached.last r (omega arith) in
          let fits = w.follows-fits.ensures.0 (sym w.fits-is ∙ c.if-not-fits.false) in
          omega (arith, fits.0)
    ] in
    let many_bytes : length (take (next - place) (drop place body)) ≡ next - place =
    length-take-le (next - place) (drop place body) (omega (arith, length-drop place body)) in
    record { fits = omega (arith, many_bytes, ap length found.2, piece_long (c.args.i % 8 == 0) piece.shared piece.suffix.now, found.0, found.1) }

pub returns-clause-some : goal.returns-clause-some
returns-clause-some c =
    let reached = c.args.reached in
    let i = c.args.i in
    let starts = c.args.starts.now in
    let body = c.args.body.now in
    let pieces = c.args.pieces.now in
    let piece = c.in_ok-piece.piece in
    let texts = c.requires.reads.0 in
    let many = c.requires.reads.1.0 in
    let r = c.requires.reads.1.1 in
    let eight : length pieces ≡ 8 = c.told-pieces in
    elim c.if-index-eq0.branch [
      | then-index-eq0 w ↦
          first_more starts body pieces texts reached.place reached.last i c.in_ok-piece.place piece r many w.if-index-eq0.true eight c.in_ok-piece.ensures.some
          (w.begins_block-fits.ensures.0 (sym w.fits-is ∙ c.if-not-fits.false))
      | else-index-eq0 w ↦
          other_more starts body pieces texts reached.place reached.last i c.in_ok-piece.place piece r many w.if-index-eq0.false eight c.in_ok-piece.ensures.some
          (w.follows-fits.ensures.0 (sym w.fits-is ∙ c.if-not-fits.false))
    ]
