use Rattle.std.proofs.Common.{◌≡◌, [], ◌∷◌, refl, lit≤, lit<}
use Rattle.ts_vbyte.specs.Spelling.{groups_of, mark_last, spelling}
use Rattle.ts_vbyte.proofs.SpellingLemmas.{spelling_step, spelling_last}

zero_spelled : spelling 0 ≡ 0x80 ∷ []
unfolding spelling groups_of mark_last
zero_spelled = refl

one_byte : spelling 127 ≡ 0xff ∷ []
unfolding spelling groups_of mark_last
one_byte = refl

two_bytes : spelling 128 ≡ 0x00 ∷ 0x81 ∷ []
unfolding spelling groups_of mark_last
two_bytes = refl

three_hundred : spelling 300 ≡ 0x2c ∷ 0x82 ∷ []
unfolding spelling groups_of mark_last
three_hundred = refl

greatest : spelling 18446744073709551615 ≡ 0x7f ∷ 0x7f ∷ 0x7f ∷ 0x7f ∷ 0x7f ∷ 0x7f ∷ 0x7f ∷ 0x7f ∷ 0x7f ∷ 0x81 ∷ []
greatest =
    spelling_step _ _ (lit≤ tt) (spelling_step _ _ (lit≤ tt) (spelling_step _ _ (lit≤ tt)
    (spelling_step _ _ (lit≤ tt) (spelling_step _ _ (lit≤ tt) (spelling_step _ _ (lit≤ tt)
    (spelling_step _ _ (lit≤ tt) (spelling_step _ _ (lit≤ tt) (spelling_step _ _ (lit≤ tt) (spelling_last 1 (lit< tt))))))))))
