-- Two texts have the same characters exactly where they have the same bytes.
use Rattle.std.proofs.Common.{◌≡◌, ℕ, Bool, true, false, List, refl, ap, sym, ◌∙◌}
use Rattle.std.specs.Str.{chars, bytes_eq, encode_utf8_all, IsUtf8}
use Rattle.std.proofs.lemmas.Slice.Eq.{bytes_eq-Decides}
use Rattle.std.proofs.lemmas.Str.{encodes-chars}

agree : (a b : Bool) → (a ≡ true → b ≡ true) → (b ≡ true → a ≡ true) → a ≡ b
agree true b forth back = sym (forth refl)
agree false true forth back = back refl
agree false false forth back = refl

pub bytes_eq-chars : (xs ys : List ℕ)
    → IsUtf8 xs → IsUtf8 ys
    → bytes_eq xs ys ≡ bytes_eq (chars xs) (chars ys)
bytes_eq-chars xs ys x y =
    let bytes = bytes_eq-Decides xs ys in
    let codes = bytes_eq-Decides (chars xs) (chars ys) in
    agree (bytes_eq xs ys) (bytes_eq (chars xs) (chars ys)) (λ e. codes.1 (ap chars (bytes.0 e)))
    (λ e. bytes.1 (sym (encodes-chars xs x) ∙ ap encode_utf8_all (codes.0 e) ∙ encodes-chars ys y))

pub bytes_eq-views : (xs ys cs ds : List ℕ)
    → IsUtf8 xs → IsUtf8 ys → chars xs ≡ cs → chars ys ≡ ds
    → bytes_eq xs ys ≡ bytes_eq cs ds
bytes_eq-views xs ys cs ds x y c d =
    bytes_eq-chars xs ys x y
    ∙ ap (λ (us : List ℕ). bytes_eq us (chars ys)) c
    ∙ ap (λ (us : List ℕ). bytes_eq cs us) d
