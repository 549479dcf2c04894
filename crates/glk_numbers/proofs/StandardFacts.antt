-- Values that the profile of Glk gives, so that a wrong number or rule does not check.
use Rattle.std.specs.Prelude.{◌≡◌, map, [], ◌∷◌}
use Rattle.std.proofs.Common.{refl}
use Rattle.glk_numbers.specs.Numbered.{number_above}
use Rattle.glk_numbers.specs.declared.numbered.TheConstants.{MAX_NUMBER}

pub the_greatest_number : MAX_NUMBER ≡ 0xFFFFFFFE
the_greatest_number = refl

-- objects are told in order, and 0 ends them
pub order : map (number_above (λ n. n) (1 ∷ 4 ∷ 9 ∷ [])) (0 ∷ 1 ∷ 5 ∷ 9 ∷ []) ≡ 1 ∷ 4 ∷ 9 ∷ 0 ∷ []
unfolding number_above
order = refl
