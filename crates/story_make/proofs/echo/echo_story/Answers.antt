use Rattle.std.proofs.Common.{◌≡◌, ℕ, List, Ok, sym, subst, rules}
use Rattle.glulx_image.specs.Image.{image_of}
use Rattle.glulx_image.specs.Checksum.{verified}
use Rattle.story_make.specs.Echo.{echo_bytes}
use Rattle.story_make.proofs.StandardFacts.{echo_is_an_image, echo_has_its_checksum}
use Rattle.story_make.proofs.echo.echo_story.Goals as goal

pub returns-clause-value : goal.returns-clause-value
unfolding echo_bytes
returns-clause-value c = search rules

pub returns-clause-image : goal.returns-clause-image
returns-clause-image c =
    subst (λ (bytes : List ℕ). image_of bytes ≡ Ok bytes)
    (sym (returns-clause-value c)) echo_is_an_image

pub returns-clause-checksum : goal.returns-clause-checksum
returns-clause-checksum c =
    subst (λ (bytes : List ℕ). verified bytes ≡ 0)
    (sym (returns-clause-value c)) echo_has_its_checksum
