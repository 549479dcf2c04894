-- A word of which the standard tells the digest.
use Rattle.std.proofs.Common.{◌≡◌, codes, refl}
use Rattle.hex.specs.Hex.{encode_with}
use Rattle.sha2.proofs.Facts256.{digest_of_abc_256}
use Rattle.story_watch.specs.Word.{watch_word}

pub word_of_abc : watch_word (codes "abc") ≡ codes "ba7816bf8f01cfea"
unfolding watch_word encode_with
word_of_abc = rw digest_of_abc_256 refl
