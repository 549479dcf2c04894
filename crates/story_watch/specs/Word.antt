-- The word by which a session's spectators know it (own: docs/FORMATS.md, "Spectators").
use Rattle.std.specs.Prelude.{ℕ, List, take}
use Rattle.hex.specs.Hex.{encode_lower}
use Rattle.sha2.specs.Sha256.{sha256}

-- the word of a session with this key: the first 8 bytes of the key's digest
unfoldable pub watch_word : List ℕ → List ℕ
watch_word key = encode_lower (take 8 (sha256 key))
