-- The pieces that lines are made of.
use Rattle.std.specs.Prelude.{◌≡◌, ℕ, List, length, take}
use Rattle.std.specs.Fmt.{decimal}
use Rattle.hex.specs.Hex.{encode_lower}
use Rattle.session_text.specs.declared.writing.Piece.{Piece}
use Rattle.session_text.specs.declared.writing.Piece.TheVariants.{Text, Number, Sized, Id, Failed, Properties}
use Rattle.session_text.specs.Outcomes.{sized_bytes, failures_words, properties_words}

abbrev pub piece_text : Piece → List ℕ
piece_text (Text bytes) = bytes.now
piece_text (Number number) = decimal number
piece_text (Sized bytes) = sized_bytes bytes.now
piece_text (Id id) = encode_lower id
piece_text (Failed failed) = failures_words failed.now
piece_text (Properties created ctype meta) = properties_words created ctype.now meta.now

-- the new text begins with the old one
abbrev pub BeginsWith : List ℕ → List ℕ → Type 0
BeginsWith old new = take (length old) new ≡ old
