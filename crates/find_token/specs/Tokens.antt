-- How tokens are spelled, and which token stands in front of bytes.
use Rattle.std.specs.Prelude.{◌≡◌, ℕ, ◌<◌, ◌^◌, List, [], ◌∷◌, ◌++◌, length, Option, Some, None, ◌==◌, if◌then◌else◌, ⊤}
use Rattle.byteorder.specs.Endian.{big_bytes}
use Rattle.field_codec.specs.Reading.{◌>>=◌, number_at}
use Rattle.find_token.specs.declared.token.FindToken.{FindToken}
use Rattle.find_token.specs.declared.token.FindToken.TheVariants.{Start, Journal}

-- a token that has a spelling: its number lies in its range
abbrev pub IsToken : FindToken → Type 0
IsToken Start = ⊤
IsToken (Journal lsn) = lsn < 2 ^ 64

-- 0 alone, or 1 and the lsn in 8 bytes
abbrev pub token_text : FindToken → List ℕ
token_text Start = 0 ∷ []
token_text (Journal lsn) = 1 ∷ big_bytes 8 lsn

-- these bytes begin with this token, which has so many of them
pub record BeginsWith (bytes : List ℕ) (token : FindToken) (size : ℕ) : Type 0 where
  pub fits : IsToken token
  pub size_is : size ≡ length (token_text token)
  pub rest : List ℕ
  pub parts : bytes ≡ token_text token ++ rest

-- the token behind its first byte, and how many bytes it has with that one
abbrev pub token_of : ℕ → List ℕ → Option (FindToken × ℕ)
token_of kind bytes =
    if kind == 0 then Some (Start, 1)
    else (if kind == 1 then (number_at 8 bytes >>= λ lsn. Some (Journal lsn.0, 9))
    else None)

-- the token in front, and how many bytes it has
unfoldable pub token_at : List ℕ → Option (FindToken × ℕ)
token_at bytes = do
  kind ← number_at 1 bytes
  token_of kind.0 kind.1
