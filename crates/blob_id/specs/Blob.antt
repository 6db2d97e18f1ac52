-- Which blobs can be stored and sent: the ranges of their parts.
use Rattle.std.specs.Prelude.{◌≡◌, ◌≢◌, ℕ, ◌^◌, ◌<◌, ◌≤◌, [], ◌∷◌, length, Bool, ◌&&◌, nat_le}
use Rattle.std.specs.List.{list_all}
use Rattle.blob_id.specs.declared.blob.Blob.{Blob}

-- the bytes that a type is made of: printable ASCII without the space
abbrev pub is_type_byte : ℕ → Bool
is_type_byte b = nat_le 33 b && nat_le b 126

-- A type has at most 64 printable bytes and isn't a dash alone; metadata have at most 1,024 bytes, and a body 4,194,304.
pub record IsBlob (blob : Blob) : Type 0 where
  pub created : blob.created < 2 ^ 64
  pub type_length : length blob.ctype ≤ 64
  pub type_bytes : list_all is_type_byte blob.ctype ≡ Bool.true
  pub no_dash : blob.ctype ≢ 45 ∷ []
  pub meta_length : length blob.meta ≤ 1024
  pub body_length : length blob.body ≤ 4194304
