-- The parts of a blob, and what is seen of them.
use Rattle.std.specs.Prelude.{ℕ, zero, suc, ◌+◌, ◌-◌, ◌*◌, nat_lt, nat_le, min, Bool, true, false, ◌&&◌, cond, List, [], ◌∷◌, ◌++◌, length, take, drop, Option, Some, None, is_none, bytes_eq}
use Rattle.std.specs.Int.{bytes_high_first}
use Rattle.std.specs.List.{list_all}
use Rattle.blob_id.specs.declared.blob.Blob.{Blob}
use Rattle.blob_id.specs.declared.id.BlobId.{BlobId}
use Rattle.blob_id.specs.declared.id.Kind.{Kind}
use Rattle.blob_id.specs.Id.{id_fault, kind_of}

abbrev pub same_kind : Kind → Kind → Bool
same_kind Kind.Simple Kind.Simple = true
same_kind Kind.Composite Kind.Composite = true
same_kind Kind.Chunk Kind.Chunk = true
same_kind _ _ = false

abbrev pub is_simple : BlobId → Bool
is_simple id = same_kind (kind_of id) Kind.Simple

abbrev pub is_composite : BlobId → Bool
is_composite id = same_kind (kind_of id) Kind.Composite

abbrev pub is_chunk : BlobId → Bool
is_chunk id = same_kind (kind_of id) Kind.Chunk

abbrev pub is_id : BlobId → Bool
is_id id = is_none (id_fault id)

-- what the body of a composite blob says
pub record Metadata : Type 0 where
  pub total : ℕ
  pub chunk : ℕ
  pub ids : List BlobId

abbrev pub spell_ids : List BlobId → List ℕ
spell_ids [] = []
spell_ids (id ∷ ids) = id ++ spell_ids ids

-- version 1, the bytes of the blob, the bytes of a chunk, and the chunks' number and ids
abbrev pub spell_metadata : Metadata → List ℕ
spell_metadata m = 1 ∷ bytes_high_first 8 m.total ++ bytes_high_first 4 m.chunk ++ bytes_high_first 4 (length m.ids) ++ spell_ids m.ids

-- n is the number of chunks that the bytes of the blob fill
abbrev pub is_ceiling : (n total chunk : ℕ) → Bool
is_ceiling n total chunk = nat_lt ((n - 1) * chunk) total && nat_le total (n * chunk)

-- Chunks have 64 to 4,194,304 bytes, a blob has two chunks or more and 67,108,864 bytes at most, and its chunks have ids of chunks.
abbrev pub is_metadata : Metadata → Bool
is_metadata m =
    nat_le 64 m.chunk && nat_le m.chunk 4194304 && nat_le m.total 67108864 && nat_le 2 (length m.ids) && is_ceiling (length m.ids) m.total m.chunk && list_all (λ id. is_id id && is_chunk id) m.ids

-- the number that these bytes spell, the highest first
abbrev pub number_from : ℕ → List ℕ → ℕ
number_from n [] = n
number_from n (b ∷ bytes) = number_from (256 * n + b) bytes

abbrev pub number_at : List ℕ → ℕ → ℕ → ℕ
number_at bytes from len = number_from 0 (take len (drop from bytes))

abbrev pub ids_at : ℕ → List ℕ → List BlobId
ids_at zero bytes = []
ids_at (suc n) bytes = take 20 bytes ∷ ids_at n (drop 20 bytes)

-- so many ids as fit in these bytes, if the number says more
abbrev pub only_metadata : List ℕ → Metadata
only_metadata bytes = record {
  total = number_at bytes 1 8;
  chunk = number_at bytes 9 4;
  ids = ids_at (min (number_at bytes 13 4) (length bytes)) (drop 17 bytes);
}

-- what these bytes say as metadata, if they are metadata
unfoldable pub metadata_of : List ℕ → Option Metadata
metadata_of bytes = cond (bytes_eq bytes (spell_metadata (only_metadata bytes)) && is_metadata (only_metadata bytes)) (Some (only_metadata bytes)) None

abbrev pub ids_in : Option Metadata → List BlobId
ids_in None = []
ids_in (Some m) = m.ids

-- the chunks that a composite blob lists, in order
abbrev pub listed : BlobId → Blob → List BlobId
listed id blob = cond (is_composite id) (ids_in (metadata_of blob.body)) []

-- the bytes that chunk k has: the chunk size, and the last one the rest
abbrev pub size_at : Metadata → ℕ → ℕ
size_at m k = min m.chunk (m.total - k * m.chunk)

-- a body, cut into n parts
abbrev pub parts : ℕ → ℕ → List ℕ → List (List ℕ)
parts zero chunk body = []
parts (suc n) chunk body = take chunk body ∷ parts n chunk (drop chunk body)

abbrev pub joined_parts : List (List ℕ) → List ℕ
joined_parts [] = []
joined_parts (part ∷ rest) = part ++ joined_parts rest

-- a window on bytes: where it begins, and how long it is
pub record Window : Type 0 where
  pub from : ℕ
  pub len : ℕ

abbrev pub window_of : Option (ℕ × ℕ) → ℕ → Window
window_of None total = record { from = 0; len = total }
window_of (Some r) total = record { from = r.0; len = r.1 }

abbrev pub seen : Window → List ℕ → List ℕ
seen w bytes = take w.len (drop w.from bytes)

-- the window shows something of a part of this size
abbrev pub touches : Window → ℕ → Bool
touches w size = nat_lt w.from size && nat_lt 0 w.len

-- the window behind a part of this size
abbrev pub past : Window → ℕ → Window
past w size = record { from = w.from - size; len = w.len - (size - w.from) }

-- the window shows something of chunk k
abbrev pub touches_chunk : Metadata → Window → ℕ → Bool
touches_chunk m w k = nat_lt 0 w.len && nat_lt w.from (k * m.chunk + size_at m k) && nat_lt (k * m.chunk) (w.from + w.len)
