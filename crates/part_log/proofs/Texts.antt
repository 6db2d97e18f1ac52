-- What the texts of records are like.
use Rattle.std.proofs.Common.{◌≡◌, ℕ, ◌≤◌, List, [], ◌++◌, length, ap, arith}
use Rattle.log_manifest.specs.declared.manifest.Manifest.{Manifest}
use Rattle.log_manifest.specs.Manifests.{IsManifest, manifest_text, manifest_size}
use Rattle.log_manifest.proofs.Whole.{manifests_apart, length-manifest_text}
use Rattle.msg_format.proofs.Spelled.{length-spelling_of}
use Rattle.msg_format.specs.declared.record.Record.{Record}
use Rattle.msg_format.specs.declared.record.Record.TheVariants.{Put, Delete}
use Rattle.msg_format.specs.Records.{spelling_of, record_size, IsRecord}

-- the size of what is written
pub size_of_text : (r : Record) → IsRecord r → length (spelling_of r) ≡ record_size r
size_of_text r good = length-spelling_of r good

pub small_size : (r : Record) → IsRecord r → record_size r ≤ 4200000
small_size (Put lsn id blob) good = omega (arith, good.content.type_length, good.content.meta_length, good.content.body_length)
small_size (Delete lsn id created) good = omega arith

-- a manifest's size is that of its bytes
pub size_of_manifest : (m : Manifest) → length (manifest_text m) ≡ manifest_size m
size_of_manifest m = length-manifest_text m

-- bytes spell one manifest
pub one_manifest : (m n : Manifest) → IsManifest m → IsManifest n → manifest_text m ≡ manifest_text n → m ≡ n
one_manifest m n good also same = (manifests_apart m n [] [] good also (ap (λ (l : List ℕ). l ++ []) same)).0
