-- The blob of a record that was read.
use Rattle.std.proofs.Common.{◌≡◌, ℕ, List, Option, Some, None, IfOk, IsErrOf, refl, subst}
use Rattle.std.specs.Option.{ok_or}
use Rattle.blob_id.specs.declared.blob.Blob.{Blob}
use Rattle.blob_id.specs.Blob.{IsBlob}
use Rattle.msg_format.specs.declared.record.Record.{Record}
use Rattle.msg_format.specs.Records.{IsRecord}
use Rattle.part_log.specs.declared.fault.LogFault.{LogFault}
use Rattle.replica_core.specs.Index.{IsPutOf}

pub put_fields : (id : List ℕ) (blob : Blob) (found : Record) → IsPutOf id blob found → IsRecord found → IsBlob blob
put_fields id blob found put fields = let its = subst (λ (r : Record). IsRecord r) put.1 fields in its.content

-- what is answered is what was found
pub if_found : (found : Option Blob) (fault : LogFault) (P : Blob → Type 0) → ((blob : Blob) → found ≡ Some blob → P blob) → IfOk (ok_or found fault) P
if_found (Some blob) fault P has = has blob refl
if_found None fault P has = tt

-- where one was found there is no fault
pub not_failed : (found : Option Blob) (fault other : LogFault) (blob : Blob) → found ≡ Some blob → IsErrOf (ok_or found fault) other → ⊥
not_failed found fault other blob is failed = let none = subst (λ (o : Option Blob). IsErrOf (ok_or o fault) other) is failed in absurd (cc none)
