-- What a delete comes to, and where calls bring it.
use Rattle.std.specs.Prelude.{List}
use Rattle.operation.specs.Calls.{Call, Plan}
use Rattle.delete_op.specs.declared.delete.DelOp.{DelOp}
use Rattle.delete_op.specs.Deletes.{delete_plan}
use Rattle.delete_op.specs.Standing.{IsDelete}

abbrev pub plan_of : DelOp → Plan
plan_of d = delete_plan (record { id = d.id; at = d.at; replicas = d.replicas; need = d.need })

abbrev pub stands_at : DelOp → List Call → Type 0
stands_at d calls = IsDelete (record { id = d.id; at = d.at; replicas = d.replicas; need = d.need }) d.piece d.next d.asked d.stage calls
