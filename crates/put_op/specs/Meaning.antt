-- What a put comes to, and where calls bring it.
use Rattle.std.specs.Prelude.{List}
use Rattle.operation.specs.Calls.{Call, Plan}
use Rattle.put_op.specs.declared.put.PutOp.{PutOp}
use Rattle.put_op.specs.Puts.{PutTask, put_plan}
use Rattle.put_op.specs.Standing.{IsPut}

abbrev pub task_of : PutOp → PutTask
task_of p = record { total = p.total; replicas = p.replicas; need = p.need; created = p.blob.created; ctype = p.blob.ctype; meta = p.blob.meta }

abbrev pub plan_of : PutOp → Plan
plan_of p = put_plan (task_of p)

abbrev pub stands_at : PutOp → List Call → Type 0
stands_at p calls = IsPut (task_of p) p.drawn p.blob.body p.next p.stage p.course calls
