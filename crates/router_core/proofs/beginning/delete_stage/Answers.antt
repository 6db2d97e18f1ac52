use Rattle.std.proofs.Common.{[], ◌∷◌, Option, refl, sym, subst}
use Rattle.blob_id.specs.declared.id.BlobId.{BlobId}
use Rattle.world_model.specs.declared.history.Begun.{Begun}
use Rattle.world_model.specs.declared.history.HistoryMark.TheVariants.{Begin}
use Rattle.world_model.specs.Record.{Marked}
use Rattle.router_core.specs.Beginning.{BeginsAs}
use Rattle.router_core.specs.declared.router.Stage.{Stage}
use Rattle.router_core.proofs.BeginLaws.{delete_begins, refused_begins}
use Rattle.router_core.proofs.beginning.delete_stage.Goals as goal

pub returns-in-Ok-clause-owns : goal.returns-in-Ok-clause-owns
returns-in-Ok-clause-owns c =
    let e = c.delete.ensures in
    subst (λ (id : Option BlobId). BeginsAs c.args.shape.now c.args.clock c.args.turn c.args.operation (Marked (Begin c.args.operation (Begun.Delete id)) ∷ []) (Stage.UnderWay c.delete.result)) (sym c.in-Ok.ensures.ok.0)
    (delete_begins c.args.shape.now c.args.clock c.args.turn c.args.operation c.in-Ok.id c.delete.result c.requires.number e.value.0 e.value.1 e.does)

pub returns-in-Err-clause-owns : goal.returns-in-Err-clause-owns
returns-in-Err-clause-owns c = refused_begins c.args.shape.now c.args.clock c.args.turn c.args.operation (Begun.Delete c.args.id) c.in-Err.outcome c.requires.number refl c.in-Err.ensures.err.0
