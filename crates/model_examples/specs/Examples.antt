-- What an example shows of a record.
use Rattle.std.specs.Prelude.{true}
use Rattle.world_model.specs.Ordered.{IsOrdered}
use Rattle.world_model.specs.Record.{Record}
use Rattle.world_model.specs.Router.{IsKept}
use Rattle.world_model.specs.Rules.{Rules}
use Rattle.world_model.specs.Safe.{DrawsNew, IsSound, Safe}
use Rattle.world_model.specs.World.{Cells, Run}

-- The record can come to pass: it meets all that the law of the model asks for, so that it is safe, and its marks stand in order.
pub record CanComeToPass (rules : Rules) (opening : Cells) (record' : Record) : Type 0 where
  pub sound : IsSound opening
  pub new : DrawsNew opening record'
  pub run : Run opening record'
  pub kept : IsKept rules record'
  pub safe : Safe rules opening record'
  pub ordered : IsOrdered rules.window true record'
