-- Which commands are built.
use Rattle.std.specs.Prelude.{ℕ, List, length, Bool, true, false, not, ◌&&◌, ◌==◌, is_none}
use Rattle.world_model.specs.declared.order.Order.{Order}
use Rattle.world_model.specs.declared.order.Order.TheVariants as order
use Rattle.world_model.specs.Pieces.{is_composite}
use Rattle.session_text.specs.declared.command.BlobSource.{BlobSource}
use Rattle.session_text.specs.declared.command.BlobSource.TheVariants as source
use Rattle.session_text.specs.declared.command.IdWord.{IdWord}
use Rattle.session_text.specs.declared.command.IdWord.TheVariants as id
use Rattle.session_text.specs.declared.command.Command.{Command}
use Rattle.session_text.specs.declared.command.Command.TheVariants as command

-- a put of bytes of the line, without a type and metadata
abbrev pub is_built_put : BlobSource → List ℕ → List ℕ → Bool
is_built_put (source.Line bytes) ctype meta = (length ctype == 0) && (length meta == 0)
is_built_put (source.File name) ctype meta = false

-- any id but that of a composite blob
abbrev pub is_built_id : IdWord → Bool
is_built_id (id.Id bytes) = not (is_composite bytes)
is_built_id (id.Tag tag) = true

-- a stop or a restart
abbrev pub is_built_order : Order → Bool
is_built_order (order.Stop node) = true
is_built_order (order.Restart node) = true
is_built_order (order.Pull a b partition) = false
is_built_order (order.Compact node partition) = false
is_built_order (order.Level partition a b) = false

-- puts, whole gets and deletes of blobs in one piece, waits for all, stops and restarts, and the end
abbrev pub is_built : Command → Bool
is_built command.Skip = true
is_built (command.Put tag source ctype meta) = is_built_put source ctype meta
is_built (command.Get tag id range file) = (is_built_id id && is_none range) && is_none file
is_built (command.Info tag id) = false
is_built (command.Delete tag id) = is_built_id id
is_built (command.Cancel tag) = false
is_built (command.Wait tag) = is_none tag
is_built (command.Drain node on) = false
is_built (command.Admin order) = is_built_order order
is_built command.End = true
