use Rattle.std.proofs.Common.{◌≡◌, ◌∙◌}
use Rattle.mem_fabric.specs.Going.{KeepsBays}
use Rattle.mem_fabric.specs.GoingLaws.{bays_on}
use Rattle.mem_fabric.proofs.Playing.{played}
use Rattle.mem_fabric.proofs.laws.what_is_told_was_played.Goals as goal

pub returns : goal.returns
returns g c = λ a b d shape calls fresh first shaped second told_is.
    played (g.M.Moves.given a.moves) (g.M.Moves.given b.moves) (g.M.Moves.given d.moves) a.cluster b.cluster d.cluster b.opened shape calls (a.empty fresh) first.played shaped second.played told_is
    (g.M.Moves.seeds d.moves ≡ g.M.Moves.seeds a.moves) (KeepsBays g.B.Bays.tells g.B.Bays.out g.B.Bays.same a.nodes d.nodes) (second.begun ∙ first.begun)
    (bays_on g.B.Bays.tells g.B.Bays.out g.B.Bays.same a.nodes b.nodes d.nodes (g.met.B.Bays.same_on a.nodes.bays b.nodes.bays d.nodes.bays) first.bays second.bays)
