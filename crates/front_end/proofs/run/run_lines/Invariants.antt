use Rattle.std.proofs.Common.{◌≡◌, ◌≤◌, ◌+◌, length, true}
use Rattle.world_model.specs.Advancing.{Advances}
use Rattle.front_end.specs.Lines.{budget}
use Rattle.front_end.specs.Running.{IsRunning}
use Rattle.front_end.specs.Session.{IsReady, ties_of}
use Rattle.front_end.proofs.run.run_lines.Given as goal

abbrev pub invariant-lines : goal.invariant-lines
invariant-lines g l =
    record {
      running : IsRunning l.fn.session.router.shape (g.S.Source.left l.fn.input) (g.S.Source.left l.input) (g.K.Sink.taken l.fn.output) (g.K.Sink.taken l.output) l.reader.waiting l.reader.total l.session (ties_of l.session.router (g.F.Fabric.told l.fabric)) (g.U.Random.ahead l.fn.random) (g.U.Random.ahead l.random);
      shape : l.session.router.shape ≡ l.fn.session.router.shape;
      net : Advances g.F.Fabric.faults g.F.Fabric.opened g.F.Fabric.runs g.F.Fabric.advances l.fn.fabric l.fabric true;
      turns : l.session.lines + budget l.reader.total l.reader.waiting ≤ 67108865;
      limit : l.reader.total ≤ 67108864;
      tags : length l.session.tags ≤ l.session.lines;
      ready : IsReady l.session;
      source : g.S.Source.faults l.fn.input ≤ g.S.Source.faults l.input;
      sink : g.K.Sink.faults l.fn.output ≤ g.K.Sink.faults l.output;
    }

abbrev pub decreases-lines : goal.decreases-lines
decreases-lines g l = budget l.reader.total l.reader.waiting
