use Rattle.std.proofs.Common.{◌∙◌, ap, subst, sym}
use Rattle.lab_nodes.specs.Nodes.{HomeHolds}
use Rattle.lab_nodes.specs.Spots.{HasFailed}
use Rattle.front_end.specs.Disks.{disks_of}
use Rattle.front_end.specs.Run.{HasRun, outside_of}
use Rattle.front_end.proofs.lab.run_over.Goals as goal

pub run_cluster-status-requires-clause-holds : goal.run_cluster-status-requires-clause-holds
run_cluster-status-requires-clause-holds g c = λ opening held.
    c.new-fabric.ensures.holds c.args.shape.now c.args.folder.now opening
    (λ t. subst (λ (b : _). HomeHolds g.A.Disk.Disk.content g.A.Bays.home c.args.shape.now c.args.folder.now b opening) (ap (λ n. n.bays) c.new-fabric.ensures.nodes) (held t))

pub returns-clause-home : goal.returns-clause-home
returns-clause-home g c = λ t n p.
    ap (λ b. g.A.Bays.out b n p) c.give_back-bays.ensures.bays ∙ c.run_cluster-status.ensures.home t n p ∙ ap (λ s. g.A.Bays.out s.bays n p) c.new-fabric.ensures.nodes

pub returns-clause-failed : goal.returns-clause-failed
returns-clause-failed g c = λ five.
    subst (λ (b : _). HasFailed g.A.Disk.Disk.faults (g.A.Bays.faults b) (g.A.Bays.faults c.give_back-bays.result.0)) (ap (λ s. s.bays) c.new-fabric.ensures.nodes)
    (subst (λ (b : _). HasFailed g.A.Disk.Disk.faults (g.A.Bays.faults c.new-fabric.result.nodes.bays) (g.A.Bays.faults b)) (sym c.give_back-bays.ensures.bays) (c.run_cluster-status.ensures.failed five))

pub returns-clause-run : goal.returns-clause-run
returns-clause-run g c =
    let disks = disks_of g.A.Bays.tells g.A.Disk.Disk.tells g.A.Disk.Disk.content g.A.Disk.Disk.size g.A.Disk.Disk.faults g.A.Bays.home c.args.shape.now c.args.folder.now in
    let o = outside_of (g.S.Source.left c.args.input.now) (g.S.Source.left c.run_cluster-status.new.input) (g.K.Sink.taken c.args.output.now) (g.K.Sink.taken c.run_cluster-status.new.output) (g.U.Random.ahead c.args.random.now) (g.U.Random.ahead c.run_cluster-status.new.random) in
    let ran : HasRun c.args.shape.now (disks c.new-fabric.result.nodes.bays c.run_cluster-status.new.fabric.nodes.bays) (g.N.Moves.given c.new-fabric.result.moves) (g.N.Moves.given c.run_cluster-status.new.fabric.moves) c.run_cluster-status.result o = c.run_cluster-status.ensures.run in
    let bays = subst (λ (b : _). HasRun c.args.shape.now (disks c.new-fabric.result.nodes.bays b) (g.N.Moves.given c.new-fabric.result.moves) (g.N.Moves.given c.run_cluster-status.new.fabric.moves) c.run_cluster-status.result o) (sym c.give_back-bays.ensures.bays) ran in
    let moves = subst (λ (m : _). HasRun c.args.shape.now (disks c.new-fabric.result.nodes.bays c.give_back-bays.result.0) (g.N.Moves.given c.new-fabric.result.moves) (g.N.Moves.given m) c.run_cluster-status.result o) (sym c.give_back-bays.ensures.moves) bays in
    let first = subst (λ (b : _). HasRun c.args.shape.now (disks b c.give_back-bays.result.0) (g.N.Moves.given c.new-fabric.result.moves) (g.N.Moves.given c.give_back-bays.result.1) c.run_cluster-status.result o) (ap (λ s. s.bays) c.new-fabric.ensures.nodes) moves in
    subst (λ (m : _). HasRun c.args.shape.now (disks c.args.bays c.give_back-bays.result.0) (g.N.Moves.given m) (g.N.Moves.given c.give_back-bays.result.1) c.run_cluster-status.result o) c.new-fabric.ensures.moves first
