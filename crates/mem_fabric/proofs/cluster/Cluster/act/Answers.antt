use Rattle.std.proofs.Common.{◌≡◌, false, None, refl, ap, sym, ◌∙◌, subst, inl, inr}
use Rattle.cell_model.specs.declared.ask.Reply.{Reply}
use Rattle.mem_fabric.specs.Network.{Makes, Does, place_among, runs, moved, ticked, cut, restarts}
use Rattle.mem_fabric.specs.Sound.{network_of}
use Rattle.mem_fabric.proofs.Goes.{goes_by}
use Rattle.mem_fabric.proofs.Making.{drop_makes, drop_reply_makes, hand_does, hand_again_does, stop_does, makes}
use Rattle.mem_fabric.proofs.cluster.Cluster.act.Goals as goal

pub returns-in-Drop-clause-does : goal.returns-in-Drop-clause-does
returns-in-Drop-clause-does g c = subst (λ m. Makes (network_of c.args.self.now) m c.drop_at.result (network_of c.drop_at.new.self)) (sym c.in-Drop.is)
    (drop_makes c.args.self.now c.drop_at.new.self c.place_among-in-Drop.result c.in-Drop.k c.drop_at.result (c.place_among-in-Drop.ensures.place ∙ ap (λ l. place_among c.in-Drop.k l) c.requests-requests.ensures) c.drop_at.ensures.made c.drop_at.ensures.network)

pub returns-in-DropReply-clause-does : goal.returns-in-DropReply-clause-does
returns-in-DropReply-clause-does g c = subst (λ m. Makes (network_of c.args.self.now) m c.drop_reply_at.result (network_of c.drop_reply_at.new.self)) (sym c.in-DropReply.is)
    (drop_reply_makes c.args.self.now c.drop_reply_at.new.self c.place_among-in-DropReply.result c.in-DropReply.k c.drop_reply_at.result (c.place_among-in-DropReply.ensures.place ∙ ap (λ l. place_among c.in-DropReply.k l) c.replies-replies.ensures) c.drop_reply_at.ensures.made c.drop_reply_at.ensures.network)

pub returns-in-Hand-clause-does : goal.returns-in-Hand-clause-does
returns-in-Hand-clause-does g c = subst (λ m. Does (network_of c.args.self.now) m (network_of c.hand_at.new.self) c.hand_at.result) (sym c.in-Hand.is)
    (hand_does c.args.self.now c.hand_at.new.self c.place_among-in-Hand.result c.in-Hand.k c.hand_at.result (c.place_among-in-Hand.ensures.place ∙ ap (λ l. place_among c.in-Hand.k l) c.replies-replies.ensures) c.hand_at.ensures.made c.hand_at.ensures.network c.hand_at.ensures.err)

pub returns-in-HandAgain-clause-does : goal.returns-in-HandAgain-clause-does
returns-in-HandAgain-clause-does g c = subst (λ m. Does (network_of c.args.self.now) m (network_of c.hand_at-in-HandAgain.new.self) c.hand_at-in-HandAgain.result) (sym c.in-HandAgain.is)
    (hand_again_does c.args.self.now c.hand_at-in-HandAgain.new.self c.place_among-in-HandAgain.result c.in-HandAgain.k c.hand_at-in-HandAgain.result (c.place_among-in-HandAgain.ensures.place ∙ ap (λ l. place_among c.in-HandAgain.k l) c.replies-replies.ensures) c.hand_at-in-HandAgain.ensures.made c.hand_at-in-HandAgain.ensures.network c.hand_at-in-HandAgain.ensures.err)

pub returns-in-Tick-clause-does : goal.returns-in-Tick-clause-does
returns-in-Tick-clause-does g c = makes c.args.self.now c.tick.new.self false c.args.chosen (ticked (network_of c.args.self.now) c.in-Tick.ms) c.tick.result
    (rw c.in-Tick.is refl) (rw c.in-Tick.is refl) c.tick.ensures.made c.tick.ensures.network

pub returns-in-Cut-clause-does : goal.returns-in-Cut-clause-does
returns-in-Cut-clause-does g c = makes c.args.self.now c.cut_at.new.self false c.args.chosen (cut (network_of c.args.self.now) c.in-Cut.node) c.cut_at.result
    (rw c.in-Cut.is refl) (rw c.in-Cut.is refl) c.cut_at.ensures.made c.cut_at.ensures.network

pub returns-in-Stop-clause-does : goal.returns-in-Stop-clause-does
returns-in-Stop-clause-does g c = subst (λ m. Does (network_of c.args.self.now) m (network_of c.stop_at.new.self) c.stop_at.result) (sym c.in-Stop.is)
    (stop_does c.args.self.now c.stop_at.new.self c.in-Stop.node c.stop_at.result c.stop_at.ensures.made c.stop_at.ensures.network c.stop_at.ensures.err)

pub returns-in-Restart-clause-does : goal.returns-in-Restart-clause-does
returns-in-Restart-clause-does g c =
    let made = c.restart_at.ensures.made in
    makes c.args.self.now c.restart_at.new.self made.0 c.args.chosen (restarts (network_of c.args.self.now) c.in-Restart.node made.0) c.restart_at.result
    (rw c.in-Restart.is refl) (rw c.in-Restart.is refl) made.1 made.2

pub returns-in-Pull-clause-does : goal.returns-in-Pull-clause-does
returns-in-Pull-clause-does g c =
    let n = network_of c.args.self.now in
    let both : (runs n c.args.chosen ≡ None) × (moved n Reply.Memory false c.args.chosen ≡ ticked n 0) = elim c.in-Pull.is [
      | inl pull ↦ (rw pull.3 refl, rw pull.3 refl)
      | inr compact ↦ (rw compact.2 refl, rw compact.2 refl)
    ] in
    makes c.args.self.now c.tick-in-Pull.new.self false c.args.chosen (ticked n 0) c.tick-in-Pull.result both.0 both.1 c.tick-in-Pull.ensures.made c.tick-in-Pull.ensures.network

pub returns-in-Drop-clause-goes : goal.returns-in-Drop-clause-goes
returns-in-Drop-clause-goes g c = goes_by g.B.Bays.tells g.B.Disk.Disk.tells g.B.Disk.Disk.content g.B.Disk.Disk.faults g.B.Bays.home g.B.Bays.out g.B.Bays.same c.args.self.now c.drop_at.new.self c.args.nodes.now (g.met.B.Bays.same_self c.args.nodes.now.bays) c.drop_at.ensures.run c.drop_at.ensures.nodes c.requires.of

pub returns-in-Hand-clause-goes : goal.returns-in-Hand-clause-goes
returns-in-Hand-clause-goes g c = goes_by g.B.Bays.tells g.B.Disk.Disk.tells g.B.Disk.Disk.content g.B.Disk.Disk.faults g.B.Bays.home g.B.Bays.out g.B.Bays.same c.args.self.now c.hand_at.new.self c.args.nodes.now (g.met.B.Bays.same_self c.args.nodes.now.bays) c.hand_at.ensures.run c.hand_at.ensures.nodes c.requires.of

pub returns-in-HandAgain-clause-goes : goal.returns-in-HandAgain-clause-goes
returns-in-HandAgain-clause-goes g c = goes_by g.B.Bays.tells g.B.Disk.Disk.tells g.B.Disk.Disk.content g.B.Disk.Disk.faults g.B.Bays.home g.B.Bays.out g.B.Bays.same c.args.self.now c.hand_at-in-HandAgain.new.self c.args.nodes.now (g.met.B.Bays.same_self c.args.nodes.now.bays) c.hand_at-in-HandAgain.ensures.run c.hand_at-in-HandAgain.ensures.nodes c.requires.of

pub returns-in-DropReply-clause-goes : goal.returns-in-DropReply-clause-goes
returns-in-DropReply-clause-goes g c = goes_by g.B.Bays.tells g.B.Disk.Disk.tells g.B.Disk.Disk.content g.B.Disk.Disk.faults g.B.Bays.home g.B.Bays.out g.B.Bays.same c.args.self.now c.drop_reply_at.new.self c.args.nodes.now (g.met.B.Bays.same_self c.args.nodes.now.bays) c.drop_reply_at.ensures.run c.drop_reply_at.ensures.nodes c.requires.of

pub returns-in-Tick-clause-goes : goal.returns-in-Tick-clause-goes
returns-in-Tick-clause-goes g c = goes_by g.B.Bays.tells g.B.Disk.Disk.tells g.B.Disk.Disk.content g.B.Disk.Disk.faults g.B.Bays.home g.B.Bays.out g.B.Bays.same c.args.self.now c.tick.new.self c.args.nodes.now (g.met.B.Bays.same_self c.args.nodes.now.bays) c.tick.ensures.run c.tick.ensures.nodes c.requires.of

pub returns-in-Cut-clause-goes : goal.returns-in-Cut-clause-goes
returns-in-Cut-clause-goes g c = goes_by g.B.Bays.tells g.B.Disk.Disk.tells g.B.Disk.Disk.content g.B.Disk.Disk.faults g.B.Bays.home g.B.Bays.out g.B.Bays.same c.args.self.now c.cut_at.new.self c.args.nodes.now (g.met.B.Bays.same_self c.args.nodes.now.bays) c.cut_at.ensures.run c.cut_at.ensures.nodes c.requires.of

pub returns-in-Pull-clause-goes : goal.returns-in-Pull-clause-goes
returns-in-Pull-clause-goes g c = goes_by g.B.Bays.tells g.B.Disk.Disk.tells g.B.Disk.Disk.content g.B.Disk.Disk.faults g.B.Bays.home g.B.Bays.out g.B.Bays.same c.args.self.now c.tick-in-Pull.new.self c.args.nodes.now (g.met.B.Bays.same_self c.args.nodes.now.bays) c.tick-in-Pull.ensures.run c.tick-in-Pull.ensures.nodes c.requires.of
