use Rattle.std.proofs.Common.{◌≡◌, ℕ, ◌==◌, true, None, subst, sym}
use Rattle.node_lab.specs.Nodes.{replica_at}
use Rattle.node_lab.specs.Replicas.{settings_of}
use Rattle.node_lab.specs.RunPlaces.{layouts_after, places_of}
use Rattle.world_model.specs.World.{world}
use Rattle.world_model.proofs.CellLaws.{number_true}
use Rattle.node_lab.proofs.RunLemmas.{restart_leads, stop_leads}
use Rattle.node_lab.proofs.RestartLemmas.{places_closed, places_opened}
use Rattle.node_lab.proofs.laws.restarting_leads.Goals as goal

pub returns-clause-stopped : goal.returns-clause-stopped
returns-clause-stopped g c = λ t shape folder opening first before old new node leads is closes.
    stop_leads g.B.Disk.Disk.tells g.B.Disk.Disk.content g.B.Disk.Disk.size g.B.Disk.Disk.faults g.B.Bays.home shape folder opening first before old new t leads node
    (places_closed g.B.Bays.tells g.B.Disk.Disk.tells g.B.Disk.Disk.content g.B.Disk.Disk.size g.B.Bays.home g.B.Bays.out shape folder (places_of (world opening before) (layouts_after (settings_of shape) opening first before)) old new t g.met.B.Bays.known leads.holds is (λ n. n == node) true closes)

pub returns-clause-restarted : goal.returns-clause-restarted
returns-clause-restarted g c = λ t shape folder opening first before old new node done leads stopped named none opens says.
    restart_leads g.B.Disk.Disk.tells g.B.Disk.Disk.content g.B.Disk.Disk.size g.B.Disk.Disk.faults g.B.Bays.home shape folder opening first before old new t leads node done stopped says
    (places_opened g.B.Bays.tells g.B.Disk.Disk.tells g.B.Disk.Disk.content g.B.Disk.Disk.size g.B.Bays.home g.B.Bays.out shape folder (places_of (world opening before) (layouts_after (settings_of shape) opening first before)) old new t g.met.B.Bays.known leads.holds named (λ n. n == node)
    (λ n p is. subst (λ (i : ℕ). replica_at old i p ≡ None) (sym (number_true n node is)) (none p)) opens)
