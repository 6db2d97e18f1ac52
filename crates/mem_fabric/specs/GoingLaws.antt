-- What calls make of the bays and of the layouts adds up.
use Rattle.std.specs.Prelude.{List}
use Rattle.disk_core.specs.Content.{Content}
use Rattle.disk_core.specs.Homes.{Home, Out}
use Rattle.lab_nodes.specs.Nodes.{NodesState}
use Rattle.mem_fabric.specs.Going.{KeepsBays}
use Rattle.mem_fabric.specs.Packing.{KeepsPacking}
use Rattle.world_model.specs.declared.step.Called.{Called}

module _ {B D : Type 0} (bays_tell : Type 0) (out : B → Out) (same : B → B → Type 0) where
  pub bays_stay : (nodes : NodesState B D) → same nodes.bays nodes.bays → KeepsBays bays_tell out same nodes nodes
  bays_stay nodes e = record { same_bays = e; own = λ t before own. own }

  pub bays_on : (a b c : NodesState B D) → (same a.bays b.bays → same b.bays c.bays → same a.bays c.bays) → KeepsBays bays_tell out same a b → KeepsBays bays_tell out same b c → KeepsBays bays_tell out same a c
  bays_on a b c joins p q = record { same_bays = joins p.same_bays q.same_bays; own = λ t before own. q.own t before (p.own t before own) }

module _ {B D : Type 0} (tells : Type 0) (content : D → Content) (home : B → Home D) where
  pub packing_stays : (calls : List Called) (nodes : NodesState B D) → KeepsPacking tells content home calls nodes calls nodes
  packing_stays calls nodes = λ standing. (standing, λ shape folder opening first packs. packs)

  pub packing_on : (a : List Called) (l : NodesState B D) (b : List Called) (m : NodesState B D) (c : List Called) (n : NodesState B D) → KeepsPacking tells content home a l b m → KeepsPacking tells content home b m c n → KeepsPacking tells content home a l c n
  packing_on a l b m c n p q = λ standing.
      let earlier = p standing in
      let later = q earlier.0 in
      (later.0, λ shape folder opening first packs. later.1 shape folder opening first (earlier.1 shape folder opening first packs))
