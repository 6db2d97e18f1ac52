use Rattle.std.proofs.Common.{◌≡◌, ◌+◌, ◌<◌, ℕ, nat_eq, arith, List, [], ◌∷◌, ◌++◌, length, length-append, Option, Some, None, refl, sym, ◌∙◌, ap, subst}
use Rattle.std.specs.List.{IsDistinct}
use Rattle.std.specs.Map.{keys_of}
use Rattle.std.specs.Prelude.{IsSome}
use Rattle.replica_core.specs.State.{ReplicaState}
use Rattle.node_lab.specs.Calls.{PortsOut}
use Rattle.node_lab.proofs.WalkHomeLemmas.{SendsRest, distinct_front, last_out, none_left, none_sent, sends_last}
use Rattle.node_lab.proofs.one_node.send_all_home.Goals as goal
use Rattle.node_lab.proofs.one_node.send_all_home.Goals.{in-Some, in_default}

no_none : (T : Type 0) → IsSome {T = T} None → ⊥
no_none T some = absurd (cc some)

pub loop-init : goal.loop-init
loop-init g c = record {
  count = omega (arith, c.len-end.ensures);
  distinct = c.requires.distinct;
  rest = λ t folder outs. none_sent g.B.Disk.Disk.tells g.B.Disk.Disk.content g.B.Disk.Disk.size c.args.stops folder c.args.node c.args.ports.items (g.B.Bays.home c.args.bays.now) (g.B.Bays.out c.args.bays.now);
  faults = refl;
  same = g.met.B.Bays.same_self c.args.bays.now;
}

-- what the last of these replicas is to the rest
module _ (g : _) (c : goal.Joined-pop g) (q : ℕ) (r : ReplicaState g.row.B-Disk.Denot) (is : c.loop.ports.items ≡ c.pop.new.self.items ++ (q, r) ∷ []) where
  apart : IsDistinct nat_eq (keys_of (c.pop.new.self.items ++ (q, r) ∷ []))
  apart = subst (λ (l : List (ℕ × ReplicaState g.row.B-Disk.Denot)). IsDistinct nat_eq (keys_of l)) is c.loop.invariant.distinct

  sends : g.B.Bays.tells → (folder : List ℕ) → PortsOut folder c.args.node c.args.ports.items (g.B.Bays.out c.args.bays.now)
      → SendsRest g.B.Disk.Disk.tells g.B.Disk.Disk.content g.B.Disk.Disk.size c.args.stops folder c.args.node c.args.ports.items (g.B.Bays.home c.args.bays.now) (g.B.Bays.out c.args.bays.now)
      (c.pop.new.self.items ++ (q, r) ∷ []) (g.B.Bays.home c.loop.bays) (g.B.Bays.out c.loop.bays)
  sends t folder outs = subst (λ (l : List (ℕ × ReplicaState g.row.B-Disk.Denot)). SendsRest g.B.Disk.Disk.tells g.B.Disk.Disk.content g.B.Disk.Disk.size c.args.stops folder c.args.node c.args.ports.items (g.B.Bays.home c.args.bays.now) (g.B.Bays.out c.args.bays.now) l (g.B.Bays.home c.loop.bays) (g.B.Bays.out c.loop.bays))
      is (c.loop.invariant.rest t folder outs)

  still_out : g.B.Bays.tells → (folder : List ℕ) → PortsOut folder c.args.node c.args.ports.items (g.B.Bays.out c.args.bays.now) → g.B.Bays.out c.loop.bays c.args.node q ≡ Some folder
  still_out t folder outs = last_out g.B.Disk.Disk.tells g.B.Disk.Disk.content g.B.Disk.Disk.size c.args.stops folder c.args.node c.args.ports.items (g.B.Bays.home c.args.bays.now) (g.B.Bays.out c.args.bays.now)
      c.pop.new.self.items q r (g.B.Bays.home c.loop.bays) (g.B.Bays.home c.loop.bays) (g.B.Bays.out c.loop.bays) (g.B.Bays.out c.loop.bays) apart (sends t folder outs) outs

pub send_home-requires : goal.send_home-requires
send_home-requires g c = record {
  out = λ t.
      let known = c.requires.out t in
      let rest = subst (λ (l : List (ℕ × ReplicaState g.row.B-Disk.Denot)). SendsRest g.B.Disk.Disk.tells g.B.Disk.Disk.content g.B.Disk.Disk.size c.args.stops known.0 c.args.node c.args.ports.items (g.B.Bays.home c.args.bays.now) (g.B.Bays.out c.args.bays.now) l (g.B.Bays.home c.loop.bays) (g.B.Bays.out c.loop.bays))
      c.in-Some.ensures.items (c.loop.invariant.rest t known.0 known.1) in
      let distinct = subst (λ (l : List (ℕ × ReplicaState g.row.B-Disk.Denot)). IsDistinct nat_eq (keys_of l)) c.in-Some.ensures.items c.loop.invariant.distinct in
      subst (λ (o : Option (List ℕ)). IsSome o) (sym (last_out g.B.Disk.Disk.tells g.B.Disk.Disk.content g.B.Disk.Disk.size c.args.stops known.0 c.args.node c.args.ports.items (g.B.Bays.home c.args.bays.now) (g.B.Bays.out c.args.bays.now)
      c.pop.new.self.items c.in-Some.partition c.in-Some.replica (g.B.Bays.home c.loop.bays) (g.B.Bays.home c.loop.bays) (g.B.Bays.out c.loop.bays) (g.B.Bays.out c.loop.bays) distinct rest known.1)) refl;
}

pub loop-preserved : goal.loop-preserved
loop-preserved g c = elim c.match-pop.branch [
  | in-Some w ↦
      let q = w.in-Some.partition in
      let r = w.in-Some.replica in
      let is : c.loop.ports.items ≡ c.pop.new.self.items ++ (q, r) ∷ [] = w.in-Some.ensures.items in
      record {
        count = (let long : length c.loop.ports.items ≡ length c.pop.new.self.items + 1 = ap (λ (l : List (ℕ × ReplicaState g.row.B-Disk.Denot)). length l) is ∙ length-append c.pop.new.self.items ((q, r) ∷ []) in omega (arith, long, c.loop.invariant.count));
        distinct = distinct_front c.pop.new.self.items q r (apart g c q r is);
        rest = λ t folder outs.
            let out = still_out g c q r is t folder outs in
            subst (λ (b : g.row.B.Denot). SendsRest g.B.Disk.Disk.tells g.B.Disk.Disk.content g.B.Disk.Disk.size c.args.stops folder c.args.node c.args.ports.items (g.B.Bays.home c.args.bays.now) (g.B.Bays.out c.args.bays.now) c.pop.new.self.items (g.B.Bays.home b) (g.B.Bays.out b)) (sym w.bays-is)
            (sends_last g.B.Disk.Disk.tells g.B.Disk.Disk.content g.B.Disk.Disk.size c.args.stops folder c.args.node c.args.ports.items (g.B.Bays.home c.args.bays.now) (g.B.Bays.out c.args.bays.now)
            c.pop.new.self.items q r (g.B.Bays.home c.loop.bays) (g.B.Bays.home w.send_home.new.bays) (g.B.Bays.out c.loop.bays) (g.B.Bays.out w.send_home.new.bays) (apart g c q r is) (sends g c q r is t folder outs)
            (w.send_home.ensures.home t folder out) (w.send_home.ensures.others t folder out));
        faults = ap g.B.Bays.faults w.bays-is ∙ w.send_home.ensures.faults ∙ c.loop.invariant.faults;
        same = subst (λ (b : g.row.B.Denot). g.B.Bays.same c.args.bays.now b) (sym w.bays-is) (g.met.B.Bays.same_on c.args.bays.now c.loop.bays w.send_home.new.bays c.loop.invariant.same w.send_home.ensures.same);
      }
  | in_default w ↦ absurd (
      let some : 0 < length c.loop.ports.items = omega (arith, c.loop.invariant.count, c.loop-test.true) in
      let popped : IsSome c.pop.result = c.pop.ensures.variant.1 (omega (arith, some, c.pop.ensures.len, c.loop.ports.ok.0)) in
      let no : IsSome {T = ℕ × ReplicaState g.row.B-Disk.Denot} None = subst (λ (o : Option (ℕ × ReplicaState g.row.B-Disk.Denot)). IsSome o) w.in_default.is popped in
      no_none (ℕ × ReplicaState g.row.B-Disk.Denot) no)
]

pub returns-clause-slots : goal.returns-clause-slots
returns-clause-slots g c = λ t folder outs p.
    (c.loop.invariant.rest t folder outs).sent p (none_left c.loop.ports.items p (omega (arith, c.loop.invariant.count, c.loop-test.false)))

pub returns-clause-others : goal.returns-clause-others
returns-clause-others g c = λ t folder outs. (c.loop.invariant.rest t folder outs).others
