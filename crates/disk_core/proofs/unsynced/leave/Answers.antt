use Rattle.std.proofs.Common.{◌≡◌, ◌∙◌, ap, sym, subst, arith, rules, ℕ, List, IsTrue, ◌++◌, [], ◌∷◌, length}
use Rattle.std.specs.List.{list_all}
use Rattle.disk_core.specs.declared.unsynced.Overwritten.{Overwritten}
use Rattle.disk_core.specs.Unsynced.{fits, left_after}
use Rattle.disk_core.specs.UnsyncedLaws.{length-left_of}
use Rattle.disk_core.proofs.Unsynceds.{left_after-append, list_all-front}
use Rattle.disk_core.proofs.unsynced.leave.Goals as goal

pub loop-write-preserved : goal.loop-write-preserved
loop-write-preserved c =
    let write : Overwritten = c.in-Some.write in
    let before : List ℕ = c.loop-write.bytes.items in
    let rest : List Overwritten = c.pop.new.self.items in
    let split : c.loop-write.unsynced.items ≡ rest ++ write ∷ [] = grind (arith, rules) in
    let all : IsTrue (list_all (fits (length before)) rest) = list_all-front (fits (length before)) rest write (subst (λ (l : List Overwritten). IsTrue (list_all (fits (length before)) l)) split c.loop-write.invariant.fit) in
    record {
      left = ap (λ (l : List ℕ). left_after c.args.pick l rest) c.leave_one.ensures ∙ sym (left_after-append c.args.pick before rest write)
          ∙ ap (left_after c.args.pick before) (sym split) ∙ c.loop-write.invariant.left;
      fit = subst (λ (n : ℕ). IsTrue (list_all (fits n) rest)) (sym (ap (λ (l : List ℕ). length l) c.leave_one.ensures ∙ length-left_of c.args.pick before write)) all;
    }
