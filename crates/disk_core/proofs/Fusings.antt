-- What bays with a fuse tell, by what the bays below tell.
use Rattle.std.proofs.Common.{◌≡◌, ◌⊎◌, inl, inr, ⊎_elim, ℕ, Bool, true, false, List, Option, Some, None, Result, Ok, Err, refl, sym, ◌∙◌, ap, subst}
use Rattle.std.specs.Result.{IsErrOf}
use Rattle.std.proofs.lemmas.Bool.{true≢false}
use Rattle.disk_core.specs.declared.mem_disk.MemDisk.{MemDisk}
use Rattle.disk_core.specs.declared.fuse_disk.FuseDisk.{FuseDisk}
use Rattle.disk_core.specs.declared.fuse_disk.Fuse.TheVariants.{Absent}
use Rattle.disk_core.specs.declared.bays.BayFault.{BayFault}
use Rattle.disk_core.specs.declared.unsynced.Pick.{Pick}
use Rattle.disk_core.specs.declared.bays.BayFault.TheVariants.{Failed, OtherSize, Memory}
use Rattle.disk_core.specs.Content.{IsNewContent}
use Rattle.disk_core.specs.MemDisk.{content_of, size_of, pick_of}
use Rattle.disk_core.specs.declared.fuse_bays.PlacedFuse.{PlacedFuse}
use Rattle.disk_core.specs.FuseBays.{content_in, size_in, fused, fused_home, picked, pick_at}
use Rattle.disk_core.specs.Homes.{Home, Out, Stays, SameDisk, TakesOut, PutsHome, HasOtherSize, AnswersSize}

abbrev unfused : Option (FuseDisk MemDisk) → Option MemDisk
unfused None = None
unfused (Some disk) = Some disk.disk

unfused_fused : (o : Option MemDisk) → unfused (fused o) ≡ o
unfused_fused None = refl
unfused_fused (Some disk) = refl

fused_some : (o : Option MemDisk) (kept : FuseDisk MemDisk) → fused o ≡ Some kept → o ≡ Some kept.disk
fused_some o kept is = sym (unfused_fused o) ∙ ap unfused is

fused_none : (o : Option MemDisk) → fused o ≡ None → o ≡ None
fused_none o is = sym (unfused_fused o) ∙ ap unfused is

same_fused : (old new : FuseDisk MemDisk) → SameDisk (Unit {0}) content_of size_of old.disk new.disk → SameDisk (Unit {0}) content_in size_in old new
same_fused old new same = record { bytes = same.bytes; told = λ u. same.told u }

-- a disk is taken out with the pick of its fuse
module _ (f : List ℕ) (n p size : ℕ) (disk : MemDisk) (home : Home MemDisk) (out : Out) (new_home : Home MemDisk) (new_out : Out) where
  pub picked_takes : (fuse : Option PlacedFuse) → TakesOut (Unit {0}) content_of size_of f n p size disk home out new_home new_out → TakesOut (Unit {0}) content_of size_of f n p size (picked fuse disk) home out new_home new_out
  picked_takes None t = t
  picked_takes (Some placed) t = record {
    same = λ kept at. record { bytes = (t.same kept at).bytes; told = (t.same kept at).told };
    fresh = t.fresh;
    was_in = t.was_in;
    is_out = t.is_out;
    left = t.left;
    others = t.others;
  }

module _ (f : List ℕ) (n p size : ℕ) (disk : MemDisk) (held : FuseDisk MemDisk) (is : held.disk ≡ disk) (home : Home MemDisk) (out : Out) (new_home : Home MemDisk) (new_out : Out) where
  pub fused_takes : TakesOut (Unit {0}) content_of size_of f n p size disk home out new_home new_out → TakesOut (Unit {0}) content_in size_in f n p size held (fused_home home) out (fused_home new_home) new_out
  fused_takes t = record {
    same = λ kept at. same_fused kept held (subst (λ (d : MemDisk). SameDisk (Unit {0}) content_of size_of kept.disk d) (sym is) (t.same kept.disk (fused_some (home f n p) kept at)));
    fresh = λ empty u. subst (λ (d : MemDisk). IsNewContent size (content_of d)) (sym is) (t.fresh (fused_none (home f n p) empty) u);
    was_in = t.was_in;
    is_out = t.is_out;
    left = ap fused t.left;
    others = record { homes = λ g m q other. ap fused (t.others.homes g m q other); outs = λ m q other. t.others.outs m q other };
  }

  pub fused_puts : PutsHome (Unit {0}) content_of size_of f n p disk home out new_home new_out → PutsHome (Unit {0}) content_in size_in f n p held (fused_home home) out (fused_home new_home) new_out
  fused_puts t =
      let kept : FuseDisk MemDisk = record { disk = t.kept; fuse = Absent; faults = 0 } in
      record {
        kept = kept;
        at_home = ap fused t.at_home;
        same = same_fused held kept (subst (λ (d : MemDisk). SameDisk (Unit {0}) content_of size_of d t.kept) (sym is) t.same);
        is_in = t.is_in;
        others = record { homes = λ g m q other. ap fused (t.others.homes g m q other); outs = λ m q other. t.others.outs m q other };
      }

pub fused_stays : (home : Home MemDisk) (out : Out) (new_home : Home MemDisk) (new_out : Out) → Stays home out new_home new_out → Stays (fused_home home) out (fused_home new_home) new_out
fused_stays home out new_home new_out s = record { homes = λ f n p. ap fused (s.homes f n p); outs = s.outs }

abbrev below : Result (FuseDisk MemDisk) BayFault → Result MemDisk BayFault
below (Ok disk) = Ok disk.disk
below (Err fault) = Err fault

abbrev above : Result MemDisk BayFault → Result (FuseDisk MemDisk) BayFault
above (Ok disk) = Ok (record { disk = disk; fuse = Absent; faults = 0 })
above (Err fault) = Err fault

abbrev succeeded : Result MemDisk BayFault → Bool
succeeded (Ok disk) = true
succeeded (Err fault) = false

err_above : (r : Result (FuseDisk MemDisk) BayFault) (fault : BayFault) → IsErrOf (below r) fault → IsErrOf r fault
err_above (Ok disk) fault is = absurd (true≢false (ap succeeded is))
err_above (Err found) fault is = ap above is

pub fused_answers : (kept : Option MemDisk) (size : ℕ) (r : Result (FuseDisk MemDisk) BayFault) → AnswersSize (Unit {0}) content_of size_of kept size (below r) → AnswersSize (Unit {0}) content_in size_in (fused kept) size r
fused_answers kept size r a = record {
  only = λ n is.
      let k : HasOtherSize (Unit {0}) content_of size_of kept size n = a.only n (ap below is) in
      record { disk = record { disk = k.disk; fuse = Absent; faults = 0 }; at_home = ap fused k.at_home; bytes = k.bytes; differs = k.differs };
  always = λ n other.
      ⊎_elim
      (λ (is : IsErrOf (below r) (OtherSize n)). inl (err_above r (OtherSize n) is))
      (λ (rest : IsErrOf (below r) Failed ⊎ IsErrOf (below r) Memory).
      inr (⊎_elim (λ (is : IsErrOf (below r) Failed). inl (err_above r Failed is)) (λ (is : IsErrOf (below r) Memory). inr (err_above r Memory is)) rest))
      (a.always n (record { disk = other.disk.disk; at_home = fused_some kept other.disk other.at_home; bytes = other.bytes; differs = other.differs }));
}

pub picked_pick : (fuse : Option PlacedFuse) (home : Option MemDisk) (new : Pick) (disk : MemDisk)
    → ((kept : MemDisk) → home ≡ Some kept → disk ≡ kept) → (home ≡ None → pick_of disk ≡ new)
    → pick_of (picked fuse disk) ≡ pick_at fuse home new
picked_pick (Some placed) home new disk kept fresh = refl
picked_pick None (Some at_home) new disk kept fresh = ap pick_of (kept at_home refl)
picked_pick None None new disk kept fresh = fresh refl
