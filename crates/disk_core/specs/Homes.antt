-- How disks are taken out and put home.
use Rattle.std.specs.Prelude.{◌≡◌, ◌≢◌, ◌⊎◌, ◌↔◌, ℕ, List, Option, Some, None, Result, IsErrOf}
use Rattle.disk_core.specs.declared.bays.BayFault.{BayFault}
use Rattle.disk_core.specs.declared.bays.BayFault.TheVariants.{Failed, OtherSize, Memory}
use Rattle.disk_core.specs.Content.{Content, IsNewContent}

-- Two contents are the same.
pub record SameContent (old new : Content) : Type 0 where
  pub seen : new.seen ≡ old.seen
  pub images : (c : List ℕ) → new.images c ↔ old.images c
  pub moment : new.moment ≡ old.moment
  pub left_since : (t : ℕ) (c : List ℕ) → new.left_since t c ↔ old.left_since t c

-- The disks at home, by folder, node and partition.
abbrev pub Home : Type 0 → Type 0
Home D = List ℕ → ℕ → ℕ → Option D

-- The folders of the disks that are out, by node and partition.
abbrev pub Out : Type 0
Out = ℕ → ℕ → Option (List ℕ)

-- Nothing was taken out or put home.
pub record Stays {D : Type 0} (home : Home D) (out : Out) (new_home : Home D) (new_out : Out) : Type 0 where
  pub homes : (f : List ℕ) (n p : ℕ) → new_home f n p ≡ home f n p
  pub outs : (n p : ℕ) → new_out n p ≡ out n p

-- All places but this one stay.
pub record OthersStay {D : Type 0} (folder : List ℕ) (node partition : ℕ) (home : Home D) (out : Out) (new_home : Home D) (new_out : Out) : Type 0 where
  pub homes : (f : List ℕ) (n p : ℕ) → (f ≢ folder) ⊎ (n ≢ node) ⊎ (p ≢ partition) → new_home f n p ≡ home f n p
  pub outs : (n p : ℕ) → (n ≢ node) ⊎ (p ≢ partition) → new_out n p ≡ out n p

-- What disks of a type tell, and their size.
module _ {D : Type 0} (tells : Type 0) (content : D → Content) (size : D → ℕ) where
  -- One disk is the other, but maybe for what it fails at.
  pub record SameDisk (old new : D) : Type 0 where
    pub bytes : size new ≡ size old
    pub told : tells → SameContent (content old) (content new)

  -- The disk of a place, or a new one of this size where the place has none, is out under this folder.
  pub record TakesOut (folder : List ℕ) (node partition bytes : ℕ) (disk : D) (home : Home D) (out : Out) (new_home : Home D) (new_out : Out) : Type 0 where
    pub same : (kept : D) → home folder node partition ≡ Some kept → SameDisk kept disk
    pub fresh : home folder node partition ≡ None → tells → IsNewContent bytes (content disk)
    pub was_in : out node partition ≡ None
    pub is_out : new_out node partition ≡ Some folder
    pub left : new_home folder node partition ≡ None
    pub others : OthersStay folder node partition home out new_home new_out

  -- The disk that was out is at home under its folder.
  pub record PutsHome (folder : List ℕ) (node partition : ℕ) (disk : D) (home : Home D) (out : Out) (new_home : Home D) (new_out : Out) : Type 0 where
    pub kept : D
    pub at_home : new_home folder node partition ≡ Some kept
    pub same : SameDisk disk kept
    pub is_in : new_out node partition ≡ None
    pub others : OthersStay folder node partition home out new_home new_out

  -- The disk that is at home has another size than is asked for.
  pub record HasOtherSize (kept : Option D) (asked other : ℕ) : Type 0 where
    pub disk : D
    pub at_home : kept ≡ Some disk
    pub bytes : size disk ≡ other
    pub differs : other ≢ asked

  -- Another size is answered exactly where the disk at home has it, but for a failure and want of memory.
  pub record AnswersSize {T : Type 0} (kept : Option D) (asked : ℕ) (result : Result T BayFault) : Type 0 where
    pub only : (n : ℕ) → IsErrOf result (OtherSize n) → HasOtherSize kept asked n
    pub always : (n : ℕ) → HasOtherSize kept asked n → IsErrOf result (OtherSize n) ⊎ IsErrOf result Failed ⊎ IsErrOf result Memory
