-- The disk model: what a disk holds, what a crash may leave of it, and how a call changes that.
use Rattle.std.specs.Prelude.{◌≡◌, ◌⊎◌, ℕ, ◌+◌, ◌<◌, ◌≤◌, List, length, take, drop, slice_index, replicate, Result, OnOk}

-- What a disk tells of itself. An image is what a crash may leave.
pub record Content : Type 1 where
  -- the bytes that reads give
  pub seen : List ℕ
  -- what a crash at this moment may leave
  pub images : List ℕ → Type 0
  -- the moment, a number that falls only where the disk is stopped
  pub moment : ℕ
  -- what a crash at some moment from that one on might have left
  pub left_since : ℕ → List ℕ → Type 0
  -- what reads give is one of the images
  pub sees : images seen
  -- all images have one size
  pub same_size : (c : List ℕ) → images c → length c ≡ length seen
  -- this moment counts, and an earlier one counts the more
  pub counts_now : (c : List ℕ) → images c → left_since moment c
  pub counts_more : (t u : ℕ) (c : List ℕ) → t ≤ u → left_since u c → left_since t c
  -- since this moment there is no other
  pub only_now : (c : List ℕ) → left_since moment c → images c

-- the n bytes from a place on
abbrev pub range : ℕ → ℕ → List ℕ → List ℕ
range at n c = take n (drop at c)

-- changed in this range alone
pub record Torn (at n : ℕ) (old new : List ℕ) : Type 0 where
  pub size : length new ≡ length old
  pub others : (k : ℕ) → (k < at) ⊎ (at + n ≤ k) → slice_index new k ≡ slice_index old k

-- not changed
abbrev pub Same : List ℕ → List ℕ → Type 0
Same old new = new ≡ old

-- a crash leaves this and nothing else
abbrev pub Only : Content → Type 0
Only content = (c : List ℕ) → content.images c → c ≡ content.seen

-- Each image at a moment since old is an image of old, changed as the relation says.
pub record ChangesBy (R : List ℕ → List ℕ → Type 0) (old new : Content) : Type 0 where
  pub later : old.moment ≤ new.moment
  pub each : (c : List ℕ) → new.left_since old.moment c → (d : List ℕ) × old.images d × R d c
  -- for a run that began earlier: nothing else is new, and nothing is forgotten
  pub before : (t : ℕ) (c : List ℕ) → t ≤ old.moment → new.left_since t c → old.left_since t c ⊎ new.left_since old.moment c
  pub keeps : (t : ℕ) (c : List ℕ) → t ≤ old.moment → old.left_since t c → new.left_since t c

-- a read of as many bytes as the buffer has
pub record Reads {T E : Type 0} (at : ℕ) (bytes : List ℕ) (result : Result T E) (old new : Content) : Type 0 where
  pub during : ChangesBy Same old new
  pub seen : new.seen ≡ old.seen
  pub given : OnOk result (bytes ≡ range at (length bytes) old.seen)

-- these bytes stand at this place, and the rest is as before
pub record Holds (at : ℕ) (bytes old new : List ℕ) : Type 0 where
  pub here : range at (length bytes) new ≡ bytes
  pub torn : Torn at (length bytes) old new

-- a write, also one that fails: until a sync, a crash may leave any bytes in its range, and nothing else changes
pub record Writes {T E : Type 0} (at : ℕ) (bytes : List ℕ) (result : Result T E) (old new : Content) : Type 0 where
  pub during : ChangesBy (Torn at (length bytes)) old new
  pub torn : Torn at (length bytes) old.seen new.seen
  pub written : OnOk result (Holds at bytes old.seen new.seen)

-- a sync: where it succeeds, there is one image
pub record Syncs {T E : Type 0} (result : Result T E) (old new : Content) : Type 0 where
  pub during : ChangesBy Same old new
  pub seen : new.seen ≡ old.seen
  pub only : OnOk result (Only new)

-- a stop: what is left is one of the images, and from then on the only one
pub record Stops (old new : Content) : Type 0 where
  pub left : old.images new.seen
  pub only : Only new

-- a write and a sync: where both succeed, there is one image, with these bytes
pub record WritesSynced {T E : Type 0} (at : ℕ) (bytes : List ℕ) (result : Result T E) (old new : Content) : Type 0 where
  pub during : ChangesBy (Torn at (length bytes)) old new
  pub written : OnOk result (Holds at bytes old.seen new.seen)
  pub only : OnOk result (Only new)

-- all images have here what reads give
abbrev pub IsSettled : ℕ → ℕ → Content → Type 0
IsSettled at n content = (c : List ℕ) → content.images c → range at n c ≡ range at n content.seen

-- a new disk holds zeros, and they are stable
pub record IsNewContent (size : ℕ) (content : Content) : Type 0 where
  pub zeros : content.seen ≡ replicate size 0
  pub only : Only content
