-- What a disk in memory tells.
use Rattle.std.specs.Prelude.{◌≡◌, ◌⊎◌, ℕ, zero, suc, ◌+◌, ◌<◌, ◌≤◌, ◌^◌, List, [], ◌∷◌, length, slice_index, replicate, Vec, refl}
use Rattle.std.specs.declared.alloc.Global.{Global}
use Rattle.std.proofs.Common.{inl, inr, ⊎_elim, sym, ◌∙◌, ap, arith}
use Rattle.disk_core.specs.declared.unsynced.Overwritten.{Overwritten}
use Rattle.disk_core.specs.declared.unsynced.Pick.{Pick}
use Rattle.disk_core.specs.declared.unsynced.Pick.TheVariants.{Keep, Drop, Fill}
use Rattle.disk_core.specs.Content.{Content}
use Rattle.disk_core.specs.Unsynced.{put_at, State, left_of, left_after, ranges_of, state_after, IsOutside, IsImage, LeftSince}

pub length-put_at : (xs : List ℕ) (at : ℕ) (bytes : List ℕ) → length (put_at xs at bytes) ≡ length xs
length-put_at [] at bytes = refl
length-put_at (x ∷ xs) zero [] = refl
length-put_at (x ∷ xs) zero (b ∷ bytes) = ap (λ (n : ℕ). suc n) (length-put_at xs zero bytes)
length-put_at (x ∷ xs) (suc at) bytes = ap (λ (n : ℕ). suc n) (length-put_at xs at bytes)

pub put_at-other : (xs : List ℕ) (at : ℕ) (bytes : List ℕ) (k : ℕ) → (k < at) ⊎ (at + length bytes ≤ k) → slice_index (put_at xs at bytes) k ≡ slice_index xs k
put_at-other [] at bytes k out = refl
put_at-other (x ∷ xs) zero [] k out = refl
put_at-other (x ∷ xs) zero (b ∷ bytes) zero out = absurd (omega arith)
put_at-other (x ∷ xs) zero (b ∷ bytes) (suc k) out = put_at-other xs zero bytes k (let le : 0 + length bytes ≤ k = omega arith in grind arith)
put_at-other (x ∷ xs) (suc at) bytes zero out = refl
put_at-other (x ∷ xs) (suc at) bytes (suc k) out = put_at-other xs at bytes k (grind arith)

pub length-replicate : (n byte : ℕ) → length (replicate n byte) ≡ n
length-replicate zero byte = refl
length-replicate (suc n) byte = ap (λ (k : ℕ). suc k) (length-replicate n byte)

pub length-left_of : (pick : Pick) (bytes : List ℕ) (write : Overwritten) → length (left_of pick bytes write) ≡ length bytes
length-left_of Keep bytes write = refl
length-left_of Drop bytes write = length-put_at bytes write.at write.bytes.items
length-left_of (Fill byte) bytes write = length-put_at bytes write.at (replicate (length write.bytes.items) byte)

pub left_of-other : (pick : Pick) (bytes : List ℕ) (write : Overwritten) (k : ℕ) → (k < write.at) ⊎ (write.at + length write.bytes.items ≤ k) → slice_index (left_of pick bytes write) k ≡ slice_index bytes k
left_of-other Keep bytes write k out = refl
left_of-other Drop bytes write k out = put_at-other bytes write.at write.bytes.items k out
left_of-other (Fill byte) bytes write k out =
    let n : ℕ = length write.bytes.items in
    put_at-other bytes write.at (replicate n byte) k (⊎_elim (λ (lt : k < write.at). inl lt) (λ (le : write.at + n ≤ k). inr (omega (arith, le, length-replicate n byte))) out)

pub length-left_after : (pick : Pick) (bytes : List ℕ) (writes : List Overwritten) → length (left_after pick bytes writes) ≡ length bytes
length-left_after pick bytes [] = refl
length-left_after pick bytes (write ∷ later) = length-left_of pick (left_after pick bytes later) write ∙ length-left_after pick bytes later

pub left_after-other : (pick : Pick) (bytes : List ℕ) (writes : List Overwritten) (k : ℕ) → IsOutside k (ranges_of writes) → slice_index (left_after pick bytes writes) k ≡ slice_index bytes k
left_after-other pick bytes [] k out = refl
left_after-other pick bytes (write ∷ later) k out = left_of-other pick (left_after pick bytes later) write k out.0 ∙ left_after-other pick bytes later k out.1

-- whatever the pick, an image is left
pub image_left : (pick : Pick) (bytes : List ℕ) (writes : List Overwritten) → IsImage (state_after bytes writes) (left_after pick bytes writes)
image_left pick bytes writes = record {
  size = length-left_after pick bytes writes ∙ sym (length-left_after Drop bytes writes);
  others = λ k out. left_after-other pick bytes writes k out ∙ sym (left_after-other Drop bytes writes k out);
}

pub image_seen : (bytes : List ℕ) (writes : List Overwritten) → IsImage (state_after bytes writes) bytes
image_seen bytes writes = record { size = sym (length-left_after Drop bytes writes); others = λ k out. sym (left_after-other Drop bytes writes k out) }

pub since_shorter : (states : List State) (t u : ℕ) (c : List ℕ) → t ≤ u → LeftSince states u c → LeftSince states t c
since_shorter [] t u c le left = left
since_shorter (s ∷ earlier) t u c le (inl now) = inl (omega (arith, le, now.0), now.1)
since_shorter (s ∷ earlier) t u c le (inr before) = inr (since_shorter earlier t u c le before)

-- no state is later than the last one
pub since_below : (states : List State) (t : ℕ) (c : List ℕ) → LeftSince states t c → t < length states
since_below [] t c left = absurd left
since_below (s ∷ earlier) t c (inl now) = omega (arith, now.0)
since_below (s ∷ earlier) t c (inr before) = omega (arith, since_below earlier t c before)

-- what a disk tells that holds these bytes, of which these writes are not synced, and that was in these states
abbrev pub content_after : List ℕ → List Overwritten → List State → Content
content_after bytes writes past = record {
  seen = bytes;
  images = IsImage (state_after bytes writes);
  moment = length past;
  left_since = LeftSince (state_after bytes writes ∷ past);
  sees = image_seen bytes writes;
  same_size = λ c image. image.size ∙ length-left_after Drop bytes writes;
  counts_more = λ t u c le left. since_shorter (state_after bytes writes ∷ past) t u c le left;
  counts_now = λ c image. inl (omega arith, image);
  only_now = λ c left. ⊎_elim (λ (now : (length past ≤ length past) × IsImage (state_after bytes writes) c). now.1)
      (λ (before : LeftSince past (length past) c). absurd (omega (arith, since_below past (length past) c before))) left;
}

-- a list in memory has a length below 2^64
pub length_fits : (v : Vec ℕ Global) → length v.items < 2 ^ 64
length_fits v = omega (arith, v.ok, v.small)
