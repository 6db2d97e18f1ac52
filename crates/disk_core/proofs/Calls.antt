-- The calls of a disk in memory are those of a disk.
use Rattle.std.proofs.Common.{◌≡◌, ◌⊎◌, inl, inr, ⊎_elim, ℕ, zero, suc, ◌+◌, ◌<◌, ◌≤◌, List, [], ◌∷◌, ◌++◌, length, take, drop, get_or, replicate, Ok, Err, refl, sym, ◌∙◌, ap, subst, arith}
use Rattle.std.proofs.lemmas.List.{length-take}
use Rattle.std.proofs.lemmas.Grind.{same_number_lists}
use Rattle.std.proofs.lemmas.Bool.{cases_lt}
use Rattle.disk_core.specs.declared.unsynced.Overwritten.{Overwritten}
use Rattle.disk_core.specs.declared.unsynced.Pick.{Pick}
use Rattle.disk_core.specs.declared.unsynced.Pick.TheVariants.{Keep, Drop, Fill}
use Rattle.disk_core.specs.Content.{Content, ChangesBy, Torn, Same, Reads, Writes, Syncs, Stops, range}
use Rattle.disk_core.specs.Unsynced.{put_at, State, left_of, left_after, ranges_of, state_after, IsOutside, IsImage, LeftSince, IsLeft, AddsWrite}
use Rattle.disk_core.specs.UnsyncedLaws.{content_after, length-put_at, put_at-other, length-left_after, image_left, image_seen, left_of-other}
use Rattle.disk_core.proofs.Changes.{no_change}
use Rattle.disk_core.proofs.Ranges.{torn_none, length-range}
use Rattle.disk_core.proofs.Puts.{put_at-holds, put_at-torn, put_at-back, put_at-same}
use Rattle.disk_core.proofs.Unsynceds.{left_after-append, ranges_of-append}

-- an image of the later state comes from one of the earlier state, as the relation says
abbrev pub StepsBy : (List ℕ → List ℕ → Type 0) → State → State → Type 0
StepsBy R old new = (c : List ℕ) → IsImage new c → (d : List ℕ) × IsImage old d × R d c

-- one state more
pub pushed : (R : List ℕ → List ℕ → Type 0) (bytes new : List ℕ) (writes later : List Overwritten) (past : List State) → ((c : List ℕ) → R c c)
    → StepsBy R (state_after bytes writes) (state_after new later) → ChangesBy R (content_after bytes writes past) (content_after new later (state_after bytes writes ∷ past))
pushed R bytes new writes later past same by = record {
  later = omega arith;
  each = λ c left. ⊎_elim
      (λ (now : (length past ≤ suc (length past)) × IsImage (state_after new later) c). by c now.1)
      (λ (before : LeftSince (state_after bytes writes ∷ past) (length past) c). (c, (content_after bytes writes past).only_now c before, same c))
      left;
  before = λ t c le left. ⊎_elim
      (λ (now : (t ≤ suc (length past)) × IsImage (state_after new later) c). inr (inl (omega arith, now.1)))
      (λ (before : LeftSince (state_after bytes writes ∷ past) t c). inl before)
      left;
  keeps = λ t c le left. inr left;
}

-- what holds of a content holds of an equal one
pub content_at : (P : Content → Type 0) (bytes new : List ℕ) (writes later : List Overwritten) (past states : List State) → new ≡ bytes → later ≡ writes → states ≡ past
    → P (content_after bytes writes past) → P (content_after new later states)
content_at P bytes new writes later past states same_bytes same_writes same_past holds =
    subst (λ (b : List ℕ). P (content_after b later states)) (sym same_bytes)
    (subst (λ (w : List Overwritten). P (content_after bytes w states)) (sym same_writes)
    (subst (λ (s : List State). P (content_after bytes writes s)) (sym same_past) holds))

outside_more : (k : ℕ) (loose : List (ℕ × ℕ)) (r : ℕ × ℕ) → IsOutside k loose → (k < r.0) ⊎ (r.0 + r.1 ≤ k) → IsOutside k (loose ++ r ∷ [])
outside_more k [] r out last = (last, tt)
outside_more k (x ∷ loose) r out last = (out.0, outside_more k loose r out.1 last)

outside_fewer : (k : ℕ) (loose : List (ℕ × ℕ)) (r : ℕ × ℕ) → IsOutside k (loose ++ r ∷ []) → IsOutside k loose × ((k < r.0) ⊎ (r.0 + r.1 ≤ k))
outside_fewer k [] r out = (tt, out.0)
outside_fewer k (x ∷ loose) r out = let rest = outside_fewer k loose r out.1 in ((out.0, rest.0), rest.1)

put_at-range : (xs ys : List ℕ) (at n k : ℕ) → length xs ≡ length ys → at ≤ k → k < at + n → get_or (put_at xs at (take n (drop at ys))) k 0 ≡ get_or ys k 0
put_at-range [] [] at n k same le lt = refl
put_at-range [] (y ∷ ys) at n k same le lt = absurd (omega arith)
put_at-range (x ∷ xs) [] at n k same le lt = absurd (omega arith)
put_at-range (x ∷ xs) (y ∷ ys) zero zero k same le lt = absurd (omega arith)
put_at-range (x ∷ xs) (y ∷ ys) zero (suc n) zero same le lt = refl
put_at-range (x ∷ xs) (y ∷ ys) zero (suc n) (suc k) same le lt = put_at-range xs ys zero n k (omega arith) (omega arith) (omega arith)
put_at-range (x ∷ xs) (y ∷ ys) (suc at) n zero same le lt = absurd (omega arith)
put_at-range (x ∷ xs) (y ∷ ys) (suc at) n (suc k) same le lt = put_at-range xs ys at n k (omega arith) (omega arith) (omega arith)

range_short : (at n : ℕ) (xs : List ℕ) → length (take n (drop at xs)) ≤ n
range_short at n xs = omega (arith, length-take n (drop at xs))

-- what an image of a state with one range more was before
torn_back : (s t : State) (at n : ℕ) → t.stable ≡ s.stable → t.loose ≡ s.loose ++ (at, n) ∷ [] → StepsBy (Torn at n) s t
torn_back s t at n stable loose c image =
    let size : length c ≡ length s.stable = image.size ∙ ap (λ (l : List ℕ). length l) stable in
    let others : (k : ℕ) → IsOutside k (s.loose ++ (at, n) ∷ []) → get_or c k 0 ≡ get_or s.stable k 0 =
    λ k out. image.others k (subst (λ (l : List (ℕ × ℕ)). IsOutside k l) (sym loose) out) ∙ ap (λ (l : List ℕ). get_or l k 0) stable in
    let there : List ℕ = take n (drop at s.stable) in
    let d : List ℕ = put_at c at there in
    let long : length d ≡ length c = length-put_at c at there in
    let apart : (k : ℕ) → (k < at) ⊎ (at + n ≤ k) → get_or d k 0 ≡ get_or c k 0 = λ k out.
    put_at-other c at there k (⊎_elim (λ (lt : k < at). inl lt) (λ (le : at + n ≤ k). inr (omega (arith, le, range_short at n s.stable))) out) in
    let inside : (k : ℕ) → at ≤ k → k < at + n → get_or d k 0 ≡ get_or s.stable k 0 = λ k le lt. put_at-range c s.stable at n k size le lt in
    let back : (k : ℕ) → IsOutside k s.loose → get_or d k 0 ≡ get_or s.stable k 0 = λ k out.
    ⊎_elim (λ (lt : k < at). apart k (inl lt) ∙ others k (outside_more k s.loose (at, n) out (inl lt)))
    (λ (le : at ≤ k). ⊎_elim (λ (lt : k < at + n). inside k le lt) (λ (ge : at + n ≤ k). apart k (inr ge) ∙ others k (outside_more k s.loose (at, n) out (inr ge))) (cases_lt k (at + n)))
    (cases_lt k at) in
    (d, record { size = long ∙ size; others = back }, record { size = sym long; others = λ k out. sym (apart k out) })

-- a write, whose range is kept as it was
module _ (at : ℕ) (bytes old : List ℕ) (writes new : List Overwritten) (past : List State) (fit : at + length bytes ≤ length old) (adds : AddsWrite at (length bytes) old writes new) where
  kept_long : length adds.write.bytes.items ≡ length bytes
  kept_long = ap (λ (l : List ℕ). length l) adds.kept ∙ length-range at (length bytes) old fit

  -- the state before it has these stable bytes, and its range is loose too
  stable_stays : (now : List ℕ) → put_at now at (range at (length bytes) old) ≡ old → (state_after now new).stable ≡ (state_after old writes).stable
  stable_stays now back =
      ap (λ (l : List Overwritten). left_after Drop now l) adds.added ∙ left_after-append Drop now writes adds.write
      ∙ ap (λ (l : List ℕ). left_after Drop l writes) (ap (λ (k : ℕ). put_at now k adds.write.bytes.items) adds.place ∙ ap (put_at now at) adds.kept ∙ back)

  loose_more : ranges_of new ≡ ranges_of writes ++ (at, length bytes) ∷ []
  loose_more = ap ranges_of adds.added ∙ ranges_of-append writes adds.write
      ∙ ap (λ (r : ℕ × ℕ). ranges_of writes ++ r ∷ []) (ap (λ (k : ℕ). (k, length adds.write.bytes.items)) adds.place ∙ ap (λ (n : ℕ). (at, n)) kept_long)

  pub wrote : {T E : Type 0} (value : T) → Writes {T = T} {E = E} at bytes (Ok value) (content_after old writes past) (content_after (put_at old at bytes) new (state_after old writes ∷ past))
  wrote {T} {E} value = record {
    during = pushed (Torn at (length bytes)) old (put_at old at bytes) writes new past (torn_none at (length bytes))
        (torn_back (state_after old writes) (state_after (put_at old at bytes) new) at (length bytes) (stable_stays (put_at old at bytes) (put_at-back old at bytes fit)) loose_more);
    torn = put_at-torn old at bytes;
    written = put_at-holds old at bytes fit;
  }

  pub tore : {T E : Type 0} (error : E) → Writes {T = T} {E = E} at bytes (Err error) (content_after old writes past) (content_after old new (state_after old writes ∷ past))
  tore {T} {E} error = record {
    during = pushed (Torn at (length bytes)) old old writes new past (torn_none at (length bytes))
        (torn_back (state_after old writes) (state_after old new) at (length bytes) (stable_stays old (put_at-same old at (length bytes) fit)) loose_more);
    torn = torn_none at (length bytes) old;
    written = tt;
  }

-- a write that did nothing
pub untouched : {T E : Type 0} (error : E) (at : ℕ) (bytes : List ℕ) (content : Content) → Writes {T = T} {E = E} at bytes (Err error) content content
untouched {T} {E} error at bytes content = record {
  during = no_change (Torn at (length bytes)) content (λ c image. torn_none at (length bytes) c);
  torn = torn_none at (length bytes) content.seen;
  written = tt;
}

-- a read
pub read_some : {T E : Type 0} (value : T) (at : ℕ) (bytes : List ℕ) (content : Content) → bytes ≡ range at (length bytes) content.seen → Reads {T = T} {E = E} at bytes (Ok value) content content
read_some {T} {E} value at bytes content given = record { during = no_change Same content (λ c image. refl); seen = refl; given = given }

pub read_none : {T E : Type 0} (error : E) (at : ℕ) (bytes : List ℕ) (content : Content) → Reads {T = T} {E = E} at bytes (Err error) content content
read_none {T} {E} error at bytes content = record { during = no_change Same content (λ c image. refl); seen = refl; given = tt }

-- with no range there is one image
pub one_image : (bytes c : List ℕ) → IsImage (state_after bytes []) c → c ≡ bytes
one_image bytes c image = same_number_lists c bytes image.size (λ k lt. image.others k tt)

-- a sync
pub synced : {T E : Type 0} (value : T) (bytes : List ℕ) (writes : List Overwritten) (past : List State) → Syncs {T = T} {E = E} (Ok value) (content_after bytes writes past) (content_after bytes [] (state_after bytes writes ∷ past))
synced {T} {E} value bytes writes past = record {
  during = pushed Same bytes bytes writes [] past (λ c. refl) (λ c image. (bytes, image_seen bytes writes, one_image bytes c image));
  seen = refl;
  only = one_image bytes;
}

pub not_synced : {T E : Type 0} (error : E) (content : Content) → Syncs {T = T} {E = E} (Err error) content content
not_synced {T} {E} error content = record { during = no_change Same content (λ c image. refl); seen = refl; only = tt }

-- a stop
pub stops : (pick : Pick) (bytes : List ℕ) (writes : List Overwritten) (past : List State) → Stops (content_after bytes writes past) (content_after (left_after pick bytes writes) [] [])
stops pick bytes writes past = record { left = image_left pick bytes writes; only = one_image (left_after pick bytes writes) }

left_after-Keep : (bytes : List ℕ) (writes : List Overwritten) → left_after Keep bytes writes ≡ bytes
left_after-Keep bytes [] = refl
left_after-Keep bytes (write ∷ later) = left_after-Keep bytes later

put_at-filled : (xs : List ℕ) (at n byte k : ℕ) → at ≤ k → k < at + n → k < length xs → get_or (put_at xs at (replicate n byte)) k 0 ≡ byte
put_at-filled [] at n byte k le lt short = absurd (omega arith)
put_at-filled (x ∷ xs) zero zero byte k le lt short = absurd (omega arith)
put_at-filled (x ∷ xs) zero (suc n) byte zero le lt short = refl
put_at-filled (x ∷ xs) zero (suc n) byte (suc k) le lt short = put_at-filled xs zero n byte k (omega arith) (omega arith) (omega arith)
put_at-filled (x ∷ xs) (suc at) n byte zero le lt short = absurd (omega arith)
put_at-filled (x ∷ xs) (suc at) n byte (suc k) le lt short = put_at-filled xs at n byte k (omega arith) (omega arith) (omega arith)

filled : (byte : ℕ) (bytes : List ℕ) (writes : List Overwritten) (k : ℕ) → k < length bytes → (IsOutside k (ranges_of writes) → ⊥) → get_or (left_after (Fill byte) bytes writes) k 0 ≡ byte
filled byte bytes [] k lt within = absurd (within tt)
filled byte bytes (write ∷ later) k lt within =
    let n : ℕ = length write.bytes.items in
    let before : List ℕ = left_after (Fill byte) bytes later in
    let long : length before ≡ length bytes = length-left_after (Fill byte) bytes later in
    let apart : (k < write.at) ⊎ (write.at + n ≤ k) → get_or (left_of (Fill byte) before write) k 0 ≡ byte =
    λ out. left_of-other (Fill byte) before write k out ∙ filled byte bytes later k lt (λ rest. within (out, rest)) in
    ⊎_elim (λ (below : k < write.at). apart (inl below))
    (λ (le : write.at ≤ k). ⊎_elim (λ (inside : k < write.at + n). put_at-filled before write.at n byte k le inside (omega (arith, long, lt)))
    (λ (above : write.at + n ≤ k). apart (inr above)) (cases_lt k (write.at + n)))
    (cases_lt k write.at)

-- what a stop leaves is what the pick says
pub left_is : (pick : Pick) (bytes : List ℕ) (writes : List Overwritten) → IsLeft pick (state_after bytes writes) (left_after pick bytes writes)
left_is Keep bytes writes = left_after-Keep bytes writes
left_is Drop bytes writes = refl
left_is (Fill byte) bytes writes =
    let image = image_left (Fill byte) bytes writes in
    record {
      size = image.size;
      filled = λ k lt within. filled byte bytes writes k (omega (arith, lt, length-left_after (Fill byte) bytes writes)) within;
      others = image.others;
    }
