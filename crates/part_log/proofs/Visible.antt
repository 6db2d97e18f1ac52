-- A record of the log, at its place.
use Rattle.std.proofs.Common.{◌≡◌, ◌⊎◌, inl, inr, ⊎_elim, ℕ, ◌+◌, ◌≤◌, List, [], ◌∷◌, ◌++◌, length, take, suc, refl, sym, ◌∙◌, ap, subst, arith, length-append, All}
use Rattle.std.proofs.lemmas.List.{take_at, drop_at, drop-drop}
use Rattle.disk_core.specs.Content.{Content, ChangesBy, Same, range}
use Rattle.disk_core.proofs.Ranges.{range-range}
use Rattle.disk_core.proofs.Changes.{same_image}
use Rattle.gate_slots.specs.Slots.{IsLoaded}
use Rattle.log_manifest.specs.declared.manifest.Manifest.{Manifest}
use Rattle.log_manifest.specs.Manifests.{IsLive}
use Rattle.msg_format.specs.Records.{Spells}
use Rattle.part_log.specs.declared.segment.SegmentInfo.{SegmentInfo}
use Rattle.part_log.specs.Records.{Written, laid, AreWritten, Placed, placed_from, IsPlaced}
use Rattle.part_log.specs.Segments.{place_of, lives_of}
use Rattle.part_log.specs.Log.{LogTable, IsTable, IsLog, AllFit, AllSized, AllFront, placed_in, IsVisible}

pub placed_either : (p : Placed) (xs ys : List Placed) → IsPlaced p (xs ++ ys) → IsPlaced p xs ⊎ IsPlaced p ys
placed_either p [] ys there = inr there
placed_either p (x ∷ xs) ys (inl same) = inl (inl same)
placed_either p (x ∷ xs) ys (inr there) = ⊎_elim (λ (front : IsPlaced p xs). inl (inr front)) (λ (back : IsPlaced p ys). inr back) (placed_either p xs ys there)

-- a record among those of one segment
pub record StandsIn (place : ℕ) (bytes : List ℕ) (p : Placed) : Type 0 where
  pub offset : ℕ
  pub at : p.place ≡ place + offset
  pub fits : offset + length p.text ≤ length bytes
  pub here : range offset (length p.text) bytes ≡ p.text
  pub spelled : Spells p.text p.entry

pub in_part : (place : ℕ) (part : List Written) (p : Placed) → AreWritten part → IsPlaced p (placed_from place part) → StandsIn place (laid part) p
in_part place [] p good there = absurd there
in_part place (w ∷ part) p good (inl same) =
    let text_is : p.text ≡ w.text = ap (λ (q : Placed). q.text) same in
    record {
      offset = 0;
      at = omega (arith, ap (λ (q : Placed). q.place) same);
      fits = omega (arith, ap (λ (l : List ℕ). length l) text_is, length-append w.text (laid part));
      here = ap (λ (l : List ℕ). range 0 (length l) (w.text ++ laid part)) text_is ∙ take_at w.text (laid part) (length w.text) refl ∙ sym text_is;
      spelled = subst (λ (q : Placed). Spells q.text q.entry) (sym same) good.0;
    }
in_part place (w ∷ part) p good (inr there) =
    let n : ℕ = length w.text in
    let rest = in_part (place + n) part p good.1 there in
    let m : ℕ = length p.text in
    record {
      offset = n + rest.offset;
      at = omega (arith, rest.at);
      fits = omega (arith, rest.fits, length-append w.text (laid part));
      here = ap (λ (l : List ℕ). take m l) (sym (drop-drop rest.offset n (w.text ++ laid part))) ∙ ap (λ (l : List ℕ). range rest.offset m l) (drop_at w.text (laid part) n refl) ∙ rest.here;
      spelled = rest.spelled;
    }

-- these records stand in front of the segments, whatever is behind them
abbrev pub AllHere : ℕ → List SegmentInfo → List (List Written) → List ℕ → Type 0
AllHere segment [] parts bytes = Unit {0}
AllHere segment (info ∷ infos) [] bytes = ⊥
AllHere segment (info ∷ infos) (part ∷ parts) bytes = (range (place_of segment info.segment) info.used bytes ≡ laid part) × AllHere segment infos parts bytes

pub here_from : (segment : ℕ) (infos : List SegmentInfo) (parts : List (List Written)) (c : List ℕ) → AllFront segment infos parts c → AllHere segment infos parts c
here_from segment [] parts c fronts = tt
here_from segment (info ∷ infos) [] c fronts = absurd fronts
here_from segment (info ∷ infos) (part ∷ parts) c fronts = (fronts.0.front, here_from segment infos parts c fronts.1)

pub in_segments : (manifest : Manifest) (infos : List SegmentInfo) (parts : List (List Written)) (c : List ℕ) (p : Placed) → All (IsLive manifest) (lives_of infos) → AllFit manifest.settings.segment infos → AllSized infos parts → AllHere manifest.settings.segment infos parts c
    → IsPlaced p (placed_in manifest.settings.segment infos parts) → IsVisible manifest.settings c p
in_segments manifest [] parts c p each fit sized fronts there = absurd there
in_segments manifest (info ∷ infos) [] c p each fit sized fronts there = absurd there
in_segments manifest (info ∷ infos) (part ∷ parts) c p each fit sized fronts there = ⊎_elim
    (λ (here : IsPlaced p (placed_from (place_of manifest.settings.segment info.segment) part)).
    let stands = in_part (place_of manifest.settings.segment info.segment) part p sized.1 here in
    let m : ℕ = length p.text in
    let inside : stands.offset + m ≤ info.used = omega (arith, stands.fits, sized.0) in
    let its : IsVisible manifest.settings c p = record {
      number = info.segment;
      small = (each 0 (record { segment = 0; generation = 0 }) (omega arith)).segment;
      offset = stands.offset;
      at = stands.at;
      fits = omega (arith, inside, fit.0);
      here = ap (λ (k : ℕ). range k m c) stands.at ∙ sym (range-range (place_of manifest.settings.segment info.segment) info.used stands.offset m c inside) ∙ ap (range stands.offset m) fronts.0 ∙ stands.here;
      spelled = stands.spelled;
    } in its)
    (λ (later : IsPlaced p (placed_in manifest.settings.segment infos parts)). in_segments manifest infos parts c p (λ k d lt. each (suc k) d (omega (arith, lt))) fit.1 sized.2 fronts.1 later)
    (placed_either p (placed_from (place_of manifest.settings.segment info.segment) part) (placed_in manifest.settings.segment infos parts) there)

pub visible : (table : LogTable) (content : Content) (placed : List Placed) (p : Placed) → IsTable table → IsLog table content placed → IsPlaced p placed → IsVisible table.settings content.seen p
visible table content placed p good log there = in_segments _ table.segments log.parts content.seen p good.manifest.each good.fit log.sized (here_from table.settings.segment table.segments log.parts content.seen (log.shown content.seen content.sees).fronts) (subst (λ (l : List Placed). IsPlaced p l) log.all there)

-- a call that changes nothing leaves a log
pub log_same : (table : LogTable) (old new : Content) (placed : List Placed) → ChangesBy Same old new → new.seen ≡ old.seen → IsLog table old placed → IsLog table new placed
log_same table old new placed changes seen log = record {
  floor = log.floor;
  parts = log.parts;
  sized = log.sized;
  all = log.all;
  rises = log.rises;
  firsts = log.firsts;
  ends = log.ends;
  shown = λ c image. log.shown c (same_image old new changes c image);
  loaded = subst (λ (l : List ℕ). IsLoaded table.slots l) (sym seen) log.loaded;
  tokens = subst (λ (l : List ℕ). IsLoaded table.tokens l) (sym seen) log.tokens;
  settled = λ c image. log.settled c (same_image old new changes c image) ∙ ap (range 0 4096) (sym seen);
}
