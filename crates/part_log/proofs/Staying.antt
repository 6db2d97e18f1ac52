-- Records that can be read still, after a write elsewhere.
use Rattle.std.proofs.Common.{◌≡◌, inl, ℕ, ◌+◌, ◌≤◌, List, [], ◌∷◌, false, take, drop, sym, ◌∙◌, ap, subst, arith}
use Rattle.std.proofs.lemmas.List.{take-take}
use Rattle.disk_core.specs.Content.{Content, Torn}
use Rattle.disk_core.proofs.Ranges.{range-torn}
use Rattle.part_log.specs.declared.segment.SegmentInfo.{SegmentInfo}
use Rattle.part_log.specs.Records.{Written, Placed, IsPlaced}
use Rattle.part_log.specs.Segments.{place_of, is_among, last_segment, last_used, ChangesIn}
use Rattle.part_log.specs.Log.{LogTable, IsTable, IsLog, AllFit, AllVisible, next_place}
use Rattle.part_log.proofs.Free.{without_from}
use Rattle.part_log.proofs.Fronts.{fronts_stay}
use Rattle.part_log.proofs.LastRecord.{last_apart}
use Rattle.part_log.proofs.Manifests.{AllApart, named_apart}
use Rattle.part_log.proofs.Segments.{write_in}
use Rattle.part_log.proofs.Visible.{AllHere, here_from, in_segments, visible}

-- a write behind the last record
here_behind : (segment n : ℕ) (infos : List SegmentInfo) (parts : List (List Written)) (d c : List ℕ) → AllApart infos → AllFit segment infos → last_used infos + n ≤ segment
    → Torn (place_of segment (last_segment infos) + last_used infos) n d c → AllHere segment infos parts d → AllHere segment infos parts c
here_behind segment n [] parts d c apart fit room torn here = tt
here_behind segment n (info ∷ infos) [] d c apart fit room torn here = absurd here
here_behind segment n (info ∷ []) (part ∷ parts) d c apart fit room torn here = (
  range-torn (place_of segment info.segment + info.used) n (place_of segment info.segment) info.used d c torn (inl (omega arith)) ∙ here.0,
  tt,
)
here_behind segment n (info ∷ other ∷ infos) (part ∷ parts) d c apart fit room torn here =
    let start : ℕ = place_of segment info.segment in
    let changes = write_in segment (last_segment (other ∷ infos)) (last_used (other ∷ infos)) n d c room torn in
    let same = changes.others info.segment (last_apart info.segment other infos apart.0) in (
      sym (take-take info.used segment (drop start c) fit.0) ∙ ap (λ (l : List ℕ). take info.used l) same ∙ take-take info.used segment (drop start d) fit.0 ∙ here.0,
      here_behind segment n (other ∷ infos) parts d c apart.1 fit.1 room torn here.1,
    )

module _ (table : LogTable) (good : IsTable table) (old : Content) (placed : List Placed) (log : IsLog table old placed) where
  -- what is there can be read
  pub visible_there : AllVisible table.settings old.seen placed
  visible_there p there = visible table old placed p good log there

  -- and still after a change in a segment that isn't live
  pub visible_elsewhere : (target : ℕ) (new : List ℕ) → is_among target table.segments ≡ false → ChangesIn table.settings.segment target old.seen new → AllVisible table.settings new placed
  visible_elsewhere target new free changes p there =
      in_segments _ table.segments log.parts new p good.manifest.each good.fit log.sized
      (here_from table.settings.segment table.segments log.parts new (fronts_stay table.settings.segment target table.segments log.parts old.seen new changes (without_from target table.segments free) good.fit (log.shown old.seen old.sees).fronts))
      (subst (λ (l : List Placed). IsPlaced p l) log.all there)

  -- or behind the last record
  pub visible_front : (n : ℕ) (new : List ℕ) → last_used table.segments + n ≤ table.settings.segment → Torn (next_place table) n old.seen new → AllVisible table.settings new placed
  visible_front n new room torn p there =
      in_segments _ table.segments log.parts new p good.manifest.each good.fit log.sized
      (here_behind table.settings.segment n table.segments log.parts old.seen new (named_apart table table.end good.manifest) good.fit room torn
      (here_from table.settings.segment table.segments log.parts old.seen (log.shown old.seen old.sees).fronts))
      (subst (λ (l : List Placed). IsPlaced p l) log.all there)
