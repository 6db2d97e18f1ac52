-- A record that is put last, as the code does it.
use Rattle.std.proofs.Common.{◌≡◌, ◌≢◌, inl, ℕ, suc, ◌+◌, ◌-◌, ◌<◌, ◌≤◌, ◌^◌, List, [], ◌∷◌, ◌++◌, length, get_or, set, All, refl, sym, ◌∙◌, ap, subst, arith}
use Rattle.disk_core.specs.Content.{Content, ChangesBy, Only, Torn, range}
use Rattle.disk_core.proofs.Changes.{chain, widen, image_from}
use Rattle.gate_slots.specs.Gate.{IsShut, IsZeroed, OpensGate}
use Rattle.log_manifest.specs.declared.manifest.Manifest.{Manifest}
use Rattle.log_manifest.specs.Manifests.{IsLive}
use Rattle.msg_format.specs.declared.record.Record.{Record}
use Rattle.msg_format.specs.Records.{Spells, spelling_of, record_size}
use Rattle.msg_format.proofs.Spelled.{text_long}
use Rattle.part_log.specs.declared.segment.SegmentInfo.{SegmentInfo}
use Rattle.part_log.specs.Records.{Written, Placed, placed_at, written_of, records_of}
use Rattle.part_log.specs.Segments.{place_of, last_segment, last_used, lives_of, with_more, ChangesIn}
use Rattle.part_log.specs.Images.{KeepsLog, PutsLast}
use Rattle.part_log.specs.Log.{LogTable, IsTable, IsLog, AllFront, Follows, next_place, grown, disk_size}
use Rattle.part_log.proofs.Texts.{size_of_text}
use Rattle.part_log.proofs.Manifests.{length-lives_of}
use Rattle.part_log.proofs.Segments.{write_in, writes_twice}
use Rattle.part_log.proofs.Room.{inside_from}
use Rattle.part_log.proofs.LastRecord.{long_rest, next_byte, appending, appended, still_table}

-- the gate behind the last record is closed
last_shut : (segment : ℕ) (infos : List SegmentInfo) (parts : List (List Written)) (c : List ℕ) → 1 ≤ length infos → last_used infos + 2 ≤ segment → AllFront segment infos parts c → get_or c (place_of segment (last_segment infos) + last_used infos) 0 ≢ 79
last_shut segment [] parts c some room fronts = absurd (omega (arith, some))
last_shut segment (info ∷ infos) [] c some room fronts = absurd fronts
last_shut segment (info ∷ []) (part ∷ parts) c some room fronts = fronts.0.shut room
last_shut segment (info ∷ other ∷ infos) (part ∷ parts) c some room fronts = last_shut segment (other ∷ infos) parts c (omega arith) room fronts.1

last_small : (manifest : Manifest) (infos : List SegmentInfo) → 1 ≤ length infos → All (IsLive manifest) (lives_of infos) → last_segment infos < manifest.settings.segments
last_small manifest [] some each = absurd (omega (arith, some))
last_small manifest (info ∷ []) some each = (each 0 (record { segment = 0; generation = 0 }) (omega arith)).segment
last_small manifest (info ∷ other ∷ infos) some each = last_small manifest (other ∷ infos) (omega arith) (λ k d lt. each (suc k) d (omega (arith, lt)))

module _ (table : LogTable) (good : IsTable table) where
  pub some_segments : 1 ≤ length table.segments
  some_segments = omega (arith, good.manifest.some, length-lives_of table.segments)

  pub next_inside : (n : ℕ) → last_used table.segments + n ≤ table.settings.segment → next_place table + n ≤ disk_size table.settings
  next_inside n room = let inside = inside_from table (last_segment table.segments) (last_small _ table.segments some_segments good.manifest.each) in omega (arith, inside, room)

  module _ (entry : Record) (rest : List ℕ) (follows : Follows table entry rest) (room : last_used table.segments + record_size entry + 1 ≤ table.settings.segment) where
    spelled : Spells (spelling_of entry) entry
    spelled = Spells.plain follows.fields refl

    pub size_of_rest : length rest ≡ record_size entry
    size_of_rest = long_rest table.settings.segment rest (written_of entry) [] [] follows.whole ∙ size_of_text entry follows.fields

    pub gate_inside : next_place table + 1 + length rest ≤ disk_size table.settings
    gate_inside = omega (arith, next_inside (record_size entry + 1) (omega (arith, room)), size_of_rest)

    room_text : last_used table.segments + length (spelling_of entry) + 1 ≤ table.settings.segment
    room_text = omega (arith, room, size_of_text entry follows.fields)

    pub gate_shut : (content : Content) (placed : List Placed) → IsLog table content placed → IsShut (next_place table) content
    gate_shut content placed log c image = last_shut table.settings.segment table.segments log.parts c some_segments (omega (arith, room, size_of_text entry follows.fields, text_long (spelling_of entry) entry spelled)) (log.shown c image).fronts

    pub put_outside : (old new : List ℕ) → Torn (next_place table) (length rest + 1) old new → ChangesIn table.settings.segment (last_segment table.segments) old new
    put_outside old new torn = write_in table.settings.segment (last_segment table.segments) (last_used table.segments) (length rest + 1) old new (omega (arith, room, size_of_rest)) torn

    -- the gate behind the record
    pub put_zeroed : (new : Content) → next_place table < length new.seen → get_or new.seen (next_place table) 0 ≡ 79 → range (next_place table + 1) (length rest) new.seen ≡ rest → Only new → IsZeroed (next_place table + record_size entry) new
    put_zeroed new inside is behind only c image =
        ap (λ (l : List ℕ). get_or l (next_place table + record_size entry) 0) (only c image)
        ∙ ap (λ (n : ℕ). get_or new.seen (next_place table + n) 0) (sym (size_of_text entry follows.fields))
        ∙ next_byte (spelling_of entry) rest new.seen (next_place table) inside is behind follows.whole

    pub put_table : table.end < 2 ^ 62 → IsTable (grown table (record_size entry))
    put_table below = still_table table (record_size entry) (omega (arith, below)) room good

    module _ (old new : Content) (placed : List Placed) (log : IsLog table old placed) (whole : length old.seen ≡ disk_size table.settings) (opens : ChangesBy (OpensGate (next_place table) rest) old new) where
      seen_inside : next_place table < length old.seen
      seen_inside = omega (arith, whole, gate_inside)

      pub put_during : ChangesBy (PutsLast table.settings (last_segment table.segments) (records_of placed) table.end entry) old new
      put_during = appending table rest (written_of entry) follows.whole spelled follows.next good room_text old new placed log seen_inside opens

      pub put_log : get_or new.seen (next_place table) 0 ≡ 79 → Only new → IsLog (grown table (record_size entry)) new (placed ++ placed_at entry (next_place table) ∷ [])
      put_log is only = subst (λ (n : ℕ). IsLog (grown table n) new (placed ++ placed_at entry (next_place table) ∷ [])) (size_of_text entry follows.fields)
          (appended table rest (written_of entry) follows.whole spelled follows.next good room_text old new placed log seen_inside opens is only)

-- a call that keeps the log, and then one that puts a record last
module _ (table after : LogTable) (target : ℕ) (entry : Record) (records : List Record) (old mid new : Content) (keeps : ChangesBy (KeepsLog table.settings target records table.end) old mid) where
  pub keeps_as_put : ChangesBy (PutsLast table.settings target records table.end entry) old mid
  keeps_as_put = widen (KeepsLog table.settings target records table.end) (PutsLast table.settings target records table.end entry) old mid keeps (λ d c image by. record { changes = by.changes; stands = inl by.stands })

  pub keeps_then_put : ChangesBy (PutsLast table.settings target records table.end entry) mid new → ChangesBy (PutsLast table.settings target records table.end entry) old new
  keeps_then_put puts = chain (KeepsLog table.settings target records table.end) (PutsLast table.settings target records table.end entry) (PutsLast table.settings target records table.end entry) old mid new keeps puts
      (λ d c image by. record { changes = by.changes; stands = inl by.stands })
      (λ e c image by.
      let from = image_from (KeepsLog table.settings target records table.end) old mid keeps e image in
      (from.0, from.1, record { changes = writes_twice table.settings.segment target from.0 e c from.2.changes by.changes; stands = by.stands }))

-- the last segment, changed at its place in the list
pub with_more-at : (xs : List SegmentInfo) (d : SegmentInfo) (size : ℕ) → 1 ≤ length xs
    → set xs (length xs - 1) (record (get_or xs (length xs - 1) d) { used = (get_or xs (length xs - 1) d).used + size }) ≡ with_more xs size
with_more-at [] d size some = absurd (omega (arith, some))
with_more-at (x ∷ []) d size some = refl
with_more-at (x ∷ y ∷ ys) d size some =
    let place : length (x ∷ y ∷ ys) - 1 ≡ suc (length (y ∷ ys) - 1) = omega arith in
    ap (λ (k : ℕ). set (x ∷ y ∷ ys) k (record (get_or (x ∷ y ∷ ys) k d) { used = (get_or (x ∷ y ∷ ys) k d).used + size })) place
    ∙ ap (λ (l : List SegmentInfo). x ∷ l) (with_more-at (y ∷ ys) d size (omega arith))
