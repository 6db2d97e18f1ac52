use Rattle.std.proofs.Common.{◌≡◌, inr, ℕ, ◌+◌, List, [], ◌∷◌, ◌++◌, refl, sym, ◌∙◌, ap, subst, arith}
use Rattle.gate_slots.specs.Slots.{CurrentSlot}
use Rattle.log_manifest.specs.Manifests.{manifest_text}
use Rattle.part_log.specs.declared.marks.Mark.{Mark}
use Rattle.part_log.specs.declared.segment.SegmentInfo.{SegmentInfo}
use Rattle.part_log.specs.Marks.{AreMarks}
use Rattle.part_log.specs.Segments.{lives_of}
use Rattle.part_log.specs.Log.{IsLog, IsTable, first_table, layout_of, manifest_of}
use Rattle.part_log.specs.Layout.{first_layout}
use Rattle.part_log.proofs.Layouts.{sequence_same}
use Rattle.part_log.proofs.Formatting.{first_good, first_layout_is, opens_seen}
use Rattle.part_log.proofs.Tables.{table_of}
use Rattle.part_log.proofs.opening.format.Goals as goal

pub returns-in_err-name_segment-clause-opens : goal.returns-in_err-name_segment-clause-opens
returns-in_err-name_segment-clause-opens g c = λ t.
    let first : SegmentInfo = record { segment = 0; generation = 0; used = 0; first = 0 } in
    let segments_are = c.in_ok-add_info.ensures ∙ ap (λ (l : List SegmentInfo). l ++ first ∷ []) c.new-segments.ensures.items in
    let text_is : c.as_slice.result.now ≡ manifest_text (manifest_of (first_table c.args.settings c.args.slots c.args.tokens) 0) =
    c.as_slice.ensures ∙ c.in_ok-text.ensures ∙ ap (λ (l : List SegmentInfo). manifest_text (record { settings = c.args.settings; next_generation = 1; floor = 0; live = lives_of l })) (c.deref.ensures.value ∙ segments_are) in
    opens_seen c.args.settings (g.D.Disk.content c.args.disk.now) (g.D.Disk.content c.name_segment.new.disk) (c.requires.only t) (c.name_segment.ensures.formats t c.args.settings c.args.tokens c.requires.ranges c.requires.tokens (c.requires.tokens_loaded t) refl text_is (c.requires.only t) (c.requires.value t))

pub returns-clause-opens : goal.returns-clause-opens
returns-clause-opens g c = λ t.
    let first : SegmentInfo = record { segment = 0; generation = 0; used = 0; first = 0 } in
    let segments_are = c.in_ok-add_info.ensures ∙ ap (λ (l : List SegmentInfo). l ++ first ∷ []) c.new-segments.ensures.items in
    let text_is : c.as_slice.result.now ≡ manifest_text (manifest_of (first_table c.args.settings c.args.slots c.args.tokens) 0) =
    c.as_slice.ensures ∙ c.in_ok-text.ensures ∙ ap (λ (l : List SegmentInfo). manifest_text (record { settings = c.args.settings; next_generation = 1; floor = 0; live = lives_of l })) (c.deref.ensures.value ∙ segments_are) in
    opens_seen c.args.settings (g.D.Disk.content c.args.disk.now) (g.D.Disk.content c.name_segment.new.disk) (c.requires.only t) (c.name_segment.ensures.formats t c.args.settings c.args.tokens c.requires.ranges c.requires.tokens (c.requires.tokens_loaded t) refl text_is (c.requires.only t) (c.requires.value t))

pub returns-clause-during : goal.returns-clause-during
returns-clause-during g c = λ t.
    let first : SegmentInfo = record { segment = 0; generation = 0; used = 0; first = 0 } in
    let segments_are = c.in_ok-add_info.ensures ∙ ap (λ (l : List SegmentInfo). l ++ first ∷ []) c.new-segments.ensures.items in
    let text_is : c.as_slice.result.now ≡ manifest_text (manifest_of (first_table c.args.settings c.args.slots c.args.tokens) 0) =
    c.as_slice.ensures ∙ c.in_ok-text.ensures ∙ ap (λ (l : List SegmentInfo). manifest_text (record { settings = c.args.settings; next_generation = 1; floor = 0; live = lives_of l })) (c.deref.ensures.value ∙ segments_are) in
    c.name_segment.ensures.formats t c.args.settings c.args.tokens c.requires.ranges c.requires.tokens (c.requires.tokens_loaded t) refl text_is (c.requires.only t) (c.requires.value t)

pub returns-clause-table : goal.returns-clause-table
returns-clause-table g c =
    let first : SegmentInfo = record { segment = 0; generation = 0; used = 0; first = 0 } in
    let segments_are = c.in_ok-add_info.ensures ∙ ap (λ (l : List SegmentInfo). l ++ first ∷ []) c.new-segments.ensures.items in
    let slots = c.name_segment.new.slots in
    let slots_are = c.in_ok-name_segment.ensures.slots in
    subst (λ (l : List SegmentInfo). IsTable (table_of c.args.settings l 1 0 slots c.args.tokens)) (sym segments_are)
    (first_good c.args.settings slots c.args.tokens c.requires.ranges (ap (λ (s : CurrentSlot). s.base) slots_are) (omega (arith, c.requires.sequence, ap (λ (s : CurrentSlot). s.sequence) slots_are)) c.requires.tokens)

pub returns-clause-opened : goal.returns-clause-opened
returns-clause-opened g c = λ t.
    let first : SegmentInfo = record { segment = 0; generation = 0; used = 0; first = 0 } in
    let segments_are = c.in_ok-add_info.ensures ∙ ap (λ (l : List SegmentInfo). l ++ first ∷ []) c.new-segments.ensures.items in
    let slots = c.name_segment.new.slots in
    let text_is : c.as_slice.result.now ≡ manifest_text (manifest_of (first_table c.args.settings slots c.args.tokens) 0) =
    c.as_slice.ensures ∙ c.in_ok-text.ensures ∙ ap (λ (l : List SegmentInfo). manifest_text (record { settings = c.args.settings; next_generation = 1; floor = 0; live = lives_of l })) (c.deref.ensures.value ∙ segments_are) in
    record {
      log = subst (λ (l : List SegmentInfo). IsLog (table_of c.args.settings l 1 0 slots c.args.tokens) (g.D.Disk.content c.name_segment.new.disk) []) (sym segments_are)
          (c.in_ok-name_segment.ensures.formatted t c.args.settings c.args.tokens c.requires.ranges c.requires.tokens (c.requires.tokens_loaded t) refl text_is (c.requires.only t) (c.requires.value t));
      stands = inr (record { none = c.requires.value t; empty = refl; first = refl });
      laid_out = inr (
        c.requires.value t,
        ap (λ (l : List SegmentInfo). layout_of (table_of c.args.settings l 1 0 slots c.args.tokens)) segments_are
            ∙ first_layout_is c.args.settings slots c.args.tokens (ap (λ (s : CurrentSlot). s.sequence) c.in_ok-name_segment.ensures.slots ∙ ap (λ (n : ℕ). n + 1) c.requires.sequence)
            ∙ ap (λ (n : ℕ). first_layout n) (sequence_same 2048 c.args.tokens (g.D.Disk.content c.args.disk.now).seen (g.D.Disk.content c.args.disk.now).seen c.requires.tokens.base refl (c.requires.tokens_loaded t)),
      );
      marks = subst (λ (l : List Mark). AreMarks l []) (sym c.new.ensures.none) tt;
    }
