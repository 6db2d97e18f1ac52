use Rattle.std.proofs.Common.{◌≡◌, ℕ, ◌+◌, ◌<◌, ◌≤◌, ◌^◌, List, [], ◌∷◌, ◌++◌, length, get_or, false, sym, ◌∙◌, ap, subst, arith}
use Rattle.disk_core.specs.Content.{ChangesBy, Torn, range}
use Rattle.gate_slots.specs.Gate.{OpensGate, IsShut, IsZeroed}
use Rattle.msg_format.specs.declared.record.Record.{Record}
use Rattle.msg_format.specs.Records.{record_size}
use Rattle.part_log.specs.declared.segment.SegmentInfo.{SegmentInfo}
use Rattle.part_log.specs.Records.{Placed, placed_at}
use Rattle.part_log.specs.Segments.{place_of, last_segment, last_used, with_more}
use Rattle.part_log.specs.Marks.{AreMarks, NotesMark}
use Rattle.part_log.specs.Log.{LogState, LogTable, IsTable, IsLog, Follows, layout_of, next_place}
use Rattle.part_log.proofs.Layouts.{grown_layout}
use Rattle.part_log.proofs.Staying.{visible_front}
use Rattle.part_log.proofs.Marking.{noted_on}
use Rattle.part_log.proofs.Putting.{size_of_rest, gate_inside, gate_shut, put_outside, put_zeroed, put_table, put_during, put_log}
use Rattle.part_log.proofs.Tables.{table_of}
use Rattle.part_log.proofs.log.PartLog.put_last.Goals as goal
use Rattle.part_log.proofs.log.PartLog.put_last.Goals.{After-next_place-place}

-- What is known of the record that comes next, and of its place.
record Puts (table : LogTable) (entry : Record) (rest : List ℕ) (place : ℕ) : Type 0 where
  good : IsTable table
  follows : Follows table entry rest
  room : last_used table.segments + record_size entry + 1 ≤ table.settings.segment
  place_is : place ≡ next_place table

puts : (g : _) (c : After-next_place-place g) → (let s = c.self.inside in Puts (table_of s.settings s.segments.items s.next_generation s.end s.slots s.tokens) c.args.entry.now c.args.rest.now c.next_place-place.result)
puts g c = record {
  good = c.self.invariant.0;
  follows = subst (λ (v : LogState g.row.D.Denot). Follows v.table c.args.entry.now c.args.rest.now) (sym c.self.view_is) c.requires.follows;
  room = subst (λ (v : LogState g.row.D.Denot). last_used v.table.segments + record_size c.args.entry.now + 1 ≤ v.table.settings.segment) (sym c.self.view_is) c.requires.room;
  place_is = c.next_place-place.ensures ∙ ap (λ (l : List SegmentInfo). place_of c.self.inside.settings.segment (last_segment l) + last_used l) c.deref.ensures.value;
}

pub write_gated-requires-clause-place : goal.write_gated-requires-clause-place
write_gated-requires-clause-place g c =
    let s = c.self.inside in
    let table = table_of s.settings s.segments.items s.next_generation s.end s.slots s.tokens in
    let it = puts g (goal.at.write_gated-requires-clause-place g c).After-next_place-place in
    omega (arith, it.place_is, gate_inside table it.good c.args.entry.now c.args.rest.now it.follows it.room, c.self.invariant.1)

pub write_gated-requires-clause-shut : goal.write_gated-requires-clause-shut
write_gated-requires-clause-shut g c =
    let s = c.self.inside in
    let table = table_of s.settings s.segments.items s.next_generation s.end s.slots s.tokens in
    let it = puts g (goal.at.write_gated-requires-clause-shut g c).After-next_place-place in
    λ t. let up : s.down ≡ false = ap (λ (v : LogState g.row.D.Denot). v.down) c.self.view_is ∙ c.requires.up in
    let standing = c.self.invariant.2 t up in
    subst (λ (k : ℕ). IsShut k (g.D.Disk.content s.disk)) (sym it.place_is) (gate_shut table it.good c.args.entry.now c.args.rest.now it.follows it.room (g.D.Disk.content s.disk) standing.0 standing.1)

pub invariant_of-self : goal.invariant_of-self
invariant_of-self g c =
    let s = c.self.inside in
    let table = table_of s.settings s.segments.items s.next_generation s.end s.slots s.tokens in
    let it = puts g (goal.at.invariant_of-self g c).After-next_place-place in
    let opens : (t : g.D.Disk.tells) → ChangesBy (OpensGate (next_place table) c.args.rest.now) (g.D.Disk.content s.disk) (g.D.Disk.content c.write_gated.new.disk) = λ t. subst (λ (k : ℕ). ChangesBy (OpensGate k c.args.rest.now) (g.D.Disk.content s.disk) (g.D.Disk.content c.write_gated.new.disk)) it.place_is (c.write_gated.ensures.during t) in
    let whole : (t : g.D.Disk.tells) → length (g.D.Disk.content s.disk).seen ≡ place_of s.settings.segment s.settings.segments = λ t. g.met.D.Disk.whole s.disk t ∙ c.self.invariant.1 in
    let grown_is : c.grow_last.new.segments.items ≡ with_more s.segments.items (record_size c.args.entry.now) = c.grow_last.ensures ∙ ap (λ (n : ℕ). with_more s.segments.items n) c.record_size.ensures in
    let put : (t : g.D.Disk.tells) → (placed : List Placed) → IsLog table (g.D.Disk.content s.disk) placed
    → IsLog (table_of s.settings c.grow_last.new.segments.items s.next_generation (s.end + 1) s.slots s.tokens) (g.D.Disk.content c.write_gated.new.disk) (placed ++ placed_at c.args.entry.now c.next_place-place.result ∷ []) = λ t placed log.
    subst (λ (k : ℕ). IsLog (table_of s.settings c.grow_last.new.segments.items s.next_generation (s.end + 1) s.slots s.tokens) (g.D.Disk.content c.write_gated.new.disk) (placed ++ placed_at c.args.entry.now k ∷ [])) (sym it.place_is)
    (subst (λ (l : List SegmentInfo). IsLog (table_of s.settings l s.next_generation (s.end + 1) s.slots s.tokens) (g.D.Disk.content c.write_gated.new.disk) (placed ++ placed_at c.args.entry.now (next_place table) ∷ [])) (sym grown_is)
    (put_log table it.good c.args.entry.now c.args.rest.now it.follows it.room (g.D.Disk.content s.disk) (g.D.Disk.content c.write_gated.new.disk) placed log (whole t) (opens t)
    (subst (λ (k : ℕ). get_or (g.D.Disk.content c.write_gated.new.disk).seen k 0 ≡ 79) it.place_is (c.in-Ok.ensures.opened t)) (c.in-Ok.ensures.only t))) in
    let p : Placed = placed_at c.args.entry.now c.next_place-place.result in
    let noted : (t : g.D.Disk.tells) → (placed : List Placed) → AreMarks s.marks.list.items placed → AreMarks c.note.new.self.list.items (placed ++ p ∷ []) = λ t placed are.
    noted_on s.marks.list.items c.note.new.self.list.items p (subst (λ (n : ℕ). NotesMark n c.next_place-place.result s.marks.list.items c.note.new.self.list.items) (sym it.follows.next) c.note.ensures) placed are in
    let below = subst (λ (v : LogState g.row.D.Denot). v.table.end < 2 ^ 62) (sym c.self.view_is) c.requires.below in (
      subst (λ (l : List SegmentInfo). IsTable (table_of s.settings l s.next_generation (s.end + 1) s.slots s.tokens)) (sym grown_is) (put_table table it.good c.args.entry.now c.args.rest.now it.follows it.room below),
      c.write_gated.ensures.size ∙ c.self.invariant.1,
      λ t up. let standing = c.self.invariant.2 t up in (standing.0 ++ placed_at c.args.entry.now c.next_place-place.result ∷ [], put t standing.0 standing.1, noted t standing.0 standing.2),
    )

pub returns-in-Ok-clause-during : goal.returns-in-Ok-clause-during
returns-in-Ok-clause-during g c =
    let s = c.self.inside in
    let table = table_of s.settings s.segments.items s.next_generation s.end s.slots s.tokens in
    let it = puts g (goal.at.returns-in-Ok-clause-during g c).After-next_place-place in
    let opens : (t : g.D.Disk.tells) → ChangesBy (OpensGate (next_place table) c.args.rest.now) (g.D.Disk.content s.disk) (g.D.Disk.content c.write_gated.new.disk) = λ t. subst (λ (k : ℕ). ChangesBy (OpensGate k c.args.rest.now) (g.D.Disk.content s.disk) (g.D.Disk.content c.write_gated.new.disk)) it.place_is (c.write_gated.ensures.during t) in
    let whole : (t : g.D.Disk.tells) → length (g.D.Disk.content s.disk).seen ≡ place_of s.settings.segment s.settings.segments = λ t. g.met.D.Disk.whole s.disk t ∙ c.self.invariant.1 in
    rw (← c.self.view_is) (λ t placed log. put_during table it.good c.args.entry.now c.args.rest.now it.follows it.room (g.D.Disk.content s.disk) (g.D.Disk.content c.write_gated.new.disk) placed log (whole t) (opens t))

pub returns-in-Ok-clause-outside : goal.returns-in-Ok-clause-outside
returns-in-Ok-clause-outside g c =
    let s = c.self.inside in
    let table = table_of s.settings s.segments.items s.next_generation s.end s.slots s.tokens in
    let it = puts g (goal.at.returns-in-Ok-clause-outside g c).After-next_place-place in
    rw (← c.self.view_is) (λ t. put_outside table it.good c.args.entry.now c.args.rest.now it.follows it.room _ _ (subst (λ (k : ℕ). Torn k (length c.args.rest.now + 1) (g.D.Disk.content s.disk).seen (g.D.Disk.content c.write_gated.new.disk).seen) it.place_is (c.write_gated.ensures.outside t)))

pub returns-in-Err-clause-during : goal.returns-in-Err-clause-during
returns-in-Err-clause-during g c =
    let s = c.self.inside in
    let table = table_of s.settings s.segments.items s.next_generation s.end s.slots s.tokens in
    let it = puts g (goal.at.returns-in-Err-clause-during g c).After-next_place-place in
    let opens : (t : g.D.Disk.tells) → ChangesBy (OpensGate (next_place table) c.args.rest.now) (g.D.Disk.content s.disk) (g.D.Disk.content c.write_gated.new.disk) = λ t. subst (λ (k : ℕ). ChangesBy (OpensGate k c.args.rest.now) (g.D.Disk.content s.disk) (g.D.Disk.content c.write_gated.new.disk)) it.place_is (c.write_gated.ensures.during t) in
    let whole : (t : g.D.Disk.tells) → length (g.D.Disk.content s.disk).seen ≡ place_of s.settings.segment s.settings.segments = λ t. g.met.D.Disk.whole s.disk t ∙ c.self.invariant.1 in
    rw (← c.self.view_is) (λ t placed log. put_during table it.good c.args.entry.now c.args.rest.now it.follows it.room (g.D.Disk.content s.disk) (g.D.Disk.content c.write_gated.new.disk) placed log (whole t) (opens t))

pub returns-in-Err-clause-outside : goal.returns-in-Err-clause-outside
returns-in-Err-clause-outside g c =
    let s = c.self.inside in
    let table = table_of s.settings s.segments.items s.next_generation s.end s.slots s.tokens in
    let it = puts g (goal.at.returns-in-Err-clause-outside g c).After-next_place-place in
    rw (← c.self.view_is) (λ t. put_outside table it.good c.args.entry.now c.args.rest.now it.follows it.room _ _ (subst (λ (k : ℕ). Torn k (length c.args.rest.now + 1) (g.D.Disk.content s.disk).seen (g.D.Disk.content c.write_gated.new.disk).seen) it.place_is (c.write_gated.ensures.outside t)))

pub returns-in-Ok-clause-put : goal.returns-in-Ok-clause-put
returns-in-Ok-clause-put g c =
    let s = c.self.inside in
    let table = table_of s.settings s.segments.items s.next_generation s.end s.slots s.tokens in
    let it = puts g (goal.at.returns-in-Ok-clause-put g c).After-next_place-place in
    let opens : (t : g.D.Disk.tells) → ChangesBy (OpensGate (next_place table) c.args.rest.now) (g.D.Disk.content s.disk) (g.D.Disk.content c.write_gated.new.disk) = λ t. subst (λ (k : ℕ). ChangesBy (OpensGate k c.args.rest.now) (g.D.Disk.content s.disk) (g.D.Disk.content c.write_gated.new.disk)) it.place_is (c.write_gated.ensures.during t) in
    let whole : (t : g.D.Disk.tells) → length (g.D.Disk.content s.disk).seen ≡ place_of s.settings.segment s.settings.segments = λ t. g.met.D.Disk.whole s.disk t ∙ c.self.invariant.1 in
    let grown_is : c.grow_last.new.segments.items ≡ with_more s.segments.items (record_size c.args.entry.now) = c.grow_last.ensures ∙ ap (λ (n : ℕ). with_more s.segments.items n) c.record_size.ensures in
    let put : (t : g.D.Disk.tells) → (placed : List Placed) → IsLog table (g.D.Disk.content s.disk) placed
    → IsLog (table_of s.settings c.grow_last.new.segments.items s.next_generation (s.end + 1) s.slots s.tokens) (g.D.Disk.content c.write_gated.new.disk) (placed ++ placed_at c.args.entry.now c.next_place-place.result ∷ []) = λ t placed log.
    subst (λ (k : ℕ). IsLog (table_of s.settings c.grow_last.new.segments.items s.next_generation (s.end + 1) s.slots s.tokens) (g.D.Disk.content c.write_gated.new.disk) (placed ++ placed_at c.args.entry.now k ∷ [])) (sym it.place_is)
    (subst (λ (l : List SegmentInfo). IsLog (table_of s.settings l s.next_generation (s.end + 1) s.slots s.tokens) (g.D.Disk.content c.write_gated.new.disk) (placed ++ placed_at c.args.entry.now (next_place table) ∷ [])) (sym grown_is)
    (put_log table it.good c.args.entry.now c.args.rest.now it.follows it.room (g.D.Disk.content s.disk) (g.D.Disk.content c.write_gated.new.disk) placed log (whole t) (opens t)
    (subst (λ (k : ℕ). get_or (g.D.Disk.content c.write_gated.new.disk).seen k 0 ≡ 79) it.place_is (c.in-Ok.ensures.opened t)) (c.in-Ok.ensures.only t))) in
    rw (← c.self.view_is) put

pub returns-in-Ok-clause-visible : goal.returns-in-Ok-clause-visible
returns-in-Ok-clause-visible g c =
    let s = c.self.inside in
    let table = table_of s.settings s.segments.items s.next_generation s.end s.slots s.tokens in
    let it = puts g (goal.at.returns-in-Ok-clause-visible g c).After-next_place-place in
    let fits : last_used s.segments.items + (length c.args.rest.now + 1) ≤ s.settings.segment = omega (arith, it.room, size_of_rest table it.good c.args.entry.now c.args.rest.now it.follows it.room) in
    rw (← c.self.view_is) (λ t placed log. visible_front table it.good (g.D.Disk.content s.disk) placed log (length c.args.rest.now + 1) (g.D.Disk.content c.write_gated.new.disk).seen fits
    (subst (λ (k : ℕ). Torn k (length c.args.rest.now + 1) (g.D.Disk.content s.disk).seen (g.D.Disk.content c.write_gated.new.disk).seen) it.place_is (c.write_gated.ensures.outside t)))

pub returns-in-Err-clause-visible : goal.returns-in-Err-clause-visible
returns-in-Err-clause-visible g c =
    let s = c.self.inside in
    let table = table_of s.settings s.segments.items s.next_generation s.end s.slots s.tokens in
    let it = puts g (goal.at.returns-in-Err-clause-visible g c).After-next_place-place in
    let fits : last_used s.segments.items + (length c.args.rest.now + 1) ≤ s.settings.segment = omega (arith, it.room, size_of_rest table it.good c.args.entry.now c.args.rest.now it.follows it.room) in
    rw (← c.self.view_is) (λ t placed log. visible_front table it.good (g.D.Disk.content s.disk) placed log (length c.args.rest.now + 1) (g.D.Disk.content c.write_gated.new.disk).seen fits
    (subst (λ (k : ℕ). Torn k (length c.args.rest.now + 1) (g.D.Disk.content s.disk).seen (g.D.Disk.content c.write_gated.new.disk).seen) it.place_is (c.write_gated.ensures.outside t)))

pub returns-in-Ok-clause-good : goal.returns-in-Ok-clause-good
returns-in-Ok-clause-good g c =
    let s = c.self.inside in
    let table = table_of s.settings s.segments.items s.next_generation s.end s.slots s.tokens in
    let it = puts g (goal.at.returns-in-Ok-clause-good g c).After-next_place-place in
    let below = subst (λ (v : LogState g.row.D.Denot). v.table.end < 2 ^ 62) (sym c.self.view_is) c.requires.below in
    let grown_is : c.grow_last.new.segments.items ≡ with_more s.segments.items (record_size c.args.entry.now) = c.grow_last.ensures ∙ ap (λ (n : ℕ). with_more s.segments.items n) c.record_size.ensures in
    subst (λ (l : List SegmentInfo). IsTable (table_of s.settings l s.next_generation (s.end + 1) s.slots s.tokens)) (sym grown_is)
    (put_table table it.good c.args.entry.now c.args.rest.now it.follows it.room below)

pub returns-in-Ok-clause-layout : goal.returns-in-Ok-clause-layout
returns-in-Ok-clause-layout g c =
    let s = c.self.inside in
    let table = table_of s.settings s.segments.items s.next_generation s.end s.slots s.tokens in
    let grown_is : c.grow_last.new.segments.items ≡ with_more s.segments.items (record_size c.args.entry.now) = c.grow_last.ensures ∙ ap (λ (n : ℕ). with_more s.segments.items n) c.record_size.ensures in
    rw (← c.self.view_is)
    (ap (λ (l : List SegmentInfo). layout_of (table_of s.settings l s.next_generation (s.end + 1) s.slots s.tokens)) grown_is
    ∙ grown_layout table (record_size c.args.entry.now) c.self.invariant.0)

pub returns-in-Ok-clause-zero : goal.returns-in-Ok-clause-zero
returns-in-Ok-clause-zero g c =
    let s = c.self.inside in
    let table = table_of s.settings s.segments.items s.next_generation s.end s.slots s.tokens in
    let entry = c.args.entry.now in
    let rest = c.args.rest.now in
    let it = puts g (goal.at.returns-in-Ok-clause-zero g c).After-next_place-place in
    let new = g.D.Disk.content c.write_gated.new.disk in λ t.
    let whole : length new.seen ≡ place_of s.settings.segment s.settings.segments = g.met.D.Disk.whole c.write_gated.new.disk t ∙ c.write_gated.ensures.size ∙ c.self.invariant.1 in
    let inside : next_place table < length new.seen = omega (arith, whole, gate_inside table it.good entry rest it.follows it.room) in
    subst (λ (k : ℕ). IsZeroed (k + record_size entry) new) (sym it.place_is)
    (put_zeroed table it.good entry rest it.follows it.room new inside
    (subst (λ (k : ℕ). get_or new.seen k 0 ≡ 79) it.place_is (c.in-Ok.ensures.opened t))
    (subst (λ (k : ℕ). range (k + 1) (length rest) new.seen ≡ rest) it.place_is (c.in-Ok.ensures.written t))
    (c.in-Ok.ensures.only t))
