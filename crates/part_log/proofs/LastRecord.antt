-- A record that is put behind the last one.
use Rattle.std.proofs.Common.{◌≡◌, ◌≢◌, inl, inr, ⊎_elim, ℕ, ◌+◌, ◌<◌, ◌≤◌, max, List, [], ◌∷◌, ◌++◌, length, get_or, take, drop, Some, refl, sym, ◌∙◌, ap, subst, arith, append_assoc, ◌^◌, length-append}
use Rattle.std.proofs.lemmas.Bool.{cases_eq}
use Rattle.std.proofs.lemmas.List.{append-nil, take_at, drop_more, get_or_at, take-take}
use Rattle.disk_core.specs.Content.{Content, ChangesBy, Only, range}
use Rattle.disk_core.proofs.Ranges.{range-split, range-torn, get_or-range}
use Rattle.disk_core.proofs.Changes.{widen, image_from}
use Rattle.gate_slots.specs.Gate.{OpensGate}
use Rattle.log_manifest.specs.declared.manifest.Live.{Live}
use Rattle.log_manifest.specs.Manifests.{IsManifest, manifest_text}
use Rattle.msg_format.specs.declared.record.Record.{Record}
use Rattle.msg_format.specs.Records.{Spells, lsn_of}
use Rattle.msg_format.proofs.Spelled.{fields_of}
use Rattle.part_log.specs.declared.segment.SegmentInfo.{SegmentInfo}
use Rattle.part_log.specs.Records.{Written, entries_of, laid, RisesFrom, next_after, first_lsn, Placed, placed_from, records_of}
use Rattle.part_log.specs.Segments.{place_of, lives_of, last_segment, last_used, with_more, ChangesIn}
use Rattle.part_log.specs.Images.{joined, HasLog, PutsLast}
use Rattle.part_log.specs.Log.{LogTable, manifest_of, AllFit, IsTable, IsFront, AllFront, AllSized, AllFirst, placed_in, IsShown, IsLog, grown}
use Rattle.part_log.proofs.Records.{laid-one, length-laid-one, AreWritten-one, RisesFrom-one, next_after-one, first_lsn-one, placed_from-one, entries_of-append}
use Rattle.part_log.proofs.Segments.{write_in}
use Rattle.part_log.proofs.Manifests.{Without, AllApart, named_apart, higher_floor, length-lives_of}
use Rattle.part_log.proofs.Fronts.{front_same, shown_stands, value_same, loaded_same, both_same, its_records}

-- the record stands behind the last one of the last segment
abbrev pub with_last : List (List Written) → Written → List (List Written)
with_last [] w = []
with_last (part ∷ []) w = (part ++ w ∷ []) ∷ []
with_last (part ∷ other ∷ parts) w = part ∷ with_last (other ∷ parts) w

pub lives_of-with_more : (infos : List SegmentInfo) (size : ℕ) → lives_of (with_more infos size) ≡ lives_of infos
lives_of-with_more [] size = refl
lives_of-with_more (info ∷ []) size = refl
lives_of-with_more (info ∷ other ∷ infos) size = ap (λ (l : List Live). record { segment = info.segment; generation = info.generation } ∷ l) (lives_of-with_more (other ∷ infos) size)

pub fit-with_more : (segment : ℕ) (infos : List SegmentInfo) (size : ℕ) → last_used infos + size + 1 ≤ segment → AllFit segment infos → AllFit segment (with_more infos size)
fit-with_more segment [] size room fit = tt
fit-with_more segment (info ∷ []) size room fit = (omega (arith, room), tt)
fit-with_more segment (info ∷ other ∷ infos) size room fit = (fit.0, fit-with_more segment (other ∷ infos) size room fit.1)

-- there are segments, each with its part
pub record IsParted (infos : List SegmentInfo) (parts : List (List Written)) : Type 0 where
  pub some : 1 ≤ length infos
  pub sized : AllSized infos parts

pub sized-with_last : (infos : List SegmentInfo) (parts : List (List Written)) (w : Written) → Spells w.text w.entry → AllSized infos parts → AllSized (with_more infos (length w.text)) (with_last parts w)
sized-with_last [] [] w good sized = tt
sized-with_last [] (part ∷ parts) w good sized = absurd sized
sized-with_last (info ∷ infos) [] w good sized = absurd sized
sized-with_last (info ∷ []) (part ∷ []) w good sized = (omega (arith, sized.0, length-laid-one part w), AreWritten-one part w sized.1 good, tt)
sized-with_last (info ∷ []) (part ∷ other ∷ parts) w good sized = absurd sized.2
sized-with_last (info ∷ other ∷ infos) (part ∷ []) w good sized = absurd sized.2
sized-with_last (info ∷ other ∷ infos) (part ∷ next ∷ parts) w good sized = (sized.0, sized.1, sized-with_last (other ∷ infos) (next ∷ parts) w good sized.2)

pub joined-with_last : (infos : List SegmentInfo) (parts : List (List Written)) (w : Written) → 1 ≤ length infos → AllSized infos parts → joined (with_last parts w) ≡ joined parts ++ w ∷ []
joined-with_last [] parts w some sized = absurd (omega (arith, some))
joined-with_last (info ∷ infos) [] w some sized = absurd sized
joined-with_last (info ∷ []) (part ∷ []) w some sized = append-nil (part ++ w ∷ []) ∙ ap (λ (l : List Written). l ++ w ∷ []) (sym (append-nil part))
joined-with_last (info ∷ []) (part ∷ other ∷ parts) w some sized = absurd sized.2
joined-with_last (info ∷ other ∷ infos) (part ∷ []) w some sized = absurd sized.2
joined-with_last (info ∷ other ∷ infos) (part ∷ next ∷ parts) w some sized =
    ap (λ (l : List Written). part ++ l) (joined-with_last (other ∷ infos) (next ∷ parts) w (omega arith) sized.2) ∙ sym (append_assoc part (joined (next ∷ parts)) (w ∷ []))

pub first-with_last : (infos : List SegmentInfo) (parts : List (List Written)) (w : Written) (end : ℕ) → lsn_of w.entry ≡ end → AllSized infos parts → AllFirst infos parts end → AllFirst (with_more infos (length w.text)) (with_last parts w) (end + 1)
first-with_last [] parts w end is sized firsts = tt
first-with_last (info ∷ infos) [] w end is sized firsts = absurd sized
first-with_last (info ∷ []) (part ∷ []) w end is sized firsts = (
  firsts.0 ∙ ap (λ (l : List Written). first_lsn l end) (append-nil part) ∙ sym (first_lsn-one part w end is) ∙ ap (λ (l : List Written). first_lsn l (end + 1)) (sym (append-nil (part ++ w ∷ []))),
  tt,
)
first-with_last (info ∷ []) (part ∷ other ∷ parts) w end is sized firsts = absurd sized.2
first-with_last (info ∷ other ∷ infos) (part ∷ []) w end is sized firsts = absurd sized.2
first-with_last (info ∷ other ∷ infos) (part ∷ next ∷ parts) w end is sized firsts = (
  firsts.0
      ∙ sym (first_lsn-one (part ++ joined (next ∷ parts)) w end is)
      ∙ ap (λ (l : List Written). first_lsn l (end + 1)) (append_assoc part (joined (next ∷ parts)) (w ∷ []) ∙ ap (λ (l : List Written). part ++ l) (sym (joined-with_last (other ∷ infos) (next ∷ parts) w (omega arith) sized.2))),
  first-with_last (other ∷ infos) (next ∷ parts) w end is sized.2 firsts.1,
)

pub placed-with_last : (segment : ℕ) (infos : List SegmentInfo) (parts : List (List Written)) (w : Written) → 1 ≤ length infos → AllSized infos parts
    → placed_in segment (with_more infos (length w.text)) (with_last parts w) ≡ placed_in segment infos parts ++ record { entry = w.entry; text = w.text; place = place_of segment (last_segment infos) + last_used infos } ∷ []
placed-with_last segment [] parts w some sized = absurd (omega (arith, some))
placed-with_last segment (info ∷ infos) [] w some sized = absurd sized
placed-with_last segment (info ∷ []) (part ∷ []) w some sized =
    append-nil (placed_from (place_of segment info.segment) (part ++ w ∷ []))
    ∙ placed_from-one (place_of segment info.segment) part w
    ∙ ap (λ (k : ℕ). placed_from (place_of segment info.segment) part ++ record { entry = w.entry; text = w.text; place = place_of segment info.segment + k } ∷ []) (sym sized.0)
    ∙ ap (λ (l : List Placed). l ++ record { entry = w.entry; text = w.text; place = place_of segment info.segment + info.used } ∷ []) (sym (append-nil (placed_from (place_of segment info.segment) part)))
placed-with_last segment (info ∷ []) (part ∷ other ∷ parts) w some sized = absurd sized.2
placed-with_last segment (info ∷ other ∷ infos) (part ∷ []) w some sized = absurd sized.2
placed-with_last segment (info ∷ other ∷ infos) (part ∷ next ∷ parts) w some sized =
    ap (λ (l : List Placed). placed_from (place_of segment info.segment) part ++ l) (placed-with_last segment (other ∷ infos) (next ∷ parts) w (omega arith) sized.2)
    ∙ sym (append_assoc (placed_from (place_of segment info.segment) part) (placed_in segment (other ∷ infos) (next ∷ parts)) (record { entry = w.entry; text = w.text; place = place_of segment (last_segment (other ∷ infos)) + last_used (other ∷ infos) } ∷ []))

pub last_apart : (i : ℕ) (info : SegmentInfo) (infos : List SegmentInfo) → Without i (info ∷ infos) → i ≢ last_segment (info ∷ infos)
last_apart i info [] apart = apart.0
last_apart i info (other ∷ infos) apart = last_apart i other infos apart.1

-- what a crash leaves of the bytes that are put, and the closed gate behind them
module _ (text rest c : List ℕ) (gate : ℕ) (size : gate < length c) (is_open : get_or c gate 0 ≡ 79) (behind : range (gate + 1) (length rest) c ≡ rest) (whole : 79 ∷ rest ≡ text ++ 0 ∷ []) where
  byte_range : range gate 1 c ≡ 79 ∷ []
  byte_range = ap (λ (l : List ℕ). take 1 l) (drop_more c gate 0 size) ∙ ap (λ (b : ℕ). b ∷ []) is_open

  long : length rest + 1 ≡ length text + 1
  long = omega (arith, ap (λ (l : List ℕ). length l) whole, length-append text (0 ∷ []))

  pub stands_whole : range gate (length text + 1) c ≡ text ++ 0 ∷ []
  stands_whole =
      ap (λ (n : ℕ). range gate n c) (let e : length text + 1 ≡ 1 + length rest = omega (arith, long) in e)
      ∙ range-split gate 1 (length rest) c
      ∙ ap (λ (l : List ℕ). l ++ range (gate + 1) (length rest) c) byte_range
      ∙ ap (λ (l : List ℕ). 79 ∷ l) behind
      ∙ whole

  pub stands_text : range gate (length text) c ≡ text
  stands_text = sym (take-take (length text) (length text + 1) (drop gate c) (omega arith)) ∙ ap (λ (l : List ℕ). take (length text) l) stands_whole ∙ take_at text (0 ∷ []) (length text) refl

  pub next_byte : get_or c (gate + length text) 0 ≡ 0
  next_byte = sym (get_or-range gate (length text + 1) c (length text) (omega arith)) ∙ ap (λ (l : List ℕ). get_or l (length text) 0) stands_whole ∙ get_or_at text 0 [] 0 (length text) refl

-- a write behind the last record of the last segment
module _ (segment : ℕ) (rest : List ℕ) (w : Written) (d c : List ℕ) (whole : 79 ∷ rest ≡ w.text ++ 0 ∷ []) where
  abbrev size : ℕ
  size = length w.text

  pub long_rest : length rest ≡ length w.text
  long_rest = let e : length rest + 1 ≡ length w.text + 1 = omega (arith, ap (λ (l : List ℕ). length l) whole, length-append w.text (0 ∷ [])) in omega (arith, e)

  -- whose gate stays closed
  front_shut : (info : SegmentInfo) (part : List Written) → OpensGate (place_of segment info.segment + info.used) rest d c → get_or c (place_of segment info.segment + info.used) 0 ≢ 79 → IsFront segment info part d → IsFront segment info part c
  front_shut info part by shut front = record {
    front = range-torn (place_of segment info.segment + info.used) (length rest + 1) (place_of segment info.segment) info.used d c by.torn (inl (omega arith)) ∙ front.front;
    shut = λ room. shut;
  }

  -- or is opened
  front_open : (info : SegmentInfo) (part : List Written) → place_of segment info.segment + info.used < length c → OpensGate (place_of segment info.segment + info.used) rest d c → get_or c (place_of segment info.segment + info.used) 0 ≡ 79 → IsFront segment info part d
      → IsFront segment (record info { used = info.used + length w.text }) (part ++ w ∷ []) c
  front_open info part inside by is front =
      let gate : ℕ = place_of segment info.segment + info.used in
      let behind = by.opened is in
      record {
        front =
            range-split (place_of segment info.segment) info.used (length w.text) c
            ∙ ap (λ (l : List ℕ). l ++ range gate (length w.text) c) (range-torn gate (length rest + 1) (place_of segment info.segment) info.used d c by.torn (inl (omega arith)) ∙ front.front)
            ∙ ap (λ (l : List ℕ). laid part ++ l) (stands_text w.text rest c gate inside is behind whole)
            ∙ sym (laid-one part w);
        shut = λ room at.
            let place : place_of segment info.segment + (info.used + length w.text) ≡ gate + length w.text = omega arith in
            let zero_byte : get_or c (place_of segment info.segment + (info.used + length w.text)) 0 ≡ 0 = ap (λ (k : ℕ). get_or c k 0) place ∙ next_byte w.text rest c gate inside is behind whole in
            omega (arith, zero_byte, at);
      }

  abbrev gate_of : List SegmentInfo → ℕ
  gate_of infos = place_of segment (last_segment infos) + last_used infos

  torn_in : (infos : List SegmentInfo) → last_used infos + length w.text + 1 ≤ segment → OpensGate (place_of segment (last_segment infos) + last_used infos) rest d c → ChangesIn segment (last_segment infos) d c
  torn_in infos room by = write_in segment (last_segment infos) (last_used infos) (length rest + 1) d c (omega (arith, room, long_rest)) by.torn

  fronts_shut : (infos : List SegmentInfo) (parts : List (List Written)) → AllApart infos → AllFit segment infos → last_used infos + length w.text + 1 ≤ segment
      → OpensGate (place_of segment (last_segment infos) + last_used infos) rest d c → get_or c (place_of segment (last_segment infos) + last_used infos) 0 ≢ 79 → AllFront segment infos parts d → AllFront segment infos parts c
  fronts_shut [] [] apart fit room by shut fronts = tt
  fronts_shut [] (part ∷ parts) apart fit room by shut fronts = absurd fronts
  fronts_shut (info ∷ infos) [] apart fit room by shut fronts = absurd fronts
  fronts_shut (info ∷ []) (part ∷ []) apart fit room by shut fronts = (front_shut info part by shut fronts.0, tt)
  fronts_shut (info ∷ []) (part ∷ other ∷ parts) apart fit room by shut fronts = absurd fronts.1
  fronts_shut (info ∷ other ∷ infos) (part ∷ []) apart fit room by shut fronts = absurd fronts.1
  fronts_shut (info ∷ other ∷ infos) (part ∷ next ∷ parts) apart fit room by shut fronts = (
    front_same segment info part d c fit.0 ((torn_in (other ∷ infos) room by).others info.segment (last_apart info.segment other infos apart.0)) fronts.0,
    fronts_shut (other ∷ infos) (next ∷ parts) apart.1 fit.1 room by shut fronts.1,
  )

  fronts_open : (infos : List SegmentInfo) (parts : List (List Written)) → AllApart infos → AllFit segment infos → last_used infos + length w.text + 1 ≤ segment
      → place_of segment (last_segment infos) + last_used infos < length c
      → OpensGate (place_of segment (last_segment infos) + last_used infos) rest d c → get_or c (place_of segment (last_segment infos) + last_used infos) 0 ≡ 79 → AllFront segment infos parts d
      → AllFront segment (with_more infos (length w.text)) (with_last parts w) c
  fronts_open [] [] apart fit room inside by is fronts = tt
  fronts_open [] (part ∷ parts) apart fit room inside by is fronts = absurd fronts
  fronts_open (info ∷ infos) [] apart fit room inside by is fronts = absurd fronts
  fronts_open (info ∷ []) (part ∷ []) apart fit room inside by is fronts = (front_open info part inside by is fronts.0, tt)
  fronts_open (info ∷ []) (part ∷ other ∷ parts) apart fit room inside by is fronts = absurd fronts.1
  fronts_open (info ∷ other ∷ infos) (part ∷ []) apart fit room inside by is fronts = absurd fronts.1
  fronts_open (info ∷ other ∷ infos) (part ∷ next ∷ parts) apart fit room inside by is fronts = (
    front_same segment info part d c fit.0 ((torn_in (other ∷ infos) room by).others info.segment (last_apart info.segment other infos apart.0)) fronts.0,
    fronts_open (other ∷ infos) (next ∷ parts) apart.1 fit.1 room inside by is fronts.1,
  )

pub still_table : (table : LogTable) (size : ℕ) → table.end < 2 ^ 63 → last_used table.segments + size + 1 ≤ table.settings.segment → IsTable table → IsTable (grown table size)
still_table table size below room good = record {
  settings = good.settings;
  manifest = higher_floor (grown table size) table.end (table.end + 1) (omega (arith, below)) (subst (λ (l : List Live). IsManifest (record { settings = table.settings; next_generation = table.next_generation; floor = table.end; live = l })) (sym (lives_of-with_more table.segments size)) good.manifest);
  fit = fit-with_more table.settings.segment table.segments size room good.fit;
  base = good.base;
  sequence = good.sequence;
  tokens = good.tokens;
}

module _ (table : LogTable) (rest : List ℕ) (w : Written) (whole : 79 ∷ rest ≡ w.text ++ 0 ∷ []) (fields : Spells w.text w.entry) (next : lsn_of w.entry ≡ table.end)
    (good : IsTable table) (room : last_used table.segments + length w.text + 1 ≤ table.settings.segment) where
  abbrev gate : ℕ
  gate = place_of table.settings.segment (last_segment table.segments) + last_used table.segments

  apart : AllApart table.segments
  apart = named_apart table table.end good.manifest

  some : 1 ≤ length table.segments
  some = omega (arith, good.manifest.some, length-lives_of table.segments)

  below : table.end < 2 ^ 63
  below = omega (arith, (fields_of w.text w.entry fields).lsn, next)

  cells_same : (d c : List ℕ) → OpensGate (place_of table.settings.segment (last_segment table.segments) + last_used table.segments) rest d c → range 0 4096 c ≡ range 0 4096 d
  cells_same d c by = range-torn gate (length rest + 1) 0 4096 d c by.torn (inl (omega arith))

  module _ (floor : ℕ) (parts : List (List Written)) (sized : AllSized table.segments parts) (rises : RisesFrom 0 (joined parts)) (ends : table.end ≡ max floor (next_after 0 (joined parts)))
      (d c : List ℕ) (by : OpensGate (place_of table.settings.segment (last_segment table.segments) + last_used table.segments) rest d c) (shown : IsShown table floor parts d) where
    shows_old : get_or c (place_of table.settings.segment (last_segment table.segments) + last_used table.segments) 0 ≢ 79 → IsShown table floor parts c
    shows_old shut = record {
      value = value_same c d (Some (manifest_text (manifest_of table floor))) (both_same d c (cells_same d c by)).manifest shown.value;
      fronts = fronts_shut table.settings.segment rest w d c whole table.segments parts apart good.fit room by shut shown.fronts;
    }

    pub shows_new : place_of table.settings.segment (last_segment table.segments) + last_used table.segments < length c → get_or c (place_of table.settings.segment (last_segment table.segments) + last_used table.segments) 0 ≡ 79
        → IsShown (grown table (length w.text)) floor (with_last parts w) c
    shows_new inside is = record {
      value = value_same c d (Some (manifest_text (manifest_of table floor))) (both_same d c (cells_same d c by)).manifest shown.value
          ∙ ap (λ (l : List Live). Some (manifest_text (record { settings = table.settings; next_generation = table.next_generation; floor = floor; live = l }))) (sym (lives_of-with_more table.segments (length w.text)));
      fronts = fronts_open table.settings.segment rest w d c whole table.segments parts apart good.fit room inside by is shown.fronts;
    }

    its_joined : joined (with_last parts w) ≡ joined parts ++ w ∷ []
    its_joined = joined-with_last table.segments parts w some sized

    its_entries : entries_of (joined (with_last parts w)) ≡ entries_of (joined parts) ++ w.entry ∷ []
    its_entries = ap entries_of its_joined ∙ entries_of-append (joined parts) (w ∷ [])

    pub still_rises : RisesFrom 0 (joined (with_last parts w))
    still_rises = subst (λ (l : List Written). RisesFrom 0 l) (sym its_joined) (RisesFrom-one 0 (joined parts) w rises (omega (arith, ends, next)))

    pub still_ends : table.end + 1 ≡ max floor (next_after 0 (joined (with_last parts w)))
    still_ends = omega (arith, ends, next, ap (λ (l : List Written). next_after 0 l) its_joined, next_after-one 0 (joined parts) w)

    pub puts_last : place_of table.settings.segment (last_segment table.segments) + last_used table.segments < length c → PutsLast table.settings (last_segment table.segments) (entries_of (joined parts)) table.end w.entry d c
    puts_last inside = record {
      changes = write_in table.settings.segment (last_segment table.segments) (last_used table.segments) (length rest + 1) d c (omega (arith, room, long_rest table.settings.segment rest w d c whole)) by.torn;
      stands = ⊎_elim
          (λ (is : get_or c (place_of table.settings.segment (last_segment table.segments) + last_used table.segments) 0 ≡ 79). inr (inl (subst (λ (l : List Record). HasLog table.settings c l (table.end + 1)) its_entries
          (shown_stands (grown table (length w.text)) floor (with_last parts w) c (still_table table (length w.text) below room good) (sized-with_last table.segments parts w fields sized) still_rises still_ends (shows_new inside is)))))
          (λ (shut : get_or c (place_of table.settings.segment (last_segment table.segments) + last_used table.segments) 0 ≢ 79). inl (inl (shown_stands table floor parts c good sized rises ends (shows_old shut))))
          (cases_eq (get_or c (place_of table.settings.segment (last_segment table.segments) + last_used table.segments) 0) 79);
    }

  module _ (old new : Content) (placed : List Placed) (log : IsLog table old placed) (inside : place_of table.settings.segment (last_segment table.segments) + last_used table.segments < length old.seen)
      (opens : ChangesBy (OpensGate (place_of table.settings.segment (last_segment table.segments) + last_used table.segments) rest) old new) where
    inside_image : (d c : List ℕ) → old.images d → OpensGate (place_of table.settings.segment (last_segment table.segments) + last_used table.segments) rest d c → place_of table.settings.segment (last_segment table.segments) + last_used table.segments < length c
    inside_image d c image by = omega (arith, inside, by.torn.size, old.same_size d image)

    pub appending : ChangesBy (PutsLast table.settings (last_segment table.segments) (records_of placed) table.end w.entry) old new
    appending = widen (OpensGate gate rest) (PutsLast table.settings (last_segment table.segments) (records_of placed) table.end w.entry) old new opens (λ d c image by.
        subst (λ (l : List Record). PutsLast table.settings (last_segment table.segments) l table.end w.entry d c) (sym (its_records table log.parts placed log.sized log.all))
        (puts_last log.floor log.parts log.sized log.rises log.ends d c by (log.shown d image) (inside_image d c image by)))

    pub appended : get_or new.seen (place_of table.settings.segment (last_segment table.segments) + last_used table.segments) 0 ≡ 79 → Only new
        → IsLog (grown table (length w.text)) new (placed ++ record { entry = w.entry; text = w.text; place = place_of table.settings.segment (last_segment table.segments) + last_used table.segments } ∷ [])
    appended is only =
        let from = image_from (OpensGate gate rest) old new opens new.seen new.sees in
        let shown = shows_new log.floor log.parts log.sized log.rises log.ends from.0 new.seen from.2 (log.shown from.0 from.1) (inside_image from.0 new.seen from.1 from.2) is in
        let cells = both_same old.seen new.seen (cells_same from.0 new.seen from.2 ∙ log.settled from.0 from.1) in
        record {
          floor = log.floor;
          parts = with_last log.parts w;
          sized = sized-with_last table.segments log.parts w fields log.sized;
          all = ap (λ (l : List Placed). l ++ record { entry = w.entry; text = w.text; place = gate } ∷ []) log.all ∙ sym (placed-with_last table.settings.segment table.segments log.parts w some log.sized);
          rises = still_rises log.floor log.parts log.sized log.rises log.ends from.0 new.seen from.2 (log.shown from.0 from.1);
          firsts = first-with_last table.segments log.parts w table.end next log.sized log.firsts;
          ends = still_ends log.floor log.parts log.sized log.rises log.ends from.0 new.seen from.2 (log.shown from.0 from.1);
          shown = λ c image. subst (λ (l : List ℕ). IsShown (grown table (length w.text)) log.floor (with_last log.parts w) l) (sym (only c image)) shown;
          loaded = loaded_same 0 table.slots old.seen new.seen good.base cells.manifest log.loaded;
          tokens = loaded_same 2048 table.tokens old.seen new.seen good.tokens.base cells.tokens log.tokens;
          settled = λ c image. ap (range 0 4096) (only c image);
        }
