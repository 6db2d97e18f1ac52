-- What reads found is what replicas hold: nothing that was held is missing, and nothing that was gone is read.
use Rattle.std.proofs.Common.{◌≡◌, ℕ, ◌+◌, ◌<◌, ◌≤◌, ◌⊎◌, nat_le, Bool, true, false, [], ◌∷◌, Option, Some, None, refl, sym, ap, ◌∙◌, subst, inl, inr, arith}
use Rattle.std.proofs.lemmas.Bool.Decides.{nat_tests}
use Rattle.blob_id.specs.declared.blob.Blob.{Blob}
use Rattle.blob_id.specs.declared.id.BlobId.{BlobId}
use Rattle.cell_model.specs.declared.cell.Cell.{Cell}
use Rattle.cell_model.specs.declared.cell.Cell.TheVariants.{Absent, Held, Gone}
use Rattle.cell_model.specs.Cells.{AtMost}
use Rattle.quorum_op.specs.declared.cause.Finding.{Finding}
use Rattle.quorum_op.specs.declared.cause.Verdict.{Verdict}
use Rattle.quorum_op.specs.declared.outcome.Outcome.{Outcome}
use Rattle.quorum_op.specs.Tally
use Rattle.quorum_op.specs.Tally.{standing, standing_so, is_absent, is_found, is_failed}
use Rattle.req_frame.specs.declared.frame.Body.{Body}
use Rattle.world_model.specs.declared.history.Begun.{Begun}
use Rattle.world_model.specs.declared.history.HistoryMark.TheVariants.{End}
use Rattle.world_model.specs.declared.shape.Shape.{Shape}
use Rattle.world_model.specs.Lists.{Has, Earlier, Each}
use Rattle.world_model.specs.Notes.{Aim, Learnt, ends_of, verdict_of, map_notes}
use Rattle.world_model.specs.Outcomes.{BeganAt, read_piece, IsPartOf}
use Rattle.world_model.specs.Pieces.{listed}
use Rattle.world_model.specs.Record.{Part, Top, Chunk, Item, Marked, Drawn, Record}
use Rattle.world_model.specs.Router.{MaySend, MayRead, AsksFor, Keeps, IsKept}
use Rattle.world_model.specs.Rules.{Rules}
use Rattle.world_model.specs.Safe.{DrawsNew, is_held, is_gone, replicas_so, is_ok_read, ReadsId, StaysDeleted, StaysGone, StaysFound}
use Rattle.world_model.specs.World.{Cells, world, Run}
use Rattle.world_model.proofs.CellLaws.{held_rises, gone_rises}
use Rattle.world_model.proofs.KeptLaws.{stored_kept, removed_kept}
use Rattle.world_model.proofs.ListLaws.{at_has, count_more, count_overlap, each_earlier, each_from, earlier_tail, earlier_trans, has_later}
use Rattle.world_model.proofs.RouterLaws.{began_once, drawn_once, end_decided, ended_in, missing_follows, ok_follows, put_follows, same_read}
use Rattle.world_model.proofs.StoredLaws.{brought_stored, new_earlier}
use Rattle.world_model.proofs.TallyLaws.{ended_so, absent_is, found_is, get_ok, get_not_found}
use Rattle.world_model.proofs.WitnessLaws.{cell_at, read_noted, get_learns, peek_learns}
use Rattle.world_model.proofs.WorldLaws.{rises, run_earlier}

-- what a read noted was so behind its operation's beginning
record ReadBehind (shape : Shape) (opening : Cells) (began : Record) (id : BlobId) (replica : ℕ) (finding : Finding) : Type 0 where
  cell : Cell
  rises' : AtMost (cell_at shape (world opening began).cells id replica) cell
  learns : ((blob : Option Blob) × (get_learns cell ≡ record { finding = finding; blob = blob })) ⊎ ((blob : Option Blob) × (peek_learns cell ≡ record { finding = finding; blob = blob }))

-- a read that may be sent is for a part of what its operation names
read_may : (shape : Shape) (before : Record) (operation : ℕ) (aim : Option Aim) (id : BlobId) (body : Body) → (body ≡ Body.Get id) ⊎ (body ≡ Body.Peek id) → MaySend shape before operation aim body → (part : Part) × MayRead shape before operation part id
read_may shape before operation None id body b m = absurd (elim b [
  | inl e ↦ subst (λ (q : Body). MaySend shape before operation None q) e m
  | inr e ↦ subst (λ (q : Body). MaySend shape before operation None q) e m
])
read_may shape before operation (Some aim) id body b m = (
  aim.part,
  elim b [
    | inl e ↦ (subst (λ (q : Body). MaySend shape before operation (Some aim) q) e m).1
    | inr e ↦ (subst (λ (q : Body). MaySend shape before operation (Some aim) q) e m).1
  ],
)

read_behind : (rules : Rules) (opening : Cells) (d : Record) (operation : ℕ) (part : Part) (id : BlobId) (begun : Begun) (began : Record) (replica : ℕ) (finding : Finding) → Run opening d → IsKept rules d
    → BeganAt d operation begun began → is_failed (Some finding) ≡ false → standing (map_notes (ends_of rules.shape (read_piece operation part id) d)) replica ≡ Some finding
    → ReadBehind rules.shape opening began id replica finding
read_behind rules opening d operation part id begun began replica finding run kept b sure stands =
    let e = ended_so rules.shape (read_piece operation part id) d replica finding stands in
    let r = read_noted rules opening d operation part id e.ended run kept e.has (ap (λ (k : Finding). is_failed (Some k)) e.finding_is ∙ sure) e.fits in
    let body : (e.ended.asked.body ≡ Body.Get id) ⊎ (e.ended.asked.body ≡ Body.Peek id) = elim r.reads [ inl x ↦ inl x.0 | inr x ↦ inr x.0 ] in
    let m = read_may rules.shape r.sends.then operation e.ended.asked.aim id e.ended.asked.body body (subst (λ (o : ℕ). MaySend rules.shape r.sends.then o e.ended.asked.aim e.ended.asked.body) r.same_operation r.sends.may) in
    let asks : AsksFor rules.shape r.sends.then operation m.1.top = m.1.asks in
    let sent : Earlier r.sends.then d = earlier_trans r.sends.then r.then d r.sends.at r.at in
    let once : asks.then ≡ began = (began_once rules d operation asks.begun begun asks.then began kept (earlier_trans _ r.sends.then d asks.began sent) b).1 in
    let behind : Earlier began r.then = earlier_trans began r.sends.then r.then (subst (λ (w : Record). Earlier w r.sends.then) once (earlier_tail _ asks.then r.sends.then asks.began)) r.sends.at in
    record {
      cell = r.cell;
      rises' = subst (λ (c : Cell). AtMost (cell_at rules.shape (world opening began).cells id replica) c) (ap (λ (k : ℕ). cell_at rules.shape (world opening r.then).cells id k) (sym e.replica_is) ∙ r.is)
          (rises opening began r.then _ _ id behind);
      learns = elim r.reads [
        | inl x ↦ inl (e.ended.blob, x.1 ∙ ap (λ (k : Finding). record { finding = k; blob = e.ended.blob }) e.finding_is)
        | inr x ↦ inr (e.ended.blob, x.1 ∙ ap (λ (k : Finding). record { finding = k; blob = e.ended.blob }) e.finding_is)
      ];
    }

-- what was held isn't found absent
held_not_absent : (a c : Cell) → AtMost a c → is_held a ≡ true
    → ((blob : Option Blob) × (get_learns c ≡ record { finding = Finding.Absent; blob = blob })) ⊎ ((blob : Option Blob) × (peek_learns c ≡ record { finding = Finding.Absent; blob = blob })) → ⊥
held_not_absent a Absent m h l = let k : is_held Absent ≡ true = held_rises a Absent m h in cc
held_not_absent a (Held b) m h l = elim l [ inl x ↦ cc (ap (λ (w : Learnt). w.finding) x.1) | inr x ↦ cc (ap (λ (w : Learnt). w.finding) x.1) ]
held_not_absent a Gone m h l = elim l [ inl x ↦ cc (ap (λ (w : Learnt). w.finding) x.1) | inr x ↦ cc (ap (λ (w : Learnt). w.finding) x.1) ]

-- what was gone is found gone
gone_not_found : (a c : Cell) (finding : Finding) → AtMost a c → is_gone a ≡ true → Tally.is_gone (Some finding) ≡ false
    → ((blob : Option Blob) × (get_learns c ≡ record { finding = finding; blob = blob })) ⊎ ((blob : Option Blob) × (peek_learns c ≡ record { finding = finding; blob = blob })) → ⊥
gone_not_found a Absent finding m h f l = let k : is_gone Absent ≡ true = gone_rises a Absent m h in cc
gone_not_found a (Held b) finding m h f l = let k : is_gone (Held b) ≡ true = gone_rises a (Held b) m h in cc
gone_not_found a Gone finding m h f l =
    let is : Finding.Gone ≡ finding = elim l [ inl x ↦ ap (λ (w : Learnt). w.finding) x.1 | inr x ↦ ap (λ (w : Learnt). w.finding) x.1 ] in
    let t : Tally.is_gone (Some finding) ≡ true = ap (λ (k : Finding). Tally.is_gone (Some k)) (sym is) in
    cc

-- a part of what was read is a part of what the put drew
part_drawn : (rules : Rules) (opening : Cells) (d began : Record) (operation earlier attempt : ℕ) (top id : BlobId) (blob : Blob) (part : Part) (piece : BlobId) → Run opening d → IsKept rules d → DrawsNew opening d → Earlier began d → top ≡ id
    → Has began (Drawn earlier Top attempt id blob) → IsPartOf rules.shape d operation top part piece → (piece ≡ id) ⊎ Has (listed id blob) piece
part_drawn rules opening d began operation earlier attempt top id blob Top piece run kept new e same drew p = inl (p ∙ same)
part_drawn rules opening d began operation earlier attempt top id blob (Chunk k) piece run kept new e same drew p =
    let drawn : Has d (Drawn earlier Top attempt top blob) = subst (λ (i : BlobId). Has d (Drawn earlier Top attempt i blob)) (sym same) (has_later began d _ e drew) in
    let is : p.blob ≡ blob = elim (brought_stored rules opening d operation Top top p.blob run kept p.read.1) [
      | inl w ↦ (let q = drawn_once d w.0 earlier w.1 Top w.2 attempt top p.blob blob new.once w.3 drawn in cc q)
      | inr w ↦ absurd (let q : Absent ≡ Held p.blob = sym (new.cells top (earlier, Top, attempt, blob, drawn) w.0 w.1) ∙ w.2 in cc q)
    ] in
    inr (subst (λ (i : BlobId). Has (listed i blob) piece) same (subst (λ (w : Blob). Has (listed top w) piece) is (at_has _ k piece p.at)))

-- no get or info begun after an ok of a put ends as not found or missing
pub found_law : (rules : Rules) (opening : Cells) (record' : Record) → Run opening record' → IsKept rules record' → DrawsNew opening record' → rules.shape.replicas < rules.shape.get + rules.shape.put → Each StaysFound record'
found_law rules opening record' run kept new over = each_from StaysFound record' at
  where
    missing : (before : Record) (operation : ℕ) (outcome : Outcome) → Earlier (Marked (End operation outcome) ∷ before) record' → StaysFound (Marked (End operation outcome)) before
    missing before operation outcome e o begun id began earlier b reads stored =
        let back : Earlier before record' = earlier_tail _ before record' e in
        let k : IsKept rules before = each_earlier (Keeps rules) record' before kept back in
        let d = end_decided rules record' before operation outcome kept e in
        let f = missing_follows rules d.then operation d.begun outcome o d.follows in
        let to : Earlier d.then before = earlier_tail _ d.then before d.at in
        let once = began_once rules before operation d.begun begun d.began.0 began k (earlier_trans _ d.then before d.began.1 to) b in
        let id_is : f.top ≡ id = same_read begun f.top id (subst (λ (w : Begun). ReadsId w f.top) once.0 f.reads) reads in
        let b' : BeganAt d.then operation begun began = subst (λ (w : Begun). BeganAt d.then operation w began) once.0 (subst (λ (w : Record). BeganAt d.then operation d.begun w) once.1 d.began.1) in
        let d_back : Earlier d.then record' = earlier_trans d.then before record' to back in
        let d_run : Run opening d.then = run_earlier opening record' d.then run d_back in
        let d_kept : IsKept rules d.then = each_earlier (Keeps rules) before d.then k to in
        let b_back : Earlier began d.then = earlier_tail _ began d.then b' in
        let b_kept : IsKept rules began = each_earlier (Keeps rules) d.then began d_kept b_back in
        let put = ended_in rules began earlier (Outcome.Put id) b_kept stored in
        let drew = put_follows rules put.then earlier put.begun id put.follows in
        let drew' : Has began (Drawn earlier Top drew.0 id drew.1) = has_later put.then began _ (earlier_tail _ put.then began put.at) drew.2 in
        let part = part_drawn rules opening d.then began operation earlier drew.0 f.top id drew.1 f.part f.id d_run d_kept (new_earlier opening d.then record' d_back new) b_back id_is drew' f.is in
        let notes = map_notes (ends_of rules.shape (read_piece operation f.part f.id) d.then) in
        let absent : rules.shape.get ≤ standing_so rules.shape.replicas notes is_absent = get_not_found rules.shape.replicas rules.shape.get notes f.verdict in
        let held = stored_kept rules opening began (run_earlier opening d.then began d_run b_back) b_kept earlier drew.0 id drew.1 f.id stored drew' part in
        let both = count_overlap rules.shape.replicas (λ r. is_absent (standing notes r)) (λ r. is_held (cell_at rules.shape (world opening began).cells f.id r)) (omega (arith, absent, held, over)) in
        let r = read_behind rules opening d.then operation f.part f.id begun began both.0 Finding.Absent d_run d_kept b' refl (absent_is _ both.2) in
        held_not_absent _ r.cell r.rises' both.3 r.learns

    at : (item : Item) (before : Record) → Earlier (item ∷ before) record' → StaysFound item before
    at (Marked (End operation outcome)) before e = missing before operation outcome e
    at _ before e = tt

-- a get or info that ended ok found so many replicas, none of them gone when it began
ok_found : (rules : Rules) (opening : Cells) (record' before : Record) (operation : ℕ) (outcome : Outcome) → is_ok_read outcome ≡ true → Run opening record' → IsKept rules record' → Earlier (Marked (End operation outcome) ∷ before) record'
    → (begun : Begun) (id : BlobId) (began : Record) → BeganAt before operation begun began → ReadsId begun id → rules.shape.replicas < replicas_so rules.shape (world opening began).cells id is_gone + rules.shape.get → ⊥
ok_found rules opening record' before operation outcome o run kept e begun id began b reads over =
    let back : Earlier before record' = earlier_tail _ before record' e in
    let k : IsKept rules before = each_earlier (Keeps rules) record' before kept back in
    let d = end_decided rules record' before operation outcome kept e in
    let f = ok_follows rules d.then operation d.begun outcome o d.follows in
    let to : Earlier d.then before = earlier_tail _ d.then before d.at in
    let once = began_once rules before operation d.begun begun d.began.0 began k (earlier_trans _ d.then before d.began.1 to) b in
    let id_is : f.0 ≡ id = same_read begun f.0 id (subst (λ (w : Begun). ReadsId w f.0) once.0 f.1) reads in
    let b' : BeganAt d.then operation begun began = subst (λ (w : Begun). BeganAt d.then operation w began) once.0 (subst (λ (w : Record). BeganAt d.then operation d.begun w) once.1 d.began.1) in
    let v : verdict_of rules.shape (read_piece operation Top id) d.then ≡ Verdict.Ok = subst (λ (i : BlobId). verdict_of rules.shape (read_piece operation Top i) d.then ≡ Verdict.Ok) id_is f.2 in
    let notes = map_notes (ends_of rules.shape (read_piece operation Top id) d.then) in
    let found : rules.shape.get ≤ standing_so rules.shape.replicas notes is_found = get_ok rules.shape.replicas rules.shape.get notes v in
    let both = count_overlap rules.shape.replicas (λ r. is_found (standing notes r)) (λ r. is_gone (cell_at rules.shape (world opening began).cells id r)) (omega (arith, found, over)) in
    let s = found_is _ both.2 in
    let r = read_behind rules opening d.then operation Top id begun began both.0 s.0 (run_earlier opening record' d.then run (earlier_trans d.then before record' to back)) (each_earlier (Keeps rules) before d.then k to) b' s.2 s.1 in
    gone_not_found _ r.cell s.0 r.rises' both.3 s.3 r.learns

pub deleted_law : (rules : Rules) (opening : Cells) (record' : Record) → Run opening record' → IsKept rules record' → rules.shape.replicas < rules.shape.get + rules.shape.delete → Each StaysDeleted record'
deleted_law rules opening record' run kept over = each_from StaysDeleted record' at
  where
    ok : (before : Record) (operation : ℕ) (outcome : Outcome) → Earlier (Marked (End operation outcome) ∷ before) record' → StaysDeleted (Marked (End operation outcome)) before
    ok before operation outcome e o begun id began earlier b reads started removed =
        let back : Earlier before record' = earlier_tail _ before record' e in
        let b_back : Earlier began record' = earlier_trans began before record' (earlier_tail _ began before b) back in
        let gone = removed_kept rules opening began (run_earlier opening record' began run b_back) (each_earlier (Keeps rules) record' began kept b_back) earlier id started removed in
        ok_found rules opening record' before operation outcome o run kept e begun id began b reads (omega (arith, gone, over))

    at : (item : Item) (before : Record) → Earlier (item ∷ before) record' → StaysDeleted item before
    at (Marked (End operation outcome)) before e = ok before operation outcome e
    at _ before e = tt

earlier_start : (record' : Record) → Earlier [] record'
earlier_start [] = refl
earlier_start (item ∷ before) = inr (earlier_start before)

gone_more : (rules : Rules) (opening : Cells) (record' : Record) (id : BlobId) → replicas_so rules.shape opening id is_gone ≤ replicas_so rules.shape (world opening record').cells id is_gone
gone_more rules opening record' id =
    count_more rules.shape.replicas (λ r. is_gone (cell_at rules.shape opening id r)) (λ r. is_gone (cell_at rules.shape (world opening record').cells id r))
    (λ r g. gone_rises _ _ (rises opening [] record' _ _ id (earlier_start record')) g)

not_over : (a b : ℕ) → (b < a → ⊥) → a ≤ b
not_over a b f = go (nat_le a b) refl
  where
    go : (t : Bool) → nat_le a b ≡ t → a ≤ b
    go true e = grind (arith, nat_tests)
    go false e = absurd (f (grind (arith, nat_tests)))

pub gone_law : (rules : Rules) (opening : Cells) (record' : Record) → Run opening record' → IsKept rules record' → Each (StaysGone rules.shape opening) record'
gone_law rules opening record' run kept = each_from (StaysGone rules.shape opening) record' at
  where
    ok : (before : Record) (operation : ℕ) (outcome : Outcome) → Earlier (Marked (End operation outcome) ∷ before) record' → StaysGone rules.shape opening (Marked (End operation outcome)) before
    ok before operation outcome e o begun id b reads = not_over _ _ (λ over. ok_found rules opening record' before operation outcome o run kept e begun id b.0 b.1 reads (omega (arith, over, gone_more rules opening b.0 id)))

    at : (item : Item) (before : Record) → Earlier (item ∷ before) record' → StaysGone rules.shape opening item before
    at (Marked (End operation outcome)) before e = ok before operation outcome e
    at _ before e = tt
